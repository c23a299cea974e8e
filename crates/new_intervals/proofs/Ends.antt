-- The rewritten interval, whatever the tables.
use Rattle.std.proofs.Common.{◌≡◌, true, false, List, ◌++◌, map, sym, ap, subst, ◌∙◌}
use Rattle.std.specs.Prelude.{if◌then◌else◌}
use Rattle.std.specs.List.{flat_map, list_any}
use Rattle.gt_model.specs.declared.exprs.Expr.{Expr}
use Rattle.gt_model.specs.declared.intervals.Block.{Block}
use Rattle.gt_model.specs.declared.intervals.Interval.{Interval}
use Rattle.new_intervals.specs.Inserting.{brought_by, is_grown}
use Rattle.new_intervals.specs.Knowing.{IsOfProgram, Knows}
use Rattle.new_intervals.specs.Whole.{stretched_by}
use Rattle.new_intervals.specs.declared.inserts.Inserts.{Inserts}
use Rattle.new_intervals.proofs.Members.{blocks_are}
use Rattle.new_intervals.proofs.News.{any_grown, of_pieces}
use Rattle.rewrite.specs.Contents.{new_contents}
use Rattle.rewrite.specs.Blocks.{new_blocks}
use Rattle.rewrite.specs.Exprs.{by_offset, moved_expr}
use Rattle.rewrite.specs.Rewritten.{new_interval, stretched}
use Rattle.sym_expr.specs.declared.program.Stretch.{Stretch}
use Rattle.sym_expr.specs.Placing.{placed, stretch_size}
use Rattle.sym_expr.specs.Program.{stretch}
use Rattle.sym_expr.specs.Tables.{Tables}

module _ (n : Inserts) (i : Interval) (known : Knows n) where
  -- no words are inserted
  pub same : (t : Tables) → list_any (is_grown n) i.blocks ≡ false → i ≡ new_interval n.module.now t n.patches.now i
  same t none =
      sym (ap (λ x. if x then stretched n.module.now n.patches.now i (stretch n.module.now t n.patches.now i) else i) (sym (any_grown n known i.blocks) ∙ none))

  by_pieces : (t : Tables) → let s = stretch n.module.now t n.patches.now i in IsOfProgram s → stretched_by n i s ≡ stretched n.module.now n.patches.now i s
  by_pieces t part =
      let s : Stretch = stretch n.module.now t n.patches.now i in
      let exprs : List Expr = by_offset (map (moved_expr s) i.exprs ++ flat_map (brought_by n) (placed s)) in
      ap (λ (bs : List Block). record i { blocks = bs; exprs = exprs; size = stretch_size s; contents = new_contents s }) (blocks_are n.module.now t n.patches.now i part)
      ∙ ap (λ l. record i { blocks = new_blocks n.module.now n.patches.now i s; exprs = by_offset (map (moved_expr s) i.exprs ++ l); size = stretch_size s; contents = new_contents s }) (of_pieces n known (placed s))

  -- some are
  pub grown : (s : Stretch) (made : Interval) → IsOfProgram s → made ≡ stretched_by n i s → list_any (is_grown n) i.blocks ≡ true
      → (t : Tables) → s ≡ stretch n.module.now t n.patches.now i → made ≡ new_interval n.module.now t n.patches.now i
  grown s made part is some t e =
      let now : Stretch = stretch n.module.now t n.patches.now i in
      is ∙ ap (stretched_by n i) e ∙ by_pieces t (subst IsOfProgram e part)
      ∙ sym (ap (λ x. if x then stretched n.module.now n.patches.now i now else i) (sym (any_grown n known i.blocks) ∙ some))
