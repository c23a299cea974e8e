use Rattle.std.proofs.Common.{◌≡◌, ◌+◌, ◌<◌, ◌^◌, List, ◌++◌, ◌∷◌, [], length, map, take, drop, sym, ap, subst, ◌∙◌, arith, rules}
use Rattle.std.specs.List.{flat_map}
use Rattle.aux_tables.specs.ModuleTables.{tables_of}
use Rattle.gt_model.specs.declared.modules.Section.{Section}
use Rattle.new_modules.proofs.Shares.{kept_flat, mapped_more, share_here, share_next, share_room}
use Rattle.new_modules.specs.Shares.{share}
use Rattle.rewrite.specs.Rewritten.{new_section}
use Rattle.sym_expr.specs.declared.program.Program.{Program}
use Rattle.sym_expr.specs.Modules.{is_loaded}
use Rattle.sym_expr.specs.Program.{section_stretches}
use Rattle.new_modules.proofs.sections.sections_of.Goals as goal

pub new_section-requires-clause-entry : goal.new_section-requires-clause-entry
new_section-requires-clause-entry c = ap (λ (g : Program). g.entry.block) c.requires.program

pub new_section-requires-clause-here : goal.new_section-requires-clause-here
new_section-requires-clause-here c =
    let m = c.args.inserts.now.module.now in
    let t = tables_of m in
    let p = c.args.inserts.now.patches.now in
    let f = share m t p in
    let items = c.as_slice-section-items.result.now in
    let k = c.loop-section.section-index in
    let x = c.section-item.result in
    let all = c.args.program.now.stretches in
    let whole : all ≡ flat_map f items = ap (λ (g : Program). g.stretches) c.requires.program ∙ kept_flat (section_stretches m t p) is_loaded m.sections ∙ ap (flat_map f) (sym c.as_slice-section-items.ensures) in
    ap (λ n. take (length (f x)) (drop n all)) c.loop-section.invariant.at ∙ share_here f all items k x whole c.loop-section-test.true c.section-item.is

pub share_size-at-requires-clause-few : goal.share_size-at-requires-clause-few
share_size-at-requires-clause-few c =
    let m = c.args.inserts.now.module.now in
    let t = tables_of m in
    let p = c.args.inserts.now.patches.now in
    let f = share m t p in
    let items = c.as_slice-section-items.result.now in
    let k = c.loop-section.section-index in
    let x = c.section-item.result in
    let all = c.args.program.now.stretches in
    let whole : all ≡ flat_map f items = ap (λ (g : Program). g.stretches) c.requires.program ∙ kept_flat (section_stretches m t p) is_loaded m.sections ∙ ap (flat_map f) (sym c.as_slice-section-items.ensures) in
    let room = share_room f all items k x whole c.loop-section-test.true c.section-item.is in
    omega (arith, room, c.requires.well.count)

pub overflow_add-at : goal.overflow_add-at
overflow_add-at c =
    let m = c.args.inserts.now.module.now in
    let t = tables_of m in
    let p = c.args.inserts.now.patches.now in
    let f = share m t p in
    let items = c.as_slice-section-items.result.now in
    let k = c.loop-section.section-index in
    let x = c.section-item.result in
    let all = c.args.program.now.stretches in
    let whole : all ≡ flat_map f items = ap (λ (g : Program). g.stretches) c.requires.program ∙ kept_flat (section_stretches m t p) is_loaded m.sections ∙ ap (flat_map f) (sym c.as_slice-section-items.ensures) in
    let room = share_room f all items k x whole c.loop-section-test.true c.section-item.is in
    let fits : c.loop-section.at + c.share_size-at.result < 2 ^ 64 = omega (arith, room, c.requires.well.count, c.loop-section.invariant.at, c.share_size-at.ensures) in
    search rules

pub loop-section-preserved : goal.loop-section-preserved
loop-section-preserved c =
    let m = c.args.inserts.now.module.now in
    let t = tables_of m in
    let p = c.args.inserts.now.patches.now in
    let f = share m t p in
    let g = new_section m t p in
    let items = c.as_slice-section-items.result.now in
    let k = c.loop-section.section-index in
    let x = c.section-item.result in
    record {
      made = c.in_ok-push.ensures.items
          ∙ ap (λ (l : List Section). l ++ c.in_ok-made.made ∷ []) c.loop-section.invariant.made
          ∙ ap (λ (y : Section). map g (take k items) ++ y ∷ []) c.in_ok-made.ensures
          ∙ mapped_more g items k x c.loop-section-test.true c.section-item.is;
      at = let next = share_next f items k x c.loop-section-test.true c.section-item.is in omega (arith, next, c.loop-section.invariant.at, c.share_size-at.ensures);
    }
