use Rattle.std.proofs.Common.{List, ap, ◌∙◌}
use Rattle.std.specs.Option.{option_map}
use Rattle.std.specs.Str.{bytes_eq}
use Rattle.indexmap.specs.IndexMap.{get}
use Rattle.gt_model.specs.declared.symbols.Symbol.{Symbol}
use Rattle.sym_expr.specs.declared.patches.Function.{Function}
use Rattle.sym_expr.specs.declared.patches.Insert.{Insert}
use Rattle.module_program.specs.Cutting.{point_among}
use Rattle.module_program.specs.Inserting.{count_among}
use Rattle.module_program.specs.Naming.{count_at, count_in, loaded_block, symbol_base, symbol_of}
use Rattle.module_program.proofs.Sections.{bases_same}
use Rattle.module_program.proofs.context.Context.with_names.Goals as goal

pub returns-clause-known : goal.returns-clause-known
returns-clause-known c =
    let m = c.args.plain in
    let p = c.args.patches.now in
    let counts = c.in_ok-counts.counts in
    let blocks = c.in_ok-blocks.blocks in
    record {
      symbols = λ id.
          c.in_ok-symbols.ensures id
          ∙ ap (λ (ss : List Symbol). option_map (symbol_base (count_in counts) (get bytes_eq blocks)) (symbol_of id ss)) c.as_slice-listed.ensures
          ∙ bases_same (count_in counts) (count_at p) (get bytes_eq blocks) (loaded_block m) (symbol_of id m.symbols)
          (λ b o. c.in_ok-counts.ensures b o ∙ ap (λ (is : List Insert). count_among is b o) c.as_slice.ensures)
          (λ i. c.in_ok-blocks.ensures i);
      names = λ name. c.in_ok-names.ensures name ∙ ap (λ (fs : List Function). point_among m fs name) c.as_slice-2.ensures;
    }
