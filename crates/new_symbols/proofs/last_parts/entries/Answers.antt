use Rattle.std.proofs.Common.{List, ◌++◌, map, sym, ap, ◌∙◌}
use Rattle.std.specs.List.{filter_map}
use Rattle.sym_expr.specs.declared.program.Piece.{Piece}
use Rattle.sym_expr.specs.declared.program.Stretch.{Stretch}
use Rattle.sym_expr.specs.Points.{code_of}
use Rattle.new_symbols.specs.Entries.{last_entry}
use Rattle.new_symbols.proofs.Lists.{flat_kept_more}
use Rattle.new_symbols.proofs.last_parts.entries.Goals as goal

abbrev pieces : Stretch → List Piece
pieces s = s.pieces

pub loop-stretch-preserved : goal.loop-stretch-preserved
loop-stretch-preserved c =
    let f = last_entry c.args.module.now in
    let x = c.stretch-item.result in
    c.in_ok-push_stretch.ensures
    ∙ ap (λ l. l ++ map f (filter_map code_of x.pieces)) c.loop-stretch.invariant
    ∙ sym (flat_kept_more f code_of pieces c.as_slice-stretch-items.result.now c.loop-stretch.stretch-index x c.loop-stretch-test.true c.stretch-item.is)
