use Rattle.std.proofs.Common.{List, ◌++◌, take, sym, ap, ◌∙◌, append_assoc}
use Rattle.std.specs.List.{filter_map, flat_map}
use Rattle.sym_expr.specs.declared.program.Piece.{Piece}
use Rattle.sym_expr.specs.declared.program.Stretch.{Stretch}
use Rattle.sym_expr.specs.Points.{code_of}
use Rattle.taken_ids.specs.Identifiers.{part_ids}
use Rattle.taken_ids.proofs.Lists.{flat_kept_more}
use Rattle.taken_ids.proofs.derived.push_program.Goals as goal

abbrev pieces : Stretch → List Piece
pieces s = s.pieces

pub loop-stretch-preserved : goal.loop-stretch-preserved
loop-stretch-preserved c =
    let f = part_ids c.args.module.now in
    let items = c.as_slice-stretch-items.result.now in
    let i = c.loop-stretch.stretch-index in
    let x = c.stretch-item.result in
    let new = flat_map f (filter_map code_of x.pieces) in
    c.in_ok-push_stretch.ensures
    ∙ ap (λ l. l ++ new) c.loop-stretch.invariant
    ∙ append_assoc c.args.out.now.items (flat_map f (filter_map code_of (flat_map pieces (take i items)))) new
    ∙ ap (λ l. c.args.out.now.items ++ l) (sym (flat_kept_more f code_of pieces items i x c.loop-stretch-test.true c.stretch-item.is))
