use Rattle.std.proofs.Common.{◌≡◌, ◌++◌}
use Rattle.a64_forms.proofs.Pieces.{piece_none}
use Rattle.a64_forms.proofs.piece.read_piece.Goals as goal

pub returns-clause-none : goal.returns-clause-none
returns-clause-none c =
    let e : c.args.text.now ≡ c.args.row.0.now ++ c.in_ok-inside.inside.now ++ c.args.row.2.now = cc (c.in_ok-inside.ensures, c.as_bytes.ensures.value, c.as_bytes-2.ensures.value) in
    piece_none c.args.numbers c.args.row.0.now c.args.row.2.now c.args.text.now c.in_ok-inside.inside.now c.args.row.1 c.read_slot.result e c.read_slot.ensures.none
