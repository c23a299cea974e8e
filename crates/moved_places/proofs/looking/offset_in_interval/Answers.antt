use Rattle.std.proofs.Common.{ltb, sym, ap, ◌∙◌, Option}
use Rattle.std.specs.Option.{option_map_or}
use Rattle.moved_places.specs.declared.kept.PieceMoves.{PieceMoves}
use Rattle.moved_places.specs.Intervals.{offset_in}
use Rattle.moved_places.proofs.Lists.{found_passes}
use Rattle.moved_places.proofs.Pieces.{lt_from}
use Rattle.moved_places.proofs.looking.offset_in_interval.Goals as goal

pub offset_in-requires : goal.offset_in-requires
offset_in-requires c =
    let p = c.in-Some.piece.now in
    lt_from c.args.offset p.until (found_passes (λ (q : PieceMoves). ltb c.args.offset q.until) c.args.interval.now.pieces p (sym c.in-Some.ensures))

pub returns-in-Some : goal.returns-in-Some
returns-in-Some c =
    c.offset_in.ensures ∙ ap (λ (o : Option PieceMoves). option_map_or (offset_in c.args.offset) o c.args.interval.now.end) c.in-Some.ensures

pub returns-in-None : goal.returns-in-None
returns-in-None c = ap (λ (o : Option PieceMoves). option_map_or (offset_in c.args.offset) o c.args.interval.now.end) c.in-None.ensures
