use Rattle.std.proofs.Common.{refl}
use Rattle.std.specs.Str.{bytes_eq}
use Rattle.indexmap.specs.IndexMap.{get}
use Rattle.moved_places.specs.Intervals.{offset_kept}
use Rattle.moved_places.proofs.Indexing.{added}
use Rattle.moved_places.proofs.Lists.{on_ok}
use Rattle.rewrite.specs.Offsets.{new_offset}
use Rattle.sym_expr.specs.declared.program.Stretch.{Stretch}
use Rattle.moved_places.proofs.index.add_interval.Goals as goal

pub returns : goal.returns
returns c =
    let s = c.args.stretch.now in
    on_ok c.add_first.result (λ put q. added offset_kept new_offset (λ (x : Stretch). bytes_eq x.id q) s c.in_ok-moves.moves (get bytes_eq c.args.intervals.now q) (get bytes_eq c.add_first.new.map q) (bytes_eq s.id q) refl c.in_ok-moves.ensures (put q)) c.add_first.ensures
