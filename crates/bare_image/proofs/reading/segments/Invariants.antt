use Rattle.std.proofs.Common.{◌≡◌, ◌≤◌, ◌-◌, ◌^◌}
use Rattle.bare_image.specs.Reading.{segments_at}
use Rattle.bare_image.proofs.Loop.{after}
use Rattle.bare_image.proofs.reading.segments.Given as goal

abbrev pub invariant-loop : goal.invariant-loop
invariant-loop l = record {
  reads : after l.segments (segments_at l.stack.at l.stack.size l.taken.end l.taken.loaded l.bytes (l.count - l.counter) l.place) ≡ segments_at l.stack.at l.stack.size 4096 l.stack.size l.bytes l.count l.fn.place;
  loaded : l.taken.loaded ≤ 2 ^ 24;
}
