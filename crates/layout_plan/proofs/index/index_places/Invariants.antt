use Rattle.std.proofs.Common.{◌≡◌, ℕ, List, [], take, drop}
use Rattle.std.specs.Str.{bytes_eq}
use Rattle.indexmap.specs.IndexMap.{get}
use Rattle.sym_expr.specs.Layouts.{place_in}
use Rattle.layout_plan.specs.Faults.{repeated}
use Rattle.layout_plan.proofs.index.index_places.Given as goal

abbrev pub invariant-loop-place : goal.invariant-loop-place
invariant-loop-place l = record {
  held : (id : List ℕ) → get bytes_eq l.index id ≡ place_in (take l.place-index l.places) id;
  repeated : repeated (take l.place-index l.places) (drop l.place-index l.places) ≡ repeated [] l.places;
}
