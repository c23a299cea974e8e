use Rattle.std.proofs.Common.{◌≡◌, take, None}
use Rattle.std.specs.Str.{bytes_eq}
use Rattle.indexmap.specs.IndexMap.{get}
use Rattle.ir_check.specs.Part.{is_past_in}
use Rattle.ir_check.specs.Spans.{first_in}
use Rattle.ir_check.specs.TablesRead.{bad_place_of}
use Rattle.ir_check.proofs.tables.check_places.Given as goal

abbrev pub invariant-loop-k : goal.invariant-loop-k
invariant-loop-k l = first_in (bad_place_of (is_past_in (get bytes_eq l.part.sizes) (get bytes_eq l.part.sites))) (take l.k l.tables) ≡ None
