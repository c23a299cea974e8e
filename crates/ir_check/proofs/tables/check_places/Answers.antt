use Rattle.std.proofs.Common.{◌≡◌, ◌<◌, List, length, Option, sym, ap, ◌∙◌, subst, arith}
use Rattle.std.specs.Str.{bytes_eq}
use Rattle.indexmap.specs.IndexMap.{get}
use Rattle.aux_codec.specs.declared.value.Place.{Place}
use Rattle.aux_tables.specs.Found.{places_held}
use Rattle.ir_check.specs.Outcomes.{Stops}
use Rattle.ir_check.specs.Part.{is_past_in}
use Rattle.ir_check.specs.TablesRead.{bad_place_in, bad_place_of}
use Rattle.ir_check.proofs.First.{none_item}
use Rattle.ir_check.proofs.Stopping.{stops_at, mapped_item}
use Rattle.ir_check.proofs.tables.check_places.Goals as goal

pub returns-in-Err : goal.returns-in-Err
returns-in-Err c =
    let past = is_past_in (get bytes_eq c.args.part.now.sizes) (get bytes_eq c.args.part.now.sites) in
    let table = c.index-tables-k.result in
    let within : c.loop-k.k < length c.args.tables.now = omega arith in
    let held : c.index-all-k.result ≡ places_held table = mapped_item places_held c.args.tables.now c.args.all.now c.loop-k.k table c.index-all-k.result c.requires within c.index-tables-k.is c.index-all-k.is in
    stops_at (bad_place_of past) c.args.tables.now c.loop-k.k table c.in-Err.end c.loop-k.invariant within c.index-tables-k.is
    (subst (λ (places : Option (List Place)). Stops c.in-Err.end (bad_place_in past table.name places)) held c.in-Err.ensures)

pub loop-k-preserved : goal.loop-k-preserved
loop-k-preserved c =
    let past = is_past_in (get bytes_eq c.args.part.now.sizes) (get bytes_eq c.args.part.now.sites) in
    let table = c.index-tables-k.result in
    let within : c.loop-k.k < length c.args.tables.now = omega arith in
    let held : c.index-all-k.result ≡ places_held table = mapped_item places_held c.args.tables.now c.args.all.now c.loop-k.k table c.index-all-k.result c.requires within c.index-tables-k.is c.index-all-k.is in
    none_item (bad_place_of past) c.args.tables.now c.loop-k.k table c.loop-k.invariant within c.index-tables-k.is (sym c.in_default.ensures.0 ∙ ap (bad_place_in past table.name) held)
