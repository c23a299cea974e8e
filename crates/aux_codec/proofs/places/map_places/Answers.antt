use Rattle.aux_codec.specs.Spelling.{HasType}
use Rattle.aux_codec.specs.Value.{value_of}
use Rattle.aux_codec.proofs.Kept.{type_kept}
use Rattle.aux_codec.proofs.places.map_places.Goals as goal

pub returns-clause-typed : goal.returns-clause-typed
returns-clause-typed g c t h = rw c.map_value.ensures.value (type_kept (g.P.Places.placed c.args.map.now) t (value_of c.args.value.now) c.requires.injective c.map_value.ensures.fit h)
