use Rattle.std.proofs.Common.{ap, sym, subst, ◌∙◌}
use Rattle.aux_codec.specs.declared.value.Place.{Place}
use Rattle.aux_codec.specs.Places.{with_places, IsInjectiveOn}
use Rattle.aux_codec.specs.Value.{value_of}
use Rattle.new_tables.proofs.repair.new_value.Goals as goal

pub map_places-requires : goal.map_places-requires
map_places-requires c = record {
  injective = subst (λ (f : Place → Place). IsInjectiveOn f (value_of c.args.value)) (sym c.requires.ready.moves) (c.requires.apart (value_of c.args.value) c.requires.held);
}

pub put_functions-requires : goal.put_functions-requires
put_functions-requires c = record {
  ready = c.requires.ready;
  moved = record {
    there = c.requires.there;
    old = value_of c.args.value;
    held = c.requires.held;
    moved = c.map_places.ensures.value ∙ ap (λ (f : Place → Place). with_places f (value_of c.args.value)) c.requires.ready.moves;
    was = c.requires.typed;
    typed = λ shape is. c.map_places.ensures.typed shape (c.requires.typed shape is);
  };
}
