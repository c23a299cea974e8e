use Rattle.std.proofs.Common.{◌≡◌, ◌<◌, ◌*◌, ◌^◌, ◌++◌, drop}
use Rattle.std.specs.List.{AllByRecursion}
use Rattle.aux_codec.specs.declared.value.Place.{Place}
use Rattle.moved_places.specs.Blocks.{own_places}
use Rattle.moved_places.proofs.blocks.push_words.Given as goal

abbrev pub invariant-loop-word : goal.invariant-loop-word
invariant-loop-word l = record {
  at : l.depth ≡ 4 * l.word-index;
  rest : l.places.items ++ own_places l.id l.depth (drop l.word-index l.words) ≡ l.initial.places.items ++ own_places l.id 0 l.words;
  near : AllByRecursion (λ (w : Place). w.offset < 2 ^ 62) l.initial.places.items → AllByRecursion (λ (w : Place). w.offset < 2 ^ 62) l.places.items;
}
