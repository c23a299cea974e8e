use Rattle.std.proofs.Common.{ap, ◌∙◌}
use Rattle.std.specs.Option.{option_map}
use Rattle.std.proofs.lemmas.List.{length-map}
use Rattle.std.proofs.lemmas.List.Elements.{Contains-get_or}
use Rattle.std.proofs.lemmas.Option.{slice_get-get_or, slice_get-map}
use Rattle.node_arena.specs.Arenas.{no_module}
use Rattle.node_arena.specs.Plain.{plain_module}
use Rattle.node_arena.proofs.Lists.{In-map}
use Rattle.node_arena.proofs.laws.modules_are_at_their_ordinals.Goals as goal

pub returns-clause-count : goal.returns-clause-count
returns-clause-count c = λ g. length-map g.modules (plain_module g)

pub returns-clause-at : goal.returns-clause-at
returns-clause-at c = λ g id w. slice_get-map (plain_module g) g.modules id.index ∙ ap (option_map (plain_module g)) (slice_get-get_or g.modules id.index no_module w)

pub returns-clause-member : goal.returns-clause-member
returns-clause-member c = λ g id w. In-map (plain_module g) g.modules _ (Contains-get_or g.modules id.index no_module w)
