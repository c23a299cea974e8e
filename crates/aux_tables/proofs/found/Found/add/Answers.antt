use Rattle.std.proofs.Common.{ℕ, List, [], ◌∷◌, ◌++◌, Option, ap, ◌∙◌}
use Rattle.std.specs.Option.{option_map, option_or}
use Rattle.aux_codec.specs.declared.value.Place.{Place}
use Rattle.aux_tables.specs.Found.{entries_of}
use Rattle.aux_tables.proofs.Finding.{found_more}
use Rattle.aux_tables.proofs.found.Found.add.Goals as goal

pub returns-clause-found : goal.returns-clause-found
returns-clause-found c =
    λ before is. found_more before c.args.table.now c.args.self.now (record { places = c.push.new.self; alignment = c.keep_first.new.kept; sizes = c.keep_first-2.new.kept }) is
    (c.in_ok-push.ensures.items ∙ ap (λ (o : Option (List Place)). c.args.self.now.places.items ++ o ∷ []) (c.in_ok-places_in.ensures ∙ c.in_ok-value.ensures.places))
    (c.keep_first.ensures ∙ ap (λ (o : Option (List (List ℕ × ℕ))). option_or (option_map entries_of c.args.self.now.alignment) o) c.in_ok-alignment.ensures)
    (c.keep_first-2.ensures ∙ ap (λ (o : Option (List ((List ℕ × ℕ) × ℕ))). option_or (option_map entries_of c.args.self.now.sizes) o) c.in_ok-sizes.ensures)
