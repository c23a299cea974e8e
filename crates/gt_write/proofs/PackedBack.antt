-- A packed run that is written reads back.
use Rattle.std.proofs.Common.{◌≡◌, ℕ, ◌^◌, ◌<◌, None, List, [], ◌∷◌, map, refl}
use Rattle.std.specs.List.{AllByRecursion, flat_map}
use Rattle.pb_wire.specs.Varint.{shortest, varints}
use Rattle.gt_read.specs.Kinds.{packed}
use Rattle.gt_write.proofs.ReadingLaws.{ReadingLaws}

module _ (laws : ReadingLaws) {A : Type 0} (code : A → ℕ) where
  are_varints : (vs : List A) → AllByRecursion (λ v. code v < 2 ^ 64) vs → varints (flat_map (λ v. shortest (code v)) vs) (map code vs)
  are_varints [] fits = refl
  are_varints (v ∷ vs) fits = (shortest (code v), flat_map (λ v. shortest (code v)) vs, refl, laws.shortest_is (code v) fits.0, are_varints vs fits.1)

  pub packed_back : (vs : List A) → AllByRecursion (λ v. code v < 2 ^ 64) vs → packed (flat_map (λ v. shortest (code v)) vs) ≡ record { numbers = map code vs; failed = None }
  packed_back vs fits = laws.unpacked (flat_map (λ v. shortest (code v)) vs) (map code vs) (are_varints vs fits)
