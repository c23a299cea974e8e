-- A list of keys and values as a map.
use Rattle.std.specs.Prelude.{Bool, List, find, Option}
use Rattle.std.specs.Option.{option_map}

-- the value of a key, by when keys are equal; of several entries of one key the first counts
abbrev pub value_at : {K V : Type 0} → (K → K → Bool) → K → List (K × V) → Option V
value_at {K} {V} eq key entries = option_map (λ (e : K × V). e.1) (find (λ (e : K × V). eq e.0 key) entries)
