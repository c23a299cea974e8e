-- The record of a value that is made by a function.
use Rattle.std.proofs.Common.{◌≡◌, ℕ, List, Option, Some, None, refl}
use Rattle.std.specs.Option.{option_map}
use Rattle.gt_write.specs.Spelling.{if_there}

pub if_there-map : {X Y : Type 0} (f : Y → List ℕ) (g : X → Y) (o : Option X) → if_there f (option_map g o) ≡ if_there (λ x. f (g x)) o
if_there-map f g None = refl
if_there-map f g (Some x) = refl
