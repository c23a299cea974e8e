-- A text of thirty-six bytes is read as an identifier in its hyphenated form.
use Rattle.std.proofs.Common.{◌≡◌, ◌↔◌, ℕ, List, length, Option, Some, None, Result, Ok, Err, IsOk, IfOk, refl, ◌∙◌}
use Rattle.std.specs.Result.{result_ok}
use Rattle.uuid.specs.Text.{parsed, parsed_hyphenated}

hyphenated : (word : List ℕ) → length word ≡ 36 → parsed word ≡ parsed_hyphenated word
hyphenated word e = rw e refl

abbrev failed : {E : Type 0} → E → Result (List ℕ) E
failed e = Err e

none_parsed : {E : Type 0} (e : E) (p : Option (List ℕ)) → ((u : List ℕ) → p ≡ Some u → IsOk (failed e)) → None ≡ p
none_parsed e None h = refl
none_parsed e (Some u) h = absurd (cc (h u refl))

-- what the reader of any form answers at such a length
pub read_hyphenated : {E : Type 0} (word : List ℕ) (r : Result (List ℕ) E) → length word ≡ 36 → (IsOk r ↔ ((u : List ℕ) × (parsed word ≡ Some u))) → IfOk r (λ u. Some u ≡ parsed word) → result_ok r ≡ parsed_hyphenated word
read_hyphenated word (Ok u) e ok bytes = bytes ∙ hyphenated word e
read_hyphenated word (Err f) e ok bytes = none_parsed f (parsed word) (λ u is. ok.1 (u, is)) ∙ hyphenated word e
