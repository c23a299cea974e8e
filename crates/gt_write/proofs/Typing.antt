-- Signed numbers that fit their type, and one more element of a list.
use Rattle.std.proofs.Common.{ℕ, ◌+◌, ◌<◌, ℤ, pos, negsuc, List, [], ◌∷◌, length, get_or, take, sym, subst}
use Rattle.std.specs.List.{AllByRecursion}
use Rattle.std.proofs.lemmas.List.{take_more}
use mir.Syntax.{w32, w64}
use mir.Val.{SFits}
use Rattle.gt_model.specs.Typed.{IsI32, IsI64}
use Rattle.gt_write.proofs.Foreign.{all_append}

pub i32_fits : (z : ℤ) → SFits w32 z → IsI32 z
i32_fits (pos n) h = h.sfits
i32_fits (negsuc n) h = h.sfits

pub i64_fits : (z : ℤ) → SFits w64 z → IsI64 z
i64_fits (pos n) h = h.sfits
i64_fits (negsuc n) h = h.sfits

pub one_more : {A : Type 0} (P : A → Type 0) (xs : List A) (i : ℕ) (d : A) → i < length xs → AllByRecursion P (take i xs) → P (get_or xs i d) → AllByRecursion P (take (i + 1) xs)
one_more P xs i d lt all p = subst (AllByRecursion P) (sym (take_more xs i d lt)) (all_append P (take i xs) (get_or xs i d ∷ []) all (p, tt))
