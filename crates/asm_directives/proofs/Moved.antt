-- Answers of one reader as those of another.
use Rattle.std.proofs.Common.{◌≡◌, ◌⊎◌, ◌↔◌, ℕ, Bool, true, false, IsTrue, List, ◌∷◌, ◌++◌, Option, Some, None, Result, Ok, Err, refl, sym, ap, subst, ◌∙◌, inl, inr}
use Rattle.gr_base.specs.declared.end.End.{End}
use Rattle.gr_base.specs.declared.end.End.TheVariants as ends
use Rattle.asm_read.specs.declared.fault.TextReason.{TextReason}
use Rattle.asm_read.specs.declared.fault.TextReason.TheVariants as reasons
use Rattle.asm_lines.specs.Expressions.{Tells}
use Rattle.asm_directives.specs.Answers.{Answers, RefusedBy}

-- what serves in one place serves in the other
pub tells_of : (reason : TextReason) (P Q : Type 0) → (P → Q) → (Q → P) → Tells reason P → Tells reason Q
tells_of reasons.Number P Q f g h = f h
tells_of reasons.Syntax P Q f g h = λ q. h (g q)
tells_of reasons.LabelTwice P Q f g h = h
tells_of reasons.LabelUnknown P Q f g h = h
tells_of reasons.Directive P Q f g h = h

-- the same refusal, of what holds just where the other does
pub moved_end : {A B : Type 0} (P : A → Type 0) (Q : B → Type 0) (S T : Type 0) (end : End TextReason) → ((y : B) → Q y → (x : A) × P x) → (S → T) → (T → S) → RefusedBy P S end → RefusedBy Q T end
moved_end P Q S T ends.Memory g s t h = tt
moved_end P Q S T (ends.Fault reason) g s t h = (λ y q. let x = g y q in h.0 x.0 x.1, tells_of reason S T s t h.1)

-- the same answer
pub moved : {A : Type 0} (P Q : A → Type 0) (S T : Type 0) (r : Result A (End TextReason)) → ((x : A) → P x → Q x) → ((x : A) → Q x → P x) → (S → T) → (T → S) → Answers P S r → Answers Q T r
moved P Q S T (Ok x) f g s t h = f x h
moved P Q S T (Err end) f g s t h = moved_end P Q S T end (λ y q. (y, g y q)) s t h

-- a memory that ran out is no fault
pub no_fault : (e : End TextReason) {reason : TextReason} → e ≡ ends.Fault reason → e ≡ ends.Memory → ⊥
no_fault e fault memory = cc

-- a test that failed
pub fails : {P : Type 0} (b : Bool) → (IsTrue b ↔ P) → b ≡ false → P → ⊥
fails b h e p = let yes : b ≡ true = h.1 p in cc

pub heads : (a b : ℕ) (xs ys : List ℕ) → a ∷ xs ≡ b ∷ ys → a ≡ b
heads a b xs ys e = cc

pub tails : (a b : ℕ) (xs ys : List ℕ) → a ∷ xs ≡ b ∷ ys → xs ≡ ys
tails a b xs ys e = cc
