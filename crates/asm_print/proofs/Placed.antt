-- The first line of a place.
use Rattle.std.proofs.Common.{◌≡◌, ℕ, Bool, true, false, cond, List, [], ◌++◌, Option, Some, None, refl, sym, ap, ◌∙◌, append-nil}
use Rattle.std.specs.Prelude.{◌&&◌, ◌==◌, unwrap_or}
use Rattle.std.specs.Str.{bytes_eq}
use Rattle.std.proofs.lemmas.Bool.{false≢true}
use Rattle.std.proofs.lemmas.Bool.Decides.{Decides-eqb}
use Rattle.std.proofs.lemmas.Slice.Eq.{bytes_eq-Decides}
use Rattle.asm_print.specs.Names.{same_place}

both : (x y : Bool) → x && y ≡ true → (x ≡ true) × (y ≡ true)
both true true h = (refl, refl)
both true false h = absurd (false≢true h)
both false y h = absurd (false≢true h)

pub one_place : (a b : List ℕ × ℕ) → same_place a b ≡ true → a ≡ b
one_place a b h =
    let parts = both (bytes_eq a.0 b.0) (a.1 == b.1) h in
    let interval = (bytes_eq-Decides a.0 b.0).0 parts.0 in
    let offset = (Decides-eqb a.1 b.1).0 parts.1 in
    ap (λ (i : List ℕ). (i, a.1)) interval ∙ ap (λ (n : ℕ). (b.0, n)) offset

pub first_line : (old new : Option (List ℕ)) (t : Bool) (line : List ℕ) → (t ≡ true → old ≡ None) → new ≡ cond t (Some line) old → unwrap_or new [] ≡ unwrap_or old [] ++ cond t line []
first_line old new true line none is = ap (λ (o : Option (List ℕ)). unwrap_or o []) is ∙ sym (ap (λ (o : Option (List ℕ)). unwrap_or o [] ++ line) (none refl))
first_line old new false line none is = ap (λ (o : Option (List ℕ)). unwrap_or o []) is ∙ sym (append-nil (unwrap_or old []))
