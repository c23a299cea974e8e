-- The addresses of labels, with one more.
use Rattle.std.proofs.Common.{◌≡◌, ℕ, true, false, ◌&&◌, cond, Some, None, String, List, inl, inr, sym, ap, ◌∙◌, nat_eq}
use Rattle.std.specs.HashMap.{HashMap, get, get_by_text}
use Rattle.std.specs.Map.{update}
use Rattle.std.specs.Option.{option_and_then}
use Rattle.std.specs.Str.{bytes_eq}
use Rattle.std.proofs.lemmas.Bool.{cases_Bool, cond-true, cond-false, eq-eqb, eqb-true, false_from_ne_true}
use Rattle.std.proofs.lemmas.Slice.Eq.{bytes_eq-Decides}
use Rattle.asm_link.specs.Kept.{kept_at}

same_bytes : (a b : List ℕ) → bytes_eq a b ≡ true → a ≡ b
same_bytes a b h = (bytes_eq-Decides a b).0 h

turned : (a b : List ℕ) → bytes_eq a b ≡ true → bytes_eq b a ≡ true
turned a b h = (bytes_eq-Decides b a).1 (sym (same_bytes a b h))

turned_apart : (a b : List ℕ) → bytes_eq a b ≡ false → bytes_eq b a ≡ false
turned_apart a b h = false_from_ne_true (bytes_eq b a) (λ k. let clash : true ≡ false = sym (turned b a k) ∙ h in cc)

turned_number : (a b : ℕ) → nat_eq a b ≡ true → nat_eq b a ≡ true
turned_number a b h = eq-eqb b a (sym (eqb-true a b h))

numbers_apart : (a b : ℕ) → nat_eq a b ≡ false → nat_eq b a ≡ false
numbers_apart a b h = false_from_ne_true (nat_eq b a) (λ k. let clash : true ≡ false = sym (turned_number b a k) ∙ h in cc)

numbers_turned : (a b : ℕ) → nat_eq a b ≡ nat_eq b a
numbers_turned a b =
    elim (cases_Bool (nat_eq a b)) [
      | inl same ↦ same ∙ sym (turned_number a b same)
      | inr apart ↦ apart ∙ sym (numbers_apart a b apart)
    ]

-- one ordinal more
pub address_added : {X S T : Type 0} (labels : HashMap (String X) (HashMap ℕ ℕ S) T) (name : List ℕ) (old new : HashMap ℕ ℕ S) (o at : ℕ) → get_by_text labels name ≡ Some old
    → ((k : ℕ) → get nat_eq new k ≡ cond (nat_eq o k) (Some at) (get nat_eq old k)) → (k : ℕ) → get nat_eq new k ≡ cond (nat_eq k o) (Some at) (kept_at labels name k)
address_added labels name old new o at there updates k =
    updates k
    ∙ ap (λ v. cond v (Some at) (get nat_eq old k)) (numbers_turned o k)
    ∙ sym (ap (λ found. cond (nat_eq k o) (Some at) (option_and_then (λ ordinals. get nat_eq ordinals k) found)) there)

-- the first ordinal of a name
pub address_first : {X S T : Type 0} (labels : HashMap (String X) (HashMap ℕ ℕ S) T) (name : List ℕ) (new : HashMap ℕ ℕ S) (o at : ℕ) → get_by_text labels name ≡ None
    → ((k : ℕ) → get nat_eq new k ≡ cond (nat_eq k o) (Some at) None) → (k : ℕ) → get nat_eq new k ≡ cond (nat_eq k o) (Some at) (kept_at labels name k)
address_first labels name new o at none is k =
    is k ∙ sym (ap (λ found. cond (nat_eq k o) (Some at) (option_and_then (λ ordinals. get nat_eq ordinals k) found)) none)

-- the addresses of all names, where those of one changed
pub addresses_changed : {X S T : Type 0} (old new : HashMap (String X) (HashMap ℕ ℕ S) T) (name : List ℕ) (w : HashMap ℕ ℕ S) (o at : ℕ)
    → ((q : List ℕ) → get_by_text new q ≡ update bytes_eq (get_by_text old) name (Some w) q)
    → ((k : ℕ) → get nat_eq w k ≡ cond (nat_eq k o) (Some at) (kept_at old name k))
    → (q : List ℕ) (k : ℕ) → kept_at new q k ≡ cond (bytes_eq q name && nat_eq k o) (Some at) (kept_at old q k)
addresses_changed old new name w o at updates changed q k =
    elim (cases_Bool (bytes_eq name q)) [
      | inl here ↦
          ap (λ found. option_and_then (λ ordinals. get nat_eq ordinals k) found) (updates q ∙ cond-true (bytes_eq name q) (Some w) (get_by_text old q) here)
          ∙ changed k
          ∙ ap (λ n. cond (nat_eq k o) (Some at) (kept_at old n k)) (same_bytes name q here)
          ∙ sym (ap (λ b. cond (b && nat_eq k o) (Some at) (kept_at old q k)) (turned name q here))
      | inr apart ↦
          ap (λ found. option_and_then (λ ordinals. get nat_eq ordinals k) found) (updates q ∙ cond-false (bytes_eq name q) (Some w) (get_by_text old q) apart)
          ∙ sym (ap (λ b. cond (b && nat_eq k o) (Some at) (kept_at old q k)) (turned_apart name q apart))
    ]
