-- Identifiers and ordinals, with one more.
use Rattle.std.proofs.Common.{◌≡◌, ℕ, ◌==◌, Bool, true, false, ◌&&◌, ◌||◌, cond, Some, None, String, List, inl, inr, refl, sym, ap, ◌∙◌, nat_eq}
use Rattle.std.specs.HashMap.{HashMap, get, get_by_text}
use Rattle.std.specs.Map.{update}
use Rattle.std.specs.Option.{is_some, option_map_or}
use Rattle.std.specs.Str.{bytes_eq}
use Rattle.std.proofs.lemmas.Bool.{cases_Bool, cond-true, cond-false, eq-eqb, eqb-true, false_from_ne_true, or_right}
use Rattle.std.proofs.lemmas.Slice.Eq.{bytes_eq-Decides}
use Rattle.asm_build.specs.Kept.{has_id, has_ordinal}

same_bytes : (a b : List ℕ) → bytes_eq a b ≡ true → a ≡ b
same_bytes a b h = (bytes_eq-Decides a b).0 h

turned : (a b : List ℕ) → bytes_eq a b ≡ true → bytes_eq b a ≡ true
turned a b h = (bytes_eq-Decides b a).1 (sym (same_bytes a b h))

turned_apart : (a b : List ℕ) → bytes_eq a b ≡ false → bytes_eq b a ≡ false
turned_apart a b h = false_from_ne_true (bytes_eq b a) (λ k. let clash : true ≡ false = sym (turned b a k) ∙ h in cc)

turned_number : (a b : ℕ) → nat_eq a b ≡ true → (b == a) ≡ true
turned_number a b h = eq-eqb b a (sym (eqb-true a b h))

numbers_apart : (a b : ℕ) → nat_eq a b ≡ false → (b == a) ≡ false
numbers_apart a b h = false_from_ne_true (b == a) (λ k. let clash : true ≡ false = sym (turned_number b a k) ∙ h in cc)

or_nothing : (x : Bool) → (x || false) ≡ x
or_nothing true = refl
or_nothing false = refl

-- one identifier more
pub id_added : {X S : Type 0} (old new : HashMap (List ℕ) X S) (id : List ℕ) (w : X) → ((q : List ℕ) → get bytes_eq new q ≡ cond (bytes_eq id q) (Some w) (get bytes_eq old q))
    → (q : List ℕ) → has_id new q ≡ (has_id old q || (bytes_eq q id || false))
id_added old new id w updates q =
    elim (cases_Bool (bytes_eq id q)) [
      | inl here ↦
          ap is_some (updates q ∙ cond-true (bytes_eq id q) (Some w) (get bytes_eq old q) here)
          ∙ sym (or_right (has_id old q) (bytes_eq q id || false) (ap (λ b. b || false) (turned id q here)))
      | inr apart ↦
          ap is_some (updates q ∙ cond-false (bytes_eq id q) (Some w) (get bytes_eq old q) apart)
          ∙ sym (ap (λ b. has_id old q || (b || false)) (turned_apart id q apart) ∙ or_nothing (has_id old q))
    ]

-- one ordinal more
pub ordinal_added : {X Y S T : Type 0} (labels : HashMap (String Y) (HashMap ℕ X S) T) (name : List ℕ) (old new : HashMap ℕ X S) (o : ℕ) (w : X) → get_by_text labels name ≡ Some old
    → ((k : ℕ) → get nat_eq new k ≡ cond (nat_eq o k) (Some w) (get nat_eq old k)) → (k : ℕ) → is_some (get nat_eq new k) ≡ (has_ordinal labels name k || (k == o))
ordinal_added labels name old new o w there updates k =
    let has : has_ordinal labels name k ≡ is_some (get nat_eq old k) = ap (λ found. option_map_or (λ ordinals. is_some (get nat_eq ordinals k)) found false) there in
    elim (cases_Bool (nat_eq o k)) [
      | inl here ↦
          ap is_some (updates k ∙ cond-true (nat_eq o k) (Some w) (get nat_eq old k) here)
          ∙ sym (or_right (has_ordinal labels name k) (k == o) (turned_number o k here))
      | inr apart ↦
          ap is_some (updates k ∙ cond-false (nat_eq o k) (Some w) (get nat_eq old k) apart)
          ∙ sym (ap (λ b. has_ordinal labels name k || b) (numbers_apart o k apart) ∙ or_nothing (has_ordinal labels name k) ∙ has)
    ]

-- the first ordinal of a name
pub ordinal_first : {X Y S T : Type 0} (labels : HashMap (String Y) (HashMap ℕ X S) T) (name : List ℕ) (new : HashMap ℕ X S) (o : ℕ) → get_by_text labels name ≡ None
    → ((k : ℕ) → is_some (get nat_eq new k) ≡ (k == o)) → (k : ℕ) → is_some (get nat_eq new k) ≡ (has_ordinal labels name k || (k == o))
ordinal_first labels name new o none is k =
    is k ∙ sym (ap (λ found. option_map_or (λ ordinals. is_some (get nat_eq ordinals k)) found false || (k == o)) none)

-- the ordinals of all names, where those of one changed
pub ordinals_changed : {X Y S T : Type 0} (old new : HashMap (String Y) (HashMap ℕ X S) T) (name : List ℕ) (w : HashMap ℕ X S) (o : ℕ)
    → ((q : List ℕ) → get_by_text new q ≡ update bytes_eq (get_by_text old) name (Some w) q)
    → ((k : ℕ) → is_some (get nat_eq w k) ≡ (has_ordinal old name k || (k == o)))
    → (q : List ℕ) (k : ℕ) → has_ordinal new q k ≡ (has_ordinal old q k || (bytes_eq q name && (k == o)))
ordinals_changed old new name w o updates changed q k =
    elim (cases_Bool (bytes_eq name q)) [
      | inl here ↦
          ap (λ found. option_map_or (λ ordinals. is_some (get nat_eq ordinals k)) found false) (updates q ∙ cond-true (bytes_eq name q) (Some w) (get_by_text old q) here)
          ∙ changed k
          ∙ ap (λ n. has_ordinal old n k || (k == o)) (same_bytes name q here)
          ∙ sym (ap (λ b. has_ordinal old q k || (b && (k == o))) (turned name q here))
      | inr apart ↦
          ap (λ found. option_map_or (λ ordinals. is_some (get nat_eq ordinals k)) found false) (updates q ∙ cond-false (bytes_eq name q) (Some w) (get_by_text old q) apart)
          ∙ sym (ap (λ b. has_ordinal old q k || (b && (k == o))) (turned_apart name q apart) ∙ or_nothing (has_ordinal old q k))
    ]
