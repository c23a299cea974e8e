-- A number that is read at a place is spelled there, and one that is spelled there is read.
use Rattle.std.proofs.Common.{◌≡◌, ℕ, ◌+◌, ◌-◌, ◌^◌, ◌<◌, ◌≤◌, Bool, true, false, leb, ◌&&◌, List, ◌++◌, length, get_or, take, drop, Result, Ok, Err, refl, sym, ap, subst, ◌∙◌, append_assoc, arith, inl, inr}
use Rattle.std.specs.Int.{w64, from_le_bytes}
use Rattle.std.proofs.lemmas.Bool.{cases_lt, le-leb}
use Rattle.std.proofs.lemmas.Bool.Decides.{nat_tests}
use Rattle.std.proofs.lemmas.List.{take_at, drop_at, drop-drop, take-append-drop, length-append, length-take, length-drop, get_or-drop, get_or-take, get_or_past}
use Rattle.std.proofs.lemmas.Nat.{le_bytes_8, from_le_bytes-to_le_bytes_8}
use Rattle.bare_image.specs.declared.fault.ImageFault.{ImageFault}
use Rattle.bare_image.specs.Spelling.{word}
use Rattle.bare_image.specs.Reading.{◌>>=◌, kept, number, field_at, content_at}

-- each number is a byte, also past the end
abbrev pub IsBytes : List ℕ → Type 0
IsBytes bytes = (i : ℕ) → get_or bytes i 0 < 256

pub IsBytes-drop : (n : ℕ) (bytes : List ℕ) → IsBytes bytes → IsBytes (drop n bytes)
IsBytes-drop n bytes h i = rw get_or-drop (h (n + i))

pub IsBytes-take : (n : ℕ) (bytes : List ℕ) → IsBytes bytes → IsBytes (take n bytes)
IsBytes-take n bytes h i =
    elim (cases_lt i n) [
      | inl lt ↦ rw (get_or-take n bytes i 0 lt) (h i)
      | inr le ↦ rw (get_or_past (take n bytes) i 0 (omega (arith, length-take n bytes))) (omega arith)
    ]

-- the value of a step that was done
pub bind_ok : {A B : Type 0} (r : Result A ImageFault) (f : A → Result B ImageFault) (y : B) → (r >>= f) ≡ Ok y → (x : A) × (r ≡ Ok x) × (f x ≡ Ok y)
bind_ok (Ok x) f y e = (x, refl, e)
bind_ok (Err d) f y e = absurd cc

-- a field that kept its rule
pub kept_ok : {A : Type 0} (holds : Bool) (x y : A) (place : ℕ) → kept holds x place ≡ Ok y → (holds ≡ true) × (x ≡ y)
kept_ok true x y place e = (refl, cc)
kept_ok false x y place e = absurd cc

both_true : (a b : Bool) → (a && b) ≡ true → (a ≡ true) × (b ≡ true)
both_true true b e = (refl, e)
both_true false b e = absurd cc

-- these bytes stand at a place
pub record StandsAt (bytes : List ℕ) (place : ℕ) (text : List ℕ) : Type 0 where
  pub within : place + length text ≤ length bytes
  pub parts : drop place bytes ≡ text ++ drop (place + length text) bytes

-- what stands at a place where the rest begins with it
pub StandsAt-from : (bytes : List ℕ) (place : ℕ) (text rest : List ℕ) → 0 < length text → drop place bytes ≡ text ++ rest → StandsAt bytes place text × (rest ≡ drop (place + length text) bytes)
StandsAt-from bytes place text rest some e =
    let len : length bytes - place ≡ length text + length rest = omega (arith, ap length e, length-drop place bytes, length-append text rest) in
    let rest-is : rest ≡ drop (place + length text) bytes = sym (rw (← drop-drop (length text) place bytes, e) (drop_at text rest (length text) refl)) in
    (record { within = omega arith; parts = e ∙ ap (λ (r : List ℕ). text ++ r) rest-is }, rest-is)

-- two texts, one behind the other
pub StandsAt-then : (bytes : List ℕ) (place : ℕ) (a b : List ℕ) → StandsAt bytes place a → StandsAt bytes (place + length a) b → StandsAt bytes place (a ++ b)
StandsAt-then bytes place a b p q = record {
  within = omega (arith, p.within, q.within, length-append a b);
  parts = p.parts ∙ ap (λ (r : List ℕ). a ++ r) q.parts ∙ sym (append_assoc a b (drop (place + length a + length b) bytes)) ∙ ap (λ (n : ℕ). (a ++ b) ++ drop n bytes) (omega (arith, length-append a b));
}

pub field_stands : (rule : ℕ → Bool) (bytes : List ℕ) (place n : ℕ) → IsBytes bytes → field_at rule bytes place ≡ Ok n → StandsAt bytes place (word n) × (rule n ≡ true) × (n < 2 ^ 64)
unfolding field_at word
field_stands rule bytes place n fits e =
    let k = kept_ok (leb (place + 8) (length bytes) && rule (number bytes place)) (number bytes place) n place e in
    let b = both_true (leb (place + 8) (length bytes)) (rule (number bytes place)) k.0 in
    let long : place + 8 ≤ length bytes = grind (arith, nat_tests) in
    let eight = take 8 (drop place bytes) in
    let len : length eight ≡ 8 = omega (arith, length-take 8 (drop place bytes), length-drop place bytes) in
    let are : IsBytes eight = IsBytes-take 8 (drop place bytes) (IsBytes-drop place bytes fits) in
    let text : word n ≡ eight = le_bytes_8 eight n len are (sym k.1) in
    let below : number bytes place < 2 ^ 64 = omega (arith, are 0, are 1, are 2, are 3, are 4, are 5, are 6, are 7) in (
      record {
        within = long;
        parts = sym (take-append-drop 8 (drop place bytes)) ∙ ap (λ (r : List ℕ). r ++ drop 8 (drop place bytes)) (sym text) ∙ ap (λ (r : List ℕ). word n ++ r) (drop-drop 8 place bytes);
      },
      subst (λ (m : ℕ). rule m ≡ true) k.1 b.1,
      subst (λ (m : ℕ). m < 2 ^ 64) k.1 below,
    )

pub field_again : (rule : ℕ → Bool) (bytes : List ℕ) (place n : ℕ) (rest : List ℕ) → n < 2 ^ 64 → rule n ≡ true → drop place bytes ≡ word n ++ rest → field_at rule bytes place ≡ Ok n
unfolding field_at word
field_again rule bytes place n rest below holds e =
    let stands = StandsAt-from bytes place (word n) rest (omega arith) e in
    let long : leb (place + 8) (length bytes) ≡ true = le-leb (place + 8) (length bytes) stands.0.within in
    let same : number bytes place ≡ n = ap (λ (r : List ℕ). from_le_bytes w64 (take 8 r)) e ∙ ap (from_le_bytes w64) (take_at (word n) rest 8 refl) ∙ from_le_bytes-to_le_bytes_8 n below in
    rw (same, long, holds) refl

pub content_stands : (bytes : List ℕ) (place n : ℕ) (content : List ℕ) → IsBytes bytes → content_at bytes place n ≡ Ok content → StandsAt bytes place content × (length content ≡ n) × IsBytes content
unfolding content_at
content_stands bytes place n content fits e =
    let k = kept_ok (leb (place + n) (length bytes)) (take n (drop place bytes)) content place e in
    let long : place + n ≤ length bytes = grind (arith, nat_tests) in
    let len : length (take n (drop place bytes)) ≡ n = omega (arith, length-take n (drop place bytes), length-drop place bytes) in
    subst (λ (text : List ℕ). StandsAt bytes place text × (length text ≡ n) × IsBytes text) k.1 (
      record {
        within = omega arith;
        parts = sym (rw (len, ← drop-drop n place bytes) (take-append-drop n (drop place bytes)));
      },
      len,
      IsBytes-take n (drop place bytes) (IsBytes-drop place bytes fits),
    )

pub content_again : (bytes : List ℕ) (place : ℕ) (content rest : List ℕ) → 0 < length content → drop place bytes ≡ content ++ rest → content_at bytes place (length content) ≡ Ok content
unfolding content_at
content_again bytes place content rest some e =
    let stands = StandsAt-from bytes place content rest some e in
    let long : leb (place + length content) (length bytes) ≡ true = le-leb (place + length content) (length bytes) stands.0.within in
    rw (e, long, take_at content rest (length content) refl) refl
