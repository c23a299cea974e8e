-- What stands between quotes, as a loop reads it.
use Rattle.std.proofs.Common.{◌≡◌, ◌≢◌, ℕ, ◌+◌, ◌-◌, ◌<◌, ◌≤◌, length, take, drop, Bool, true, false, eqb, List, [], ◌∷◌, ◌++◌, refl, sym, ap, subst, ◌∙◌, append_assoc, ◌⊎◌, inl, inr, arith}
use Rattle.std.specs.Prelude.{MatchBool}
use Rattle.std.proofs.lemmas.Bool.{eqb-true, eqb-false, ne_eqb}
use Rattle.std.proofs.lemmas.List.{length-append, take_at, drop_at}
use Rattle.asm_read.specs.Words.{IsInside, Piece, Bare, Quoted, IsPiece, bytes_of}

-- ---- the bytes between quotes

chosen : {P Q : Type 0} (b : ℕ) (g : Bool) → eqb b 92 ≡ g → MatchBool g P Q → ((b ≡ 92) × P) ⊎ ((b ≢ 92) × Q)
chosen b true e h = inl (eqb-true b 92 e, h)
chosen b false e h = inr (eqb-false b 92 e, h)

-- a backslash with the byte behind it, or another byte
pub two_inside : (b d : ℕ) (bytes : List ℕ) → IsInside (b ∷ d ∷ bytes) → ((b ≡ 92) × IsInside bytes) ⊎ ((b ≢ 92) × ((b ≢ 34) × IsInside (d ∷ bytes)))
two_inside b d bytes h = chosen b (eqb b 92) refl h

escaped_inside : (d : ℕ) (bytes : List ℕ) → IsInside bytes → IsInside (92 ∷ d ∷ bytes)
escaped_inside d bytes h = h

other_inside : (b : ℕ) (bytes : List ℕ) → b ≢ 34 → b ≢ 92 → IsInside bytes → IsInside (b ∷ bytes)
other_inside b [] quote slash h = (quote, slash)
other_inside b (d ∷ bytes) quote slash h = rw (ne_eqb b 92 slash) (quote, h)

-- no quote stands first
head_inside : (b : ℕ) (bytes : List ℕ) → IsInside (b ∷ bytes) → b ≡ 34 → ⊥
head_inside b [] h e = h.0 e
head_inside b (d ∷ bytes) h e =
    elim (two_inside b d bytes h) [
      | inl p ↦ omega (arith, p.0, e)
      | inr p ↦ p.1.0 e
    ]

append_inside : (a c : List ℕ) → IsInside a → IsInside c → IsInside (a ++ c)
append_inside [] c h k = k
append_inside (b ∷ []) c h k = other_inside b c h.0 h.1 k
append_inside (b ∷ d ∷ a) c h k =
    elim (two_inside b d a h) [
      | inl p ↦ subst (λ (n : ℕ). IsInside (n ∷ d ∷ (a ++ c))) (sym p.0) (escaped_inside d (a ++ c) (append_inside a c p.1 k))
      | inr p ↦ other_inside b (d ∷ a ++ c) p.1.0 p.0 (append_inside (d ∷ a) c p.1.1 k)
    ]

abbrev Same : List ℕ → List ℕ → List ℕ → List ℕ → Type 0
Same a c x y = (a ≡ c) × (x ≡ y)

same_behind : (b d : ℕ) (a c x y : List ℕ) → b ≡ d → Same a c x y → Same (b ∷ a) (d ∷ c) x y
same_behind b d a c x y e p = (ap (λ (n : ℕ). n ∷ a) e ∙ ap (λ (l : List ℕ). d ∷ l) p.0, p.1)

-- the quote that closes is the first that no backslash takes along
pub one_inside : (a c x y : List ℕ) → IsInside a → IsInside c → a ++ 34 ∷ x ≡ c ++ 34 ∷ y → Same a c x y
one_inside [] [] x y h k e = (refl, cc)
one_inside [] (d ∷ c) x y h k e = absurd (head_inside d c k (let first : ◌≡◌ {A = ℕ} 34 d = cc in sym first))
one_inside (b ∷ a) [] x y h k e = absurd (head_inside b a h (let first : b ≡ 34 = cc in first))
one_inside (b ∷ []) (d ∷ []) x y h k e = (let first : b ≡ d = cc in ap (λ (n : ℕ). n ∷ []) first, cc)
one_inside (b ∷ []) (d ∷ f ∷ c) x y h k e =
    let first : b ≡ d = cc in
    let second : ◌≡◌ {A = ℕ} 34 f = cc in
    elim (two_inside d f c k) [
      | inl p ↦ absurd (h.1 (first ∙ p.0))
      | inr p ↦ absurd (head_inside f c p.1.1 (sym second))
    ]
one_inside (b ∷ f ∷ a) (d ∷ []) x y h k e =
    let first : b ≡ d = cc in
    let second : f ≡ 34 = cc in
    elim (two_inside b f a h) [
      | inl p ↦ absurd (k.1 (sym first ∙ p.0))
      | inr p ↦ absurd (head_inside f a p.1.1 second)
    ]
one_inside (b ∷ f ∷ a) (d ∷ g ∷ c) x y h k e =
    let first : b ≡ d = cc in
    let second : f ≡ g = cc in
    let others : a ++ 34 ∷ x ≡ c ++ 34 ∷ y = cc in
    let behind : (f ∷ a) ++ 34 ∷ x ≡ (g ∷ c) ++ 34 ∷ y = cc in
    elim (two_inside b f a h) [
      | inl p ↦
          elim (two_inside d g c k) [
            | inl q ↦ same_behind b d (f ∷ a) (g ∷ c) x y first (same_behind f g a c x y second (one_inside a c x y p.1 q.1 others))
            | inr q ↦ absurd (q.0 (sym first ∙ p.0))
          ]
      | inr p ↦
          elim (two_inside d g c k) [
            | inl q ↦ absurd (p.0 (first ∙ q.0))
            | inr q ↦ same_behind b d (f ∷ a) (g ∷ c) x y first (one_inside (f ∷ a) (g ∷ c) x y p.1.1 q.1.1 behind)
          ]
    ]

-- ---- the loop

-- what stood before the rest goes on between quotes, and where a quote closes the text it closes the rest
pub record IsReading (text rest : List ℕ) : Type 0 where
  pub front : List ℕ
  pub parts : text ≡ front ++ rest
  pub inside : IsInside front
  pub closes : (inside behind : List ℕ) → IsInside inside → text ≡ inside ++ 34 ∷ behind → (more : List ℕ) × IsInside more × (rest ≡ more ++ 34 ∷ behind)

one_less : (b : ℕ) (rest behind more : List ℕ) → b ≢ 34 → b ≢ 92 → IsInside more → b ∷ rest ≡ more ++ 34 ∷ behind → (less : List ℕ) × IsInside less × (rest ≡ less ++ 34 ∷ behind)
one_less b rest behind [] quote slash h e = absurd (quote cc)
one_less b rest behind (d ∷ []) quote slash h e = ([], tt, cc)
one_less b rest behind (d ∷ f ∷ more) quote slash h e =
    let first : b ≡ d = cc in
    elim (two_inside d f more h) [
      | inl p ↦ absurd (slash (first ∙ p.0))
      | inr p ↦ (f ∷ more, p.1.1, cc)
    ]

two_less : (f : ℕ) (rest behind more : List ℕ) → IsInside more → 92 ∷ f ∷ rest ≡ more ++ 34 ∷ behind → (less : List ℕ) × IsInside less × (rest ≡ less ++ 34 ∷ behind)
two_less f rest behind [] h e = absurd (let no_quote : ◌≡◌ {A = ℕ} 92 34 = cc in omega (arith, no_quote))
two_less f rest behind (d ∷ []) h e = absurd (let first : ◌≡◌ {A = ℕ} 92 d = cc in h.1 (sym first))
two_less f rest behind (d ∷ g ∷ more) h e =
    let first : ◌≡◌ {A = ℕ} 92 d = cc in
    elim (two_inside d g more h) [
      | inl p ↦ (more, p.1, cc)
      | inr p ↦ absurd (p.0 (sym first))
    ]

module _ (text rest after : List ℕ) (h : IsReading text rest) where
  pub reads_one : (b : ℕ) → rest ≡ b ∷ after → b ≢ 34 → b ≢ 92 → IsReading text after
  reads_one b is quote slash = record {
    front = h.front ++ b ∷ [];
    parts = h.parts ∙ ap (λ (r : List ℕ). h.front ++ r) is ∙ sym (append_assoc h.front (b ∷ []) after);
    inside = append_inside h.front (b ∷ []) h.inside (quote, slash);
    closes = λ i behind inside e. let m = h.closes i behind inside e in one_less b after behind m.0 quote slash m.1 (sym is ∙ m.2);
  }

  pub reads_two : (f : ℕ) → rest ≡ 92 ∷ f ∷ after → IsReading text after
  reads_two f is = record {
    front = h.front ++ 92 ∷ f ∷ [];
    parts = h.parts ∙ ap (λ (r : List ℕ). h.front ++ r) is ∙ sym (append_assoc h.front (92 ∷ f ∷ []) after);
    inside = append_inside h.front (92 ∷ f ∷ []) h.inside tt;
    closes = λ i behind inside e. let m = h.closes i behind inside e in two_less f after behind m.0 m.1 (sym is ∙ m.2);
  }

-- ---- pieces

-- a text has one piece at its front
pub one_piece : (p q : Piece) (x y : List ℕ) → IsPiece p → IsPiece q → bytes_of p ++ x ≡ bytes_of q ++ y → (p ≡ q) × (x ≡ y)
one_piece (Bare b) (Bare d) x y h k e = (let first : b ≡ d = cc in ap Bare first, cc)
one_piece (Bare b) (Quoted i) x y h k e = absurd (h (let first : b ≡ 34 = cc in first))
one_piece (Quoted i) (Bare d) x y h k e = absurd (k (let first : d ≡ 34 = cc in first))
one_piece (Quoted i) (Quoted j) x y h k e =
    let left : (34 ∷ i ++ 34 ∷ []) ++ x ≡ 34 ∷ (i ++ 34 ∷ x) = simp append_assoc in
    let right : (34 ∷ j ++ 34 ∷ []) ++ y ≡ 34 ∷ (j ++ 34 ∷ y) = simp append_assoc in
    let whole : 34 ∷ (i ++ 34 ∷ x) ≡ 34 ∷ (j ++ 34 ∷ y) = sym left ∙ e ∙ right in
    let p = one_inside i j x y h k cc in
    (ap Quoted p.0, p.1)

abbrev Found : List ℕ → List ℕ → List ℕ → Type 0
Found text front back = (p : Piece) × IsPiece p × (front ≡ bytes_of p) × (text ≡ front ++ back)

pub bare_found : (text front back : List ℕ) → 0 < length text → (text ≡ 34 ∷ drop 1 text → ⊥) → front ≡ take 1 text → back ≡ drop 1 text → Found text front back
bare_found [] front back some bare f g = absurd (omega arith)
bare_found (b ∷ text) front back some bare f g = (Bare b, λ e. bare (ap (λ (n : ℕ). n ∷ text) e), f, rw (f, g) refl)

quoted_is : (text inside behind : List ℕ) → text ≡ 34 ∷ drop 1 text → drop 1 text ≡ inside ++ 34 ∷ behind → text ≡ bytes_of (Quoted inside) ++ behind
quoted_is text inside behind quote is = quote ∙ ap (λ (r : List ℕ). 34 ∷ r) is ∙ simp append_assoc

length_quoted : (inside : List ℕ) → length (bytes_of (Quoted inside)) ≡ length inside + 2
length_quoted inside = omega (arith, length-append (34 ∷ inside) (34 ∷ []))

pub quoted_found : (text inside behind front back : List ℕ) → text ≡ 34 ∷ drop 1 text → IsInside inside → drop 1 text ≡ inside ++ 34 ∷ behind → front ≡ take (length inside + 2) text → back ≡ drop (length inside + 2) text → Found text front back
quoted_found text inside behind front back quote h is f g =
    let whole = quoted_is text inside behind quote is in
    let first : front ≡ bytes_of (Quoted inside) = f ∙ ap (take (length inside + 2)) whole ∙ take_at (bytes_of (Quoted inside)) behind (length inside + 2) (length_quoted inside) in
    let second : back ≡ behind = g ∙ ap (drop (length inside + 2)) whole ∙ drop_at (bytes_of (Quoted inside)) behind (length inside + 2) (length_quoted inside) in
    (Quoted inside, h, first, whole ∙ rw (first, second) refl)

take_whole : (text : List ℕ) → take (length text) text ≡ text
take_whole [] = refl
take_whole (b ∷ text) = ap (λ (t : List ℕ). b ∷ t) (take_whole text)

-- all bytes but the first
pub from_second : (text : List ℕ) → take (length text - 1) (drop 1 text) ≡ drop 1 text
from_second [] = refl
from_second (b ∷ text) = let n : length (b ∷ text) - 1 ≡ length text = omega arith in rw n (take_whole text)
