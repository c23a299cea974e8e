-- Names between quotes.
use Rattle.std.proofs.Common.{◌≡◌, ◌≢◌, ◌⊎◌, ◌==◌, ℕ, zero, suc, ◌<◌, ◌≤◌, Bool, true, false, cond, ◌&&◌, List, [], ◌∷◌, ◌++◌, length, get_or, inl, inr, refl, sym, ap, ap₂, subst, ◌∙◌, append_assoc, arith}
use Rattle.std.specs.Prelude.{not, nat_lt}
use Rattle.std.specs.List.{flat_map, list_all}
use Rattle.std.specs.Str.{IsUtf8}
use Rattle.std.proofs.lemmas.Bool.{and_parts, cases_lt, cases_eq, cond-false, ltb-true, ne_eqb}
use Rattle.std.proofs.lemmas.Bool.Decides.{nat_tests}
use Rattle.std.proofs.lemmas.Grind.{flat_map-append}
use Rattle.std.proofs.lemmas.List.{append-nil}
use Rattle.std.proofs.lemmas.List.Folds.{list_all-append}
use Rattle.std.proofs.lemmas.Str.{IsUtf8-append, IsUtf8-nil, IsUtf8-encode, encode_ascii, inside_one}
use lib.Utf8.{scalar, scalars, encode, encodes, low_scalar}
use Rattle.asm_read.specs.Words.{IsInside, before_first}
use Rattle.asm_lines.specs.Labels.{escaped, quoted}
use Rattle.asm_lines.specs.Texts.{cut}
use Rattle.printed_lines.specs.Lines.{goes_on}

-- ---- bytes as they are written

abbrev Plain : ℕ → Type 0
Plain b = (b ≢ 34) × (b ≢ 92) × (b ≢ 10)

abbrev View : ℕ → Type 0
View b = (b ≡ 34) ⊎ ((b ≡ 92) ⊎ ((b ≡ 10) ⊎ Plain b))

view : (b : ℕ) → View b
view b = elim (cases_eq b 34) [
  | inl e ↦ inl e
  | inr e ↦ elim (cases_eq b 92) [
    | inl f ↦ inr (inl f)
    | inr f ↦ elim (cases_eq b 10) [
      | inl g ↦ inr (inr (inl g))
      | inr g ↦ inr (inr (inr (e, f, g)))
    ]
  ]
]

escaped_by : (b : ℕ) (f g h : Bool) → f ≡ false → g ≡ false → h ≡ false → cond f (92 ∷ 34 ∷ []) (cond g (92 ∷ 92 ∷ []) (cond h (92 ∷ 110 ∷ []) (b ∷ []))) ≡ b ∷ []
escaped_by b true g h e k l = cc
escaped_by b false true h e k l = cc
escaped_by b false false true e k l = cc
escaped_by b false false false e k l = refl

plain : (b : ℕ) → Plain b → escaped b ≡ b ∷ []
plain b p = escaped_by b (b == 34) (b == 92) (b == 10) (ne_eqb b 34 p.0) (ne_eqb b 92 p.1) (ne_eqb b 10 p.2)

-- what is so of each byte as it is written
by_view : (P : List ℕ → Type 0) → P (92 ∷ 34 ∷ []) → P (92 ∷ 92 ∷ []) → P (92 ∷ 110 ∷ []) → ((b : ℕ) → Plain b → P (b ∷ [])) → (b : ℕ) → P (escaped b)
by_view P quote slash end other b = elim (view b) [
  | inl e ↦ subst (λ (n : ℕ). P (escaped n)) (sym e) quote
  | inr v ↦ elim v [
    | inl e ↦ subst (λ (n : ℕ). P (escaped n)) (sym e) slash
    | inr w ↦ elim w [
      | inl e ↦ subst (λ (n : ℕ). P (escaped n)) (sym e) end
      | inr p ↦ subst P (sym (plain b p)) (other b p)
    ]
  ]
]

-- ---- inside quotes

keeps_inside : (rest : List ℕ) → IsInside rest → (b : ℕ) → IsInside (escaped b ++ rest)
keeps_inside rest inside b = by_view (λ (t : List ℕ). IsInside (t ++ rest)) inside inside inside (λ c p. other c rest p inside) b
  where
    other : (c : ℕ) (rest : List ℕ) → Plain c → IsInside rest → IsInside (c ∷ rest)
    other c [] p inside = (p.0, p.1)
    other c (d ∷ rest) p inside = rw (ne_eqb c 92 p.1) (p.0, inside)

pub quoted_inside : (name : List ℕ) → IsInside (flat_map escaped name)
quoted_inside [] = tt
quoted_inside (b ∷ name) = keeps_inside (flat_map escaped name) (quoted_inside name) b

-- ---- cuts

front_of_front : (a b : List ℕ) (ts : List (List ℕ)) → before_first a (before_first b ts) ≡ before_first (a ++ b) ts
front_of_front a b [] = refl
front_of_front a b (t ∷ ts) = ap (λ (x : List ℕ). x ∷ ts) (sym (append_assoc a b t))

-- more bytes behind the first one
abbrev widen : List ℕ → List (List ℕ) → List (List ℕ)
widen a [] = []
widen a ([] ∷ ts) = [] ∷ ts
widen a ((h ∷ t) ∷ ts) = (h ∷ a ++ t) ∷ ts

one_wider : (b : ℕ) (ts : List (List ℕ)) → before_first (34 ∷ []) (before_first (b ∷ []) ts) ≡ widen (b ∷ []) (before_first (34 ∷ []) ts)
one_wider b [] = refl
one_wider b (t ∷ ts) = refl

two_wider : (b c : ℕ) (ts : List (List ℕ)) → before_first (34 ∷ []) (before_first (b ∷ []) (before_first (c ∷ []) ts)) ≡ widen (b ∷ c ∷ []) (before_first (34 ∷ []) ts)
two_wider b c [] = refl
two_wider b c (t ∷ ts) = refl

plain_cut : (b : ℕ) (rest : List ℕ) → Plain b → cut (34 ∷ b ∷ rest) ≡ widen (b ∷ []) (cut (34 ∷ rest))
plain_cut b rest p = rw (ne_eqb b 34 p.0, ne_eqb b 92 p.1) (one_wider b _)

byte_cut : (rest : List ℕ) (b : ℕ) → cut (34 ∷ escaped b ++ rest) ≡ widen (escaped b) (cut (34 ∷ rest))
byte_cut rest b =
    by_view (λ (t : List ℕ). cut (34 ∷ t ++ rest) ≡ widen t (cut (34 ∷ rest)))
    (two_wider 92 34 _) (two_wider 92 92 _) (two_wider 92 110 _)
    (λ c p. plain_cut c rest p) b

wide_front : (a b : List ℕ) (ts : List (List ℕ)) → widen a (before_first (34 ∷ b) ts) ≡ before_first (34 ∷ a ++ b) ts
wide_front a b [] = refl
wide_front a b (t ∷ ts) = ap (λ (x : List ℕ). (34 ∷ x) ∷ ts) (sym (append_assoc a b t))

name_cut : (name rest : List ℕ) → cut (34 ∷ flat_map escaped name ++ 34 ∷ rest) ≡ before_first (34 ∷ flat_map escaped name ++ 34 ∷ []) (cut rest)
name_cut [] rest = front_of_front (34 ∷ []) (34 ∷ []) (cut rest)
name_cut (b ∷ name) rest =
    ap (λ (t : List ℕ). cut (34 ∷ t)) (append_assoc (escaped b) (flat_map escaped name) (34 ∷ rest))
    ∙ byte_cut (flat_map escaped name ++ 34 ∷ rest) b
    ∙ ap (widen (escaped b)) (name_cut name rest)
    ∙ wide_front (escaped b) (flat_map escaped name ++ 34 ∷ []) (cut rest)
    ∙ ap (λ (t : List ℕ). before_first (34 ∷ t) (cut rest)) (sym (append_assoc (escaped b) (flat_map escaped name) (34 ∷ [])))

pub quoted_cut : (name rest : List ℕ) → cut (quoted name ++ rest) ≡ before_first (quoted name) (cut rest)
quoted_cut name rest = ap (λ (t : List ℕ). cut (34 ∷ t)) (append_assoc (flat_map escaped name) (34 ∷ []) rest) ∙ name_cut name rest

-- ---- no line ends inside

byte_whole : (b : ℕ) → list_all goes_on (escaped b) ≡ true
byte_whole b = by_view (λ (t : List ℕ). list_all goes_on t ≡ true) refl refl refl (λ c p. rw (ne_eqb c 10 p.2) refl) b

name_whole : (name : List ℕ) → list_all goes_on (flat_map escaped name) ≡ true
name_whole [] = refl
name_whole (b ∷ name) = list_all-append goes_on (escaped b) (flat_map escaped name) ∙ ap₂ (λ (x y : Bool). x && y) (byte_whole b) (name_whole name)

pub quoted_whole : (name : List ℕ) → list_all goes_on (quoted name) ≡ true
quoted_whole name = list_all-append goes_on (flat_map escaped name) (34 ∷ []) ∙ ap₂ (λ (x y : Bool). x && y) (name_whole name) refl

-- ---- UTF-8

pub ascii_then : (x : ℕ) (xs : List ℕ) → x < 128 → IsUtf8 xs → IsUtf8 (x ∷ xs)
ascii_then x xs small u = IsUtf8-append (x ∷ []) xs (subst IsUtf8 (encode_ascii x small) (IsUtf8-encode x (low_scalar x (omega arith)))) u

byte_utf8 : (b : ℕ) → b < 128 → IsUtf8 (escaped b)
byte_utf8 b small =
    elim (view b) [
      | inl e ↦ subst (λ (n : ℕ). IsUtf8 (escaped n)) (sym e) (two 34 (omega arith))
      | inr v ↦ elim v [
        | inl e ↦ subst (λ (n : ℕ). IsUtf8 (escaped n)) (sym e) (two 92 (omega arith))
        | inr w ↦ elim w [
          | inl e ↦ subst (λ (n : ℕ). IsUtf8 (escaped n)) (sym e) (two 110 (omega arith))
          | inr p ↦ subst IsUtf8 (sym (plain b p)) (ascii_then b [] small IsUtf8-nil)
        ]
      ]
    ]
  where
    two : (c : ℕ) → c < 128 → IsUtf8 (92 ∷ c ∷ [])
    two c low = ascii_then 92 (c ∷ []) (omega arith) (ascii_then c [] low IsUtf8-nil)

high_bytes : (xs : List ℕ) → ((k : ℕ) → k < length xs → 128 ≤ get_or xs k 0) → flat_map escaped xs ≡ xs
high_bytes [] h = refl
high_bytes (x ∷ xs) h =
    let high : 128 ≤ x = h 0 (omega arith) in
    ap₂ (λ (a b : List ℕ). a ++ b) (plain x ((λ e. omega arith), (λ e. omega arith), (λ e. omega arith))) (high_bytes xs (λ k below. h (suc k) (omega arith)))

one_char : (c : ℕ) → scalar c ≡ true → IsUtf8 (flat_map escaped (encode c))
one_char c ok = elim (cases_lt c 128) [
  | inl small ↦ rw (encode_ascii c small, append-nil) (byte_utf8 c small)
  | inr big ↦
      let high : (k : ℕ) → k < length (encode c) → 128 ≤ get_or (encode c) k 0 = λ k below. elim (cases_lt (get_or (encode c) k 0) 128) [
        | inl low ↦ absurd (omega (arith, inside_one c [] (encode c) k (sym (append-nil _)) below low))
        | inr h ↦ h
      ] in
      subst IsUtf8 (sym (high_bytes (encode c) high)) (IsUtf8-encode c ok)
]

all_chars : (cs : List ℕ) → scalars cs ≡ true → IsUtf8 (flat_map escaped (encodes cs))
all_chars [] e = IsUtf8-nil
all_chars (c ∷ cs) e =
    let p = and_parts _ _ e in
    subst IsUtf8 (sym (flat_map-append escaped (encode c) (encodes cs))) (IsUtf8-append _ _ (one_char c p.0) (all_chars cs p.1))

pub quoted_utf8 : (name : List ℕ) → IsUtf8 name → IsUtf8 (quoted name)
quoted_utf8 name u =
    ascii_then 34 _ (omega arith) (IsUtf8-append _ _ (subst (λ l. IsUtf8 (flat_map escaped l)) u.1.1 (all_chars u.0 u.1.0)) (ascii_then 34 [] (omega arith) IsUtf8-nil))
