-- A line falls into words, or it doesn't.
use Rattle.std.proofs.Common.{◌≡◌, ◌≢◌, ◌⊎◌, ℕ, zero, suc, ◌+◌, ◌≤◌, Option, Some, None, List, [], ◌∷◌, ◌++◌, length, length-append, eqb, Bool, true, false, refl, sym, ap, subst, ◌∙◌, append_assoc, inl, inr, arith}
use Rattle.std.specs.Prelude.{MatchBool}
use Rattle.std.specs.List.{flat_map}
use Rattle.std.proofs.lemmas.Bool.{cases_eq, eqb-true, eqb-false, ne_eqb}
use Rattle.asm_read.specs.Words.{IsInside, Piece, Bare, Quoted, IsPiece, bytes_of, words_in, IsComment, ArePieces, HasWords}

-- so, or not so
abbrev pub Decided : Type 0 → Type 0
Decided A = A ⊎ (A → ⊥)

-- ---- the quote that closes

chosen : {P Q : Type 0} (b : ℕ) (g : Bool) → eqb b 92 ≡ g → MatchBool g P Q → ((b ≡ 92) × P) ⊎ ((b ≢ 92) × Q)
chosen b true e h = inl (eqb-true b 92 e, h)
chosen b false e h = inr (eqb-false b 92 e, h)

-- a backslash with the byte behind it, or another byte
two_inside : (b d : ℕ) (bytes : List ℕ) → IsInside (b ∷ d ∷ bytes) → ((b ≡ 92) × IsInside bytes) ⊎ ((b ≢ 92) × ((b ≢ 34) × IsInside (d ∷ bytes)))
two_inside b d bytes h = chosen b (eqb b 92) refl h

escaped_inside : (d : ℕ) (bytes : List ℕ) → IsInside bytes → IsInside (92 ∷ d ∷ bytes)
escaped_inside d bytes h = h

other_inside : (b : ℕ) (bytes : List ℕ) → b ≢ 34 → b ≢ 92 → IsInside bytes → IsInside (b ∷ bytes)
other_inside b [] quote slash h = (quote, slash)
other_inside b (d ∷ bytes) quote slash h = rw (ne_eqb b 92 slash) (quote, h)

-- no quote stands first
head_inside : (b : ℕ) (bytes : List ℕ) → IsInside (b ∷ bytes) → b ≡ 34 → ⊥
head_inside b [] h e = h.0 e
head_inside b (d ∷ bytes) h e =
    elim (two_inside b d bytes h) [
      | inl p ↦ omega (arith, p.0, e)
      | inr p ↦ p.1.0 e
    ]

-- what stands behind the quote that closes, if one does
record Closing (bytes : List ℕ) : Type 0 where
  behind : Option (List ℕ)
  some : (rest : List ℕ) → behind ≡ Some rest → (inside : List ℕ) × IsInside inside × (bytes ≡ inside ++ 34 ∷ rest)
  only : (inside rest : List ℕ) → IsInside inside → bytes ≡ inside ++ 34 ∷ rest → behind ≡ Some rest

closing_quote : (b : ℕ) (bytes : List ℕ) → b ≡ 34 → Closing (b ∷ bytes)
closing_quote b bytes quote = record {
  behind = Some bytes;
  some = λ rest e. let same : bytes ≡ rest = cc in ([], tt, ap (λ (n : ℕ). n ∷ bytes) quote ∙ ap (λ (l : List ℕ). 34 ∷ l) same);
  only = only_one;
} where
  only_one : (inside rest : List ℕ) → IsInside inside → b ∷ bytes ≡ inside ++ 34 ∷ rest → Some bytes ≡ Some rest
  only_one [] rest h e = let same : bytes ≡ rest = cc in ap Some same
  only_one (x ∷ inside) rest h e = let first : b ≡ x = cc in absurd (head_inside x inside h (sym first ∙ quote))

-- a backslash at the end
closing_slash_last : (b : ℕ) → b ≡ 92 → Closing (b ∷ [])
closing_slash_last b slash = record { behind = None; some = λ rest e. absurd cc; only = λ inside rest h e. absurd (none inside rest h e) } where
  none : (inside rest : List ℕ) → IsInside inside → b ∷ [] ≡ inside ++ 34 ∷ rest → ⊥
  none [] rest h e = let first : b ≡ 34 = cc in omega (arith, first, slash)
  none (x ∷ []) rest h e = let first : b ≡ x = cc in h.1 (sym first ∙ slash)
  none (x ∷ y ∷ inside) rest h e = cc

closing_slash : (b d : ℕ) (bytes : List ℕ) → b ≡ 92 → Closing bytes → Closing (b ∷ d ∷ bytes)
closing_slash b d bytes slash c = record {
  behind = c.behind;
  some = λ rest e.
      let x = c.some rest e in
      (92 ∷ d ∷ x.0, escaped_inside d x.0 x.1, ap (λ (n : ℕ). n ∷ d ∷ bytes) slash ∙ ap (λ (l : List ℕ). 92 ∷ d ∷ l) x.2);
  only = only_one;
} where
  only_one : (inside rest : List ℕ) → IsInside inside → b ∷ d ∷ bytes ≡ inside ++ 34 ∷ rest → c.behind ≡ Some rest
  only_one [] rest h e = let first : b ≡ 34 = cc in absurd (omega (arith, first, slash))
  only_one (x ∷ []) rest h e = let first : b ≡ x = cc in absurd (h.1 (sym first ∙ slash))
  only_one (x ∷ y ∷ inside) rest h e =
      let first : b ≡ x = cc in
      let others : bytes ≡ inside ++ 34 ∷ rest = cc in
      elim (two_inside x y inside h) [
        | inl p ↦ c.only inside rest p.1 others
        | inr p ↦ absurd (p.0 (sym first ∙ slash))
      ]

closing_other : (b : ℕ) (bytes : List ℕ) → b ≢ 34 → b ≢ 92 → Closing bytes → Closing (b ∷ bytes)
closing_other b bytes quote slash c = record {
  behind = c.behind;
  some = λ rest e. let x = c.some rest e in (b ∷ x.0, other_inside b x.0 quote slash x.1, ap (λ (l : List ℕ). b ∷ l) x.2);
  only = only_one;
} where
  only_one : (inside rest : List ℕ) → IsInside inside → b ∷ bytes ≡ inside ++ 34 ∷ rest → c.behind ≡ Some rest
  only_one [] rest h e = let first : b ≡ 34 = cc in absurd (quote first)
  only_one (x ∷ []) rest h e = let others : bytes ≡ 34 ∷ rest = cc in c.only [] rest tt others
  only_one (x ∷ y ∷ inside) rest h e =
      let first : b ≡ x = cc in
      let others : bytes ≡ (y ∷ inside) ++ 34 ∷ rest = cc in
      elim (two_inside x y inside h) [
        | inl p ↦ absurd (slash (first ∙ p.0))
        | inr p ↦ c.only (y ∷ inside) rest p.1.1 others
      ]

closing : (bytes : List ℕ) → Closing bytes
closing [] = record { behind = None; some = λ rest e. absurd cc; only = λ inside rest h e. absurd (none inside rest e) } where
  none : (inside rest : List ℕ) → [] ≡ inside ++ 34 ∷ rest → ⊥
  none [] rest e = cc
  none (x ∷ inside) rest e = cc
closing (b ∷ []) =
    elim (cases_eq b 34) [
      | inl quote ↦ closing_quote b [] quote
      | inr no_quote ↦ elim (cases_eq b 92) [
        | inl slash ↦ closing_slash_last b slash
        | inr no_slash ↦ closing_other b [] no_quote no_slash (closing [])
      ]
    ]
closing (b ∷ d ∷ bytes) =
    elim (cases_eq b 34) [
      | inl quote ↦ closing_quote b (d ∷ bytes) quote
      | inr no_quote ↦ elim (cases_eq b 92) [
        | inl slash ↦ closing_slash b d bytes slash (closing bytes)
        | inr no_slash ↦ closing_other b (d ∷ bytes) no_quote no_slash (closing (d ∷ bytes))
      ]
    ]

-- ---- the first piece

-- what stands behind the first piece of a line, if one stands there
record First (line : List ℕ) : Type 0 where
  behind : Option (List ℕ)
  some : (rest : List ℕ) → behind ≡ Some rest → (p : Piece) × IsPiece p × (line ≡ bytes_of p ++ rest)
  only : (p : Piece) (rest : List ℕ) → IsPiece p → line ≡ bytes_of p ++ rest → behind ≡ Some rest

first_quoted : (b : ℕ) (bytes : List ℕ) → b ≡ 34 → Closing bytes → First (b ∷ bytes)
first_quoted b bytes quote c = record {
  behind = c.behind;
  some = λ rest e.
      let x = c.some rest e in
      (Quoted x.0, x.1, ap (λ (n : ℕ). n ∷ bytes) quote ∙ ap (λ (l : List ℕ). 34 ∷ l) (x.2 ∙ sym (append_assoc x.0 (34 ∷ []) rest)));
  only = only_one;
} where
  only_one : (p : Piece) (rest : List ℕ) → IsPiece p → b ∷ bytes ≡ bytes_of p ++ rest → c.behind ≡ Some rest
  only_one (Bare x) rest is e = let first : b ≡ x = cc in absurd (is (sym first ∙ quote))
  only_one (Quoted inside) rest is e =
      let others : bytes ≡ (inside ++ 34 ∷ []) ++ rest = cc in
      c.only inside rest is (others ∙ append_assoc inside (34 ∷ []) rest)

first_bare : (b : ℕ) (bytes : List ℕ) → b ≢ 34 → First (b ∷ bytes)
first_bare b bytes bare = record {
  behind = Some bytes;
  some = λ rest e. let same : bytes ≡ rest = cc in (Bare b, bare, ap (λ (l : List ℕ). b ∷ l) same);
  only = only_one;
} where
  only_one : (p : Piece) (rest : List ℕ) → IsPiece p → b ∷ bytes ≡ bytes_of p ++ rest → Some bytes ≡ Some rest
  only_one (Bare x) rest is e = let same : bytes ≡ rest = cc in ap Some same
  only_one (Quoted inside) rest is e = let first : b ≡ 34 = cc in absurd (bare first)

first : (b : ℕ) (bytes : List ℕ) → First (b ∷ bytes)
first b bytes =
    elim (cases_eq b 34) [
      | inl quote ↦ first_quoted b bytes quote (closing bytes)
      | inr bare ↦ first_bare b bytes bare
    ]

-- ---- all pieces

comment_decided : (line : List ℕ) → Decided (IsComment line)
comment_decided [] = inr (λ h. let e = h.1 in cc)
comment_decided (b ∷ []) = inr (λ h. let e = h.1 in cc)
comment_decided (b ∷ d ∷ rest) =
    elim (cases_eq b 47) [
      | inl one ↦ elim (cases_eq d 47) [
        | inl two ↦ inl (rest, ap (λ (n : ℕ). n ∷ d ∷ rest) one ∙ ap (λ (n : ℕ). 47 ∷ n ∷ rest) two)
        | inr other ↦ inr (λ h. let e = h.1 in let second : d ≡ 47 = cc in other second)
      ]
      | inr other ↦ inr (λ h. let e = h.1 in let head : b ≡ 47 = cc in other head)
    ]

record Falls (line : List ℕ) : Type 0 where
  pieces : List Piece
  comment : List ℕ
  parts : line ≡ flat_map bytes_of pieces ++ comment
  each : ArePieces pieces comment
  ends : (comment ≡ []) ⊎ IsComment comment

-- a line that falls into pieces does so behind its first
record FallsOn (line : List ℕ) : Type 0 where
  piece : Piece
  rest : List ℕ
  is_piece : IsPiece piece
  parts : line ≡ bytes_of piece ++ rest
  falls : Falls rest

module _ (b : ℕ) (bytes : List ℕ) (no_comment : IsComment (b ∷ bytes) → ⊥) where
  falls_on_from : (ps : List Piece) (comment : List ℕ) → b ∷ bytes ≡ flat_map bytes_of ps ++ comment → ArePieces ps comment → (comment ≡ []) ⊎ IsComment comment → FallsOn (b ∷ bytes)
  falls_on_from [] comment parts each (inl none) = let e : b ∷ bytes ≡ [] = parts ∙ none in absurd cc
  falls_on_from [] comment parts each (inr begins) = absurd (no_comment (subst IsComment (sym parts) begins))
  falls_on_from (q ∷ ps) comment parts each ends = record {
    piece = q;
    rest = flat_map bytes_of ps ++ comment;
    is_piece = each.0;
    parts = parts ∙ append_assoc (bytes_of q) (flat_map bytes_of ps) comment;
    falls = record { pieces = ps; comment = comment; parts = refl; each = each.2; ends = ends };
  }

  falls_on : Falls (b ∷ bytes) → FallsOn (b ∷ bytes)
  falls_on f = falls_on_from f.pieces f.comment f.parts f.each f.ends

  joined : (p : Piece) (rest : List ℕ) → IsPiece p → b ∷ bytes ≡ bytes_of p ++ rest → Falls rest → Falls (b ∷ bytes)
  joined p rest is parts f =
      let whole : b ∷ bytes ≡ flat_map bytes_of (p ∷ f.pieces) ++ f.comment = parts ∙ ap (λ (l : List ℕ). bytes_of p ++ l) f.parts ∙ sym (append_assoc (bytes_of p) (flat_map bytes_of f.pieces) f.comment) in
      record { pieces = p ∷ f.pieces; comment = f.comment; parts = whole; each = (is, λ begins. no_comment (subst IsComment (sym whole) begins), f.each); ends = f.ends }

  piece_shorter : (p : Piece) (rest : List ℕ) → b ∷ bytes ≡ bytes_of p ++ rest → length rest ≤ length bytes
  piece_shorter (Bare x) rest e = let same : bytes ≡ rest = cc in let sizes = ap length same in omega arith
  piece_shorter (Quoted inside) rest e =
      let same : bytes ≡ (inside ++ 34 ∷ []) ++ rest = cc in
      let sizes : length bytes ≡ length (inside ++ 34 ∷ []) + length rest = ap length same ∙ length-append (inside ++ 34 ∷ []) rest in
      omega arith

  falls_step : (n : ℕ) → length bytes ≤ n → ((line : List ℕ) → length line ≤ n → Decided (Falls line)) → (f : First (b ∷ bytes))
      → (o : Option (List ℕ)) → f.behind ≡ o → Decided (Falls (b ∷ bytes))
  falls_step n le decide f None e = inr (λ falls. let x = falls_on falls in let some = f.only x.piece x.rest x.is_piece x.parts in cc)
  falls_step n le decide f (Some rest) e =
      let x = f.some rest e in
      let shorter = piece_shorter x.0 rest x.2 in
      elim (decide rest (omega arith)) [
        | inl falls ↦ inl (joined x.0 rest x.1 x.2 falls)
        | inr none ↦ inr (λ falls.
            let y = falls_on falls in
            let some = f.only y.piece y.rest y.is_piece y.parts in
            let same : y.rest ≡ rest = cc in
            none (subst Falls same y.falls))
      ]

falls_within : (n : ℕ) (line : List ℕ) → length line ≤ n → Decided (Falls line)
falls_within n [] le = inl (record { pieces = []; comment = []; parts = refl; each = tt; ends = inl refl })
falls_within zero (b ∷ bytes) le = absurd (omega arith)
falls_within (suc n) (b ∷ bytes) le =
    elim (comment_decided (b ∷ bytes)) [
      | inl begins ↦ inl (record { pieces = []; comment = b ∷ bytes; parts = refl; each = tt; ends = inr begins })
      | inr no_comment ↦ let f = first b bytes in falls_step b bytes no_comment n (omega arith) (falls_within n) f f.behind refl
    ]

-- a line has words or none
pub words_decided : (line : List ℕ) → Decided ((words : List (List ℕ)) × HasWords line words)
words_decided line =
    elim (falls_within (length line) line (omega arith)) [
      | inl f ↦ inl (words_in f.pieces, record { pieces = f.pieces; comment = f.comment; parts = f.parts; each = f.each; ends = f.ends; are = refl })
      | inr none ↦ inr (λ x. let h = x.1 in none (record { pieces = h.pieces; comment = h.comment; parts = h.parts; each = h.each; ends = h.ends }))
    ]
