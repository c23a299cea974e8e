-- Texts in a line: what has no white space and no comma outside quotes.
use Rattle.std.proofs.Common.{◌≡◌, ◌≢◌, ◌==◌, ℕ, zero, suc, ◌<◌, ◌≤◌, Bool, true, false, ◌&&◌, List, [], ◌∷◌, ◌++◌, refl, sym, ap, ap₂, subst, ◌∙◌, append_assoc, arith}
use Rattle.std.specs.Prelude.{not, nat_lt}
use Rattle.std.specs.List.{flat_map, list_all}
use Rattle.std.specs.Str.{IsUtf8}
use Rattle.std.proofs.lemmas.Bool.{and_parts, cond-false}
use Rattle.std.proofs.lemmas.Bool.Decides.{nat_tests}
use Rattle.std.proofs.lemmas.Grind.{flat_map-append}
use Rattle.std.proofs.lemmas.List.{append-nil}
use Rattle.std.proofs.lemmas.List.Folds.{list_all-append}
use Rattle.std.proofs.lemmas.Str.{IsUtf8-append, IsUtf8-nil}
use Rattle.asm_read.specs.Words.{ArePieces, Bare, IsComment, Piece, Quoted, before_first, bytes_of, is_white, runs}
use Rattle.asm_lines.specs.Labels.{escaped, quoted}
use Rattle.asm_lines.specs.Texts.{cut, with_text}
use Rattle.printed_lines.specs.Lines.{goes_on}
use Rattle.printed_lines.proofs.Escaping.{ascii_then, quoted_cut, quoted_inside, quoted_utf8, quoted_whole}

-- what stands as it is in one word and in one text
pub record IsText (w : List ℕ) : Type 0 where
  pub pieces : List Piece
  pub are : flat_map bytes_of pieces ≡ w
  pub each : (rest : List ℕ) → ArePieces pieces rest
  pub joined : (rest : List Piece) → runs (pieces ++ rest) ≡ with_text w (runs rest)
  pub uncut : (rest : List ℕ) → cut (w ++ rest) ≡ with_text w (cut rest)
  pub utf8 : IsUtf8 w
  pub whole : list_all goes_on w ≡ true

pub no_text : IsText []
no_text = record { pieces = []; are = refl; each = λ rest. tt; joined = λ rest. refl; uncut = λ rest. refl; utf8 = IsUtf8-nil; whole = refl }

-- ---- one behind another

front_of_front : (a b : List ℕ) (ts : List (List ℕ)) → before_first a (before_first b ts) ≡ before_first (a ++ b) ts
front_of_front a b [] = refl
front_of_front a b (t ∷ ts) = ap (λ (x : List ℕ). x ∷ ts) (sym (append_assoc a b t))

pub with_both : (a b : List ℕ) (ts : List (List ℕ)) → with_text a (with_text b ts) ≡ with_text (a ++ b) ts
with_both [] b ts = refl
with_both (c ∷ a) [] ts = ap (λ (x : List ℕ). before_first x ts) (sym (append-nil (c ∷ a)))
with_both (c ∷ a) (d ∷ b) ts = front_of_front (c ∷ a) (d ∷ b) ts

bytes_joined : (ps qs : List Piece) (rest : List ℕ) → flat_map bytes_of (ps ++ qs) ++ rest ≡ flat_map bytes_of ps ++ (flat_map bytes_of qs ++ rest)
bytes_joined ps qs rest = ap (λ (l : List ℕ). l ++ rest) (flat_map-append bytes_of ps qs) ∙ append_assoc (flat_map bytes_of ps) (flat_map bytes_of qs) rest

pub pieces_joined : (ps qs : List Piece) (rest : List ℕ) → ArePieces ps (flat_map bytes_of qs ++ rest) → ArePieces qs rest → ArePieces (ps ++ qs) rest
pieces_joined [] qs rest a b = b
pieces_joined (p ∷ ps) qs rest a b =
    (a.0, λ comment. a.1 (subst IsComment (bytes_joined (p ∷ ps) qs rest) comment), pieces_joined ps qs rest a.2 b)

both_true : (a b : Bool) → a ≡ true → b ≡ true → (a && b) ≡ true
both_true a b p q = cc

pub whole_joined : (a b : List ℕ) → list_all goes_on a ≡ true → list_all goes_on b ≡ true → list_all goes_on (a ++ b) ≡ true
whole_joined a b p q = list_all-append goes_on a b ∙ ap₂ (λ (x y : Bool). x && y) p q

pub joined_texts : (a b : List ℕ) → IsText a → IsText b → IsText (a ++ b)
joined_texts a b s t = record {
  pieces = s.pieces ++ t.pieces;
  are = flat_map-append bytes_of s.pieces t.pieces ∙ ap₂ (λ (x y : List ℕ). x ++ y) s.are t.are;
  each = λ rest. pieces_joined s.pieces t.pieces rest (s.each (flat_map bytes_of t.pieces ++ rest)) (t.each rest);
  joined = λ rest.
      ap runs (append_assoc s.pieces t.pieces rest) ∙ s.joined (t.pieces ++ rest)
      ∙ ap (with_text a) (t.joined rest) ∙ with_both a b (runs rest);
  uncut = λ rest.
      ap cut (append_assoc a b rest) ∙ s.uncut (b ++ rest)
      ∙ ap (with_text a) (t.uncut rest) ∙ with_both a b (cut rest);
  utf8 = IsUtf8-append a b s.utf8 t.utf8;
  whole = whole_joined a b s.whole t.whole;
}

-- ---- bytes that stand for themselves

pub record IsEasy (b : ℕ) : Type 0 where
  pub low : 32 < b
  pub high : b < 128
  pub no_quote : b ≢ 34
  pub no_slash : b ≢ 47
  pub no_comma : b ≢ 44

abbrev pub is_easy : ℕ → Bool
is_easy b = nat_lt 32 b && (nat_lt b 128 && (not (b == 34) && (not (b == 47) && not (b == 44))))

pub easy_is : (b : ℕ) → is_easy b ≡ true → IsEasy b
easy_is b e = record { low = grind (arith, nat_tests); high = grind (arith, nat_tests); no_quote = grind (arith, nat_tests); no_slash = grind (arith, nat_tests); no_comma = grind (arith, nat_tests) }

no_white : (b : ℕ) → IsEasy b → is_white b ≡ false
no_white b p = let low = p.low in grind (arith, nat_tests)

no_cut : (b : ℕ) → IsEasy b → (b == 44) ≡ false
no_cut b p = let comma = p.no_comma in grind (arith, nat_tests)

no_quote : (b : ℕ) → IsEasy b → (b == 34) ≡ false
no_quote b p = let quote = p.no_quote in grind (arith, nat_tests)

begins_slash : (b : ℕ) (rest behind : List ℕ) → b ∷ rest ≡ 47 ∷ 47 ∷ behind → b ≡ 47
begins_slash b rest behind e = cc

pub easy_byte : (b : ℕ) → IsEasy b → IsText (b ∷ [])
easy_byte b p = record {
  pieces = Bare b ∷ [];
  are = refl;
  each = λ rest. (p.no_quote, λ comment. p.no_slash (begins_slash b rest comment.0 comment.1), tt);
  joined = λ rest. cond-false (is_white b) ([] ∷ runs rest) (before_first (b ∷ []) (runs rest)) (no_white b p);
  uncut = λ rest. rw (no_cut b p, no_quote b p) refl;
  utf8 = ascii_then b [] p.high IsUtf8-nil;
  whole = let low = p.low in grind (arith, nat_tests);
}

pub easy_text : (w : List ℕ) → list_all is_easy w ≡ true → IsText w
easy_text [] e = no_text
easy_text (b ∷ w) e =
    let parts = and_parts (is_easy b) (list_all is_easy w) e in
    joined_texts (b ∷ []) w (easy_byte b (easy_is b parts.0)) (easy_text w parts.1)

-- ---- a slash before a digit, and quotes

second : (rest behind : List ℕ) → 47 ∷ 52 ∷ rest ≡ 47 ∷ 47 ∷ behind → ⊥
second rest behind e = let no : ◌≡◌ {A = ℕ} 52 47 = cc in omega arith

pub quarter : IsText (47 ∷ 52 ∷ [])
quarter = record {
  pieces = Bare 47 ∷ Bare 52 ∷ [];
  are = refl;
  each = λ rest. (
    (λ e. absurd (omega arith)),
    (λ comment. second rest comment.0 comment.1),
    ((λ e. absurd (omega arith)), (λ comment. let no : 52 ≡ 47 = begins_slash 52 rest comment.0 comment.1 in absurd (omega arith)), tt),
  );
  joined = λ rest. two_before (runs rest);
  uncut = λ rest. two_before (cut rest);
  utf8 = ascii_then 47 (52 ∷ []) (omega arith) (ascii_then 52 [] (omega arith) IsUtf8-nil);
  whole = refl;
}
  where
    two_before : (rs : List (List ℕ)) → before_first (47 ∷ []) (before_first (52 ∷ []) rs) ≡ before_first (47 ∷ 52 ∷ []) rs
    two_before rs = front_of_front (47 ∷ []) (52 ∷ []) rs

pub quoted_text : (name : List ℕ) → IsUtf8 name → IsText (quoted name)
quoted_text name utf8 = record {
  pieces = Quoted (flat_map escaped name) ∷ [];
  are = append-nil (quoted name);
  each = λ rest. (quoted_inside name, (λ comment. let no : 34 ≡ 47 = begins_slash 34 ((flat_map escaped name ++ 34 ∷ []) ++ [] ++ rest) comment.0 comment.1 in absurd (omega arith)), tt);
  joined = λ rest. refl;
  uncut = λ rest. quoted_cut name rest;
  utf8 = quoted_utf8 name utf8;
  whole = quoted_whole name;
}
