-- Words with spaces between them make a line.
use Rattle.std.proofs.Common.{◌≡◌, ◌==◌, ℕ, zero, suc, Bool, true, false, cond, List, [], ◌∷◌, ◌++◌, Option, Some, Result, Ok, Err, filter, inl, inr, refl, sym, ap, subst, ◌∙◌, append_assoc, arith}
use Rattle.std.specs.List.{AllByRecursion, flat_map, list_all}
use Rattle.std.specs.Str.{IsUtf8}
use Rattle.std.proofs.lemmas.Bool.{cond-true}
use Rattle.std.proofs.lemmas.Grind.{flat_map-append}
use Rattle.std.proofs.lemmas.List.{append-nil}
use Rattle.std.proofs.lemmas.Str.{IsUtf8-append, IsUtf8-nil}
use Rattle.asm_read.specs.Words.{ArePieces, Bare, HasWords, IsComment, Piece, before_first, bytes_of, is_some_bytes, runs, words_in}
use Rattle.asm_lines.specs.declared.line.AsmItem.{AsmItem}
use Rattle.asm_lines.specs.declared.line.AsmLine.{AsmLine}
use Rattle.asm_lines.specs.declared.line.AsmLine.TheVariants as lines
use Rattle.asm_lines.specs.Instructions.{IsInstruction}
use Rattle.asm_lines.specs.Lines.{HasSuch, IsDirectiveWord}
use Rattle.asm_lines.specs.Texts.{cut, texts_of, with_text}
use Rattle.asm_directives.specs.Lines.{AllSay, NamedSays}
use Rattle.asm_spelling.specs.Words.{spaced}
use Rattle.printed_lines.specs.Lines.{IsPrinted, goes_on}
use Rattle.printed_lines.proofs.Escaping.{ascii_then}
use Rattle.printed_lines.proofs.Texts.{IsText, pieces_joined, whole_joined, with_both}

-- one word, and one text
pub record IsWord (w : List ℕ) : Type 0 where
  pub some : is_some_bytes w ≡ true
  pub pieces : List Piece
  pub are : flat_map bytes_of pieces ≡ w
  pub each : (rest : List ℕ) → ArePieces pieces rest
  pub joined : (rest : List Piece) → runs (pieces ++ rest) ≡ with_text w (runs rest)
  pub utf8 : IsUtf8 w
  pub whole : list_all goes_on w ≡ true
  pub uncut : cut w ≡ w ∷ []

alone : (w : List ℕ) → is_some_bytes w ≡ true → with_text w [] ≡ w ∷ []
alone [] e = absurd cc
alone (b ∷ w) e = refl

pub one_word : (w : List ℕ) → IsText w → is_some_bytes w ≡ true → IsWord w
one_word w t some = record {
  some = some;
  pieces = t.pieces;
  are = t.are;
  each = t.each;
  joined = t.joined;
  utf8 = t.utf8;
  whole = t.whole;
  uncut = ap cut (sym (append-nil w)) ∙ t.uncut [] ∙ alone w some;
}

-- ---- a text with the comma behind it

some_pushed : (w : List ℕ) (b : ℕ) → is_some_bytes (w ++ b ∷ []) ≡ true
some_pushed [] b = refl
some_pushed (c ∷ w) b = refl

ended : (w : List ℕ) → with_text w ((44 ∷ []) ∷ []) ≡ (w ++ 44 ∷ []) ∷ []
ended [] = refl
ended (b ∷ w) = refl

begins_slash : (b : ℕ) (rest behind : List ℕ) → b ∷ rest ≡ 47 ∷ 47 ∷ behind → b ≡ 47
begins_slash b rest behind e = cc

no_comment : (b : ℕ) → (b ≡ 47 → ⊥) → (rest : List ℕ) → IsComment (b ∷ rest) → ⊥
no_comment b other rest comment = other (begins_slash b rest comment.0 comment.1)

comma_alone : (rest : List ℕ) → ArePieces (Bare 44 ∷ []) rest
comma_alone rest = ((λ e. absurd (omega arith)), no_comment 44 (λ e. absurd (omega arith)) rest, tt)

pub before_comma : (w : List ℕ) → IsText w → IsWord (w ++ 44 ∷ [])
before_comma w t = record {
  some = some_pushed w 44;
  pieces = t.pieces ++ Bare 44 ∷ [];
  are = flat_map-append bytes_of t.pieces (Bare 44 ∷ []) ∙ ap (λ (x : List ℕ). x ++ 44 ∷ []) t.are;
  each = λ rest. pieces_joined t.pieces (Bare 44 ∷ []) rest (t.each (44 ∷ rest)) (comma_alone rest);
  joined = λ rest.
      ap runs (append_assoc t.pieces (Bare 44 ∷ []) rest) ∙ t.joined (Bare 44 ∷ rest) ∙ with_both w (44 ∷ []) (runs rest);
  utf8 = IsUtf8-append w (44 ∷ []) t.utf8 (ascii_then 44 [] (omega arith) IsUtf8-nil);
  whole = whole_joined w (44 ∷ []) t.whole refl;
  uncut = t.uncut (44 ∷ []) ∙ ended w;
}

-- ---- lines

-- the line has these words
pub record IsSpaced (line : List ℕ) (ws : List (List ℕ)) : Type 0 where
  pub pieces : List Piece
  pub are : flat_map bytes_of pieces ≡ line
  pub each : (rest : List ℕ) → ArePieces pieces rest
  pub words : words_in pieces ≡ ws
  pub utf8 : IsUtf8 line
  pub whole : list_all goes_on line ≡ true

first_run : (w : List ℕ) (rs : List (List ℕ)) → is_some_bytes w ≡ true → filter is_some_bytes (with_text w ([] ∷ rs)) ≡ w ∷ filter is_some_bytes rs
first_run [] rs e = absurd cc
first_run (b ∷ w) rs e = ap (λ (x : List ℕ). x ∷ filter is_some_bytes rs) (append-nil (b ∷ w))

pub last_word : (w : List ℕ) → IsWord w → IsSpaced w (w ∷ [])
last_word w p = record {
  pieces = p.pieces;
  are = p.are;
  each = p.each;
  words = ap words_in (sym (append-nil p.pieces)) ∙ ap (filter is_some_bytes) (p.joined []) ∙ first_run w [] p.some;
  utf8 = p.utf8;
  whole = p.whole;
}

space_before : (rest : List ℕ) (ps : List Piece) → ArePieces ps rest → ArePieces (Bare 32 ∷ ps) rest
space_before rest ps each = ((λ e. absurd (omega arith)), no_comment 32 (λ e. absurd (omega arith)) (flat_map bytes_of ps ++ rest), each)

pub more_words : (w line : List ℕ) (ws : List (List ℕ)) → IsWord w → IsSpaced line ws → IsSpaced (w ++ 32 ∷ line) (w ∷ ws)
more_words w line ws p s = record {
  pieces = p.pieces ++ Bare 32 ∷ s.pieces;
  are = flat_map-append bytes_of p.pieces (Bare 32 ∷ s.pieces) ∙ ap (λ (x : List ℕ). x ++ 32 ∷ flat_map bytes_of s.pieces) p.are ∙ ap (λ (x : List ℕ). w ++ 32 ∷ x) s.are;
  each = λ rest. pieces_joined p.pieces (Bare 32 ∷ s.pieces) rest (p.each (32 ∷ flat_map bytes_of s.pieces ++ rest)) (space_before rest s.pieces (s.each rest));
  words = ap (filter is_some_bytes) (p.joined (Bare 32 ∷ s.pieces)) ∙ first_run w (runs s.pieces) p.some ∙ ap (λ (x : List (List ℕ)). w ∷ x) s.words;
  utf8 = IsUtf8-append w (32 ∷ line) p.utf8 (ascii_then 32 line (omega arith) s.utf8);
  whole = whole_joined w (32 ∷ line) p.whole s.whole;
}

space_first : (line : List ℕ) (ws : List (List ℕ)) → IsSpaced line ws → IsSpaced (32 ∷ line) ws
space_first line ws s = record {
  pieces = Bare 32 ∷ s.pieces;
  are = ap (λ (x : List ℕ). 32 ∷ x) s.are;
  each = λ rest. space_before rest s.pieces (s.each rest);
  words = s.words;
  utf8 = ascii_then 32 line (omega arith) s.utf8;
  whole = s.whole;
}

pub indented : (line : List ℕ) (ws : List (List ℕ)) → IsSpaced line ws → IsSpaced (32 ∷ 32 ∷ 32 ∷ 32 ∷ line) ws
indented line ws s = space_first (32 ∷ 32 ∷ 32 ∷ line) ws (space_first (32 ∷ 32 ∷ line) ws (space_first (32 ∷ line) ws (space_first line ws s)))

pub spaced_words : (w : List ℕ) (ws : List (List ℕ)) → IsWord w → AllByRecursion IsWord ws → IsSpaced (spaced (w ∷ ws)) (w ∷ ws)
spaced_words w [] p ps = subst (λ (line : List ℕ). IsSpaced line (w ∷ [])) (sym (append-nil w)) (last_word w p)
spaced_words w (v ∷ ws) p ps = more_words w (spaced (v ∷ ws)) (v ∷ ws) p (spaced_words v ws ps.0 ps.1)

cut_apart : (ws : List (List ℕ)) → AllByRecursion IsWord ws → flat_map cut ws ≡ ws
cut_apart [] ps = refl
cut_apart (w ∷ ws) ps = ap (λ (x : List (List ℕ)). x ++ flat_map cut ws) ps.0.uncut ∙ ap (λ (x : List (List ℕ)). w ∷ x) (cut_apart ws ps.1)

pub texts_are : (w : List ℕ) (ws : List (List ℕ)) → AllByRecursion IsWord ws → texts_of (w ∷ ws) ≡ w ∷ ws
texts_are w ws ps = ap (λ (x : List (List ℕ)). w ∷ x) (cut_apart ws ps)

-- ---- what lines say

pub printed : (line : List ℕ) (ws : List (List ℕ)) (said : AsmLine) → IsSpaced line ws → AllSay ws said → IsPrinted line said
printed line ws said s says = record {
  says = record {
    utf8 = s.utf8;
    words = ws;
    has = record {
      pieces = s.pieces;
      comment = [];
      parts = sym s.are ∙ sym (append-nil (flat_map bytes_of s.pieces));
      each = s.each [];
      ends = inl refl;
      are = sym s.words;
    };
    such = says;
  };
  whole = s.whole;
}

-- the last byte of a text
abbrev pub last : List ℕ → ℕ
last [] = 0
last (b ∷ []) = b
last (b ∷ c ∷ bytes) = last (c ∷ bytes)

last_pushed : (front : List ℕ) (b : ℕ) → last (front ++ b ∷ []) ≡ b
last_pushed [] b = refl
last_pushed (c ∷ []) b = refl
last_pushed (c ∷ d ∷ front) b = last_pushed (d ∷ front) b

pub directive_word : (first behind : List ℕ) → first ≡ 46 ∷ behind → (last first ≡ 58 → ⊥) → IsDirectiveWord first
directive_word first behind dot other = (behind, dot, λ front e. other (ap last e ∙ last_pushed front 58))

pub directive_says : (first : List ℕ) (operands : List (List ℕ)) (said : AsmLine) → IsDirectiveWord first → AllByRecursion IsWord operands → NamedSays first operands (Ok said) → AllSay (first ∷ operands) said
directive_says first operands said begins words says = elim says [
  | inl none ↦ absurd (ok_is said none.1)
  | inr s ↦ inl (first, operands, s.0, (texts_are first operands words, begins), s.1, s.2)
]
  where
    ok_is : {E : Type 0} {e : E} (x : AsmLine) → Ok x ≡ Err e → ⊥
    ok_is x e = cc

pub instruction_says : (mnemonic : List ℕ) (operands : List (List ℕ)) (item : AsmItem) → AllByRecursion IsWord operands → IsInstruction (mnemonic ∷ operands) item → AllSay (mnemonic ∷ operands) (lines.Item item)
instruction_says mnemonic operands item words is = inr (subst (λ (ts : List (List ℕ)). IsInstruction ts item) (sym (texts_are mnemonic operands words)) is)
