-- A word is one label, and a line says one thing.
use Rattle.std.proofs.Common.{◌≡◌, ◌⊎◌, ℕ, ℤ, Option, Some, None, List, [], ◌∷◌, ◌++◌, refl, sym, ap, subst, ◌∙◌, inl, inr, arith}
use Rattle.std.specs.List.{flat_map}
use Rattle.std.specs.Str.Parse.{digits_value}
use Rattle.std.proofs.lemmas.Bool.{cases_eq}
use Rattle.a64_forms.specs.declared.form.Aim.{Aim}
use Rattle.a64_forms.specs.declared.form.Aim.TheVariants as aims
use Rattle.a64_forms.specs.declared.form.Numbers.TheVariants.{Fitting}
use Rattle.a64_forms.specs.Number.{IsNumber}
use Rattle.asm_lines.specs.declared.expression.Sign.{Sign}
use Rattle.asm_lines.specs.declared.line.AsmExpr.{AsmExpr}
use Rattle.asm_lines.specs.declared.line.AsmItem.{AsmItem}
use Rattle.asm_lines.specs.declared.line.AsmItem.TheVariants as items
use Rattle.asm_lines.specs.declared.line.AsmLine.{AsmLine}
use Rattle.asm_lines.specs.declared.line.AsmLine.TheVariants as lines
use Rattle.asm_lines.specs.declared.line.AsmName.{AsmName}
use Rattle.asm_lines.specs.declared.run.Class.TheVariants.{Bare}
use Rattle.asm_lines.specs.Expressions.{IsExpression, IsOffset, IsSigned, signed}
use Rattle.asm_lines.specs.Instructions.{IsAimed, IsInstruction, IsTarget}
use Rattle.asm_lines.specs.Labels.{EndsLabel, HasFront, HasName, IsLabel, IsOrdinal, Stops, escaped}
use Rattle.asm_lines.specs.Lines.{IsLine, WordsSay}
use Rattle.asm_lines.specs.Texts.{texts_of}
use Rattle.asm_lines.proofs.Escapes.{heads, not_itself, tails, whole_name}
use Rattle.asm_lines.proofs.Fronts.{behind_quote, behind_sharp, front_name, label_front, label_then, no_some, same_digits, same_label, without_quote}
use Rattle.asm_lines.proofs.Offsets.{empty_offset, expression_ends, expression_front, same_expression, signed_part}
use Rattle.asm_lines.proofs.Runs.{all_of_bare, digits_are, label_stops_digit, one_run}
use Rattle.asm_lines.proofs.Sayings.{FormsBegin, OneForm, OneSplit, instruction_only, label_only}

-- ---- names

quote_first : (text : List ℕ) → ((inside : List ℕ) × (text ≡ 34 ∷ inside)) ⊎ ((inside : List ℕ) → text ≡ 34 ∷ inside → ⊥)
quote_first [] = inr (λ inside e. cc)
quote_first (b ∷ bytes) =
    elim (cases_eq b 34) [
      | inl e ↦ inl (bytes, ap (λ (n : ℕ). n ∷ bytes) e)
      | inr other ↦ inr (λ inside e. other (heads b 34 bytes inside e))
    ]

closing : (x : List ℕ) (b : ℕ) (behind : List ℕ) → 34 ∷ x ≡ escaped b ++ behind → ⊥
closing x b behind e = not_itself (34 ∷ x) x 34 refl (λ f. absurd (omega (arith, f))) (inl refl) b behind e

one_quoted : (m n x y : List ℕ) → flat_map escaped m ++ 34 ∷ x ≡ flat_map escaped n ++ 34 ∷ y → (m ≡ n) × (x ≡ y)
one_quoted m n x y e =
    let q = whole_name [] m (flat_map escaped m ++ 34 ∷ x) (34 ∷ x) (m, refl, refl) (closing x) n y e in
    (q.1, tails 34 34 x y q.0)

one_name : (text a b x y : List ℕ) → HasName text a x → HasName text b y → Stops Bare x → Stops Bare y → (a ≡ b) × (x ≡ y)
one_name text a b x y h k s t =
    elim (quote_first text) [
      | inl q ↦ one_quoted a b x y (sym (behind_quote text q.0 a x q.1 h) ∙ behind_quote text q.0 b y q.1 k)
      | inr other ↦
          let p = without_quote text a x other h in
          let r = without_quote text b y other k in
          one_run Bare a b x y (all_of_bare a p.1) (all_of_bare b r.1) s t (sym p.0 ∙ r.0)
    ]

-- ---- ordinals

one_ordinal : (v w : List ℕ) (o p : Option ℕ) (x y : List ℕ) → v ++ x ≡ w ++ y → IsOrdinal v o → IsOrdinal w p → EndsLabel x → EndsLabel y → (o ≡ p) × (x ≡ y)
one_ordinal v w None None x y e h k s t = (refl, sym (ap (λ (l : List ℕ). l ++ x) h) ∙ e ∙ ap (λ (l : List ℕ). l ++ y) k)
one_ordinal v w None (Some k) x y e h is s t =
    let b = behind_sharp (v ++ x) (is.0 ++ y) v x None (e ∙ ap (λ (l : List ℕ). l ++ y) is.1) refl h s in
    absurd (no_some b.1 b.2)
one_ordinal v w (Some k) None x y e is h s t =
    let b = behind_sharp (w ++ y) (is.0 ++ x) w y None (sym e ∙ ap (λ (l : List ℕ). l ++ x) is.1) refl h t in
    absurd (no_some b.1 b.2)
one_ordinal v w (Some k) (Some n) x y e is js s t =
    let whole : 35 ∷ (is.0 ++ x) ≡ 35 ∷ (js.0 ++ y) = sym (ap (λ (l : List ℕ). l ++ x) is.1) ∙ e ∙ ap (λ (l : List ℕ). l ++ y) js.1 in
    let q = same_digits (is.0 ++ x) is.0 x js.0 y n refl (digits_are is.0 is.2.0.numeral.1) (label_stops_digit x s) (tails 35 35 (is.0 ++ x) (js.0 ++ y) whole) js.2 t in
    (ap (λ (m : ℕ). Some m) (is.2.0.value ∙ ap (digits_value 10) q.0 ∙ sym js.2.0.value), q.1)

-- ---- labels

one_front : (text a b : List ℕ) (o p : Option ℕ) (x y : List ℕ) → HasFront text a o x → HasFront text b p y → EndsLabel x → EndsLabel y → (a ≡ b) × (o ≡ p) × (x ≡ y)
one_front text a b o p x y h k s t =
    let q = front_name text a x o h s in
    let r = front_name text b y p k t in
    let n = one_name text a b (h.1 ++ x) (k.1 ++ y) q.0 r.0 q.1 r.1 in
    let m = one_ordinal h.1 k.1 o p x y n.1 h.4 k.4 s t in
    (n.0, m.0, m.1)

pub one_label : (word : List ℕ) (a b : AsmName) → IsLabel word a → IsLabel word b → a ≡ b
one_label word a b is js =
    let q = one_front word a.name b.name a.ordinal b.ordinal [] [] (label_front word a is) (label_front word b js) tt tt in
    same_label a b q.0 q.1

-- what stands ahead of the end or of a sign is one label
pub one_label_ahead : (text a x b y : List ℕ) (m n : AsmName) → text ≡ a ++ x → text ≡ b ++ y → IsLabel a m → IsLabel b n → EndsLabel x → EndsLabel y → (m ≡ n) × (x ≡ y)
one_label_ahead text a x b y m n e f is js s t =
    let q = one_front text m.name n.name m.ordinal n.ordinal x y (label_then text a x m e is) (label_then text b y n f js) s t in
    (same_label m n q.0 q.1, q.2)

-- ---- expressions

-- the law of numbers: a word spells one at most
abbrev pub OneNumber : Type 0
OneNumber = (word : List ℕ) (m n : ℕ) → IsNumber word m → IsNumber word n → m ≡ n

one_signed : OneNumber → (sign : Sign) (digits : List ℕ) (a b : ℤ) → IsSigned sign digits a → IsSigned sign digits b → a ≡ b
one_signed law sign digits a b h k = h.2 ∙ ap (λ (n : ℕ). signed sign n) (law digits h.0 k.0 h.1 k.1) ∙ sym k.2

one_offset : OneNumber → (text : List ℕ) (a b : ℤ) → IsOffset text a → IsOffset text b → a ≡ b
one_offset law text a b is js = elim js [
  | inl h ↦ sym (empty_offset text h.0 a is) ∙ sym h.1
  | inr h ↦ one_signed law h.0 h.1 a b (signed_part text h.1 h.0 h.2 a is) h.3
]

pub one_expression : OneNumber → (text : List ℕ) (a b : AsmExpr) → IsExpression text a → IsExpression text b → a ≡ b
one_expression law text a b is js =
    let q = one_front text a.label.name b.label.name a.label.ordinal b.label.ordinal is.offset js.offset (expression_front text a is) (expression_front text b js) (expression_ends text a is) (expression_ends text b js) in
    same_expression a b (same_label a.label b.label q.0 q.1) (one_offset law js.offset a.offset b.offset (subst (λ (t : List ℕ). IsOffset t a.offset) q.2 is.offset_is) js.offset_is)

-- ---- instructions

one_aimed : OneNumber → (aim : Aim) (text : List ℕ) (a b : AsmExpr) → IsAimed aim text a → IsAimed aim text b → a ≡ b
one_aimed law aims.Label text a b is js = same_expression a b (one_label text a.label b.label is.0 js.0) (is.1 ∙ sym js.1)
one_aimed law aims.Expression text a b is js = one_expression law text a b is js

one_target : OneNumber → (t : Option (Aim × List ℕ)) (a b : Option AsmExpr) → IsTarget t a → IsTarget t b → a ≡ b
one_target law None None None is js = refl
one_target law None None (Some b) is js = absurd js
one_target law None (Some a) b is js = absurd is
one_target law (Some t) None b is js = absurd is
one_target law (Some t) (Some a) None is js = absurd js
one_target law (Some t) (Some a) (Some b) is js = ap (λ (e : AsmExpr). Some e) (one_aimed law t.0 t.1 a b is js)

one_item : OneForm → OneNumber → (texts : List (List ℕ)) (a b : AsmItem) → IsInstruction texts a → IsInstruction texts b → a ≡ b
one_item form law texts (items.Word bits target) b is js =
    ap (λ (n : ℕ). items.Word n target) is.2
    ∙ instruction_only form texts is.0 is.1 target (λ e named. one_target law is.0.target target e is.3 named) b js
one_item form law texts (items.Bytes bytes) b is js = absurd is
one_item form law texts (items.Zero count) b is js = absurd is
one_item form law texts (items.Quad e) b is js = absurd is
one_item form law texts (items.QuadDiff first second offset) b is js = absurd is
one_item form law texts (items.WordDiff first second offset) b is js = absurd is
one_item form law texts (items.Entry size scale first second) b is js = absurd is

-- ---- what words say

no_texts : (first second : List ℕ) (rest : List (List ℕ)) → [] ≡ first ∷ second ∷ rest → ⊥
no_texts first second rest e = cc

no_item : FormsBegin → (item : AsmItem) → IsInstruction [] item → ⊥
no_item begins (items.Word bits target) is = let q = begins Fitting [] is.0 is.1 in no_texts q.0 q.1 q.2 q.3
no_item begins (items.Bytes bytes) is = is
no_item begins (items.Zero count) is = is
no_item begins (items.Quad e) is = is
no_item begins (items.QuadDiff first second offset) is = is
no_item begins (items.WordDiff first second offset) is = is
no_item begins (items.Entry size scale first second) is = is

no_word : (word : List ℕ) → [] ≡ word ∷ [] → ⊥
no_word word e = cc

none_say : FormsBegin → (said : AsmLine) → WordsSay [] said → lines.Blank ≡ said
none_say begins lines.Blank h = refl
none_say begins (lines.Label name) h = absurd (no_word (h.0 ++ 58 ∷ []) h.1)
none_say begins (lines.Item item) h = absurd (no_item begins item h)
none_say begins (lines.Set name value) h = absurd h
none_say begins (lines.Section name) h = absurd h
none_say begins (lines.Interval uuid align residue) h = absurd h
none_say begins lines.Entry h = absurd h

blank_only : FormsBegin → (words : List (List ℕ)) → words ≡ [] → (said : AsmLine) → WordsSay words said → lines.Blank ≡ said
blank_only begins words none said h = none_say begins said (subst (λ (ws : List (List ℕ)). WordsSay ws said) none h)

label_alone : FormsBegin → (words : List (List ℕ)) (name : AsmName) → WordsSay words (lines.Label name) → (said : AsmLine) → WordsSay words said → lines.Label name ≡ said
label_alone begins words name h said k =
    label_only begins (h.0 ++ 58 ∷ []) h.0 name refl (λ other is. one_label h.0 name other h.2 is) said (subst (λ (ws : List (List ℕ)). WordsSay ws said) h.1 k)

words_say_one : FormsBegin → OneForm → OneNumber → (words : List (List ℕ)) (a b : AsmLine) → WordsSay words a → WordsSay words b → a ≡ b
words_say_one begins form law words lines.Blank b h k = blank_only begins words h b k
words_say_one begins form law words (lines.Label name) b h k = label_alone begins words name h b k
words_say_one begins form law words (lines.Item a) lines.Blank h k = sym (blank_only begins words k (lines.Item a) h)
words_say_one begins form law words (lines.Item a) (lines.Label name) h k = sym (label_alone begins words name k (lines.Item a) h)
words_say_one begins form law words (lines.Item a) (lines.Item b) h k = ap (λ (i : AsmItem). lines.Item i) (one_item form law (texts_of words) a b h k)
words_say_one begins form law words (lines.Item a) (lines.Set name value) h k = absurd k
words_say_one begins form law words (lines.Item a) (lines.Section name) h k = absurd k
words_say_one begins form law words (lines.Item a) (lines.Interval uuid align residue) h k = absurd k
words_say_one begins form law words (lines.Item a) lines.Entry h k = absurd k
words_say_one begins form law words (lines.Set name value) b h k = absurd h
words_say_one begins form law words (lines.Section name) b h k = absurd h
words_say_one begins form law words (lines.Interval uuid align residue) b h k = absurd h
words_say_one begins form law words lines.Entry b h k = absurd h

pub one_saying : OneSplit → FormsBegin → OneForm → OneNumber → (line : List ℕ) (a b : AsmLine) → IsLine line a → IsLine line b → a ≡ b
one_saying split begins form law line a b is js =
    words_say_one begins form law js.words a b (subst (λ (ws : List (List ℕ)). WordsSay ws a) (split line is.words js.words is.has js.has) is.such) js.such
