-- Names and ordinals at the front of a text.
use Rattle.std.proofs.Common.{◌≡◌, ◌≢◌, ◌⊎◌, ◌↔◌, ◌<◌, ◌^◌, ℕ, ◌==◌, Bool, true, false, IsTrue, List, [], ◌∷◌, ◌++◌, length, get_or, Option, Some, None, Result, Ok, Err, refl, sym, ap, subst, ◌∙◌, append_assoc, inl, inr, arith}
use Rattle.std.specs.Prelude.{IfOk, IfSome, IsSomeAnd, IsUtf8}
use Rattle.std.specs.List.{flat_map}
use Rattle.std.specs.Str.Parse.{digits_value}
use Rattle.std.proofs.lemmas.List.{append-nil}
use Rattle.gr_base.specs.declared.end.End.{End}
use Rattle.gr_base.specs.declared.end.End.TheVariants as ends
use Rattle.asm_read.specs.declared.fault.TextReason.{TextReason}
use Rattle.a64_forms.specs.Number.{IsDecimal, IsHexadecimal, IsNumber}
use Rattle.asm_lines.specs.declared.line.AsmName.{AsmName}
use Rattle.asm_lines.specs.declared.run.Class.TheVariants.{Bare, Digit}
use Rattle.asm_lines.specs.Labels.{AreOrdinal, EndsLabel, HasFront, HasName, IsBare, IsLabel, IsName, IsOrdinal, Stops, begins_bare, escaped, quoted}
use Rattle.asm_lines.proofs.Escapes.{heads, tails}
use Rattle.asm_lines.proofs.Runs.{All, digits_are, label_stops_bare, label_stops_digit, one_run}

-- ---- names

-- a name between quotes, with what stands behind it
quoted_then : (name rest : List ℕ) → quoted name ++ rest ≡ 34 ∷ (flat_map escaped name ++ 34 ∷ rest)
quoted_then name rest = ap (λ (t : List ℕ). 34 ∷ t) (append_assoc (flat_map escaped name) (34 ∷ []) rest)

pub quoted_name : (text inside name rest : List ℕ) → text ≡ 34 ∷ inside → inside ≡ flat_map escaped name ++ 34 ∷ rest → HasName text name rest
quoted_name text inside name rest e is = (quoted name, e ∙ ap (λ (t : List ℕ). 34 ∷ t) is ∙ sym (quoted_then name rest), inr refl)

no_bare_quote : (bytes : List ℕ) → IsBare (34 ∷ bytes) → ⊥
no_bare_quote bytes is = let h = is.0 in cc

bare_begins : (word rest inside : List ℕ) → IsBare word → 34 ∷ inside ≡ word ++ rest → ⊥
bare_begins [] rest inside is e = is
bare_begins (b ∷ word) rest inside is e = no_bare_quote word (subst (λ (n : ℕ). IsBare (n ∷ word)) (sym (heads 34 b inside (word ++ rest) e)) is)

-- behind a quote stands a name between quotes
pub behind_quote : (text inside name rest : List ℕ) → text ≡ 34 ∷ inside → HasName text name rest → inside ≡ flat_map escaped name ++ 34 ∷ rest
behind_quote text inside name rest e h = elim h.2 [
  | inl bare ↦ absurd (bare_begins h.0 rest inside bare.0 (sym e ∙ h.1))
  | inr is ↦ tails 34 34 inside (flat_map escaped name ++ 34 ∷ rest) (sym e ∙ h.1 ∙ ap (λ (w : List ℕ). w ++ rest) is ∙ quoted_then name rest)
]

pub bare_name : (text bare rest : List ℕ) → text ≡ bare ++ rest → IsBare bare → HasName text bare rest
bare_name text bare rest e is = (bare, e, inl (is, refl))

-- without a quote stands a bare name
pub without_quote : (text name rest : List ℕ) → ((inside : List ℕ) → text ≡ 34 ∷ inside → ⊥) → HasName text name rest → (text ≡ name ++ rest) × IsBare name
without_quote text name rest other h = elim h.2 [
  | inl bare ↦ (h.1 ∙ ap (λ (w : List ℕ). w ++ rest) bare.1, subst IsBare bare.1 bare.0)
  | inr is ↦ absurd (other (flat_map escaped name ++ 34 ∷ rest) (h.1 ∙ ap (λ (w : List ℕ). w ++ rest) is ∙ quoted_then name rest))
]

-- ---- ordinals

pub no_some : (k : ℕ) → None ≡ Some k → ⊥
no_some k e = cc

pub no_ordinal : (digits : List ℕ) → get_or digits 0 0 ≡ 48 → (k : ℕ) → (None ≡ Some k) ↔ AreOrdinal digits k
no_ordinal digits first k = (λ e. absurd (no_some k e), λ is. absurd (is.1 first))

hexadecimal_begins : (digits : List ℕ) (k : ℕ) → IsHexadecimal digits k → get_or digits 0 0 ≡ 48
hexadecimal_begins digits k h = ap (λ (ds : List ℕ). get_or ds 0 0) h.spelled

pub ordinal_number : (digits : List ℕ) (r : Option ℕ) → get_or digits 0 0 ≢ 48 → ((n : ℕ) → (r ≡ Some n) ↔ IsNumber digits n) → (k : ℕ) → (r ≡ Some k) ↔ AreOrdinal digits k
ordinal_number digits r first read k = (
  λ e. let is = (read k).0 e in elim is.0 [ inl d ↦ (d, first, is.1) | inr h ↦ absurd (first (hexadecimal_begins digits k h)) ],
  λ is. (read k).1 (inl is.0, is.2),
)

ordinal_digits : (digits : List ℕ) (k : ℕ) → AreOrdinal digits k → All Digit digits
ordinal_digits digits k is = digits_are digits is.0.numeral.1

-- the digits that were found are those of the ordinal
pub same_digits : (text front back digits rest : List ℕ) (k : ℕ) → text ≡ front ++ back → All Digit front → Stops Digit back → text ≡ digits ++ rest → AreOrdinal digits k → EndsLabel rest → (front ≡ digits) × (back ≡ rest)
same_digits text front back digits rest k e all stops f is ends = one_run Digit front digits back rest all (ordinal_digits digits k is) stops (label_stops_digit rest ends) (sym e ∙ f)

no_sharp : (behind rest : List ℕ) → rest ≡ 35 ∷ behind → EndsLabel rest → ⊥
no_sharp behind rest e ends = elim (subst EndsLabel e ends) [ inl f ↦ absurd (omega (arith, f)) | inr f ↦ absurd (omega (arith, f)) ]

-- behind `#` stands an ordinal
pub behind_sharp : (text behind word rest : List ℕ) (ordinal : Option ℕ) → text ≡ 35 ∷ behind → text ≡ word ++ rest → IsOrdinal word ordinal → EndsLabel rest → (digits : List ℕ) × (k : ℕ) × (ordinal ≡ Some k) × (behind ≡ digits ++ rest) × AreOrdinal digits k
behind_sharp text behind word rest None e f is ends = absurd (no_sharp behind rest (sym (f ∙ ap (λ (w : List ℕ). w ++ rest) is) ∙ e) ends)
behind_sharp text behind word rest (Some k) e f is ends = (is.0, k, refl, tails 35 35 behind (is.0 ++ rest) (sym e ∙ f ∙ ap (λ (w : List ℕ). w ++ rest) is.1), is.2)

pub without_sharp : (text word rest : List ℕ) (ordinal : Option ℕ) → ((behind : List ℕ) → text ≡ 35 ∷ behind → ⊥) → text ≡ word ++ rest → IsOrdinal word ordinal → (None ≡ ordinal) × (text ≡ rest)
without_sharp text word rest None other e is = (refl, e ∙ ap (λ (w : List ℕ). w ++ rest) is)
without_sharp text word rest (Some k) other e is = absurd (other (is.0 ++ rest) (e ∙ ap (λ (w : List ℕ). w ++ rest) is.1))

ordinal_stops : (word rest : List ℕ) (ordinal : Option ℕ) → IsOrdinal word ordinal → EndsLabel rest → Stops Bare (word ++ rest)
ordinal_stops word rest None is ends = subst (λ (w : List ℕ). Stops Bare (w ++ rest)) (sym is) (label_stops_bare rest ends)
ordinal_stops word rest (Some k) is ends = subst (λ (w : List ℕ). Stops Bare (w ++ rest)) (sym is.1) refl

-- ---- fronts

pub front : (text name behind word rest : List ℕ) (ordinal : Option ℕ) → HasName text name behind → behind ≡ word ++ rest → IsOrdinal word ordinal → HasFront text name ordinal rest
front text name behind word rest ordinal h e is = (h.0, word, h.1 ∙ ap (λ (b : List ℕ). h.0 ++ b) e, h.2, is)

pub front_name : (text name rest : List ℕ) (ordinal : Option ℕ) → (h : HasFront text name ordinal rest) → EndsLabel rest → HasName text name (h.1 ++ rest) × Stops Bare (h.1 ++ rest)
front_name text name rest ordinal h ends = ((h.0, h.2, h.3), ordinal_stops h.1 rest ordinal h.4 ends)

-- ---- labels

pub label_of : (word : List ℕ) (label : AsmName) (rest : List ℕ) → HasFront word label.name label.ordinal rest → rest ≡ [] → IsUtf8 label.name → IsLabel word label
label_of word label rest h none utf8 = record {
  spelling = h.0;
  ordinal = h.1;
  parts = h.2 ∙ ap (λ (r : List ℕ). h.0 ++ (h.1 ++ r)) none ∙ ap (λ (w : List ℕ). h.0 ++ w) (append-nil h.1);
  name_is = h.3;
  utf8 = utf8;
  ordinal_is = h.4;
}

pub label_front : (word : List ℕ) (label : AsmName) → IsLabel word label → HasFront word label.name label.ordinal []
label_front word label is = (is.spelling, is.ordinal, is.parts ∙ ap (λ (w : List ℕ). is.spelling ++ w) (sym (append-nil is.ordinal)), is.name_is, is.ordinal_is)

pub label_then : (text label rest : List ℕ) (name : AsmName) → text ≡ label ++ rest → IsLabel label name → HasFront text name.name name.ordinal rest
label_then text label rest name e is = (
  is.spelling,
  is.ordinal,
  e ∙ ap (λ (l : List ℕ). l ++ rest) is.parts ∙ append_assoc is.spelling is.ordinal rest,
  is.name_is,
  is.ordinal_is,
)

-- what stands before the rest is a label
pub then_label : (text rest : List ℕ) (name : AsmName) → (h : HasFront text name.name name.ordinal rest) → IsUtf8 name.name → (text ≡ (h.0 ++ h.1) ++ rest) × IsLabel (h.0 ++ h.1) name
then_label text rest name h utf8 = (
  h.2 ∙ sym (append_assoc h.0 h.1 rest),
  record { spelling = h.0; ordinal = h.1; parts = refl; name_is = h.3; utf8 = utf8; ordinal_is = h.4 },
)

abbrev named : List ℕ → Option ℕ → AsmName
named name ordinal = record { name = name; ordinal = ordinal }

pub same_label : (a b : AsmName) → a.name ≡ b.name → a.ordinal ≡ b.ordinal → a ≡ b
same_label a b e f = ap (λ (n : List ℕ). named n a.ordinal) e ∙ ap (λ (o : Option ℕ). named b.name o) f

-- ---- what readers answer

pub quoted_entry : (text inside old new more rest : List ℕ) → text ≡ 34 ∷ inside → old ≡ [] → new ≡ old ++ more → inside ≡ flat_map escaped more ++ 34 ∷ rest → HasName text new rest
quoted_entry text inside old new more rest e none n is =
    subst (λ (m : List ℕ). HasName text m rest) (sym (n ∙ ap (λ (o : List ℕ). o ++ more) none)) (quoted_name text inside more rest e is)

pub some_left : (rest : List ℕ) (r : Bool) → r ≡ (length rest == 0) → r ≡ false → rest ≡ [] → ⊥
some_left rest r e f none =
    let whole : false ≡ true = sym f ∙ e ∙ ap (λ (t : List ℕ). length t == 0) none in
    cc

pub memory_left : (T : Type 0) (end : End TextReason) → ((reason : TextReason) → ◌≡◌ {A = Result T (End TextReason)} (Err end) (Err (ends.Fault reason)) → ⊥) → end ≡ ends.Memory
memory_left T (ends.Fault reason) none = absurd (none reason refl)
memory_left T ends.Memory none = refl

pub mapped_some : {A : Type 0} (r : Option A) (P Q : A → Type 0) → ((x : A) → P x → Q x) → IfSome r P → IfSome r Q
mapped_some None P Q f h = tt
mapped_some (Some x) P Q f h = f x h

pub mapped_ok : {A E : Type 0} (r : Result A E) (P Q : A → Type 0) → ((x : A) → P x → Q x) → IfOk r P → IfOk r Q
mapped_ok (Ok x) P Q f h = f x h
mapped_ok (Err e) P Q f h = tt
