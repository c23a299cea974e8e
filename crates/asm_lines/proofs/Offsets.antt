-- Offsets and label expressions.
use Rattle.std.proofs.Common.{◌≡◌, ◌≢◌, ◌⊎◌, ◌↔◌, ℕ, ℤ, pos, ◌-ℤ◌, Bool, true, false, IsTrue, List, [], ◌∷◌, ◌++◌, length, Option, Some, None, Result, Ok, Err, refl, sym, ap, subst, ◌∙◌, inl, inr, arith}
use Rattle.std.specs.Prelude.{FitsSigned, IfOk, IsUtf8, SomeIff}
use Rattle.std.specs.Int.{w64}
use Rattle.gr_base.specs.declared.end.End.{End}
use Rattle.gr_base.specs.declared.end.End.TheVariants as ends
use Rattle.asm_read.specs.declared.fault.TextReason.{TextReason}
use Rattle.asm_read.specs.declared.fault.TextReason.TheVariants as reasons
use Rattle.a64_forms.specs.Number.{IsNumber, IsNumberWord}
use Rattle.asm_lines.specs.declared.expression.Sign.{Sign}
use Rattle.asm_lines.specs.declared.expression.Sign.TheVariants.{Plus, Minus}
use Rattle.asm_lines.specs.declared.line.AsmExpr.{AsmExpr}
use Rattle.asm_lines.specs.declared.line.AsmName.{AsmName}
use Rattle.asm_lines.specs.Expressions.{HasExpressionShape, HasOffsetShape, IsExpression, IsOffset, IsSigned, Tells, byte_of, signed}
use Rattle.asm_lines.specs.Labels.{EndsLabel, HasFront, IsLabel}
use Rattle.asm_lines.proofs.Escapes.{heads, tails}
use Rattle.asm_lines.proofs.Fronts.{label_then, then_label}

-- ---- reasons

abbrev pub refused : {T : Type 0} → TextReason → Result T (End TextReason)
refused reason = Err (ends.Fault reason)

pub same_reason : {T : Type 0} (a b : TextReason) → refused {T = T} a ≡ refused {T = T} b → a ≡ b
same_reason a b e = cc

pub tells : {T : Type 0} (a b : TextReason) (P : Type 0) → Tells a P → refused {T = T} a ≡ refused {T = T} b → Tells b P
tells {T} a b P h e = subst (λ (r : TextReason). Tells r P) (same_reason {T = T} a b e) h

-- what serves in one place serves in the other
pub tells_of : (reason : TextReason) (P Q : Type 0) → (P → Q) → (Q → P) → Tells reason P → Tells reason Q
tells_of reasons.Number P Q f g h = f h
tells_of reasons.Syntax P Q f g h = λ q. h (g q)
tells_of reasons.LabelTwice P Q f g h = h
tells_of reasons.LabelUnknown P Q f g h = h
tells_of reasons.Directive P Q f g h = h

-- ---- numbers with their signs

some_same : {A : Type 0} (a b : A) → Some a ≡ Some b → a ≡ b
some_same a b e = cc

pub no_some : {A : Type 0} (a : A) → None ≡ Some a → ⊥
no_some a e = cc

pub signed_some : (sign : Sign) (digits : List ℕ) (r : Option ℤ) (k : ℕ) (v : ℤ) → ((n : ℕ) → (Some k ≡ Some n) ↔ IsNumber digits n) → v ≡ signed sign k → SomeIff r (FitsSigned w64 v) v → (offset : ℤ) → (r ≡ Some offset) ↔ IsSigned sign digits offset
signed_some sign digits None k v read e fits offset = (
  λ a. absurd (no_some offset a),
  λ is.
      let same : k ≡ is.0 = some_same k is.0 ((read is.0).1 is.1) in
      let value : offset ≡ v = is.2 ∙ ap (λ (n : ℕ). signed sign n) (sym same) ∙ sym e in
      absurd (fits (subst (λ (w : ℤ). FitsSigned w64 w) value is.3)),
)
signed_some sign digits (Some x) k v read e fits offset = (
  λ a.
      let same : offset ≡ v = sym (some_same x offset a) ∙ fits.1 in
      (k, (read k).0 refl, same ∙ e, subst (λ (w : ℤ). FitsSigned w64 w) (sym same) fits.0),
  λ is.
      let same : k ≡ is.0 = some_same k is.0 ((read is.0).1 is.1) in
      ap (λ (w : ℤ). Some w) (fits.1 ∙ e ∙ ap (λ (n : ℕ). signed sign n) same ∙ sym is.2),
)

pub signed_none : (sign : Sign) (digits : List ℕ) → ((n : ℕ) → (None ≡ Some n) ↔ IsNumber digits n) → (offset : ℤ) → (None ≡ Some offset) ↔ IsSigned sign digits offset
signed_none sign digits read offset = (λ a. absurd (no_some offset a), λ is. absurd (no_some is.0 ((read is.0).1 is.1)))

word_of_number : (digits : List ℕ) (n : ℕ) → IsNumber digits n → IsNumberWord digits
word_of_number digits n is = elim is.0 [ inl d ↦ inl d.numeral | inr h ↦ inr (h.digits, h.spelled, h.numeral) ]

-- ---- offsets

no_text : (b : ℕ) (digits : List ℕ) → [] ≡ b ∷ digits → ⊥
no_text b digits e = cc

pub empty_offset : (text : List ℕ) → text ≡ [] → (offset : ℤ) → IsOffset text offset → pos 0 ≡ offset
empty_offset text none offset is = elim is [ inl h ↦ sym h.1 | inr h ↦ absurd (no_text (byte_of h.0) h.1 (sym none ∙ h.2)) ]

same_sign : (a b : Sign) → byte_of a ≡ byte_of b → a ≡ b
same_sign Plus Plus e = refl
same_sign Plus Minus e = absurd (omega (arith, e))
same_sign Minus Plus e = absurd (omega (arith, e))
same_sign Minus Minus e = refl

pub signed_part : (text digits : List ℕ) (sign : Sign) → text ≡ byte_of sign ∷ digits → (offset : ℤ) → IsOffset text offset → IsSigned sign digits offset
signed_part text digits sign e offset is = elim is [
  | inl h ↦ absurd (no_text (byte_of sign) digits (sym h.0 ∙ e))
  | inr h ↦
      let signs : h.0 ≡ sign = same_sign h.0 sign (heads (byte_of h.0) (byte_of sign) h.1 digits (sym h.2 ∙ e)) in
      let rests : h.1 ≡ digits = tails (byte_of h.0) (byte_of sign) h.1 digits (sym h.2 ∙ e) in
      subst (λ (s : Sign). IsSigned s digits offset) signs (subst (λ (ds : List ℕ). IsSigned h.0 ds offset) rests h.3)
]

pub signed_shape : (text digits : List ℕ) (sign : Sign) (reason : TextReason) → text ≡ byte_of sign ∷ digits → Tells reason (IsNumberWord digits) → Tells reason (HasOffsetShape text)
signed_shape text digits sign reason e h = tells_of reason (IsNumberWord digits) (HasOffsetShape text) (λ word. inr (sign, digits, e, word)) back h
  where
    back : HasOffsetShape text → IsNumberWord digits
    back is = elim is [
      | inl none ↦ absurd (no_text (byte_of sign) digits (sym none ∙ e))
      | inr h ↦ subst IsNumberWord (tails (byte_of h.0) (byte_of sign) h.1 digits (sym h.2 ∙ e)) h.3
    ]

-- another byte begins no offset
pub no_shape : (text : List ℕ) → (text ≡ [] → ⊥) → ((rest : List ℕ) → text ≡ 43 ∷ rest → ⊥) → ((rest : List ℕ) → text ≡ 45 ∷ rest → ⊥) → HasOffsetShape text → ⊥
no_shape text some plus minus is = elim is [ inl none ↦ some none | inr h ↦ by_sign h.0 h.1 h.2 ]
  where
    by_sign : (sign : Sign) (digits : List ℕ) → text ≡ byte_of sign ∷ digits → ⊥
    by_sign Plus digits e = plus digits e
    by_sign Minus digits e = minus digits e

pub shape_of_offset : (text : List ℕ) (offset : ℤ) → IsOffset text offset → HasOffsetShape text
shape_of_offset text offset is = elim is [ inl h ↦ inl h.0 | inr h ↦ inr (h.0, h.1, h.2, word_of_number h.1 h.3.0 h.3.1) ]

pub shape_ends : (text : List ℕ) → HasOffsetShape text → EndsLabel text
shape_ends text is = elim is [ inl none ↦ subst EndsLabel (sym none) tt | inr h ↦ subst EndsLabel (sym h.2) (by_sign h.0 h.1) ]
  where
    by_sign : (sign : Sign) (digits : List ℕ) → EndsLabel (byte_of sign ∷ digits)
    by_sign Plus digits = inl refl
    by_sign Minus digits = inr refl

-- ---- expressions

pub expression_of : (text rest : List ℕ) (e : AsmExpr) → HasFront text e.label.name e.label.ordinal rest → IsUtf8 e.label.name → IsOffset rest e.offset → IsExpression text e
expression_of text rest e h utf8 offset =
    let q = then_label text rest e.label h utf8 in
    record { label = h.0 ++ h.1; offset = rest; parts = q.0; label_is = q.1; offset_is = offset }

pub expression_front : (text : List ℕ) (e : AsmExpr) → (is : IsExpression text e) → HasFront text e.label.name e.label.ordinal is.offset
expression_front text e is = label_then text is.label is.offset e.label is.parts is.label_is

pub expression_ends : (text : List ℕ) (e : AsmExpr) → (is : IsExpression text e) → EndsLabel is.offset
expression_ends text e is = shape_ends is.offset (shape_of_offset is.offset e.offset is.offset_is)

pub shape_of : (text rest : List ℕ) (name : AsmName) → HasFront text name.name name.ordinal rest → IsUtf8 name.name → HasOffsetShape rest → HasExpressionShape text
shape_of text rest name h utf8 offset =
    let q = then_label text rest name h utf8 in
    record { label = h.0 ++ h.1; offset = rest; name = name; parts = q.0; label_is = q.1; offset_is = offset }

pub shape_front : (text : List ℕ) → (is : HasExpressionShape text) → HasFront text is.name.name is.name.ordinal is.offset
shape_front text is = label_then text is.label is.offset is.name is.parts is.label_is

abbrev expression : AsmName → ℤ → AsmExpr
expression label offset = record { label = label; offset = offset }

pub same_expression : (a b : AsmExpr) → a.label ≡ b.label → a.offset ≡ b.offset → a ≡ b
same_expression a b e f = ap (λ (l : AsmName). expression l a.offset) e ∙ ap (λ (o : ℤ). expression b.label o) f

pub shape_of_expression : (text : List ℕ) (e : AsmExpr) → IsExpression text e → HasExpressionShape text
shape_of_expression text e is = record {
  label = is.label;
  offset = is.offset;
  name = e.label;
  parts = is.parts;
  label_is = is.label_is;
  offset_is = shape_of_offset is.offset e.offset is.offset_is;
}

-- ---- what readers answer

pub syntax_tells : (reason : TextReason) (P : Type 0) → reason ≡ reasons.Syntax → (P → ⊥) → Tells reason P
syntax_tells reason P is none = subst (λ (r : TextReason). Tells r P) (sym is) none

pub same_end : {T : Type 0} (a b : End TextReason) → ◌≡◌ {A = Result T (End TextReason)} (Err a) (Err b) → a ≡ b
same_end {T} a b e = cc

refused_as : {T : Type 0} (a b : End TextReason) → a ≡ b → ◌≡◌ {A = Result T (End TextReason)} (Err a) (Err b)
refused_as {T} a b e = cc

-- the same refusal, as another reader's
pub moved : {T U : Type 0} (a b : End TextReason) → ◌≡◌ {A = Result T (End TextReason)} (Err a) (Err b) → ◌≡◌ {A = Result U (End TextReason)} (Err a) (Err b)
moved {T} {U} a b e = refused_as {T = U} a b (same_end {T = T} a b e)

fault_or_memory : (end : End TextReason) (reason : TextReason) → end ≡ ends.Fault reason → end ≡ ends.Memory → ⊥
fault_or_memory end reason e m = cc

pub syntax_reason : {T : Type 0} (end : End TextReason) (reason : TextReason) (P : Type 0) → reason ≡ reasons.Syntax → (P → end ≡ ends.Memory) → ◌≡◌ {A = Result T (End TextReason)} (Err end) (Err (ends.Fault reason)) → Tells reason P
syntax_reason {T} end reason P is only e = syntax_tells reason P is (λ p. fault_or_memory end reason (same_end {T = T} end (ends.Fault reason) e) (only p))

pub named_front : (text new slice name rest : List ℕ) (ordinal : Option ℕ) → HasFront text new ordinal rest → slice ≡ new → name ≡ slice → HasFront text name ordinal rest
named_front text new slice name rest ordinal h e f = subst (λ (n : List ℕ). HasFront text n ordinal rest) (sym (f ∙ e)) h

pub no_ok : {T : Type 0} (end : End TextReason) (x : T) → Err end ≡ Ok x → ⊥
no_ok end x e = cc

pub values : (a b : ℤ) → ◌≡◌ {A = Result ℤ (End TextReason)} (Ok a) (Ok b) → a ≡ b
values a b e = cc

pub ok_value : (a b : ℤ) → Some a ≡ Some b → ◌≡◌ {A = Result ℤ (End TextReason)} (Ok a) (Ok b)
ok_value a b e = cc

pub signed_found : (text digits : List ℕ) (sign : Sign) (r : Result ℤ (End TextReason)) → text ≡ byte_of sign ∷ digits → IfOk r (IsSigned sign digits) → IfOk r (IsOffset text)
signed_found text digits sign (Ok offset) e h = inr (sign, digits, e, h)
signed_found text digits sign (Err end) e h = tt
