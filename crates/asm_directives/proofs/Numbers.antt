-- Numbers and number words.
use Rattle.std.proofs.Common.{◌≡◌, ◌⊎◌, ◌↔◌, ◌<◌, ◌≤◌, ◌^◌, ℕ, zero, suc, Bool, true, false, IsTrue, if◌then◌else◌, List, [], ◌∷◌, ◌++◌, Option, Some, None, refl, sym, ap, subst, ◌∙◌, inl, inr, arith}
use Rattle.std.specs.Prelude.{IsSome, SomeIff}
use Rattle.a64_forms.specs.declared.form.Numbers.TheVariants.{Any}
use Rattle.a64_forms.specs.Number.{IsNumber, IsNumberWord}
use Rattle.a64_inst.specs.Kinds.{operand_kind}
use Rattle.asm_read.specs.declared.fault.TextReason.{TextReason}
use Rattle.asm_lines.specs.declared.line.AsmExpr.{AsmExpr}
use Rattle.asm_lines.specs.Expressions.{HasExpressionShape, HasOffsetShape, IsExpression, IsOffset, Tells}
use Rattle.asm_lines.specs.Lines.{IsDirectiveWord}
use Rattle.asm_directives.specs.Directives.{IsOpenWord}
use Rattle.asm_directives.specs.Operands.{IsNumberAs}
use Rattle.asm_directives.proofs.Moved.{fails, tells_of}

pub word_of_number : (digits : List ℕ) (n : ℕ) → IsNumber digits n → IsNumberWord digits
word_of_number digits n is = elim is.0 [ inl d ↦ inl d.numeral | inr h ↦ inr (h.digits, h.spelled, h.numeral) ]

-- a number that is spelled could stand there
pub as_any : (word : List ℕ) (n : ℕ) → IsNumber word n → IsNumberAs Any word n
as_any word n is = (word_of_number word n is, is.1)

offset_shape : (text : List ℕ) (e : AsmExpr) → IsOffset text e.offset → HasOffsetShape text
offset_shape text e is = elim is [ inl h ↦ inl h.0 | inr h ↦ inr (h.0, h.1, h.2, word_of_number h.1 h.3.0 h.3.1) ]

pub expression_shape : (text : List ℕ) (e : AsmExpr) → IsExpression text e → HasExpressionShape text
expression_shape text e is = record {
  label = is.label;
  offset = is.offset;
  name = e.label;
  parts = is.parts;
  label_is = is.label_is;
  offset_is = offset_shape is.offset e is.offset_is;
}

-- ---- numbers that are wanted

some_same : (a b : ℕ) → Some a ≡ Some b → a ≡ b
some_same a b e = cc

no_some : (n : ℕ) → None ≡ Some n → ⊥
no_some n e = cc

pub none_read : (word : List ℕ) → ((n : ℕ) → (None ≡ Some n) ↔ IsNumber word n) → (n : ℕ) → IsNumber word n → ⊥
none_read word h n is = no_some n ((h n).1 is)

-- the number that a word spells, if it is wanted
pub wanted_none : (P : ℕ → Type 0) (word : List ℕ) → ((n : ℕ) → (None ≡ Some n) ↔ IsNumber word n) → (n : ℕ) → (None ≡ Some n) ↔ (IsNumber word n × P n)
wanted_none P word h n = (λ e. absurd (no_some n e), λ is. (h n).1 is.0)

pub wanted : (P : ℕ → Type 0) (word : List ℕ) (k : ℕ) (r : Option ℕ) → ((n : ℕ) → (Some k ≡ Some n) ↔ IsNumber word n) → SomeIff r (P k) k → (n : ℕ) → (r ≡ Some n) ↔ (IsNumber word n × P n)
wanted P word k (Some m) h is n = (
  λ e.
      let same : k ≡ n = sym is.1 ∙ some_same m n e in
      ((h n).0 (ap (λ (x : ℕ). Some x) same), subst P same is.0),
  λ p. ap (λ (x : ℕ). Some x) is.1 ∙ (h n).1 p.0,
)
wanted P word k None h is n = (
  λ e. absurd (no_some n e),
  λ p. absurd (is (subst P (sym (some_same k n ((h n).1 p.0))) p.1)),
)

-- kept where a test holds
pub kept_iff : (P : Type 0) (k : ℕ) (b : Bool) (r : Option ℕ) → r ≡ (if b then Some k else None) → IsTrue b ↔ P → SomeIff r P k
kept_iff P k true r e test = subst (λ (o : Option ℕ). SomeIff o P k) (sym e) (test.0 refl, refl)
kept_iff P k false r e test = subst (λ (o : Option ℕ). SomeIff o P k) (sym e) (fails false test refl)

-- ---- reasons

pub both_words : (first second : List ℕ) (b : Bool) (reason : TextReason) → IsTrue b ↔ IsNumberWord first → b ≡ true → Tells reason (IsNumberWord second) → Tells reason (IsNumberWord first × IsNumberWord second)
both_words first second b reason test e h = tells_of reason (IsNumberWord second) (IsNumberWord first × IsNumberWord second) (λ w. (test.0 e, w)) (λ p. p.1) h

-- a word that has an operand
pub open_word : (word : List ℕ) (k : ℕ) (r : Option ℕ) → ((n : ℕ) → (Some k ≡ Some n) ↔ (IsNumber word n × (n < 2 ^ 32))) → SomeIff r (IsSome (operand_kind k)) k → (n : ℕ) → (r ≡ Some n) ↔ (IsNumber word n × IsOpenWord n)
open_word word k (Some m) h is n = (
  λ e.
      let same : k ≡ n = sym is.1 ∙ some_same m n e in
      let read = (h n).0 (ap (λ (x : ℕ). Some x) same) in
      (read.0, (read.1, subst (λ (x : ℕ). IsSome (operand_kind x)) same is.0)),
  λ p. ap (λ (x : ℕ). Some x) is.1 ∙ (h n).1 (p.0, p.1.0),
)
open_word word k None h is n = (
  λ e. absurd (no_some n e),
  λ p. absurd (is (subst (λ (x : ℕ). IsSome (operand_kind x)) (sym (some_same k n ((h n).1 (p.0, p.1.0)))) p.1.1)),
)

pub no_open_word : (word : List ℕ) → ((n : ℕ) → (None ≡ Some n) ↔ (IsNumber word n × (n < 2 ^ 32))) → (n : ℕ) → (None ≡ Some n) ↔ (IsNumber word n × IsOpenWord n)
no_open_word word h n = (λ e. absurd (no_some n e), λ p. (h n).1 (p.0, p.1.0))

-- ---- words like directives

pub colon_no_directive : (word label : List ℕ) → word ≡ label ++ 58 ∷ [] → IsTrue false ↔ IsDirectiveWord word
colon_no_directive word label e = (λ t. cc, λ d. absurd (d.2 label e))

pub dot_directive : (word : List ℕ) (r : Bool) → ((front : List ℕ) → word ≡ front ++ 58 ∷ [] → ⊥) → (IsTrue r ↔ ((behind : List ℕ) × (word ≡ 46 ∷ behind))) → IsTrue r ↔ IsDirectiveWord word
dot_directive word r none test = (λ t. let q = test.0 t in (q.0, q.1, none), λ d. test.1 (d.0, d.1))
