-- What lines say.
use Rattle.std.proofs.Common.{◌≡◌, ◌⊎◌, ◌↔◌, ℕ, Bool, true, false, IsTrue, ◌<◌, List, [], ◌∷◌, ◌++◌, length, Option, Some, None, Result, Ok, Err, refl, sym, ap, subst, ◌∙◌, inl, inr, arith}
use Rattle.std.specs.Prelude.{IfOk, IsUtf8}
use Rattle.std.specs.List.{flat_map}
use Rattle.gr_base.specs.declared.end.End.{End}
use Rattle.gr_base.specs.declared.end.End.TheVariants as ends
use Rattle.a64_forms.specs.declared.form.Numbers.{Numbers}
use Rattle.a64_forms.specs.declared.form.Numbers.TheVariants.{Any, Fitting}
use Rattle.a64_forms.specs.Spelling.{HasForm, Spelled, begins_small}
use Rattle.asm_read.specs.declared.fault.TextReason.{TextReason}
use Rattle.asm_read.specs.declared.fault.TextReason.TheVariants as reasons
use Rattle.asm_read.specs.Words.{HasWords}
use Rattle.asm_lines.specs.declared.line.AsmLine.{AsmLine}
use Rattle.asm_lines.specs.Expressions.{Tells}
use Rattle.asm_lines.specs.Instructions.{HasInstructionShape}
use Rattle.asm_lines.specs.Lines.{AreFaulty, HasSuch, IsDirective, IsDirectiveWord, IsFault, IsLine, WordsSay}
use Rattle.asm_lines.specs.Texts.{cut, texts_of}
use Rattle.asm_directives.specs.declared.directive.Directive.{Directive}
use Rattle.asm_directives.specs.Answers.{Answers, RefusedBy}
use Rattle.asm_directives.specs.Directives.{HaveShape, OperandsSay}
use Rattle.asm_directives.specs.Lines.{AllSay, AreRefused, Begins, DirectiveSays, HasLineShape, HasTexts, IsAsmFault, IsAsmLine, IsUnknown, LineEnds, LineSays, NamedSays, directive_of}
use Rattle.asm_directives.proofs.Moved.{no_fault}

abbrev pub OneSplit : Type 0
OneSplit = (line : List ℕ) (a b : List (List ℕ)) → HasWords line a → HasWords line b → a ≡ b

abbrev pub FormsBegin : Type 0
FormsBegin = (n : Numbers) (texts : List (List ℕ)) (s : Spelled) → HasForm n texts s → (first second : List ℕ) × (rest : List (List ℕ)) × (texts ≡ first ∷ second ∷ rest) × IsTrue (begins_small first)

abbrev pub NoFault : Type 0
NoFault = (line : List ℕ) (said : AsmLine) (reason : TextReason) → IsLine line said → IsFault line reason → ⊥

-- ---- how words begin

first_same : (a b : List ℕ) (xs ys : List (List ℕ)) → a ∷ xs ≡ b ∷ ys → a ≡ b
first_same a b xs ys e = cc

rest_same : (a b : List ℕ) (xs ys : List (List ℕ)) → a ∷ xs ≡ b ∷ ys → xs ≡ ys
rest_same a b xs ys e = cc

no_texts : (a : List ℕ) (xs : List (List ℕ)) → [] ≡ a ∷ xs → ⊥
no_texts a xs e = cc

-- the first text is the first word
directive_words : (words : List (List ℕ)) (first : List ℕ) (operands : List (List ℕ)) → texts_of words ≡ first ∷ operands → IsDirectiveWord first → IsDirective words
directive_words [] first operands e is = absurd (no_texts first operands e)
directive_words (word ∷ words) first operands e is = (word, words, refl, subst IsDirectiveWord (sym (first_same word first (flat_map cut words) operands e)) is)

begins_of : (words : List (List ℕ)) (d : IsDirective words) → Begins words d.0 (flat_map cut d.1)
begins_of words d = (ap texts_of d.2, d.3)

dot_is_small : (behind : List ℕ) → IsTrue (begins_small (46 ∷ behind)) → ⊥
dot_is_small behind h = cc

-- a word like a directive's begins no instruction
pub no_instruction : FormsBegin → (words : List (List ℕ)) (first : List ℕ) (operands : List (List ℕ)) → Begins words first operands → HasInstructionShape (texts_of words) → ⊥
no_instruction law words first operands b shape =
    let q = law Any (texts_of words) shape.0 shape.1 in
    let same = first_same first q.0 operands (q.1 ∷ q.2) (sym b.0 ∙ q.3) in
    dot_is_small b.1.0 (subst (λ (w : List ℕ). IsTrue (begins_small w)) (sym same ∙ b.1.1) q.4)

-- ---- lines

pub in_words : OneSplit → (line : List ℕ) (P : List (List ℕ) → Type 0) (words : List (List ℕ)) → HasWords line words → HasSuch line P → P words
in_words split line P words has such = subst P (split line such.words words such.has has) such.such

some_one : {A : Type 0} (a b : A) → Some a ≡ Some b → a ≡ b
some_one a b e = cc

none_some : {A : Type 0} (a : A) → None ≡ Some a → ⊥
none_some a e = cc

module _ (line : List ℕ) (words : List (List ℕ)) (utf8 : IsUtf8 line) (has : HasWords line words) where
  such : (P : List (List ℕ) → Type 0) → P words → HasSuch line P
  such P p = record { utf8 = utf8; words = words; has = has; such = p }

  -- ---- lines that begin like directives
  module _ (begins : FormsBegin) (apart : NoFault) (first : List ℕ) (operands : List (List ℕ)) (b : Begins words first operands) where
    -- they say nothing without directives
    pub no_other : (said : AsmLine) → WordsSay words said → ⊥
    no_other said says = apart
        line said reasons.Directive
        (such (λ ws. WordsSay ws said) says)
        (inl (such (λ ws. AreFaulty ws reasons.Directive) (directive_words words first operands b.0 b.1)))

    unknown : directive_of first ≡ None → IsAsmFault line reasons.Directive
    unknown none = inl (such (λ ws. AreRefused ws reasons.Directive) (first, operands, b, none))

    module _ (d : Directive) (known : directive_of first ≡ Some d) where
      -- what such words say, this directive says
      pub its : (n : Numbers) (said : AsmLine) → DirectiveSays n words said → OperandsSay n d operands said
      its n said s =
          let firsts = first_same s.0 first s.1 operands (sym s.3.0 ∙ b.0) in
          let rests = rest_same s.0 first s.1 operands (sym s.3.0 ∙ b.0) in
          let same = some_one s.2 d (sym s.4 ∙ ap directive_of firsts ∙ known) in
          subst (λ (e : Directive). OperandsSay n e operands said) same (subst (λ (os : List (List ℕ)). OperandsSay n s.2 os said) rests s.5)

      said_so : (n : Numbers) (said : AsmLine) → OperandsSay n d operands said → DirectiveSays n words said
      said_so n said s = (first, operands, d, b, known, s)

      pub none_say : ((said : AsmLine) → OperandsSay Fitting d operands said → ⊥) → (said : AsmLine) → AllSay words said → ⊥
      none_say none said (inl s) = none said (its Fitting said s)
      none_say none said (inr s) = no_other said s

      no_shape : (HaveShape d operands → ⊥) → HasLineShape words → ⊥
      no_shape none (inl s) = none (s.0, its Any s.0 s.1)
      no_shape none (inr s) = no_instruction begins words first operands b s

      pub not_unknown : IsUnknown words → ⊥
      not_unknown u =
          let firsts = first_same u.0 first u.1 operands (sym u.2.0 ∙ b.0) in
          none_some d (sym u.3 ∙ ap directive_of firsts ∙ known)

      refused : (reason : TextReason) → ((said : AsmLine) → OperandsSay Fitting d operands said → ⊥) → Tells reason (HaveShape d operands) → AreRefused words reason
      refused reasons.Number none shape = (none_say none, inl (shape.0, said_so Any shape.0 shape.1))
      refused reasons.Syntax none shape = (none_say none, not_unknown, no_shape shape)
      refused reasons.LabelTwice none shape = shape
      refused reasons.LabelUnknown none shape = shape
      refused reasons.Directive none shape = absurd shape

      known_ends : (end : End TextReason) → RefusedBy (OperandsSay Fitting d operands) (HaveShape d operands) end → LineEnds line end
      known_ends ends.Memory h = tt
      known_ends (ends.Fault reason) h = inl (such (λ ws. AreRefused ws reason) (refused reason h.0 h.1))

      known_says : (r : Result AsmLine (End TextReason)) → Answers (OperandsSay Fitting d operands) (HaveShape d operands) r → LineSays line r
      known_says (Ok said) h = such (λ ws. AllSay ws said) (inl (said_so Fitting said h))
      known_says (Err end) h = known_ends end h

    named_says : (r : Result AsmLine (End TextReason)) → NamedSays first operands r → LineSays line r
    named_says r (inl u) = subst (LineSays line) (sym u.1) (unknown u.0)
    named_says r (inr k) = known_says k.0 k.1 r k.2

  -- ---- other lines
  module _ (split : OneSplit) (plain : (first : List ℕ) (operands : List (List ℕ)) → Begins words first operands → ⊥) where
    no_directive : (n : Numbers) (said : AsmLine) → DirectiveSays n words said → ⊥
    no_directive n said s = plain s.0 s.1 s.3

    other_none : ((said : AsmLine) → WordsSay words said → ⊥) → (said : AsmLine) → AllSay words said → ⊥
    other_none none said (inl s) = no_directive Fitting said s
    other_none none said (inr s) = none said s

    other_shape : (HasInstructionShape (texts_of words) → ⊥) → HasLineShape words → ⊥
    other_shape none (inl s) = no_directive Any s.0 s.1
    other_shape none (inr s) = none s

    other_refused : (reason : TextReason) → AreFaulty words reason → AreRefused words reason
    other_refused reasons.Directive d = absurd (plain d.0 (flat_map cut d.1) (begins_of words d))
    other_refused reasons.Number h = (other_none h.0, inr h.1)
    other_refused reasons.Syntax h = (other_none h.0, λ u. plain u.0 u.1 u.2, other_shape h.2)
    other_refused reasons.LabelTwice h = h
    other_refused reasons.LabelUnknown h = h

    other_fault : (reason : TextReason) → IsFault line reason → IsAsmFault line reason
    other_fault reason (inl f) = inl (such (λ ws. AreRefused ws reason) (other_refused reason (in_words split line (λ ws. AreFaulty ws reason) words has f)))
    other_fault reason (inr f) = inr f

    other_ends : (end : End TextReason) → ((reason : TextReason) → ◌≡◌ {A = End TextReason} end (ends.Fault reason) → IsFault line reason) → LineEnds line end
    other_ends ends.Memory h = tt
    other_ends (ends.Fault reason) h = other_fault reason (h reason refl)

    same_refused : (a b : End TextReason) → a ≡ b → ◌≡◌ {A = Result AsmLine (End TextReason)} (Err a) (Err b)
    same_refused a b e = cc

    other_says : (r : Result AsmLine (End TextReason)) → IfOk r (IsLine line) → ((reason : TextReason) → r ≡ Err (ends.Fault reason) → IsFault line reason) → LineSays line r
    other_says (Ok said) found reason = such (λ ws. AllSay ws said) (inr (in_words split line (λ ws. WordsSay ws said) words has found))
    other_says (Err end) found reason = other_ends end (λ r e. reason r (same_refused end (ends.Fault r) e))

-- ---- what readers answer

pub begun_directive : FormsBegin → NoFault → (line first : List ℕ) (operands : List (List ℕ)) (r : Result AsmLine (End TextReason)) → HasTexts line (first ∷ operands) → IsDirectiveWord first → NamedSays first operands r → LineSays line r
begun_directive begins apart line first operands r t is h = named_says line t.words t.utf8 t.has begins apart first operands (t.such, is) r h

pub begun_other : OneSplit → (line first : List ℕ) (operands : List (List ℕ)) (r : Result AsmLine (End TextReason)) → HasTexts line (first ∷ operands) → (IsDirectiveWord first → ⊥) → IfOk r (IsLine line) → ((reason : TextReason) → r ≡ Err (ends.Fault reason) → IsFault line reason) → LineSays line r
begun_other split line first operands r t plain found reason = other_says
    line t.words t.utf8 t.has split
    (λ f os b. plain (subst IsDirectiveWord (first_same f first os operands (sym b.0 ∙ t.such)) b.1))
    r found reason

pub empty_says : OneSplit → (line : List ℕ) (texts : List (List ℕ)) (r : Result AsmLine (End TextReason)) → HasTexts line texts → texts ≡ [] → IfOk r (IsLine line) → ((reason : TextReason) → r ≡ Err (ends.Fault reason) → IsFault line reason) → LineSays line r
empty_says split line texts r t none found reason = other_says
    line t.words t.utf8 t.has split
    (λ f os b. no_texts f os (sym none ∙ sym t.such ∙ b.0))
    r found reason

pub texts_are : (line : List ℕ) (words texts : List (List ℕ)) → IsUtf8 line → HasWords line words → texts ≡ texts_of words → HasTexts line texts
texts_are line words texts utf8 has e = record { utf8 = utf8; words = words; has = has; such = sym e }

pub no_words : (line : List ℕ) (e : End TextReason) {reason : TextReason} → e ≡ ends.Fault reason → ((words : List (List ℕ)) → IsUtf8 line → HasWords line words → e ≡ ends.Memory) → IsAsmFault line reasons.Syntax
no_words line e fault only = inr (refl, λ h. no_fault e fault (only h.words h.utf8 h.has))

pub no_text : (texts : List (List ℕ)) → length texts < 1 → texts ≡ []
no_text [] h = refl
no_text (text ∷ texts) h = absurd (omega (arith, h))
