-- A line says one thing, or has one fault.
use Rattle.std.proofs.Common.{◌≡◌, ◌⊎◌, ◌<◌, ◌^◌, ℕ, List, [], ◌∷◌, ◌++◌, Option, Some, None, refl, sym, ap, subst, ◌∙◌, inl, inr, codes}
use Rattle.std.specs.Prelude.{IsUtf8}
use Rattle.a64_forms.specs.declared.form.Numbers.TheVariants.{Any, Fitting}
use Rattle.a64_forms.specs.Number.{IsNumber}
use Rattle.asm_read.specs.declared.fault.TextReason.{TextReason}
use Rattle.asm_read.specs.declared.fault.TextReason.TheVariants as reasons
use Rattle.asm_read.specs.Identifier.{identifier_of}
use Rattle.asm_read.specs.Words.{HasWords}
use Rattle.asm_lines.specs.declared.line.AsmExpr.{AsmExpr}
use Rattle.asm_lines.specs.declared.line.AsmItem.{AsmItem}
use Rattle.asm_lines.specs.declared.line.AsmItem.TheVariants as items
use Rattle.asm_lines.specs.declared.line.AsmLine.{AsmLine}
use Rattle.asm_lines.specs.declared.line.AsmLine.TheVariants as lines
use Rattle.asm_lines.specs.declared.line.AsmName.{AsmName}
use Rattle.asm_lines.specs.Expressions.{IsExpression}
use Rattle.asm_lines.specs.Labels.{IsLabel}
use Rattle.asm_lines.specs.Lines.{HasSuch, IsLine, WordsSay}
use Rattle.asm_directives.specs.declared.directive.Directive.{Directive}
use Rattle.asm_directives.specs.declared.directive.Directive.TheVariants as directives
use Rattle.asm_directives.specs.Directives.{IsHex, IsInst, IsInstWith, IsInterval, IsIntervalAt, IsNarrow, IsQuad, IsSection, IsSet, IsWord, IsZero, OneSays, OperandsSay, ThreeSay, TwoSay, plain}
use Rattle.asm_directives.specs.Lines.{AllSay, AreRefused, Begins, DirectiveSays, HasLineShape, IsAsmFault, IsAsmLine, IsUnknown, directive_of}
use Rattle.asm_directives.specs.Operands.{IsDifference, IsDistance}
use Rattle.asm_directives.proofs.Differences.{OneAhead, minus_ends, no_bracket, one_inside}
use Rattle.asm_directives.proofs.Instants.{same_bytes}
use Rattle.asm_directives.proofs.Marks.{one_comma, some_id}
use Rattle.asm_directives.proofs.Moved.{tails}
use Rattle.asm_directives.proofs.Numbers.{expression_shape}
use Rattle.asm_directives.proofs.Readings.{FormsBegin, NoFault, OneSplit, in_words, its, no_instruction, no_other, not_unknown}

abbrev pub OneNumber : Type 0
OneNumber = (word : List ℕ) (m n : ℕ) → IsNumber word m → IsNumber word n → m ≡ n

abbrev pub OneLabel : Type 0
OneLabel = (word : List ℕ) (a b : AsmName) → IsLabel word a → IsLabel word b → a ≡ b

abbrev pub OneExpression : Type 0
OneExpression = (text : List ℕ) (a b : AsmExpr) → IsExpression text a → IsExpression text b → a ≡ b

same_id : (a b : List ℕ) (o : Option (List ℕ)) → o ≡ Some a → o ≡ Some b → a ≡ b
same_id a b o e f = some_id a b o (sym e) f

module _ (number : OneNumber) (label : OneLabel) (expression : OneExpression) (ahead : OneAhead) where
  one_set : (first second : List ℕ) (a b : AsmLine) → IsSet Fitting first second a → IsSet Fitting first second b → a ≡ b
  one_set first second a b x y =
      let named = subst (λ (l : List ℕ). IsLabel l x.1) (one_comma y.0 x.0 (sym y.3 ∙ x.3)) x.4 in
      x.6 ∙ ap (λ (n : AsmName). lines.Set n x.2) (label y.0 x.1 y.1 named y.4) ∙ ap (λ (v : ℕ). lines.Set y.1 v) (number second x.2 y.2 x.5 y.5) ∙ sym y.6

  one_section : (text : List ℕ) (a b : AsmLine) → IsSection text a → IsSection text b → a ≡ b
  one_section text a b x y = x.2 ∙ ap (λ (l : AsmName). lines.Section l.name) (label text (plain x.0) (plain y.0) x.1 y.1) ∙ sym y.2

  one_interval : (first second : List ℕ) (a b : AsmLine) → IsInterval Fitting first second a → IsInterval Fitting first second b → a ≡ b
  one_interval first second a b x y =
      x.5 ∙ ap (λ (u : List ℕ). lines.Interval u x.1 None) (same_id x.0 y.0 (identifier_of first) x.2 y.2)
      ∙ ap (λ (n : ℕ). lines.Interval y.0 n None) (number second x.1 y.1 x.3 y.3) ∙ sym y.5

  one_interval_at : (first second third : List ℕ) (a b : AsmLine) → IsIntervalAt Fitting first second third a → IsIntervalAt Fitting first second third b → a ≡ b
  one_interval_at first second third a b x y =
      x.8 ∙ ap (λ (u : List ℕ). lines.Interval u x.1 (Some x.2)) (same_id x.0 y.0 (identifier_of first) x.3 y.3)
      ∙ ap (λ (n : ℕ). lines.Interval y.0 n (Some x.2)) (number second x.1 y.1 x.4 y.4)
      ∙ ap (λ (r : ℕ). lines.Interval y.0 y.1 (Some r)) (number third x.2 y.2 x.6 y.6) ∙ sym y.8

  one_hex : (text : List ℕ) (a b : AsmLine) → IsHex text a → IsHex text b → a ≡ b
  one_hex text a b x y = x.3 ∙ ap (λ (bytes : List ℕ). lines.Item (items.Bytes bytes)) (same_bytes text x.0 y.0 x.1 y.1) ∙ sym y.3

  one_zero : (text : List ℕ) (a b : AsmLine) → IsZero Fitting text a → IsZero Fitting text b → a ≡ b
  one_zero text a b x y = x.3 ∙ ap (λ (n : ℕ). lines.Item (items.Zero n)) (number text x.0 y.0 x.1 y.1) ∙ sym y.3

  one_inst : (text : List ℕ) (a b : AsmLine) → IsInst Fitting text a → IsInst Fitting text b → a ≡ b
  one_inst text a b x y = x.3 ∙ ap (λ (n : ℕ). lines.Item (items.Word n None)) (number text x.0 y.0 x.1 y.1) ∙ sym y.3

  one_inst_with : (first second : List ℕ) (a b : AsmLine) → IsInstWith Fitting first second a → IsInstWith Fitting first second b → a ≡ b
  one_inst_with first second a b x y =
      let spelled = subst (λ (d : List ℕ). IsNumber d x.1) (one_comma y.0 x.0 (sym y.3 ∙ x.3)) x.4 in
      x.7 ∙ ap (λ (n : ℕ). lines.Item (items.Word n (Some x.2))) (number y.0 x.1 y.1 spelled y.4)
      ∙ ap (λ (e : AsmExpr). lines.Item (items.Word y.1 (Some e))) (expression second x.2 y.2 x.6 y.6) ∙ sym y.7

  one_difference : (text : List ℕ) (a b : AsmName) (d e : AsmExpr) → IsDifference Fitting text a d → IsDifference Fitting text b e → (a ≡ b) × (d ≡ e)
  one_difference text a b d e x y =
      let q = ahead text x.0 (45 ∷ x.1) y.0 (45 ∷ y.1) a b x.2 y.2 x.3 y.3 (minus_ends x.1) (minus_ends y.1) in
      (q.0, expression y.1 d e (subst (λ (t : List ℕ). IsExpression t d) (tails 45 45 x.1 y.1 q.1) x.4) y.4)

  one_distance : (text : List ℕ) (a b c d : AsmName) → IsDistance text a c → IsDistance text b d → (a ≡ b) × (c ≡ d)
  one_distance text a b c d x y =
      let q = ahead text x.0 (45 ∷ x.1) y.0 (45 ∷ y.1) a b x.2 y.2 x.3 y.3 (minus_ends x.1) (minus_ends y.1) in
      (q.0, label y.1 c d (subst (λ (t : List ℕ). IsLabel t c) (tails 45 45 x.1 y.1 q.1) x.4) y.4)

  abbrev Differ : (AsmName → AsmExpr → AsmLine) → List ℕ → AsmLine → Type 0
  Differ line text said = (first : AsmName) × (second : AsmExpr) × IsDifference Fitting text first second × (said ≡ line first second)

  one_differ : (line : AsmName → AsmExpr → AsmLine) (text : List ℕ) (a b : AsmLine) → Differ line text a → Differ line text b → a ≡ b
  one_differ line text a b x y =
      let q = one_difference text x.0 y.0 x.1 y.1 x.2 y.2 in
      x.3 ∙ ap (λ (n : AsmName). line n x.1) q.0 ∙ ap (λ (e : AsmExpr). line y.0 e) q.1 ∙ sym y.3

  abbrev Enters : (AsmName → AsmName → AsmLine) → List ℕ → AsmLine → Type 0
  Enters line text said = (first second : AsmName) × IsDistance text first second × (said ≡ line first second)

  one_enters : (line : AsmName → AsmName → AsmLine) (text : List ℕ) (a b : AsmLine) → Enters line text a → Enters line text b → a ≡ b
  one_enters line text a b x y =
      let q = one_distance text x.0 y.0 x.1 y.1 x.2 y.2 in
      x.3 ∙ ap (λ (n : AsmName). line n x.1) q.0 ∙ ap (λ (n : AsmName). line y.0 n) q.1 ∙ sym y.3

  abbrev Quarter : (AsmName → AsmName → AsmLine) → List ℕ → AsmLine → Type 0
  Quarter line text said = (first second : AsmName) × ((inside : List ℕ) × (text ≡ 40 ∷ inside ++ codes ")/4") × IsDistance inside first second) × (said ≡ line first second)

  one_quarter : (line : AsmName → AsmName → AsmLine) (text : List ℕ) (a b : AsmLine) → Quarter line text a → Quarter line text b → a ≡ b
  one_quarter line text a b x y =
      let inside = one_inside text x.2.0 y.2.0 x.2.1 y.2.1 in
      one_enters line y.2.0 a b (x.0, x.1, subst (λ (i : List ℕ). IsDistance i x.0 x.1) inside x.2.2, x.3) (y.0, y.1, y.2.2, y.3)

  one_quad : (text : List ℕ) (a b : AsmLine) → IsQuad Fitting text a → IsQuad Fitting text b → a ≡ b
  one_quad text a b (inl x) (inl y) = x.2 ∙ ap (λ (e : AsmExpr). lines.Item (items.Quad e)) (expression text x.0 y.0 x.1 y.1) ∙ sym y.2
  one_quad text a b (inl x) (inr y) = absurd (y.0 (expression_shape text x.0 x.1))
  one_quad text a b (inr x) (inl y) = absurd (x.0 (expression_shape text y.0 y.1))
  one_quad text a b (inr x) (inr y) = one_differ (λ f s. lines.Item (items.QuadDiff f s.label s.offset)) text a b (x.1, x.2, x.3, x.4) (y.1, y.2, y.3, y.4)

  no_both : (text inside : List ℕ) (first : AsmName) (behind label : List ℕ) → text ≡ label ++ 45 ∷ behind → IsLabel label first → text ≡ 40 ∷ inside → ⊥
  no_both text inside first behind label e is f = no_bracket text label (45 ∷ behind) inside first e is f

  one_word : (text : List ℕ) (a b : AsmLine) → IsWord Fitting text a → IsWord Fitting text b → a ≡ b
  one_word text a b (inl x) (inl y) = one_differ (λ f s. lines.Item (items.WordDiff f s.label s.offset)) text a b x y
  one_word text a b (inl x) (inr y) = absurd (no_both text (y.2.0 ++ codes ")/4") x.0 x.2.1 x.2.0 x.2.2 x.2.3 y.2.1)
  one_word text a b (inr x) (inl y) = absurd (no_both text (x.2.0 ++ codes ")/4") y.0 y.2.1 y.2.0 y.2.2 y.2.3 x.2.1)
  one_word text a b (inr x) (inr y) = one_quarter (λ f s. lines.Item (items.Entry 4 4 f s)) text a b x y

  one_narrow : (size : ℕ) (text : List ℕ) (a b : AsmLine) → IsNarrow size text a → IsNarrow size text b → a ≡ b
  one_narrow size text a b (inl x) (inl y) = one_enters (λ f s. lines.Item (items.Entry size 1 f s)) text a b x y
  one_narrow size text a b (inl x) (inr y) = absurd (no_both text (y.2.0 ++ codes ")/4") x.0 x.2.1 x.2.0 x.2.2 x.2.3 y.2.1)
  one_narrow size text a b (inr x) (inl y) = absurd (no_both text (x.2.0 ++ codes ")/4") y.0 y.2.1 y.2.0 y.2.2 y.2.3 x.2.1)
  one_narrow size text a b (inr x) (inr y) = one_quarter (λ f s. lines.Item (items.Entry size 4 f s)) text a b x y

  one_of_one : (d : Directive) (text : List ℕ) (a b : AsmLine) → OneSays Fitting d text a → OneSays Fitting d text b → a ≡ b
  one_of_one directives.Section text a b x y = one_section text a b x y
  one_of_one directives.Hex text a b x y = one_hex text a b x y
  one_of_one directives.Zero text a b x y = one_zero text a b x y
  one_of_one directives.Inst text a b x y = one_inst text a b x y
  one_of_one directives.Quad text a b x y = one_quad text a b x y
  one_of_one directives.Word text a b x y = one_word text a b x y
  one_of_one directives.Byte text a b x y = one_narrow 1 text a b x y
  one_of_one directives.Hword text a b x y = one_narrow 2 text a b x y
  one_of_one directives.Set text a b x y = absurd x
  one_of_one directives.Interval text a b x y = absurd x
  one_of_one directives.Entry text a b x y = absurd x

  one_of_two : (d : Directive) (first second : List ℕ) (a b : AsmLine) → TwoSay Fitting d first second a → TwoSay Fitting d first second b → a ≡ b
  one_of_two directives.Set first second a b x y = one_set first second a b x y
  one_of_two directives.Interval first second a b x y = one_interval first second a b x y
  one_of_two directives.Inst first second a b x y = one_inst_with first second a b x y
  one_of_two directives.Section first second a b x y = absurd x
  one_of_two directives.Entry first second a b x y = absurd x
  one_of_two directives.Hex first second a b x y = absurd x
  one_of_two directives.Zero first second a b x y = absurd x
  one_of_two directives.Quad first second a b x y = absurd x
  one_of_two directives.Word first second a b x y = absurd x
  one_of_two directives.Byte first second a b x y = absurd x
  one_of_two directives.Hword first second a b x y = absurd x

  one_of_three : (d : Directive) (first second third : List ℕ) (a b : AsmLine) → ThreeSay Fitting d first second third a → ThreeSay Fitting d first second third b → a ≡ b
  one_of_three directives.Interval first second third a b x y = one_interval_at first second third a b x y
  one_of_three directives.Set first second third a b x y = absurd x
  one_of_three directives.Section first second third a b x y = absurd x
  one_of_three directives.Entry first second third a b x y = absurd x
  one_of_three directives.Hex first second third a b x y = absurd x
  one_of_three directives.Zero first second third a b x y = absurd x
  one_of_three directives.Inst first second third a b x y = absurd x
  one_of_three directives.Quad first second third a b x y = absurd x
  one_of_three directives.Word first second third a b x y = absurd x
  one_of_three directives.Byte first second third a b x y = absurd x
  one_of_three directives.Hword first second third a b x y = absurd x

  one_of_none : (d : Directive) (a b : AsmLine) → OperandsSay Fitting d [] a → OperandsSay Fitting d [] b → a ≡ b
  one_of_none directives.Entry a b x y = x ∙ sym y
  one_of_none directives.Set a b x y = absurd x
  one_of_none directives.Section a b x y = absurd x
  one_of_none directives.Interval a b x y = absurd x
  one_of_none directives.Hex a b x y = absurd x
  one_of_none directives.Zero a b x y = absurd x
  one_of_none directives.Inst a b x y = absurd x
  one_of_none directives.Quad a b x y = absurd x
  one_of_none directives.Word a b x y = absurd x
  one_of_none directives.Byte a b x y = absurd x
  one_of_none directives.Hword a b x y = absurd x

  one_of : (d : Directive) (operands : List (List ℕ)) (a b : AsmLine) → OperandsSay Fitting d operands a → OperandsSay Fitting d operands b → a ≡ b
  one_of d [] a b x y = one_of_none d a b x y
  one_of d (u ∷ []) a b x y = one_of_one d u a b x y
  one_of d (u ∷ v ∷ []) a b x y = one_of_two d u v a b x y
  one_of d (u ∷ v ∷ w ∷ []) a b x y = one_of_three d u v w a b x y
  one_of d (u ∷ v ∷ w ∷ z ∷ rest) a b x y = absurd x

  -- ---- lines

  module _ (split : OneSplit) (begins : FormsBegin) (without : NoFault) (saying : (line : List ℕ) (a b : AsmLine) → IsLine line a → IsLine line b → a ≡ b) where
    module _ (line : List ℕ) (words : List (List ℕ)) (utf8 : IsUtf8 line) (has : HasWords line words) where
      plain_line : (said : AsmLine) → WordsSay words said → IsLine line said
      plain_line said says = record { utf8 = utf8; words = words; has = has; such = says }

      words_say_one : (a b : AsmLine) → AllSay words a → AllSay words b → a ≡ b
      words_say_one a b (inl x) (inl y) = one_of x.2 x.1 a b x.5 (its line words utf8 has begins without x.0 x.1 x.3 x.2 x.4 Fitting b y)
      words_say_one a b (inl x) (inr y) = absurd (no_other line words utf8 has begins without x.0 x.1 x.3 b y)
      words_say_one a b (inr x) (inl y) = absurd (no_other line words utf8 has begins without y.0 y.1 y.3 a x)
      words_say_one a b (inr x) (inr y) = saying line a b (plain_line a x) (plain_line b y)

    pub one_asm_saying : (line : List ℕ) (a b : AsmLine) → IsAsmLine line a → IsAsmLine line b → a ≡ b
    one_asm_saying line a b x y = words_say_one line x.words x.utf8 x.has a b x.such (in_words split line (λ ws. AllSay ws b) x.words x.has y)

module _ (split : OneSplit) (begins : FormsBegin) (without : NoFault) where
  module _ (line : List ℕ) (words : List (List ℕ)) (utf8 : IsUtf8 line) (has : HasWords line words) where
    -- words of an unknown directive say nothing, and have no shape
    unknown_says : IsUnknown words → (said : AsmLine) → AllSay words said → ⊥
    unknown_says u said (inl x) = not_unknown line words utf8 has begins without x.0 x.1 x.3 x.2 x.4 u
    unknown_says u said (inr x) = no_other line words utf8 has begins without u.0 u.1 u.2 said x

    unknown_shape : IsUnknown words → HasLineShape words → ⊥
    unknown_shape u (inl x) = not_unknown line words utf8 has begins without x.1.0 x.1.1 x.1.3 x.1.2 x.1.4 u
    unknown_shape u (inr x) = no_instruction begins words u.0 u.1 u.2 x

    none_said : (reason : TextReason) → AreRefused words reason → (said : AsmLine) → AllSay words said → ⊥
    none_said reasons.Directive u said x = unknown_says u said x
    none_said reasons.Number h said x = h.0 said x
    none_said reasons.Syntax h said x = h.0 said x
    none_said reasons.LabelTwice h said x = h
    none_said reasons.LabelUnknown h said x = h

    one_reason : (a b : TextReason) → AreRefused words a → AreRefused words b → a ≡ b
    one_reason reasons.Directive reasons.Directive h k = refl
    one_reason reasons.Directive reasons.Number h k = absurd (unknown_shape h k.1)
    one_reason reasons.Directive reasons.Syntax h k = absurd (k.1 h)
    one_reason reasons.Directive reasons.LabelTwice h k = absurd k
    one_reason reasons.Directive reasons.LabelUnknown h k = absurd k
    one_reason reasons.Number reasons.Directive h k = absurd (unknown_shape k h.1)
    one_reason reasons.Number reasons.Number h k = refl
    one_reason reasons.Number reasons.Syntax h k = absurd (k.2 h.1)
    one_reason reasons.Number reasons.LabelTwice h k = absurd k
    one_reason reasons.Number reasons.LabelUnknown h k = absurd k
    one_reason reasons.Syntax reasons.Directive h k = absurd (h.1 k)
    one_reason reasons.Syntax reasons.Number h k = absurd (h.2 k.1)
    one_reason reasons.Syntax reasons.Syntax h k = refl
    one_reason reasons.Syntax reasons.LabelTwice h k = absurd k
    one_reason reasons.Syntax reasons.LabelUnknown h k = absurd k
    one_reason reasons.LabelTwice b h k = absurd h
    one_reason reasons.LabelUnknown b h k = absurd h

  worded : (line : List ℕ) (P : List (List ℕ) → Type 0) → HasSuch line P → HasSuch line (λ words. Unit {0})
  worded line P x = record { utf8 = x.utf8; words = x.words; has = x.has; such = tt }

  pub not_both : (line : List ℕ) (said : AsmLine) (reason : TextReason) → IsAsmLine line said → IsAsmFault line reason → ⊥
  not_both line said reason x (inl f) = none_said line x.words x.utf8 x.has reason (in_words split line (λ ws. AreRefused ws reason) x.words x.has f) said x.such
  not_both line said reason x (inr f) = f.1 (worded line (λ ws. AllSay ws said) x)

  pub one_asm_fault : (line : List ℕ) (a b : TextReason) → IsAsmFault line a → IsAsmFault line b → a ≡ b
  one_asm_fault line a b (inl x) (inl y) = one_reason line x.words x.utf8 x.has a b x.such (in_words split line (λ ws. AreRefused ws b) x.words x.has y)
  one_asm_fault line a b (inl x) (inr y) = absurd (y.1 (worded line (λ ws. AreRefused ws a) x))
  one_asm_fault line a b (inr x) (inl y) = absurd (x.1 (worded line (λ ws. AreRefused ws b) y))
  one_asm_fault line a b (inr x) (inr y) = x.0 ∙ sym y.0
