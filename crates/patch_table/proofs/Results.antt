-- A text gives one result, and gives one.
use Rattle.std.proofs.Common.{◌≡◌, ◌⊎◌, inl, inr, ℕ, Bool, true, false, Option, Some, None, List, [], ◌∷◌, Result, refl, sym, ap, subst, ◌∙◌}
use Rattle.std.specs.Prelude.{IsUtf8, MatchBool}
use Rattle.std.specs.Str.{is_utf8}
use Rattle.std.proofs.lemmas.Bool.{cases_Bool}
use Rattle.std.proofs.lemmas.Str.{IsUtf8-from_is_utf8, is_utf8-from_IsUtf8}
use Rattle.asm_read.specs.declared.fault.TextReason.{TextReason}
use Rattle.asm_read.specs.declared.fault.TextReason.TheVariants as reasons
use Rattle.asm_read.specs.Identifier.{identifier_of}
use Rattle.asm_read.specs.Words.{HasWords}
use Rattle.a64_forms.specs.declared.form.Numbers.{Numbers}
use Rattle.a64_forms.specs.declared.form.Numbers.TheVariants.{Any}
use Rattle.a64_forms.specs.Number.{IsNumber, IsNumberWord}
use Rattle.a64_forms.specs.Spelling.{HasForm, IsShape, Spelled}
use Rattle.asm_lines.specs.declared.line.AsmLine.{AsmLine}
use Rattle.asm_lines.specs.declared.line.AsmName.{AsmName}
use Rattle.asm_lines.specs.Labels.{IsLabel}
use Rattle.asm_lines.specs.Lines.{HasSuch, IsFault, IsLine}
use Rattle.asm_lines.specs.Texts.{texts_of}
use Rattle.gt_model.specs.declared.modules.Module.{Module}
use Rattle.sym_expr.specs.declared.patches.PatchTable.{PatchTable}
use Rattle.patch_lines.specs.declared.fault.PatchFault.{PatchFault}
use Rattle.patch_lines.specs.declared.line.PatchLine.{PatchLine}
use Rattle.patch_lines.specs.declared.line.PatchLine.TheVariants as lines
use Rattle.patch_lines.specs.declared.line.Spot.{Spot}
use Rattle.patch_lines.specs.declared.line.Spot.TheVariants as spots
use Rattle.patch_lines.specs.Building.{outcome}
use Rattle.patch_table.specs.OwnLines.{FunctionSays, InsertSays, IsSpot, IsSpotLabel, NumberSays, OwnSays, function_line, is_end, is_function, is_insert, is_own, label_name}
use Rattle.patch_table.specs.PatchLines.{AsmSays, IsOwn, Says, ShapeSays, is_number, line_of, unfit_line}
use Rattle.patch_table.specs.PatchText.{Say, lines_of, patch_text}
use Rattle.patch_table.proofs.Sayings.{OneSplit}

-- ---- one result

-- of two lines that a property holds of each is the other
One : (PatchLine → Type 0) → Type 0
One P = (a b : PatchLine) → P a → P b → a ≡ b

one_where : (g : Bool) (P Q : PatchLine → Type 0) → One P → One Q → (a b : PatchLine) → MatchBool g (P a) (Q a) → MatchBool g (P b) (Q b) → a ≡ b
unfolding One
one_where true P Q p q a b x y = p a b x y
one_where false P Q p q a b x y = q a b x y

one_is : (l : PatchLine) → One (λ a. a ≡ l)
unfolding One
one_is l a b x y = x ∙ sym y

module _ (split : OneSplit) (label : (word : List ℕ) (a b : AsmName) → IsLabel word a → IsLabel word b → a ≡ b)
    (number : (word : List ℕ) (m n : ℕ) → IsNumber word m → IsNumber word n → m ≡ n) where
  one_function : (word : List ℕ) (a b : PatchLine) → FunctionSays word a → FunctionSays word b → a ≡ b
  one_function word a b (inl x) (inl y) = x.2 ∙ ap function_line (label word x.0 y.0 x.1 y.1) ∙ sym y.2
  one_function word a b (inl x) (inr y) = absurd (y.0 x.0 x.1)
  one_function word a b (inr x) (inl y) = absurd (x.0 y.0 y.1)
  one_function word a b (inr x) (inr y) = x.1 ∙ sym y.1

  one_spot : (word : List ℕ) (o : Option (List ℕ)) (a b : Spot) → IsSpotLabel word o a → IsSpotLabel word o b → a ≡ b
  one_spot word (Some id) a b x y = x ∙ sym y
  one_spot word None a b x y = x.2 ∙ ap (λ (l : AsmName). spots.Symbol (label_name l)) (label word x.0 y.0 x.1 y.1) ∙ sym y.2

  one_offset : (word : List ℕ) (spot : Spot) (a b : PatchLine) → NumberSays word spot a → NumberSays word spot b → a ≡ b
  one_offset word spot a b (inl x) (inl y) = x.2 ∙ ap (λ (n : ℕ). lines.Insert spot n) (number word x.0 y.0 x.1 y.1) ∙ sym y.2
  one_offset word spot a b (inl x) (inr (inl y)) = absurd (y.0 x.0 x.1)
  one_offset word spot a b (inl x) (inr (inr y)) = absurd (y.1 x.0 x.1)
  one_offset word spot a b (inr (inl x)) (inl y) = absurd (x.0 y.0 y.1)
  one_offset word spot a b (inr (inl x)) (inr (inl y)) = x.2 ∙ sym y.2
  one_offset word spot a b (inr (inl x)) (inr (inr y)) = absurd (y.0 x.1)
  one_offset word spot a b (inr (inr x)) (inl y) = absurd (x.1 y.0 y.1)
  one_offset word spot a b (inr (inr x)) (inr (inl y)) = absurd (x.0 y.1)
  one_offset word spot a b (inr (inr x)) (inr (inr y)) = x.2 ∙ sym y.2

  one_insert : (place word : List ℕ) (a b : PatchLine) → InsertSays place word a → InsertSays place word b → a ≡ b
  one_insert place word a b (inl x) (inl y) =
      let same = one_spot place (identifier_of place) y.0 x.0 y.1 x.1 in
      one_offset word x.0 a b x.2 (subst (λ (s : Spot). NumberSays word s b) same y.2)
  one_insert place word a b (inl x) (inr y) = absurd (y.0 x.0 x.1)
  one_insert place word a b (inr x) (inl y) = absurd (x.0 y.0 y.1)
  one_insert place word a b (inr x) (inr y) = x.1 ∙ sym y.1

  one_own : (words : List (List ℕ)) (a b : PatchLine) → OwnSays words a → OwnSays words b → a ≡ b
  unfolding One
  one_own [] a b x y = x ∙ sym y
  one_own (u ∷ []) a b x y = one_where (is_end u) (λ l. l ≡ lines.End) (λ l. l ≡ lines.Other) (one_is lines.End) (one_is lines.Other) a b x y
  one_own (u ∷ v ∷ []) a b x y = one_where (is_function u) (FunctionSays v) (λ l. l ≡ lines.Other) (one_function v) (one_is lines.Other) a b x y
  one_own (u ∷ v ∷ w ∷ []) a b x y = one_where (is_insert u) (InsertSays v w) (λ l. l ≡ lines.Other) (one_insert v w) (one_is lines.Other) a b x y
  one_own (u ∷ v ∷ w ∷ z ∷ rest) a b x y = x ∙ sym y

  module _ (saying : (line : List ℕ) (a b : AsmLine) → IsLine line a → IsLine line b → a ≡ b)
      (apart : (line : List ℕ) (said : AsmLine) (reason : TextReason) → IsLine line said → IsFault line reason → ⊥)
      (fault : (line : List ℕ) (a b : TextReason) → IsFault line a → IsFault line b → a ≡ b)
      (form : (n : Numbers) (texts : List (List ℕ)) (s t : Spelled) → HasForm n texts s → HasForm n texts t → s ≡ t) where
    one_shape : (line : List ℕ) (a b : PatchLine) → ShapeSays line a → ShapeSays line b → a ≡ b
    one_shape line a b x y =
        let same = split line y.words x.words y.has x.has in
        let other = subst (λ (ws : List (List ℕ)). IsShape (texts_of ws) y.such.0) same y.such.1 in
        x.such.2 ∙ ap unfit_line (form Any (texts_of x.words) x.such.0 y.such.0 x.such.1 other) ∙ sym y.such.2

    no_number : (line : List ℕ) (reason : TextReason) → IsFault line reasons.Number → IsFault line reason → is_number reason ≡ false → ⊥
    no_number line reason x y other =
        let clash : is_number reasons.Number ≡ false = subst (λ (r : TextReason). is_number r ≡ false) (fault line reason reasons.Number y x) other in
        cc

    one_asm : (line : List ℕ) (a b : PatchLine) → AsmSays line a → AsmSays line b → a ≡ b
    one_asm line a b (inl x) (inl y) = x.2 ∙ ap line_of (saying line x.0 y.0 x.1 y.1) ∙ sym y.2
    one_asm line a b (inl x) (inr (inl y)) = absurd (apart line x.0 reasons.Number x.1 y.0)
    one_asm line a b (inl x) (inr (inr y)) = absurd (apart line x.0 y.0 x.1 y.1)
    one_asm line a b (inr (inl x)) (inl y) = absurd (apart line y.0 reasons.Number y.1 x.0)
    one_asm line a b (inr (inl x)) (inr (inl y)) = one_shape line a b x.1 y.1
    one_asm line a b (inr (inl x)) (inr (inr y)) = absurd (no_number line y.0 x.0 y.1 y.2)
    one_asm line a b (inr (inr x)) (inl y) = absurd (apart line y.0 x.0 y.1 x.1)
    one_asm line a b (inr (inr x)) (inr (inl y)) = absurd (no_number line x.0 y.0 x.1 x.2)
    one_asm line a b (inr (inr x)) (inr (inr y)) = x.3 ∙ sym y.3

    one_line : (line : List ℕ) (a b : PatchLine) → Says line a → Says line b → a ≡ b
    one_line line a b (inl x) (inl y) = one_own x.words a b x.such.1 (subst (λ (ws : List (List ℕ)). OwnSays ws b) (split line y.words x.words y.has x.has) y.such.1)
    one_line line a b (inl x) (inr y) = absurd (y.0 (record { utf8 = x.utf8; words = x.words; has = x.has; such = x.such.0 }))
    one_line line a b (inr x) (inl y) = absurd (x.0 (record { utf8 = y.utf8; words = y.words; has = y.has; such = y.such.0 }))
    one_line line a b (inr x) (inr y) = one_asm line a b x.1 y.1

    one_list : (ls : List (List ℕ)) (a b : List PatchLine) → Say ls a → Say ls b → a ≡ b
    one_list [] [] [] x y = refl
    one_list [] [] (l ∷ b) x y = absurd y
    one_list [] (l ∷ a) b x y = absurd x
    one_list (line ∷ ls) [] b x y = absurd x
    one_list (line ∷ ls) (l ∷ a) [] x y = absurd y
    one_list (line ∷ ls) (l ∷ a) (k ∷ b) x y = ap (λ (p : PatchLine). p ∷ a) (one_line line l k x.0 y.0) ∙ ap (λ (ps : List PatchLine). k ∷ ps) (one_list ls a b x.1 y.1)

    pub one_given : (text : List ℕ) (m : Module) (a b : Result PatchTable PatchFault) → patch_text text m a → patch_text text m b → a ≡ b
    one_given text m a b x y = x.2 ∙ ap (outcome m) (one_list (lines_of text) x.0 y.0 x.1 y.1) ∙ sym y.2

-- ---- a result

some_where : (g : Bool) (P Q : PatchLine → Type 0) → (l : PatchLine) × P l → (l : PatchLine) × Q l → (l : PatchLine) × MatchBool g (P l) (Q l)
some_where true P Q p q = p
some_where false P Q p q = q

module _ (split : OneSplit) (labels : (word : List ℕ) → ((label : AsmName) × IsLabel word label) ⊎ (((label : AsmName) × IsLabel word label) → ⊥))
    (numbers : (word : List ℕ) → ((n : ℕ) × IsNumber word n) ⊎ (((n : ℕ) × IsNumber word n) → ⊥))
    (number_words : (word : List ℕ) → IsNumberWord word ⊎ (IsNumberWord word → ⊥)) where
  some_function : (word : List ℕ) → (l : PatchLine) × FunctionSays word l
  some_function word = elim (labels word) [
    | inl x ↦ (function_line x.0, inl (x.0, x.1, refl))
    | inr none ↦ (lines.Other, inr (λ label is. none (label, is), refl))
  ]

  spot_or_none : (word : List ℕ) (o : Option (List ℕ)) → ((spot : Spot) × IsSpotLabel word o spot) ⊎ ((spot : Spot) → IsSpotLabel word o spot → ⊥)
  spot_or_none word (Some id) = inl (spots.Block id, refl)
  spot_or_none word None = elim (labels word) [
    | inl x ↦ inl (spots.Symbol (label_name x.0), (x.0, x.1, refl))
    | inr none ↦ inr (λ spot is. none (is.0, is.1))
  ]

  some_offset : (word : List ℕ) (spot : Spot) → (l : PatchLine) × NumberSays word spot l
  some_offset word spot = elim (numbers word) [
    | inl x ↦ (lines.Insert spot x.0, inl (x.0, x.1, refl))
    | inr none ↦ elim (number_words word) [
      | inl is ↦ (lines.UnfitInsert, inr (inl (λ n number. none (n, number), is, refl)))
      | inr other ↦ (lines.Other, inr (inr (other, λ n number. none (n, number), refl)))
    ]
  ]

  some_insert : (place word : List ℕ) → (l : PatchLine) × InsertSays place word l
  some_insert place word = elim (spot_or_none place (identifier_of place)) [
    | inl x ↦ let offset = some_offset word x.0 in (offset.0, inl (x.0, x.1, offset.1))
    | inr none ↦ (lines.Other, inr (none, refl))
  ]

  some_own : (words : List (List ℕ)) → (l : PatchLine) × OwnSays words l
  some_own [] = (lines.Other, refl)
  some_own (u ∷ []) = some_where (is_end u) (λ l. l ≡ lines.End) (λ l. l ≡ lines.Other) (lines.End, refl) (lines.Other, refl)
  some_own (u ∷ v ∷ []) = some_where (is_function u) (FunctionSays v) (λ l. l ≡ lines.Other) (some_function v) (lines.Other, refl)
  some_own (u ∷ v ∷ w ∷ []) = some_where (is_insert u) (InsertSays v w) (λ l. l ≡ lines.Other) (some_insert v w) (lines.Other, refl)
  some_own (u ∷ v ∷ w ∷ z ∷ rest) = (lines.Other, refl)

  module _ (words : (line : List ℕ) → ((ws : List (List ℕ)) × HasWords line ws) ⊎ (((ws : List (List ℕ)) × HasWords line ws) → ⊥))
      (says : (line : List ℕ) → ((said : AsmLine) × IsLine line said) ⊎ ((reason : TextReason) × IsFault line reason)) where
    unfit : (line : List ℕ) → IsFault line reasons.Number → (l : PatchLine) × AsmSays line l
    unfit line (inl f) =
        let shape = f.such.1 in
        (unfit_line shape.0, inr (inl (inl f, record { utf8 = f.utf8; words = f.words; has = f.has; such = (shape.0, shape.1, refl) })))
    unfit line (inr f) = let clash = f.0 in absurd cc

    faulty : (line : List ℕ) (reason : TextReason) → IsFault line reason → (l : PatchLine) × AsmSays line l
    faulty line reasons.Syntax f = (lines.Other, inr (inr (reasons.Syntax, f, refl, refl)))
    faulty line reasons.Number f = unfit line f
    faulty line reasons.LabelTwice f = (lines.Other, inr (inr (reasons.LabelTwice, f, refl, refl)))
    faulty line reasons.LabelUnknown f = (lines.Other, inr (inr (reasons.LabelUnknown, f, refl, refl)))
    faulty line reasons.Directive f = (lines.Other, inr (inr (reasons.Directive, f, refl, refl)))

    some_asm : (line : List ℕ) → (l : PatchLine) × AsmSays line l
    some_asm line = elim (says line) [
      | inl x ↦ (line_of x.0, inl (x.0, x.1, refl))
      | inr x ↦ faulty line x.0 x.1
    ]

    as_asm : (line : List ℕ) → (IsOwn line → ⊥) → (l : PatchLine) × Says line l
    as_asm line none = let asm = some_asm line in (asm.0, inr (none, asm.1))

    by_words : (line : List ℕ) → IsUtf8 line → (ws : List (List ℕ)) → HasWords line ws → (l : PatchLine) × Says line l
    by_words line utf8 ws has = elim (cases_Bool (is_own ws)) [
      | inl own ↦ let said = some_own ws in (said.0, inl (record { utf8 = utf8; words = ws; has = has; such = (own, said.1) }))
      | inr other ↦ as_asm line (λ h. let same = subst (λ (x : List (List ℕ)). is_own x ≡ true) (split line h.words ws h.has has) h.such in cc)
    ]

    some_line : (line : List ℕ) → (l : PatchLine) × Says line l
    some_line line = elim (cases_Bool (is_utf8 line)) [
      | inl passes ↦ elim (words line) [
        | inl w ↦ by_words line (IsUtf8-from_is_utf8 line passes) w.0 w.1
        | inr none ↦ as_asm line (λ h. none (h.words, h.has))
      ]
      | inr refuted ↦ as_asm line (λ h. let passes = is_utf8-from_IsUtf8 line h.utf8 in cc)
    ]

    some_list : (ls : List (List ℕ)) → (said : List PatchLine) × Say ls said
    some_list [] = ([], tt)
    some_list (line ∷ ls) = let first = some_line line in let rest = some_list ls in (first.0 ∷ rest.0, (first.1, rest.1))

    pub some_given : (text : List ℕ) (m : Module) → (r : Result PatchTable PatchFault) × patch_text text m r
    some_given text m = let said = some_list (lines_of text) in (outcome m said.0, (said.0, said.1, refl))
