-- What lines of patch text say.
use Rattle.std.proofs.Common.{◌≡◌, ◌≢◌, ◌⊎◌, ◌↔◌, inl, inr, ℕ, Bool, true, false, Option, Some, None, List, [], ◌∷◌, ◌++◌, length, take, drop, refl, sym, ap, subst, ◌∙◌}
use Rattle.std.specs.Prelude.{IsTrue, IsUtf8, MatchBool, IfOk, Result, Ok, Err}
use Rattle.gr_base.specs.declared.end.End.{End}
use Rattle.gr_base.specs.declared.end.End.TheVariants as ends
use Rattle.asm_read.specs.declared.fault.TextReason.{TextReason}
use Rattle.asm_read.specs.declared.fault.TextReason.TheVariants as reasons
use Rattle.asm_read.specs.Words.{HasWords}
use Rattle.a64_forms.specs.Number.{IsNumber, IsNumberWord}
use Rattle.a64_forms.specs.Spelling.{IsShape, Spelled}
use Rattle.asm_lines.specs.declared.line.AsmLine.{AsmLine}
use Rattle.asm_lines.specs.declared.line.AsmName.{AsmName}
use Rattle.asm_lines.specs.Instructions.{HasInstructionShape}
use Rattle.asm_lines.specs.Labels.{IsLabel}
use Rattle.asm_lines.specs.Lines.{AreFaulty, HasSuch, IsFault, IsLine}
use Rattle.asm_lines.specs.Texts.{texts_of}
use Rattle.patch_lines.specs.declared.line.PatchLine.{PatchLine}
use Rattle.patch_lines.specs.declared.line.PatchLine.TheVariants as lines
use Rattle.patch_lines.specs.declared.line.Spot.{Spot}
use Rattle.patch_lines.specs.declared.line.Spot.TheVariants as spots
use Rattle.patch_table.specs.OwnLines.{FunctionSays, InsertSays, IsSpot, IsSpotLabel, NumberSays, OwnSays, is_own, label_name}
use Rattle.patch_table.specs.PatchLines.{AsmSays, IsOwn, Says, ShapeSays, is_number, unfit_line}
use Rattle.patch_table.specs.PatchText.{Say}

-- ---- numbers

pub number_found : (number : List ℕ) (spot : Spot) (offset : ℕ) → ((n : ℕ) → (Some offset ≡ Some n) ↔ IsNumber number n) → NumberSays number spot (lines.Insert spot offset)
number_found number spot offset h = inl (offset, (h offset).0 refl, refl)

none_read : (number : List ℕ) → ((n : ℕ) → (None ≡ Some n) ↔ IsNumber number n) → (n : ℕ) → IsNumber number n → ⊥
none_read number h n is = let no : None ≡ Some n = (h n).1 is in cc

pub number_unfit : (number : List ℕ) (spot : Spot) → ((n : ℕ) → (None ≡ Some n) ↔ IsNumber number n) → IsNumberWord number → NumberSays number spot lines.UnfitInsert
number_unfit number spot h is = inr (inl (none_read number h, is, refl))

pub number_other : (number : List ℕ) (spot : Spot) (b : Bool) → ((n : ℕ) → (None ≡ Some n) ↔ IsNumber number n) → IsTrue b ↔ IsNumberWord number → b ≡ false → NumberSays number spot lines.Other
number_other number spot b h word fails = inr (inr (λ is. let holds = word.1 is in cc, none_read number h, refl))

-- ---- places

pub spot_id : (word id : List ℕ) (o : Option (List ℕ)) → Some id ≡ o → IsSpotLabel word o (spots.Block id)
spot_id word id o is = subst (λ x. IsSpotLabel word x (spots.Block id)) is refl

pub spot_label : (word : List ℕ) (o : Option (List ℕ)) (label : AsmName) → None ≡ o → IsLabel word label → IsSpotLabel word o (spots.Symbol (label_name label))
spot_label word o label none is = subst (λ x. IsSpotLabel word x (spots.Symbol (label_name label))) none (label, is, refl)

pub no_spot : (word : List ℕ) (o : Option (List ℕ)) (e : End TextReason) {reason : TextReason} → e ≡ ends.Fault reason → None ≡ o → ((label : AsmName) → IsLabel word label → e ≡ ends.Memory) → (spot : Spot) → IsSpotLabel word o spot → ⊥
no_spot word o e fault none only spot is = let named = subst (λ x. IsSpotLabel word x spot) (sym none) is in let memory = only named.0 named.1 in let refused = fault in cc

pub no_label : (word : List ℕ) (e : End TextReason) {reason : TextReason} → e ≡ ends.Fault reason → ((label : AsmName) → IsLabel word label → e ≡ ends.Memory) → (label : AsmName) → IsLabel word label → ⊥
no_label word e fault only label is = let memory = only label is in let refused = fault in cc

-- ---- instructions but for their numbers

abbrev pub OneSplit : Type 0
OneSplit = (line : List ℕ) (a b : List (List ℕ)) → HasWords line a → HasWords line b → a ≡ b

pub shape_says : (line : List ℕ) (words : List (List ℕ)) (s : Spelled) → IsUtf8 line → HasWords line words → IsShape (texts_of words) s → ShapeSays line (unfit_line s)
shape_says line words s utf8 has is = record { utf8 = utf8; words = words; has = has; such = (s, is, refl) }

shape_of : OneSplit → (line : List ℕ) (words : List (List ℕ)) → HasWords line words → IsFault line reasons.Number → (s : Spelled) × IsShape (texts_of words) s
shape_of split line words has (inl h) =
    let such = subst (λ ws. AreFaulty ws reasons.Number) (split line h.words words h.has has) h.such in
    (such.1.0, such.1.1)
shape_of split line words has (inr h) = let no = h.0 in cc

pub no_shape : OneSplit → (line : List ℕ) (words : List (List ℕ)) → HasWords line words → IsFault line reasons.Number → ((s : Spelled) → IsShape (texts_of words) s → ⊥) → ⊥
no_shape split line words has fault none = let shape = shape_of split line words has fault in none shape.0 shape.1

-- ---- lines

pub own_line : (line : List ℕ) (words : List (List ℕ)) (l : PatchLine) → IsUtf8 line → HasWords line words → is_own words ≡ true → OwnSays words l → Says line l
own_line line words l utf8 has own says = inl (record { utf8 = utf8; words = words; has = has; such = (own, says) })

pub asm_line : OneSplit → (line : List ℕ) (words : List (List ℕ)) (l : PatchLine) → HasWords line words → is_own words ≡ false → AsmSays line l → Says line l
asm_line split line words l has own says = inr (λ h. let yes = subst (λ ws. is_own ws ≡ true) (split line h.words words h.has has) h.such in cc, says)

pub no_words_line : (line : List ℕ) (e : End TextReason) {reason : TextReason} → e ≡ ends.Fault reason → ((words : List (List ℕ)) → IsUtf8 line → HasWords line words → e ≡ ends.Memory) → Says line lines.Other
no_words_line line e fault only = inr (
  λ h. let memory = only h.words h.utf8 h.has in let refused = fault in cc,
  inr (inr (reasons.Syntax, inr (refl, λ h. let memory = only h.words h.utf8 h.has in let refused = fault in cc), refl, refl)),
)

-- ---- all lines

pub say_push : (ls : List (List ℕ)) (said : List PatchLine) (line : List ℕ) (x : PatchLine) → Say ls said → Says line x → Say (ls ++ line ∷ []) (said ++ x ∷ [])
say_push [] [] line x say one = (one, tt)
say_push [] (y ∷ said) line x say one = absurd say
say_push (l ∷ ls) [] line x say one = absurd say
say_push (l ∷ ls) (y ∷ said) line x say one = (say.0, say_push ls said line x say.1 one)

-- ---- choices

pub where_true : (b : Bool) (P Q : Type 0) → b ≡ true → P → MatchBool b P Q
where_true true P Q e p = p
where_true false P Q e p = cc

pub where_false : (b : Bool) (P Q : Type 0) → b ≡ false → Q → MatchBool b P Q
where_false false P Q e q = q
where_false true P Q e q = cc

pub ok_where_true : {A E : Type 0} (r : Result A E) (b : Bool) (P Q : A → Type 0) → b ≡ true → IfOk r P → IfOk r (λ x. MatchBool b (P x) (Q x))
ok_where_true {A} {E} (Ok x) b P Q e p = where_true b (P x) (Q x) e p
ok_where_true {A} {E} (Err y) b P Q e p = tt

-- ---- results

pub own_ok : {E : Type 0} (line : List ℕ) (words : List (List ℕ)) (r : Result PatchLine E) → IsUtf8 line → HasWords line words → is_own words ≡ true → IfOk r (OwnSays words) → IfOk r (Says line)
own_ok {E} line words (Ok l) utf8 has own says = own_line line words l utf8 has own says
own_ok {E} line words (Err e) utf8 has own says = tt

pub asm_ok : {E : Type 0} → OneSplit → (line : List ℕ) (words : List (List ℕ)) (r : Result PatchLine E) → HasWords line words → is_own words ≡ false → IfOk r (AsmSays line) → IfOk r (Says line)
asm_ok {E} split line words (Ok l) has own says = asm_line split line words l has own says
asm_ok {E} split line words (Err e) has own says = tt

pub number_is : (reason : TextReason) → is_number reason ≡ true → reason ≡ reasons.Number
number_is reasons.Syntax h = cc
number_is reasons.Number h = refl
number_is reasons.LabelTwice h = cc
number_is reasons.LabelUnknown h = cc
number_is reasons.Directive h = cc

pub unfit_ok : {E : Type 0} (line : List ℕ) (r : Result PatchLine E) → IsFault line reasons.Number → IfOk r (ShapeSays line) → IfOk r (AsmSays line)
unfit_ok {E} line (Ok l) fault says = inr (inl (fault, says))
unfit_ok {E} line (Err e) fault says = tt

pub other_fault : (line : List ℕ) (reason : TextReason) → IsFault line reason → is_number reason ≡ false → AsmSays line lines.Other
other_fault line reason fault other = inr (inr (reason, fault, other, refl))
