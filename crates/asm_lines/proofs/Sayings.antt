-- What words say, and why they say nothing.
use Rattle.std.proofs.Common.{◌≡◌, ◌≢◌, ◌⊎◌, ◌↔◌, ◌≤◌, ℕ, Bool, true, false, IsTrue, List, [], ◌∷◌, ◌++◌, length, Option, Some, None, refl, sym, ap, subst, ◌∙◌, inl, inr, arith}
use Rattle.std.specs.Prelude.{IsUtf8, pos}
use Rattle.std.specs.List.{flat_map}
use Rattle.std.proofs.lemmas.List.{append_cancel_right}
use Rattle.gr_base.specs.declared.end.End.{End}
use Rattle.gr_base.specs.declared.end.End.TheVariants as ends
use Rattle.asm_read.specs.declared.fault.TextReason.{TextReason}
use Rattle.asm_read.specs.declared.fault.TextReason.TheVariants as reasons
use Rattle.asm_read.specs.Words.{HasWords}
use Rattle.a64_forms.specs.declared.form.Aim.{Aim}
use Rattle.a64_forms.specs.declared.form.Aim.TheVariants as aims
use Rattle.a64_forms.specs.declared.form.Numbers.{Numbers}
use Rattle.a64_forms.specs.declared.form.Numbers.TheVariants.{Fitting, Any}
use Rattle.a64_forms.specs.declared.share.Target.{Target}
use Rattle.a64_forms.specs.Spelling.{HasForm, Spelled, begins_small}
use Rattle.asm_lines.specs.declared.line.AsmExpr.{AsmExpr}
use Rattle.asm_lines.specs.declared.line.AsmItem.{AsmItem}
use Rattle.asm_lines.specs.declared.line.AsmItem.TheVariants as items
use Rattle.asm_lines.specs.declared.line.AsmLine.{AsmLine}
use Rattle.asm_lines.specs.declared.line.AsmLine.TheVariants as lines
use Rattle.asm_lines.specs.declared.line.AsmName.{AsmName}
use Rattle.asm_lines.specs.Expressions.{Tells}
use Rattle.asm_lines.specs.Instructions.{HasAimedShape, HasInstructionShape, HasTargetShape, IsAimed, IsInstruction, IsTarget, aimed}
use Rattle.asm_lines.specs.Labels.{IsLabel}
use Rattle.asm_lines.specs.Lines.{AreFaulty, HasSuch, IsDirective, IsDirectiveWord, IsFault, IsLabelLine, IsLine, WordsSay}
use Rattle.asm_lines.specs.Texts.{cut, texts_of}
use Rattle.asm_lines.proofs.Offsets.{shape_of_expression, tells_of}

-- ---- targets

pub aimed_shape : (aim : Aim) (text : List ℕ) (e : AsmExpr) → IsAimed aim text e → HasAimedShape aim text
aimed_shape aims.Label text e is = (e.label, is.0)
aimed_shape aims.Expression text e is = shape_of_expression text e is

pub label_aim : (aim : Aim) (text : List ℕ) (e : AsmExpr) → aim ≡ aims.Label → IsAimed aim text e → IsLabel text e.label × (e.offset ≡ pos 0)
label_aim aim text e same is = subst (λ (a : Aim). IsAimed a text e) same is

pub label_shape : (aim : Aim) (text : List ℕ) → aim ≡ aims.Label → HasAimedShape aim text → (name : AsmName) × IsLabel text name
label_shape aim text same is = subst (λ (a : Aim). HasAimedShape a text) same is

pub target_shape : (t : Option (Aim × List ℕ)) (e : Option AsmExpr) → IsTarget t e → HasTargetShape t
target_shape None None is = tt
target_shape None (Some e) is = absurd is
target_shape (Some t) None is = absurd is
target_shape (Some t) (Some e) is = aimed_shape t.0 t.1 e is

-- ---- what instructions name

pub target_none : (t : Option Target) → t ≡ None → IsTarget (aimed t) None
target_none t e = subst (λ (u : Option Target). IsTarget (aimed u) None) (sym e) tt

pub target_none_only : (t : Option Target) (e : Option AsmExpr) → t ≡ None → IsTarget (aimed t) e → None ≡ e
target_none_only t e none is = by_cases e (subst (λ (u : Option Target). IsTarget (aimed u) e) none is)
  where
    by_cases : (e : Option AsmExpr) → IsTarget None e → None ≡ e
    by_cases None is = refl
    by_cases (Some x) is = absurd is

module _ (t : Option Target) (target : Target) (some : t ≡ Some target) where
  pub target_found : (found : AsmExpr) → IsAimed target.aim target.text.now found → IsTarget (aimed t) (Some found)
  target_found found is = subst (λ (u : Option Target). IsTarget (aimed u) (Some found)) (sym some) is

  named : (e : Option AsmExpr) → IsTarget (Some (target.aim, target.text.now)) e → (x : AsmExpr) × (e ≡ Some x) × IsAimed target.aim target.text.now x
  named None is = absurd is
  named (Some x) is = (x, refl, is)

  pub target_refused : (end : End TextReason) → ((x : AsmExpr) → IsAimed target.aim target.text.now x → end ≡ ends.Memory) → (e : Option AsmExpr) → IsTarget (aimed t) e → end ≡ ends.Memory
  target_refused end only e is = let n = named e (subst (λ (u : Option Target). IsTarget (aimed u) e) some is) in only n.0 n.2

  pub target_only : (found : AsmExpr) → ((x : AsmExpr) → IsAimed target.aim target.text.now x → found ≡ x) → (e : Option AsmExpr) → IsTarget (aimed t) e → Some found ≡ e
  target_only found only e is =
      let n = named e (subst (λ (u : Option Target). IsTarget (aimed u) e) some is) in
      ap (λ (x : AsmExpr). Some x) (only n.0 n.2) ∙ sym n.1

  pub target_reason : (reason : TextReason) → Tells reason (HasAimedShape target.aim target.text.now) → Tells reason (HasTargetShape (aimed t))
  target_reason reason h = subst (λ (u : Option Target). Tells reason (HasTargetShape (aimed u))) (sym some) h

-- ---- what instructions are

-- the law of forms: a line has one at most
abbrev pub OneForm : Type 0
OneForm = (n : Numbers) (texts : List (List ℕ)) (s t : Spelled) → HasForm n texts s → HasForm n texts t → s ≡ t

abbrev Parts : List (List ℕ) → AsmItem → Type 0
Parts texts item = (bits : ℕ) × (target : Option AsmExpr) × (s : Spelled) × (item ≡ items.Word bits target) × HasForm Fitting texts s × (bits ≡ s.bits) × IsTarget s.target target

parts : (texts : List (List ℕ)) (item : AsmItem) → IsInstruction texts item → Parts texts item
parts texts (items.Word bits target) is = (bits, target, is.0, refl, is.1, is.2, is.3)
parts texts (items.Bytes bytes) is = absurd is
parts texts (items.Zero count) is = absurd is
parts texts (items.Quad e) is = absurd is
parts texts (items.QuadDiff first second offset) is = absurd is
parts texts (items.WordDiff first second offset) is = absurd is
parts texts (items.Entry size scale first second) is = absurd is

pub no_instruction : (texts : List (List ℕ)) → ((s : Spelled) → HasForm Fitting texts s → ⊥) → (item : AsmItem) → IsInstruction texts item → ⊥
no_instruction texts none item is = let p = parts texts item is in none p.2 p.4

module _ (law : OneForm) (texts : List (List ℕ)) (found : Spelled) where
  pub instruction_refused : HasForm Fitting texts found → (end : End TextReason) → ((e : Option AsmExpr) → IsTarget found.target e → end ≡ ends.Memory) → (item : AsmItem) → IsInstruction texts item → end ≡ ends.Memory
  instruction_refused has end only item is =
      let p = parts texts item is in
      only p.1 (subst (λ (s : Spelled). IsTarget s.target p.1) (law Fitting texts p.2 found p.4 has) p.6)

  pub instruction_only : HasForm Fitting texts found → (target : Option AsmExpr) → ((e : Option AsmExpr) → IsTarget found.target e → target ≡ e) → (item : AsmItem) → IsInstruction texts item → items.Word found.bits target ≡ item
  instruction_only has target only item is =
      let p = parts texts item is in
      let same : found ≡ p.2 = law Fitting texts found p.2 has p.4 in
      let named : target ≡ p.1 = only p.1 (subst (λ (s : Spelled). IsTarget s.target p.1) (sym same) p.6) in
      ap (λ (b : ℕ). items.Word b target) (ap (λ (s : Spelled). s.bits) same ∙ sym p.5) ∙ ap (λ (e : Option AsmExpr). items.Word p.0 e) named ∙ sym p.3

  pub shape_reason : HasForm Any texts found → (reason : TextReason) → Tells reason (HasTargetShape found.target) → Tells reason (HasInstructionShape texts)
  shape_reason has reason h = tells_of
      reason (HasTargetShape found.target) (HasInstructionShape texts)
      (λ t. (found, has, t))
      (λ is. subst (λ (s : Spelled). HasTargetShape s.target) (law Any texts is.0 found is.1 has) is.2)
      h

-- ---- forms

-- the law of forms: each begins with a mnemonic and has something behind
abbrev pub FormsBegin : Type 0
FormsBegin = (n : Numbers) (texts : List (List ℕ)) (s : Spelled) → HasForm n texts s → (first second : List ℕ) × (rest : List (List ℕ)) × (texts ≡ first ∷ second ∷ rest) × IsTrue (begins_small first)

no_more : (word first second : List ℕ) (rest : List (List ℕ)) → word ∷ [] ≡ first ∷ second ∷ rest → ⊥
no_more word first second rest e = cc

pub no_single : FormsBegin → (n : Numbers) (word : List ℕ) (s : Spelled) → HasForm n (word ∷ []) s → ⊥
no_single law n word s h = let q = law n (word ∷ []) s h in no_more word q.0 q.1 q.2 q.3

no_single_item : FormsBegin → (word : List ℕ) (item : AsmItem) → IsInstruction (word ∷ []) item → ⊥
no_single_item law word (items.Word bits target) is = no_single law Fitting word is.0 is.1
no_single_item law word (items.Bytes bytes) is = is
no_single_item law word (items.Zero count) is = is
no_single_item law word (items.Quad e) is = is
no_single_item law word (items.QuadDiff first second offset) is = is
no_single_item law word (items.WordDiff first second offset) is = is
no_single_item law word (items.Entry size scale first second) is = is

pub no_single_shape : FormsBegin → (word : List ℕ) → HasInstructionShape (word ∷ []) → ⊥
no_single_shape law word is = no_single law Any word is.0 is.1

first_same : (a b : List ℕ) (xs ys : List (List ℕ)) → a ∷ xs ≡ b ∷ ys → a ≡ b
first_same a b xs ys e = cc

first_texts : (first second : List ℕ) (words rest : List (List ℕ)) (w : List ℕ) (ws : List (List ℕ)) → words ≡ w ∷ ws → texts_of words ≡ first ∷ second ∷ rest → w ≡ first
first_texts first second words rest w ws e f = first_same w first (flat_map cut ws) (second ∷ rest) (ap texts_of (sym e) ∙ f)

dot_is_small : (behind : List ℕ) → IsTrue (begins_small (46 ∷ behind)) → ⊥
dot_is_small behind h = cc

pub no_directive_form : FormsBegin → (n : Numbers) (words : List (List ℕ)) (s : Spelled) → IsDirective words → HasForm n (texts_of words) s → ⊥
no_directive_form law n words s d h =
    let q = law n (texts_of words) s h in
    let same = first_texts q.0 q.1 words q.2 d.0 d.1 d.2 q.3 in
    dot_is_small d.3.0 (subst (λ (w : List ℕ). IsTrue (begins_small w)) (sym same ∙ d.3.1) q.4)

pub no_directive_shape : FormsBegin → (words : List (List ℕ)) → IsDirective words → HasInstructionShape (texts_of words) → ⊥
no_directive_shape law words d is = no_directive_form law Any words is.0 d is.1

no_directive_item : FormsBegin → (words : List (List ℕ)) (item : AsmItem) → IsDirective words → IsInstruction (texts_of words) item → ⊥
no_directive_item law words (items.Word bits target) d is = no_directive_form law Fitting words is.0 d is.1
no_directive_item law words (items.Bytes bytes) d is = is
no_directive_item law words (items.Zero count) d is = is
no_directive_item law words (items.Quad e) d is = is
no_directive_item law words (items.QuadDiff first second offset) d is = is
no_directive_item law words (items.WordDiff first second offset) d is = is
no_directive_item law words (items.Entry size scale first second) d is = is

no_words : (first : List ℕ) (rest : List (List ℕ)) → [] ≡ first ∷ rest → ⊥
no_words first rest e = cc

-- a directive says nothing
pub no_directive_line : FormsBegin → (words : List (List ℕ)) → IsDirective words → (said : AsmLine) → WordsSay words said → ⊥
no_directive_line law words d lines.Blank h = no_words d.0 d.1 (sym h ∙ d.2)
no_directive_line law words d (lines.Label name) h = d.3.2 h.0 (first_same d.0 (h.0 ++ 58 ∷ []) d.1 [] (sym d.2 ∙ h.1))
no_directive_line law words d (lines.Item item) h = no_directive_item law words item d h
no_directive_line law words d (lines.Set name value) h = h
no_directive_line law words d (lines.Section name) h = h
no_directive_line law words d (lines.Interval uuid align residue) h = h
no_directive_line law words d lines.Entry h = h

-- ---- a single word

single_cons : (word : List ℕ) → word ∷ [] ≡ [] → ⊥
single_cons word e = cc

-- a single word says nothing but a label
pub single_label : FormsBegin → (word : List ℕ) (said : AsmLine) → WordsSay (word ∷ []) said → (name : AsmName) × (said ≡ lines.Label name) × (label : List ℕ) × (word ≡ label ++ 58 ∷ []) × IsLabel label name
single_label law word lines.Blank h = absurd (single_cons word h)
single_label law word (lines.Label name) h = (name, refl, h.0, first_same word (h.0 ++ 58 ∷ []) [] [] h.1, h.2)
single_label law word (lines.Item item) h = absurd (no_single_item law word item h)
single_label law word (lines.Set name value) h = absurd h
single_label law word (lines.Section name) h = absurd h
single_label law word (lines.Interval uuid align residue) h = absurd h
single_label law word lines.Entry h = absurd h

pub directive_word : (word : List ℕ) → IsDirectiveWord word → IsDirective (word ∷ [])
directive_word word is = (word, [], refl, is)

pub word_of_directive : (word : List ℕ) (rest : List (List ℕ)) → IsDirective (word ∷ rest) → IsDirectiveWord word
word_of_directive word rest d = subst IsDirectiveWord (sym (first_same word d.0 rest d.1 d.2)) d.3

pub no_colon_directive : (word label : List ℕ) → word ≡ label ++ 58 ∷ [] → IsDirective (word ∷ []) → ⊥
no_colon_directive word label e d = (word_of_directive word [] d).2 label e

-- ---- more words

more_words : (word : List ℕ) (words : List (List ℕ)) → words ≡ word ∷ [] → 2 ≤ length words → ⊥
more_words word words e more = let one : length words ≡ 1 = ap length e in omega arith

none_of_more : (words : List (List ℕ)) → words ≡ [] → 2 ≤ length words → ⊥
none_of_more words e more = let none : length words ≡ 0 = ap length e in omega arith

-- two words and more say an item or nothing
pub more_item : (words : List (List ℕ)) → 2 ≤ length words → (said : AsmLine) → WordsSay words said → (item : AsmItem) × (said ≡ lines.Item item) × IsInstruction (texts_of words) item
more_item words more lines.Blank h = absurd (none_of_more words h more)
more_item words more (lines.Label name) h = absurd (more_words (h.0 ++ 58 ∷ []) words h.1 more)
more_item words more (lines.Item item) h = (item, refl, h)
more_item words more (lines.Set name value) h = absurd h
more_item words more (lines.Section name) h = absurd h
more_item words more (lines.Interval uuid align residue) h = absurd h
more_item words more lines.Entry h = absurd h

-- why more words that are no directive say nothing
pub faulty : (words : List (List ℕ)) (reason : TextReason) → ((said : AsmLine) → WordsSay words said → ⊥) → (IsDirective words → ⊥) → Tells reason (HasInstructionShape (texts_of words)) → AreFaulty words reason
faulty words reasons.Number none plain h = (none, h)
faulty words reasons.Syntax none plain h = (none, plain, h)
faulty words reasons.LabelTwice none plain h = absurd h
faulty words reasons.LabelUnknown none plain h = absurd h
faulty words reasons.Directive none plain h = absurd h

-- ---- faults are no lines, and there is one

pub none_said : FormsBegin → (words : List (List ℕ)) (reason : TextReason) → AreFaulty words reason → (said : AsmLine) → WordsSay words said → ⊥
none_said law words reasons.Directive h said says = no_directive_line law words h said says
none_said law words reasons.Number h said says = h.0 said says
none_said law words reasons.Syntax h said says = h.0 said says
none_said law words reasons.LabelTwice h said says = h
none_said law words reasons.LabelUnknown h said says = h

pub one_reason : FormsBegin → (words : List (List ℕ)) (a b : TextReason) → AreFaulty words a → AreFaulty words b → a ≡ b
one_reason law words reasons.Directive reasons.Directive h k = refl
one_reason law words reasons.Directive reasons.Number h k = absurd (no_directive_shape law words h k.1)
one_reason law words reasons.Directive reasons.Syntax h k = absurd (k.1 h)
one_reason law words reasons.Number reasons.Directive h k = absurd (no_directive_shape law words k h.1)
one_reason law words reasons.Number reasons.Number h k = refl
one_reason law words reasons.Number reasons.Syntax h k = absurd (k.2 h.1)
one_reason law words reasons.Syntax reasons.Directive h k = absurd (h.1 k)
one_reason law words reasons.Syntax reasons.Number h k = absurd (h.2 k.1)
one_reason law words reasons.Syntax reasons.Syntax h k = refl
one_reason law words reasons.LabelTwice b h k = absurd h
one_reason law words reasons.LabelUnknown b h k = absurd h
one_reason law words a reasons.LabelTwice h k = absurd k
one_reason law words a reasons.LabelUnknown h k = absurd k

-- ---- lines

abbrev pub OneSplit : Type 0
OneSplit = (line : List ℕ) (a b : List (List ℕ)) → HasWords line a → HasWords line b → a ≡ b

pub not_both : OneSplit → FormsBegin → (line : List ℕ) (said : AsmLine) (reason : TextReason) → IsLine line said → IsFault line reason → ⊥
not_both split law line said reason is fault = elim fault [
  | inl f ↦ none_said law f.words reason f.such said (subst (λ (ws : List (List ℕ)). WordsSay ws said) (split line is.words f.words is.has f.has) is.such)
  | inr f ↦ f.1 (record { utf8 = is.utf8; words = is.words; has = is.has; such = tt })
]

pub one_line_fault : OneSplit → FormsBegin → (line : List ℕ) (a b : TextReason) → IsFault line a → IsFault line b → a ≡ b
one_line_fault split law line a b x y = elim x [
  | inl f ↦ elim y [
    | inl g ↦ one_reason law g.words a b (subst (λ (ws : List (List ℕ)). AreFaulty ws a) (split line f.words g.words f.has g.has) f.such) g.such
    | inr g ↦ absurd (g.1 (record { utf8 = f.utf8; words = f.words; has = f.has; such = tt }))
  ]
  | inr f ↦ elim y [
    | inl g ↦ absurd (f.1 (record { utf8 = g.utf8; words = g.words; has = g.has; such = tt }))
    | inr g ↦ f.0 ∙ sym g.0
  ]
]

-- ---- what readers answer

pub colon_no_directive : (word label : List ℕ) → word ≡ label ++ 58 ∷ [] → IsTrue false ↔ IsDirectiveWord word
colon_no_directive word label e = (λ t. cc, λ d. absurd (d.2 label e))

pub dot_directive : (word : List ℕ) (r : Bool) → ((front : List ℕ) → word ≡ front ++ 58 ∷ [] → ⊥) → (IsTrue r ↔ ((behind : List ℕ) × (word ≡ 46 ∷ behind))) → IsTrue r ↔ IsDirectiveWord word
dot_directive word r none test = (λ t. let q = test.0 t in (q.0, q.1, none), λ d. test.1 (d.0, d.1))

-- the label before the colon is the only one
one_colon : (word label other : List ℕ) → word ≡ label ++ 58 ∷ [] → word ≡ other ++ 58 ∷ [] → other ≡ label
one_colon word label other e f = append_cancel_right other label (58 ∷ []) (sym f ∙ e)

pub label_refused : FormsBegin → (word label : List ℕ) (end : End TextReason) → word ≡ label ++ 58 ∷ [] → ((name : AsmName) → IsLabel label name → end ≡ ends.Memory) → (said : AsmLine) → WordsSay (word ∷ []) said → end ≡ ends.Memory
label_refused law word label end e only said says =
    let s = single_label law word said says in
    only s.0 (subst (λ (l : List ℕ). IsLabel l s.0) (one_colon word label s.2 e s.3) s.4)

no_memory : (reason : TextReason) → ends.Fault reason ≡ ends.Memory → ⊥
no_memory reason e = cc

pub label_fault : FormsBegin → (word label : List ℕ) (reason : TextReason) → word ≡ label ++ 58 ∷ [] → ((name : AsmName) → IsLabel label name → ends.Fault reason ≡ ends.Memory) → reason ≡ reasons.Syntax → AreFaulty (word ∷ []) reason
label_fault law word label reason e only is =
    subst (λ (r : TextReason). AreFaulty (word ∷ []) r) (sym is) (
      λ said says. no_memory reason (label_refused law word label (ends.Fault reason) e only said says),
      no_colon_directive word label e,
      no_single_shape law word,
    )

pub label_said : (word label : List ℕ) (name : AsmName) → word ≡ label ++ 58 ∷ [] → IsLabel label name → WordsSay (word ∷ []) (lines.Label name)
label_said word label name e is = (label, ap (λ (w : List ℕ). w ∷ []) e, is)

pub label_only : FormsBegin → (word label : List ℕ) (found : AsmName) → word ≡ label ++ 58 ∷ [] → ((name : AsmName) → IsLabel label name → found ≡ name) → (said : AsmLine) → WordsSay (word ∷ []) said → lines.Label found ≡ said
label_only law word label found e only said says =
    let s = single_label law word said says in
    ap (λ (n : AsmName). lines.Label n) (only s.0 (subst (λ (l : List ℕ). IsLabel l s.0) (one_colon word label s.2 e s.3) s.4)) ∙ sym s.1

-- a single word without a colon says nothing
pub nothing_said : FormsBegin → (word : List ℕ) → ((front : List ℕ) → word ≡ front ++ 58 ∷ [] → ⊥) → (said : AsmLine) → WordsSay (word ∷ []) said → ⊥
nothing_said law word none said says = let s = single_label law word said says in none s.2 s.3

pub plain_fault : FormsBegin → (word : List ℕ) → ((front : List ℕ) → word ≡ front ++ 58 ∷ [] → ⊥) → (IsDirectiveWord word → ⊥) → AreFaulty (word ∷ []) reasons.Syntax
plain_fault law word none plain = (nothing_said law word none, λ d. plain (word_of_directive word [] d), no_single_shape law word)

-- ---- items

pub item_refused : (words : List (List ℕ)) (end : End TextReason) → 2 ≤ length words → ((item : AsmItem) → IsInstruction (texts_of words) item → end ≡ ends.Memory) → (said : AsmLine) → WordsSay words said → end ≡ ends.Memory
item_refused words end more only said says = let s = more_item words more said says in only s.0 s.2

pub item_fault : (words : List (List ℕ)) (reason : TextReason) → 2 ≤ length words → (IsDirective words → ⊥) → ((item : AsmItem) → IsInstruction (texts_of words) item → ends.Fault reason ≡ ends.Memory) → Tells reason (HasInstructionShape (texts_of words)) → AreFaulty words reason
item_fault words reason more plain only shape = faulty words reason (λ said says. no_memory reason (item_refused words (ends.Fault reason) more only said says)) plain shape

pub texts_fault : (words texts : List (List ℕ)) (reason : TextReason) → texts ≡ texts_of words → 2 ≤ length words → (IsDirective words → ⊥) → ((item : AsmItem) → IsInstruction texts item → ends.Fault reason ≡ ends.Memory) → Tells reason (HasInstructionShape texts) → AreFaulty words reason
texts_fault words texts reason same more plain only shape = item_fault
    words reason more plain
    (λ item is. only item (subst (λ (ts : List (List ℕ)). IsInstruction ts item) (sym same) is))
    (subst (λ (ts : List (List ℕ)). Tells reason (HasInstructionShape ts)) same shape)

pub item_only : (words : List (List ℕ)) (found : AsmItem) → 2 ≤ length words → ((item : AsmItem) → IsInstruction (texts_of words) item → found ≡ item) → (said : AsmLine) → WordsSay words said → lines.Item found ≡ said
item_only words found more only said says =
    let s = more_item words more said says in
    ap (λ (i : AsmItem). lines.Item i) (only s.0 s.2) ∙ sym s.1

-- ---- words and lines

pub line_refused : OneSplit → (line : List ℕ) (words : List (List ℕ)) (end : End TextReason) → HasWords line words → ((said : AsmLine) → WordsSay words said → end ≡ ends.Memory) → (said : AsmLine) → IsLine line said → end ≡ ends.Memory
line_refused split line words end has only said is = only said (subst (λ (ws : List (List ℕ)). WordsSay ws said) (split line is.words words is.has has) is.such)

pub line_only : OneSplit → (line : List ℕ) (words : List (List ℕ)) (found : AsmLine) → HasWords line words → ((said : AsmLine) → WordsSay words said → found ≡ said) → (said : AsmLine) → IsLine line said → found ≡ said
line_only split line words found has only said is = only said (subst (λ (ws : List (List ℕ)). WordsSay ws said) (split line is.words words is.has has) is.such)

pub line_fault : (line : List ℕ) (words : List (List ℕ)) (reason : TextReason) → IsUtf8 line → HasWords line words → AreFaulty words reason → IsFault line reason
line_fault line words reason utf8 has such = inl (record { utf8 = utf8; words = words; has = has; such = such })

-- a line without words
pub no_words_fault : (line : List ℕ) (reason : TextReason) → ((words : List (List ℕ)) → IsUtf8 line → HasWords line words → ends.Fault reason ≡ ends.Memory) → reason ≡ reasons.Syntax → IsFault line reason
no_words_fault line reason only is = inr (is, λ h. no_memory reason (only h.words h.utf8 h.has))
