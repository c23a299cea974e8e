-- A line says one thing, a text gives one layout or has one fault.
use Rattle.std.proofs.Common.{◌≡◌, ℕ, zero, suc, ◌+◌, ◌<◌, ◌≤◌, Some, List, [], ◌∷◌, length, take, get_or, refl, sym, ap, subst, ◌∙◌, arith, inl, inr}
use Rattle.std.proofs.lemmas.Bool.{cases_lt}
use Rattle.asm_read.specs.Number.{IsNumber}
use Rattle.asm_read.specs.Words.{HasWords}
use Rattle.sym_expr.specs.declared.layout.Layout.{Layout}
use Rattle.sym_expr.specs.declared.layout.PlaceAt.{PlaceAt}
use Rattle.layout_plan.specs.declared.line.LayoutLine.{LayoutLine}
use Rattle.layout_plan.specs.declared.line.LayoutLine.TheVariants.{Place, Stack}
use Rattle.layout_plan.specs.declared.line.StackAt.{StackAt}
use Rattle.layout_plan.proofs.Lines.{words_differ}
use Rattle.layout_plan.specs.Text.{lines_of, IsPlace, IsStack, ThreeSay, WordsSay, Says, Say, places_in, stacks_in, layout_text, IsFront, IsFaultyLine, LacksStack, text_fault}

-- what the laws of the field readers say
abbrev pub OneSplit : Type 0
OneSplit = (line : List ℕ) (a b : List (List ℕ)) → HasWords line a → HasWords line b → a ≡ b

abbrev pub OneNumber : Type 0
OneNumber = (word : List ℕ) (m n : ℕ) → IsNumber word m → IsNumber word n → m ≡ n

abbrev pub OneSaying : Type 0
OneSaying = (line : List ℕ) (a b : LayoutLine) → Says line a → Says line b → a ≡ b

module _ (number : OneNumber) where
  one_place : (interval at : List ℕ) (p q : PlaceAt) → IsPlace interval at p → IsPlace interval at q → p ≡ q
  one_place interval at p q a b =
      let intervals : Some p.interval ≡ Some q.interval = sym a.interval_is ∙ b.interval_is in
      let same : p.interval ≡ q.interval = cc in
      ap (λ (id : List ℕ). record { interval = id; at = p.at }) same ∙ ap (λ (n : ℕ). record { interval = q.interval; at = n }) (number at p.at q.at a.at_is b.at_is)

  one_stack : (at size : List ℕ) (s t : StackAt) → IsStack at size s → IsStack at size t → s ≡ t
  one_stack at size s t a b =
      ap (λ (n : ℕ). record { at = n; size = s.size }) (number at s.at t.at a.at_is b.at_is)
      ∙ ap (λ (n : ℕ). record { at = t.at; size = n }) (number size s.size t.size a.size_is b.size_is)

  one_of_three : (first second third : List ℕ) (a b : LayoutLine) → ThreeSay first second third a → ThreeSay first second third b → a ≡ b
  one_of_three first second third (Place p) (Place q) a b = ap Place (one_place second third p q a.1 b.1)
  one_of_three first second third (Place p) (Stack t) a b = absurd (words_differ first a.0 b.0)
  one_of_three first second third (Stack s) (Place q) a b = absurd (words_differ first b.0 a.0)
  one_of_three first second third (Stack s) (Stack t) a b = ap Stack (one_stack second third s t a.1 b.1)

  one_of_words : (words : List (List ℕ)) (a b : LayoutLine) → WordsSay words a → WordsSay words b → a ≡ b
  one_of_words words a b (first, second, third, is, say) (first', second', third', is', say') =
      let same : first' ∷ second' ∷ third' ∷ [] ≡ first ∷ second ∷ third ∷ [] = sym is' ∙ is in
      let one : first' ≡ first = cc in
      let two : second' ≡ second = cc in
      let three : third' ≡ third = cc in
      one_of_three first second third a b say
      (subst (λ w. ThreeSay first second w b) three (subst (λ w. ThreeSay first w third' b) two (subst (λ w. ThreeSay w second' third' b) one say')))

  pub one_saying : OneSplit → OneSaying
  one_saying split line a b s t =
      one_of_words s.words a b s.say (subst (λ words. WordsSay words b) (split line t.words s.words t.has s.has) t.say)

-- lists of lines and what they say
say_take : (k : ℕ) (lines : List (List ℕ)) (said : List LayoutLine) → Say lines said → Say (take k lines) (take k said)
say_take zero lines said say = tt
say_take (suc k) [] [] say = tt
say_take (suc k) [] (x ∷ said) say = absurd say
say_take (suc k) (line ∷ lines) [] say = absurd say
say_take (suc k) (line ∷ lines) (x ∷ said) say = (say.0, say_take k lines said say.1)

stacks-take : (k : ℕ) (said : List LayoutLine) → length (stacks_in (take k said)) ≤ length (stacks_in said)
stacks-take zero said = omega arith
stacks-take (suc k) [] = omega arith
stacks-take (suc k) (Place p ∷ said) = stacks-take k said
stacks-take (suc k) (Stack s ∷ said) = let le = stacks-take k said in omega arith

front_of : (k : ℕ) (lines : List (List ℕ)) (said : List LayoutLine) → Say lines said → length (stacks_in said) ≤ 1 → IsFront (take k lines)
front_of k lines said say le = let less = stacks-take k said in record { said = take k said; say = say_take k lines said say; stacks = omega arith }

take_within : (k n : ℕ) (lines : List (List ℕ)) → k ≤ n → take k (take n lines) ≡ take k lines
take_within zero n lines le = refl
take_within (suc k) zero lines le = absurd (omega arith)
take_within (suc k) (suc n) [] le = refl
take_within (suc k) (suc n) (line ∷ lines) le = ap (λ ls. line ∷ ls) (take_within k n lines (omega arith))

shorter_front : (k n : ℕ) (lines : List (List ℕ)) → k ≤ n → IsFront (take n lines) → IsFront (take k lines)
shorter_front k n lines le front = subst IsFront (take_within k n lines le) (front_of k (take n lines) front.said front.say front.stacks)

module _ (one : OneSaying) where
  pub say_one : (lines : List (List ℕ)) (a b : List LayoutLine) → Say lines a → Say lines b → a ≡ b
  say_one [] [] [] s t = refl
  say_one [] [] (y ∷ b) s t = absurd t
  say_one [] (x ∷ a) b s t = absurd s
  say_one (line ∷ lines) [] b s t = absurd s
  say_one (line ∷ lines) (x ∷ a) [] s t = absurd t
  say_one (line ∷ lines) (x ∷ a) (y ∷ b) s t = ap (λ z. z ∷ a) (one line x y s.0 t.0) ∙ ap (λ l. y ∷ l) (say_one lines a b s.1 t.1)

  pub one_layout : (text : List ℕ) (a b : Layout) → layout_text text a → layout_text text b → a ≡ b
  one_layout text a b s t =
      let same = say_one (lines_of text) s.said t.said s.say t.say in
      let places : a.places ≡ b.places = s.places ∙ ap places_in same ∙ sym t.places in
      let stacks : record { at = a.stack_at; size = a.stack_size } ∷ [] ≡ record { at = b.stack_at; size = b.stack_size } ∷ [] = sym s.stack ∙ ap stacks_in same ∙ t.stack in
      let first : StackAt → List StackAt → StackAt = λ d xs. get_or xs 0 d in
      let stack : record { at = a.stack_at; size = a.stack_size } ≡ record { at = b.stack_at; size = b.stack_size } = ap (first (record { at = 0; size = 0 })) stacks in
      ap (λ ps. record { places = ps; stack_at = a.stack_at; stack_size = a.stack_size }) places
      ∙ ap (λ (x : StackAt). record { places = b.places; stack_at = x.at; stack_size = x.size }) stack

  pub apart : (text : List ℕ) (layout : Layout) (number : ℕ) → layout_text text layout → text_fault text number → ⊥
  apart text layout number gives (n, is, inl faulty) =
      let one_stack : length (stacks_in gives.said) ≡ 1 = ap length gives.stack in
      faulty.faulty (front_of (n + 1) (lines_of text) gives.said gives.say (omega arith))
  apart text layout number gives (n, is, inr lacks) =
      let none : length (stacks_in lacks.1.said) ≡ 0 = ap length lacks.1.none in
      let one_stack : length (stacks_in gives.said) ≡ 1 = ap length gives.stack in
      let same : length (stacks_in gives.said) ≡ length (stacks_in lacks.1.said) = ap (λ said. length (stacks_in said)) (say_one (lines_of text) gives.said lacks.1.said gives.say lacks.1.say) in
      omega arith

not_before : (lines : List (List ℕ)) (m n : ℕ) → IsFaultyLine lines m → IsFront (take n lines) → m < n → ⊥
not_before lines m n faulty front lt = faulty.faulty (shorter_front (m + 1) n lines (omega arith) front)

whole_front : (k : ℕ) (lines : List (List ℕ)) → LacksStack lines → IsFront (take k lines)
whole_front k lines lacks = let none : length (stacks_in lacks.said) ≡ 0 = ap length lacks.none in front_of k lines lacks.said lacks.say (omega arith)

pub one_fault : (text : List ℕ) (a b : ℕ) → text_fault text a → text_fault text b → a ≡ b
one_fault text a b (m, is, inl f) (n, is', inl g) =
    elim (cases_lt m n) [
      | inl lt ↦ absurd (not_before (lines_of text) m n f g.before lt)
      | inr ge ↦
          elim (cases_lt n m) [
            | inl lt ↦ absurd (not_before (lines_of text) n m g f.before lt)
            | inr le ↦ omega arith
          ]
    ]
one_fault text a b (m, is, inl f) (n, is', inr g) = absurd (f.faulty (whole_front (m + 1) (lines_of text) g.1))
one_fault text a b (m, is, inr f) (n, is', inl g) = absurd (g.faulty (whole_front (n + 1) (lines_of text) f.1))
one_fault text a b (m, is, inr f) (n, is', inr g) = let first = f.0 in let second = g.0 in omega arith
