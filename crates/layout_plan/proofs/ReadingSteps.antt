-- Steps of the loop that reads layout text.
use Rattle.std.proofs.Common.{◌≡◌, ℕ, zero, suc, ◌+◌, ◌<◌, ◌≤◌, ◌==◌, true, Option, Some, None, List, [], ◌∷◌, ◌++◌, length, take, drop, refl, sym, ap, subst, ◌∙◌, arith, inl, inr, add-one}
use Rattle.std.specs.Option.{option_to_list}
use Rattle.std.specs.List.{AllByRecursion}
use Rattle.std.proofs.lemmas.Bool.Decides.{nat_tests}
use Rattle.sym_expr.specs.declared.layout.Layout.{Layout}
use Rattle.sym_expr.specs.declared.layout.PlaceAt.{PlaceAt}
use Rattle.sym_expr.specs.Layouts.{IsStackSize}
use Rattle.layout_plan.specs.declared.line.LayoutLine.{LayoutLine}
use Rattle.layout_plan.specs.declared.line.LayoutLine.TheVariants.{Place, Stack}
use Rattle.layout_plan.specs.declared.line.StackAt.{StackAt}
use Rattle.layout_plan.specs.Text.{lines_of, Says, Say, places_in, stacks_in, layout_text, IsFront, IsFaultyLine, text_fault}
use Rattle.gr_base.specs.declared.end.End.{End}
use Rattle.gr_base.specs.declared.end.End.TheVariants as ends
use Rattle.layout_plan.specs.declared.fault.LayoutFault.{LayoutFault}
use Rattle.layout_plan.specs.Answers.{IsLine}
use Rattle.layout_plan.proofs.Sayings.{OneSaying, say_one}

-- so many lines are read, and said these places and this stack
pub record SoFar (lines : List (List ℕ)) (n : ℕ) (places : List PlaceAt) (stack : Option StackAt) (rest : List ℕ) : Type 0 where
  pub said : List LayoutLine
  pub say : Say (take n lines) said
  pub places_are : places ≡ places_in said
  pub stacks : stacks_in said ≡ option_to_list stack
  pub within : n ≤ length lines
  pub rest_is : lines_of rest ≡ drop n lines

pub nothing_read : (text : List ℕ) → SoFar (lines_of text) 0 [] None text
nothing_read text = record { said = []; say = tt; places_are = refl; stacks = refl; within = omega arith; rest_is = refl }

-- the line after the first n
record Next (lines : List (List ℕ)) (n : ℕ) (line : List ℕ) (behind : List (List ℕ)) : Type 0 where
  below : n < length lines
  front : take (suc n) lines ≡ take n lines ++ line ∷ []
  back : drop (suc n) lines ≡ behind

next : (n : ℕ) (lines : List (List ℕ)) (line : List ℕ) (behind : List (List ℕ)) → drop n lines ≡ line ∷ behind → Next lines n line behind
next zero [] line behind e = cc
next zero (l ∷ ls) line behind e =
    let same : l ≡ line = cc in
    let rest : ls ≡ behind = cc in
    record { below = omega arith; front = ap (λ (k : List ℕ). k ∷ []) same; back = rest }
next (suc n) [] line behind e = cc
next (suc n) (l ∷ ls) line behind e =
    let more = next n ls line behind e in
    let below = more.below in
    record { below = omega arith; front = ap (λ k. l ∷ k) more.front; back = more.back }

next_line : (lines : List (List ℕ)) (n : ℕ) (places : List PlaceAt) (stack : Option StackAt) (rest line behind : List ℕ) → SoFar lines n places stack rest → lines_of rest ≡ line ∷ lines_of behind
    → Next lines n line (lines_of behind)
next_line lines n places stack rest line behind so_far split = next n lines line (lines_of behind) (sym so_far.rest_is ∙ split)

say_push : (lines : List (List ℕ)) (said : List LayoutLine) (line : List ℕ) (x : LayoutLine) → Say lines said → Says line x → Say (lines ++ line ∷ []) (said ++ x ∷ [])
say_push [] [] line x say one = (one, tt)
say_push [] (y ∷ said) line x say one = absurd say
say_push (l ∷ lines) [] line x say one = absurd say
say_push (l ∷ lines) (y ∷ said) line x say one = (say.0, say_push lines said line x say.1 one)

record Popped (lines : List (List ℕ)) (line : List ℕ) (said : List LayoutLine) : Type 0 where
  front : List LayoutLine
  last : LayoutLine
  is : said ≡ front ++ last ∷ []
  say : Say lines front
  one : Says line last

say_pop : (lines : List (List ℕ)) (line : List ℕ) (said : List LayoutLine) → Say (lines ++ line ∷ []) said → Popped lines line said
say_pop [] line [] say = absurd say
say_pop [] line (x ∷ []) say = record { front = []; last = x; is = refl; say = tt; one = say.0 }
say_pop [] line (x ∷ y ∷ said) say = absurd say.1
say_pop (l ∷ lines) line [] say = absurd say
say_pop (l ∷ lines) line (x ∷ said) say =
    let rest = say_pop lines line said say.1 in
    record { front = x ∷ rest.front; last = rest.last; is = ap (λ xs. x ∷ xs) rest.is; say = (say.0, rest.say); one = rest.one }

places-append : (said : List LayoutLine) (x : LayoutLine) → places_in (said ++ x ∷ []) ≡ places_in said ++ places_in (x ∷ [])
places-append [] x = refl
places-append (Place p ∷ said) x = ap (λ ps. p ∷ ps) (places-append said x)
places-append (Stack s ∷ said) x = places-append said x

stacks-append : (said : List LayoutLine) (x : LayoutLine) → stacks_in (said ++ x ∷ []) ≡ stacks_in said ++ stacks_in (x ∷ [])
stacks-append [] x = refl
stacks-append (Place p ∷ said) x = stacks-append said x
stacks-append (Stack s ∷ said) x = ap (λ ss. s ∷ ss) (stacks-append said x)

one_stack_at_most : (stack : Option StackAt) → length (option_to_list stack) ≤ 1
one_stack_at_most None = omega arith
one_stack_at_most (Some s) = omega arith

module _ (lines : List (List ℕ)) (n : ℕ) (places : List PlaceAt) (stack : Option StackAt) (rest line behind : List ℕ) (so_far : SoFar lines n places stack rest) (split : lines_of rest ≡ line ∷ lines_of behind) where
  -- one more line
  pub one_more : (x : LayoutLine) (more : List PlaceAt) (after : Option StackAt) → Says line x → more ≡ places ++ places_in (x ∷ [])
      → option_to_list after ≡ option_to_list stack ++ stacks_in (x ∷ []) → SoFar lines (n + 1) more after behind
  one_more x more after says places_after stack_after =
      let at = next_line lines n places stack rest line behind so_far split in
      let below = at.below in
      let front : take (n + 1) lines ≡ take n lines ++ line ∷ [] = ap (λ k. take k lines) (add-one n) ∙ at.front in
      let back : drop (n + 1) lines ≡ lines_of behind = ap (λ k. drop k lines) (add-one n) ∙ at.back in
      record {
        said = so_far.said ++ x ∷ [];
        say = subst (λ ls. Say ls (so_far.said ++ x ∷ [])) (sym front) (say_push (take n lines) so_far.said line x so_far.say says);
        places_are = places_after ∙ ap (λ ps. ps ++ places_in (x ∷ [])) so_far.places_are ∙ sym (places-append so_far.said x);
        stacks = stacks-append so_far.said x ∙ ap (λ ss. ss ++ stacks_in (x ∷ [])) so_far.stacks ∙ sym stack_after;
        within = omega arith;
        rest_is = sym back;
      }

  front_so_far : IsFront (take n lines)
  front_so_far =
      let stacks = ap length so_far.stacks in
      let most = one_stack_at_most stack in
      record { said = so_far.said; say = so_far.say; stacks = omega arith }

  pub bad_line : ((x : LayoutLine) → Says line x → ⊥) → IsFaultyLine lines n
  bad_line bad =
      let at = next_line lines n places stack rest line behind so_far split in
      let front_is : take (n + 1) lines ≡ take n lines ++ line ∷ [] = ap (λ k. take k lines) (add-one n) ∙ at.front in
      record {
        within = at.below;
        before = front_so_far;
        faulty = λ front. let popped = say_pop (take n lines) line front.said (subst (λ ls. Say ls front.said) front_is front.say) in bad popped.last popped.one;
      }

  pub second_stack : OneSaying → (x : LayoutLine) → Says line x → 2 ≤ length (option_to_list stack ++ stacks_in (x ∷ [])) → IsFaultyLine lines n
  second_stack one x says two =
      let at = next_line lines n places stack rest line behind so_far split in
      let front_is : take (n + 1) lines ≡ take n lines ++ line ∷ [] = ap (λ k. take k lines) (add-one n) ∙ at.front in
      record {
        within = at.below;
        before = front_so_far;
        faulty = λ front.
            let popped = say_pop (take n lines) line front.said (subst (λ ls. Say ls front.said) front_is front.say) in
            let fronts : popped.front ≡ so_far.said = say_one one (take n lines) popped.front so_far.said popped.say so_far.say in
            let last : popped.last ≡ x = one line popped.last x popped.one says in
            let all : front.said ≡ so_far.said ++ x ∷ [] = popped.is ∙ ap (λ xs. xs ++ popped.last ∷ []) fronts ∙ ap (λ (y : LayoutLine). so_far.said ++ y ∷ []) last in
            let stacks : stacks_in front.said ≡ option_to_list stack ++ stacks_in (x ∷ []) = ap stacks_in all ∙ stacks-append so_far.said x ∙ ap (λ ss. ss ++ stacks_in (x ∷ [])) so_far.stacks in
            let long = ap length stacks in
            let most = front.stacks in
            omega arith;
      }

  -- the faults of the next line are faults of the text
  pub bad_line_fault : (text : List ℕ) → lines ≡ lines_of text → (e : End LayoutFault) → IsLine e (λ number. (number ≡ n + 1) × ((x : LayoutLine) → Says line x → ⊥)) → IsLine e (text_fault text)
  bad_line_fault text are ends.Memory is = tt
  bad_line_fault text are (ends.Fault f) is = (is.0, is.1, (n, is.2.0, inl (subst (λ ls. IsFaultyLine ls n) are (bad_line is.2.1))))

  pub second_stack_fault : OneSaying → (x : LayoutLine) → Says line x → (text : List ℕ) → lines ≡ lines_of text → (e : End LayoutFault)
      → IsLine e (λ number. (number ≡ n + 1) × (2 ≤ length (option_to_list stack ++ stacks_in (x ∷ [])))) → IsLine e (text_fault text)
  second_stack_fault one x says text are ends.Memory is = tt
  second_stack_fault one x says text are (ends.Fault f) is = (is.0, is.1, (n, is.2.0, inl (subst (λ ls. IsFaultyLine ls n) are (second_stack one x says is.2.1))))

all_taken : (n : ℕ) (lines : List (List ℕ)) → n ≤ length lines → drop n lines ≡ [] → (take n lines ≡ lines) × (n ≡ length lines)
all_taken zero [] le e = (refl, refl)
all_taken zero (l ∷ ls) le e = cc
all_taken (suc n) [] le e = absurd (omega arith)
all_taken (suc n) (l ∷ ls) le e = let rest = all_taken n ls (omega arith) e in (ap (λ k. l ∷ k) rest.0, let same = rest.1 in omega arith)

is_zero : (n : ℕ) → (n == 0) ≡ true → n ≡ 0
is_zero n h = grind (arith, nat_tests)

none_left : (rest : List ℕ) → (length rest == 0) ≡ true → rest ≡ []
none_left [] h = refl
none_left (x ∷ rest) h = let none : length (x ∷ rest) ≡ 0 = is_zero (length (x ∷ rest)) h in absurd (omega arith)

-- at the end of the text
module _ (text : List ℕ) (n : ℕ) (places : List PlaceAt) (stack : Option StackAt) (rest : List ℕ) (so_far : SoFar (lines_of text) n places stack rest) (ended : (length rest == 0) ≡ true) where
  all_lines : (take n (lines_of text) ≡ lines_of text) × (n ≡ length (lines_of text))
  all_lines = all_taken n (lines_of text) so_far.within (sym so_far.rest_is ∙ ap lines_of (none_left rest ended))

  pub all_read : (s : StackAt) → stack ≡ Some s → layout_text text (record { places = places; stack_at = s.at; stack_size = s.size })
  all_read s is = record {
    said = so_far.said;
    say = subst (λ ls. Say ls so_far.said) all_lines.0 so_far.say;
    places = so_far.places_are;
    stack = so_far.stacks ∙ ap option_to_list is;
  }

  pub no_stack_read : stack ≡ None → text_fault text (n + 1)
  no_stack_read is = (n, refl, inr (all_lines.1, record { said = so_far.said; say = subst (λ ls. Say ls so_far.said) all_lines.0 so_far.say; none = so_far.stacks ∙ ap option_to_list is }))

-- a text that gives a layout gives its stack a size that a stack may have
sizes : (lines : List (List ℕ)) (said : List LayoutLine) → Say lines said → AllByRecursion (λ (s : StackAt). IsStackSize s.size) (stacks_in said)
sizes [] [] say = tt
sizes [] (x ∷ said) say = absurd say
sizes (line ∷ lines) [] say = absurd say
sizes (line ∷ lines) (Place p ∷ said) say = sizes lines said say.1
sizes (line ∷ lines) (Stack s ∷ said) say = (say.0.say.4.1.size_fits, sizes lines said say.1)

pub stack_fits : (text : List ℕ) (layout : Layout) → layout_text text layout → IsStackSize layout.stack_size
stack_fits text layout gives = (subst (AllByRecursion (λ (s : StackAt). IsStackSize s.size)) gives.stack (sizes (lines_of text) gives.said gives.say)).0
