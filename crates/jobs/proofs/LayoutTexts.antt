-- A text gives a layout or has a fault.
use Rattle.std.proofs.Common.{◌≡◌, ◌⊎◌, ℕ, zero, suc, ◌+◌, ◌<◌, ◌≤◌, ◌^◌, ◌%◌, Option, Some, None, List, [], ◌∷◌, ◌++◌, length, take, codes, refl, ap, subst, ◌∙◌, inl, inr, arith, add-one}
use Rattle.std.specs.Char.{digit_value}
use Rattle.std.specs.Str.{IsUtf8, is_utf8}
use Rattle.std.specs.Str.Parse.{AllDigits, IsNumeral, digits_value}
use Rattle.std.proofs.lemmas.Bool.{cases_Bool, cases_eq, cases_lt}
use Rattle.std.proofs.lemmas.Str.{IsUtf8-from_is_utf8, is_utf8-from_IsUtf8}
use Rattle.asm_read.specs.Identifier.{identifier_of}
use Rattle.asm_read.specs.Number.{IsDecimal, IsHexadecimal, IsNumber}
use Rattle.asm_read.specs.Words.{HasWords}
use Rattle.sym_expr.specs.declared.layout.Layout.{Layout}
use Rattle.sym_expr.specs.declared.layout.PlaceAt.{PlaceAt}
use Rattle.sym_expr.specs.Layouts.{IsStackSize}
use Rattle.layout_plan.specs.declared.line.LayoutLine.{LayoutLine}
use Rattle.layout_plan.specs.declared.line.LayoutLine.TheVariants.{Place, Stack}
use Rattle.layout_plan.specs.declared.line.StackAt.{StackAt}
use Rattle.layout_plan.specs.Text.{lines_of, IsPlace, IsStack, ThreeSay, WordsSay, Says, Say, places_in, stacks_in, layout_text, text_fault}
use Rattle.jobs.proofs.LineWords.{Decided, words_decided}

-- ---- decisions

both : {A B : Type 0} → Decided A → Decided B → Decided (A × B)
both (inl a) (inl b) = inl (a, b)
both (inl a) (inr refuted) = inr (λ x. refuted x.1)
both (inr refuted) b = inr (λ x. refuted x.0)

either : {A B : Type 0} → Decided A → Decided B → Decided (A ⊎ B)
either (inl a) b = inl (inl a)
either (inr refuted) (inl b) = inl (inr b)
either {A = A} {B = B} (inr no_a) (inr no_b) = inr none where
  none : A ⊎ B → ⊥
  none (inl a) = no_a a
  none (inr b) = no_b b

as_well : {A B : Type 0} → (A → B) → (B → A) → Decided A → Decided B
as_well to back (inl a) = inl (to a)
as_well to back (inr refuted) = inr (λ b. refuted (back b))

less : (m n : ℕ) → Decided (m < n)
less m n =
    elim (cases_lt m n) [
      | inl lt ↦ inl lt
      | inr ge ↦ inr (λ lt. omega arith)
    ]

utf8 : (line : List ℕ) → Decided (IsUtf8 line)
utf8 line =
    elim (cases_Bool (is_utf8 line)) [
      | inl passes ↦ inl (IsUtf8-from_is_utf8 line passes)
      | inr refuted ↦ inr (λ is. let passes = is_utf8-from_IsUtf8 line is in cc)
    ]

same_word : (a b : List ℕ) → Decided (a ≡ b)
same_word [] [] = inl refl
same_word [] (y ∷ b) = inr (λ e. cc)
same_word (x ∷ a) [] = inr (λ e. cc)
same_word (x ∷ a) (y ∷ b) =
    elim (cases_eq x y) [
      | inl first ↦ elim (same_word a b) [
        | inl rest ↦ inl (ap (λ (n : ℕ). n ∷ a) first ∙ ap (λ (l : List ℕ). y ∷ l) rest)
        | inr refuted ↦ inr (λ e. let rest : a ≡ b = cc in refuted rest)
      ]
      | inr refuted ↦ inr (λ e. let first : x ≡ y = cc in refuted first)
    ]

-- ---- numbers

digits : (base : ℕ) (word : List ℕ) → Decided (AllDigits base word)
digits base [] = inl tt
digits base (c ∷ word) = both (less (digit_value c) base) (digits base word)

numeral : (base : ℕ) (word : List ℕ) → Decided (IsNumeral base word)
numeral base word = both (less 0 (length word)) (digits base word)

-- two bytes, and the digits behind them
record IsPrefixed (word : List ℕ) : Type 0 where
  behind : List ℕ
  spelled : word ≡ codes "0x" ++ behind

prefixed : (word : List ℕ) → Decided (IsPrefixed word)
prefixed [] = inr (λ p. let e = p.spelled in cc)
prefixed (a ∷ []) = inr (λ p. let e = p.spelled in cc)
prefixed (a ∷ b ∷ behind) =
    elim (cases_eq a 48) [
      | inl one ↦ elim (cases_eq b 120) [
        | inl two ↦ inl (record { behind = behind; spelled = ap (λ (n : ℕ). n ∷ b ∷ behind) one ∙ ap (λ (n : ℕ). 48 ∷ n ∷ behind) two })
        | inr refuted ↦ inr (λ p. let e = p.spelled in let second : b ≡ 120 = cc in refuted second)
      ]
      | inr refuted ↦ inr (λ p. let e = p.spelled in let head : a ≡ 48 = cc in refuted head)
    ]

-- a number with a property that is decided of each
module _ (P : ℕ → Type 0) (holds : (n : ℕ) → Decided (P n)) where
  Fits : ℕ → Type 0
  Fits n = (n < 2 ^ 64) × P n

  fits : (n : ℕ) → Decided (Fits n)
  unfolding Fits
  fits n = both (less n (2 ^ 64)) (holds n)

  decimal_with : (word : List ℕ) → Decided ((n : ℕ) × IsDecimal word n × Fits n)
  decimal_with word = as_well
      (λ x. (digits_value 10 word, record { numeral = x.0; value = refl }, x.1))
      (λ x. (x.1.numeral, subst Fits x.1.value x.2))
      (both (numeral 10 word) (fits (digits_value 10 word)))

  -- the digits behind `0x`
  hexadecimal_of : (word behind : List ℕ) → word ≡ codes "0x" ++ behind → Decided ((n : ℕ) × IsHexadecimal word n × Fits n)
  hexadecimal_of word behind spelled = as_well
      (λ x. (digits_value 16 behind, record { digits = behind; spelled = spelled; most = (let short = x.1.0 in omega arith); numeral = x.0; value = refl }, x.1.1))
      (λ x.
      let again = x.1.spelled in
      let same : x.1.digits ≡ behind = cc in
      let most : length behind ≤ 16 = subst (λ (l : List ℕ). length l ≤ 16) same x.1.most in
      (subst (IsNumeral 16) same x.1.numeral, (omega arith, subst Fits (x.1.value ∙ ap (digits_value 16) same) x.2)))
      (both (numeral 16 behind) (both (less (length behind) 17) (fits (digits_value 16 behind))))

  hexadecimal_with : (word : List ℕ) → Decided ((n : ℕ) × IsHexadecimal word n × Fits n)
  hexadecimal_with word =
      elim (prefixed word) [
        | inl p ↦ hexadecimal_of word p.behind p.spelled
        | inr refuted ↦ inr (λ x. refuted (record { behind = x.1.digits; spelled = x.1.spelled }))
      ]

  number_with : (word : List ℕ) → Decided ((n : ℕ) × IsNumber word n × P n)
  unfolding Fits
  number_with word = as_well to back (either (decimal_with word) (hexadecimal_with word)) where
    to : ((n : ℕ) × IsDecimal word n × Fits n) ⊎ ((n : ℕ) × IsHexadecimal word n × Fits n) → (n : ℕ) × IsNumber word n × P n
    to (inl x) = (x.0, (inl x.1, x.2.0), x.2.1)
    to (inr x) = (x.0, (inr x.1, x.2.0), x.2.1)

    back : (n : ℕ) × IsNumber word n × P n → ((n : ℕ) × IsDecimal word n × Fits n) ⊎ ((n : ℕ) × IsHexadecimal word n × Fits n)
    back (n, (inl d, below), p) = inl (n, d, (below, p))
    back (n, (inr h, below), p) = inr (n, h, (below, p))

number : (word : List ℕ) → Decided ((n : ℕ) × IsNumber word n)
number word = as_well (λ x. (x.0, x.1)) (λ x. (x.0, x.1, tt)) (number_with (λ n. Unit {0}) (λ n. inl tt) word)

stack_size : (n : ℕ) → Decided (IsStackSize n)
stack_size n = as_well
    (λ x. let some = x.1.0 in let most = x.1.1 in record { aligned = x.0; some = omega arith; most = omega arith })
    (λ x. let some = x.some in let most = x.most in (x.aligned, (omega arith, omega arith)))
    (both (cases_eq (n % 16) 0) (both (less 15 n) (less n (2 ^ 24 + 1))))

-- ---- what a line says

identifier : (word : List ℕ) (o : Option (List ℕ)) → identifier_of word ≡ o → Decided ((id : List ℕ) × (identifier_of word ≡ Some id))
identifier word (Some id) e = inl (id, e)
identifier word None e = inr (λ x. let some = x.1 in cc)

place : (interval at : List ℕ) → Decided ((p : PlaceAt) × IsPlace interval at p)
place interval at = as_well
    (λ x. (record { interval = x.0.0; at = x.1.0 }, record { interval_is = x.0.1; at_is = x.1.1 }))
    (λ x. ((x.0.interval, x.1.interval_is), (x.0.at, x.1.at_is)))
    (both (identifier interval (identifier_of interval) refl) (number at))

stack : (at size : List ℕ) → Decided ((s : StackAt) × IsStack at size s)
stack at size = as_well
    (λ x. (record { at = x.0.0; size = x.1.0 }, record { at_is = x.0.1; size_is = x.1.1; size_fits = x.1.2 }))
    (λ x. ((x.0.at, x.1.at_is), (x.0.size, x.1.size_is, x.1.size_fits)))
    (both (number at) (number_with IsStackSize stack_size size))

module _ (first second third : List ℕ) where
  IsThree : Type 0
  IsThree = ((first ≡ codes "place") × ((p : PlaceAt) × IsPlace second third p)) ⊎ ((first ≡ codes "stack") × ((s : StackAt) × IsStack second third s))

  three_to : IsThree → (said : LayoutLine) × ThreeSay first second third said
  unfolding IsThree
  three_to (inl x) = (Place x.1.0, (x.0, x.1.1))
  three_to (inr x) = (Stack x.1.0, (x.0, x.1.1))

  three_back : (said : LayoutLine) × ThreeSay first second third said → IsThree
  unfolding IsThree
  three_back (Place p, say) = inl (say.0, (p, say.1))
  three_back (Stack s, say) = inr (say.0, (s, say.1))

  three : Decided ((said : LayoutLine) × ThreeSay first second third said)
  unfolding IsThree
  three = as_well three_to three_back (either (both (same_word first (codes "place")) (place second third)) (both (same_word first (codes "stack")) (stack second third)))

three_words : (first second third : List ℕ) (said : LayoutLine) → WordsSay (first ∷ second ∷ third ∷ []) said → ThreeSay first second third said
three_words first second third said (one, two, last, is, say) =
    let same : one ≡ first = cc in
    let same_second : two ≡ second = cc in
    let same_third : last ≡ third = cc in
    subst (λ w. ThreeSay first second w said) same_third (subst (λ w. ThreeSay first w last said) same_second (subst (λ w. ThreeSay w two last said) same say))

words_say : (words : List (List ℕ)) → Decided ((said : LayoutLine) × WordsSay words said)
words_say [] = inr (λ x. let is = x.1.3 in cc)
words_say (a ∷ []) = inr (λ x. let is = x.1.3 in cc)
words_say (a ∷ b ∷ []) = inr (λ x. let is = x.1.3 in cc)
words_say (a ∷ b ∷ c ∷ []) = as_well (λ x. (x.0, (a, b, c, refl, x.1))) (λ x. (x.0, three_words a b c x.0 x.1)) (three a b c)
words_say (a ∷ b ∷ c ∷ d ∷ words) = inr (λ x. let is = x.1.3 in cc)

-- a line has one list of words
module _ (split : (line : List ℕ) (a b : List (List ℕ)) → HasWords line a → HasWords line b → a ≡ b) where
  says : (line : List ℕ) → Decided ((said : LayoutLine) × Says line said)
  says line =
      elim (utf8 line) [
        | inr refuted ↦ inr (λ x. refuted x.1.utf8)
        | inl is ↦ elim (words_decided line) [
          | inr refuted ↦ inr (λ x. refuted (x.1.words, x.1.has))
          | inl w ↦ as_well
              (λ x. (x.0, record { utf8 = is; words = w.0; has = w.1; say = x.1 }))
              (λ x. (x.0, subst (λ words. WordsSay words x.0) (split line x.1.words w.0 x.1.has w.1) x.1.say))
              (words_say w.0)
        ]
      ]

  -- ---- all lines

  -- lines of layout text with so many stacks at most
  record HasRoom (room : ℕ) (lines : List (List ℕ)) : Type 0 where
    said : List LayoutLine
    say : Say lines said
    stacks : length (stacks_in said) ≤ room

  record StopsAt (room : ℕ) (lines : List (List ℕ)) : Type 0 where
    n : ℕ
    within : n < length lines
    before : HasRoom room (take n lines)
    faulty : HasRoom room (take (suc n) lines) → ⊥

  module _ (one : (line : List ℕ) (a b : LayoutLine) → Says line a → Says line b → a ≡ b) where
    stops_here : (room : ℕ) (line : List ℕ) (lines : List (List ℕ)) → (HasRoom room (line ∷ []) → ⊥) → StopsAt room (line ∷ lines)
    stops_here room line lines refuted = record { n = 0; within = omega arith; before = record { said = []; say = tt; stacks = omega arith }; faulty = refuted }

    says_none : (room : ℕ) (line : List ℕ) → (((said : LayoutLine) × Says line said) → ⊥) → HasRoom room (line ∷ []) → ⊥
    says_none room line refuted h = none h.said h.say where
      none : (said : List LayoutLine) → Say (line ∷ []) said → ⊥
      none [] say = say
      none (x ∷ said) say = refuted (x, say.0)

    -- behind a line that says something
    behind : (room left : ℕ) (line : List ℕ) (lines : List (List ℕ)) (x : LayoutLine) → Says line x → room ≡ length (stacks_in (x ∷ [])) + left → HasRoom left lines → HasRoom room (line ∷ lines)
    behind room left line lines (Place p) is e h = let most = h.stacks in record { said = Place p ∷ h.said; say = (is, h.say); stacks = omega arith }
    behind room left line lines (Stack s) is e h = let most = h.stacks in record { said = Stack s ∷ h.said; say = (is, h.say); stacks = omega arith }

    more_stacks : (x : LayoutLine) (said : List LayoutLine) → length (stacks_in (x ∷ said)) ≡ length (stacks_in (x ∷ [])) + length (stacks_in said)
    more_stacks (Place p) said = omega arith
    more_stacks (Stack s) said = omega arith

    ahead : (room left : ℕ) (line : List ℕ) (lines : List (List ℕ)) (x : LayoutLine) → Says line x → room ≡ length (stacks_in (x ∷ [])) + left → HasRoom room (line ∷ lines) → HasRoom left lines
    ahead room left line lines x is e h = from h.said h.say h.stacks where
      from : (said : List LayoutLine) → Say (line ∷ lines) said → length (stacks_in said) ≤ room → HasRoom left lines
      from [] say most = absurd say
      from (y ∷ said) say most =
          let count : length (stacks_in (x ∷ said)) ≡ length (stacks_in (y ∷ said)) = ap (λ z. length (stacks_in (z ∷ said))) (one line x y is say.0) in
          let parts = more_stacks x said in
          record { said = said; say = say.1; stacks = omega arith }

    second_stack : (line : List ℕ) (s : StackAt) → Says line (Stack s) → HasRoom 0 (line ∷ []) → ⊥
    second_stack line s is h = none h.said h.say h.stacks where
      none : (said : List LayoutLine) → Say (line ∷ []) said → length (stacks_in said) ≤ 0 → ⊥
      none [] say most = say
      none (y ∷ said) say most =
          let count : length (stacks_in (Stack s ∷ said)) ≡ length (stacks_in (y ∷ said)) = ap (λ z. length (stacks_in (z ∷ said))) (one line (Stack s) y is say.0) in
          omega arith

    goes_on : (room left : ℕ) (line : List ℕ) (lines : List (List ℕ)) (x : LayoutLine) → Says line x → room ≡ length (stacks_in (x ∷ [])) + left → HasRoom left lines ⊎ StopsAt left lines
        → HasRoom room (line ∷ lines) ⊎ StopsAt room (line ∷ lines)
    goes_on room left line lines x is e (inl h) = inl (behind room left line lines x is e h)
    goes_on room left line lines x is e (inr stop) =
        let within = stop.within in
        inr (record {
          n = suc stop.n;
          within = omega arith;
          before = behind room left line (take stop.n lines) x is e stop.before;
          faulty = λ h. stop.faulty (ahead room left line (take (suc stop.n) lines) x is e h);
        })

    read_first : (room : ℕ) (line : List ℕ) (lines : List (List ℕ)) → ((left : ℕ) → HasRoom left lines ⊎ StopsAt left lines) → (x : LayoutLine) → Says line x
        → HasRoom room (line ∷ lines) ⊎ StopsAt room (line ∷ lines)
    read_first room line lines rest (Place p) is = goes_on room room line lines (Place p) is (omega arith) (rest room)
    read_first zero line lines rest (Stack s) is = inr (stops_here 0 line lines (second_stack line s is))
    read_first (suc left) line lines rest (Stack s) is = goes_on (suc left) left line lines (Stack s) is (omega arith) (rest left)

    read_all : (room : ℕ) (lines : List (List ℕ)) → HasRoom room lines ⊎ StopsAt room lines
    read_all room [] = inl (record { said = []; say = tt; stacks = omega arith })
    read_all room (line ∷ lines) =
        elim (says line) [
          | inl x ↦ read_first room line lines (λ left. read_all left lines) x.0 x.1
          | inr refuted ↦ inr (stops_here room line lines (says_none room line refuted))
        ]

    -- lines with one stack at most
    one_or_none : (text : List ℕ) (said : List LayoutLine) → Say (lines_of text) said → (stacks : List StackAt) → stacks_in said ≡ stacks → length stacks ≤ 1
        → ((layout : Layout) × layout_text text layout) ⊎ ((number : ℕ) × text_fault text number)
    one_or_none text said say [] e le = inr (length (lines_of text) + 1, (length (lines_of text), refl, inr (refl, record { said = said; say = say; none = e })))
    one_or_none text said say (s ∷ []) e le = inl (record { places = places_in said; stack_at = s.at; stack_size = s.size }, record { said = said; say = say; places = refl; stack = e })
    one_or_none text said say (s ∷ t ∷ stacks) e le = absurd (omega arith)

    -- a text gives a layout or has a fault
    pub layout_or_fault : (text : List ℕ) → ((layout : Layout) × layout_text text layout) ⊎ ((number : ℕ) × text_fault text number)
    layout_or_fault text =
        elim (read_all 1 (lines_of text)) [
          | inl h ↦ one_or_none text h.said h.say (stacks_in h.said) refl h.stacks
          | inr stop ↦ inr (
            stop.n + 1,
            (
              stop.n,
              refl,
              inl (record {
                within = stop.within;
                before = record { said = stop.before.said; say = stop.before.say; stacks = stop.before.stacks };
                faulty = λ front. stop.faulty (record { said = front.said; say = subst (λ k. Say (take k (lines_of text)) front.said) (add-one stop.n) front.say; stacks = front.stacks });
              }),
            ),
          )
        ]
