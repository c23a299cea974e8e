-- Where own and inserted words of a block stand among its words.
use Rattle.std.proofs.Common.{◌≡◌, ◌≢◌, ℕ, zero, suc, ◌+◌, ◌*◌, ◌/◌, ◌%◌, ◌<◌, ◌≤◌, inl, inr, Bool, true, false, List, [], ◌∷◌, ◌++◌, length, Option, Some, None, slice_get, refl, sym, ap, subst, ◌∙◌, arith, length-append}
use Rattle.std.specs.Prelude.{filter, nat_lt, ◌==◌, if◌then◌else◌}
use Rattle.std.specs.Option.{option_and_then, option_map, option_to_list}
use Rattle.std.proofs.lemmas.Bool.{cases_lt, eq-eqb, false≢true, le-ltb, lt-ltb, ne_eqb}
use Rattle.std.proofs.lemmas.List.{length-map}
use Rattle.std.proofs.lemmas.Option.{same_Some}
use Rattle.block_parts.specs.declared.words.Origin.{Origin}
use Rattle.block_parts.specs.declared.words.Origin.TheVariants.{Own, Inserted}
use Rattle.block_parts.specs.declared.words.PatchedWord.{PatchedWord}
use Rattle.block_parts.specs.Words.{inserted, is_inserted, is_inserted_from, numbered, own, patched_words, words_from}
use Rattle.gt_model.specs.declared.exprs.Expr.{Expr}
use Rattle.gt_model.specs.declared.modules.Module.{Module}
use Rattle.rewrite.specs.Exprs.{brought_from, origin_expr, patch_expr, target_expr}
use Rattle.sym_expr.specs.declared.patches.PatchTarget.{PatchTarget}
use Rattle.sym_expr.specs.declared.patches.PatchWord.{PatchWord}
use Rattle.sym_expr.specs.declared.program.CodeBlock.{CodeBlock}
use Rattle.sym_expr.specs.declared.program.Word.{Word}
use Rattle.sym_expr.specs.Images.{inserted_below}
use Rattle.sym_expr.specs.Patches.{inserted_at}
use Rattle.sym_expr.specs.Points.{code_size}
use Rattle.rewritten_links.proofs.Ascending.{Ascend, ascend_both}
use Rattle.rewritten_links.proofs.Lists.{In, in_either}

-- ---- how many stand below an offset

abbrev one_if : Bool → ℕ
one_if true = 1
one_if false = 0

abbrev Placed : Type 0
Placed = ℕ × PatchedWord

abbrev below : ℕ → List Placed → ℕ
below n news = length (filter (λ (w : Placed). nat_lt w.0 n) news)

abbrev level : ℕ → List Placed → ℕ
level n news = length (filter (λ (w : Placed). n == w.0) news)

count_first : {A : Type 0} (w : A) (ws : List A) (b : Bool) → length (if b then w ∷ ws else ws) ≡ one_if b + length ws
count_first w ws true = omega arith
count_first w ws false = omega arith

lt_one : (a b : ℕ) → a < b → one_if (nat_lt a b) ≡ 1
lt_one a b lt = ap one_if (lt-ltb a b lt)

ge_none : (a b : ℕ) → b ≤ a → one_if (nat_lt a b) ≡ 0
ge_none a b le = ap one_if (le-ltb a b le)

eq_one : (a b : ℕ) → a ≡ b → one_if (a == b) ≡ 1
eq_one a b e = ap one_if (eq-eqb a b e)

ne_none : (a b : ℕ) → (a ≡ b → ⊥) → one_if (a == b) ≡ 0
ne_none a b h = ap one_if (ne_eqb a b h)

-- what stands at an offset or below it stands below the next
one_next : (from o next : ℕ) → from < next → (from < o → next ≤ o) → one_if (from == o) + one_if (nat_lt o from) ≡ one_if (nat_lt o next)
one_next from o next lt gap =
    elim (cases_lt o from) [
      | inl under ↦
          let x = ne_none from o (λ e. omega (arith, e, under)) in
          let y = lt_one o from under in
          let z = lt_one o next (omega (arith, under, lt)) in
          omega (arith, x, y, z)
      | inr over ↦
          elim (cases_lt from o) [
            | inl past ↦
                let x = ne_none from o (λ e. omega (arith, e, past)) in
                let y = ge_none o from over in
                let z = ge_none o next (gap past) in
                omega (arith, x, y, z)
            | inr same ↦
                let x = eq_one from o (omega (arith, over, same)) in
                let y = ge_none o from over in
                let z = lt_one o next (omega (arith, same, lt)) in
                omega (arith, x, y, z)
          ]
    ]

count_next : (from next : ℕ) (news : List Placed) → from < next → ((w : Placed) → In w news → from < w.0 → next ≤ w.0) → level from news + below from news ≡ below next news
count_next from next [] lt gap = omega arith
count_next from next (w ∷ news) lt gap =
    let a = count_first w (filter (λ (v : Placed). from == v.0) news) (from == w.0) in
    let b = count_first w (filter (λ (v : Placed). nat_lt v.0 from) news) (nat_lt w.0 from) in
    let c = count_first w (filter (λ (v : Placed). nat_lt v.0 next) news) (nat_lt w.0 next) in
    let here = one_next from w.0 next lt (gap w (inl refl)) in
    let rest = count_next from next news lt (λ v k. gap v (inr k)) in
    omega (arith, a, b, c, here, rest)

more_one : (o a b : ℕ) → a ≤ b → one_if (nat_lt o a) ≤ one_if (nat_lt o b)
more_one o a b le =
    elim (cases_lt o a) [
      | inl under ↦
          let x = lt_one o a under in
          let y = lt_one o b (omega (arith, under, le)) in
          omega (arith, x, y)
      | inr over ↦ let x = ge_none o a over in omega (arith, x)
    ]

below_grows : (a b : ℕ) (news : List Placed) → a ≤ b → below a news ≤ below b news
below_grows a b [] le = omega arith
below_grows a b (w ∷ news) le =
    let x = count_first w (filter (λ (v : Placed). nat_lt v.0 a) news) (nat_lt w.0 a) in
    let y = count_first w (filter (λ (v : Placed). nat_lt v.0 b) news) (nat_lt w.0 b) in
    let here = more_one w.0 a b le in
    let rest = below_grows a b news le in
    omega (arith, x, y, here, rest)

one_most : (b : Bool) → one_if b ≤ 1
one_most true = omega arith
one_most false = omega arith

below_most : (n : ℕ) (news : List Placed) → below n news ≤ length news
below_most n [] = omega arith
below_most n (w ∷ news) =
    let x = count_first w (filter (λ (v : Placed). nat_lt v.0 n) news) (nat_lt w.0 n) in
    let here = one_most (nat_lt w.0 n) in
    let rest = below_most n news in
    omega (arith, x, here, rest)

below_none : (news : List Placed) → below 0 news ≡ 0
below_none [] = refl
below_none (w ∷ news) =
    let x = count_first w (filter (λ (v : Placed). nat_lt v.0 0) news) (nat_lt w.0 0) in
    let here = ge_none w.0 0 (omega arith) in
    let rest = below_none news in
    omega (arith, x, here, rest)

numbered_below : (n k : ℕ) (ws : List (ℕ × Word)) → below n (numbered k ws) ≡ length (filter (λ (w : ℕ × Word). nat_lt w.0 n) ws)
numbered_below n k [] = refl
numbered_below n k (w ∷ ws) =
    let v : Placed = (w.0, inserted k w.1) in
    let x = count_first v (filter (λ (u : Placed). nat_lt u.0 n) (numbered (suc k) ws)) (nat_lt w.0 n) in
    let y = count_first w (filter (λ (u : ℕ × Word). nat_lt u.0 n) ws) (nat_lt w.0 n) in
    let rest = numbered_below n (suc k) ws in
    omega (arith, x, y, rest)

numbered_length : (k : ℕ) (ws : List (ℕ × Word)) → length (numbered k ws) ≡ length ws
numbered_length k [] = refl
numbered_length k (w ∷ ws) = ap suc (numbered_length (suc k) ws)

-- each is of a whole word
abbrev pub OnFour : List (ℕ × Word) → Type 0
OnFour ws = (w : ℕ × Word) → In w ws → w.0 % 4 ≡ 0

numbered_four : (k : ℕ) (ws : List (ℕ × Word)) → OnFour ws → (v : Placed) → In v (numbered k ws) → v.0 % 4 ≡ 0
numbered_four k [] h v l = absurd l
numbered_four k (w ∷ ws) h v (inl e) = subst (λ (x : Placed). x.0 % 4 ≡ 0) (sym e) (h w (inl refl))
numbered_four k (w ∷ ws) h v (inr l) = numbered_four (suc k) ws (λ u n. h u (inr n)) v l

numbered_inserted : (k : ℕ) (ws : List (ℕ × Word)) (v : Placed) → In v (numbered k ws) → is_inserted v.1 ≡ true
numbered_inserted k [] v l = absurd l
numbered_inserted k (w ∷ ws) v (inl e) = subst (λ (x : Placed). is_inserted x.1 ≡ true) (sym e) refl
numbered_inserted k (w ∷ ws) v (inr l) = numbered_inserted (suc k) ws v l

-- ---- the place of an own word

get_past : {A : Type 0} (xs ys : List A) (j : ℕ) → slice_get (xs ++ ys) (length xs + j) ≡ slice_get ys j
get_past [] ys j = ap (slice_get ys) (omega arith)
get_past (x ∷ xs) ys j =
    let next : suc (length xs) + j ≡ suc (length xs + j) = omega arith in
    ap (slice_get (x ∷ (xs ++ ys))) next ∙ get_past xs ys j

level_length : (from : ℕ) (news : List Placed) → length (inserted_at from news) ≡ level from news
level_length from news = length-map (filter (λ (w : Placed). from == w.0) news) (λ (w : Placed). w.1)

abbrev IsOwnAt : List PatchedWord → ℕ → Type 0
IsOwnAt ws j = (w : PatchedWord) × (slice_get ws j ≡ Some w) × (is_inserted w ≡ false)

own_at : (news : List Placed) (from k d : ℕ) (ws : List Word) → d ≡ from + 4 * k → k < length ws → from % 4 ≡ 0 → ((v : Placed) → In v news → v.0 % 4 ≡ 0)
    → (j : ℕ) × (j + below from news ≡ k + below (d + 1) news) × IsOwnAt (words_from news from ws) j
own_at news from k d [] e l four all = absurd (omega (arith, l))
own_at news from zero d (w ∷ ws) e l four all =
    let count = level_length from news in
    let next = count_next from (from + 1) news (omega arith) (λ v k lt. omega (arith, lt)) in
    let place : d + 1 ≡ from + 1 = omega (arith, e) in
    let same = ap (λ n. below n news) place in
    (length (inserted_at from news) + 0, omega (arith, count, next, same), (own from w, get_past (inserted_at from news) (own from w ∷ words_from news (from + 4) ws) 0, refl))
own_at news from (suc k) d (w ∷ ws) e l four all =
    let rest = own_at news (from + 4) k d ws (omega (arith, e)) (omega (arith, l)) (omega (arith, four)) all in
    let count = level_length from news in
    let next = count_next from (from + 4) news (omega arith) (λ v n lt. let whole = all v n in omega (arith, four, whole, lt)) in
    let sum = rest.1 in
    (length (inserted_at from news) + suc rest.0, omega (arith, count, next, sum), (rest.2.0, get_past (inserted_at from news) (own from w ∷ words_from news (from + 4) ws) (suc rest.0) ∙ rest.2.1, rest.2.2))

-- ---- how many words there are

words_most : (news : List Placed) (from : ℕ) (ws : List Word) → length (words_from news from ws) + below from news ≤ length ws + length news
words_most news from [] =
    let count = level_length from news in
    let next = count_next from (from + 1) news (omega arith) (λ v k lt. omega (arith, lt)) in
    let most = below_most (from + 1) news in
    omega (arith, count, next, most)
words_most news from (w ∷ ws) =
    let count = level_length from news in
    let next = count_next from (from + 1) news (omega arith) (λ v k lt. omega (arith, lt)) in
    let more = below_grows (from + 1) (from + 4) news (omega arith) in
    let all = length-append (inserted_at from news) (own from w ∷ words_from news (from + 4) ws) in
    let rest = words_most news (from + 4) ws in
    omega (arith, count, next, more, all, rest)

pub patched_most : (b : CodeBlock) → length (patched_words b) ≤ length b.own + length b.inserted
patched_most b =
    let all = words_most (numbered 0 b.inserted) 0 b.own in
    let count = numbered_length 0 b.inserted in
    omega (arith, all, count)

-- ---- the place of what an inserted word brings

-- it is that of the word
pub record StandsAt (start : ℕ) (ws : List PatchedWord) (y : Expr) : Type 0 where
  pub place : ℕ
  pub within : place < length ws
  pub at : y.at ≡ start + 4 * place
  pub word : PatchedWord
  pub got : slice_get ws place ≡ Some word
  pub new : is_inserted word ≡ true

pub of_target : (m : Module) (start : ℕ) (o : Option PatchTarget) (y : Expr) → In y (option_to_list (option_map (target_expr m start) o)) → y.at ≡ start
of_target m start None y h = absurd h
of_target m start (Some t) y (inl e) = ap (λ (x : Expr). x.at) e
of_target m start (Some t) y (inr h) = absurd h

of_word : (m : Module) (start : ℕ) (o : Option PatchWord) (y : Expr) → In y (option_to_list (option_and_then (patch_expr m start) o)) → y.at ≡ start
of_word m start None y h = absurd h
of_word m start (Some w) y h = of_target m start w.target y h

of_origin : (m : Module) (news : List PatchWord) (start : ℕ) (o : Origin) (y : Expr) → In y (option_to_list (origin_expr m news start o)) → (y.at ≡ start) × (is_inserted_from o ≡ true)
of_origin m news start (Own offset) y h = absurd h
of_origin m news start (Inserted k) y h = (of_word m start (slice_get news k) y h, refl)

first_at : (m : Module) (news : List PatchWord) (start : ℕ) (w : PatchedWord) (ws : List PatchedWord) (y : Expr) → In y (option_to_list (origin_expr m news start w.origin)) → StandsAt start (w ∷ ws) y
first_at m news start w ws y h =
    let both = of_origin m news start w.origin y h in
    let at = both.0 in
    record { place = 0; within = omega arith; at = omega (arith, at); word = w; got = refl; new = both.1 }

next_at : (start : ℕ) (w : PatchedWord) (ws : List PatchedWord) (y : Expr) → StandsAt (start + 4) ws y → StandsAt start (w ∷ ws) y
next_at start w ws y h =
    let within = h.within in
    let at = h.at in
    record { place = suc h.place; within = omega (arith, within); at = omega (arith, at); word = h.word; got = h.got; new = h.new }

pub stands_at : (m : Module) (news : List PatchWord) (start : ℕ) (ws : List PatchedWord) (y : Expr) → In y (brought_from m news start ws) → StandsAt start ws y
stands_at m news start [] y h = absurd h
stands_at m news start (w ∷ ws) y h =
    elim (in_either y (option_to_list (origin_expr m news start w.origin)) (brought_from m news (start + 4) ws) h) [
      | inl k ↦ first_at m news start w ws y k
      | inr k ↦ next_at start w ws y (stands_at m news (start + 4) ws y k)
    ]

-- what is brought ascends
pub option_ascends : (o : Option Expr) → Ascend (option_to_list o)
option_ascends None = tt
option_ascends (Some e) = (λ f k. absurd k, tt)

pub brought_ascends : (m : Module) (news : List PatchWord) (start : ℕ) (ws : List PatchedWord) → Ascend (brought_from m news start ws)
brought_ascends m news start [] = tt
brought_ascends m news start (w ∷ ws) =
    ascend_both (start + 4) (option_to_list (origin_expr m news start w.origin)) (brought_from m news (start + 4) ws) (option_ascends (origin_expr m news start w.origin)) (brought_ascends m news (start + 4) ws)
    (λ x k. let at = (of_origin m news start w.origin x k).0 in omega (arith, at))
    (λ y k. let at = (stands_at m news (start + 4) ws y k).at in omega (arith, at))

-- no own word stands where an inserted one stands
pub own_apart : (m : Module) (news : List PatchWord) (start d : ℕ) (b : CodeBlock) (y : Expr) → d % 4 ≡ 0 → d < code_size b → OnFour b.inserted → In y (brought_from m news start (patched_words b)) → y.at ≢ start + (d + 4 * inserted_below (d + 1) b)
own_apart m news start d b y four lt all h same =
    let own = own_at (numbered 0 b.inserted) 0 (d / 4) d b.own (omega (arith, four)) (omega (arith, lt)) refl (numbered_four 0 b.inserted all) in
    let stands = stands_at m news start (patched_words b) y h in
    let none = below_none (numbered 0 b.inserted) in
    let count = numbered_below (d + 1) 0 b.inserted in
    let sum = own.1 in
    let at = stands.at in
    let place : stands.place ≡ own.0 = omega (arith, four, none, count, sum, at, same) in
    let word : stands.word ≡ own.2.0 = same_Some stands.word own.2.0 (sym stands.got ∙ ap (slice_get (patched_words b)) place ∙ own.2.1) in
    false≢true (sym own.2.2 ∙ (ap is_inserted (sym word) ∙ stands.new))

pub below_length : (n : ℕ) (b : CodeBlock) → inserted_below n b ≤ length b.inserted
below_length n b =
    let count = numbered_below n 0 b.inserted in
    let most = below_most n (numbered 0 b.inserted) in
    let all = numbered_length 0 b.inserted in
    omega (arith, count, most, all)
