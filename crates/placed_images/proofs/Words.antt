-- The words of a code block in their order, and which of them is the word at a point.
use Rattle.std.proofs.Common.{◌≡◌, ℕ, zero, suc, ◌+◌, ◌*◌, ◌/◌, ◌%◌, ◌≤◌, ◌⊎◌, inl, inr, Bool, true, false, Option, Some, None, List, [], ◌∷◌, ◌++◌, length, map, slice_get, refl, sym, ap, subst, ◌∙◌, arith}
use Rattle.std.specs.Prelude.{filter, ◌==◌, if◌then◌else◌}
use Rattle.std.specs.Option.{option_or}
use Rattle.std.specs.List.{AllByRecursion as Every}
use Rattle.std.proofs.lemmas.Bool.{cond-true, eq-eqb}
use Rattle.std.proofs.lemmas.Option.{none-some, slice_get_within}
use Rattle.sym_expr.specs.declared.point.Point.{Point}
use Rattle.sym_expr.specs.declared.program.CodeBlock.{CodeBlock}
use Rattle.sym_expr.specs.declared.program.Program.{Program}
use Rattle.sym_expr.specs.declared.program.Word.{Word}
use Rattle.sym_expr.specs.Images.{all_words, inserted_below, words_at, words_from}
use Rattle.sym_expr.specs.Patches.{inserted_at}
use Rattle.sym_expr.specs.Points.{code_size, ins, own_at, word_in}
use Rattle.sym_expr.specs.WellMade.{IsCode}
use Rattle.placed_images.proofs.Below.{below_more, below_none}
use Rattle.placed_images.proofs.Lists.{some_is, every_append}

-- ---- of each word

kept : (P : Word → Type 0) (w : ℕ × Word) (ws : List (ℕ × Word)) (b : Bool) → P w.1 → Every P (map (λ (v : ℕ × Word). v.1) ws) → Every P (map (λ (v : ℕ × Word). v.1) (if b then w ∷ ws else ws))
kept P w ws true h k = (h, k)
kept P w ws false h k = k

every_inserted : (P : Word → Type 0) (at : ℕ) (ws : List (ℕ × Word)) → Every (λ (w : ℕ × Word). P w.1) ws → Every P (inserted_at at ws)
every_inserted P at [] h = tt
every_inserted P at (w ∷ ws) h = kept P w (filter (λ (v : ℕ × Word). at == v.0) ws) (at == w.0) h.0 (every_inserted P at ws h.1)

-- what all own and inserted words have all words of a block have
pub every_word : (P : Word → Type 0) (b : CodeBlock) (o : ℕ) (ws : List Word) → Every (λ (w : ℕ × Word). P w.1) b.inserted → Every P ws → Every P (words_from b o ws)
every_word P b o [] h k = every_inserted P o b.inserted h
every_word P b o (w ∷ ws) h k = every_append P (ins b o) (w ∷ words_from b (o + 4) ws) (every_inserted P o b.inserted h) (k.0, every_word P b (o + 4) ws h k.1)

pub every_placed : (P : Word → Type 0) (at : ℕ) (ws : List Word) → Every P ws → Every (λ (w : ℕ × Word). P w.1) (words_at at ws)
every_placed P at [] h = tt
every_placed P at (w ∷ ws) h = (h.0, every_placed P (at + 4) ws h.1)

-- ---- the word at a place

or_cases : (a b : Option Word) (w : Word) → option_or a b ≡ Some w → (a ≡ Some w) ⊎ ((a ≡ None) × (b ≡ Some w))
or_cases None b w e = inr (refl, e)
or_cases (Some v) b w e = inl e

past : (ws : List Word) (j : ℕ) → slice_get ws j ≡ None → length ws ≤ j
past [] j e = omega arith
past (w ∷ ws) zero e = absurd (none-some w (sym e))
past (w ∷ ws) (suc j) e = let rest = past ws j e in omega arith

module _ (P : ℕ → Word → Type 0) where
  abbrev pub Each : List (ℕ × Word) → Type 0
  Each ws = Every (λ (w : ℕ × Word). P w.0 w.1) ws

  moved : (a b : ℕ) (w : Word) → a ≡ b → P a w → P b w
  moved a b w e h = let Q : ℕ → Type 0 = λ n. P n w in subst Q e h

  at_place : (ws : List Word) (at j : ℕ) (w : Word) → Each (words_at at ws) → slice_get ws j ≡ Some w → P (at + 4 * j) w
  at_place [] at j w h e = absurd (none-some w e)
  at_place (v ∷ ws) at zero w h e = let Q : Word → Type 0 = λ u. P (at + 4 * 0) u in subst Q (some_is v w e) (moved at (at + 4 * 0) v (omega arith) h.0)
  at_place (v ∷ ws) at (suc j) w h e = moved (at + 4 + 4 * j) (at + 4 * suc j) w (omega arith) (at_place ws (at + 4) j w h.1 e)

  front : (xs ys : List Word) (at : ℕ) → Each (words_at at (xs ++ ys)) → Each (words_at at xs)
  front [] ys at h = tt
  front (x ∷ xs) ys at h = (h.0, front xs ys (at + 4) h.1)

  each_moved : (a b : ℕ) (ws : List Word) → a ≡ b → Each (words_at a ws) → Each (words_at b ws)
  each_moved a b ws e h = let Q : ℕ → Type 0 = λ n. Each (words_at n ws) in subst Q e h

  back : (xs ys : List Word) (at : ℕ) → Each (words_at at (xs ++ ys)) → Each (words_at (at + 4 * length xs) ys)
  back [] ys at h = each_moved at (at + 4 * 0) ys (omega arith) h
  back (x ∷ xs) ys at h = each_moved (at + 4 + 4 * length xs) (at + 4 * suc (length xs)) ys (omega arith) (back xs ys (at + 4) h.1)

  -- a word that stands at the first offset of these
  here_none : (b : CodeBlock) (at o j : ℕ) (w : Word) → Each (words_at at (ins b o)) → (slice_get (ins b o) j ≡ Some w) ⊎ ((slice_get (ins b o) j ≡ None) × (◌≡◌ {A = Option Word} None (Some w))) → P (at + 4 * j) w
  here_none b at o j w h (inl e) = at_place (ins b o) at j w h e
  here_none b at o j w h (inr e) = absurd (none-some w e.1)

  here_some : (b : CodeBlock) (at o j : ℕ) (w v : Word) (rest : List Word) → Each (words_at at (ins b o ++ v ∷ rest)) → j ≤ length (ins b o)
      → (slice_get (ins b o) j ≡ Some w) ⊎ ((slice_get (ins b o) j ≡ None) × (Some v ≡ Some w)) → P (at + 4 * j) w
  here_some b at o j w v rest h le (inl e) = at_place (ins b o) at j w (front (ins b o) (v ∷ rest) at h) e
  here_some b at o j w v rest h le (inr e) =
      let over = past (ins b o) j e.0 in
      let behind = back (ins b o) (v ∷ rest) at h in
      let Q : Word → Type 0 = λ u. P (at + 4 * j) u in
      subst Q (some_is v w e.1) (moved (at + 4 * length (ins b o)) (at + 4 * j) v (omega arith) behind.0)

  here : (b : CodeBlock) (at o j : ℕ) (ws : List Word) (w : Word) → Each (words_at at (words_from b o ws)) → j ≤ length (ins b o) → option_or (slice_get (ins b o) j) (slice_get ws 0) ≡ Some w → P (at + 4 * j) w
  here b at o j [] w h le e = here_none b at o j w h (or_cases (slice_get (ins b o) j) None w e)
  here b at o j (v ∷ vs) w h le e = here_some b at o j w v (words_from b (o + 4) vs) h le (or_cases (slice_get (ins b o) j) (Some v) w e)

  -- a word that stands at a later one
  there : (g : Program) (b : CodeBlock) (is : IsCode g b) (ws : List Word) (k at o later j : ℕ) (w : Word) → o % 4 ≡ 0 → k ≤ length ws → later ≡ o + 4 * k → Each (words_at at (words_from b o ws)) → j ≤ length (ins b later)
      → option_or (slice_get (ins b later) j) (slice_get ws k) ≡ Some w → (a : ℕ) → a + 4 * inserted_below o b ≡ at + (4 * k + (4 * inserted_below later b + 4 * j)) → P a w
  there g b is ws zero at o later j w whole within same h le e a place =
      let now : later ≡ o = omega arith in
      let Q : ℕ → Type 0 = λ n. (j ≤ length (ins b n)) × ((option_or (slice_get (ins b n) j) (slice_get ws 0) ≡ Some w) × (inserted_below later b ≡ inserted_below n b)) in
      let q = subst Q now (le, (e, refl)) in
      let below = q.1.1 in
      moved (at + 4 * j) a w (omega arith) (here b at o j ws w h q.0 q.1.0)
  there g b is [] (suc k) at o later j w whole within same h le e a place = absurd (omega arith)
  there g b is (v ∷ vs) (suc k) at o later j w whole within same h le e a place =
      let behind = back (ins b o) (v ∷ words_from b (o + 4) vs) at h in
      let more = below_more g b is o whole in
      there g b is vs k (at + 4 * length (ins b o) + 4) (o + 4) later j w (omega arith) (omega arith) (omega arith) behind.1 le e a (omega arith)

  -- the word at a point of a block
  pub at_point : (g : Program) (b : CodeBlock) (is : IsCode g b) (at : ℕ) (p : Point) (w : Word) → p.offset % 4 ≡ 0 → p.offset ≤ code_size b → p.j ≤ length (ins b p.offset) → Each (words_at at (all_words b)) → word_in b p ≡ Some w
      → P (at + (p.offset + (4 * inserted_below p.offset b + 4 * p.j))) w
  at_point g b is at p w whole within le h e =
      let own : own_at b p.offset ≡ slice_get b.own (p.offset / 4) = cond-true (p.offset % 4 == 0) (slice_get b.own (p.offset / 4)) None (eq-eqb (p.offset % 4) 0 whole) in
      let none = below_none g b is in
      there g b is b.own (p.offset / 4) at 0 p.offset p.j w refl (omega arith) (omega arith) h le (ap (λ o. option_or (slice_get (ins b p.offset) p.j) o) (sym own) ∙ e) (at + (p.offset + (4 * inserted_below p.offset b + 4 * p.j))) (omega arith)

-- a point that has a word is followed by a point of its block
inside_own : (b : CodeBlock) (o : ℕ) (w : Word) → o % 4 ≡ 0 → own_at b o ≡ Some w → o + 4 ≤ code_size b
inside_own b o w whole e =
    let own : own_at b o ≡ slice_get b.own (o / 4) = cond-true (o % 4 == 0) (slice_get b.own (o / 4)) None (eq-eqb (o % 4) 0 whole) in
    let within = slice_get_within b.own (o / 4) w (sym own ∙ e) in
    omega arith

-- so its word ends inside the block
pub room : (b : CodeBlock) (p : Point) (w : Word) → p.offset % 4 ≡ 0 → word_in b p ≡ Some w → (p.j + 1 ≤ length (ins b p.offset)) ⊎ (p.offset + 4 ≤ code_size b)
room b p w whole e = from (or_cases (slice_get (ins b p.offset) p.j) (own_at b p.offset) w e)
  where
    from : (slice_get (ins b p.offset) p.j ≡ Some w) ⊎ ((slice_get (ins b p.offset) p.j ≡ None) × (own_at b p.offset ≡ Some w)) → (p.j + 1 ≤ length (ins b p.offset)) ⊎ (p.offset + 4 ≤ code_size b)
    from (inl e) = let within = slice_get_within (ins b p.offset) p.j w e in inl (omega arith)
    from (inr e) = inr (inside_own b p.offset w whole e.1)
