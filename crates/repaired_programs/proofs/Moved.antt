-- In the interval of a patched block each word has its own expression, or the one that it brings.
use Rattle.std.proofs.Common.{◌≡◌, ℕ, suc, ◌+◌, ◌-◌, ◌*◌, ◌%◌, ◌≤◌, ◌<◌, Bool, true, false, List, [], ◌∷◌, ◌++◌, length, map, Option, Some, None, refl, sym, ap, ◌∙◌, subst, inl, inr, arith}
use Rattle.std.specs.Prelude.{◌==◌, filter, find, slice_get, if◌then◌else◌}
use Rattle.std.specs.List.{AllByRecursion as Every}
use Rattle.std.specs.Option.{option_and_then, option_map, option_or, option_to_list}
use Rattle.std.proofs.lemmas.Bool.{both_ways, cases_lt, eq-eqb, ne_eqb}
use Rattle.std.proofs.lemmas.List.{append-nil}
use Rattle.block_parts.specs.declared.words.Origin.{Origin}
use Rattle.block_parts.specs.declared.words.Origin.TheVariants.{Own, Inserted}
use Rattle.block_parts.specs.declared.words.PatchedWord.{PatchedWord}
use Rattle.block_parts.specs.Words.{inserted, is_inserted_from, numbered, own, words_from}
use Rattle.gt_model.specs.declared.exprs.Expr.{Expr}
use Rattle.gt_model.specs.declared.intervals.Interval.{Interval}
use Rattle.gt_model.specs.declared.modules.Module.{Module}
use Rattle.rewrite.specs.Exprs.{brought_from, moved_expr, origin_expr, patch_expr, target_expr}
use Rattle.rewrite.specs.Offsets.{new_offset}
use Rattle.sym_expr.specs.declared.patches.PatchTarget.{PatchTarget}
use Rattle.sym_expr.specs.declared.patches.PatchWord.{PatchWord}
use Rattle.sym_expr.specs.declared.program.Stretch.{Stretch}
use Rattle.sym_expr.specs.declared.program.Word.{Word}
use Rattle.sym_expr.specs.Patches.{inserted_at}
use Rattle.sym_expr.specs.Program.{expr_at}
use Rattle.repaired_programs.proofs.Found.{at_place, below, below_all, below_four, below_grows, below_next, level, moved_found, moved_none}

-- ---- what words bring

module _ (m : Module) (news : List PatchWord) where
  -- what one word brings stands at its offset
  its_own : (at : ℕ) (o : Origin) → (k : ℕ) (es : List Expr) → at < k → find (at_place k) (option_to_list (origin_expr m news at o) ++ es) ≡ find (at_place k) es
  its_own at (Own offset) k es lt = refl
  its_own at (Inserted q) k es lt = word (slice_get news q)
    where
      target : (o : Option PatchTarget) → find (at_place k) (option_to_list (option_map (target_expr m at) o) ++ es) ≡ find (at_place k) es
      target None = refl
      target (Some x) = ap (λ c. if c then Some (target_expr m at x) else find (at_place k) es) (ne_eqb k at (λ e. omega (arith, e, lt)))

      word : (o : Option PatchWord) → find (at_place k) (option_to_list (option_and_then (patch_expr m at) o) ++ es) ≡ find (at_place k) es
      word None = refl
      word (Some w) = target w.target

  its_here : (at : ℕ) (o : Origin) (es : List Expr) → find (at_place at) es ≡ None → find (at_place at) (option_to_list (origin_expr m news at o) ++ es) ≡ origin_expr m news at o
  its_here at (Own offset) es none = none
  its_here at (Inserted q) es none = word (slice_get news q)
    where
      target : (o : Option PatchTarget) → find (at_place at) (option_to_list (option_map (target_expr m at) o) ++ es) ≡ option_map (target_expr m at) o
      target None = none
      target (Some x) = ap (λ c. if c then Some (target_expr m at x) else find (at_place at) es) (eq-eqb at at refl)

      word : (o : Option PatchWord) → find (at_place at) (option_to_list (option_and_then (patch_expr m at) o) ++ es) ≡ option_and_then (patch_expr m at) o
      word None = none
      word (Some w) = target w.target

  pub origin_from : (at : ℕ) (o : Origin) → Every (λ (e : Expr). e.at ≡ at) (option_to_list (origin_expr m news at o))
  origin_from at (Own offset) = tt
  origin_from at (Inserted q) = word (slice_get news q)
    where
      target : (o : Option PatchTarget) → Every (λ (e : Expr). e.at ≡ at) (option_to_list (option_map (target_expr m at) o))
      target None = tt
      target (Some x) = (refl, tt)

      word : (o : Option PatchWord) → Every (λ (e : Expr). e.at ≡ at) (option_to_list (option_and_then (patch_expr m at) o))
      word None = tt
      word (Some w) = target w.target

  none_brought : (k at : ℕ) (ws : List PatchedWord) → k < at → find (at_place k) (brought_from m news at ws) ≡ None
  none_brought k at [] lt = refl
  none_brought k at (w ∷ ws) lt = before w.origin ∙ none_brought k (at + 4) ws (omega (arith, lt))
    where
      target : (o : Option PatchTarget) → find (at_place k) (option_to_list (option_map (target_expr m at) o) ++ brought_from m news (at + 4) ws) ≡ find (at_place k) (brought_from m news (at + 4) ws)
      target None = refl
      target (Some x) = ap (λ c. if c then Some (target_expr m at x) else find (at_place k) (brought_from m news (at + 4) ws)) (ne_eqb k at (λ e. omega (arith, e, lt)))

      word : (o : Option PatchWord) → find (at_place k) (option_to_list (option_and_then (patch_expr m at) o) ++ brought_from m news (at + 4) ws) ≡ find (at_place k) (brought_from m news (at + 4) ws)
      word None = refl
      word (Some v) = target v.target

      before : (o : Origin) → find (at_place k) (option_to_list (origin_expr m news at o) ++ brought_from m news (at + 4) ws) ≡ find (at_place k) (brought_from m news (at + 4) ws)
      before (Own offset) = refl
      before (Inserted q) = word (slice_get news q)

-- ---- inserted words

abbrev IsNewWord : PatchedWord → Type 0
IsNewWord w = is_inserted_from w.origin ≡ true

new_at : (o k : ℕ) (ws : List (ℕ × Word)) → Every IsNewWord (inserted_at o (numbered k ws))
new_at o k [] = tt
new_at o k (w ∷ ws) = either (o == w.0) (new_at o (suc k) ws)
  where
    either : (x : Bool) → Every IsNewWord (inserted_at o (numbered (suc k) ws))
        → Every IsNewWord (map (λ (v : ℕ × PatchedWord). v.1) (if x then (w.0, inserted k w.1) ∷ filter (λ (v : ℕ × PatchedWord). o == v.0) (numbered (suc k) ws) else filter (λ (v : ℕ × PatchedWord). o == v.0) (numbered (suc k) ws)))
    either true rest = (refl, rest)
    either false rest = rest

level_at : (o k : ℕ) (ws : List (ℕ × Word)) → length (inserted_at o (numbered k ws)) ≡ level o ws
level_at o k [] = refl
level_at o k (w ∷ ws) = either (o == w.0) (level_at o (suc k) ws)
  where
    either : (x : Bool) → length (inserted_at o (numbered (suc k) ws)) ≡ level o ws
        → length (map (λ (v : ℕ × PatchedWord). v.1) (if x then (w.0, inserted k w.1) ∷ filter (λ (v : ℕ × PatchedWord). o == v.0) (numbered (suc k) ws) else filter (λ (v : ℕ × PatchedWord). o == v.0) (numbered (suc k) ws)))
        ≡ length (if x then w ∷ filter (λ (v : ℕ × Word). o == v.0) ws else filter (λ (v : ℕ × Word). o == v.0) ws)
    either true rest = ap suc rest
    either false rest = rest

pub or_none : {X : Type 0} (o : Option X) → option_or o None ≡ o
or_none None = refl
or_none (Some x) = refl

-- ---- the expression that a word has, where its block began at an offset of the old interval

abbrev pub word_expr : Interval → Stretch → Module → List PatchWord → ℕ → ℕ → Origin → Option Expr
word_expr i s m news base at (Own o) = option_map (moved_expr s) (expr_at (base + o) i)
word_expr i s m news base at (Inserted q) = option_and_then (patch_expr m at) (slice_get news q)

abbrev pub HaveExprs : Interval → Interval → Stretch → Module → List PatchWord → ℕ → ℕ → List PatchedWord → Type 0
HaveExprs j i s m news base at [] = Unit {0}
HaveExprs j i s m news base at (w ∷ ws) = (expr_at at j ≡ word_expr i s m news base at w.origin) × HaveExprs j i s m news base (at + 4) ws

-- ---- the words of a block that begins at one offset in the old interval, and has its room from a place up to an end in the new one

module _ (j i : Interval) (s : Stretch) (m : Module) (ins : List (ℕ × Word)) (news : List PatchWord) (brought : List Expr) (base place size next : ℕ) (before : (a : ℕ) → a < base → new_offset s a < place)
    (inside : (a : ℕ) → base ≤ a → a < base + size → new_offset s a ≡ place + (a - base + 4 * below (a - base + 1) ins)) (behind : (a : ℕ) → base + size ≤ a → next ≤ new_offset s a) (whole : Every (λ (w : ℕ × Word). w.0 % 4 ≡ 0) ins)
    (here : (k : ℕ) → expr_at k j ≡ option_or (find (at_place k) (map (moved_expr s) i.exprs)) (find (at_place k) brought)) (end : next ≡ place + (size + 4 * length ins)) where
  -- the byte of an own word comes to its new place, and no other does
  own_place : (o at : ℕ) → o < size → at ≡ place + (o + 4 * below (o + 1) ins) → at < next → (a : ℕ) → (at == new_offset s a) ≡ (base + o == a)
  own_place o at lt e under a =
      elim (cases_lt a (base + o)) [
        | inl less ↦
            elim (cases_lt a base) [
              | inl out ↦
                  let low = before a out in
                  ne_eqb at (new_offset s a) (λ q. omega (arith, q, low, e)) ∙ sym (ne_eqb (base + o) a (λ q. omega (arith, q, less)))
              | inr in_it ↦
                  let same = inside a in_it (omega (arith, less, lt)) in
                  let grows = below_grows (a - base + 1) (o + 1) ins (omega (arith, less, in_it)) in
                  ne_eqb at (new_offset s a) (λ q. omega (arith, q, same, grows, e, less, in_it)) ∙ sym (ne_eqb (base + o) a (λ q. omega (arith, q, less)))
            ]
        | inr ge ↦
            elim (cases_lt (base + o) a) [
              | inl more ↦
                  elim (cases_lt a (base + size)) [
                    | inl in_it ↦
                        let same = inside a (omega (arith, more)) in_it in
                        let grows = below_grows (o + 1) (a - base + 1) ins (omega (arith, more)) in
                        ne_eqb at (new_offset s a) (λ q. omega (arith, q, same, grows, e, more)) ∙ sym (ne_eqb (base + o) a (λ q. omega (arith, q, more)))
                    | inr out ↦
                        let high = behind a out in
                        ne_eqb at (new_offset s a) (λ q. omega (arith, q, high, under)) ∙ sym (ne_eqb (base + o) a (λ q. omega (arith, q, more)))
                  ]
              | inr le ↦
                  let same = inside a (omega (arith, ge)) (omega (arith, ge, le, lt)) in
                  let depth : a - base ≡ o = omega (arith, ge, le) in
                  let level_now : below (a - base + 1) ins ≡ below (o + 1) ins = ap (λ k. below (k + 1) ins) depth in
                  eq-eqb at (new_offset s a) (omega (arith, same, depth, level_now, e)) ∙ sym (eq-eqb (base + o) a (omega (arith, ge, le)))
            ]
      ]

  -- no byte comes to the place of an inserted word
  no_place : (o y at : ℕ) → at ≡ place + y → o + 4 * below o ins ≤ y → y < o + 4 * below (o + 1) ins → at < next → (a : ℕ) → (at == new_offset s a) ≡ false
  no_place o y at e low high under a =
      elim (cases_lt a base) [
        | inl out ↦ let less = before a out in ne_eqb at (new_offset s a) (λ q. omega (arith, q, less, e))
        | inr in_it ↦
            elim (cases_lt a (base + size)) [
              | inl in_too ↦
                  let same = inside a in_it in_too in
                  elim (cases_lt (a - base) o) [
                    | inl less ↦
                        let grows = below_grows (a - base + 1) o ins (omega (arith, less)) in
                        ne_eqb at (new_offset s a) (λ q. omega (arith, q, same, grows, less, low, e))
                    | inr ge ↦
                        let grows = below_grows (o + 1) (a - base + 1) ins (omega (arith, ge)) in
                        ne_eqb at (new_offset s a) (λ q. omega (arith, q, same, grows, ge, high, e))
                  ]
              | inr out ↦ let more = behind a out in ne_eqb at (new_offset s a) (λ q. omega (arith, q, more, under))
            ]
      ]

  abbrev exp_of : ℕ → Origin → Option Expr
  exp_of at o = word_expr i s m news base at o

  abbrev HasAll : ℕ → List PatchedWord → Type 0
  HasAll at ws = HaveExprs j i s m news base at ws

  has_append : (at : ℕ) (xs ys : List PatchedWord) → HasAll at xs → HasAll (at + 4 * length xs) ys → HasAll at (xs ++ ys)
  has_append at [] ys h k = let same : at + 4 * 0 ≡ at = omega arith in subst (λ x. HasAll x ys) same k
  has_append at (x ∷ xs) ys h k = let same : at + 4 * suc (length xs) ≡ at + 4 + 4 * length xs = omega arith in (h.0, has_append (at + 4) xs ys h.1 (subst (λ y. HasAll y ys) same k))

  -- from here up to the end what is brought is what these words bring
  abbrev pub Brings : ℕ → List PatchedWord → Type 0
  Brings at ws = (k : ℕ) → at ≤ k → k < next → find (at_place k) brought ≡ find (at_place k) (brought_from m news at ws)

  next_brings : (at : ℕ) (w : PatchedWord) (ws : List PatchedWord) → Brings at (w ∷ ws) → Brings (at + 4) ws
  next_brings at w ws h k le lt = h k (omega (arith, le)) lt ∙ its_own m news at w.origin k (brought_from m news (at + 4) ws) (omega (arith, le))

  brings_here : (at : ℕ) (w : PatchedWord) (ws : List PatchedWord) → at < next → Brings at (w ∷ ws) → find (at_place at) brought ≡ origin_expr m news at w.origin
  brings_here at w ws lt h = h at (omega arith) lt ∙ its_here m news at w.origin (brought_from m news (at + 4) ws) (none_brought m news at (at + 4) ws (omega arith))

  new_word : (at : ℕ) (o : Origin) → is_inserted_from o ≡ true → find (at_place at) (map (moved_expr s) i.exprs) ≡ None → find (at_place at) brought ≡ origin_expr m news at o → expr_at at j ≡ exp_of at o
  new_word at (Own offset) e moved bring = absurd (both_ways true (sym e) refl)
  new_word at (Inserted q) e moved bring = here at ∙ ap (λ o. option_or o (find (at_place at) brought)) moved ∙ bring

  -- inserted words of one offset
  new_words : (o : ℕ) (xs ys : List PatchedWord) (y at : ℕ) → Every IsNewWord xs → at ≡ place + y → o + 4 * below o ins ≤ y → y + 4 * length xs ≤ o + 4 * below (o + 1) ins → at + 4 * length xs ≤ next → Brings at (xs ++ ys)
      → HasAll at xs × Brings (at + 4 * length xs) ys
  new_words o [] ys y at new e low high under h = let same : at ≡ at + 4 * 0 = omega arith in (tt, subst (λ k. Brings k ys) same h)
  new_words o (x ∷ xs) ys y at new e low high under h =
      let lt : at < next = omega (arith, under) in
      let first = new_word at x.origin new.0 (moved_none s at i.exprs (no_place o y at e low (omega (arith, high)) lt)) (brings_here at x (xs ++ ys) lt h) in
      let rest = new_words o xs ys (y + 4) (at + 4) new.1 (omega (arith, e)) (omega (arith, low)) (omega (arith, high)) (omega (arith, under)) (next_brings at x (xs ++ ys) h) in
      let same : at + 4 + 4 * length xs ≡ at + 4 * suc (length xs) = omega arith in
      ((first, rest.0), subst (λ k. Brings k ys) same rest.1)

  pub all_words_have : (o : ℕ) (ws : List Word) (at : ℕ) → o % 4 ≡ 0 → o + 4 * length ws ≡ size → at ≡ place + (o + 4 * below o ins) → Brings at (words_from (numbered 0 ins) o ws) → HasAll at (words_from (numbered 0 ins) o ws)
  all_words_have o [] at four total e h =
      let xs : List PatchedWord = inserted_at o (numbered 0 ins) in
      let count = level_at o 0 ins in
      let more = below_next o ins in
      let most = below_all (o + 1) ins in
      let nil : xs ≡ xs ++ [] = sym (append-nil xs) in
      (new_words o xs [] (o + 4 * below o ins) at (new_at o 0 ins) e (omega arith) (omega (arith, count, more)) (omega (arith, count, more, most, e, total, end)) (subst (Brings at) nil h)).0
  all_words_have o (w ∷ ws) at four total e h =
      let xs : List PatchedWord = inserted_at o (numbered 0 ins) in
      let rest : List PatchedWord = words_from (numbered 0 ins) (o + 4) ws in
      let count = level_at o 0 ins in
      let more = below_next o ins in
      let most = below_all (o + 1) ins in
      let inner = below_four o ins four whole in
      let there : ℕ = at + 4 * length xs in
      let news_here = new_words o xs (own o w ∷ rest) (o + 4 * below o ins) at (new_at o 0 ins) e (omega arith) (omega (arith, count, more)) (omega (arith, count, more, most, e, total, end)) h in
      let place_now : there ≡ place + (o + 4 * below (o + 1) ins) = omega (arith, count, more, e) in
      let under : there < next = omega (arith, place_now, most, total, end) in
      let moved = moved_found s there (base + o) i.exprs (own_place o there (omega (arith, total)) place_now under) in
      let bring = brings_here there (own o w) rest under news_here.1 in
      let first : expr_at there j ≡ exp_of there (Own o) =
      here there ∙ ap (λ x. option_or x (find (at_place there) brought)) moved ∙ ap (λ x. option_or (option_map (moved_expr s) (expr_at (base + o) i)) x) bring ∙ or_none (option_map (moved_expr s) (expr_at (base + o) i)) in
      let last = all_words_have (o + 4) ws (there + 4) (omega (arith, four)) (omega (arith, total)) (omega (arith, place_now, inner)) (next_brings there (own o w) rest news_here.1) in
      has_append at xs (own o w ∷ rest) news_here.0 (first, last)
