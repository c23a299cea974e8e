-- The expressions of a data block in its new interval are those that it had, moved.
use Rattle.std.proofs.Common.{◌≡◌, ℕ, ◌+◌, ◌-◌, ◌≤◌, ◌<◌, Bool, true, false, List, [], ◌∷◌, ◌++◌, map, None, Some, refl, sym, ap, ◌∙◌, inl, inr, arith}
use Rattle.std.specs.Prelude.{◌&&◌, ◌==◌, filter, find, if◌then◌else◌, nat_le, nat_lt}
use Rattle.std.specs.List.{AllByRecursion as Every}
use Rattle.std.proofs.lemmas.Bool.{and_from, and_left, and_parts, and_right, cases_Bool, eq-eqb, false≢true, le-leb, le-ltb, leb-true, lt-leb, lt-ltb, ltb-false, ltb-true}
use Rattle.std.proofs.lemmas.Option.{none-some}
use Rattle.gt_model.specs.declared.exprs.Expr.{Expr}
use Rattle.gt_model.specs.declared.intervals.Block.{Block}
use Rattle.rewrite.specs.Exprs.{by_offset, moved_expr, put_by_offset}
use Rattle.rewrite.specs.Offsets.{new_offset}
use Rattle.sym_expr.specs.declared.program.Stretch.{Stretch}
use Rattle.sym_expr.specs.Modules.{covers, end_of}
use Rattle.repaired_programs.proofs.Found.{at_place}
use Rattle.repaired_programs.proofs.Lists.{every_both, every_filter, every_map, every_weaker}

-- ---- which bytes a block covers

pub covers_in : (a : ℕ) (b : Block) → b.offset ≤ a → a < end_of b → covers a b ≡ true
covers_in a b le lt = and_from (nat_le b.offset a) (nat_lt a (end_of b)) (le-leb b.offset a le) (lt-ltb a (end_of b) lt)

pub covers_low : (a : ℕ) (b : Block) → a < b.offset → covers a b ≡ false
covers_low a b lt = and_left (nat_le b.offset a) (nat_lt a (end_of b)) (lt-leb b.offset a lt)

pub covers_high : (a : ℕ) (b : Block) → end_of b ≤ a → covers a b ≡ false
covers_high a b le = and_right (nat_le b.offset a) (nat_lt a (end_of b)) (le-ltb a (end_of b) le)

pub covers_out : (a : ℕ) (b : Block) → covers a b ≡ true → (b.offset ≤ a) × (a < end_of b)
covers_out a b h =
    let both = and_parts (nat_le b.offset a) (nat_lt a (end_of b)) h in
    (leb-true b.offset a both.0, ltb-true a (end_of b) both.1)

-- ---- lists by their offsets

-- none is above one that comes later
abbrev pub Rises : List Expr → Type 0
Rises [] = Unit {0}
Rises (e ∷ es) = Every (λ (f : Expr). e.at ≤ f.at) es × Rises es

put_every : (P : Expr → Type 0) (e : Expr) (es : List Expr) → P e → Every P es → Every P (put_by_offset e es)
put_every P e [] h k = (h, tt)
put_every P e (first ∷ es) h k = either (nat_lt first.at e.at) (put_every P e es h k.1)
  where
    either : (x : Bool) → Every P (put_by_offset e es) → Every P (if x then first ∷ put_by_offset e es else e ∷ first ∷ es)
    either true rest = (k.0, rest)
    either false rest = (h, k)

put_rises : (e : Expr) (es : List Expr) → Rises es → Rises (put_by_offset e es)
put_rises e [] h = (tt, tt)
put_rises e (first ∷ es) h = either (nat_lt first.at e.at) refl (put_rises e es h.1)
  where
    either : (x : Bool) → nat_lt first.at e.at ≡ x → Rises (put_by_offset e es) → Rises (if x then first ∷ put_by_offset e es else e ∷ first ∷ es)
    either true q rest = let lt = ltb-true first.at e.at q in (put_every (λ (f : Expr). first.at ≤ f.at) e es (omega (arith, lt)) h.0, rest)
    either false q rest =
        let le = ltb-false first.at e.at q in
        ((le, every_weaker (λ (f : Expr). first.at ≤ f.at) (λ (f : Expr). e.at ≤ f.at) (λ f more. omega (arith, le, more)) es h.0), h)

offset_rises : (es : List Expr) → Rises (by_offset es)
offset_rises [] = tt
offset_rises (e ∷ es) = put_rises e (by_offset es) (offset_rises es)

first_put : (e : Expr) (es : List Expr) → Every (λ (f : Expr). e.at ≤ f.at) es → put_by_offset e es ≡ e ∷ es
first_put e [] h = refl
first_put e (f ∷ es) h = let le : e.at ≤ f.at = h.0 in ap (λ c. if c then f ∷ put_by_offset e es else e ∷ f ∷ es) (le-ltb f.at e.at le)

same_offset : (es : List Expr) → Rises es → by_offset es ≡ es
same_offset [] h = refl
same_offset (e ∷ es) h = ap (put_by_offset e) (same_offset es h.1) ∙ first_put e es h.0

-- ---- what is kept of a list by its offsets

module _ (test : Expr → Bool) where
  keep : (e first : Expr) (more rest : List Expr) (y z : Bool) → nat_lt first.at e.at ≡ true → more ≡ (if z then put_by_offset e rest else rest)
      → (if y then first ∷ more else more) ≡ (if z then put_by_offset e (if y then first ∷ rest else rest) else (if y then first ∷ rest else rest))
  keep e first more rest true true q k = ap (λ l. first ∷ l) k ∙ sym (ap (λ c. if c then first ∷ put_by_offset e rest else e ∷ first ∷ rest) q)
  keep e first more rest true false q k = ap (λ l. first ∷ l) k
  keep e first more rest false true q k = k
  keep e first more rest false false q k = k

  kept_put : (e : Expr) (es : List Expr) → Rises es → filter test (put_by_offset e es) ≡ (if test e then put_by_offset e (filter test es) else filter test es)
  kept_put e [] h = refl
  kept_put e (first ∷ es) h = by (nat_lt first.at e.at) refl (kept_put e es h.1)
    where
      by : (x : Bool) → nat_lt first.at e.at ≡ x → filter test (put_by_offset e es) ≡ (if test e then put_by_offset e (filter test es) else filter test es)
          → filter test (if x then first ∷ put_by_offset e es else e ∷ first ∷ es) ≡ (if test e then put_by_offset e (filter test (first ∷ es)) else filter test (first ∷ es))
      by true q rest = keep e first (filter test (put_by_offset e es)) (filter test es) (test first) (test e) q rest
      by false q rest =
          let le = ltb-false first.at e.at q in
          let above : Every (λ (f : Expr). e.at ≤ f.at) (first ∷ es) = (le, every_weaker (λ (f : Expr). first.at ≤ f.at) (λ (f : Expr). e.at ≤ f.at) (λ f more. omega (arith, le, more)) es h.0) in
          ap (λ l. if test e then l else filter test (first ∷ es)) (sym (first_put e (filter test (first ∷ es)) (every_filter test (λ (f : Expr). e.at ≤ f.at) (first ∷ es) above)))

  kept_offset : (es : List Expr) → filter test (by_offset es) ≡ by_offset (filter test es)
  kept_offset [] = refl
  kept_offset (e ∷ es) = kept_put e (by_offset es) (offset_rises es) ∙ ap (λ l. if test e then put_by_offset e l else l) (kept_offset es) ∙ pull (test e)
    where
      pull : (z : Bool) → (if z then put_by_offset e (by_offset (filter test es)) else by_offset (filter test es)) ≡ by_offset (if z then e ∷ filter test es else filter test es)
      pull true = refl
      pull false = refl

  none_kept : (es : List Expr) → Every (λ e. test e ≡ false) es → filter test es ≡ []
  none_kept [] h = refl
  none_kept (e ∷ es) h = ap (λ c. if c then e ∷ filter test es else filter test es) h.0 ∙ none_kept es h.1

  kept_front : (es fs : List Expr) → Every (λ e. test e ≡ false) fs → filter test (es ++ fs) ≡ filter test es
  kept_front [] fs h = none_kept fs h
  kept_front (e ∷ es) fs h = ap (λ l. if test e then e ∷ l else l) (kept_front es fs h)

  pub kept_pass : (es : List Expr) → Every (λ e. test e ≡ true) (filter test es)
  kept_pass [] = tt
  kept_pass (e ∷ es) = either (test e) refl (kept_pass es)
    where
      either : (x : Bool) → test e ≡ x → Every (λ e. test e ≡ true) (filter test es) → Every (λ e. test e ≡ true) (if x then e ∷ filter test es else filter test es)
      either true q rest = (q, rest)
      either false q rest = rest

  kept_rises : (es : List Expr) → Rises es → Rises (filter test es)
  kept_rises [] h = tt
  kept_rises (e ∷ es) h = either (test e) (kept_rises es h.1)
    where
      either : (x : Bool) → Rises (filter test es) → Rises (if x then e ∷ filter test es else filter test es)
      either true rest = (every_filter test (λ (f : Expr). e.at ≤ f.at) es h.0, rest)
      either false rest = rest

-- ---- expressions of one data block

-- the block at its new place has the bytes that it had
pub record IsMovedBlock (s : Stretch) (b d : Block) : Type 0 where
  pub inside : (a : ℕ) → covers a b ≡ true → new_offset s a ≡ d.offset + (a - b.offset)
  pub same : (a : ℕ) → covers (new_offset s a) d ≡ covers a b

module _ (s : Stretch) (b d : Block) (h : IsMovedBlock s b d) where
  moved_kept : (es : List Expr) → filter (λ (e : Expr). covers e.at d) (map (moved_expr s) es) ≡ map (moved_expr s) (filter (λ (e : Expr). covers e.at b) es)
  moved_kept [] = refl
  moved_kept (e ∷ es) =
      ap (λ c. if c then moved_expr s e ∷ filter (λ (e : Expr). covers e.at d) (map (moved_expr s) es) else filter (λ (e : Expr). covers e.at d) (map (moved_expr s) es)) (h.same e.at)
      ∙ either (covers e.at b) (moved_kept es)
    where
      either : (x : Bool) → filter (λ (e : Expr). covers e.at d) (map (moved_expr s) es) ≡ map (moved_expr s) (filter (λ (e : Expr). covers e.at b) es)
          → (if x then moved_expr s e ∷ filter (λ (e : Expr). covers e.at d) (map (moved_expr s) es) else filter (λ (e : Expr). covers e.at d) (map (moved_expr s) es))
          ≡ map (moved_expr s) (if x then e ∷ filter (λ (e : Expr). covers e.at b) es else filter (λ (e : Expr). covers e.at b) es)
      either true k = ap (λ l. moved_expr s e ∷ l) k
      either false k = k

  moved_rises : (es : List Expr) → Every (λ (e : Expr). covers e.at b ≡ true) es → Rises es → Rises (map (moved_expr s) es)
  moved_rises [] k r = tt
  moved_rises (e ∷ es) k r =
      let own : new_offset s e.at ≡ d.offset + (e.at - b.offset) = h.inside e.at k.0 in (
        every_map (moved_expr s) (λ (f : Expr). new_offset s e.at ≤ f.at) es
            (every_weaker (λ (f : Expr). (covers f.at b ≡ true) × (e.at ≤ f.at)) (λ (f : Expr). new_offset s e.at ≤ new_offset s f.at)
            (λ f l.
            let other : new_offset s f.at ≡ d.offset + (f.at - b.offset) = h.inside f.at l.0 in
            let le : e.at ≤ f.at = l.1 in
            omega (arith, own, other, le)) es
            (every_both (λ (f : Expr). covers f.at b ≡ true) (λ (f : Expr). e.at ≤ f.at) es k.1 r.0)),
        moved_rises es k.1 r.1,
      )

  -- of the old expressions and those that words bring, those of the block are its old ones
  pub block_exprs : (es brought : List Expr) → Rises es → Every (λ (e : Expr). covers e.at d ≡ false) brought
      → filter (λ (e : Expr). covers e.at d) (by_offset (map (moved_expr s) es ++ brought)) ≡ map (moved_expr s) (filter (λ (e : Expr). covers e.at b) es)
  block_exprs es brought rises none =
      let T : Expr → Bool = λ e. covers e.at d in
      let own : List Expr = filter (λ (e : Expr). covers e.at b) es in
      kept_offset T (map (moved_expr s) es ++ brought)
      ∙ ap by_offset (kept_front T (map (moved_expr s) es) brought none ∙ moved_kept es)
      ∙ same_offset (map (moved_expr s) own) (moved_rises own (kept_pass (λ (e : Expr). covers e.at b) es) (kept_rises (λ (e : Expr). covers e.at b) es rises))

-- ---- nothing that is brought

some_first : (e : Expr) (o : Bool) (es : List Expr) → o ≡ true → (if o then Some e else find (at_place e.at) es) ≡ None → ⊥
some_first e true es q k = none-some e (sym k)
some_first e false es q k = absurd (false≢true q)

rest_none : (k : ℕ) (e : Expr) (es : List Expr) (c : Bool) → (if c then Some e else find (at_place k) es) ≡ None → find (at_place k) es ≡ None
rest_none k e es true h = absurd (none-some e (sym h))
rest_none k e es false h = h

-- where none is found at a byte of the block, the block has none
pub none_covered : (d : Block) (es : List Expr) → ((k : ℕ) → covers k d ≡ true → find (at_place k) es ≡ None) → Every (λ (e : Expr). covers e.at d ≡ false) es
none_covered d [] h = tt
none_covered d (e ∷ es) h = (
  elim (cases_Bool (covers e.at d)) [
    | inl is ↦ absurd (some_first e (e.at == e.at) es (eq-eqb e.at e.at refl) (h e.at is))
    | inr is_not ↦ is_not
  ],
  none_covered d es (λ k q. rest_none k e es (k == e.at) (h k q)),
)
