-- What the cells become where bytes and marks are put, and something is kept.
use Rattle.std.proofs.Common.{◌≡◌, ◌⊎◌, ℕ, zero, suc, ◌+◌, ◌-◌, ◌<◌, ◌≤◌, true, false, cond, ltb, leb, eqb, ◌&&◌, Option, Some, List, [], ◌∷◌, ◌++◌, length, take, drop, map, replicate, refl, sym, ap, ◌∙◌, inl, inr, arith}
use Rattle.std.specs.Option.{option_map_or}
use Rattle.std.proofs.lemmas.Bool.{and_from, and_parts, cases_Bool, cond-false, cond-true, eqb-true, false_from_ne_true, le-leb, leb-true, lt-ltb, ltb-true}
use Rattle.std.proofs.lemmas.List.{length-append, length-take}
use Rattle.cell_memory.specs.declared.cells.TheConstants.{MARKS}
use Rattle.cell_memory.specs.declared.whole.Span.{Span}
use Rattle.cell_memory.specs.declared.whole.Whole.{Whole}
use Rattle.cell_memory.specs.Shown.{Kept, cell_at, cells_from, part_at, part_of, same_span, span, with_part}
use Rattle.cell_memory.proofs.Runs.{append-cells, drop-cells, length-cells, take-cells}
use Rattle.sym_expr.specs.States.{parts_from, placed_cells}
use Rattle.sym_expr.specs.Values.{Cell, Byte, Blank}

-- outside of so many cells nothing changes
pub record Same (old new : Kept) (start count : ℕ) : Type 0 where
  pub cell : (at b m : ℕ) → (at < start) ⊎ (start + count ≤ at) → cell_at new at b m ≡ cell_at old at b m

pub unchanged : (kept : Kept) (start count : ℕ) → Same kept kept start count
unchanged kept start count = record { cell = λ at b m far. refl }

module _ (old new : Kept) (start count : ℕ) (same : Same old new start count) where
  below : (at : ℕ) (bs ms : List ℕ) → at + length bs ≤ start → cells_from new at bs ms ≡ cells_from old at bs ms
  below at [] ms le = refl
  below at (b ∷ bs) [] le = refl
  below at (b ∷ bs) (m ∷ ms) le =
      ap (λ c. c ∷ cells_from new (suc at) bs ms) (same.cell at b m (inl (omega arith))) ∙ ap (λ cs. cell_at old at b m ∷ cs) (below (suc at) bs ms (omega arith))

  above : (at : ℕ) (bs ms : List ℕ) → start + count ≤ at → cells_from new at bs ms ≡ cells_from old at bs ms
  above at [] ms le = refl
  above at (b ∷ bs) [] le = refl
  above at (b ∷ bs) (m ∷ ms) le =
      ap (λ c. c ∷ cells_from new (suc at) bs ms) (same.cell at b m (inr le)) ∙ ap (λ cs. cell_at old at b m ∷ cs) (above (suc at) bs ms (omega arith))

  -- bytes and marks put at a place are the cells that they stand for, put there
  pub put_cells : (bs ms new_bs new_ms : List ℕ) (cells : List Cell) → length new_bs ≡ count → length new_ms ≡ count → start + count ≤ length (cells_from old 0 bs ms)
      → cells_from new start new_bs new_ms ≡ cells
      → cells_from new 0 (with_part bs start new_bs) (with_part ms start new_ms) ≡ placed_cells start cells (cells_from old 0 bs ms)
  put_cells bs ms new_bs new_ms cells bytes_count marks_count inside are =
      let all = length-cells old 0 bs ms in
      let head_bytes : length (take start bs) ≡ start = omega (arith, length-take start bs) in
      let head_marks : length (take start ms) ≡ start = omega (arith, length-take start ms) in
      let first : 0 + length (take start bs) ≡ start = omega arith in
      let front_bytes : length (take start bs ++ new_bs) ≡ start + count = omega (arith, length-append (take start bs) new_bs) in
      let front_marks : length (take start ms ++ new_ms) ≡ start + count = omega (arith, length-append (take start ms) new_ms) in
      let behind : 0 + length (take start bs ++ new_bs) ≡ start + count = omega arith in
      let end_bytes : start + length new_bs ≡ start + count = omega arith in
      let end_marks : start + length new_ms ≡ start + count = omega arith in
      let size : length cells ≡ count = ap length (sym are) ∙ length-cells new start new_bs new_ms ∙ omega arith in
      let after : 0 + (start + count) ≡ start + count = omega arith in
      let back = cells_from old 0 bs ms in
      append-cells new 0 (take start bs ++ new_bs) (drop (start + length new_bs) bs) (take start ms ++ new_ms) (drop (start + length new_ms) ms) (front_bytes ∙ sym front_marks)
      ∙ ap (λ cs. cs ++ cells_from new (0 + length (take start bs ++ new_bs)) (drop (start + length new_bs) bs) (drop (start + length new_ms) ms))
      (append-cells new 0 (take start bs) new_bs (take start ms) new_ms (head_bytes ∙ sym head_marks)
      ∙ ap (λ a. cells_from new 0 (take start bs) (take start ms) ++ cells_from new a new_bs new_ms) first
      ∙ ap (λ cs. cells_from new 0 (take start bs) (take start ms) ++ cs) are
      ∙ ap (λ cs. cs ++ cells) (below 0 (take start bs) (take start ms) (omega arith) ∙ sym (take-cells old start 0 bs ms)))
      ∙ ap (λ cs. take start back ++ cells ++ cs)
      (ap (λ a. cells_from new a (drop (start + length new_bs) bs) (drop (start + length new_ms) ms)) behind
      ∙ ap (λ n. cells_from new (start + count) (drop n bs) (drop (start + length new_ms) ms)) end_bytes
      ∙ ap (λ n. cells_from new (start + count) (drop (start + count) bs) (drop n ms)) end_marks
      ∙ above (start + count) (drop (start + count) bs) (drop (start + count) ms) (omega arith)
      ∙ sym (drop-cells old (start + count) 0 bs ms ∙ ap (λ a. cells_from old a (drop (start + count) bs) (drop (start + count) ms)) after)
      ∙ ap (λ n. drop (start + n) back) (sym size))

-- ---- bytes, and what is unknown

pub byte_cells : (kept : Kept) (at : ℕ) (bs : List ℕ) → cells_from kept at bs (replicate (length bs) 0) ≡ map Byte bs
byte_cells kept at [] = refl
byte_cells kept at (b ∷ bs) = ap (λ cs. Byte b ∷ cs) (byte_cells kept (suc at) bs)

pub blank_cells : (kept : Kept) (at n : ℕ) → cells_from kept at (replicate n 0) (replicate n 1) ≡ replicate n Blank
blank_cells kept at zero = refl
blank_cells kept at (suc n) = ap (λ cs. Blank ∷ cs) (blank_cells kept (suc at) n)

-- ---- what is stored whole

abbrev marks_from : ℕ → ℕ → List ℕ
marks_from zero k = []
marks_from (suc n) k = suc k ∷ marks_from n (suc k)

marks_are : (n : ℕ) → n ≤ 8 → take n MARKS ≡ marks_from n 0
marks_are zero le = refl
marks_are (suc zero) le = refl
marks_are (suc (suc zero)) le = refl
marks_are (suc (suc (suc zero))) le = refl
marks_are (suc (suc (suc (suc zero)))) le = refl
marks_are (suc (suc (suc (suc (suc zero))))) le = refl
marks_are (suc (suc (suc (suc (suc (suc zero)))))) le = refl
marks_are (suc (suc (suc (suc (suc (suc (suc zero))))))) le = refl
marks_are (suc (suc (suc (suc (suc (suc (suc (suc zero)))))))) le = refl
marks_are (suc (suc (suc (suc (suc (suc (suc (suc (suc n))))))))) le = absurd (omega arith)

-- the parts of what is kept
module _ (new : Kept) (start count : ℕ) (w : Whole) (kept_now : new (span start count) ≡ Some w) where
  part_here : (k : ℕ) → k < count → part_at new (start + k) k count ≡ part_of w k
  part_here k lt =
      let back : start + k - k ≡ start = omega arith in
      let test : ltb k count && leb k (start + k) ≡ true = and_from (ltb k count) (leb k (start + k)) (lt-ltb k count lt) (le-leb k (start + k) (omega arith)) in
      cond-true (ltb k count && leb k (start + k)) (option_map_or (λ w. part_of w k) (new (span (start + k - k) count)) Blank) Blank test
      ∙ ap (λ n. option_map_or (λ w. part_of w k) (new (span n count)) Blank) back
      ∙ ap (λ (o : Option Whole). option_map_or (λ w. part_of w k) o Blank) kept_now

  parts_here : (n k : ℕ) → k + n ≤ count → cells_from new (start + k) (replicate n count) (marks_from n k) ≡ parts_from n k (part_of w)
  parts_here zero k le = refl
  parts_here (suc n) k le =
      let e : suc (start + k) ≡ start + suc k = omega arith in
      ap (λ c. c ∷ cells_from new (suc (start + k)) (replicate n count) (marks_from n (suc k))) (part_here k (omega arith))
      ∙ ap (λ a. part_of w k ∷ cells_from new a (replicate n count) (marks_from n (suc k))) e
      ∙ ap (λ cs. part_of w k ∷ cs) (parts_here n (suc k) (omega arith))

  pub run_cells : (n : ℕ) → n ≤ count → n ≤ 8 → cells_from new start (replicate n count) (take n MARKS) ≡ parts_from n 0 (part_of w)
  run_cells n within le =
      let e : start ≡ start + 0 = omega arith in
      ap (cells_from new start (replicate n count)) (marks_are n le) ∙ ap (λ a. cells_from new a (replicate n count) (marks_from n 0)) e ∙ parts_here n 0 (omega arith)

module _ (old new : Kept) (start count : ℕ) (w : Whole) (put : (at : Span) → new at ≡ cond (same_span (span start count) at) (Some w) (old at)) where
  apart : (at k b : ℕ) → (at < start) ⊎ (start + count ≤ at) → ltb k b && leb k at ≡ true → same_span (span start count) (span (at - k) b) ≡ false
  apart at k b far holds =
      false_from_ne_true (same_span (span start count) (span (at - k) b)) (λ equal.
      let tests = and_parts (ltb k b) (leb k at) holds in
      let equals = and_parts (eqb start (at - k)) (eqb count b) equal in
      let lt = ltb-true k b tests.0 in
      let le = leb-true k at tests.1 in
      let first = eqb-true start (at - k) equals.0 in
      let counts = eqb-true count b equals.1 in
      elim far [ inl x ↦ omega arith | inr x ↦ omega arith ])

  far_part : (at k b : ℕ) → (at < start) ⊎ (start + count ≤ at) → part_at new at k b ≡ part_at old at k b
  far_part at k b far =
      let test = ltb k b && leb k at in
      elim (cases_Bool test) [
        | inl holds ↦ ap (λ (o : Option Whole). cond test (option_map_or (λ w. part_of w k) o Blank) Blank)
            (put (span (at - k) b) ∙ cond-false (same_span (span start count) (span (at - k) b)) (Some w) (old (span (at - k) b)) (apart at k b far holds))
        | inr fails ↦ cond-false test (option_map_or (λ w. part_of w k) (new (span (at - k) b)) Blank) Blank fails
            ∙ sym (cond-false test (option_map_or (λ w. part_of w k) (old (span (at - k) b)) Blank) Blank fails)
      ]

  far_cell : (at b m : ℕ) → (at < start) ⊎ (start + count ≤ at) → cell_at new at b m ≡ cell_at old at b m
  far_cell at b zero far = refl
  far_cell at b (suc k) far = far_part at k b far

  pub same_outside : Same old new start count
  same_outside = record { cell = far_cell }

  kept_now : new (span start count) ≡ Some w
  kept_now =
      let here : same_span (span start count) (span start count) ≡ true = grind (arith, and_from) in
      put (span start count) ∙ cond-true (same_span (span start count) (span start count)) (Some w) (old (span start count)) here

  -- the parts of what is kept now
  pub whole_cells : count ≤ 8 → cells_from new start (replicate count count) (take count MARKS) ≡ parts_from count 0 (part_of w)
  whole_cells le = run_cells new start count w kept_now count (omega arith) le
