-- The cells of lists that are cut and joined.
use Rattle.std.proofs.Common.{◌≡◌, ℕ, zero, suc, ◌+◌, ◌<◌, min, List, [], ◌∷◌, ◌++◌, length, take, drop, get_or, refl, sym, ap, ◌∙◌, arith}
use Rattle.cell_memory.specs.Shown.{Kept, cell_at, cells_from}
use Rattle.sym_expr.specs.Values.{Cell}

module _ (kept : Kept) where
  no_marks : (at : ℕ) (bs : List ℕ) → cells_from kept at bs [] ≡ []
  no_marks at [] = refl
  no_marks at (b ∷ bs) = refl

  pub length-cells : (at : ℕ) (bs ms : List ℕ) → length (cells_from kept at bs ms) ≡ min (length bs) (length ms)
  length-cells at [] ms = omega arith
  length-cells at (b ∷ bs) [] = omega arith
  length-cells at (b ∷ bs) (m ∷ ms) = omega (arith, length-cells (suc at) bs ms)

  pub drop-cells : (n at : ℕ) (bs ms : List ℕ) → drop n (cells_from kept at bs ms) ≡ cells_from kept (at + n) (drop n bs) (drop n ms)
  drop-cells zero at bs ms = let e : at ≡ at + zero = omega arith in ap (λ a. cells_from kept a bs ms) e
  drop-cells (suc n) at [] ms = refl
  drop-cells (suc n) at (b ∷ bs) [] = sym (no_marks (at + suc n) (drop n bs))
  drop-cells (suc n) at (b ∷ bs) (m ∷ ms) =
      let e : suc at + n ≡ at + suc n = omega arith in drop-cells n (suc at) bs ms ∙ ap (λ a. cells_from kept a (drop n bs) (drop n ms)) e

  pub take-cells : (n at : ℕ) (bs ms : List ℕ) → take n (cells_from kept at bs ms) ≡ cells_from kept at (take n bs) (take n ms)
  take-cells zero at bs ms = refl
  take-cells (suc n) at [] ms = refl
  take-cells (suc n) at (b ∷ bs) [] = refl
  take-cells (suc n) at (b ∷ bs) (m ∷ ms) = ap (λ cs. cell_at kept at b m ∷ cs) (take-cells n (suc at) bs ms)

  pub append-cells : (at : ℕ) (bs more ms marks : List ℕ) → length bs ≡ length ms
      → cells_from kept at (bs ++ more) (ms ++ marks) ≡ cells_from kept at bs ms ++ cells_from kept (at + length bs) more marks
  append-cells at [] more [] marks same = let e : at ≡ at + zero = omega arith in ap (λ a. cells_from kept a more marks) e
  append-cells at [] more (m ∷ ms) marks same = absurd (omega arith)
  append-cells at (b ∷ bs) more [] marks same = absurd (omega arith)
  append-cells at (b ∷ bs) more (m ∷ ms) marks same =
      let e : suc at + length bs ≡ at + suc (length bs) = omega arith in
      ap (λ cs. cell_at kept at b m ∷ cs) (append-cells (suc at) bs more ms marks (omega arith) ∙ ap (λ a. cells_from kept (suc at) bs ms ++ cells_from kept a more marks) e)

  pub get_or-cells : (i at : ℕ) (bs ms : List ℕ) (d : Cell) (b m : ℕ) → i < length (cells_from kept at bs ms)
      → get_or (cells_from kept at bs ms) i d ≡ cell_at kept (at + i) (get_or bs i b) (get_or ms i m)
  get_or-cells i at [] ms d b m lt = absurd (omega arith)
  get_or-cells i at (x ∷ bs) [] d b m lt = absurd (omega arith)
  get_or-cells zero at (x ∷ bs) (y ∷ ms) d b m lt = let e : at ≡ at + zero = omega arith in ap (λ a. cell_at kept a x y) e
  get_or-cells (suc i) at (x ∷ bs) (y ∷ ms) d b m lt =
      let e : suc at + i ≡ at + suc i = omega arith in
      get_or-cells i (suc at) bs ms d b m (omega arith) ∙ ap (λ a. cell_at kept a (get_or bs i b) (get_or ms i m)) e

  -- the cells of a part
  pub cells_between : (at count : ℕ) (bs ms : List ℕ) → take count (drop at (cells_from kept 0 bs ms)) ≡ cells_from kept at (take count (drop at bs)) (take count (drop at ms))
  cells_between at count bs ms =
      let e : 0 + at ≡ at = omega arith in
      ap (take count) (drop-cells at 0 bs ms) ∙ take-cells count (0 + at) (drop at bs) (drop at ms) ∙ ap (λ a. cells_from kept a (take count (drop at bs)) (take count (drop at ms))) e
