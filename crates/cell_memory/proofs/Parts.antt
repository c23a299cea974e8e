-- What cells are, by their bytes and marks.
use Rattle.std.proofs.Common.{◌≡◌, ℕ, zero, suc, ◌+◌, ◌-◌, ◌<◌, ◌≤◌, Bool, true, false, not, cond, eqb, ltb, leb, ◌&&◌, ◌||◌, Option, Some, None, List, [], ◌∷◌, length, get_or, drop, take, refl, sym, ap, ◌∙◌, arith}
use Rattle.std.specs.List.{list_all, list_any}
use Rattle.std.specs.Option.{is_some, option_and_then, option_map, option_map_or}
use Rattle.std.proofs.lemmas.Bool.{ne_eqb}
use Rattle.std.proofs.lemmas.List.{drop_all, drop_more, get_or-drop, get_or-take, length-drop, length-take}
use Rattle.cell_memory.proofs.Runs.{cells_between, get_or-cells, length-cells}
use Rattle.cell_memory.specs.declared.whole.Span.{Span}
use Rattle.cell_memory.specs.declared.whole.Whole.{Whole}
use Rattle.cell_memory.specs.declared.whole.Whole.TheVariants.{Value, Difference, Entry}
use Rattle.cell_memory.specs.Shown.{Kept, cell_at, cells_from, part_at, part_of, place_of, span}
use Rattle.cell_memory.specs.Wholes.{are_parts_of, is_part_of, part_in, whole_in}
use Rattle.sym_expr.specs.Symbolic.{byte_in, bytes_in, is_blank}
use Rattle.sym_expr.specs.Values.{Cell, Byte, Part, Quarter, EntryPart, Blank}

part_no_byte : (w : Whole) (k : ℕ) → byte_in (part_of w k) ≡ None
part_no_byte (Value v) k = refl
part_no_byte (Difference p q) k = refl
part_no_byte (Entry e) k = refl

pub part_known : (w : Whole) (k : ℕ) → is_blank (part_of w k) ≡ false
part_known (Value v) k = refl
part_known (Difference p q) k = refl
part_known (Entry e) k = refl

pub part_back : (w : Whole) (k : ℕ) → part_in (part_of w k) ≡ Some (k, w)
part_back (Value v) k = refl
part_back (Difference p q) k = refl
part_back (Entry e) k = refl

and_true : (t : Bool) → (t && true) ≡ t
and_true true = refl
and_true false = refl

module _ (kept : Kept) where
  -- under a mark that isn't 0 there is a part or nothing that is known
  part_cases : (P : Cell → Type 0) → P Blank → ((w : Whole) (k : ℕ) → P (part_of w k)) → (at k byte : ℕ) → P (part_at kept at k byte)
  part_cases P blank part at k byte =
      elim (ltb k byte && leb k at) as (λ t. P (cond t (option_map_or (λ w. part_of w k) (kept (span (at - k) byte)) Blank) Blank)) [
        | true ↦ elim (kept (span (at - k) byte)) as (λ (o : Option Whole). P (option_map_or (λ w. part_of w k) o Blank)) [ None ↦ blank | Some w ↦ part w k ]
        | false ↦ blank
      ]

  no_byte : (at k byte : ℕ) → byte_in (part_at kept at k byte) ≡ None
  no_byte = part_cases (λ c. byte_in c ≡ None) refl part_no_byte

  -- bytes are known where all marks are 0
  pub bytes_are : (at : ℕ) (bs ms : List ℕ) → length bs ≡ length ms → bytes_in (cells_from kept at bs ms) ≡ cond (list_all (λ m. eqb m 0) ms) (Some bs) None
  bytes_are at [] [] same = refl
  bytes_are at [] (m ∷ ms) same = absurd (omega arith)
  bytes_are at (b ∷ bs) [] same = absurd (omega arith)
  bytes_are at (b ∷ bs) (zero ∷ ms) same =
      ap (option_map (λ xs. b ∷ xs)) (bytes_are (suc at) bs ms (omega arith))
      ∙ elim (list_all (λ m. eqb m 0) ms) as (λ t. option_map (λ xs. b ∷ xs) (cond t (Some bs) None) ≡ cond t (Some (b ∷ bs)) None) [ true ↦ refl | false ↦ refl ]
  bytes_are at (b ∷ bs) (suc k ∷ ms) same =
      ap (λ (o : Option ℕ). option_and_then (λ x. option_map (λ xs. x ∷ xs) (bytes_in (cells_from kept (suc at) bs ms))) o) (no_byte at k b)
      ∙ sym (ap (λ t. cond (t && list_all (λ m. eqb m 0) ms) (Some (b ∷ bs)) None) (ne_eqb (suc k) 0 (λ e. omega arith)))

  -- the bytes that are read
  pub bytes_read : (bs ms xs ys : List ℕ) (at count n : ℕ) (known : Bool) → xs ≡ bs → ys ≡ ms → n ≡ count → at + count ≤ length (cells_from kept 0 bs ms)
      → known ≡ list_all (λ m. eqb m 0) (take n (drop at ys)) → bytes_in (take count (drop at (cells_from kept 0 bs ms))) ≡ cond known (Some (take n (drop at xs))) None
  bytes_read bs ms xs ys at count n known same_bytes same_marks same_count inside is =
      let all = length-cells kept 0 bs ms in
      let left : length (take count (drop at bs)) ≡ count = omega (arith, length-take count (drop at bs), length-drop at bs) in
      let right : length (take count (drop at ms)) ≡ count = omega (arith, length-take count (drop at ms), length-drop at ms) in
      ap bytes_in (cells_between kept at count bs ms)
      ∙ bytes_are at (take count (drop at bs)) (take count (drop at ms)) (left ∙ sym right)
      ∙ sym (ap (λ t. cond t (Some (take n (drop at xs))) None)
      (is ∙ ap (λ k. list_all (λ m. eqb m 0) (take k (drop at ys))) same_count ∙ ap (λ zs. list_all (λ m. eqb m 0) (take count (drop at zs))) same_marks)
      ∙ ap (λ k. cond (list_all (λ m. eqb m 0) (take count (drop at ms))) (Some (take k (drop at xs))) None) same_count
      ∙ ap (λ zs. cond (list_all (λ m. eqb m 0) (take count (drop at ms))) (Some (take count (drop at zs))) None) same_bytes)

  kept_part : (k : ℕ) (o : Option Whole) → part_in (option_map_or (λ w. part_of w k) o Blank) ≡ option_map (λ w. (k, w)) o
  kept_part k None = refl
  kept_part k (Some w) = part_back w k

  -- what a cell is a part of
  pub part_is : (at byte mark : ℕ) → part_in (cell_at kept at byte mark) ≡ option_and_then (λ (p : ℕ × Span). option_map (λ w. (p.0, w)) (kept p.1)) (place_of at byte mark)
  part_is at byte zero = refl
  part_is at byte (suc k) =
      elim (ltb k byte && leb k at) as (λ t. part_in (cond t (option_map_or (λ w. part_of w k) (kept (span (at - k) byte)) Blank) Blank)
      ≡ option_and_then (λ (p : ℕ × Span). option_map (λ w. (p.0, w)) (kept p.1)) (cond t (Some (k, span (at - k) byte)) None)) [
        | true ↦ kept_part k (kept (span (at - k) byte))
        | false ↦ refl
      ]

  -- the same of the cell that is read
  pub part_read : (bs ms : List ℕ) (at b m : ℕ) → at < length (cells_from kept 0 bs ms) → b ≡ get_or bs at b → m ≡ get_or ms at m
      → part_in (get_or (cells_from kept 0 bs ms) at Blank) ≡ option_and_then (λ (p : ℕ × Span). option_map (λ w. (p.0, w)) (kept p.1)) (place_of at b m)
  part_read bs ms at b m lt byte mark =
      let e : 0 + at ≡ at = omega arith in
      ap part_in (get_or-cells kept at 0 bs ms Blank b m lt ∙ ap (λ a. cell_at kept a (get_or bs at b) (get_or ms at m)) e ∙ ap (λ x. cell_at kept at x (get_or ms at m)) (sym byte) ∙ ap (cell_at kept at b) (sym mark))
      ∙ part_is at b m

  blank_part : (at k byte : ℕ) → is_blank (part_at kept at k byte) ≡ not (is_some (part_in (part_at kept at k byte)))
  blank_part = part_cases (λ c. is_blank c ≡ not (is_some (part_in c))) refl (λ w k. part_known w k ∙ sym (ap (λ (o : Option (ℕ × Whole)). not (is_some o)) (part_back w k)))

  -- a cell is unknown where it has a mark and is no part
  pub blank_is : (at byte mark : ℕ) → is_blank (cell_at kept at byte mark) ≡ (not (eqb mark 0) && not (is_some (part_in (cell_at kept at byte mark))))
  blank_is at byte zero = refl
  blank_is at byte (suc k) =
      blank_part at k byte ∙ sym (ap (λ t. not t && not (is_some (part_in (part_at kept at k byte)))) (ne_eqb (suc k) 0 (λ e. omega arith)))

  -- the same of the cell that is read, where it is no part
  pub blank_read : (bs ms : List ℕ) (at m : ℕ) → at < length (cells_from kept 0 bs ms) → m ≡ get_or ms at m → None ≡ part_in (get_or (cells_from kept 0 bs ms) at Blank)
      → not (eqb m 0) ≡ is_blank (get_or (cells_from kept 0 bs ms) at Blank)
  blank_read bs ms at m lt mark none =
      let e : 0 + at ≡ at = omega arith in
      let b = get_or bs at 0 in
      let cell : get_or (cells_from kept 0 bs ms) at Blank ≡ cell_at kept at b m =
      get_or-cells kept at 0 bs ms Blank 0 m lt ∙ ap (λ a. cell_at kept a b (get_or ms at m)) e ∙ ap (cell_at kept at b) (sym mark) in
      sym (ap is_blank cell ∙ blank_is at b m ∙ ap (λ (o : Option (ℕ × Whole)). not (eqb m 0) && not (is_some o)) (sym (none ∙ ap part_in cell)) ∙ and_true (not (eqb m 0)))

-- what is a part is known
pub some_known : (c : Cell) (p : ℕ × Whole) → Some p ≡ part_in c → false ≡ is_blank c
some_known (Byte b) p e = refl
some_known (Part k v) p e = refl
some_known (Quarter k x y) p e = refl
some_known (EntryPart k size scale x y) p e = refl
some_known Blank p e = cc

-- ---- parts of one whole

whole_is : (cs : List Cell) → 0 < length cs → whole_in cs ≡ option_and_then (λ (p : ℕ × Whole). cond (are_parts_of 0 p.1 cs) (Some p.1) None) (part_in (get_or cs 0 Blank))
whole_is [] some = absurd (omega arith)
whole_is (c ∷ cs) some = refl

-- a cell of a part
cell_of_part : (cs : List Cell) (at count k : ℕ) → k < count → get_or (take count (drop at cs)) k Blank ≡ get_or cs (at + k) Blank
cell_of_part cs at count k lt = get_or-take count (drop at cs) k Blank lt ∙ get_or-drop at cs k Blank

pub length-part : (cs : List Cell) (at count : ℕ) → at + count ≤ length cs → length (take count (drop at cs)) ≡ count
length-part cs at count le = omega (arith, length-take count (drop at cs), length-drop at cs)

module _ (cs : List Cell) (at count k : ℕ) (inside : at + count ≤ length cs) where
  abbrev part : List Cell
  part = take count (drop at cs)

  -- one more cell of a part: a part of something, or unknown
  pub parts_step : (w : Whole) (known : Bool) → k < count → known ≡ is_part_of k w (get_or cs (at + k) Blank)
      → are_parts_of k w (drop k part) ≡ (known && are_parts_of (k + 1) w (drop (k + 1) part))
  parts_step w known lt is =
      let size = length-part cs at count inside in
      let next : suc k ≡ k + 1 = omega arith in
      ap (are_parts_of k w) (drop_more part k Blank (omega arith))
      ∙ ap (λ n. is_part_of k w (get_or part k Blank) && are_parts_of n w (drop (k + 1) part)) next
      ∙ ap (λ c. is_part_of k w c && are_parts_of (k + 1) w (drop (k + 1) part)) (cell_of_part cs at count k lt)
      ∙ sym (ap (λ t. t && are_parts_of (k + 1) w (drop (k + 1) part)) is)

  pub parts_end : (w : Whole) → count ≤ k → are_parts_of k w (drop k part) ≡ true
  parts_end w le = let size = length-part cs at count inside in ap (are_parts_of k w) (drop_all k part (omega arith))

  pub blanks_step : (known : Bool) → k < count → known ≡ is_blank (get_or cs (at + k) Blank) → list_any is_blank (drop k part) ≡ (known || list_any is_blank (drop (k + 1) part))
  blanks_step known lt is =
      let size = length-part cs at count inside in
      ap (list_any is_blank) (drop_more part k Blank (omega arith))
      ∙ ap (λ c. is_blank c || list_any is_blank (drop (k + 1) part)) (cell_of_part cs at count k lt)
      ∙ sym (ap (λ t. t || list_any is_blank (drop (k + 1) part)) is)

  pub blanks_end : count ≤ k → list_any is_blank (drop k part) ≡ false
  blanks_end le = let size = length-part cs at count inside in ap (list_any is_blank) (drop_all k part (omega arith))

-- that of which a part's cells are the first parts
pub whole_read : (cs : List Cell) (at count : ℕ) (first : Option (ℕ × Whole)) → 0 < count → at + count ≤ length cs → first ≡ part_in (get_or cs at Blank)
    → whole_in (take count (drop at cs)) ≡ option_and_then (λ (p : ℕ × Whole). cond (are_parts_of 0 p.1 (take count (drop at cs))) (Some p.1) None) first
whole_read cs at count first some inside is =
    let size = length-part cs at count inside in
    let e : at + 0 ≡ at = omega arith in
    whole_is (take count (drop at cs)) (omega arith)
    ∙ ap (option_and_then (λ (p : ℕ × Whole). cond (are_parts_of 0 p.1 (take count (drop at cs))) (Some p.1) None))
    (ap part_in (cell_of_part cs at count 0 some ∙ ap (λ n. get_or cs n Blank) e) ∙ sym is)
