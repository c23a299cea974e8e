-- Cells and the bytes that stand for them, one behind the other.
use Rattle.std.proofs.Common.{◌≡◌, ℕ, zero, suc, ◌+◌, ◌*◌, ◌/◌, ◌%◌, ◌^◌, ◌<◌, true, List, [], ◌∷◌, length, Option, Some, None, refl, sym, ap, ◌∙◌, subst, arith}
use Rattle.std.specs.Prelude.{◌==◌, ◌&&◌, slice_index, slice_index_or, map, All}
use Rattle.std.specs.Option.{option_map}
use Rattle.std.proofs.Math.Nat.{pow-suc, div-div-eq-div-mul, div-one, mod-eq_of_lt}
use Rattle.std.proofs.Math.Arith.{mod-mul}
use Rattle.std.proofs.lemmas.List.Elements.{All-head, All-tail}
use Rattle.std.proofs.lemmas.Bool.{and_parts, eqb-true, false≢true}
use Rattle.paged_memory.specs.Mapping.{number_of, bytes_of}
use Rattle.sym_expr.specs.declared.point.Point.{Point}
use Rattle.sym_expr.specs.declared.program.Program.{Program}
use Rattle.sym_expr.specs.declared.target.Target.{Target}
use Rattle.sym_expr.specs.declared.value.Value.{Value}
use Rattle.sym_expr.specs.declared.value.Value.TheVariants.{Num, Addr, At, PageOf, Diff, Step}
use Rattle.sym_expr.specs.States.{number_cells, parts_from, value_cells, less}
use Rattle.sym_expr.specs.Symbolic.{number_of_cells, is_part, are_parts, is_quarter, are_quarters, is_entry_part, are_entry_parts}
use Rattle.sym_expr.specs.Values.{Cell, Byte, Part, Quarter, EntryPart, Blank, same_point, same_target, same_value}
use Rattle.simulation.specs.Placement.{Placement, target_number, value_number}
use Rattle.simulation.specs.Meant.{IsCell, IsValue, byte_of, entry_number}
use Rattle.simulation.proofs.Values.{point_is, target_is, value_is}

-- ---- bytes of a number

-- bytes are those of a number, from the k-th on
abbrev pub AreBytesOf : ℕ → ℕ → List ℕ → Type 0
AreBytesOf n k [] = Unit {0}
AreBytesOf n k (b ∷ bs) = (b ≡ byte_of k n) × AreBytesOf n (suc k) bs

power_pos : (k : ℕ) → 0 < 256 ^ k
power_pos zero = omega arith
power_pos (suc k) = let e = pow-suc 256 k in let h = power_pos k in omega (arith, e, h)

next_quotient : (n k : ℕ) → n / 256 ^ suc k ≡ n / 256 ^ k / 256
next_quotient n k = ap (λ (x : ℕ). n / x) (pow-suc 256 k) ∙ sym (div-div-eq-div-mul n (256 ^ k) 256)

-- the number of bytes of a number
pub number_from : (n k : ℕ) (bs : List ℕ) → AreBytesOf n k bs → number_of bs ≡ n / 256 ^ k % 256 ^ length bs
number_from n k [] h = omega arith
number_from n k (b ∷ bs) h =
    let y : ℕ = n / 256 ^ k in
    let p : ℕ = 256 ^ length bs in
    let rest : number_of bs ≡ y / 256 % p = number_from n (suc k) bs h.1 ∙ ap (λ (x : ℕ). x % p) (next_quotient n k) in
    let split : y % (p * 256) ≡ (y / 256 % p) * 256 + y % 256 = mod-mul y (power_pos (length bs)) (omega arith) in
    let power : 256 ^ suc (length bs) ≡ p * 256 = pow-suc 256 (length bs) in
    let first : b ≡ y % 256 = h.0 in
    let all : b + 256 * number_of bs ≡ y % (p * 256) = omega (arith, split, first, rest) in
    all ∙ ap (λ (x : ℕ). y % x) (sym power)

pub number_whole : (n count : ℕ) (bs : List ℕ) → AreBytesOf n 0 bs → length bs ≡ count → n < 256 ^ count → number_of bs ≡ n
number_whole n count bs h e small =
    number_from n 0 bs h ∙ ap (λ (x : ℕ). x % 256 ^ length bs) (div-one n) ∙ ap (λ (c : ℕ). n % 256 ^ c) e ∙ mod-eq_of_lt small

module _ (pl : Placement) (g : Program) where
  -- bytes stand for cells
  abbrev pub AreBytes : List Cell → List ℕ → Type 0
  AreBytes [] [] = Unit {0}
  AreBytes [] (b ∷ bs) = ⊥
  AreBytes (c ∷ cs) [] = ⊥
  AreBytes (c ∷ cs) (b ∷ bs) = IsCell pl g c b × AreBytes cs bs

  pub same_count : (cs : List Cell) (bs : List ℕ) → AreBytes cs bs → length bs ≡ length cs
  same_count [] [] h = refl
  same_count [] (b ∷ bs) h = absurd h
  same_count (c ∷ cs) [] h = absurd h
  same_count (c ∷ cs) (b ∷ bs) h = ap suc (same_count cs bs h.1)

  -- each of them
  pub byte_at : (cs : List Cell) (bs : List ℕ) (k : ℕ) → AreBytes cs bs → k < length cs → IsCell pl g (slice_index_or cs k Blank) (slice_index bs k)
  byte_at [] bs k h lt = absurd (omega (arith, lt))
  byte_at (c ∷ cs) [] k h lt = absurd h
  byte_at (c ∷ cs) (b ∷ bs) zero h lt = h.0
  byte_at (c ∷ cs) (b ∷ bs) (suc k) h lt = byte_at cs bs k h.1 (omega (arith, lt))

  -- ---- numbers

  -- the number of cells that are bytes
  abbrev pub IsNumberOf : Option ℕ → List ℕ → Type 0
  IsNumberOf None bs = Unit {0}
  IsNumberOf (Some n) bs = (n ≡ number_of bs) × (n < 256 ^ length bs)

  number_more : (o : Option ℕ) (b c : ℕ) (bs : List ℕ) → IsNumberOf o bs → (b ≡ c) × (c < 256) → IsNumberOf (option_map (λ n. c + 256 * n) o) (b ∷ bs)
  number_more None b c bs h k = tt
  number_more (Some n) b c bs h k =
      let power = pow-suc 256 (length bs) in
      let same = h.0 in
      let below = h.1 in
      let byte = k.0 in
      let small = k.1 in
      (omega (arith, same, byte), omega (arith, power, below, small))

  pub number_of_bytes : (cs : List Cell) (bs : List ℕ) → AreBytes cs bs → IsNumberOf (number_of_cells cs) bs
  number_of_bytes [] [] h = (refl, omega arith)
  number_of_bytes [] (b ∷ bs) h = absurd h
  number_of_bytes (c ∷ cs) [] h = absurd h
  number_of_bytes (Byte x ∷ cs) (b ∷ bs) h = number_more (number_of_cells cs) b x bs (number_of_bytes cs bs h.1) h.0
  number_of_bytes (Part k v ∷ cs) (b ∷ bs) h = tt
  number_of_bytes (Quarter k p q ∷ cs) (b ∷ bs) h = tt
  number_of_bytes (EntryPart k size scale p q ∷ cs) (b ∷ bs) h = tt
  number_of_bytes (Blank ∷ cs) (b ∷ bs) h = tt

  -- ---- parts of one value, of one difference and of one entry

  part_byte : (k : ℕ) (v : Value) (c : Cell) (b : ℕ) → is_part k v c ≡ true → IsCell pl g c b → b ≡ byte_of k (value_number pl g v)
  part_byte k v (Part j w) b e h =
      let both = and_parts (j == k) (same_value v w) e in
      h.1 ∙ rw (eqb-true j k both.0, ← value_is v w both.1) refl
  part_byte k v (Byte x) b e h = absurd (false≢true e)
  part_byte k v (Quarter j p q) b e h = absurd (false≢true e)
  part_byte k v (EntryPart j size scale p q) b e h = absurd (false≢true e)
  part_byte k v Blank b e h = absurd (false≢true e)

  pub parts_bytes : (k : ℕ) (v : Value) (cs : List Cell) (bs : List ℕ) → are_parts k v cs ≡ true → AreBytes cs bs → AreBytesOf (value_number pl g v) k bs
  parts_bytes k v [] [] e h = tt
  parts_bytes k v [] (b ∷ bs) e h = absurd h
  parts_bytes k v (c ∷ cs) [] e h = absurd h
  parts_bytes k v (c ∷ cs) (b ∷ bs) e h =
      let both = and_parts (is_part k v c) (are_parts (suc k) v cs) e in
      (part_byte k v c b both.0 h.0, parts_bytes (suc k) v cs bs both.1 h.1)

  quarter_byte : (k : ℕ) (p q : Target) (c : Cell) (b : ℕ) → is_quarter k p q c ≡ true → IsCell pl g c b → b ≡ byte_of k (less (target_number pl g p) (target_number pl g q))
  quarter_byte k p q (Quarter j r s) b e h =
      let first = and_parts (j == k) (same_target p r && same_target q s) e in
      let second = and_parts (same_target p r) (same_target q s) first.1 in
      h.3 ∙ rw (eqb-true j k first.0, ← target_is p r second.0, ← target_is q s second.1) refl
  quarter_byte k p q (Byte x) b e h = absurd (false≢true e)
  quarter_byte k p q (Part j v) b e h = absurd (false≢true e)
  quarter_byte k p q (EntryPart j size scale r s) b e h = absurd (false≢true e)
  quarter_byte k p q Blank b e h = absurd (false≢true e)

  pub quarters_bytes : (k : ℕ) (p q : Target) (cs : List Cell) (bs : List ℕ) → are_quarters k p q cs ≡ true → AreBytes cs bs → AreBytesOf (less (target_number pl g p) (target_number pl g q)) k bs
  quarters_bytes k p q [] [] e h = tt
  quarters_bytes k p q [] (b ∷ bs) e h = absurd h
  quarters_bytes k p q (c ∷ cs) [] e h = absurd h
  quarters_bytes k p q (c ∷ cs) (b ∷ bs) e h =
      let both = and_parts (is_quarter k p q c) (are_quarters (suc k) p q cs) e in
      (quarter_byte k p q c b both.0 h.0, quarters_bytes (suc k) p q cs bs both.1 h.1)

  entry_byte : (k size scale : ℕ) (p q : Point) (c : Cell) (b : ℕ) → is_entry_part k size scale p q c ≡ true → IsCell pl g c b → b ≡ byte_of k (entry_number g size scale p q)
  entry_byte k size scale p q (EntryPart j z y r s) b e h =
      let first = and_parts (j == k) ((z == size) && ((y == scale) && (same_point p r && same_point q s))) e in
      let second = and_parts (z == size) ((y == scale) && (same_point p r && same_point q s)) first.1 in
      let third = and_parts (y == scale) (same_point p r && same_point q s) second.1 in
      let fourth = and_parts (same_point p r) (same_point q s) third.1 in
      h.3 ∙ rw (eqb-true j k first.0, eqb-true z size second.0, eqb-true y scale third.0, ← point_is p r fourth.0, ← point_is q s fourth.1) refl
  entry_byte k size scale p q (Byte x) b e h = absurd (false≢true e)
  entry_byte k size scale p q (Part j v) b e h = absurd (false≢true e)
  entry_byte k size scale p q (Quarter j r s) b e h = absurd (false≢true e)
  entry_byte k size scale p q Blank b e h = absurd (false≢true e)

  pub entry_bytes : (k size scale : ℕ) (p q : Point) (cs : List Cell) (bs : List ℕ) → are_entry_parts k size scale p q cs ≡ true → AreBytes cs bs → AreBytesOf (entry_number g size scale p q) k bs
  entry_bytes k size scale p q [] [] e h = tt
  entry_bytes k size scale p q [] (b ∷ bs) e h = absurd h
  entry_bytes k size scale p q (c ∷ cs) [] e h = absurd h
  entry_bytes k size scale p q (c ∷ cs) (b ∷ bs) e h =
      let both = and_parts (is_entry_part k size scale p q c) (are_entry_parts (suc k) size scale p q cs) e in
      (entry_byte k size scale p q c b both.0 h.0, entry_bytes (suc k) size scale p q cs bs both.1 h.1)

  -- ---- cells that are stored

  pub number_stored : (count n : ℕ) → AreBytes (number_cells count n) (bytes_of count n)
  number_stored zero n = tt
  number_stored (suc count) n = ((refl, omega arith), number_stored count (n / 256))

  parts_stored : (count k : ℕ) (v : Value) → IsValue pl g v → AreBytes (parts_from count k (λ j. Part j v)) (bytes_of count (value_number pl g v / 256 ^ k))
  parts_stored zero k v h = tt
  parts_stored (suc count) k v h =
      ((h, refl), subst (λ (x : ℕ). AreBytes (parts_from count (suc k) (λ j. Part j v)) (bytes_of count x)) (next_quotient (value_number pl g v) k) (parts_stored count (suc k) v h))

  from_first : (v : Value) → IsValue pl g v → AreBytes (parts_from 8 0 (λ j. Part j v)) (bytes_of 8 (value_number pl g v))
  from_first v h = subst (λ (x : ℕ). AreBytes (parts_from 8 0 (λ j. Part j v)) (bytes_of 8 x)) (div-one (value_number pl g v)) (parts_stored 8 0 v h)

  pub value_stored : (v : Value) → IsValue pl g v → AreBytes (value_cells v) (bytes_of 8 (value_number pl g v))
  value_stored (Num n) h = number_stored 8 n
  value_stored (Addr o x) h = from_first (Addr o x) h
  value_stored (At p) h = from_first (At p) h
  value_stored (PageOf t) h = from_first (PageOf t) h
  value_stored (Diff p q) h = from_first (Diff p q) h
  value_stored (Step p q n) h = from_first (Step p q n) h

  -- bytes of the input
  pub input_stored : (bs : List ℕ) → All (λ b. b < 256) bs → AreBytes (map Byte bs) bs
  input_stored [] h = tt
  input_stored (b ∷ bs) h = ((refl, All-head (λ x. x < 256) b bs h), input_stored bs (All-tail (λ x. x < 256) b bs h))
