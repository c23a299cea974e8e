-- Numbers as cells, and cells as numbers.
use Rattle.std.proofs.Common.{◌≡◌, ℕ, zero, suc, ◌+◌, ◌-◌, ◌*◌, ◌/◌, ◌%◌, ◌^◌, ◌≤◌, Some, None, List, [], ◌∷◌, ◌++◌, length, take, map, replicate, refl, sym, ap, ◌∙◌, arith}
use Rattle.std.specs.Int.{byte_at, bytes_low_first, from_le_bytes, w64}
use Rattle.std.specs.Option.{option_map}
use Rattle.std.proofs.Math.Nat.{div-div-eq-div-mul, div-one, pow-suc}
use Rattle.std.proofs.lemmas.List.{length-append, length-replicate}
use Rattle.cell_memory.specs.Wholes.{number_of}
use Rattle.sym_expr.specs.States.{number_cells}
use Rattle.sym_expr.specs.Symbolic.{bytes_in, number_of_cells}
use Rattle.sym_expr.specs.Values.{Cell, Byte, Part, Quarter, EntryPart, Blank}

byte_low : (i n : ℕ) → n / 256 ^ i % 256 ≡ byte_at i n
byte_low zero n = ap (λ m. m % 256) (div-one n)
byte_low (suc i) n = refl

cells_from_low : (k i n : ℕ) → number_cells k (n / 256 ^ i) ≡ map Byte (bytes_low_first i k n)
cells_from_low zero i n = refl
cells_from_low (suc k) i n =
    ap (λ b. Byte b ∷ number_cells k (n / 256 ^ i / 256)) (byte_low i n)
    ∙ ap (λ m. Byte (byte_at i n) ∷ number_cells k m) (div-div-eq-div-mul n (256 ^ i) 256 ∙ ap (λ d. n / d) (sym (pow-suc 256 i)))
    ∙ ap (λ cs. Byte (byte_at i n) ∷ cs) (cells_from_low k (suc i) n)

take_low : (k i m n : ℕ) → k ≤ m → take k (bytes_low_first i m n) ≡ bytes_low_first i k n
take_low zero i m n le = refl
take_low (suc k) i zero n le = absurd (omega arith)
take_low (suc k) i (suc m) n le = ap (λ bs. byte_at i n ∷ bs) (take_low k (suc i) m n (omega arith))

-- the low bytes of a number of eight are its cells
pub low_cells : (count n : ℕ) → count ≤ 8 → map Byte (take count (bytes_low_first 0 8 n)) ≡ number_cells count n
low_cells count n le = ap (map Byte) (take_low count 0 8 n le) ∙ sym (ap (number_cells count) (sym (div-one n)) ∙ cells_from_low count 0 n)

-- the number that cells are is that of their bytes
pub number_is : (cs : List Cell) → number_of_cells cs ≡ option_map number_of (bytes_in cs)
number_is [] = refl
number_is (Byte b ∷ cs) =
    ap (option_map (λ n. b + 256 * n)) (number_is cs)
    ∙ elim (bytes_in cs) as (λ o. option_map (λ n. b + 256 * n) (option_map number_of o) ≡ option_map number_of (option_map (λ bs. b ∷ bs) o)) [ None ↦ refl | Some bs ↦ refl ]
number_is (Part k v ∷ cs) = refl
number_is (Quarter k p q ∷ cs) = refl
number_is (EntryPart k size scale p q ∷ cs) = refl
number_is (Blank ∷ cs) = refl

zeros_behind : (xs : List ℕ) (n : ℕ) → number_of (xs ++ replicate n 0) ≡ number_of xs
zeros_behind [] zero = refl
zeros_behind [] (suc n) = omega (arith, zeros_behind [] n)
zeros_behind (x ∷ xs) n = rw (zeros_behind xs n) refl

eight : (xs : List ℕ) → length xs ≡ 8 → from_le_bytes w64 xs ≡ number_of xs
eight (a ∷ b ∷ c ∷ d ∷ e ∷ f ∷ g ∷ h ∷ []) len = omega arith
eight [] len = absurd (omega arith)
eight (a ∷ []) len = absurd (omega arith)
eight (a ∷ b ∷ []) len = absurd (omega arith)
eight (a ∷ b ∷ c ∷ []) len = absurd (omega arith)
eight (a ∷ b ∷ c ∷ d ∷ []) len = absurd (omega arith)
eight (a ∷ b ∷ c ∷ d ∷ e ∷ []) len = absurd (omega arith)
eight (a ∷ b ∷ c ∷ d ∷ e ∷ f ∷ []) len = absurd (omega arith)
eight (a ∷ b ∷ c ∷ d ∷ e ∷ f ∷ g ∷ []) len = absurd (omega arith)
eight (a ∷ b ∷ c ∷ d ∷ e ∷ f ∷ g ∷ h ∷ i ∷ rest) len = absurd (omega arith)

-- the number of at most eight bytes, with zeros behind them
pub number_of_eight : (xs : List ℕ) → length xs ≤ 8 → from_le_bytes w64 (xs ++ replicate (8 - length xs) 0) ≡ number_of xs
number_of_eight xs most =
    let zeros : List ℕ = replicate (8 - length xs) 0 in
    let count : length zeros ≡ 8 - length xs = length-replicate (8 - length xs) 0 in
    let all : length (xs ++ zeros) ≡ 8 = length-append xs zeros ∙ omega arith in
    eight (xs ++ zeros) all ∙ zeros_behind xs (8 - length xs)
