-- Numbers of bytes that are read.
use Rattle.std.proofs.Common.{◌≡◌, ℕ, zero, suc, ◌+◌, ◌-◌, ◌<◌, ◌≤◌, true, List, [], ◌∷◌, ◌++◌, length, get_or, set, replicate, Some, refl, sym, ap, ◌∙◌, append_assoc, arith}
use Rattle.std.specs.Prelude.{unwrap_or}
use Rattle.std.specs.Int.{w32, w64, from_le_bytes}
use Rattle.std.proofs.lemmas.List.{set_at, length-append, length-replicate}
use Rattle.std.proofs.lemmas.List.FromFn.{length-map-range_with_len}
use Rattle.paged_memory.specs.Mapping.{Mapping, is_mapped, bytes_from, number_of, number_at}
use Rattle.paged_memory.proofs.Spans.{bytes_from-more}

pub number_is : (m : Mapping) (at count n : ℕ) → is_mapped m at count ≡ true → n ≡ number_of (bytes_from m at count) → Some n ≡ number_at m at count
number_is m at count n all value = rw (value, all) refl

-- zeros behind are worth nothing
zeros_behind : (xs : List ℕ) (n : ℕ) → number_of (xs ++ replicate n 0) ≡ number_of xs
zeros_behind [] zero = refl
zeros_behind [] (suc n) = omega (arith, zeros_behind [] n)
zeros_behind (x ∷ xs) n = rw (zeros_behind xs n) refl

eight : (xs : List ℕ) → length xs ≡ 8 → from_le_bytes w64 xs ≡ number_of xs
eight (a ∷ b ∷ c ∷ d ∷ e ∷ f ∷ g ∷ h ∷ []) len = omega arith
eight [] len = absurd (omega arith)
eight (a ∷ []) len = absurd (omega arith)
eight (a ∷ b ∷ []) len = absurd (omega arith)
eight (a ∷ b ∷ c ∷ []) len = absurd (omega arith)
eight (a ∷ b ∷ c ∷ d ∷ []) len = absurd (omega arith)
eight (a ∷ b ∷ c ∷ d ∷ e ∷ []) len = absurd (omega arith)
eight (a ∷ b ∷ c ∷ d ∷ e ∷ f ∷ []) len = absurd (omega arith)
eight (a ∷ b ∷ c ∷ d ∷ e ∷ f ∷ g ∷ []) len = absurd (omega arith)
eight (a ∷ b ∷ c ∷ d ∷ e ∷ f ∷ g ∷ h ∷ i ∷ rest) len = absurd (omega arith)

-- the number of at most eight bytes, with zeros behind them
pub number_of_eight : (m : Mapping) (at count : ℕ) (bytes : List ℕ) → count ≤ 8 → bytes ≡ bytes_from m at count ++ replicate (8 - count) 0 → from_le_bytes w64 bytes ≡ number_of (bytes_from m at count)
number_of_eight m at count bytes most same =
    let front = bytes_from m at count in
    let zeros : length (replicate {A = ℕ} (8 - count) 0) ≡ 8 - count = length-replicate (8 - count) 0 in
    let len : length bytes ≡ 8 = ap length same ∙ (length-append front (replicate (8 - count) 0) ∙ omega (arith, length-map-range_with_len (λ a. unwrap_or (m a) 0) at count, zeros)) in
    eight bytes len ∙ ap number_of same ∙ zeros_behind front (8 - count)

-- one byte more in front of the zeros
pub eight-more : (m : Mapping) (at i byte : ℕ) (bytes : List ℕ) → i < 8 → bytes ≡ bytes_from m at i ++ replicate (8 - i) 0 → byte ≡ unwrap_or (m (at + i)) 0 → set bytes i byte ≡ bytes_from m at (i + 1) ++ replicate (8 - (i + 1)) 0
eight-more m at i byte bytes lt same read =
    let front = bytes_from m at i in
    let back : List ℕ = replicate (8 - (i + 1)) 0 in
    let more : 8 - i ≡ suc (8 - (i + 1)) = omega arith in
    ap (λ (xs : List ℕ). set xs i byte) (same ∙ ap (λ (n : ℕ). front ++ replicate n 0) more)
    ∙ set_at front 0 back byte i (length-map-range_with_len (λ a. unwrap_or (m a) 0) at i)
    ∙ sym (ap (λ (xs : List ℕ). xs ++ back) (bytes_from-more m at i) ∙ append_assoc front (unwrap_or (m (at + i)) 0 ∷ []) back ∙ ap (λ (b : ℕ). front ++ (b ∷ back)) (sym read))

four : (xs ys : List ℕ) → length xs ≡ 4 → from_le_bytes w32 (get_or (xs ++ ys) 0 0 ∷ get_or (xs ++ ys) 1 0 ∷ get_or (xs ++ ys) 2 0 ∷ get_or (xs ++ ys) 3 0 ∷ []) ≡ number_of xs
four (a ∷ b ∷ c ∷ d ∷ []) ys len = omega arith
four [] ys len = absurd (omega arith)
four (a ∷ []) ys len = absurd (omega arith)
four (a ∷ b ∷ []) ys len = absurd (omega arith)
four (a ∷ b ∷ c ∷ []) ys len = absurd (omega arith)
four (a ∷ b ∷ c ∷ d ∷ e ∷ rest) ys len = absurd (omega arith)

-- the number of the first four of eight bytes
pub number_of_four : (m : Mapping) (at : ℕ) (bytes : List ℕ) → bytes ≡ bytes_from m at 4 ++ replicate 4 0 → from_le_bytes w32 (get_or bytes 0 0 ∷ get_or bytes 1 0 ∷ get_or bytes 2 0 ∷ get_or bytes 3 0 ∷ []) ≡ number_of (bytes_from m at 4)
number_of_four m at bytes same =
    ap (λ (xs : List ℕ). from_le_bytes w32 (get_or xs 0 0 ∷ get_or xs 1 0 ∷ get_or xs 2 0 ∷ get_or xs 3 0 ∷ [])) same ∙ four (bytes_from m at 4) (replicate 4 0) (length-map-range_with_len (λ a. unwrap_or (m a) 0) at 4)
