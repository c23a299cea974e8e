-- A derived identifier has sixteen bytes.
use Rattle.std.proofs.Common.{◌≡◌, ℕ, zero, suc, ◌+◌, ◌*◌, ◌/◌, ◌%◌, ◌^◌, ◌≤◌, ◌<◌, List, [], ◌∷◌, ◌++◌, length, take, set, get_or, refl, ap, ◌∙◌, arith}
use Rattle.std.specs.Int.{w32, to_be_bytes, byte_at, bytes_high_first}
use Rattle.std.proofs.lemmas.List.{length-set, length-append}
use Rattle.std.proofs.lemmas.Nat.{mod_below}
use Rattle.gt_model.specs.Typed.{AreBytes, IsId}
use Rattle.sha1.specs.Sha1.{sha1, digest_bytes}
use Rattle.sym_expr.specs.Derived.{derived}
use Rattle.uuid.specs.Parts.{variant_byte}
use Rattle.uuid.specs.declared.Variant.TheVariants.{RFC4122}
use Rattle.rewritten_links.proofs.Lands.{every_append}

byte_small : (k n : ℕ) → byte_at k n < 256
byte_small zero n = mod_below n 256 (omega arith)
byte_small (suc k) n = mod_below (n / 256 ^ suc k) 256 (omega arith)

high_bytes : (k n : ℕ) → AreBytes (bytes_high_first k n)
high_bytes zero n = tt
high_bytes (suc k) n = (byte_small k n, high_bytes k n)

high_length : (k n : ℕ) → length (bytes_high_first k n) ≡ k
high_length zero n = refl
high_length (suc k) n = ap suc (high_length k n)

digest_length : (h : List ℕ) (n : ℕ) → length (digest_bytes h n) ≡ 4 * n
unfolding digest_bytes
digest_length h zero = refl
digest_length h (suc n) =
    let all = length-append (digest_bytes h n) (to_be_bytes w32 (get_or h n 0)) in
    let rest = digest_length h n in
    let last = high_length 4 (get_or h n 0) in
    omega (arith, all, rest, last)

digest_are_bytes : (h : List ℕ) (n : ℕ) → AreBytes (digest_bytes h n)
unfolding digest_bytes
digest_are_bytes h zero = tt
digest_are_bytes h (suc n) = every_append (λ b. b < 256) (digest_bytes h n) (to_be_bytes w32 (get_or h n 0)) (digest_are_bytes h n) (high_bytes 4 (get_or h n 0))

taken_length : (n : ℕ) (xs : List ℕ) → n ≤ length xs → length (take n xs) ≡ n
taken_length zero xs h = refl
taken_length (suc n) [] h = absurd (omega arith)
taken_length (suc n) (x ∷ xs) h = ap suc (taken_length n xs (omega arith))

taken_are_bytes : (n : ℕ) (xs : List ℕ) → AreBytes xs → AreBytes (take n xs)
taken_are_bytes zero xs h = tt
taken_are_bytes (suc n) [] h = tt
taken_are_bytes (suc n) (x ∷ xs) h = (h.0, taken_are_bytes n xs h.1)

set_are_bytes : (xs : List ℕ) (k b : ℕ) → b < 256 → AreBytes xs → AreBytes (set xs k b)
set_are_bytes [] k b small h = tt
set_are_bytes (x ∷ xs) zero b small h = (small, h.1)
set_are_bytes (x ∷ xs) (suc k) b small h = (h.0, set_are_bytes xs k b small h.1)

sha1_length : (m : List ℕ) → length (sha1 m) ≡ 20
unfolding sha1
sha1_length m = digest_length _ 5

sha1_are_bytes : (m : List ℕ) → AreBytes (sha1 m)
unfolding sha1
sha1_are_bytes m = digest_are_bytes _ 5

marked : (n : ℕ) → n % 16 + 5 * 16 < 256
marked n = let below = mod_below n 16 (omega arith) in omega (arith, below)

varied : (n : ℕ) → variant_byte n RFC4122 < 256
varied n = let below = mod_below n 64 (omega arith) in omega (arith, below)

pub derived_is_id : (namespace text : List ℕ) → IsId (derived namespace text)
derived_is_id namespace text =
    let hash = sha1 (namespace ++ text) in
    let first = take 16 hash in
    let second = set first 8 (variant_byte (get_or first 8 0) RFC4122) in
    record {
      len = length-set second 6 (get_or second 6 0 % 16 + 5 * 16) ∙ length-set first 8 (variant_byte (get_or first 8 0) RFC4122) ∙ taken_length 16 hash (let whole = sha1_length (namespace ++ text) in omega (arith, whole));
      bytes = set_are_bytes second 6 (get_or second 6 0 % 16 + 5 * 16) (marked (get_or second 6 0))
          (set_are_bytes first 8 (variant_byte (get_or first 8 0) RFC4122) (varied (get_or first 8 0)) (taken_are_bytes 16 hash (sha1_are_bytes (namespace ++ text))));
    }
