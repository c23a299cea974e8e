-- Bytes of numbers: what number memory has at an address, and numbers that have the same low bytes.
use Rattle.std.proofs.Common.{◌≡◌, ℕ, zero, suc, ◌+◌, ◌-◌, ◌*◌, ◌/◌, ◌%◌, ◌^◌, ◌<◌, true, Some, None, is_some, List, [], ◌∷◌, length, ℤ, pos, negsuc, unsigned_abs, refl, sym, ap, ◌∙◌, arith}
use Rattle.std.specs.Prelude.{◌&&◌, unwrap_or, if◌then◌else◌}
use Rattle.std.specs.Int.{int_rem_euclid}
use Rattle.std.proofs.Math.Nat.{div-add-mod, mod-lt, mul_assoc, pow-suc}
use Rattle.paged_memory.specs.Mapping.{Mapping, bytes_from, is_mapped, number_at, number_of}
use Rattle.sym_expr.specs.Images.{bytes_of}
use Rattle.placed_images.proofs.Memory.{Holds}

-- ---- numbers in memory

mapped_all : (m : Mapping) (bs : List ℕ) (at : ℕ) → Holds m at bs → is_mapped m at (length bs) ≡ true
mapped_all m [] at h = refl
mapped_all m (b ∷ bs) at h =
    ap (λ o. is_some o && is_mapped m (at + 1) (length bs)) h.0 ∙ mapped_all m bs (at + 1) h.1

bytes_all : (m : Mapping) (bs : List ℕ) (at : ℕ) → Holds m at bs → bytes_from m at (length bs) ≡ bs
bytes_all m [] at h = refl
bytes_all m (b ∷ bs) at h =
    ap (λ o. unwrap_or o 0 ∷ bytes_from m (at + 1) (length bs)) h.0 ∙ ap (λ l. b ∷ l) (bytes_all m bs (at + 1) h.1)

-- memory that holds bytes has their number
pub holds_number : (m : Mapping) (bs : List ℕ) (at : ℕ) → Holds m at bs → number_at m at (length bs) ≡ Some (number_of bs)
holds_number m bs at h =
    ap (λ b. if b then Some (number_of (bytes_from m at (length bs))) else None) (mapped_all m bs at h) ∙ ap (λ l. Some (number_of l)) (bytes_all m bs at h)

-- the number of the bytes of a number that has no more
pub number_of_bytes : (k n : ℕ) → n < 256 ^ k → number_of (bytes_of k n) ≡ n
number_of_bytes zero n lt = omega arith
number_of_bytes (suc k) n lt =
    let more = pow-suc 256 k in
    let below : n / 256 < 256 ^ k = omega arith in
    let rest = number_of_bytes k (n / 256) below in
    omega arith

-- ---- low bytes

-- what is above so many bytes does not matter to them
bytes_above : (k x q : ℕ) → bytes_of k (x + 256 ^ k * q) ≡ bytes_of k x
bytes_above zero x q = refl
bytes_above (suc k) x q =
    let more = pow-suc 256 k in
    let split : 256 ^ suc k * q ≡ 256 * (256 ^ k * q) = ap (λ n. n * q) (omega arith) ∙ mul_assoc 256 (256 ^ k) q in
    let digit : (x + 256 ^ suc k * q) % 256 ≡ x % 256 = omega arith in
    let rest : (x + 256 ^ suc k * q) / 256 ≡ x / 256 + 256 ^ k * q = omega arith in
    ap (λ b. b ∷ bytes_of k ((x + 256 ^ suc k * q) / 256)) digit ∙ ap (λ n. x % 256 ∷ bytes_of k n) rest ∙ ap (λ l. x % 256 ∷ l) (bytes_above k (x / 256) q)

-- nor what a multiple of a greater power takes away
pub bytes_within : (k m x : ℕ) → (e : ℕ) → m ≡ 256 ^ k * e → bytes_of k (x % m) ≡ bytes_of k x
bytes_within k m x e is =
    let split = div-add-mod x m in
    let turned : m * (x / m) ≡ 256 ^ k * (e * (x / m)) = ap (λ n. n * (x / m)) is ∙ mul_assoc (256 ^ k) e (x / m) in
    let whole : x ≡ x % m + 256 ^ k * (e * (x / m)) = omega arith in
    sym (ap (bytes_of k) whole ∙ bytes_above k (x % m) (e * (x / m)))

-- ---- remainders

below_self : (a n : ℕ) → 0 < n → n - 1 - a < n
below_self a n some = omega arith

pub rest_small : (z : ℤ) (n : ℕ) → 0 < n → unsigned_abs (int_rem_euclid z (pos n)) < n
rest_small (pos a) n some = mod-lt a some
rest_small (negsuc a) n some = below_self (a % n) n some
