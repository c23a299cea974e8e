-- A derived identifier has sixteen bytes.
use Rattle.std.proofs.Common.{◌≡◌, ℕ, zero, suc, ◌+◌, ◌*◌, ◌%◌, ◌≤◌, List, [], ◌∷◌, ◌++◌, length, take, set, get_or, refl, ap, ◌∙◌, arith}
use Rattle.std.specs.Int.{w32, to_be_bytes, bytes_high_first}
use Rattle.std.proofs.lemmas.List.{length-set, length-append}
use Rattle.sha1.specs.Sha1.{sha1, digest_bytes}
use Rattle.sym_expr.specs.Derived.{derived}
use Rattle.uuid.specs.Parts.{variant_byte}
use Rattle.uuid.specs.declared.Variant.TheVariants.{RFC4122}

high_length : (k n : ℕ) → length (bytes_high_first k n) ≡ k
high_length zero n = refl
high_length (suc k) n = ap suc (high_length k n)

digest_length : (h : List ℕ) (n : ℕ) → length (digest_bytes h n) ≡ 4 * n
unfolding digest_bytes
digest_length h zero = refl
digest_length h (suc n) =
    let all = length-append (digest_bytes h n) (to_be_bytes w32 (get_or h n 0)) in
    let rest = digest_length h n in
    let last = high_length 4 (get_or h n 0) in
    omega (arith, all, rest, last)

taken_length : (n : ℕ) (xs : List ℕ) → n ≤ length xs → length (take n xs) ≡ n
taken_length zero xs h = refl
taken_length (suc n) [] h = absurd (omega arith)
taken_length (suc n) (x ∷ xs) h = ap suc (taken_length n xs (omega arith))

sha1_length : (m : List ℕ) → length (sha1 m) ≡ 20
unfolding sha1
sha1_length m = digest_length _ 5

pub sixteen : (namespace text : List ℕ) → length (derived namespace text) ≡ 16
sixteen namespace text =
    let hash = sha1 (namespace ++ text) in
    let first = take 16 hash in
    let second = set first 8 (variant_byte (get_or first 8 0) RFC4122) in
    length-set second 6 (get_or second 6 0 % 16 + 5 * 16) ∙ length-set first 8 (variant_byte (get_or first 8 0) RFC4122) ∙ taken_length 16 hash (let whole = sha1_length (namespace ++ text) in omega (arith, whole))
