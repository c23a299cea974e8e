-- Bytes from an address on, in what stands at each address.
use Rattle.std.proofs.Common.{◌≡◌, ℕ, zero, suc, ◌+◌, ◌-◌, ◌<◌, ◌≤◌, Bool, true, false, ◌&&◌, List, [], ◌∷◌, ◌++◌, length, Option, Some, None, refl, sym, ap, subst, ◌∙◌, inl, inr, add-zero, append_assoc, arith}
use Rattle.std.specs.Prelude.{is_some, unwrap_or}
use Rattle.std.proofs.lemmas.Bool.{le-leb, lt-leb, lt-ltb, le-ltb, cases_lt, cases_eq, true≢false}
use Rattle.std.proofs.lemmas.List.{length_push, append-nil, length-append, get_or_push, get_or_append_left, get_or-append_right}
use Rattle.std.proofs.lemmas.List.FromFn.{map-range_with_len_more}
use Rattle.std.proofs.Math.Path.{fun_ext}
use Rattle.paged_memory.specs.Mapping.{Mapping, is_mapped, bytes_from, with_bytes}

-- what was read at an address, in what stands there
pub read_is : (m n : Mapping) (here at : ℕ) (o : Option ℕ) → o ≡ m here → m ≡ n → here ≡ at → o ≡ n at
read_is m n here at o read same place = read ∙ ap (λ (x : Mapping). x here) same ∙ ap n place

shifted : (at k : ℕ) → at + 1 + k ≡ at + suc k
shifted at k = omega arith

-- all of them are mapped where each is
pub is_mapped-each : (m : Mapping) (at count : ℕ) → ((k : ℕ) → k < count → is_some (m (at + k)) ≡ true) → is_mapped m at count ≡ true
is_mapped-each m at zero each = refl
is_mapped-each m at (suc count) each =
    let first : is_some (m at) ≡ true = subst (λ (a : ℕ). is_some (m a) ≡ true) (add-zero at) (each 0 (omega arith)) in
    let others = is_mapped-each m (at + 1) count (λ k lt. subst (λ (a : ℕ). is_some (m a) ≡ true) (sym (shifted at k)) (each (suc k) (omega arith))) in
    rw (first, others) refl

and_first : (a b : Bool) → (a && b) ≡ true → (a ≡ true) × (b ≡ true)
and_first true b e = (refl, e)
and_first false b e = absurd (true≢false (sym e))

-- and only there
pub is_mapped-at : (m : Mapping) (at count : ℕ) → is_mapped m at count ≡ true → (k : ℕ) → k < count → is_some (m (at + k)) ≡ true
is_mapped-at m at zero all k lt = absurd (omega arith)
is_mapped-at m at (suc count) all zero lt = subst (λ (a : ℕ). is_some (m a) ≡ true) (sym (add-zero at)) (and_first (is_some (m at)) (is_mapped m (at + 1) count) all).0
is_mapped-at m at (suc count) all (suc k) lt =
    subst (λ (a : ℕ). is_some (m a) ≡ true) (shifted at k) (is_mapped-at m (at + 1) count (and_first (is_some (m at)) (is_mapped m (at + 1) count) all).1 k (omega arith))

is_mapped-false : (b : Bool) → (b ≡ true → ⊥) → false ≡ b
is_mapped-false true h = absurd (h refl)
is_mapped-false false h = refl

-- where one is missing, not all are mapped
pub is_mapped-missing : (m : Mapping) (at count k : ℕ) → k < count → is_some (m (at + k)) ≡ false → false ≡ is_mapped m at count
is_mapped-missing m at count k lt missing = is_mapped-false (is_mapped m at count) (λ all. true≢false (sym (is_mapped-at m at count all k lt) ∙ missing))

-- one byte more
pub bytes_from-more : (m : Mapping) (at count : ℕ) → bytes_from m at (count + 1) ≡ bytes_from m at count ++ unwrap_or (m (at + count)) 0 ∷ []
bytes_from-more m at count = map-range_with_len_more (λ a. unwrap_or (m a) 0) at count (at + count) refl

-- one byte more is put
pub with_bytes-more : (m : Mapping) (at : ℕ) (bytes : List ℕ) (byte : ℕ) → with_bytes (with_bytes m at bytes) (at + length bytes) (byte ∷ []) ≡ with_bytes m at (bytes ++ byte ∷ [])
with_bytes-more m at bytes byte =
    fun_ext (λ a. elim (cases_lt a at) [
      | inl below ↦ rw (lt-leb at a below, lt-leb (at + length bytes) a (omega arith)) refl
      | inr low ↦
          elim (cases_lt a (at + length bytes)) [
            | inl inside ↦
                rw (le-leb at a low, lt-leb (at + length bytes) a inside, lt-ltb a (at + length bytes) inside, lt-ltb a (at + length (bytes ++ byte ∷ [])) (omega (arith, length_push bytes byte)), get_or_append_left bytes (byte ∷ []) 0 (a - at) (omega arith)) refl
            | inr behind ↦
                elim (cases_eq a (at + length bytes)) [
                  | inl here ↦
                      let none : at + length bytes - (at + length bytes) ≡ 0 = omega arith in
                      let offset : at + length bytes - at ≡ length bytes = omega arith in
                      rw (here, le-leb (at + length bytes) (at + length bytes) (omega arith), le-leb at (at + length bytes) (omega arith), lt-ltb (at + length bytes) (at + length bytes + 1) (omega arith), lt-ltb (at + length bytes) (at + length (bytes ++ byte ∷ [])) (omega (arith, length_push bytes byte)), none, offset, get_or_push bytes byte 0 (length bytes) refl) refl
                  | inr apart ↦
                      rw (le-leb at a low, le-ltb a (at + length bytes) behind, le-leb (at + length bytes) a behind, le-ltb a (at + length bytes + 1) (omega arith), le-ltb a (at + length (bytes ++ byte ∷ [])) (omega (arith, length_push bytes byte))) refl
                ]
          ]
    ])

-- behind the bytes that were put the rest is as before
pub with_bytes-behind : (m : Mapping) (at : ℕ) (bytes : List ℕ) (a : ℕ) → at + length bytes ≤ a → with_bytes m at bytes a ≡ m a
with_bytes-behind m at bytes a behind = rw (le-leb at a (omega arith), le-ltb a (at + length bytes) behind) refl

-- nothing is put
pub with_bytes-none : (m : Mapping) (at : ℕ) → with_bytes m at [] ≡ m
with_bytes-none m at =
    fun_ext (λ a. elim (cases_lt a at) [
      | inl below ↦ rw (lt-leb at a below) refl
      | inr low ↦ with_bytes-behind m at [] a (omega arith)
    ])

-- more bytes are put behind
pub with_bytes-append : (m : Mapping) (at : ℕ) (bytes more : List ℕ) → with_bytes (with_bytes m at bytes) (at + length bytes) more ≡ with_bytes m at (bytes ++ more)
with_bytes-append m at bytes more =
    fun_ext (λ a. elim (cases_lt a at) [
      | inl below ↦ rw (lt-leb at a below, lt-leb (at + length bytes) a (omega arith)) refl
      | inr low ↦
          elim (cases_lt a (at + length bytes)) [
            | inl inside ↦
                rw (le-leb at a low, lt-leb (at + length bytes) a inside, lt-ltb a (at + length bytes) inside, lt-ltb a (at + length (bytes ++ more)) (omega (arith, length-append bytes more)), get_or_append_left bytes more 0 (a - at) (omega arith)) refl
            | inr behind ↦
                elim (cases_lt a (at + length bytes + length more)) [
                  | inl here ↦
                      let offset : a - (at + length bytes) ≡ a - at - length bytes = omega arith in
                      rw (le-leb at a low, le-leb (at + length bytes) a behind, lt-ltb a (at + length bytes + length more) here, lt-ltb a (at + length (bytes ++ more)) (omega (arith, length-append bytes more)), offset)
                      (sym (ap (λ (n : ℕ). Some n) (get_or-append_right bytes more (length bytes) (a - at) 0 refl (omega arith))))
                  | inr beyond ↦
                      rw (le-leb at a low, le-ltb a (at + length bytes) behind, le-leb (at + length bytes) a behind, le-ltb a (at + length bytes + length more) beyond, le-ltb a (at + length (bytes ++ more)) (omega (arith, length-append bytes more))) refl
                ]
          ]
    ])

-- as many bytes in two pieces
pub bytes_from-append : (m : Mapping) (at count more : ℕ) → bytes_from m at (count + more) ≡ bytes_from m at count ++ bytes_from m (at + count) more
bytes_from-append m at count zero = ap (bytes_from m at) (add-zero count) ∙ sym (append-nil (bytes_from m at count))
bytes_from-append m at count (suc more) =
    let place : count + suc more ≡ count + more + 1 = omega arith in
    let here : at + count + more ≡ at + (count + more) = omega arith in
    let next : suc more ≡ more + 1 = omega arith in
    ap (bytes_from m at) place ∙ bytes_from-more m at (count + more) ∙ ap (λ (xs : List ℕ). xs ++ unwrap_or (m (at + (count + more))) 0 ∷ []) (bytes_from-append m at count more)
    ∙ append_assoc (bytes_from m at count) (bytes_from m (at + count) more) (unwrap_or (m (at + (count + more))) 0 ∷ [])
    ∙ ap (λ (xs : List ℕ). bytes_from m at count ++ xs) (ap (λ (a : ℕ). bytes_from m (at + count) more ++ unwrap_or (m a) 0 ∷ []) (sym here) ∙ sym (bytes_from-more m (at + count) more) ∙ ap (bytes_from m (at + count)) (sym next))

-- each is mapped in two pieces
pub each-more : (m : Mapping) (at count more : ℕ) → ((k : ℕ) → k < count → is_some (m (at + k)) ≡ true) → ((k : ℕ) → k < more → is_some (m (at + count + k)) ≡ true) → (k : ℕ) → k < count + more → is_some (m (at + k)) ≡ true
each-more m at count more first second k lt =
    elim (cases_lt k count) [
      | inl before ↦ first k before
      | inr behind ↦ let place : at + count + (k - count) ≡ at + k = omega arith in subst (λ (a : ℕ). is_some (m a) ≡ true) place (second (k - count) (omega arith))
    ]

-- a byte that is mapped is no missing one
pub is_mapped-none : (m : Mapping) (at count k : ℕ) → is_mapped m at count ≡ true → k < count → m (at + k) ≡ None → ⊥
is_mapped-none m at count k all lt none = true≢false (sym (is_mapped-at m at count all k lt) ∙ ap is_some none)
