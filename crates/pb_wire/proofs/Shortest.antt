-- The shortest varint of a value, and how a loop writes it.
use Rattle.std.proofs.Common.{◌≡◌, ℕ, zero, suc, ◌+◌, ◌-◌, ◌*◌, ◌/◌, ◌%◌, ◌^◌, ◌<◌, ◌≤◌, List, [], ◌∷◌, ◌++◌, length, set, take, refl, sym, ap, subst, ◌∙◌, append_assoc, add-one, arith, inl, inr}
use Rattle.std.proofs.lemmas.Bool.{lt-ltb, le-ltb, cases_lt}
use Rattle.std.proofs.lemmas.List.{take_more_set}
use Rattle.std.proofs.lemmas.Nat.{mul-le}
use Rattle.std.proofs.Math.Nat.{pow-suc}
use Rattle.pb_wire.specs.Varint.{groups, IsVarint, shortest_within, shortest}
use Rattle.pb_wire.proofs.Varints.{VarintIn, of_ten, in_ten, Continues-cons}

-- ---- its equations

within_small : (more value : ℕ) → value < 128 → shortest_within more value ≡ value ∷ []
unfolding shortest_within
within_small zero value small = refl
within_small (suc more) value small = rw (lt-ltb value 128 small) refl

within_large : (more value : ℕ) → 128 ≤ value → shortest_within (suc more) value ≡ (128 + value % 128) ∷ shortest_within more (value / 128)
unfolding shortest_within
within_large more value large = rw (le-ltb value 128 large) refl

-- ---- what a loop keeps: the bytes written, and those of the rest
pub record Writes (buffer : List ℕ) (len rest value : ℕ) : Type 0 where
  pub early : len ≤ 9
  pub bound : rest * 128 ^ len ≤ value
  pub written : take len buffer ++ shortest_within (9 - len) rest ≡ shortest value

pub begins : (buffer : List ℕ) (value : ℕ) → Writes buffer 0 value value
unfolding shortest
begins buffer value = record { early = omega arith; bound = omega arith; written = refl }

room : (len rest value : ℕ) → value < 2 ^ 64 → len ≤ 9 → rest * 128 ^ len ≤ value → 128 ≤ rest → len < 9
room len rest value fits early bound large =
    elim (cases_lt len 9) [
      | inl lt ↦ lt
      | inr ge ↦
          let nine : len ≡ 9 = omega arith in
          let whole : rest * 128 ^ 9 ≤ value = subst (λ (k : ℕ). rest * 128 ^ k ≤ value) nine bound in
          absurd (omega (arith, whole))
    ]

pub goes_on : (buffer : List ℕ) (len rest value : ℕ) → value < 2 ^ 64 → length buffer ≡ 10 → Writes buffer len rest value → 128 ≤ rest → Writes (set buffer len (128 + rest % 128)) (len + 1) (rest / 128) value
goes_on buffer len rest value fits long h large =
    let lt = room len rest value fits h.early h.bound large in
    let b = 128 + rest % 128 in
    let more : 9 - len ≡ suc (9 - (len + 1)) = omega arith in
    let taken : take (len + 1) (set buffer len b) ≡ take len buffer ++ b ∷ [] = take_more_set buffer len b (omega (arith, long)) in
    let others = shortest_within (9 - (len + 1)) (rest / 128) in
    let parts : take len buffer ++ (b ∷ others) ≡ shortest value = ap (λ (l : List ℕ). take len buffer ++ l) (sym (rw more (within_large (9 - (len + 1)) rest large))) ∙ h.written in
    let power : 128 ^ (len + 1) ≡ 128 ^ len * 128 = rw add-one (pow-suc 128 len) in
    let product : rest / 128 * 128 * 128 ^ len ≤ rest * 128 ^ len = mul-le (rest / 128 * 128) (128 ^ len) rest (128 ^ len) (omega arith) (omega arith) in
    record {
      early = omega arith;
      bound = rw power (omega (arith, product, h.bound));
      written = ap (λ (l : List ℕ). l ++ others) taken ∙ append_assoc (take len buffer) (b ∷ []) others ∙ parts;
    }

pub ends : (buffer : List ℕ) (len rest value : ℕ) → length buffer ≡ 10 → Writes buffer len rest value → rest < 128 → take (len + 1) (set buffer len rest) ≡ shortest value
ends buffer len rest value long h small =
    take_more_set buffer len rest (omega (arith, long, h.early)) ∙ ap (λ (l : List ℕ). take len buffer ++ l) (sym (within_small (9 - len) rest small)) ∙ h.written

-- ---- it is a varint, and no other of the value is as short

within_is : (more value : ℕ) → value < 2 * 128 ^ more → VarintIn more (shortest_within more value) value
unfolding shortest_within
within_is zero value fits = record { continues = omega (arith, fits); short = omega arith; last = omega (arith, fits); value_is = omega (arith, fits) }
within_is (suc more) value fits =
    elim (cases_lt value 128) [
      | inl small ↦ rw (lt-ltb value 128 small) (record { continues = small; short = omega arith; last = omega arith; value_is = omega arith })
      | inr large ↦
          let power : 128 ^ suc more ≡ 128 ^ more * 128 = pow-suc 128 more in
          let inner = within_is more (value / 128) (omega (arith, fits, power)) in
          rw (le-ltb value 128 large) (record {
            continues = Continues-cons (128 + value % 128) (shortest_within more (value / 128)) (omega arith) (omega arith) inner.continues;
            short = omega (arith, inner.short);
            last = inner.last;
            value_is = omega (arith, inner.value_is);
          })
    ]

pub shortest_is : (value : ℕ) → value < 2 ^ 64 → IsVarint (shortest value) value
unfolding shortest
shortest_is value fits = of_ten (shortest_within 9 value) value (within_is 9 value (omega arith))

within_least : (more : ℕ) (bytes : List ℕ) (value : ℕ) → VarintIn more bytes value → length bytes ≤ length (shortest_within more value) → bytes ≡ shortest_within more value
unfolding shortest_within
within_least more [] value v short = absurd v.continues
within_least zero (b ∷ []) value v short =
    let e : b ≡ value = omega (arith, v.value_is, v.last) in
    ap (λ (x : ℕ). x ∷ []) e
within_least zero (b ∷ c ∷ bs) value v short = absurd (omega (arith, v.short))
within_least (suc more) (b ∷ []) value v short =
    let low : b < 128 = v.continues in
    let e : b ≡ value = omega (arith, v.value_is) in
    ap (λ (x : ℕ). x ∷ []) e ∙ sym (within_small (suc more) value (omega arith))
within_least (suc more) (b ∷ c ∷ bs) value v short =
    elim (cases_lt value 128) [
      | inl small ↦ absurd (omega (arith, short, ap length (within_small (suc more) value small)))
      | inr large ↦
          let high : 128 ≤ b = v.continues.0 in
          let below : b < 256 = v.continues.1 in
          let quotient : value / 128 ≡ groups (c ∷ bs) = omega (arith, v.value_is) in
          let first : b ≡ 128 + value % 128 = omega (arith, v.value_is) in
          let inner : VarintIn more (c ∷ bs) (value / 128) = record { continues = v.continues.2; short = omega (arith, v.short); last = v.last; value_is = quotient } in
          let others = within_least more (c ∷ bs) (value / 128) inner (omega (arith, short, ap length (within_large more value large))) in
          ap (λ (x : ℕ). x ∷ c ∷ bs) first ∙ ap (λ (l : List ℕ). (128 + value % 128) ∷ l) others ∙ sym (within_large more value large)
    ]

pub shortest_is_least : (bytes : List ℕ) (value : ℕ) → IsVarint bytes value → length bytes ≤ length (shortest value) → bytes ≡ shortest value
unfolding shortest
shortest_is_least bytes value v short = within_least 9 bytes value (in_ten bytes value v) short
