-- The varint at the front of bytes, as the function and the relation have it.
use Rattle.std.proofs.Common.{◌≡◌, ℕ, zero, suc, ◌+◌, ◌*◌, ◌%◌, ◌^◌, ◌<◌, ◌≤◌, Bool, true, false, cond, ltb, List, [], ◌∷◌, ◌++◌, length, get_or, take, Result, Ok, Err, refl, sym, ap, subst, ◌∙◌, arith, inl, inr}
use Rattle.std.specs.Prelude.{◌⊎◌, IfOk, IfErr}
use Rattle.std.specs.List.{AllByRecursion}
use Rattle.std.proofs.lemmas.List.{take_at}
use Rattle.std.proofs.Math.Nat.{pow-suc, one-le-pow}
use Rattle.std.proofs.lemmas.Bool.{ltb-true, ltb-false, lt-ltb, le-ltb}
use Rattle.pb_wire.specs.declared.fault.WireReason.{WireReason}
use Rattle.pb_wire.specs.declared.fault.WireReason.TheVariants.{Varint, Truncated, WireType, FieldZero}
use Rattle.pb_wire.specs.Varint.{groups, Continues, IsVarint, GoOn}
use Rattle.pb_wire.specs.Faults.{VarintFails}
use Rattle.pb_wire.specs.Reading.{above, varint_within, varint_of}

-- the value of an answer, and the reason
pub ok_is : {A : Type 0} (x y : A) → ◌≡◌ {A = Result A WireReason} (Ok x) (Ok y) → x ≡ y
ok_is x y e = cc

pub err_is : {A : Type 0} (x y : WireReason) → ◌≡◌ {A = Result A WireReason} (Err x) (Err y) → x ≡ y
err_is x y e = cc

pub not_both : {A : Type 0} (x : A) (y : WireReason) → ◌≡◌ {A = Result A WireReason} (Ok x) (Err y) → ⊥
not_both x y e = cc

-- which way a choice went
pub chosen : {A : Type 0} (b : Bool) (x y z : A) → cond b x y ≡ z → ((b ≡ true) × (x ≡ z)) ⊎ ((b ≡ false) × (y ≡ z))
chosen true x y z e = inl (refl, e)
chosen false x y z e = inr (refl, e)

-- a varint of at most so many bytes before the last
pub record VarintIn (more : ℕ) (bytes : List ℕ) (value : ℕ) : Type 0 where
  pub continues : Continues bytes
  pub short : length bytes ≤ suc more
  pub last : get_or bytes more 0 ≤ 1
  pub value_is : value ≡ groups bytes

abbrev pub FailsIn : ℕ → List ℕ → WireReason → Type 0
FailsIn more bytes Varint = (suc more ≤ length bytes) × GoOn (take more bytes) × (1 < get_or bytes more 0)
FailsIn more bytes Truncated = (length bytes ≤ more) × GoOn bytes
FailsIn more bytes WireType = ⊥
FailsIn more bytes FieldZero = ⊥

above_ok : (b : ℕ) (r : Result (ℕ × ℕ) WireReason) (found : ℕ × ℕ) → above b r ≡ Ok found → (x : ℕ × ℕ) × (r ≡ Ok x) × (found ≡ (b % 128 + 128 * x.0, suc x.1))
above_ok b (Ok x) found e = (x, refl, sym (ok_is _ _ e))
above_ok b (Err reason) found e = absurd cc

above_err : (b : ℕ) (r : Result (ℕ × ℕ) WireReason) (reason : WireReason) → above b r ≡ Err reason → r ≡ Err reason
above_err b (Ok x) reason e = absurd cc
above_err b (Err other) reason e = ap Err (err_is _ _ e)

-- a varint at the front is found
pub within_again : (more : ℕ) (front rest : List ℕ) (value : ℕ) → VarintIn more front value → varint_within more (front ++ rest) ≡ Ok (value, length front)
unfolding varint_within
within_again more [] rest value v = absurd v.continues
within_again zero (b ∷ []) rest value v =
    let small : b ≤ 1 = v.last in
    let e : value ≡ b = omega (arith, v.value_is) in
    rw (le-ltb 1 b small, e) refl
within_again zero (b ∷ c ∷ bs) rest value v = absurd (omega (arith, v.short))
within_again (suc more) (b ∷ []) rest value v =
    let low : b < 128 = v.continues in
    let e : value ≡ b = omega (arith, v.value_is) in
    rw (lt-ltb b 128 low, e) refl
within_again (suc more) (b ∷ c ∷ bs) rest value v =
    let inner : VarintIn more (c ∷ bs) (groups (c ∷ bs)) = record { continues = v.continues.2; short = omega (arith, v.short); last = v.last; value_is = refl } in
    rw (le-ltb b 128 v.continues.0, within_again more (c ∷ bs) rest (groups (c ∷ bs)) inner, v.value_is) refl

-- where no varint begins the bytes, none is found
pub within_fails : (more : ℕ) (bytes : List ℕ) (reason : WireReason) → FailsIn more bytes reason → varint_within more bytes ≡ Err reason
unfolding varint_within
within_fails zero [] Varint f = absurd (omega (arith, f.0))
within_fails (suc more) [] Varint f = absurd (omega (arith, f.0))
within_fails zero (b ∷ bs) Varint f = rw (lt-ltb 1 b f.2) refl
within_fails (suc more) (b ∷ bs) Varint f =
    rw (le-ltb b 128 f.1.0, within_fails more bs Varint (omega (arith, f.0), f.1.1, f.2)) refl
within_fails zero [] Truncated f = refl
within_fails (suc more) [] Truncated f = refl
within_fails zero (b ∷ bs) Truncated f = absurd (omega (arith, f.0))
within_fails (suc more) (b ∷ bs) Truncated f =
    rw (le-ltb b 128 f.1.0, within_fails more bs Truncated (omega (arith, f.0), f.1.1)) refl
within_fails more bytes WireType f = absurd f
within_fails more bytes FieldZero f = absurd f

-- what is found is a varint at the front
pub record Found (more : ℕ) (bytes : List ℕ) (value size : ℕ) : Type 0 where
  pub within : size ≤ length bytes
  pub varint : VarintIn more (take size bytes) value

pub Continues-cons : (b : ℕ) (bs : List ℕ) → 128 ≤ b → b < 256 → Continues bs → Continues (b ∷ bs)
Continues-cons b [] high low more = absurd more
Continues-cons b (c ∷ bs) high low more = (high, low, more)

pub within_found : (more : ℕ) (bytes : List ℕ) (found : ℕ × ℕ) → AllByRecursion (λ b. b < 256) bytes → varint_within more bytes ≡ Ok found → Found more bytes found.0 found.1
unfolding varint_within
within_found zero [] found fits e = absurd cc
within_found (suc more) [] found fits e = absurd cc
within_found zero (b ∷ bs) found fits e =
    elim (chosen (ltb 1 b) (Err Varint) (Ok (b, 1)) (Ok found) e) [
      | inl miss ↦ absurd (not_both _ _ (sym miss.1))
      | inr hit ↦
          let small : b ≤ 1 = ltb-false 1 b hit.0 in
          subst (λ (f : ℕ × ℕ). Found 0 (b ∷ bs) f.0 f.1) (ok_is _ _ hit.1) (record { within = omega arith; varint = record { continues = omega arith; short = omega arith; last = small; value_is = omega arith } })
    ]
within_found (suc more) (b ∷ bs) found fits e =
    elim (chosen (ltb b 128) (Ok (b, 1)) (above b (varint_within more bs)) (Ok found) e) [
      | inl hit ↦
          let low : b < 128 = ltb-true b 128 hit.0 in
          subst (λ (f : ℕ × ℕ). Found (suc more) (b ∷ bs) f.0 f.1) (ok_is _ _ hit.1) (record { within = omega arith; varint = record { continues = low; short = omega arith; last = omega arith; value_is = omega arith } })
      | inr miss ↦
          let high : 128 ≤ b = ltb-false b 128 miss.0 in
          let x = above_ok b (varint_within more bs) found miss.1 in
          let inner = within_found more bs x.0 fits.1 x.1 in
          subst (λ (f : ℕ × ℕ). Found (suc more) (b ∷ bs) f.0 f.1) (sym x.2) (record {
            within = omega (arith, inner.within);
            varint = record {
              continues = Continues-cons b (take x.0.1 bs) high fits.0 inner.varint.continues;
              short = omega (arith, inner.varint.short);
              last = inner.varint.last;
              value_is = ap (λ (v : ℕ). b % 128 + 128 * v) inner.varint.value_is;
            };
          })
    ]

-- where none is found, no varint begins the bytes
pub within_failed : (more : ℕ) (bytes : List ℕ) (reason : WireReason) → varint_within more bytes ≡ Err reason → FailsIn more bytes reason
unfolding varint_within
within_failed zero [] reason e = subst (λ (r : WireReason). FailsIn 0 [] r) (err_is {A = ℕ × ℕ} _ _ e) (omega arith, tt)
within_failed (suc more) [] reason e = subst (λ (r : WireReason). FailsIn (suc more) [] r) (err_is {A = ℕ × ℕ} _ _ e) (omega arith, tt)
within_failed zero (b ∷ bs) reason e =
    elim (chosen (ltb 1 b) (Err Varint) (Ok (b, 1)) (Err reason) e) [
      | inl hit ↦ subst (λ (r : WireReason). FailsIn 0 (b ∷ bs) r) (err_is {A = ℕ × ℕ} _ _ hit.1) (omega arith, tt, ltb-true 1 b hit.0)
      | inr miss ↦ absurd (not_both _ _ miss.1)
    ]
within_failed (suc more) (b ∷ bs) reason e =
    elim (chosen (ltb b 128) (Ok (b, 1)) (above b (varint_within more bs)) (Err reason) e) [
      | inl hit ↦ absurd (not_both _ _ hit.1)
      | inr miss ↦ fails_above more b bs reason (ltb-false b 128 miss.0) (within_failed more bs reason (above_err b (varint_within more bs) reason miss.1))
    ]
  where
    fails_above : (more b : ℕ) (bs : List ℕ) (reason : WireReason) → 128 ≤ b → FailsIn more bs reason → FailsIn (suc more) (b ∷ bs) reason
    fails_above more b bs Varint high f = (omega (arith, f.0), (high, f.1), f.2)
    fails_above more b bs Truncated high f = (omega (arith, f.0), (high, f.1))
    fails_above more b bs WireType high f = f
    fails_above more b bs FieldZero high f = f

pub in_ten : (bytes : List ℕ) (value : ℕ) → IsVarint bytes value → VarintIn 9 bytes value
in_ten bytes value v = record { continues = v.continues; short = v.short; last = v.tenth; value_is = v.value_is }

pub of_ten : (bytes : List ℕ) (value : ℕ) → VarintIn 9 bytes value → IsVarint bytes value
of_ten bytes value v = record { continues = v.continues; short = v.short; tenth = v.last; value_is = v.value_is }

fails_in_ten : (bytes : List ℕ) (reason : WireReason) → VarintFails bytes reason → FailsIn 9 bytes reason
fails_in_ten bytes Varint f = f
fails_in_ten bytes Truncated f = (omega (arith, f.0), f.1)
fails_in_ten bytes WireType f = f
fails_in_ten bytes FieldZero f = f

fails_of_ten : (bytes : List ℕ) (reason : WireReason) → FailsIn 9 bytes reason → VarintFails bytes reason
fails_of_ten bytes Varint f = f
fails_of_ten bytes Truncated f = (omega (arith, f.0), f.1)
fails_of_ten bytes WireType f = f
fails_of_ten bytes FieldZero f = f

-- a varint at the front is found, with its value and length
pub varint_again : (front rest : List ℕ) (value : ℕ) → IsVarint front value → varint_of (front ++ rest) ≡ Ok (value, length front)
varint_again front rest value v = within_again 9 front rest value (in_ten front value v)

pub varint_fails : (bytes : List ℕ) (reason : WireReason) → VarintFails bytes reason → varint_of bytes ≡ Err reason
varint_fails bytes reason f = within_fails 9 bytes reason (fails_in_ten bytes reason f)

pub varint_found : (bytes : List ℕ) (found : ℕ × ℕ) → AllByRecursion (λ b. b < 256) bytes → varint_of bytes ≡ Ok found → (found.1 ≤ length bytes) × IsVarint (take found.1 bytes) found.0
varint_found bytes found fits e =
    let f = within_found 9 bytes found fits e in
    (f.within, of_ten (take found.1 bytes) found.0 f.varint)

pub varint_failed : (bytes : List ℕ) (reason : WireReason) → varint_of bytes ≡ Err reason → VarintFails bytes reason
varint_failed bytes reason e = fails_of_ten bytes reason (within_failed 9 bytes reason e)

-- what the answer of a call says
pub varint_spelled : (bytes : List ℕ) (answer : Result (ℕ × ℕ) WireReason) → AllByRecursion (λ b. b < 256) bytes → answer ≡ varint_of bytes → IfOk answer (λ found. IsVarint (take found.1 bytes) found.0)
varint_spelled bytes (Ok found) fits e = (varint_found bytes found fits (sym e)).1
varint_spelled bytes (Err reason) fits e = tt

pub varint_missed : (bytes : List ℕ) (answer : Result (ℕ × ℕ) WireReason) → answer ≡ varint_of bytes → IfErr answer (VarintFails bytes)
varint_missed bytes (Ok found) e = tt
varint_missed bytes (Err reason) e = varint_failed bytes reason (sym e)

pub same_varint : (a b x y : List ℕ) (m n : ℕ) → IsVarint a m → IsVarint b n → a ++ x ≡ b ++ y → (a ≡ b) × (m ≡ n)
same_varint a b x y m n va vb e =
    let same : ◌≡◌ {A = Result (ℕ × ℕ) WireReason} (Ok (m, length a)) (Ok (n, length b)) = sym (varint_again a x m va) ∙ ap varint_of e ∙ varint_again b y n vb in
    let pair = ok_is (m, length a) (n, length b) same in
    let len : length a ≡ length b = ap (λ (p : ℕ × ℕ). p.1) pair in
    (sym (take_at a x (length a) refl) ∙ ap (λ (l : List ℕ). take (length a) l) e ∙ take_at b y (length a) (sym len), ap (λ (p : ℕ × ℕ). p.0) pair)

-- each group below the last adds seven bits
below_in : (more : ℕ) (bytes : List ℕ) → length bytes ≤ suc more → get_or bytes more 0 ≤ 1 → groups bytes < 2 * 128 ^ more
below_in zero [] short last = omega arith
below_in zero (b ∷ []) short last = omega (arith, last)
below_in zero (b ∷ c ∷ bs) short last = absurd (omega (arith, short))
below_in (suc more) [] short last = omega (arith, one-le-pow (suc more) 128 (omega arith))
below_in (suc more) (b ∷ bs) short last =
    let inner : groups bs < 2 * 128 ^ more = below_in more bs (omega (arith, short)) last in
    rw (pow-suc 128 more) (omega arith)

pub varint_below : (bytes : List ℕ) (value : ℕ) → IsVarint bytes value → value < 2 ^ 64
varint_below bytes value v = omega (arith, v.value_is, below_in 9 bytes v.short v.tenth)
