-- What the rows of loads and stores come to.
use Rattle.std.proofs.Common.{◌≡◌, ℕ, ◌*◌, ◌^◌, Bool, true, false, cond, [], refl, sym, ap, subst, ◌∙◌, ◌⊎◌, inl, inr}
use Rattle.std.proofs.Math.Path.{fun_ext}
use Rattle.std.specs.Prelude.{◌==◌, if◌then◌else◌, nat_le}
use Rattle.a64_inst.specs.declared.inst.Inst.TheVariants.{Scaled, UnscaledPostPre, Register, Pair}
use Rattle.a64_inst.specs.declared.operations.Width.TheVariants.{W, X}
use Rattle.a64_inst.specs.declared.operations.Sum.TheVariants.{Add}
use Rattle.a64_inst.specs.declared.operations.Unary.TheVariants.{Extend}
use Rattle.a64_inst.specs.Numbers.{sign_extended, sum_value, operand_value}
use Rattle.a64_inst.specs.Domain.{next, ended, stuck, then_do, exec}
use Rattle.a64_inst.specs.Meaning.{ops, pair_size}
use Rattle.num_run.specs.declared.report.RunEnd.{RunEnd}
use Rattle.num_run.specs.declared.report.RunEnd.TheVariants.{Running, Exit, Trap}
use Rattle.num_run.specs.Machine.{Machine, register, with_register}
use Rattle.num_run.specs.Numeric.{Outcome, numeric, stored, loaded}
use Rattle.num_run.specs.Access.{accessed, advanced, moved, behind, low_bytes, pair_address, pair_loaded, pair_stored, pair_accessed}
use Rattle.num_run.specs.Runner.{Comes}

-- on with a number
abbrev pub going_on : ℕ → Outcome ℕ
going_on n = next n

-- an operand, whether it is a copy or not
pub next_either : (b : Bool) (x y : ℕ) → cond b (going_on x) (going_on y) ≡ going_on (cond b x y)
next_either true x y = refl
next_either false x y = refl

-- one after the other, either way
pub then_both : {A B C : Type 0} (o : Outcome A) (f : A → Outcome B) (g : B → Outcome C) → then_do (then_do o f) g ≡ then_do o (λ a. then_do (f a) g)
then_both (next a) f g = refl
then_both (ended event m) f g = refl
then_both (stuck cause) f g = absurd cause

-- the same by another name
pub comes_as : (p o : Outcome Machine) (end : RunEnd) (m : Machine) → p ≡ o → Comes o end m → Comes p end m
comes_as p o end m same comes = subst (λ (x : Outcome Machine). Comes x end m) (sym same) comes

-- on from what went on
pub goes_to : (o : Outcome Machine) (end : RunEnd) (m : Machine) (go : Machine → Outcome Machine) → Comes o end m → end ≡ Running → then_do o go ≡ go m
goes_to o Running m go comes is = rw comes refl
goes_to o (Exit status) m go comes is = absurd cc
goes_to o (Trap why) m go comes is = absurd cc

-- an end stays one
pub ends_at : (o : Outcome Machine) (end : RunEnd) (m : Machine) (go : Machine → Outcome Machine) → Comes o end m → (end ≡ Running → ⊥) → Comes (then_do o go) end m
ends_at o Running m go comes ends = absurd (ends refl)
ends_at o (Exit status) m go comes ends = rw comes refl
ends_at o (Trap why) m go comes ends = rw comes refl

-- where the accesses end the run, the base does not move
pub still_ends : (o : Outcome Machine) (rn base : ℕ) (end : RunEnd) (m : Machine) → Comes (then_do o advanced) end m → (end ≡ Running → ⊥) → Comes (then_do o (moved rn base)) end m
still_ends (next s) rn base Running m comes ends = absurd (ends refl)
still_ends (next s) rn base (Exit status) m comes ends = absurd cc
still_ends (next s) rn base (Trap why) m comes ends = absurd cc
still_ends (ended event s) rn base Running m comes ends = absurd (ends refl)
still_ends (ended event s) rn base (Exit status) m comes ends = comes
still_ends (ended event s) rn base (Trap why) m comes ends = comes
still_ends (stuck cause) rn base end m comes ends = absurd cause

is_or_not : (b : Bool) → (b ≡ true) ⊎ (b ≡ false)
is_or_not true = inl refl
is_or_not false = inr refl

-- the address with an offset in a register
abbrev pub register_sum : (rm option amount rn : ℕ) → Machine → ℕ
register_sum rm option amount rn m = sum_value Add 64 (register true rn m) (operand_value (Extend option amount) 64 (register false rm m))

-- a loaded register, and then the rest
abbrev loads : (size opc rt at : ℕ) → Machine → (Machine → Outcome Machine) → Outcome Machine
loads size opc rt at m go = then_do (loaded (2 ^ size) (nat_le 2 opc) (if opc == 3 then W else X) at m) (λ n. go (with_register false rt n m))

loads_is : (size opc rt at : ℕ) (m : Machine) (go : Machine → Outcome Machine)
    → loads size opc rt at m go ≡ then_do (then_do (loaded (2 ^ size) (nat_le 2 opc) (if opc == 3 then W else X) at m) (λ n. next (with_register false rt n m))) go
loads_is size opc rt at m go = sym (then_both (loaded (2 ^ size) (nat_le 2 opc) (if opc == 3 then W else X) at m) (λ n. next (with_register false rt n m)) go)

pub register_is : (size opc rm option s rn rt : ℕ) (m : Machine) → exec numeric (ops (Register size opc rm option s rn rt)) [] m ≡ then_do (accessed size opc rt (register_sum rm option (s * size) rn m) m) advanced
register_is size opc rm option s rn rt m =
    elim (is_or_not (opc == 0)) [
      | inl store ↦ rw store (simp next_either)
      | inr load ↦ rw load (simp next_either (loads_is size opc rt (register_sum rm option (s * size) rn m) m advanced))
    ]

-- the sum that is in the base afterwards
abbrev pub moved_base : (imm9 rn : ℕ) → Machine → ℕ
moved_base imm9 rn m = sum_value Add 64 (register true rn m) (sign_extended 9 64 imm9)

pub unscaled_is : (size opc imm9 idx rn rt : ℕ) (m : Machine) → (idx == 0) ≡ true → exec numeric (ops (UnscaledPostPre size opc imm9 idx rn rt)) [] m ≡ then_do (accessed size opc rt (moved_base imm9 rn m) m) advanced
unscaled_is size opc imm9 idx rn rt m plain =
    rw plain (elim (is_or_not (opc == 0)) [
      | inl store ↦ rw store (simp next_either)
      | inr load ↦ rw load (loads_is size opc rt (moved_base imm9 rn m) m advanced)
    ])

pub post_is : (size opc imm9 idx rn rt : ℕ) (m : Machine) → (idx == 0) ≡ false → (idx == 1) ≡ true
    → exec numeric (ops (UnscaledPostPre size opc imm9 idx rn rt)) [] m ≡ then_do (accessed size opc rt (register true rn m) m) (moved rn (moved_base imm9 rn m))
post_is size opc imm9 idx rn rt m indexed post =
    rw (indexed, post) (elim (is_or_not (opc == 0)) [
      | inl store ↦ rw store (simp next_either)
      | inr load ↦ rw load (loads_is size opc rt (register true rn m) m (moved rn (moved_base imm9 rn m)))
    ])

pub pre_is : (size opc imm9 idx rn rt : ℕ) (m : Machine) → (idx == 0) ≡ false → (idx == 1) ≡ false
    → exec numeric (ops (UnscaledPostPre size opc imm9 idx rn rt)) [] m ≡ then_do (accessed size opc rt (moved_base imm9 rn m) m) (moved rn (moved_base imm9 rn m))
pre_is size opc imm9 idx rn rt m indexed pre =
    rw (indexed, pre) (elim (is_or_not (opc == 0)) [
      | inl store ↦ rw store (simp next_either)
      | inr load ↦ rw load (loads_is size opc rt (moved_base imm9 rn m) m (moved rn (moved_base imm9 rn m)))
    ])

-- the address with an offset in units of a size
abbrev pub scaled_sum : (size imm12 rn : ℕ) → Machine → ℕ
scaled_sum size imm12 rn m = sum_value Add 64 (register true rn m) (imm12 * 2 ^ size)

pub scaled_is : (size opc imm12 rn rt : ℕ) (m : Machine) → exec numeric (ops (Scaled size opc imm12 rn rt)) [] m ≡ then_do (accessed size opc rt (scaled_sum size imm12 rn m) m) advanced
scaled_is size opc imm12 rn rt m =
    elim (is_or_not (opc == 0)) [
      | inl store ↦ rw store (simp next_either)
      | inr load ↦ rw load (loads_is size opc rt (scaled_sum size imm12 rn m) m advanced)
    ]

-- a loaded pair, and then the rest
abbrev pair_loads : (count : ℕ) (signed : Bool) (rt rt2 at : ℕ) → Machine → (Machine → Outcome Machine) → Outcome Machine
pair_loads count signed rt rt2 at m go =
    then_do (loaded count signed X at m) (λ a. then_do (loaded count signed X (behind at count) m) (λ b. go (with_register false rt2 b (with_register false rt a m))))

pair_loads_is : (count : ℕ) (signed : Bool) (rt rt2 at : ℕ) (m : Machine) (go : Machine → Outcome Machine) → pair_loads count signed rt rt2 at m go ≡ then_do (pair_loaded count signed rt rt2 at m) go
pair_loads_is count signed rt rt2 at m go =
    let first = loaded count signed X at m in
    let second = loaded count signed X (behind at count) m in
    ap (λ (f : ℕ → Outcome Machine). then_do first f) (fun_ext (λ a. sym (then_both second (λ b. next (with_register false rt2 b (with_register false rt a m))) go)))
    ∙ sym (then_both first (λ a. then_do second (λ b. next (with_register false rt2 b (with_register false rt a m)))) go)

pair_stores_is : (size rt rt2 at : ℕ) (m : Machine) (go : Machine → Outcome Machine)
    → then_do (stored (2 ^ size) (low_bytes size rt m) at m) (λ t. then_do (stored (2 ^ size) (low_bytes size rt2 m) (behind at (2 ^ size)) t) go) ≡ then_do (pair_stored size rt rt2 at m) go
pair_stores_is size rt rt2 at m go = sym (then_both (stored (2 ^ size) (low_bytes size rt m) at m) (stored (2 ^ size) (low_bytes size rt2 m) (behind at (2 ^ size))) go)

pub pair_post_is : (opc idx l imm7 rt2 rn rt : ℕ) (m : Machine) → (idx == 2) ≡ false → (idx == 1) ≡ true
    → exec numeric (ops (Pair opc idx l imm7 rt2 rn rt)) [] m ≡ then_do (pair_accessed opc l rt rt2 (register true rn m) m) (moved rn (pair_address opc imm7 rn m))
pair_post_is opc idx l imm7 rt2 rn rt m indexed post =
    rw (indexed, post) (elim (is_or_not (l == 1)) [
      | inl load ↦ rw load (pair_loads_is (2 ^ pair_size opc) (opc == 1) rt rt2 (register true rn m) m (moved rn (pair_address opc imm7 rn m)))
      | inr store ↦ rw store (simp next_either (pair_stores_is (pair_size opc) rt rt2 (register true rn m) m (moved rn (pair_address opc imm7 rn m))))
    ])

pub pair_plain_is : (opc idx l imm7 rt2 rn rt : ℕ) (m : Machine) → (idx == 2) ≡ true
    → exec numeric (ops (Pair opc idx l imm7 rt2 rn rt)) [] m ≡ then_do (pair_accessed opc l rt rt2 (pair_address opc imm7 rn m) m) advanced
pair_plain_is opc idx l imm7 rt2 rn rt m plain =
    rw plain (elim (is_or_not (l == 1)) [
      | inl load ↦ rw load (pair_loads_is (2 ^ pair_size opc) (opc == 1) rt rt2 (pair_address opc imm7 rn m) m advanced)
      | inr store ↦ rw store (simp next_either (pair_stores_is (pair_size opc) rt rt2 (pair_address opc imm7 rn m) m advanced))
    ])

pub pair_pre_is : (opc idx l imm7 rt2 rn rt : ℕ) (m : Machine) → (idx == 2) ≡ false → (idx == 1) ≡ false
    → exec numeric (ops (Pair opc idx l imm7 rt2 rn rt)) [] m ≡ then_do (pair_accessed opc l rt rt2 (pair_address opc imm7 rn m) m) (moved rn (pair_address opc imm7 rn m))
pair_pre_is opc idx l imm7 rt2 rn rt m indexed pre =
    rw (indexed, pre) (elim (is_or_not (l == 1)) [
      | inl load ↦ rw load (pair_loads_is (2 ^ pair_size opc) (opc == 1) rt rt2 (pair_address opc imm7 rn m) m (moved rn (pair_address opc imm7 rn m)))
      | inr store ↦ rw store (simp next_either (pair_stores_is (pair_size opc) rt rt2 (pair_address opc imm7 rn m) m (moved rn (pair_address opc imm7 rn m))))
    ])
