-- Instructions that the symbolic machine does as any machine of numbers does.
use Rattle.std.specs.Prelude.{◌≡◌, ◌≢◌, ℕ, ◌*◌, ◌^◌, min, Bool, true, false, ◌==◌, ◌&&◌, if◌then◌else◌, IsTrue, IsSome, List, [], ◌∷◌, length, unwrap_or}
use Rattle.std.specs.List.{AllByRecursion}
use Rattle.a64_inst.specs.declared.inst.Inst.{Inst}
use Rattle.a64_inst.specs.declared.inst.Inst.TheVariants as rows
use Rattle.a64_inst.specs.declared.operations.Unary.TheVariants.{Extend}
use Rattle.a64_inst.specs.Domain.{next, ended, stuck}
use Rattle.a64_inst.specs.Meaning.{pair_size}
use Rattle.a64_inst.specs.Numbers.{is_copy, low, sign_extended, unary_value}
use Rattle.sym_expr.specs.declared.point.Point.{Point}
use Rattle.sym_expr.specs.declared.program.Program.{Program}
use Rattle.sym_expr.specs.declared.value.KnownFlags.{KnownFlags}
use Rattle.sym_expr.specs.declared.value.Value.{Value}
use Rattle.sym_expr.specs.declared.value.Value.TheVariants.{Num, Addr, At}
use Rattle.sym_expr.specs.States.{State, cells_at, register}
use Rattle.sym_expr.specs.Symbolic.{Outcome, bytes_in, is_inside, is_known, sum_of}
use Rattle.sym_expr.specs.Values.{number_in}

-- ADR, ADRP, loads of literals and direct branches
abbrev pub forms_target : Inst → Bool
forms_target (rows.AdrAdrp op lo hi rd) = true
forms_target (rows.Literal opc imm19 rt) = true
forms_target (rows.BBl op imm26) = true
forms_target (rows.BCond imm19 cond) = true
forms_target (rows.CbzCbnz sf op imm19 rt) = true
forms_target (rows.TbzTbnz b5 op b40 imm14 rt) = true
forms_target other = false

abbrev pub IsNumber : Value → Type 0
IsNumber v = (n : ℕ) × (v ≡ Num n)

abbrev pub IsCodePoint : Value → Type 0
IsCodePoint v = (p : Point) × (v ≡ At p)

-- the four flags are known
abbrev pub all_known : KnownFlags → Bool
all_known f = is_known f.n && (is_known f.z && (is_known f.c && is_known f.v))

-- the registers that an instruction reads as numbers: of each whether 31 is the stack pointer, and its number. The base
-- of an access and the target of BR, BLR and RET are none of these.
abbrev pub numbers_of : Inst → List (Bool × ℕ)
numbers_of (rows.AddSubImm sf op s sh imm12 rn rd) = (true, rn) ∷ []
numbers_of (rows.AddSubShifted sf op s shift rm imm6 rn rd) = (false, rn) ∷ (false, rm) ∷ []
numbers_of (rows.AddSubExtended sf op s rm option imm3 rn rd) = (true, rn) ∷ (false, rm) ∷ []
numbers_of (rows.LogicalShifted sf opc shift n rm imm6 rn rd) = (false, rn) ∷ (false, rm) ∷ []
numbers_of (rows.LogicalImm sf opc n immr imms rn rd) = (false, rn) ∷ []
numbers_of (rows.MoveWide sf opc hw imm16 rd) = if opc == 3 then (false, rd) ∷ [] else []
numbers_of (rows.Bitfield sf opc n immr imms rn rd) = if opc == 1 then (false, rn) ∷ (false, rd) ∷ [] else (false, rn) ∷ []
numbers_of (rows.Extr sf n rm imms rn rd) = (false, rn) ∷ (false, rm) ∷ []
numbers_of (rows.TwoSources sf rm opcode rn rd) = (false, rn) ∷ (false, rm) ∷ []
numbers_of (rows.OneSource sf opcode rn rd) = (false, rn) ∷ []
numbers_of (rows.ThreeSources sf op rm o0 ra rn rd) = (false, rn) ∷ (false, rm) ∷ (false, ra) ∷ []
numbers_of (rows.WithCarry sf op s rm rn rd) = (false, rn) ∷ (false, rm) ∷ []
numbers_of (rows.CondCompare sf op rm cond i rn nzcv) = if i == 1 then (false, rn) ∷ [] else (false, rn) ∷ (false, rm) ∷ []
numbers_of (rows.CondSelect sf op rm cond o2 rn rd) = (false, rn) ∷ (false, rm) ∷ []
numbers_of (rows.SvcBrk which imm16) = if which == 0 then (false, 8) ∷ (false, 0) ∷ (false, 2) ∷ [] else []
numbers_of (rows.Scaled size opc imm12 rn rt) = if opc == 0 then (false, rt) ∷ [] else []
numbers_of (rows.UnscaledPostPre size opc imm9 idx rn rt) = if opc == 0 then (false, rt) ∷ [] else []
numbers_of (rows.Register size opc rm option s rn rt) = (false, rm) ∷ (if opc == 0 then (false, rt) ∷ [] else [])
numbers_of (rows.Pair opc idx l imm7 rt2 rn rt) = if l == 1 then [] else (false, rt) ∷ (false, rt2) ∷ []
numbers_of other = []

-- so many bytes from an address on lie in its object, and are known
abbrev pub Reaches : State → ℕ → Value → Type 0
Reaches s count (Addr o x) = IsTrue (is_inside s o x count) × IsSome (bytes_in (cells_at s o x count))
Reaches s count v = ⊥

-- it gives a value, of which this holds
abbrev pub Gives : Outcome Value → (Value → Type 0) → Type 0
Gives (next v) P = P v
Gives (ended event s) P = ⊥
Gives (stuck cause) P = ⊥

-- the number in a register
abbrev pub number_at : ℕ → State → ℕ
number_at r s = unwrap_or (number_in (register false r s)) 0

-- the offset that a register gives an access: extended, and as it is where that changes nothing
abbrev pub register_offset : ℕ → ℕ → ℕ → ℕ
register_offset option amount n = if is_copy (Extend option amount) then n else unary_value (Extend option amount) 64 n

-- the bytes of each access are reached
abbrev pub Accesses : Program → State → Inst → Type 0
Accesses g s (rows.Scaled size opc imm12 rn rt) = Gives (sum_of g (register true rn s) (Num (imm12 * 2 ^ size))) (Reaches s (2 ^ size))
Accesses g s (rows.UnscaledPostPre size opc imm9 idx rn rt) =
    Gives (sum_of g (register true rn s) (Num (sign_extended 9 64 imm9))) (λ moved. Reaches s (2 ^ size) (if idx == 1 then register true rn s else moved))
Accesses g s (rows.Register size opc rm option scaled rn rt) =
    Gives (sum_of g (register true rn s) (Num (register_offset option (scaled * size) (number_at rm s)))) (Reaches s (2 ^ size))
Accesses g s (rows.Pair opc idx l imm7 rt2 rn rt) =
    Gives (sum_of g (register true rn s) (Num (low 64 (sign_extended 7 64 imm7 * 2 ^ pair_size opc)))) (λ moved.
    let at = if idx == 1 then register true rn s else moved in
    Reaches s (2 ^ pair_size opc) at × Gives (sum_of g at (Num (2 ^ pair_size opc))) (Reaches s (2 ^ pair_size opc)))
Accesses g s other = Unit {0}

-- how many bytes a call of the system moves
abbrev pub moved_by_call : State → ℕ
moved_by_call s =
    if (number_at 8 s == 64) && (number_at 0 s == 1) then number_at 2 s
    else if (number_at 8 s == 63) && (number_at 0 s == 0) then min (number_at 2 s) (length s.input)
    else 0

-- what a jump or a call of the system needs
abbrev pub Leads : State → Inst → Type 0
Leads s (rows.BrBlrRet which rn) = IsCodePoint (register false rn s)
Leads s (rows.SvcBrk which imm16) = moved_by_call s ≢ 0 → Reaches s (moved_by_call s) (register false 1 s)
Leads s other = Unit {0}

-- all flags are known, what the instruction reads is numbers, what it accesses are known bytes, and what it jumps to or
-- what a call of the system moves is there
pub record IsPlain (g : Program) (s : State) (i : Inst) : Type 0 where
  pub flags : IsTrue (all_known s.flags)
  pub numbers : AllByRecursion (λ (r : Bool × ℕ). IsNumber (register r.0 r.1 s)) (numbers_of i)
  pub accesses : Accesses g s i
  pub leads : Leads s i
