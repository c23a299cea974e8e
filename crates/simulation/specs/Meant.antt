-- Which values a symbolic machine can hold, and which numbers and bytes a numeric machine then holds.
use Rattle.std.specs.Prelude.{◌≡◌, ◌<◌, ℕ, ◌*◌, ◌/◌, ◌%◌, ◌^◌, pos, ◌-ℤ◌, IsSome}
use Rattle.std.specs.Int.{int_div_euclid}
use Rattle.a64_inst.specs.Numbers.{sign_extended}
use Rattle.sym_expr.specs.declared.point.Point.{Point}
use Rattle.sym_expr.specs.declared.program.Program.{Program}
use Rattle.sym_expr.specs.declared.target.Target.{Target}
use Rattle.sym_expr.specs.declared.target.Target.TheVariants.{Number, Address, Code, Undefined}
use Rattle.sym_expr.specs.declared.value.Object.{Object}
use Rattle.sym_expr.specs.declared.value.Object.TheVariants.{Block, Stack}
use Rattle.sym_expr.specs.declared.value.Value.{Value}
use Rattle.sym_expr.specs.declared.value.Value.TheVariants.{Num, Addr, At, PageOf, Diff, Step}
use Rattle.sym_expr.specs.Points.{data_at}
use Rattle.sym_expr.specs.States.{less}
use Rattle.sym_expr.specs.Symbolic.{dist, wrapped}
use Rattle.sym_expr.specs.Values.{Cell, Byte, Part, Quarter, EntryPart, Blank}
use Rattle.sym_expr.specs.WellMade.{IsPoint}
use Rattle.simulation.specs.Placement.{Placement, point_address, target_number, value_number}

-- an object of the program: one of its data blocks, or the stack
abbrev pub IsObject : Program → Object → Type 0
IsObject g (Block id) = IsSome (data_at g id)
IsObject g Stack = Unit {0}

-- a target that is defined and there
abbrev pub IsTarget : Program → Target → Type 0
IsTarget g (Number n) = n < 2 ^ 64
IsTarget g (Address block offset) = IsSome (data_at g block) × (offset < 2 ^ 64)
IsTarget g (Code p) = IsPoint g p
IsTarget g (Undefined symbol) = ⊥

-- two points lie as far from each other as in their interval
abbrev pub AreSpaced : Placement → Program → Point → Point → Type 0
AreSpaced pl g p q = pos (point_address pl g p) -ℤ pos (point_address pl g q) ≡ dist g p q

-- a value that a machine of the program can hold
abbrev pub IsValue : Placement → Program → Value → Type 0
IsValue pl g (Num n) = n < 2 ^ 64
IsValue pl g (Addr o offset) = IsObject g o × (offset < 2 ^ 64)
IsValue pl g (At p) = IsPoint g p
IsValue pl g (PageOf t) = IsTarget g t
IsValue pl g (Diff p q) = IsTarget g p × IsTarget g q
IsValue pl g (Step p q n) = IsPoint g p × IsPoint g q × AreSpaced pl g p q × (n < 2 ^ 64)

-- such a value, and the number that it is
pub record Means (pl : Placement) (g : Program) (v : Value) (n : ℕ) : Type 0 where
  pub valid : IsValue pl g v
  pub number : n ≡ value_number pl g v

-- the k-th byte of a number, the low one being the first
abbrev pub byte_of : ℕ → ℕ → ℕ
byte_of k n = n / 256 ^ k % 256

-- four bytes hold the difference of two targets with its sign
abbrev pub IsNear : Placement → Program → Target → Target → Type 0
IsNear pl g p q = sign_extended 32 64 (less (target_number pl g p) (target_number pl g q)) ≡ less (target_number pl g p) (target_number pl g q)

-- the number in an entry of so many bytes and this scale
abbrev pub entry_number : Program → ℕ → ℕ → Point → Point → ℕ
entry_number g size scale p q = wrapped (8 * size) (int_div_euclid (dist g p q) (pos scale))

-- the byte that stands for a cell; an unknown one may be any
abbrev pub IsCell : Placement → Program → Cell → ℕ → Type 0
IsCell pl g (Byte b) byte = (byte ≡ b) × (b < 256)
IsCell pl g (Part k v) byte = IsValue pl g v × (byte ≡ byte_of k (value_number pl g v))
IsCell pl g (Quarter k p q) byte =
    IsTarget g p × IsTarget g q × IsNear pl g p q × (byte ≡ byte_of k (less (target_number pl g p) (target_number pl g q)))
IsCell pl g (EntryPart k size scale p q) byte =
    IsPoint g p × IsPoint g q × AreSpaced pl g p q × (byte ≡ byte_of k (entry_number g size scale p q))
IsCell pl g Blank byte = Unit {0}
