-- What a symbolic machine holds in place of numbers (the rules are ours).
use Rattle.std.specs.Prelude.{ℕ, ◌*◌, ◌/◌, Bool, true, false, ◌==◌, ◌&&◌, List, Option, None, Some}
use Rattle.std.specs.Str.{bytes_eq}
use Rattle.sym_expr.specs.declared.point.Point.{Point}
use Rattle.sym_expr.specs.declared.target.Target.{Target}
use Rattle.sym_expr.specs.declared.target.Target.TheVariants.{Number, Address, Code}
use Rattle.sym_expr.specs.declared.target.Target.TheVariants as targets
use Rattle.sym_expr.specs.declared.value.Object.{Object}
use Rattle.sym_expr.specs.declared.value.Object.TheVariants.{Block, Stack}
use Rattle.sym_expr.specs.declared.value.Value.{Value}
use Rattle.sym_expr.specs.declared.value.Value.TheVariants.{Num, Addr, At, PageOf, Diff, Step}

-- a byte, the k-th of eight parts of a value that isn't a number, the k-th of four parts of a difference, the k-th
-- part of an entry of so many bytes and this scale, and what is unknown
pub data Cell : Type 0 where
  Byte : ℕ → Cell
  Part : ℕ → Value → Cell
  Quarter : ℕ → Target → Target → Cell
  EntryPart : ℕ → ℕ → ℕ → Point → Point → Cell
  Blank : Cell

abbrev pub same_object : Object → Object → Bool
same_object (Block a) (Block b) = bytes_eq a b
same_object Stack Stack = true
same_object _ _ = false

abbrev pub same_point : Point → Point → Bool
same_point p q = bytes_eq p.block q.block && ((p.offset == q.offset) && (p.j == q.j))

abbrev pub same_target : Target → Target → Bool
same_target (Number a) (Number b) = a == b
same_target (Address a x) (Address b y) = bytes_eq a b && (x == y)
same_target (Code p) (Code q) = same_point p q
same_target (targets.Undefined a) (targets.Undefined b) = bytes_eq a b
same_target _ _ = false

abbrev pub same_value : Value → Value → Bool
same_value (Num a) (Num b) = a == b
same_value (Addr a x) (Addr b y) = same_object a b && (x == y)
same_value (At p) (At q) = same_point p q
same_value (PageOf a) (PageOf b) = same_target a b
same_value (Diff a b) (Diff c d) = same_target a c && same_target b d
same_value (Step a b m) (Step c d n) = same_point a c && (same_point b d && (m == n))
same_value _ _ = false

-- the number that a value is, if it is one; a step is one
abbrev pub number_in : Value → Option ℕ
number_in (Num n) = Some n
number_in (Step p q n) = Some n
number_in _ = None

-- what a target is, where it is defined
abbrev pub value_of : Target → Option Value
value_of (Number n) = Some (Num n)
value_of (Address block offset) = Some (Addr (Block block) offset)
value_of (Code p) = Some (At p)
value_of (targets.Undefined symbol) = None

-- the page of a target, where it is defined
abbrev pub page_value : Target → Option Value
page_value (Number n) = Some (Num (n / 4096 * 4096))
page_value (targets.Undefined symbol) = None
page_value t = Some (PageOf t)
