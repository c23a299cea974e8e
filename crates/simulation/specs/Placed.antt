-- What a placement of a program and the memory before the first instruction must have for both machines to agree.
use Rattle.std.specs.Prelude.{◌≡◌, ◌⊎◌, ◌<◌, ◌≤◌, ℕ, ◌+◌, ◌%◌, ◌^◌, false, List, [], replicate, Some}
use Rattle.num_run.specs.Machine.{Machine}
use Rattle.paged_memory.specs.Mapping.{Mapping}
use Rattle.sym_expr.specs.declared.point.Point.{Point}
use Rattle.sym_expr.specs.declared.program.DataBlock.{DataBlock}
use Rattle.sym_expr.specs.declared.program.Program.{Program}
use Rattle.sym_expr.specs.declared.program.Word.{Word}
use Rattle.sym_expr.specs.declared.value.Object.{Object}
use Rattle.sym_expr.specs.Points.{word_at, after, goes_on, data_at, object_alignment}
use Rattle.sym_expr.specs.States.{object_cells}
use Rattle.sym_expr.specs.Values.{same_object}
use Rattle.sym_expr.specs.WellMade.{IsPoint}
use Rattle.simulation.specs.Placement.{Placement, object_address, point_address}
use Rattle.simulation.specs.Meant.{IsObject}
use Rattle.simulation.specs.Held.{HasCells, HasCode, size_of}

-- so many bytes from one address on and so many from another share none
abbrev pub AreApart : (a count b other : ℕ) → Type 0
AreApart a count b other = (a + count ≤ b) ⊎ (b + other ≤ a)

-- an object lies from 4096 to 2 ^ 47, end included
pub record IsInside (pl : Placement) (g : Program) (o : Object) : Type 0 where
  pub low : 4096 ≤ object_address pl o
  pub high : object_address pl o + size_of pl g o ≤ 2 ^ 47

-- a point has an address that a word can have
pub record IsAddress (at : ℕ) : Type 0 where
  pub aligned : at % 4 ≡ 0
  pub low : 4096 ≤ at
  pub high : at < 2 ^ 48

-- a point that another goes on to, at the same address
pub record IsReached (pl : Placement) (g : Program) (p q : Point) : Type 0 where
  pub is_point : IsPoint g q
  pub same : point_address pl g q ≡ point_address pl g p

pub record IsPlaced (pl : Placement) (g : Program) (memory : Mapping) : Type 0 where
  pub entry : IsPoint g g.entry
  pub inside : (o : Object) → IsObject g o → IsInside pl g o
  pub apart : (o p : Object) → IsObject g o → IsObject g p → same_object o p ≡ false → 0 < size_of pl g o → 0 < size_of pl g p
      → AreApart (object_address pl o) (size_of pl g o) (object_address pl p) (size_of pl g p)
  pub beside_code : (o : Object) (p : Point) (w : Word) → IsObject g o → 0 < size_of pl g o → IsPoint g p → word_at g p ≡ Some w
      → AreApart (object_address pl o) (size_of pl g o) (point_address pl g p) 4
  pub aligned : (id : List ℕ) (d : DataBlock) → data_at g id ≡ Some d → pl.block id % object_alignment d ≡ 0
  pub points : (p : Point) → IsPoint g p → IsAddress (point_address pl g p)
  pub after : (p : Point) (w : Word) → IsPoint g p → word_at g p ≡ Some w → point_address pl g (after g p) ≡ point_address pl g p + 4
  pub goes_on : (p q : Point) → IsPoint g p → goes_on g p ≡ Some q → IsReached pl g p q
  pub code : HasCode pl g memory
  pub cells : HasCells pl g memory (object_cells g pl.stack_size)

-- the numeric machine before the first instruction of a placed program
abbrev pub start : Placement → Program → Mapping → List ℕ → Machine
start pl g memory input = record {
  registers = replicate 31 0;
  stack_pointer = pl.stack_at + pl.stack_size;
  flags = record { n = false; z = false; c = false; v = false };
  memory = memory;
  place = point_address pl g g.entry;
  input = input;
  output = [];
}
