-- Programs whose numbers are values of their types, and whose entries name points of one interval.
use Rattle.std.specs.Prelude.{◌≡◌, ◌<◌, ℕ, ◌^◌, IfSome}
use Rattle.std.specs.List.{AllByRecursion}
use Rattle.bare_image.specs.Valid.{AreBytes}
use Rattle.sym_expr.specs.declared.program.CodeBlock.{CodeBlock}
use Rattle.sym_expr.specs.declared.program.DataBlock.{DataBlock}
use Rattle.sym_expr.specs.declared.program.Filling.{Filling}
use Rattle.sym_expr.specs.declared.program.Filling.TheVariants.{Pointer, Difference, Entry}
use Rattle.sym_expr.specs.declared.program.Program.{Program}
use Rattle.sym_expr.specs.declared.program.Word.{Word}
use Rattle.sym_expr.specs.declared.target.Target.{Target}
use Rattle.sym_expr.specs.declared.target.Target.TheVariants.{Number, Address, Code, Undefined}
use Rattle.sym_expr.specs.Points.{code_blocks, data_blocks, stretch_of}

-- a target whose number, or offset, is below 2 ^ 64
abbrev pub IsTypedTarget : Target → Type 0
IsTypedTarget (Number n) = n < 2 ^ 64
IsTypedTarget (Address block offset) = offset < 2 ^ 64
IsTypedTarget (Code p) = Unit {0}
IsTypedTarget (Undefined symbol) = Unit {0}

-- a word of 32 bits with such a target
abbrev pub IsTypedWord : Word → Type 0
IsTypedWord w = (w.word < 2 ^ 32) × IfSome w.target IsTypedTarget

-- a filling of such targets
abbrev pub IsTypedFilling : Filling → Type 0
IsTypedFilling (Pointer target) = IsTypedTarget target
IsTypedFilling (Difference size p q) = IsTypedTarget p × IsTypedTarget q
IsTypedFilling (Entry size scale p q) = IsTypedTarget p × IsTypedTarget q

-- a code block of such words
pub record IsTypedCode (b : CodeBlock) : Type 0 where
  pub own : AllByRecursion IsTypedWord b.own
  pub inserted : AllByRecursion (λ (w : ℕ × Word). IsTypedWord w.1) b.inserted

-- a data block of bytes and such fillings
pub record IsTypedData (b : DataBlock) : Type 0 where
  pub bytes : AreBytes b.bytes
  pub fillings : AllByRecursion (λ (f : ℕ × Filling). IsTypedFilling f.1) b.fillings

-- a program of such blocks
pub record IsTyped (g : Program) : Type 0 where
  pub codes : AllByRecursion IsTypedCode (code_blocks g)
  pub datas : AllByRecursion IsTypedData (data_blocks g)

-- an entry names points of code in one interval, where it names points
abbrev pub IsNearEntry : Program → Filling → Type 0
IsNearEntry g (Entry size scale (Code p) (Code q)) = stretch_of g p.block ≡ stretch_of g q.block
IsNearEntry g f = Unit {0}

-- so does each entry of a program
abbrev pub HasNearEntries : Program → Type 0
HasNearEntries g = AllByRecursion (λ (b : DataBlock). AllByRecursion (λ (f : ℕ × Filling). IsNearEntry g f.1) b.fillings) (data_blocks g)
