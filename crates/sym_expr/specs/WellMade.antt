-- Programs that can be laid out and linked: what the program of every module that passed its checks keeps.
use Rattle.std.specs.Prelude.{◌≡◌, ◌≢◌, ◌<◌, ◌≤◌, ℕ, ◌+◌, ◌%◌, ◌^◌, pos, List, [], ◌∷◌, length, sum_by, AllPairs, IfSome, IsSome, Some}
use Rattle.std.specs.List.{AllByRecursion, flat_map}
use Rattle.a64_inst.specs.Kinds.{operand_kind}
use Rattle.gt_model.specs.Typed.{IsId}
use Rattle.sym_expr.specs.declared.point.Point.{Point}
use Rattle.sym_expr.specs.declared.program.CodeBlock.{CodeBlock}
use Rattle.sym_expr.specs.declared.program.DataBlock.{DataBlock}
use Rattle.sym_expr.specs.declared.program.Filling.{Filling}
use Rattle.sym_expr.specs.declared.program.Filling.TheVariants.{Pointer, Difference, Entry}
use Rattle.sym_expr.specs.declared.program.Piece.{Piece}
use Rattle.sym_expr.specs.declared.program.Piece.TheVariants.{Code as CodePiece, Data as DataPiece, Gap}
use Rattle.sym_expr.specs.declared.program.Program.{Program}
use Rattle.sym_expr.specs.declared.program.Stretch.{Stretch}
use Rattle.sym_expr.specs.declared.program.Word.{Word}
use Rattle.sym_expr.specs.declared.target.Target.{Target}
use Rattle.sym_expr.specs.declared.target.Target.TheVariants.{Number, Address, Code, Undefined}
use Rattle.sym_expr.specs.Differences.{form_of}
use Rattle.sym_expr.specs.Images.{filling_size}
use Rattle.sym_expr.specs.Placing.{stretch_size}
use Rattle.sym_expr.specs.Points.{code_blocks, data_blocks, code_at, data_at, code_size, data_size, ins}
use Rattle.sym_expr.specs.Targets.{start_of}

-- the pieces have an interval's bytes one behind the other from an offset on, code at multiples of 4
abbrev pub IsTiled : ℕ → List Piece → Type 0
IsTiled at [] = Unit {0}
IsTiled at (CodePiece b ∷ ps) = (b.offset ≡ at) × (at % 4 ≡ 0) × IsTiled (at + code_size b) ps
IsTiled at (DataPiece b ∷ ps) = (b.offset ≡ at) × IsTiled (at + data_size b) ps
IsTiled at (Gap bytes ∷ ps) = IsTiled (at + length bytes) ps

-- a point of a code block: before one of its words or behind the last, inserted words counted
pub record IsPoint (g : Program) (p : Point) : Type 0 where
  pub block : CodeBlock
  pub found : code_at g p.block ≡ Some block
  pub whole : p.offset % 4 ≡ 0
  pub inside : p.offset ≤ code_size block
  pub passed : p.j ≤ length (ins block p.offset)

-- what a target names is there
abbrev pub IsThere : Program → Target → Type 0
IsThere g (Number n) = Unit {0}
IsThere g (Address block at) = IsSome (data_at g block)
IsThere g (Code p) = IsPoint g p
IsThere g (Undefined symbol) = Unit {0}

-- a word with a target has an operand, and the target is there
abbrev pub IsWord : Program → Word → Type 0
IsWord g w = IfSome w.target (λ t. IsSome (operand_kind w.word) × IsThere g t)

-- an inserted word stands at a multiple of 4, up to the end of the block
abbrev pub IsInserted : Program → CodeBlock → (ℕ × Word) → Type 0
IsInserted g b w = (w.0 % 4 ≡ 0) × (w.0 ≤ code_size b) × IsWord g w.1

pub record IsCode (g : Program) (b : CodeBlock) : Type 0 where
  pub id : IsId b.id
  pub own : AllByRecursion (IsWord g) b.own
  pub inserted : AllByRecursion (IsInserted g b) b.inserted

-- a filling has a form, and its targets are there
abbrev pub IsFilling : Program → Filling → Type 0
IsFilling g (Pointer target) = IsThere g target
IsFilling g (Difference size p q) = IsSome (form_of size (pos 1)) × IsThere g p × IsThere g q
IsFilling g (Entry size scale p q) = IsSome (form_of size (pos scale)) × IsThere g p × IsThere g q

-- a filling lies inside its block
abbrev pub IsInside : Program → DataBlock → (ℕ × Filling) → Type 0
IsInside g b f = (f.0 + filling_size f.1 ≤ data_size b) × IsFilling g f.1

pub record IsData (g : Program) (b : DataBlock) : Type 0 where
  pub id : IsId b.id
  pub fillings : AllByRecursion (IsInside g b) b.fillings

-- the identifiers of the blocks, code and data
abbrev pub block_id : Piece → List (List ℕ)
block_id (CodePiece b) = b.id ∷ []
block_id (DataPiece b) = b.id ∷ []
block_id (Gap bytes) = []

abbrev pub block_ids : Program → List (List ℕ)
block_ids g = flat_map (λ (s : Stretch). flat_map block_id s.pieces) g.stretches

pub record well_made (g : Program) : Type 0 where
  pub count : length g.stretches < 2 ^ 40
  pub ids : AllByRecursion (λ (s : Stretch). IsId s.id) g.stretches
  pub distinct : AllPairs (λ (s later : Stretch). s.id ≢ later.id) g.stretches
  pub apart : AllPairs (λ (a later : List ℕ). a ≢ later) (block_ids g)
  pub sizes : sum_by stretch_size g.stretches < 2 ^ 62
  pub tiled : AllByRecursion (λ (s : Stretch). IsTiled 0 s.pieces) g.stretches
  pub codes : AllByRecursion (IsCode g) (code_blocks g)
  pub datas : AllByRecursion (IsData g) (data_blocks g)
  pub entry : (block : List ℕ) × (g.entry ≡ start_of block) × IsPoint g g.entry
