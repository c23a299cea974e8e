-- What is kept of the blocks of a program.
use Rattle.std.specs.Prelude.{◌≡◌, ◌<◌, ◌+◌, ◌^◌, ℕ, true, nat_lt, List, length, filter, find, slice_get, Some, None, IsSome, unwrap_or}
use Rattle.std.specs.List.{AllByRecursion}
use Rattle.std.specs.List.Sorted.{IsNonDecreasingBy}
use Rattle.std.specs.Option.{option_map_or}
use Rattle.std.specs.Str.{bytes_eq}
use Rattle.indexmap.specs.IndexMap.{get}
use Rattle.sym_expr.specs.declared.point.Point.{Point}
use Rattle.sym_expr.specs.declared.program.CodeBlock.{CodeBlock}
use Rattle.sym_expr.specs.declared.program.DataBlock.{DataBlock}
use Rattle.sym_expr.specs.declared.program.Piece.{Piece}
use Rattle.sym_expr.specs.declared.program.Piece.TheVariants.{Code as CodePiece, Data as DataPiece, Gap}
use Rattle.sym_expr.specs.declared.program.Program.{Program}
use Rattle.sym_expr.specs.declared.program.Stretch.{Stretch}
use Rattle.sym_expr.specs.declared.program.Word.{Word}
use Rattle.sym_expr.specs.Patches.{inserted_at}
use Rattle.sym_expr.specs.Placing.{Placed, placed, new_size}
use Rattle.sym_expr.specs.Points.{code_at, data_at, is_code_piece, is_passed, reached, stretch_of}
use Rattle.sym_expr.specs.WellMade.{well_made}
use Rattle.indexed_program.specs.declared.spot.CodeSpot.{CodeSpot}
use Rattle.indexed_program.specs.declared.spot.Indexes.{Indexes}
use Rattle.indexed_program.specs.declared.spot.Spot.{Spot}
use Rattle.indexed_program.specs.Spots.{piece_at}

-- words in the order of their offsets, those of one offset as they stand among others
pub record IsByOffset (words from : List (ℕ × Word)) : Type 0 where
  pub rises : IsNonDecreasingBy (λ (w : ℕ × Word). w.0) words
  pub same : (offset : ℕ) → inserted_at offset words ≡ inserted_at offset from
  pub below : (offset : ℕ) → length (filter (λ (w : ℕ × Word). nat_lt w.0 offset) words) ≡ length (filter (λ (w : ℕ × Word). nat_lt w.0 offset) from)

-- the new offset of a code block in its interval
abbrev pub offset_of : Stretch → List ℕ → ℕ
offset_of s id = option_map_or (λ (x : Placed). x.at) (find (λ (x : Placed). is_code_piece id x.piece) (placed s)) 0

-- what is kept of a code block is so
pub record IsCodeSpot (g : Program) (id : List ℕ) (block : CodeBlock) (x : CodeSpot) : Type 0 where
  pub stretch : Stretch
  pub found : code_at g id ≡ Some block
  pub interval : stretch_of g id ≡ Some stretch
  pub at_stretch : slice_get g.stretches x.spot.stretch ≡ Some stretch
  pub at_piece : slice_get stretch.pieces x.spot.piece ≡ Some (CodePiece block)
  pub offset : x.at ≡ offset_of stretch id
  pub size : x.at + new_size (CodePiece block) < 2 ^ 62
  pub inserted : IsByOffset x.inserted block.inserted
  pub onward : (at : Point) → at.block ≡ id → is_passed block at ≡ true → reached g at ≡ unwrap_or x.onward at

-- there is no code block of an identifier
pub record IsNoCode (g : Program) (id : List ℕ) : Type 0 where
  pub code : code_at g id ≡ None
  pub stretch : stretch_of g id ≡ None

-- what is kept of a data block is so
pub record IsDataSpot (g : Program) (id : List ℕ) (x : Spot) : Type 0 where
  pub block : DataBlock
  pub found : data_at g id ≡ Some block
  pub at_piece : piece_at g x ≡ Some (DataPiece block)

-- each block that is kept is the program's
pub record IsRight (g : Program) (k : Indexes) : Type 0 where
  pub codes : (id : List ℕ) (x : CodeSpot) → get bytes_eq k.code id ≡ Some x → (block : CodeBlock) × IsCodeSpot g id block x
  pub datas : (id : List ℕ) (x : Spot) → get bytes_eq k.data id ≡ Some x → IsDataSpot g id x

-- a piece is kept, if it is a block
abbrev pub IsKept : Indexes → Piece → Type 0
IsKept k (CodePiece b) = IsSome (get bytes_eq k.code b.id)
IsKept k (DataPiece b) = IsSome (get bytes_eq k.data b.id)
IsKept k (Gap bytes) = Unit {0}

-- all blocks are kept
abbrev pub KeepsAll : Indexes → List Stretch → Type 0
KeepsAll k ss = AllByRecursion (λ (s : Stretch). AllByRecursion (IsKept k) s.pieces) ss

-- the program is well made, and its blocks are kept
pub record IsIndexed (g : Program) (k : Indexes) : Type 0 where
  pub well : well_made g
  pub right : IsRight g k
  pub all : KeepsAll k g.stretches
