-- What a linker knows of its program and its layout.
use Rattle.std.specs.Prelude.{◌≡◌, ℕ, ◌+◌, List, Option, Some, None, find, map}
use Rattle.std.specs.List.{flat_map}
use Rattle.std.specs.List.Sorted.{IsNonDecreasing}
use Rattle.std.specs.Str.{bytes_eq}
use Rattle.bare_image.specs.declared.image.Segment.{Segment}
use Rattle.bare_image.specs.Valid.{AreBytes}
use Rattle.indexmap.specs.IndexMap.{get}
use Rattle.sym_expr.specs.declared.layout.Layout.{Layout}
use Rattle.sym_expr.specs.declared.program.Piece.{Piece}
use Rattle.sym_expr.specs.declared.program.Piece.TheVariants.{Code as CodePiece, Data as DataPiece, Gap}
use Rattle.sym_expr.specs.declared.program.Program.{Program}
use Rattle.sym_expr.specs.Images.{addressed, inserted_below, is_block}
use Rattle.sym_expr.specs.Layouts.{accepted, place_in}
use Rattle.sym_expr.specs.Placing.{Placed, shape_of}
use Rattle.sym_expr.specs.WellMade.{well_made, IsCode, IsData}
use Rattle.link_image.specs.declared.blocks.BlockAt.{BlockAt}
use Rattle.link_image.specs.declared.linker.Linker.{Linker}
use Rattle.link_image.specs.Counts.{count_below}

-- the offsets of the words that are inserted in code, in order
abbrev pub HasInserted : Piece → List ℕ → Type 0
HasInserted (CodePiece b) offsets = IsNonDecreasing offsets × ((bound : ℕ) → count_below bound offsets ≡ inserted_below bound b)
HasInserted _ offsets = Unit {0}

-- what is kept of a block at an address
pub record Describes (x : Placed) (b : BlockAt) : Type 0 where
  pub at : b.at ≡ x.at
  pub inserted : HasInserted x.piece b.inserted

-- something is kept exactly of a block that is there
abbrev pub Keeps : Option Placed → Option BlockAt → Type 0
Keeps None None = Unit {0}
Keeps None (Some b) = ⊥
Keeps (Some x) None = ⊥
Keeps (Some x) (Some b) = Describes x b

-- the same of each identifier
abbrev pub KeepsAll : List Placed → (List ℕ → Option BlockAt) → Type 0
KeepsAll xs kept = (id : List ℕ) → Keeps (find (λ (x : Placed). is_block id x.piece) xs) (kept id)

-- pieces of an interval at their addresses, where it lies at a start
abbrev pub shifted : ℕ → List Placed → List Placed
shifted start xs = map (λ (x : Placed). record x { at = start + x.at }) xs

-- all pieces at their addresses
abbrev pub all_addressed : Layout → Program → List Placed
all_addressed l g = flat_map (addressed l) g.stretches

-- the program can be linked, and the indexes have its intervals and, first of each identifier, its blocks
pub record IsReady (k : Linker) : Type 0 where
  pub well : well_made k.program.now
  pub accepted : accepted k.layout.now (shape_of k.program.now)
  pub places : (id : List ℕ) → get bytes_eq k.places id ≡ place_in k.layout.now.places id
  pub blocks : KeepsAll (all_addressed k.layout.now k.program.now) (get bytes_eq k.blocks)

-- a piece of the program is as it should be
abbrev pub IsGood : Program → Piece → Type 0
IsGood g (CodePiece b) = IsCode g b
IsGood g (DataPiece b) = IsData g b
IsGood g (Gap bytes) = Unit {0}

-- what a segment holds are bytes
abbrev pub HasBytes : Segment → Type 0
HasBytes s = AreBytes s.bytes
