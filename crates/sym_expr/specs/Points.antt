-- The points of a program: the word at a point, the point after it, and where a point without a word goes on.
use Rattle.std.specs.Prelude.{ℕ, zero, suc, ◌+◌, ◌*◌, ◌/◌, ◌%◌, Bool, false, ◌==◌, ◌&&◌, nat_lt, nat_le, if◌then◌else◌, List, [], ◌∷◌, length, find, Option, None, Some, slice_get, is_some}
use Rattle.std.specs.List.{flat_map, filter_map, list_any}
use Rattle.std.specs.Option.{option_map, option_map_or, option_and_then, option_or}
use Rattle.std.specs.Str.{bytes_eq}
use Rattle.sym_expr.specs.declared.point.Point.{Point}
use Rattle.sym_expr.specs.Patches.{inserted_at}
use Rattle.sym_expr.specs.declared.program.Word.{Word}
use Rattle.sym_expr.specs.declared.program.CodeBlock.{CodeBlock}
use Rattle.sym_expr.specs.declared.program.DataBlock.{DataBlock}
use Rattle.sym_expr.specs.declared.program.Piece.{Piece}
use Rattle.sym_expr.specs.declared.program.Stretch.{Stretch}
use Rattle.sym_expr.specs.declared.program.Program.{Program}
use Rattle.sym_expr.specs.declared.program.Piece.TheVariants.{Code as CodePiece, Data as DataPiece, Gap}
use Rattle.sym_expr.specs.Tables.{effective}
use Rattle.sym_expr.specs.Targets.{point, start_of}

abbrev pub code_of : Piece → Option CodeBlock
code_of (CodePiece b) = Some b
code_of _ = None

abbrev pub data_of : Piece → Option DataBlock
data_of (DataPiece b) = Some b
data_of _ = None

abbrev pub pieces_of : Program → List Piece
pieces_of g = flat_map (λ (s : Stretch). s.pieces) g.stretches

-- the code blocks in order, and the data blocks, which are the objects beside the stack
abbrev pub code_blocks : Program → List CodeBlock
code_blocks g = filter_map code_of (pieces_of g)

abbrev pub data_blocks : Program → List DataBlock
data_blocks g = filter_map data_of (pieces_of g)

abbrev pub code_at : Program → List ℕ → Option CodeBlock
code_at g id = find (λ (b : CodeBlock). bytes_eq b.id id) (code_blocks g)

abbrev pub data_at : Program → List ℕ → Option DataBlock
data_at g id = find (λ (b : DataBlock). bytes_eq b.id id) (data_blocks g)

-- the sizes, in bytes, before anything is inserted
abbrev pub code_size : CodeBlock → ℕ
code_size b = 4 * length b.own

abbrev pub data_size : DataBlock → ℕ
data_size b = length b.bytes

-- the effective alignment of an object
abbrev pub object_alignment : DataBlock → ℕ
object_alignment b = effective b.alignment (data_size b) b.offset

-- the words inserted at an offset of a block
abbrev pub ins : CodeBlock → ℕ → List Word
ins b offset = inserted_at offset b.inserted

-- a block's own word at an offset
abbrev pub own_at : CodeBlock → ℕ → Option Word
own_at b offset = if offset % 4 == 0 then slice_get b.own (offset / 4) else None

-- the word at a point of a block
abbrev pub word_in : CodeBlock → Point → Option Word
word_in b at = option_or (slice_get (ins b at.offset) at.j) (own_at b at.offset)

-- the word at a point, and what its operand names
abbrev pub word_at : Program → Point → Option Word
word_at g at = option_and_then (λ b. word_in b at) (code_at g at.block)

-- the point after the word at a point
abbrev pub after_in : CodeBlock → Point → Point
after_in b at = if nat_lt at.j (length (ins b at.offset)) then point at.block at.offset (suc at.j) else point at.block (at.offset + 4) 0

abbrev pub after : Program → Point → Point
after g at = option_map_or (λ b. after_in b at) (code_at g at.block) at

abbrev pub is_code_piece : List ℕ → Piece → Bool
is_code_piece id (CodePiece b) = bytes_eq b.id id
is_code_piece id _ = false

-- the pieces behind a code block
abbrev pub behind : List ℕ → List Piece → List Piece
behind id [] = []
behind id (first ∷ rest) = if is_code_piece id first then rest else behind id rest

-- the first block that isn't an empty data block, if it is a code block
abbrev pub first_code : List Piece → Option CodeBlock
first_code [] = None
first_code (CodePiece b ∷ rest) = Some b
first_code (DataPiece b ∷ rest) = if data_size b == 0 then first_code rest else None
first_code (Gap bytes ∷ rest) = first_code rest

-- the interval of a code block
abbrev pub stretch_of : Program → List ℕ → Option Stretch
stretch_of g id = find (λ (s : Stretch). list_any (is_code_piece id) s.pieces) g.stretches

-- the code block that begins where a block ends, past empty data blocks
abbrev pub follower : Program → CodeBlock → Option CodeBlock
follower g b =
    option_and_then (λ (c : CodeBlock). if c.offset == b.offset + code_size b then Some c else None)
    (option_and_then (λ (s : Stretch). first_code (behind b.id s.pieces)) (stretch_of g b.id))

-- all words of the block stand before the point
abbrev pub is_passed : CodeBlock → Point → Bool
is_passed b at = (at.offset == code_size b) && nat_le (length (ins b at.offset)) at.j

-- where a point at the end of a block goes on, if it does
abbrev pub goes_on : Program → Point → Option Point
goes_on g at =
    option_and_then (λ b. if is_passed b at then option_map (λ (c : CodeBlock). start_of c.id) (follower g b) else None) (code_at g at.block)

-- the point that is reached by going on, so many times at most, until there is a word
abbrev pub reached_within : ℕ → Program → Point → Point
reached_within zero g at = at
reached_within (suc n) g at = if is_some (word_at g at) then at else option_map_or (reached_within n g) (goes_on g at) at

-- the point that has the word to be performed at a point, or the last one reached where there is none
abbrev pub reached : Program → Point → Point
reached g at = reached_within (length (code_blocks g)) g at
