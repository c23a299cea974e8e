-- The image of a program under a layout, and why there is none (the rules are ours).
use Rattle.std.specs.Prelude.{ℕ, zero, suc, ◌+◌, ◌-◌, ◌*◌, ◌/◌, ◌%◌, ◌^◌, ℤ, pos, ◌-ℤ◌, Bool, false, ◌==◌, nat_lt, not, if◌then◌else◌, List, [], ◌∷◌, ◌++◌, length, map, filter, find, take, drop, replicate, sum_by, Option, None, Some, Result, Ok, Err, unwrap_or}
use Rattle.std.specs.List.{flat_map, filter_map}
use Rattle.std.specs.Option.{option_map, option_map_or, option_and_then, option_or}
use Rattle.std.specs.Str.{bytes_eq}
use Rattle.a64_inst.specs.declared.filling.FitFault.{FitFault}
use Rattle.a64_inst.specs.declared.filling.FitFault.TheVariants as fits
use Rattle.a64_inst.specs.declared.kind.Kind.{Kind}
use Rattle.a64_inst.specs.Fitting.{fit}
use Rattle.a64_inst.specs.Kinds.{operand_kind}
use Rattle.bare_image.specs.declared.image.Image.{Image}
use Rattle.bare_image.specs.declared.image.Segment.{Segment}
use Rattle.sym_expr.specs.declared.link_fault.LinkFault.{LinkFault}
use Rattle.sym_expr.specs.declared.link_fault.LinkFault.TheVariants.{TooBig, Undefined, Range, Unaligned}
use Rattle.sym_expr.specs.declared.layout.Layout.{Layout}
use Rattle.sym_expr.specs.declared.point.Point.{Point}
use Rattle.sym_expr.specs.Differences.{diff_fit}
use Rattle.sym_expr.specs.Layouts.{address_of}
use Rattle.sym_expr.specs.Placing.{Placed, placed, new_size, stretch_size}
use Rattle.sym_expr.specs.Points.{code_at, ins}
use Rattle.sym_expr.specs.declared.program.Word.{Word}
use Rattle.sym_expr.specs.declared.program.Filling.{Filling}
use Rattle.sym_expr.specs.declared.program.CodeBlock.{CodeBlock}
use Rattle.sym_expr.specs.declared.program.Piece.{Piece}
use Rattle.sym_expr.specs.declared.program.Stretch.{Stretch}
use Rattle.sym_expr.specs.declared.program.Program.{Program}
use Rattle.sym_expr.specs.declared.program.Filling.TheVariants.{Pointer, Difference, Entry}
use Rattle.sym_expr.specs.declared.program.Piece.TheVariants.{Code as CodePiece, Data as DataPiece, Gap}
use Rattle.sym_expr.specs.declared.target.Target.{Target}
use Rattle.sym_expr.specs.declared.target.Target.TheVariants.{Number, Address, Code}
use Rattle.sym_expr.specs.declared.target.Target.TheVariants as targets

-- so many bytes of a number, the low one first
abbrev pub bytes_of : ℕ → ℕ → List ℕ
bytes_of zero n = []
bytes_of (suc count) n = n % 256 ∷ bytes_of count (n / 256)

-- the piece is the block of an identifier
abbrev pub is_block : List ℕ → Piece → Bool
is_block id (CodePiece b) = bytes_eq id b.id
is_block id (DataPiece b) = bytes_eq id b.id
is_block id (Gap bytes) = false

-- the addresses of the pieces of an interval, under a layout
abbrev pub addressed : Layout → Stretch → List Placed
addressed l s = map (λ (x : Placed). record x { at = address_of l s.id + x.at }) (placed s)

-- the address of a block's start
abbrev pub block_address : Layout → Program → List ℕ → Option ℕ
block_address l g id =
    option_map (λ (x : Placed). x.at) (find (λ (x : Placed). is_block id x.piece) (flat_map (addressed l) g.stretches))

-- how many words are inserted below an offset of a block
abbrev pub inserted_below : ℕ → CodeBlock → ℕ
inserted_below offset b = length (filter (λ (w : ℕ × Word). nat_lt w.0 offset) b.inserted)

-- how far a point is behind the start of its block
abbrev pub depth : Program → Point → ℕ
depth g p = p.offset + (4 * option_map_or (inserted_below p.offset) (code_at g p.block) 0 + 4 * p.j)

-- the address of a point
abbrev pub point_address : Layout → Program → Point → ℕ
point_address l g p = unwrap_or (block_address l g p.block) 0 + depth g p

-- what a target is as a number; a symbol that stands for nothing is none
abbrev pub target_value : Layout → Program → Target → ℕ
target_value l g (Number n) = n
target_value l g (Address block offset) = (unwrap_or (block_address l g block) 0 + offset) % 2 ^ 64
target_value l g (Code p) = point_address l g p
target_value l g (targets.Undefined symbol) = 0

-- a difference of two targets, as a whole number
abbrev pub distance : Layout → Program → Target → Target → ℤ
distance l g p q = pos (target_value l g p) -ℤ pos (target_value l g q)

-- the word at an address with the operand that its target gives it
abbrev pub fitted : Layout → Program → ℕ → ℕ → Target → Kind → Result ℕ FitFault
fitted l g at word target kind = fit kind at (target_value l g target) word

abbrev pub operand_of : Layout → Program → ℕ → ℕ → Target → Result ℕ FitFault
operand_of l g at word target = option_map_or (fitted l g at word target) (operand_kind word) (Ok word)

abbrev pub filled_word : Layout → Program → ℕ → Word → Result ℕ FitFault
filled_word l g at w = option_map_or (operand_of l g at w.word) w.target (Ok w.word)

-- how many bytes stand for an expression of data
abbrev pub filling_size : Filling → ℕ
filling_size (Pointer target) = 8
filling_size (Difference size p q) = size
filling_size (Entry size scale p q) = size

-- the number in these bytes
abbrev pub filling_value : Layout → Program → Filling → Result ℕ FitFault
filling_value l g (Pointer target) = Ok (target_value l g target)
filling_value l g (Difference size p q) = diff_fit size 1 (distance l g p q)
filling_value l g (Entry size scale p q) = diff_fit size scale (distance l g p q)

-- the number that there is, where one fits
abbrev pub fit_or : ℕ → Result ℕ FitFault → ℕ
fit_or other (Ok n) = n
fit_or other (Err fault) = other

-- the words of a code block with those that are inserted: before own word k stand those of its offset
abbrev pub words_from : CodeBlock → ℕ → List Word → List Word
words_from b offset [] = ins b offset
words_from b offset (w ∷ ws) = ins b offset ++ w ∷ words_from b (offset + 4) ws

abbrev pub all_words : CodeBlock → List Word
all_words b = words_from b 0 b.own

-- words with the place of each, from an address on
abbrev pub words_at : ℕ → List Word → List (ℕ × Word)
words_at at [] = []
words_at at (w ∷ ws) = (at, w) ∷ words_at (at + 4) ws

-- the bytes of a code block at an address
abbrev pub code_bytes : Layout → Program → ℕ → CodeBlock → List ℕ
code_bytes l g at b = flat_map (λ (w : ℕ × Word). bytes_of 4 (fit_or w.1.word (filled_word l g w.0 w.1))) (words_at at (all_words b))

-- bytes with others in their place from an offset on
abbrev pub overlaid : ℕ → List ℕ → List ℕ → List ℕ
overlaid offset new bytes = take offset bytes ++ new ++ drop (offset + length new) bytes

-- the bytes of a data block with its addresses and differences
abbrev pub with_fillings : Layout → Program → List (ℕ × Filling) → List ℕ → List ℕ
with_fillings l g [] bytes = bytes
with_fillings l g (f ∷ fs) bytes = overlaid f.0 (bytes_of (filling_size f.1) (fit_or 0 (filling_value l g f.1))) (with_fillings l g fs bytes)

-- the bytes of a piece at an address
abbrev pub piece_bytes : Layout → Program → ℕ → Piece → List ℕ
piece_bytes l g at (CodePiece b) = code_bytes l g at b
piece_bytes l g at (DataPiece b) = with_fillings l g b.fillings b.bytes
piece_bytes l g at (Gap bytes) = bytes

-- the bytes of an interval from an address on: pieces, and zeros before those that need a multiple
abbrev pub bytes_from : Layout → Program → ℕ → List Placed → List ℕ
bytes_from l g at [] = []
bytes_from l g at (x ∷ xs) =
    replicate (x.at - at) 0 ++ piece_bytes l g x.at x.piece ++ bytes_from l g (x.at + new_size x.piece) xs

abbrev pub stretch_bytes : Layout → Program → Stretch → List ℕ
stretch_bytes l g s = bytes_from l g (address_of l s.id) (addressed l s)

abbrev pub segment_of : Layout → Program → Stretch → Segment
segment_of l g s = record { at = address_of l s.id; bytes = stretch_bytes l g s }

abbrev pub is_some_bytes : Stretch → Bool
is_some_bytes s = not (stretch_size s == 0)

-- a segment among others by their addresses
abbrev pub put_by_address : Segment → List Segment → List Segment
put_by_address s [] = s ∷ []
put_by_address s (t ∷ ts) = if nat_lt t.at s.at then t ∷ put_by_address s ts else s ∷ t ∷ ts

abbrev pub by_address : List Segment → List Segment
by_address [] = []
by_address (s ∷ ss) = put_by_address s (by_address ss)

-- the image of a program under a layout
abbrev pub image : Program → Layout → Image
image g l = record {
  entry = point_address l g g.entry;
  stack_at = l.stack_at;
  stack_size = l.stack_size;
  segments = by_address (map (segment_of l g) (filter is_some_bytes g.stretches));
}

-- the first symbol that stands for nothing
abbrev pub undefined_in : Target → Option (List ℕ)
undefined_in (targets.Undefined symbol) = Some symbol
undefined_in _ = None

abbrev pub undefined_of : Filling → Option (List ℕ)
undefined_of (Pointer target) = undefined_in target
undefined_of (Difference size p q) = option_or (undefined_in p) (undefined_in q)
undefined_of (Entry size scale p q) = option_or (undefined_in p) (undefined_in q)

-- what doesn't fit, as the fault of an expression at an offset of an interval
abbrev pub misfit : List ℕ → ℕ → Result ℕ FitFault → Option LinkFault
misfit interval offset (Ok n) = None
misfit interval offset (Err (fits.Range value)) = Some (Range interval offset value)
misfit interval offset (Err (fits.Unaligned value)) = Some (Unaligned interval offset value)

-- a symbol that stands for nothing comes before a value that doesn't fit
abbrev pub fault_of : Option (List ℕ) → Option LinkFault → Option LinkFault
fault_of symbol other = option_or (option_map Undefined symbol) other

-- the faults of a piece at an offset of an interval, in order
abbrev pub word_fault : Layout → Program → Stretch → (ℕ × Word) → Option LinkFault
word_fault l g s w =
    fault_of (option_and_then undefined_in w.1.target) (misfit s.id w.0 (filled_word l g (address_of l s.id + w.0) w.1))

abbrev pub filling_fault : Layout → Program → Stretch → ℕ → (ℕ × Filling) → Option LinkFault
filling_fault l g s at f = fault_of (undefined_of f.1) (misfit s.id (at + f.0) (filling_value l g f.1))

abbrev pub piece_faults : Layout → Program → Stretch → ℕ → Piece → List LinkFault
piece_faults l g s at (CodePiece b) = filter_map (word_fault l g s) (words_at at (all_words b))
piece_faults l g s at (DataPiece b) = filter_map (filling_fault l g s at) b.fillings
piece_faults l g s at (Gap bytes) = []

abbrev pub stretch_faults : Layout → Program → Stretch → List LinkFault
stretch_faults l g s = flat_map (λ (x : Placed). piece_faults l g s x.at x.piece) (placed s)

-- intervals and stack have more bytes than an image may have
abbrev pub size_faults : Layout → Program → List LinkFault
size_faults l g =
    let sum = sum_by stretch_size g.stretches + l.stack_size in
    if nat_lt (2 ^ 24) sum then TooBig sum ∷ [] else []

-- all that is wrong, in order
abbrev pub link_faults : Program → Layout → List LinkFault
link_faults g l = size_faults l g ++ flat_map (stretch_faults l g) g.stretches

-- the first of several
abbrev pub first_fault : List LinkFault → Option LinkFault
first_fault [] = None
first_fault (fault ∷ rest) = Some fault

abbrev pub link_fault : Program → Layout → Option LinkFault
link_fault g l = first_fault (link_faults g l)
