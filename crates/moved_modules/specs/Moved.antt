-- What a rewriting moves, by the program of the module and its patches.
use Rattle.std.specs.Prelude.{ℕ, ◌+◌, Bool, false, ◌==◌, not, if◌then◌else◌, List, [], ◌∷◌, ◌++◌, length, map, filter, Option}
use Rattle.std.specs.List.{list_any, flat_map}
use Rattle.block_parts.specs.declared.parts.Part.{Part as CutPart}
use Rattle.block_parts.specs.declared.words.Origin.{Origin}
use Rattle.block_parts.specs.declared.words.Origin.TheVariants.{Own, Inserted}
use Rattle.block_parts.specs.declared.words.PatchedWord.{PatchedWord}
use Rattle.block_parts.specs.Parts.{parts}
use Rattle.block_parts.specs.Words.{patched_words}
use Rattle.gt_model.specs.declared.modules.Module.{Module}
use Rattle.moved_modules.specs.declared.moved.Moved.{Moved}
use Rattle.moved_modules.specs.declared.moved.MovedBlock.{MovedBlock}
use Rattle.moved_modules.specs.declared.moved.MovedInterval.{MovedInterval}
use Rattle.moved_modules.specs.declared.moved.NewFunction.{NewFunction}
use Rattle.moved_modules.specs.declared.moved.Part.{Part}
use Rattle.moved_modules.specs.declared.moved.Piece.{Piece}
use Rattle.moved_modules.specs.Targets.{targets_in, word_from}
use Rattle.rewrite.specs.Blocks.{part_size}
use Rattle.rewrite.specs.Identifiers.{new_symbol_id, part_id}
use Rattle.rewrite.specs.Offsets.{old_size}
use Rattle.rewrite.specs.Rooms.{old_length}
use Rattle.sym_expr.specs.declared.patches.Function.{Function}
use Rattle.sym_expr.specs.declared.patches.PatchTable.{PatchTable}
use Rattle.sym_expr.specs.declared.patches.PatchTarget.{PatchTarget}
use Rattle.sym_expr.specs.declared.program.CodeBlock.{CodeBlock}
use Rattle.sym_expr.specs.declared.program.Piece.{Piece as ProgramPiece}
use Rattle.sym_expr.specs.declared.program.Piece.TheVariants.{Code as CodePiece, Data as DataPiece, Gap}
use Rattle.sym_expr.specs.declared.program.Program.{Program}
use Rattle.sym_expr.specs.declared.program.Stretch.{Stretch}
use Rattle.sym_expr.specs.Derived.{derived, function_text}
use Rattle.sym_expr.specs.Patches.{function_blocks}
use Rattle.sym_expr.specs.Placing.{Placed, placed, stretch_size}
use Rattle.sym_expr.specs.Points.{code_blocks}
use Rattle.sym_expr.specs.Program.{program}
use Rattle.sym_expr.specs.TableOk.{block_ids}
use Rattle.sym_expr.specs.Tables.{Tables}

-- ---- blocks

-- a part of a block in which words with these targets are inserted
abbrev pub moved_part : Module → List (Option PatchTarget) → CodeBlock → CutPart → Part
moved_part m targets b q = record {
  uuid = part_id m b.id q;
  start = q.start;
  size = part_size q;
  words = map (λ (w : PatchedWord). word_from targets w.origin) q.words;
}

-- a block, by what the words name that are inserted in each
abbrev pub moved_block : Module → (List ℕ → List (Option PatchTarget)) → CodeBlock → MovedBlock
moved_block m targets b = record { block = b.id; parts = map (moved_part m (targets b.id) b) (parts b) }

-- words are inserted in the block
abbrev pub is_patched : CodeBlock → Bool
is_patched b = not (length b.inserted == 0)

-- ---- intervals

-- an own word of a code block that began at an old offset goes to a new one
abbrev pub origin_pieces : ℕ → ℕ → Origin → List Piece
origin_pieces from to (Own offset) = record { from = from + offset; len = 4; to = to } ∷ []
origin_pieces from to (Inserted k) = []

-- the own words among those of the block that stand one behind the other from a new offset on
abbrev pub word_pieces : ℕ → ℕ → List PatchedWord → List Piece
word_pieces from to [] = []
word_pieces from to (w ∷ ws) = origin_pieces from to w.origin ++ word_pieces from (to + 4) ws

-- the bytes of a piece of a program that stood at an old offset and stands at a new one
abbrev pub bytes_at : ℕ → ℕ → ProgramPiece → List Piece
bytes_at from to (CodePiece b) = word_pieces from to (patched_words b)
bytes_at from to (DataPiece b) = record { from = from; len = length b.bytes; to = to } ∷ []
bytes_at from to (Gap bytes) = record { from = from; len = length bytes; to = to } ∷ []

-- those of placed pieces, of which the first stood at an old offset
abbrev pub pieces_from : ℕ → List Placed → List Piece
pieces_from from [] = []
pieces_from from (x ∷ xs) = bytes_at from x.at x.piece ++ pieces_from (from + old_size x.piece) xs

abbrev pub moved_interval : Stretch → MovedInterval
moved_interval s = record { interval = s.id; old_size = old_length s; new_size = stretch_size s; pieces = pieces_from 0 (placed s) }

abbrev pub is_patched_piece : ProgramPiece → Bool
is_patched_piece (CodePiece b) = is_patched b
is_patched_piece (DataPiece b) = false
is_patched_piece (Gap bytes) = false

-- words are inserted in the interval
abbrev pub is_grown : Stretch → Bool
is_grown s = list_any is_patched_piece s.pieces

-- ---- functions

abbrev pub new_function : Module → Function → NewFunction
new_function m f = record {
  uuid = derived m.uuid (function_text f.name);
  symbol = new_symbol_id m f.name;
  blocks = block_ids m f 0 (function_blocks f);
}

-- ---- all of it

abbrev pub moved_in : Module → Program → PatchTable → Moved
moved_in m g p = record {
  blocks = map (moved_block m (targets_in p)) (filter is_patched (code_blocks g));
  intervals = map moved_interval (filter is_grown g.stretches);
  functions = map (new_function m) p.functions;
}

abbrev pub moved_of : Module → Tables → PatchTable → Moved
moved_of m t p = moved_in m (program m t p) p
