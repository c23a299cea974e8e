-- Code blocks with their parts.
use Rattle.std.specs.Prelude.{◌==◌, if◌then◌else◌, List, [], length}
use Rattle.block_parts.specs.declared.parts.Part.{Part}
use Rattle.block_parts.specs.Parts.{parts}
use Rattle.new_edges.specs.declared.blocks.PatchedBlock.{PatchedBlock}
use Rattle.sym_expr.specs.declared.program.CodeBlock.{CodeBlock}
use Rattle.sym_expr.specs.Points.{code_size}

-- the parts of a block in which words are inserted
abbrev pub parts_of : CodeBlock → List Part
parts_of b = if length b.inserted == 0 then [] else parts b

abbrev pub patched_block : CodeBlock → PatchedBlock
patched_block b = record { id = b.id; size = code_size b; parts = parts_of b }
