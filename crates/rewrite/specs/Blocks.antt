-- The blocks of an interval once words are inserted: each at its new offset, code blocks in their parts.
use Rattle.std.specs.Prelude.{ℕ, ◌+◌, ◌*◌, List, [], ◌∷◌, length, map}
use Rattle.std.specs.List.{flat_map}
use Rattle.block_parts.specs.declared.parts.Part.{Part}
use Rattle.block_parts.specs.Parts.{parts}
use Rattle.gt_model.specs.declared.intervals.Block.{Block}
use Rattle.gt_model.specs.declared.intervals.Body.{Body}
use Rattle.gt_model.specs.declared.intervals.Body.TheVariants as bodies
use Rattle.gt_model.specs.declared.intervals.Interval.{Interval}
use Rattle.gt_model.specs.declared.modules.Module.{Module}
use Rattle.rewrite.specs.Identifiers.{part_id}
use Rattle.rewrite.specs.Offsets.{new_start}
use Rattle.sym_expr.specs.declared.patches.PatchTable.{PatchTable}
use Rattle.sym_expr.specs.declared.program.Stretch.{Stretch}
use Rattle.sym_expr.specs.Program.{code_block}

abbrev pub part_size : Part → ℕ
part_size q = 4 * length q.words

-- a part of a block that begins at an offset
abbrev pub part_block : Module → List ℕ → ℕ → ℕ → Part → Block
part_block m block decode_mode start q = record { offset = start + q.start; body = bodies.Code (part_id m block q) (part_size q) decode_mode }

-- what a block becomes
abbrev pub new_block : Module → PatchTable → Interval → Stretch → Block → List Block
new_block m p i s b = of_body b.body
  where
    of_body : Body → List Block
    of_body bodies.Bare = b ∷ []
    of_body (bodies.Code uuid size decode_mode) = map (part_block m uuid decode_mode (new_start s uuid)) (parts (code_block m p i b))
    of_body (bodies.Data uuid size) = record b { offset = new_start s uuid } ∷ []

-- the blocks keep the order of the file
abbrev pub new_blocks : Module → PatchTable → Interval → Stretch → List Block
new_blocks m p i s = flat_map (new_block m p i s) i.blocks
