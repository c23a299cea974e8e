use Rattle.std.proofs.Common.{ℕ, List, Option, [], map, ap, ◌∙◌}
use Rattle.std.specs.Prelude.{filter}
use Rattle.std.specs.Option.{unwrap_or}
use Rattle.std.specs.Str.{bytes_eq}
use Rattle.block_parts.specs.Parts.{parts}
use Rattle.indexmap.specs.IndexMap.{get}
use Rattle.moved_modules.specs.declared.moved.MovedBlock.{MovedBlock}
use Rattle.moved_modules.specs.Moved.{is_patched, moved_block, moved_part}
use Rattle.moved_modules.specs.Targets.{targets_in}
use Rattle.moved_modules.proofs.Kept.{map_same}
use Rattle.sym_expr.specs.declared.patches.PatchTarget.{PatchTarget}
use Rattle.sym_expr.specs.declared.program.CodeBlock.{CodeBlock}
use Rattle.sym_expr.specs.Points.{code_blocks}
use Rattle.moved_modules.proofs.blocks.moved_blocks.Goals as goal

pub returns : goal.returns
returns c =
    let m = c.args.module.now in
    let found : List ℕ → List (Option PatchTarget) = λ (id : List ℕ). unwrap_or (get bytes_eq c.in_ok-targets.targets id) [] in
    c.from_vec.ensures
    ∙ c.in_ok-blocks.ensures
    ∙ map_same (moved_block m found) (moved_block m (targets_in c.args.patches.now)) (filter is_patched (code_blocks c.args.program.now))
    (λ (b : CodeBlock). ap (λ (targets : List (Option PatchTarget)). record { block = b.id; parts = map (moved_part m targets b) (parts b) }) (c.in_ok-targets.ensures b.id))
