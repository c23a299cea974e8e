use Rattle.std.proofs.Common.{ap, map, ◌∙◌}
use Rattle.std.specs.Str.{bytes_eq}
use Rattle.sym_expr.specs.Modules.{blocks_of, loaded_intervals}
use Rattle.new_edges.specs.Loaded.{block_entry}
use Rattle.new_edges.specs.Keyed.{value_at}
use Rattle.new_edges.proofs.Keys.{blocks_found}
use Rattle.new_edges.proofs.loaded.blocks_by_id.Goals as goal

pub returns : goal.returns
returns c = λ id.
    c.in_ok-index.ensures id
    ∙ ap (value_at bytes_eq id) (c.as_slice-keyed.ensures.value ∙ c.in_ok-entries.ensures ∙ ap (map block_entry) (c.as_slice-listed.ensures.value ∙ c.in_ok-blocks.ensures))
    ∙ blocks_found id (blocks_of (loaded_intervals c.args.module.now))
