use Rattle.std.proofs.Common.{ap, ◌∙◌}
use Rattle.std.specs.Str.{bytes_eq}
use Rattle.indexmap.specs.IndexMap.{get}
use Rattle.module_program.specs.Keyed.{value_at}
use Rattle.module_program.specs.Naming.{count_in}
use Rattle.module_program.proofs.Keys.{symbols_found}
use Rattle.module_program.proofs.symbols.symbol_targets.Goals as goal

pub returns : goal.returns
returns c = λ id.
    c.in_ok-index.ensures id
    ∙ ap (value_at bytes_eq id) (c.as_slice-keyed.ensures.value ∙ c.in_ok-entries.ensures)
    ∙ symbols_found (count_in c.args.counts.now) (get bytes_eq c.args.blocks.now) id c.args.symbols.now
