use Rattle.std.proofs.Common.{List, ap, ◌∙◌}
use Rattle.aux_codec.specs.Value.{Value, Many, values}
use Rattle.function_tables.proofs.Views.{value_many}
use Rattle.function_tables.proofs.entries.blocks_value.Goals as goal

pub returns-clause-value : goal.returns-clause-value
returns-clause-value c = value_many c.in_ok-blocks.blocks ∙ ap (λ (l : List Value). Many (values l)) c.in_ok-blocks.ensures.blocks
