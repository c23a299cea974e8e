use Rattle.std.proofs.Common.{ap, ◌∙◌}
use Rattle.std.specs.Str.{bytes_eq}
use Rattle.new_edges.specs.Keyed.{value_at}
use Rattle.new_edges.proofs.leaving.leaving_by_block.Goals as goal

pub returns : goal.returns
returns c = λ id. c.in_ok-index.ensures id ∙ ap (value_at bytes_eq id) (c.as_slice-keyed.ensures.value ∙ c.in_ok-entries.ensures)
