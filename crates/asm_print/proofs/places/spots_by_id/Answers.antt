use Rattle.std.proofs.Common.{ap, ◌∙◌}
use Rattle.std.specs.Str.{bytes_eq}
use Rattle.asm_print.specs.Names.{value_at}
use Rattle.asm_print.proofs.places.spots_by_id.Goals as goal

pub returns : goal.returns
returns c = λ id. c.in_ok-index.ensures id ∙ ap (value_at bytes_eq id) (c.as_slice-keyed.ensures.value ∙ c.in_ok-spots.ensures)
