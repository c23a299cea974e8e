use Rattle.std.proofs.Common.{ap, ◌∙◌}
use Rattle.sym_expr.specs.Points.{code_blocks}
use Rattle.new_symbols.specs.Entries.{value_of}
use Rattle.new_symbols.proofs.Lasts.{lasts_found}
use Rattle.new_symbols.proofs.last_parts.last_parts.Goals as goal

pub returns : goal.returns
returns c = λ id.
    c.in_ok-index.ensures id
    ∙ ap (value_of id) (c.as_slice-keyed.ensures.value ∙ c.in_ok-entries.ensures)
    ∙ lasts_found c.args.module.now id (code_blocks c.args.program.now)
