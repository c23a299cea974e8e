use Rattle.aux_types.proofs.Whole.{found, only}
use Rattle.aux_types.proofs.reading.parse_type.Goals as goal

pub returns-clause-found : goal.returns-clause-found
returns-clause-found c = found c.args.text.now c.whole.result (rw c.as_bytes.ensures.value at c.whole.ensures)

pub returns-clause-only : goal.returns-clause-only
returns-clause-only c = only c.args.text.now c.whole.result (rw c.as_bytes.ensures.value at c.whole.ensures)
