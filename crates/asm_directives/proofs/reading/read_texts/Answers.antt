use Rattle.asm_directives.proofs.Readings.{empty_says, no_text}
use Rattle.asm_directives.proofs.reading.read_texts.Goals as goal

pub returns-in-empty : goal.returns-in-empty
returns-in-empty c = empty_says c.one_split.ensures c.args.line.now c.args.texts.now c.read_line.result c.requires (no_text c.args.texts.now c.in-empty.len_below) c.read_line.ensures.found c.read_line.ensures.reason
