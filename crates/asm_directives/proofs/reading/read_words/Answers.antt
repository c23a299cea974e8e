use Rattle.std.proofs.Common.{◌∙◌}
use Rattle.asm_directives.proofs.Readings.{texts_are}
use Rattle.asm_directives.proofs.reading.read_words.Goals as goal

pub read_texts-requires : goal.read_texts-requires
read_texts-requires c = texts_are c.args.line.now c.args.words.now c.as_slice.result.now c.requires.utf8 c.requires.words (c.as_slice.ensures ∙ c.in-Ok.ensures)
