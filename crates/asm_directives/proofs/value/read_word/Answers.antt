use Rattle.asm_directives.proofs.Values.{word_plain, word_quarter}
use Rattle.asm_directives.proofs.value.read_word.Goals as goal

pub returns-in-Some : goal.returns-in-Some
returns-in-Some c = word_quarter c.args.text.now c.in-Some.inside.now c.read_entry.result c.in-Some.ensures c.read_entry.ensures

pub returns-in-None : goal.returns-in-None
returns-in-None c = word_plain c.args.text.now c.read_word_difference.result c.in-None.ensures c.read_word_difference.ensures
