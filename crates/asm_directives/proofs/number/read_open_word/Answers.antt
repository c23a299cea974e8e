use Rattle.asm_directives.proofs.Numbers.{no_open_word, open_word}
use Rattle.asm_directives.proofs.number.read_open_word.Goals as goal

pub returns-in-Some : goal.returns-in-Some
returns-in-Some c = open_word c.args.word.now c.in-Some.number c.opened.result c.in-Some.ensures c.opened.ensures

pub returns-in-None : goal.returns-in-None
returns-in-None c = no_open_word c.args.word.now c.in-None.ensures
