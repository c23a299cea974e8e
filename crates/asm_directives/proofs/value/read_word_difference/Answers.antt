use Rattle.asm_directives.proofs.Values.{differ_end, word_of}
use Rattle.asm_directives.proofs.value.read_word_difference.Goals as goal

pub returns-in-Err : goal.returns-in-Err
returns-in-Err c = differ_end word_of c.args.text.now c.in-Err.end c.in-Err.ensures
