use Rattle.asm_directives.proofs.Values.{differ_end, quad_of}
use Rattle.asm_directives.proofs.value.read_quad_difference.Goals as goal

pub returns-in-Err : goal.returns-in-Err
returns-in-Err c = differ_end quad_of c.args.text.now c.in-Err.end c.in-Err.ensures
