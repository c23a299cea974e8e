use Rattle.asm_directives.proofs.Instants.{hex_refused, hex_said}
use Rattle.asm_directives.proofs.instant.read_hex.Goals as goal

pub returns-in-Ok : goal.returns-in-Ok
returns-in-Ok c = hex_said c.args.text.now c.in-Ok.bytes.items c.bytes_line.result c.in-Ok.ensures.ok c.bytes_line.ensures

pub returns-in-Err : goal.returns-in-Err
returns-in-Err c = hex_refused c.args.text.now c.in-Err.error c.hex_end.result c.in-Err.ensures.err c.hex_end.ensures
