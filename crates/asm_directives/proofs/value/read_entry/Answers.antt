use Rattle.std.proofs.Common.{refl}
use Rattle.asm_directives.proofs.Values.{entry_end}
use Rattle.asm_directives.proofs.value.read_entry.Goals as goal

pub returns-in-Ok : goal.returns-in-Ok
returns-in-Ok c = (c.in-Ok.first, c.in-Ok.second, c.in-Ok.ensures, refl)

pub returns-in-Err : goal.returns-in-Err
returns-in-Err c = entry_end c.args.size c.args.scale c.args.text.now c.in-Err.end c.in-Err.ensures
