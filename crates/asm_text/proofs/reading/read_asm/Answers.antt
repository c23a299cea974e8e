use Rattle.asm_text.proofs.Given.{gives_module}
use Rattle.asm_text.proofs.reading.read_asm.Goals as goal

pub returns : goal.returns
returns c = record { gives = gives_module c.args.text.now c.in_ok-lines.lines c.build_module.result c.in_ok-lines.ensures c.build_module.ensures }
