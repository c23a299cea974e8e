use Rattle.std.proofs.Common.{sym, ◌∙◌}
use Rattle.asm_directives.proofs.Moved.{fails}
use Rattle.asm_directives.proofs.Readings.{begun_directive, begun_other}
use Rattle.asm_directives.proofs.reading.read_begun.Goals as goal

pub returns-then-is_directive : goal.returns-then-is_directive
returns-then-is_directive c = begun_directive
    c.form_begins.ensures c.said_without_fault.ensures c.args.line.now c.args.first.now c.args.operands.now c.read_directive.result c.requires
    (c.is_directive.ensures.0 c.if-is_directive.true) c.read_directive.ensures

pub returns : goal.returns
returns c = begun_other
    c.one_split.ensures c.args.line.now c.args.first.now c.args.operands.now c.read_line.result c.requires
    (fails c.is_directive.result c.is_directive.ensures c.if-is_directive.false) c.read_line.ensures.found c.read_line.ensures.reason
