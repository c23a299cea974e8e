use Rattle.std.proofs.Common.{◌∙◌, sym}
use Rattle.asm_text.specs.Texts.{lines_of}
use Rattle.asm_text.proofs.Given.{all_read, nothing_read, one_more}
use Rattle.asm_text.proofs.reading.read_lines.Goals as goal

pub loop-rest-init : goal.loop-rest-init
loop-rest-init c = nothing_read c.args.text.now c.new-lines.result c.new-lines.ensures

pub loop-rest-preserved : goal.loop-rest-preserved
loop-rest-preserved c = one_more (lines_of c.args.text.now) c.loop-rest.lines _ c.loop-rest.rest.now c.split_line.result.0.now c.split_line.result.1.now c.in_ok-said.said c.loop-rest.invariant c.split_line.ensures.line c.in_ok-said.ensures c.in_ok-push.ensures.ok

pub returns : goal.returns
returns c = all_read (lines_of c.args.text.now) c.loop-rest.lines c.loop-rest.rest.now c.loop-rest.invariant (sym c.is_empty.ensures ∙ c.loop-rest-test.false)
