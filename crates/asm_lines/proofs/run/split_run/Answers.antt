use Rattle.std.proofs.Common.{◌∙◌, sym}
use Rattle.asm_lines.proofs.Runs.{longer_run}
use Rattle.asm_lines.proofs.run.split_run.Goals as goal

pub loop-byte-preserved : goal.loop-byte-preserved
loop-byte-preserved c =
    longer_run
    c.args.class c.args.text.now c.loop-byte.rest.now c.in-Some.behind.now c.in-Some.byte.now c.loop-byte.invariant c.in-Some.ensures.cases.0
    (sym c.belongs.ensures ∙ c.if-not-belongs.false)
