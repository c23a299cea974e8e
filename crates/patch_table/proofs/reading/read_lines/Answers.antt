use Rattle.std.proofs.Common.{◌∙◌, sym}
use Rattle.patch_table.specs.PatchText.{lines_of}
use Rattle.patch_table.proofs.Tables.{all_read, one_more, typed_more}
use Rattle.patch_table.proofs.reading.read_lines.Goals as goal

pub loop-rest-preserved : goal.loop-rest-preserved
loop-rest-preserved c = (
  one_more (lines_of c.args.text.now) c.loop-rest.lines _ c.loop-rest.rest.now c.split_line.result.0.now c.split_line.result.1.now c.in_ok-said.said c.loop-rest.invariant.0 c.split_line.ensures.line c.in_ok-said.ensures.says c.in_ok-push.ensures.ok,
  typed_more c.loop-rest.lines _ c.in_ok-said.said c.loop-rest.invariant.1 c.in_ok-said.ensures.typed c.in_ok-push.ensures.ok,
)

pub returns-clause-says : goal.returns-clause-says
returns-clause-says c = all_read (lines_of c.args.text.now) c.loop-rest.lines c.loop-rest.rest.now c.loop-rest.invariant.0 (sym c.is_empty.ensures ∙ c.loop-rest-test.false)

pub returns-clause-typed : goal.returns-clause-typed
returns-clause-typed c = c.loop-rest.invariant.1
