use Rattle.module_program.specs.Knowing.{HasGoodLines}
use Rattle.module_program.proofs.Sections.{holds_of}
use Rattle.module_program.proofs.functions.add_functions.Goals as goal

pub function_stretch-requires-clause-good : goal.function_stretch-requires-clause-good
function_stretch-requires-clause-good c =
    let m = c.args.context.now.module in
    let p = c.args.context.now.patches.now in
    holds_of (HasGoodLines m p) p.functions c.as_slice-function-items.result.now c.loop-function.function-index c.function-item.result c.as_slice-function-items.ensures c.requires.good c.loop-function-test.true c.function-item.is
