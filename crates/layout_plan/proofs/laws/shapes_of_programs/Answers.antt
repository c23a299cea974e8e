use Rattle.layout_plan.proofs.Shaping.{shape_is}
use Rattle.layout_plan.proofs.laws.shapes_of_programs.Goals as goal

pub returns : goal.returns
returns c = shape_is
