use Rattle.layout_plan.proofs.Least.{least_remainder, least_is}
use Rattle.layout_plan.proofs.laws.places_are_least.Goals as goal

pub returns-clause-remainder : goal.returns-clause-remainder
returns-clause-remainder c = least_remainder

pub returns-clause-least : goal.returns-clause-least
returns-clause-least c = least_is
