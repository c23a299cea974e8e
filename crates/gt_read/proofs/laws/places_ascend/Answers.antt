use Rattle.gt_read.proofs.InOrder.{places_ascend, first_is_least}
use Rattle.gt_read.proofs.laws.places_ascend.Goals as goal

pub returns-clause-order : goal.returns-clause-order
returns-clause-order c = places_ascend (record { record_ = c.records_are_read.ensures.spelled; varint = c.varints_are_read.ensures.spelled; small = c.varint_fits.ensures })

pub returns-clause-least : goal.returns-clause-least
returns-clause-least c = first_is_least (record { record_ = c.records_are_read.ensures.spelled; varint = c.varints_are_read.ensures.spelled; small = c.varint_fits.ensures })
