use Rattle.gt_read.specs.File.{body_at, body_meaning}
use Rattle.gt_read.specs.Pieces.{pieces}
use Rattle.gt_read.proofs.Ascending.{meaning_ordered}
use Rattle.gt_read.proofs.TypedIr.{version_byte, file_typed}
use Rattle.gt_read.proofs.laws.a_file_is_typed.Goals as goal

pub returns-clause-typed : goal.returns-clause-typed
returns-clause-typed c = file_typed (record { record_ = c.records_are_read.ensures.spelled; varint = c.varints_are_read.ensures.spelled; small = c.varint_fits.ensures })

pub returns-clause-order : goal.returns-clause-order
unfolding body_meaning
returns-clause-order c = λ bytes ir f. meaning_ordered 0 (pieces f.body body_at) ir f.value

pub returns-clause-version : goal.returns-clause-version
returns-clause-version c = version_byte
