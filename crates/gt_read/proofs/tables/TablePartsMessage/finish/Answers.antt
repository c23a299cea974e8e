use Rattle.std.proofs.Common.{refl}
use Rattle.gt_model.specs.Schema.{table_rows}
use Rattle.gt_model.specs.Views.{table_fields}
use Rattle.gt_read.specs.Drafts.Views.{table_draft}
use Rattle.gt_read.specs.Drafts.Draft.{finished, worst}
use Rattle.gt_read.proofs.tables.TablePartsMessage.finish.Goals as goal

pub returns : goal.returns
unfolding finished worst table_rows table_draft table_fields
returns c =
    (refl, refl)
