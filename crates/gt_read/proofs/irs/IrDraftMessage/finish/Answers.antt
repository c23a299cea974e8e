use Rattle.std.proofs.Common.{refl}
use Rattle.gt_model.specs.Schema.{cfg_rows, ir_rows}
use Rattle.gt_model.specs.Views.{cfg_value, ir_value}
use Rattle.gt_read.specs.Drafts.Views.{cfg_draft, ir_draft}
use Rattle.gt_read.specs.Drafts.Draft.{finished, worst}
use Rattle.gt_read.proofs.DraftLemmas.{finishes_if, earlier-none}
use Rattle.gt_read.proofs.Maps.{tables_back, tables_clean}
use Rattle.gt_read.proofs.irs.IrDraftMessage.finish.Goals as goal

pub returns : goal.returns
unfolding finished worst ir_rows ir_draft ir_value
returns c =
    let f = finishes_if cfg_rows cfg_draft cfg_value _ _ _ c.in_ok-cfg.ensures in
    (rw (f.0, c.in_ok-aux.ensures, tables_back) refl, rw (c.earlier-fault.ensures, c.fault.ensures, c.earlier.ensures, f.1, tables_clean, earlier-none) refl)
