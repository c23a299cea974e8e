use Rattle.std.proofs.Common.{refl}
use Rattle.gt_model.specs.Schema.{symbol_rows}
use Rattle.gt_model.specs.Views.{symbol_value}
use Rattle.gt_read.specs.Drafts.Views.{symbol_draft}
use Rattle.gt_read.specs.Drafts.Draft.{finished, worst}
use Rattle.gt_read.proofs.DraftLemmas.{earlier-none}
use Rattle.gt_read.proofs.symbols.SymbolDraftMessage.finish.Goals as goal

pub returns : goal.returns
unfolding finished worst symbol_rows symbol_draft symbol_value
returns c =
    let p = c.finish_payload-payload.ensures in
    (rw (p.number, p.referent) refl, rw (c.earlier-fault.ensures, c.fault.ensures, p.worst, earlier-none) refl)
