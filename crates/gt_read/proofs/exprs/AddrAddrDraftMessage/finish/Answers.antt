use Rattle.std.proofs.Common.{refl, rules}
use Rattle.std.proofs.lemmas.Int.{to_z-of_z}
use mir.Syntax.{w64}
use mir.Val.{SFits}
use Rattle.gt_model.specs.Schema.{addr_addr_rows}
use Rattle.gt_model.specs.Views.{addr_addr_fields}
use Rattle.gt_read.specs.Drafts.Views.{addr_addr_draft}
use Rattle.gt_read.specs.Drafts.Draft.{finished, worst}
use Rattle.gt_read.proofs.DraftLemmas.{earlier-none}
use Rattle.gt_read.proofs.exprs.AddrAddrDraftMessage.finish.Goals as goal

pub returns : goal.returns
unfolding finished worst addr_addr_rows addr_addr_draft addr_addr_fields
returns c =
    let fits-scale : SFits w64 c.args.self.scale = search rules in
    let fits-offset : SFits w64 c.args.self.offset = search rules in
    (rw (to_z-of_z, to_z-of_z, c.optional.ensures, c.optional-2.ensures) refl, rw (c.earlier-fault.ensures, c.optional_fault.ensures, c.optional_fault-2.ensures, earlier-none) refl)
