use Rattle.std.proofs.Common.{refl, rules}
use Rattle.std.proofs.lemmas.Int.{to_z-of_z}
use mir.Syntax.{w64}
use mir.Val.{SFits}
use Rattle.gt_model.specs.Schema.{addr_const_rows}
use Rattle.gt_model.specs.Views.{addr_const_fields}
use Rattle.gt_read.specs.Drafts.Views.{addr_const_draft}
use Rattle.gt_read.specs.Drafts.Draft.{finished, worst}
use Rattle.gt_read.proofs.DraftLemmas.{earlier-none}
use Rattle.gt_read.proofs.exprs.AddrConstDraftMessage.finish.Goals as goal

pub returns : goal.returns
unfolding finished worst addr_const_rows addr_const_draft addr_const_fields
returns c =
    let fits : SFits w64 c.args.self.offset = search rules in
    (rw (to_z-of_z, c.optional.ensures) refl, rw (c.optional_fault-fault.ensures, earlier-none) refl)
