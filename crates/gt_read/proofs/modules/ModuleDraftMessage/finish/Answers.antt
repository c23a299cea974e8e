use Rattle.std.proofs.Common.{refl, rules}
use Rattle.std.proofs.lemmas.Int.{to_z-of_z}
use mir.Syntax.{w32, w64}
use mir.Val.{SFits}
use Rattle.gt_model.specs.Schema.{module_rows}
use Rattle.gt_model.specs.Views.{module_value}
use Rattle.gt_read.specs.Drafts.Views.{module_draft}
use Rattle.gt_read.specs.Drafts.Draft.{finished, worst}
use Rattle.gt_read.proofs.DraftLemmas.{earlier-none}
use Rattle.gt_read.proofs.Maps.{tables_back, tables_clean}
use Rattle.gt_read.proofs.modules.ModuleDraftMessage.finish.Goals as goal

pub returns : goal.returns
unfolding finished worst module_rows module_draft module_value
returns c =
    let fits-rebase_delta : SFits w64 c.args.self.rebase_delta = search rules in
    let fits-file_format : SFits w32 c.args.self.file_format = search rules in
    let fits-isa : SFits w32 c.args.self.isa = search rules in
    let fits-byte_order : SFits w32 c.args.self.byte_order = search rules in
    (rw (to_z-of_z, to_z-of_z, to_z-of_z, to_z-of_z, c.optional.ensures, c.in_ok-aux.ensures, tables_back) refl, rw (c.earlier-fault.ensures, c.fault.ensures, c.earlier-worst-2.ensures, c.earlier.ensures, c.earlier-worst.ensures, c.optional_fault.ensures, tables_clean, earlier-none) refl)
