use Rattle.std.proofs.Common.{rules, append_assoc}
use Rattle.std.proofs.lemmas.List.{append-nil}
use Rattle.std.proofs.lemmas.Int.{to_z-of_z}
use mir.Syntax.{w64}
use mir.Val.{SFits}
use Rattle.gt_model.specs.Schema.{addr_addr_rows}
use Rattle.gt_model.specs.Views.{addr_addr_fields}
use Rattle.gt_write.specs.Spelling.{spelling}
use Rattle.gt_write.proofs.exprs.put_addr_addr.Goals as goal

pub returns-clause-records : goal.returns-clause-records
unfolding spelling addr_addr_rows addr_addr_fields
returns-clause-records c =
    let fits-scale : SFits w64 c.args.scale = search rules in
    let fits-offset : SFits w64 c.args.offset = search rules in
    rw (c.in_ok-put_optional_id-2.ensures.plain, c.in_ok-put_optional_id.ensures.plain, c.in_ok-put_signed-2.ensures, c.in_ok-put_signed.ensures) (simp (to_z-of_z, append_assoc, append-nil))
