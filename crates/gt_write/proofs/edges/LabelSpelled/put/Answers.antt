use Rattle.std.proofs.Common.{rules, append_assoc}
use Rattle.std.proofs.lemmas.List.{append-nil}
use Rattle.std.proofs.lemmas.Int.{to_z-of_z}
use mir.Syntax.{w32}
use mir.Val.{SFits}
use Rattle.gt_model.specs.Schema.{label_rows}
use Rattle.gt_model.specs.Views.{label_value}
use Rattle.gt_write.specs.Spelling.{spelling}
use Rattle.gt_write.proofs.edges.LabelSpelled.put.Goals as goal

pub returns-clause-records : goal.returns-clause-records
unfolding spelling label_rows label_value
returns-clause-records c =
    let fits-kind : SFits w32 c.args.self.now.kind = search rules in
    rw (c.in_ok-put_signed32.ensures, c.in_ok-put_flag-2.ensures, c.in_ok-put_flag.ensures) (simp (to_z-of_z, append_assoc, append-nil))
