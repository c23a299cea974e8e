use Rattle.std.proofs.Common.{◌≡◌, ◌≤◌, take}
use Rattle.gr_base.specs.Desk.{Told, ToldBoth, SameFiles}
use Rattle.command_words.specs.declared.role.TheConstants.{ROLES}
use Rattle.jobs.specs.Inputs.{AllReadable, files_as}
use Rattle.command_words.specs.Picked.{picked_view}
use Rattle.gt_front.specs.Reads.{HoldsAmong}
use Rattle.gt_front.proofs.inputs.read_inputs.Given as goal

-- the inputs of the roles so far were read, and nothing changed
abbrev pub invariant-loop-role : goal.invariant-loop-role
invariant-loop-role g l = record {
  files : ToldBoth (g.D.Desk.files l.fn.desk) (g.D.Desk.files l.desk) SameFiles;
  steady : g.D.Desk.steady l.desk ≡ g.D.Desk.steady l.fn.desk;
  read_later : g.D.Desk.read_faults l.fn.desk ≤ g.D.Desk.read_faults l.desk;
  write_later : g.D.Desk.write_faults l.fn.desk ≤ g.D.Desk.write_faults l.desk;
  taken_later : g.D.Desk.taken l.fn.desk ≤ g.D.Desk.taken l.desk;
  readable : Told (g.D.Desk.files l.fn.desk) (AllReadable (files_as (picked_view l.asked) (take l.role-index ROLES)));
  contents : Told (g.D.Desk.files l.fn.desk) (HoldsAmong (picked_view l.asked) (take l.role-index ROLES) l.contents);
}
