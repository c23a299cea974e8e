use Rattle.std.proofs.Common.{◌≡◌, ◌≤◌, length}
use Rattle.gr_base.proofs.Appending.{IsAppending}
use Rattle.gr_base.proofs.whole.append_all.Given as goal

abbrev pub invariant-loop-rest : goal.invariant-loop-rest
invariant-loop-rest g l = record {
  appending : IsAppending l.name l.bytes l.rest (g.D.Desk.files l.fn.desk) (g.D.Desk.files l.desk);
  made : g.D.Desk.made l.desk ≡ g.D.Desk.made l.fn.desk;
  taken : g.D.Desk.taken l.desk ≡ g.D.Desk.taken l.fn.desk;
  steady : g.D.Desk.steady l.desk ≡ g.D.Desk.steady l.fn.desk;
  read_later : g.D.Desk.read_faults l.fn.desk ≤ g.D.Desk.read_faults l.desk;
  write_later : g.D.Desk.write_faults l.fn.desk ≤ g.D.Desk.write_faults l.desk;
}

abbrev pub decreases-loop-rest : goal.decreases-loop-rest
decreases-loop-rest g l = length l.rest
