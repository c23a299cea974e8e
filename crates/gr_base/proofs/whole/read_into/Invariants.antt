use Rattle.std.proofs.Common.{◌≡◌, ◌≤◌, ◌-◌, ◌+◌, ◌^◌, ℕ, List, length}
use Rattle.gr_base.proofs.Reading.{IsReading}
use Rattle.gr_base.proofs.whole.read_into.Given as goal

-- the bytes so far were handed on
abbrev pub invariant-loop-count : goal.invariant-loop-count
invariant-loop-count g l = record {
  bytes : List ℕ;
  len : length bytes ≡ l.count;
  took : g.T.Taker.took l.fn.taker bytes l.taker;
  reading : IsReading l.name bytes (g.D.Desk.files l.fn.desk) (g.D.Desk.files l.desk) (g.D.Desk.taken l.fn.desk) (g.D.Desk.taken l.desk);
  made : g.D.Desk.made l.desk ≡ g.D.Desk.made l.fn.desk;
  steady : g.D.Desk.steady l.desk ≡ g.D.Desk.steady l.fn.desk;
  read_later : g.D.Desk.read_faults l.fn.desk ≤ g.D.Desk.read_faults l.desk;
  write_later : g.D.Desk.write_faults l.fn.desk ≤ g.D.Desk.write_faults l.desk;
}

abbrev pub decreases-loop-count : goal.decreases-loop-count
decreases-loop-count g l = 2 ^ 26 + 1 - l.count
