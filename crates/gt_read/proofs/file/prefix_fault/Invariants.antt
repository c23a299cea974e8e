use Rattle.std.proofs.Common.{◌-◌, ◌≡◌, ◌≤◌, length, drop}
use Rattle.gt_read.specs.File.{letters, differs_at}
use Rattle.gt_read.proofs.file.prefix_fault.Given as goal

-- the letters so far are there
abbrev pub invariant-letters : goal.invariant-letters
invariant-letters l = record {
  same : differs_at (drop l.at letters) (drop l.at l.bytes) l.at ≡ differs_at letters l.bytes 0;
  within : l.at ≤ length l.bytes;
  few : l.at ≤ 5;
}

abbrev pub decreases-letters : goal.decreases-letters
decreases-letters l = 5 - l.at
