use Rattle.std.proofs.Common.{◌≡◌, ℕ, List, [], take, drop}
use Rattle.std.specs.HashMap.{get_by_text}
use Rattle.std.specs.Option.{is_some}
use Rattle.patch_lines.specs.Faults.{second_pass}
use Rattle.patch_lines.proofs.second.check_targets.Given as goal

abbrev pub invariant-loop-line : goal.invariant-loop-line
invariant-loop-line l = record {
  number : l.number ≡ l.line-index;
  rest : second_pass l.index.«module» (λ (q : List ℕ). is_some (get_by_text l.names q)) (take l.line-index l.lines) (drop l.line-index l.lines) ≡ second_pass l.index.«module» (λ (q : List ℕ). is_some (get_by_text l.names q)) [] l.lines;
}
