use Rattle.std.proofs.Common.{◌≡◌, ◌++◌, ℕ, List, length}
use Rattle.std.specs.HashMap.{get_by_text}
use Rattle.std.specs.Option.{is_some}
use Rattle.patch_lines.specs.Building.{inserts_in}
use Rattle.patch_lines.proofs.table.inserts_in.Given as goal

abbrev pub invariant-loop-line : goal.invariant-loop-line
invariant-loop-line l = l.inserts ++ inserts_in l.index.«module» (λ (q : List ℕ). is_some (get_by_text l.names q)) l.rest ≡ inserts_in l.index.«module» (λ (q : List ℕ). is_some (get_by_text l.names q)) l.lines

abbrev pub decreases-loop-line : goal.decreases-loop-line
decreases-loop-line l = length l.rest
