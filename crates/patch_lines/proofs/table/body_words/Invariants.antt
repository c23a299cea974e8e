use Rattle.std.proofs.Common.{◌≡◌, ◌++◌, ℕ, List, drop}
use Rattle.std.specs.HashMap.{get_by_text}
use Rattle.std.specs.Option.{is_some}
use Rattle.patch_lines.specs.Building.{body_words}
use Rattle.patch_lines.proofs.table.body_words.Given as goal

abbrev pub invariant-loop-line : goal.invariant-loop-line
invariant-loop-line l = l.words ++ body_words l.index.«module» (λ (q : List ℕ). is_some (get_by_text l.names q)) (drop l.line-index l.lines) ≡ body_words l.index.«module» (λ (q : List ℕ). is_some (get_by_text l.names q)) l.lines
