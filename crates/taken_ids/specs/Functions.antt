-- Functions of patches line by line: how many blocks begin.
use Rattle.std.specs.Prelude.{ℕ, ◌+◌, Bool, true, if◌then◌else◌, List, [], ◌∷◌}
use Rattle.sym_expr.specs.declared.patches.FunLine.{FunLine}
use Rattle.sym_expr.specs.declared.patches.FunLine.TheVariants as lines
use Rattle.sym_expr.specs.Patches.{is_control}

-- in these lines, where the next word begins a block or doesn't
abbrev pub starts_in : Bool → List FunLine → ℕ
starts_in fresh [] = 0
starts_in fresh (lines.Label name ∷ rest) = starts_in true rest
starts_in fresh (lines.Word w ∷ rest) = (if fresh then 1 else 0) + starts_in (is_control w.word) rest
