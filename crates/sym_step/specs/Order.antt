-- In which order an instruction's operations come: first those that give values, then those that store, and no store
-- behind others. So all that is stored, and where, is known before anything changes.
use Rattle.std.specs.Prelude.{Bool, true, false, not, if◌then◌else◌, List, [], ◌∷◌}
use Rattle.std.specs.List.{list_any}
use Rattle.a64_inst.specs.declared.operations.Op.{Op}
use Rattle.a64_inst.specs.declared.operations.Op.TheVariants.{Store}
use Rattle.sym_step.specs.Runner.{gives}

abbrev pub is_store : Op → Bool
is_store (Store bytes value at) = true
is_store other = false

-- what follows the first operations that give values
abbrev pub behind_values : List Op → List Op
behind_values [] = []
behind_values (op ∷ ops) = if gives op then behind_values ops else op ∷ ops

-- what follows the first stores
abbrev pub behind_stores : List Op → List Op
behind_stores [] = []
behind_stores (op ∷ ops) = if is_store op then behind_stores ops else op ∷ ops

-- nothing is stored behind the stores that follow the first values
abbrev pub stores_early : List Op → Bool
stores_early ops = not (list_any is_store (behind_stores (behind_values ops)))
