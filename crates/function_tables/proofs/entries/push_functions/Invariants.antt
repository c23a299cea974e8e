use Rattle.std.proofs.Common.{◌≡◌, ◌++◌, map, take}
use Rattle.std.specs.List.{AllByRecursion}
use Rattle.aux_codec.specs.Value.{entry_of}
use Rattle.function_tables.specs.Functions.{entry_in, IsFew}
use Rattle.function_tables.proofs.entries.push_functions.Given as goal

abbrev pub invariant-loop-function : goal.invariant-loop-function
invariant-loop-function l = record {
  entries : map entry_of l.pairs.items ≡ map entry_of l.initial.pairs.items ++ map (entry_in l.kind l.module) (take l.function-index l.functions);
  few : AllByRecursion (IsFew l.kind) (take l.function-index l.functions);
}
