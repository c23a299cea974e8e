use Rattle.std.proofs.Common.{map, subst}
use Rattle.aux_codec.specs.Spelling.{HasType}
use Rattle.aux_codec.specs.Value.{Pairs, entries, entry_of}
use Rattle.function_tables.specs.declared.kinds.TableKind.{TableKind}
use Rattle.function_tables.specs.Functions.{type_of}
use Rattle.function_tables.proofs.values.split.Goals as goal

pub split_sets-requires : goal.split_sets-requires
split_sets-requires c =
    rw c.as_slice.ensures.value (subst (λ (k : TableKind). HasType (type_of k) (Pairs (entries (map entry_of c.args.pairs.items)))) c.in-Blocks.is c.requires).1
