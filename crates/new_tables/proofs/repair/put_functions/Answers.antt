use Rattle.std.proofs.Common.{sym}
use Rattle.aux_codec.specs.Value.{value_of}
use Rattle.module_program.specs.Graphs.{patched_in}
use Rattle.new_tables.proofs.repair.put_functions.Goals as goal

pub put_kind-requires : goal.put_kind-requires
put_kind-requires c = record { ready = c.requires.ready; kind = sym c.in-Some.ensures; moved = c.requires.moved }

pub returns-in-None-clause-value : goal.returns-in-None-clause-value
returns-in-None-clause-value c =
    let m = c.args.repair.now.module.now in
    let p = c.args.repair.now.patches.now in
    sym (c.other_tables_stay.ensures m (patched_in m p) p c.args.table.now (value_of c.args.value) (sym c.in-None.ensures))
