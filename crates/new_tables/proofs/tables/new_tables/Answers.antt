use Rattle.std.proofs.Common.{List, ◌++◌, ◌∷◌, [], map, take, ap, sym, ◌∙◌}
use Rattle.std.specs.Prelude.{Contains}
use Rattle.aux_tables.specs.ModuleTables.{tables_of}
use Rattle.edge_repair.specs.Repaired.{repaired_table}
use Rattle.gt_model.specs.declared.tables.Aux.{Aux}
use Rattle.new_tables.proofs.Members.{mapped_more, member}
use Rattle.new_tables.proofs.tables.new_tables.Goals as goal

pub new_table-requires : goal.new_table-requires
new_table-requires c =
    let x : Aux = c.table-item.result in
    let there : Contains c.args.repair.now.module.now.aux x =
    member c.args.repair.now.module.now.aux c.loop-table.table-index x (rw c.as_slice-table-items.ensures at c.loop-table-test.true) (rw c.as_slice-table-items.ensures at c.table-item.is) in
    record { ready = c.requires.ready; there = there; apart = c.requires.apart x there }

pub loop-table-preserved : goal.loop-table-preserved
loop-table-preserved c =
    let m = c.args.repair.now.module.now in
    let f = repaired_table m (tables_of m) c.args.repair.now.patches.now in
    let items = c.as_slice-table-items.result.now in
    let i = c.loop-table.table-index in
    let x : Aux = c.table-item.result in
    c.in_ok-push.ensures.items
    ∙ ap (λ (l : List Aux). l ++ c.in_ok-table.table ∷ []) c.loop-table.invariant
    ∙ ap (λ (a : Aux). map f (take i items) ++ a ∷ []) c.in_ok-table.ensures
    ∙ sym (mapped_more f items i x c.loop-table-test.true c.table-item.is)
