use Rattle.std.proofs.Common.{◌≡◌, ℕ, List, Some, None, ap, sym, ◌∙◌}
use Rattle.aux_tables.specs.ModuleTables.{result_option, shape_of_table, tables_of}
use Rattle.aux_types.specs.Reading.{read_type}
use Rattle.aux_types.specs.Shape.{shape_of}
use Rattle.gt_model.specs.declared.tables.Aux.{Aux}
use Rattle.new_tables.proofs.Bytes.{if_ok, repaired_is, repaired_none}
use Rattle.new_tables.proofs.table.table_bytes.Goals as goal

pub value_bytes-requires : goal.value_bytes-requires
value_bytes-requires c = record {
  ready = c.requires.ready;
  there = c.requires.there;
  apart = c.requires.apart;
  named = c.in-Ok.ensures.found.named;
  shape = ap (λ (s : List ℕ). result_option (read_type s)) (sym c.as_str.ensures) ∙ ap result_option c.in-Ok.ensures.exact;
}

pub returns-in-Ok : goal.returns-in-Ok
returns-in-Ok c =
    let a = c.args.table.now in
    let m = c.args.repair.now.module.now in
    let of : shape_of_table a ≡ Some (shape_of c.in-Ok.of) = ap (λ (s : List ℕ). result_option (read_type s)) (sym c.as_str.ensures) ∙ ap result_option c.in-Ok.ensures.exact in
    if_ok c.value_bytes.result (λ b e. e ∙ sym (ap (λ (x : Aux). x.bytes) (repaired_is m (tables_of m) c.args.repair.now.patches.now a (shape_of c.in-Ok.of) of))) c.value_bytes.ensures

pub returns-in-Err-Fault : goal.returns-in-Err-Fault
returns-in-Err-Fault c =
    let a = c.args.table.now in
    let m = c.args.repair.now.module.now in
    let fails = rw c.in-Err-Fault.field-0-is at c.in-Err-Fault.ensures.exact in
    let none : shape_of_table a ≡ None = ap (λ (s : List ℕ). result_option (read_type s)) (sym c.as_str.ensures) ∙ ap result_option fails in
    if_ok c.from_slice.result (λ b e. e ∙ c.as_slice.ensures ∙ sym (ap (λ (x : Aux). x.bytes) (repaired_none m (tables_of m) c.args.repair.now.patches.now a none))) c.from_slice.ensures
