use Rattle.std.proofs.Common.{ℕ, List, ap, sym, ◌∙◌}
use Rattle.aux_tables.specs.ModuleTables.{tables_of}
use Rattle.gt_model.specs.declared.tables.Aux.{Aux}
use Rattle.new_tables.proofs.Bytes.{only_bytes}
use Rattle.new_tables.proofs.table.new_table.Goals as goal

abbrev table_of : List ℕ → List ℕ → List ℕ → Aux
table_of name type bytes = record { name = name; type_name = type; bytes = bytes }

pub returns : goal.returns
returns c =
    let a = c.args.table.now in
    let m = c.args.repair.now.module.now in
    ap (λ (n : List ℕ). table_of n c.in_ok-type_name.type_name c.in_ok-bytes.bytes) (c.in_ok-name.ensures ∙ c.as_str.ensures)
    ∙ ap (λ (n : List ℕ). table_of a.name n c.in_ok-bytes.bytes) (c.in_ok-type_name.ensures ∙ c.as_str-2.ensures)
    ∙ ap (table_of a.name a.type_name) c.in_ok-bytes.ensures
    ∙ sym (only_bytes m (tables_of m) c.args.repair.now.patches.now a)
