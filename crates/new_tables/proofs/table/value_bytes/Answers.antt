use Rattle.std.proofs.Common.{◌≡◌, ℕ, List, Option, Some, None, IfSome, ap, sym, subst, ◌∙◌}
use Rattle.std.specs.Option.{option_map}
use Rattle.aux_codec.specs.Reading.{read_value}
use Rattle.aux_codec.specs.Spelling.{HasType}
use Rattle.aux_codec.specs.Value.{value_of}
use Rattle.aux_codec.specs.declared.value.AuxValue.{AuxValue}
use Rattle.aux_tables.specs.ModuleTables.{result_option, table_value, tables_of}
use Rattle.aux_types.specs.Shape.{shape_of}
use Rattle.new_tables.proofs.Bytes.{bytes_of_none, bytes_of_value, if_ok, value_is}
use Rattle.new_tables.proofs.table.value_bytes.Goals as goal

pub bytes_of-requires : goal.bytes_of-requires
bytes_of-requires c =
    let a = c.args.table.now in
    let shape = shape_of c.args.of.now in
    record {
      ready = c.requires.ready;
      there = c.requires.there;
      apart = c.requires.apart;
      named = c.requires.named;
      shape = c.requires.shape;
      held =
          value_is a shape c.requires.shape
          ∙ ap (λ (l : List ℕ). result_option (read_value shape l)) (sym c.as_slice.ensures)
          ∙ sym c.in_ok-held.ensures.value
          ∙ ap (option_map value_of) c.in-Some.is;
      typed = subst (λ (o : Option AuxValue). IfSome o (λ x. HasType shape (value_of x))) c.in-Some.is c.in_ok-held.ensures.typed;
    }

pub returns-in-Some : goal.returns-in-Some
returns-in-Some c =
    let a = c.args.table.now in
    let shape = shape_of c.args.of.now in
    let m = c.args.repair.now.module.now in
    let held : table_value a ≡ Some (value_of c.in-Some.value) =
    value_is a shape c.requires.shape
    ∙ ap (λ (l : List ℕ). result_option (read_value shape l)) (sym c.as_slice.ensures)
    ∙ sym c.in_ok-held.ensures.value
    ∙ ap (option_map value_of) c.in-Some.is in
    if_ok c.bytes_of.result (λ b e. e ∙ sym (bytes_of_value m (tables_of m) c.args.repair.now.patches.now a shape (value_of c.in-Some.value) held)) c.bytes_of.ensures

pub returns-in-None : goal.returns-in-None
returns-in-None c =
    let a = c.args.table.now in
    let shape = shape_of c.args.of.now in
    let m = c.args.repair.now.module.now in
    let held : table_value a ≡ None =
    value_is a shape c.requires.shape
    ∙ ap (λ (l : List ℕ). result_option (read_value shape l)) (sym c.as_slice.ensures)
    ∙ sym c.in_ok-held.ensures.value
    ∙ ap (option_map value_of) c.in-None.is in
    if_ok c.from_slice.result (λ b e. e ∙ c.as_slice-in-None.ensures ∙ sym (bytes_of_none m (tables_of m) c.args.repair.now.patches.now a shape held)) c.from_slice.ensures
