use Rattle.std.proofs.Common.{append_assoc}
use Rattle.std.proofs.lemmas.List.{append-nil}
use Rattle.gt_model.specs.Schema.{symbol_rows}
use Rattle.gt_model.specs.Views.{symbol_value}
use Rattle.gt_write.specs.Spelling.{spelling}
use Rattle.gt_write.proofs.symbols.SymbolSpelled.put.Goals as goal

pub returns-clause-records : goal.returns-clause-records
unfolding spelling symbol_rows symbol_value
returns-clause-records c =
    rw (c.in_ok-put_flag.ensures, c.in_ok-put_optional_id.ensures.member, c.in_ok-put_bytes_field.ensures.records, c.in_ok-put_optional_number.ensures.records, c.in_ok-put_id.ensures.records, c.as_bytes.ensures.value, c.as_str.ensures, c.value_of.ensures, c.referent_of.ensures) (simp (append_assoc, append-nil))
