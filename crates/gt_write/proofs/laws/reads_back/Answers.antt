use Rattle.std.proofs.Common.{arith}
use Rattle.std.proofs.lemmas.List.{length-append}
use Rattle.gt_model.specs.Schema.{ir_rows}
use Rattle.gt_model.specs.Views.{ir_value}
use Rattle.gt_write.specs.Canonical.{prefix, canonical}
use Rattle.gt_write.specs.Spelling.{spelling}
use Rattle.gt_write.proofs.CanonicalFile.{canonical_file}
use Rattle.gt_write.proofs.LengthsFrom.{rows_fit}
use Rattle.gt_write.proofs.laws.reads_back.Goals as goal

pub returns-clause-means : goal.returns-clause-means
returns-clause-means c = canonical_file (record {
  taken = c.records_one_by_one.ensures;
  varint = c.short_spellings.ensures.varint;
  run = c.short_spellings.ensures.run;
  shortest_is = c.shortest_is_varint.ensures;
  unpacked = c.packed_runs_are_varints.ensures.list;
})

pub returns-clause-fits : goal.returns-clause-fits
unfolding canonical
returns-clause-fits c = λ ir short. rows_fit ir_rows (ir_value ir) (omega (arith, short, length-append (prefix ir.version) (spelling ir_rows (ir_value ir))))
