-- The canonical spelling of an IR is a file that means it.
use Rattle.std.proofs.Common.{ℕ, List, [], ◌++◌, refl, ap, ◌∙◌}
use Rattle.std.specs.List.{flat_map}
use Rattle.gt_model.specs.declared.ir.Ir.{Ir}
use Rattle.gt_model.specs.Schema.{ir_rows}
use Rattle.gt_model.specs.Typed.{typed}
use Rattle.gt_model.specs.Ordered.{ordered}
use Rattle.gt_model.specs.Views.{ir_value}
use Rattle.gt_read.specs.declared.fault.FormatFault.{FormatFault}
use Rattle.gt_read.specs.Pieces.{Walk}
use Rattle.gt_read.specs.Meaning.{meaning}
use Rattle.gt_read.specs.Identifiers.{bad, plain}
use Rattle.gt_read.specs.Faults.{piece_faults, broken_faults}
use Rattle.gt_read.specs.File.{file, body_at, body_meaning}
use Rattle.gt_write.specs.Spelling.{spelling}
use Rattle.gt_write.specs.Canonical.{canonical}
use Rattle.gt_write.specs.Lengths.{every_length_fits}
use Rattle.gt_write.proofs.ReadingLaws.{ReadingLaws}
use Rattle.gt_write.proofs.Walking.{walked}
use Rattle.gt_write.proofs.Backs.{MessageBack, all_none}
use Rattle.gt_write.proofs.ReadsBack.{message_reads_back}
use Rattle.gt_write.proofs.SpellableIr.{ir_spellable}

module _ (laws : ReadingLaws) (ir : Ir) (t : typed ir) (o : ordered ir) (short : every_length_fits ir) where
  abbrev body : List ℕ
  body = spelling ir_rows (ir_value ir)

  back : MessageBack ir_rows (ir_value ir) body_at
  back = message_reads_back laws ir_rows (ir_value ir) body_at (ir_spellable ir t o) short

  pub canonical_file : file (canonical ir) ir
  unfolding canonical body_meaning
  canonical_file =
      let whole = walked body body_at back.ps back.walks in
      record {
        reserved = (0, 0);
        version = ir.version;
        body = body;
        whole = refl;
        sound =
            ap (λ (x : Walk). flat_map (piece_faults ir_rows) x.pieces ++ broken_faults x.broken) whole
            ∙ ap (λ (l : List FormatFault). l ++ []) (all_none (piece_faults ir_rows) back.ps back.sound);
        ids = ap (λ (x : Walk). bad ir_rows (meaning ir_rows 0 x.pieces)) whole ∙ back.clean 0;
        value = ap (λ (x : Walk). plain ir_rows (meaning ir_rows 0 x.pieces)) whole ∙ back.value 0;
        same_version = refl;
      }
