-- Bytes without a fault mean an IR.
use Rattle.std.proofs.Common.{◌≡◌, ℕ, Bool, true, false, cond, eqb, List, [], ◌∷◌, Option, Some, None, refl, sym}
use Rattle.std.specs.Option.{option_map}
use Rattle.std.proofs.lemmas.Bool.{eqb-true}
use Rattle.gt_model.specs.declared.ir.Ir.{Ir}
use Rattle.gt_model.specs.Schema.{ir_rows}
use Rattle.gt_model.specs.Views.{ir_value}
use Rattle.gt_read.specs.declared.fault.FormatFault.{FormatFault}
use Rattle.gt_read.specs.declared.fault.FormatFault.TheVariants.{Version, UuidLength}
use Rattle.gt_read.specs.declared.ids.IdFault.{IdFault}
use Rattle.gt_read.specs.Pieces.{pieces}
use Rattle.gt_read.specs.Identifiers.{plain}
use Rattle.gt_read.specs.Faults.{faults, first_of}
use Rattle.gt_read.specs.File.{file, format_fault, prefix_fault, body_fault, id_fault, version_of, version_fault, version_byte, body_of, body_at, body_meaning, or_else}
use Rattle.gt_read.specs.Drafts.Bodies.{IsBody}
use Rattle.gt_read.proofs.FileLemmas.{is_file}
use Rattle.gt_read.proofs.EveryMeaning.{Made, ir_made}

neither : {A : Type 0} (a b : Option A) → or_else a b ≡ None → (a ≡ None) × (b ≡ None)
neither None b e = (refl, e)
neither (Some x) b e = absurd cc

no_first : (fs : List FormatFault) → first_of fs ≡ None → fs ≡ []
no_first [] e = refl
no_first (f ∷ fs) e = absurd cc

same_byte : (byte version : ℕ) → version_fault byte version ≡ None → byte ≡ version
unfolding version_fault
same_byte byte version e = by (eqb byte version) refl e
  where
    by : (b : Bool) → eqb byte version ≡ b → cond b None (Some (Version byte version)) ≡ None → byte ≡ version
    by true is e = eqb-true _ _ is
    by false is e = absurd cc

no_id : (o : Option IdFault) → option_map (λ (f : IdFault). UuidLength f.place f.len) o ≡ None → o ≡ None
no_id None e = refl
no_id (Some f) e = absurd cc

body_made : (body : List ℕ) → Made ir_value (plain ir_rows (body_meaning body))
unfolding body_meaning
body_made body = ir_made 0 (pieces body body_at)

pub sound_as : (bytes : List ℕ) (made : Ir) → format_fault bytes ≡ None → plain ir_rows (body_meaning (body_of bytes)) ≡ ir_value made → file bytes made
unfolding format_fault id_fault
sound_as bytes made e value =
    let body = body_of bytes in
    let byte = version_byte bytes in
    let first = neither (prefix_fault bytes) _ e in
    let second = neither (body_fault byte body) _ first.1 in
    let third = neither (first_of (faults ir_rows body body_at)) _ second.0 in
    let is : IsBody byte body made None = record {
      sound = no_first _ third.0;
      same_version = same_byte byte (version_of (body_meaning body)) third.1;
      value = sym value;
      ids = sym (no_id _ second.1);
    } in
    is_file bytes made first.0 is

pub sound_file : (bytes : List ℕ) → format_fault bytes ≡ None → (ir : Ir) × file bytes ir
sound_file bytes e = let made = body_made (body_of bytes) in (made.0, sound_as bytes made.0 e (sym made.1))
