-- A body that was read.
use Rattle.std.specs.Prelude.{◌≡◌, ℕ, List, [], Option}
use Rattle.gt_model.specs.declared.ir.Ir.{Ir}
use Rattle.gt_model.specs.Schema.{ir_rows}
use Rattle.gt_model.specs.Views.{ir_value}
use Rattle.gt_read.specs.declared.ids.IdFault.{IdFault}
use Rattle.gt_read.specs.Identifiers.{bad, least, plain}
use Rattle.gt_read.specs.Faults.{faults}
use Rattle.gt_read.specs.File.{body_at, body_meaning, version_of}

-- the body's records are sound, its version is that of the byte, and the IR and the fault are its meaning's
pub record IsBody (byte : ℕ) (body : List ℕ) (ir : Ir) (fault : Option IdFault) : Type 0 where
  pub sound : faults ir_rows body body_at ≡ []
  pub same_version : byte ≡ version_of (body_meaning body)
  pub value : ir_value ir ≡ plain ir_rows (body_meaning body)
  pub ids : fault ≡ least (bad ir_rows (body_meaning body))
