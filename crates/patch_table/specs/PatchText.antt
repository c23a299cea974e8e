-- What patch text gives.
use Rattle.std.specs.Prelude.{◌≡◌, ℕ, ◌==◌, if◌then◌else◌, List, [], ◌∷◌, Result, Ok, Err}
use Rattle.asm_read.specs.Words.{before_first}
use Rattle.gr_base.specs.declared.end.End.{End}
use Rattle.gr_base.specs.declared.end.End.TheVariants as ends
use Rattle.gt_model.specs.declared.modules.Module.{Module}
use Rattle.sym_expr.specs.declared.patches.PatchTable.{PatchTable}
use Rattle.patch_lines.specs.declared.fault.PatchFault.{PatchFault}
use Rattle.patch_lines.specs.declared.line.PatchLine.{PatchLine}
use Rattle.patch_lines.specs.Building.{outcome}
use Rattle.patch_table.specs.PatchLines.{Says}

-- the lines of a text: each ends with the byte 10, which the last may lack
abbrev pub lines_of : List ℕ → List (List ℕ)
lines_of [] = []
lines_of (b ∷ bytes) = if b == 10 then [] ∷ lines_of bytes else before_first (b ∷ []) (lines_of bytes)

-- what each line says
abbrev pub Say : List (List ℕ) → List PatchLine → Type 0
Say [] [] = Unit {0}
Say (line ∷ lines) (said ∷ more) = Says line said × Say lines more
Say _ _ = ⊥

-- the table that a text gives for a module, or the first fault
abbrev pub patch_text : List ℕ → Module → Result PatchTable PatchFault → Type 0
patch_text text m given = (said : List PatchLine) × Say (lines_of text) said × (given ≡ outcome m said)

-- what is answered holds, unless memory ran out
abbrev pub EndBy : {A F : Type 0} → End F → (Result A F → Type 0) → Type 0
EndBy ends.Memory P = Unit {0}
EndBy (ends.Fault f) P = P (Err f)

abbrev pub GivesBy : {A F : Type 0} → Result A (End F) → (Result A F → Type 0) → Type 0
GivesBy (Ok x) P = P (Ok x)
GivesBy (Err e) P = EndBy e P
