-- The canonical spelling of a GTIRB file.
use Rattle.std.specs.Prelude.{ℕ, List, [], ◌∷◌, ◌++◌, codes}
use Rattle.gt_model.specs.declared.ir.Ir.{Ir}
use Rattle.gt_model.specs.Schema.{ir_rows}
use Rattle.gt_model.specs.Views.{ir_value}
use Rattle.gt_write.specs.Spelling.{spelling}

-- the five letters, two bytes 0 and the version as one byte
abbrev pub prefix : ℕ → List ℕ
prefix version = codes "GTIRB" ++ 0 ∷ 0 ∷ version ∷ []

-- the prefix and the spelling of the IR as a message
unfoldable pub canonical : Ir → List ℕ
canonical ir = prefix ir.version ++ spelling ir_rows (ir_value ir)
