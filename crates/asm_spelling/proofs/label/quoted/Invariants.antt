use Rattle.std.proofs.Common.{◌≡◌, ◌∷◌, take}
use Rattle.std.specs.List.{flat_map}
use Rattle.asm_lines.specs.Labels.{escaped}
use Rattle.asm_spelling.proofs.label.quoted.Given as goal

abbrev pub invariant-loop-byte : goal.invariant-loop-byte
invariant-loop-byte l = l.text ≡ 34 ∷ flat_map escaped (take l.byte-index l.name)
