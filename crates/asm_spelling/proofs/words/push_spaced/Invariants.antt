use Rattle.std.proofs.Common.{◌≡◌, ◌∷◌, ◌++◌, take}
use Rattle.std.specs.List.{flat_map}
use Rattle.asm_spelling.proofs.words.push_spaced.Given as goal

abbrev pub invariant-loop-text : goal.invariant-loop-text
invariant-loop-text l = l.line ≡ l.initial.line ++ flat_map (λ text. 32 ∷ text) (take l.text-index l.texts)
