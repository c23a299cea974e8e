use Rattle.std.proofs.Common.{◌≡◌, drop, map}
use Rattle.a64_forms.specs.Names.{name}
use Rattle.asm_spelling.specs.Slots.{name_of}
use Rattle.asm_spelling.proofs.slots.name_of.Given as goal

-- the rows that are left give the same
abbrev pub invariant-loop-row : goal.invariant-loop-row
invariant-loop-row l = name_of (map (λ n. name n.0.now n.1) l.rows) l.bits ≡ name_of (map (λ n. name n.0.now n.1) (drop l.row-index l.rows)) l.bits
