use Rattle.std.proofs.Common.{◌≡◌, drop, map}
use Rattle.a64_forms.specs.Names.{name, named_bits}
use Rattle.a64_forms.proofs.piece.named_bits.Given as goal

-- the rows that are left give the same
abbrev pub invariant-loop-row : goal.invariant-loop-row
invariant-loop-row l =
    named_bits (map (λ n. name n.0.now n.1) l.rows) l.text ≡ named_bits (map (λ n. name n.0.now n.1) (drop l.row-index l.rows)) l.text
