use Rattle.std.proofs.Common.{◌≡◌, drop, map}
use Rattle.a64_forms.specs.Names.{name}
use Rattle.a64_forms.specs.Spelling.{form, piece}
use Rattle.asm_spelling.specs.Words.{first_written}
use Rattle.asm_spelling.proofs.forms.first_written.Given as goal

-- the rows that are left give the same
abbrev pub invariant-loop-row : goal.invariant-loop-row
invariant-loop-row l =
    first_written l.word l.named (map (λ f. form (map (λ n. name n.0.now n.1) f.0.now) (map (λ p. piece p.0.now p.1 p.2.now) f.1.now) f.2.now) l.rows)
    ≡ first_written l.word l.named (map (λ f. form (map (λ n. name n.0.now n.1) f.0.now) (map (λ p. piece p.0.now p.1 p.2.now) f.1.now) f.2.now) (drop l.row-index l.rows))
