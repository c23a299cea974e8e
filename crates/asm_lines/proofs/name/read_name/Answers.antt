use Rattle.std.proofs.Common.{◌≡◌, ◌++◌, ◌∷◌, List, ℕ}
use Rattle.std.specs.List.{flat_map}
use Rattle.asm_lines.specs.Labels.{HasName, escaped}
use Rattle.asm_lines.proofs.Fronts.{mapped_ok, quoted_entry}
use Rattle.asm_lines.proofs.name.read_name.Goals as goal

pub returns-in-Some-clause-found : goal.returns-in-Some-clause-found
returns-in-Some-clause-found c = mapped_ok
    c.read_quoted.result
    (λ rest. (more : List ℕ) × (c.read_quoted.new.name ≡ c.args.name.now ++ more) × (c.in-Some.inside.now ≡ flat_map escaped more ++ 34 ∷ rest.now))
    (λ rest. HasName c.args.text.now c.read_quoted.new.name rest.now)
    (λ rest h. quoted_entry c.args.text.now c.in-Some.inside.now c.args.name.now c.read_quoted.new.name h.0 rest.now c.in-Some.ensures c.requires h.1 h.2)
    c.read_quoted.ensures.found
