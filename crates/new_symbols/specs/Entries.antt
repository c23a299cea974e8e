-- Code blocks as entries by their identifiers, each with the identifier of its last part.
use Rattle.std.specs.Prelude.{ℕ, List, Option, find}
use Rattle.std.specs.Option.{option_map}
use Rattle.std.specs.Str.{bytes_eq}
use Rattle.gt_model.specs.declared.modules.Module.{Module}
use Rattle.rewrite.specs.Symbols.{last_id}
use Rattle.sym_expr.specs.declared.program.CodeBlock.{CodeBlock}

-- of several entries of one identifier the first counts
abbrev pub value_of : List ℕ → List (List ℕ × List ℕ) → Option (List ℕ)
value_of id entries = option_map (λ (e : List ℕ × List ℕ). e.1) (find (λ (e : List ℕ × List ℕ). bytes_eq e.0 id) entries)

abbrev pub last_entry : Module → CodeBlock → List ℕ × List ℕ
last_entry m b = (b.id, last_id m b)
