use Rattle.std.proofs.Common.{ap, ◌∙◌}
use Rattle.std.specs.Str.{bytes_eq}
use Rattle.new_edges.specs.Keyed.{value_at}
use Rattle.new_edges.proofs.Keys.{symbols_found}
use Rattle.new_edges.proofs.symbols.Loaded.symbol_starts.Goals as goal

pub returns : goal.returns
returns c = λ id.
    c.in_ok-index.ensures id
    ∙ ap (value_at bytes_eq id) (c.as_slice-keyed.ensures.value ∙ c.in_ok-entries.ensures)
    ∙ symbols_found c.args.self.now.module.now id c.args.self.now.module.now.symbols
