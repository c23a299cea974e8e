use Rattle.std.proofs.Common.{ap, ◌∙◌}
use Rattle.std.specs.Str.{bytes_eq}
use Rattle.patch_lines.specs.Keyed.{value_at}
use Rattle.patch_lines.proofs.Keys.{symbols_found}
use Rattle.patch_lines.proofs.symbols.payloads_by_id.Goals as goal

pub returns : goal.returns
returns c = λ id.
    c.in_ok-index.ensures id
    ∙ ap (value_at bytes_eq id) (c.as_slice.ensures.value ∙ c.in_ok-entries.ensures)
    ∙ symbols_found id c.args.symbols.now
