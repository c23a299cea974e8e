use Rattle.std.proofs.Common.{Option, List, [], sym, ap, ◌∙◌}
use Rattle.std.specs.Option.{unwrap_or}
use Rattle.patch_lines.specs.declared.symbols.SymbolUse.{SymbolUse}
use Rattle.patch_lines.proofs.Lookups.{any_named, is_any, not_empty}
use Rattle.patch_lines.proofs.first.has_symbol.Goals as goal

pub returns-in-Some : goal.returns-in-Some
returns-in-Some c =
    not_empty c.is_empty.result c.in-Some.uses.now c.is_empty.ensures
    ∙ ap is_any (ap (λ (o : Option (List SymbolUse)). unwrap_or o []) c.in-Some.ensures.value ∙ c.requires.named c.args.name.now)
    ∙ sym (any_named c.args.index.now.module.symbols c.args.name.now)

pub returns-in-None : goal.returns-in-None
returns-in-None c =
    ap is_any (ap (λ (o : Option (List SymbolUse)). unwrap_or o []) c.in-None.ensures.value ∙ c.requires.named c.args.name.now)
    ∙ sym (any_named c.args.index.now.module.symbols c.args.name.now)
