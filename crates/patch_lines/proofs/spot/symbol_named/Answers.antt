use Rattle.std.proofs.Common.{Option, List, [], ap, ◌∙◌}
use Rattle.std.specs.Option.{unwrap_or}
use Rattle.patch_lines.specs.declared.symbols.SymbolUse.{SymbolUse}
use Rattle.patch_lines.specs.Naming.{pick, uses_named}
use Rattle.patch_lines.proofs.spot.symbol_named.Goals as goal

pub returns-in-Some : goal.returns-in-Some
returns-in-Some c =
    c.pick.ensures
    ∙ ap (λ us. pick us c.args.label.now.ordinal) (c.as_slice.ensures ∙ ap (λ (o : Option (List SymbolUse)). unwrap_or o []) c.in-Some.ensures.value ∙ c.requires.named c.as_str.result.now)
    ∙ ap (λ q. pick (uses_named c.args.index.now.module.symbols q) c.args.label.now.ordinal) c.as_str.ensures

pub returns-in-None : goal.returns-in-None
returns-in-None c =
    c.pick-in-None.ensures
    ∙ ap (λ us. pick us c.args.label.now.ordinal) (ap (λ (o : Option (List SymbolUse)). unwrap_or o []) c.in-None.ensures.value ∙ c.requires.named c.as_str.result.now)
    ∙ ap (λ q. pick (uses_named c.args.index.now.module.symbols q) c.args.label.now.ordinal) c.as_str.ensures
