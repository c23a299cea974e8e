use Rattle.std.proofs.Common.{◌++◌, ◌∷◌, ℕ, List, [], Option, cond, take, ap, ◌∙◌}
use Rattle.std.specs.Str.{bytes_eq}
use Rattle.patch_lines.specs.declared.symbols.SymbolUse.{SymbolUse}
use Rattle.patch_lines.specs.Naming.{use_with, uses_named}
use Rattle.patch_lines.proofs.Grown.{uses_more}
use Rattle.patch_lines.proofs.symbols.uses_by_name.Goals as goal

pub loop-symbol-preserved : goal.loop-symbol-preserved
loop-symbol-preserved c =
    let symbols = c.args.symbols.now in
    let i = c.loop-symbol.symbol-index in
    let s = c.symbol-item.result in
    λ q.
    c.in_ok-add_use.ensures q
    ∙ ap (λ (us : List SymbolUse). us ++ cond (bytes_eq q c.as_str.result.now) (use_with s.uuid c.start_of-start.result ∷ []) []) (c.loop-symbol.invariant q)
    ∙ ap (λ (n : List ℕ). uses_named (take i symbols) q ++ cond (bytes_eq q n) (use_with s.uuid c.start_of-start.result ∷ []) []) c.as_str.ensures
    ∙ ap (λ (o : Option (List ℕ)). uses_named (take i symbols) q ++ cond (bytes_eq q s.name) (use_with s.uuid o ∷ []) []) c.start_of-start.ensures
    ∙ uses_more symbols i s q c.loop-symbol-test.true c.symbol-item.is
