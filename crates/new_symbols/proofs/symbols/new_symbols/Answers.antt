use Rattle.std.proofs.Common.{◌≢◌, ℕ, List, ◌++◌, map, sym, ap, subst, ◌∙◌}
use Rattle.std.specs.Prelude.{AllPairs}
use Rattle.std.specs.Str.{bytes_eq}
use Rattle.std.specs.List.{AllByRecursion, flat_map}
use Rattle.gt_model.specs.declared.symbols.Symbol.{Symbol}
use Rattle.indexmap.specs.IndexMap.{get}
use Rattle.new_symbols.proofs.Apart.{parts_apart}
use Rattle.new_symbols.proofs.Lasts.{symbol_same}
use Rattle.new_symbols.proofs.Lists.{map_same}
use Rattle.new_symbols.specs.Finding.{symbol_by}
use Rattle.rewrite.specs.Symbols.{function_symbols, moved_symbol, names_of}
use Rattle.sym_expr.specs.declared.patches.Function.{Function}
use Rattle.new_symbols.proofs.symbols.new_symbols.Goals as goal

pub push_functions-requires : goal.push_functions-requires
push_functions-requires c =
    subst (AllByRecursion (λ (f : Function). AllPairs (λ (a b : List ℕ). a ≢ b) (names_of f))) (sym c.as_slice-functions.ensures)
    (parts_apart (λ (a b : List ℕ). a ≢ b) names_of c.args.patches.now.functions c.requires)

pub returns : goal.returns
returns c =
    let m = c.args.module.now in
    let g = c.args.program.now in
    let found = get bytes_eq c.in_ok-lasts.lasts in
    let fs = flat_map (function_symbols m) in
    c.from_vec.ensures
    ∙ c.in_ok-push_functions.ensures
    ∙ ap (λ (l : List Symbol). l ++ fs c.as_slice-functions.result.now) (c.in_ok-symbols.ensures ∙ ap (map (symbol_by found)) c.as_slice-old.ensures ∙ map_same (symbol_by found) (moved_symbol m g) m.symbols (symbol_same m g found c.in_ok-lasts.ensures))
    ∙ ap (λ (l : List Function). map (moved_symbol m g) m.symbols ++ fs l) c.as_slice-functions.ensures
