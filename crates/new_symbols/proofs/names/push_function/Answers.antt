use Rattle.std.proofs.Common.{List, ◌++◌, ◌∷◌, [], ap, ◌∙◌, append_assoc}
use Rattle.gt_model.specs.declared.symbols.Symbol.{Symbol}
use Rattle.new_symbols.proofs.Labels.{labels_apart, names_are}
use Rattle.new_symbols.specs.Naming.{label_symbols}
use Rattle.rewrite.specs.Symbols.{name_symbol}
use Rattle.sym_expr.specs.Patches.{Start}
use Rattle.new_symbols.proofs.names.push_function.Goals as goal

pub push_labels-requires : goal.push_labels-requires
push_labels-requires c = labels_apart c.args.function.now c.requires

pub returns : goal.returns
returns c =
    let m = c.args.module.now in
    let f = c.args.function.now in
    let old = c.args.symbols.now.items in
    let own : Symbol = name_symbol m f f.name (Start 0) in
    c.in_ok-push_labels.ensures
    ∙ ap (λ (l : List Symbol). l ++ label_symbols m f) (c.in_ok-push.ensures.items ∙ ap (λ (s : Symbol). old ++ s ∷ []) c.in_ok-own.ensures)
    ∙ append_assoc old (own ∷ []) (label_symbols m f)
    ∙ ap (λ (l : List Symbol). old ++ l) (names_are m f c.requires)
