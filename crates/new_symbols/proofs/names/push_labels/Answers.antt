use Rattle.std.proofs.Common.{◌≡◌, ℕ, Bool, true, ◌+◌, List, ◌∷◌, ◌++◌, [], length, drop, sym, ap, ◌∙◌, append_assoc, append-nil, arith}
use Rattle.std.proofs.lemmas.List.{at_drop_all, at_drop_more}
use Rattle.gt_model.specs.declared.symbols.Symbol.{Symbol}
use Rattle.new_symbols.specs.declared.names.Begun.{Begun}
use Rattle.new_symbols.specs.Naming.{line_symbols, next_begun}
use Rattle.new_symbols.proofs.Cutting.{blocks_counted, next_counts, next_small}
use Rattle.new_symbols.proofs.Labels.{all_labels, line_yet, symbols_yet}
use Rattle.sym_expr.specs.declared.patches.FunLine.{FunLine}
use Rattle.sym_expr.specs.Patches.{function_blocks}
use Rattle.taken_ids.specs.Functions.{starts_in}
use Rattle.new_symbols.proofs.names.push_labels.Goals as goal

pub loop-line-init : goal.loop-line-init
loop-line-init c =
    let m = c.args.module.now in
    let f = c.args.function.now in
    let old = c.args.symbols.now.items in
    let b = c.first-begun.result in
    let lines = c.as_slice-line-items.result.now in
    let sum : b.count + starts_in b.fresh lines ≡ 0 + starts_in true f.body =
    ap (λ (n : ℕ). n + starts_in b.fresh lines) c.first-begun.ensures.0
    ∙ ap (λ (x : Bool). 0 + starts_in x lines) c.first-begun.ensures.1
    ∙ ap (λ (l : List FunLine). 0 + starts_in true l) c.as_slice-line-items.ensures in
    let all = blocks_counted f in
    record {
      all = ap (λ (n : ℕ). old ++ symbols_yet m f n b.fresh lines) c.first-begun.ensures.0
          ∙ ap (λ (x : Bool). old ++ symbols_yet m f 0 x lines) c.first-begun.ensures.1
          ∙ ap (λ (l : List FunLine). old ++ symbols_yet m f 0 true l) c.as_slice-line-items.ensures;
      rest = omega (arith, sum, all);
      room = omega (arith, c.first-begun.ensures.0);
    }

pub loop-line-preserved : goal.loop-line-preserved
loop-line-preserved c =
    let m = c.args.module.now in
    let f = c.args.function.now in
    let b = c.loop-line.begun in
    let lines = c.as_slice-line-items.result.now in
    let k = c.loop-line.line-index in
    let line = c.line-item.result in
    let left : List FunLine = drop (k + 1) lines in
    let yet : Begun → List FunLine → ℕ = λ (n : Begun) (ls : List FunLine). n.count + starts_in n.fresh ls in
    let come : Begun → List FunLine → List Symbol = λ (n : Begun) (ls : List FunLine). symbols_yet m f n.count n.fresh ls in
    let here : yet b (line ∷ left) ≡ yet b (drop k lines) = ap (λ (x : FunLine). yet b (x ∷ left)) c.line-item.is ∙ sym (at_drop_more (yet b) lines k line c.loop-line-test.true) in
    let there : come b (line ∷ left) ≡ come b (drop k lines) = ap (λ (x : FunLine). come b (x ∷ left)) c.line-item.is ∙ sym (at_drop_more (come b) lines k line c.loop-line-test.true) in
    record {
      all = ap (λ (l : List Symbol). l ++ come c.next-begun.result left) c.in_ok-push_line.ensures
          ∙ ap (λ (n : Begun). (c.loop-line.symbols.items ++ line_symbols m f b.count line) ++ come n left) c.next-begun.ensures
          ∙ append_assoc c.loop-line.symbols.items (line_symbols m f b.count line) (come (next_begun b line) left)
          ∙ ap (λ (l : List Symbol). c.loop-line.symbols.items ++ l) (line_yet m f b line left (here ∙ c.loop-line.invariant.rest) ∙ there)
          ∙ c.loop-line.invariant.all;
      rest = ap (λ (n : Begun). yet n left) c.next-begun.ensures ∙ next_counts b line left ∙ here ∙ c.loop-line.invariant.rest;
      room = let same = ap (λ (n : Begun). n.count) c.next-begun.ensures in let most = next_small b line k c.loop-line.invariant.room in omega (arith, same, most);
    }

pub returns : goal.returns
returns c =
    let m = c.args.module.now in
    let f = c.args.function.now in
    let b = c.loop-line.begun in
    let come : List FunLine → List Symbol = λ (ls : List FunLine). symbols_yet m f b.count b.fresh ls in
    sym (append-nil c.loop-line.symbols.items)
    ∙ ap (λ (l : List Symbol). c.loop-line.symbols.items ++ l) (sym (at_drop_all come c.as_slice-line-items.result.now c.loop-line.line-index c.loop-line-test.false))
    ∙ c.loop-line.invariant.all
    ∙ ap (λ (l : List Symbol). c.args.symbols.now.items ++ l) (all_labels m f c.requires)
