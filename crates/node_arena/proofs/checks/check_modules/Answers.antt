use Rattle.std.proofs.Common.{◌≡◌, ◌+◌, ◌∷◌, ◌++◌, [], take, drop, length, ap, sym, ◌∙◌, append-nil, arith}
use Rattle.std.specs.Option.{option_map}
use Rattle.std.proofs.lemmas.List.{take_more, length-take}
use Rattle.std.proofs.lemmas.Result.{err_from_is_err_and}
use Rattle.gt_model.specs.Linked.{first_reference_fault}
use Rattle.gt_model.specs.References.{module_references, references_from}
use Rattle.node_arena.specs.Checking.{kind_found, check_fault}
use Rattle.node_arena.proofs.IndexLists.{around}
use Rattle.node_arena.proofs.Faults.{none-both, fault-later, fault-earlier, references_from-append}
use Rattle.node_arena.proofs.checks.check_modules.Goals as goal

pub loop-k-preserved : goal.loop-k-preserved
loop-k-preserved c =
    let xs = c.args.modules.now in
    let k = c.loop-k.k in
    let x = c.index-modules-k.result in
    let len : 0 + length (take k xs) ≡ k = simp length-take (omega arith) in
    ap (λ l. first_reference_fault (kind_found c.args.arena.now c.args.index.now) (references_from 0 l)) (take_more xs k x c.loop-k-test.true ∙ ap (λ y. take k xs ++ y ∷ []) (sym c.index-modules-k.is))
    ∙ ap (first_reference_fault (kind_found c.args.arena.now c.args.index.now)) (references_from-append 0 k (take k xs) (x ∷ []) len ∙ ap (λ l. references_from 0 (take k xs) ++ l) (append-nil (module_references k x)))
    ∙ none-both (kind_found c.args.arena.now c.args.index.now) (references_from 0 (take k xs)) (module_references k x) c.loop-k.invariant c.in_ok-check_module.ensures

pub returns-in_err-check_module : goal.returns-in_err-check_module
returns-in_err-check_module c =
    let xs = c.args.modules.now in
    let k = c.loop-k.k in
    let x = c.index-modules-k.result in
    let len : 0 + length (take k xs) ≡ k = simp length-take (omega arith) in
    let kind_of = kind_found c.args.arena.now c.args.index.now in
    let p = err_from_is_err_and c.from_residual.result c.from_residual.ensures.1 in
    rw (p.1, p.2)
    (ap (λ l. option_map check_fault (first_reference_fault kind_of (references_from 0 l))) (around xs k x c.loop-k-test.true ∙ ap (λ y. take k xs ++ y ∷ drop (k + 1) xs) (sym c.index-modules-k.is))
    ∙ ap (λ l. option_map check_fault (first_reference_fault kind_of l)) (references_from-append 0 k (take k xs) (x ∷ drop (k + 1) xs) len)
    ∙ fault-later kind_of (references_from 0 (take k xs)) (module_references k x ++ references_from (k + 1) (drop (k + 1) xs)) _ c.loop-k.invariant
    (fault-earlier kind_of (module_references k x) (references_from (k + 1) (drop (k + 1) xs)) _ c.in_err-check_module.ensures))
