use Rattle.std.proofs.Common.{◌≡◌, Some, sym, ap, ◌∙◌}
use Rattle.std.proofs.lemmas.Result.{err_from_is_err_and}
use Rattle.node_arena.specs.declared.fault.CheckFault.TheVariants as faults
use Rattle.node_arena.proofs.Checked.{linkable, repeat-answered, bare-answered, reference-answered, nothing-answered}
use Rattle.node_arena.proofs.building.checked.Goals as goal

pub returns-in_err-index-clause-fault : goal.returns-in_err-index-clause-fault
returns-in_err-index-clause-fault c = λ f e.
    let p = err_from_is_err_and c.from_residual.result c.from_residual.ensures.1 in
    let q = c.in_err-index.ensures.fault f (cc) in
    repeat-answered c.args.ir.now c.args.draft.now.payloads.items c.args.draft.now.arena c.requires f q.0 q.1 q.2

pub returns-in-Some-clause-fault : goal.returns-in-Some-clause-fault
returns-in-Some-clause-fault c = λ f e.
    let same : faults.BareBlock c.in-Some.id ≡ f = cc in
    bare-answered c.args.ir.now c.args.draft.now.payloads.items c.args.draft.now.arena c.requires c.in_ok-index.ensures.distinct c.in-Some.id
    (sym (rw c.as_slice.ensures at c.bare_in.ensures) ∙ c.in-Some.is) ∙ ap (λ x. Some x) same

pub check_references-requires : goal.check_references-requires
check_references-requires c = linkable _ _ c.requires.tree c.in_ok-index.ensures.entries

pub returns-in-Ok-clause-linked : goal.returns-in-Ok-clause-linked
returns-in-Ok-clause-linked c =
    (c.linked_without_fault.ensures c.args.ir.now).0
    (nothing-answered c.args.ir.now c.args.draft.now.payloads.items c.args.draft.now.arena c.requires c.in_ok-index.ensures.distinct c.in_ok-index.index c.in_ok-index.ensures.entries
    (sym (rw c.as_slice.ensures at c.bare_in.ensures) ∙ c.in_default.is) c.in-Ok.ensures)

pub returns-in-Err-clause-fault : goal.returns-in-Err-clause-fault
returns-in-Err-clause-fault c = λ f e.
    let same : c.in-Err.fault ≡ f = cc in
    reference-answered c.args.ir.now c.args.draft.now.payloads.items c.args.draft.now.arena c.requires c.in_ok-index.ensures.distinct c.in_ok-index.index c.in_ok-index.ensures.entries
    (sym (rw c.as_slice.ensures at c.bare_in.ensures) ∙ c.in_default.is) f (c.in-Err.ensures ∙ ap (λ x. Some x) same)
