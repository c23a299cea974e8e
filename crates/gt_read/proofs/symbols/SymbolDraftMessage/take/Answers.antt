use Rattle.std.proofs.Common.{◌≡◌, false, eqb, refl, arith}
use Rattle.std.proofs.lemmas.Bool.{ne_eqb}
use Rattle.std.proofs.lemmas.List.{append-nil}
use Rattle.std.proofs.lemmas.Result.{err_from_is_err_and}
use Rattle.gt_model.specs.Schema.{symbol_rows}
use Rattle.gt_read.specs.Drafts.Views.{symbol_draft}
use Rattle.gt_read.specs.Drafts.Draft.{step}
use Rattle.gt_read.specs.Faults.{piece_faults}
use Rattle.gt_read.specs.Drafts.Answers.{carried}
use Rattle.gt_read.proofs.DraftLemmas.{silent}
use Rattle.gt_read.proofs.Members.{value_steps, referent_steps}
use Rattle.gt_read.proofs.symbols.SymbolDraftMessage.take.Goals as goal

pub returns-in-1 : goal.returns-in-1
unfolding step piece_faults symbol_rows symbol_draft
returns-in-1 c = rw c.in-1.is (rw c.take.ensures.id refl, silent c.args.part.now.place (carried c.args.part.now.carried))

pub returns-in-2 : goal.returns-in-2
unfolding step piece_faults symbol_rows symbol_draft
returns-in-2 c = rw c.in-2.is (rw c.take_value.ensures (value_steps c.args.self.now c.args.part.now.place (carried c.args.part.now.carried)), silent c.args.part.now.place (carried c.args.part.now.carried))

pub returns-in_ok-take_text-in-3 : goal.returns-in_ok-take_text-in-3
unfolding step piece_faults symbol_rows symbol_draft
returns-in_ok-take_text-in-3 c =
    rw c.in-3.is (rw c.in_ok-take_text-in-3.ensures.0 refl, rw c.in_ok-take_text-in-3.ensures.1 refl)

pub returns-in_err-take_text-in-3 : goal.returns-in_err-take_text-in-3
unfolding step piece_faults symbol_rows symbol_draft
returns-in_err-take_text-in-3 c =
    let p = err_from_is_err_and c.from_residual.result c.from_residual.ensures.1 in
    rw (p.1, p.2, c.in-3.is, append-nil) c.in_err-take_text-in-3.ensures

pub returns-in-5 : goal.returns-in-5
unfolding step piece_faults symbol_rows symbol_draft
returns-in-5 c = rw c.in-5.is (rw c.take_referent.ensures (referent_steps c.args.self.now c.args.part.now.place (carried c.args.part.now.carried)), silent c.args.part.now.place (carried c.args.part.now.carried))

pub returns-in-6 : goal.returns-in-6
unfolding step piece_faults symbol_rows symbol_draft
returns-in-6 c = rw c.in-6.is (rw c.take_flag.ensures refl, silent c.args.part.now.place (carried c.args.part.now.carried))

pub returns-in_default : goal.returns-in_default
unfolding step piece_faults symbol_rows symbol_draft
returns-in_default c =
    let n = c.args.part.now.number in
    let n1 : eqb n 1 ≡ false = ne_eqb n 1 (λ e. omega arith) in
    let n2 : eqb n 2 ≡ false = ne_eqb n 2 (λ e. omega arith) in
    let n3 : eqb n 3 ≡ false = ne_eqb n 3 (λ e. omega arith) in
    let n5 : eqb n 5 ≡ false = ne_eqb n 5 (λ e. omega arith) in
    let n6 : eqb n 6 ≡ false = ne_eqb n 6 (λ e. omega arith) in
    rw (n1, n2, n3, n5, n6) (refl, refl)
