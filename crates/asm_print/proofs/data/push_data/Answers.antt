use Rattle.std.proofs.Common.{ℕ, ◌+◌, List, ◌++◌, drop, length, sym, ap, ◌∙◌, arith, length-drop}
use Rattle.std.proofs.lemmas.List.{drop_all, take_all}
use Rattle.std.proofs.lemmas.Result.{on_ok_weaker}
use Rattle.sym_expr.specs.declared.program.Filling.{Filling}
use Rattle.asm_print.specs.Items.{data_lines, run}
use Rattle.asm_print.proofs.data.push_data.Goals as goal

pub returns : goal.returns
returns c =
    let m = c.args.here.now.context.now.module in
    let i = c.args.here.now.interval.now in
    let bytes = c.args.bytes.now in
    let from = c.loop-offset.from in
    let out = c.loop-offset.out in
    let fewer = length-drop from bytes in
    let rest = c.part-rest.ensures ∙ take_all (length bytes) (drop from bytes) (omega (arith, fewer)) in
    let none = drop_all c.loop-offset.offset-index c.args.fillings.now c.loop-offset-test.false in
    on_ok_weaker c.push_run-2.result
    (λ e.
    e
    ∙ ap (λ (bs : List ℕ). out ++ run m i (c.args.at + from) bs) rest
    ∙ sym (ap (λ (fs : List (ℕ × Filling)). out ++ data_lines m i c.args.at bytes from fs) none)
    ∙ c.loop-offset.invariant.lines)
    c.push_run-2.ensures
