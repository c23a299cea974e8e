use Rattle.std.proofs.Common.{◌≡◌, ◌+◌, Option, Some, None, ℕ, List, take, drop, sym, ap, ◌∙◌, arith}
use Rattle.std.specs.HashMap.{get_by_text}
use Rattle.std.specs.Option.{is_some}
use Rattle.std.proofs.lemmas.List.{take_all}
use Rattle.patch_lines.specs.declared.fault.PatchFault.{PatchFault}
use Rattle.patch_lines.proofs.Steps.{second_ends, second_goes_on, second_stops}
use Rattle.patch_lines.proofs.second.check_targets.Goals as goal

pub loop-line-preserved : goal.loop-line-preserved
loop-line-preserved c =
    let f = λ (q : List ℕ). is_some (get_by_text c.args.names.now q) in
    record {
      number = ap (λ n. n + 1) c.loop-line.invariant.number;
      rest = second_goes_on c.args.index.now.module c.args.lines.now c.loop-line.line-index c.line-item.result c.loop-line-test.true c.line-item.is f c.in_default.ensures ∙ c.loop-line.invariant.rest;
    }

pub returns-in-Err : goal.returns-in-Err
returns-in-Err c =
    let f = λ (q : List ℕ). is_some (get_by_text c.args.names.now q) in
    sym c.loop-line.invariant.rest
    ∙ second_stops c.args.index.now.module c.args.lines.now c.loop-line.line-index c.line-item.result c.loop-line-test.true c.line-item.is f c.in-Err.reason c.in-Err.ensures
    ∙ ap (λ n. let fault : Option PatchFault = Some (record { line = n + 1; reason = c.in-Err.reason }) in fault) (sym c.loop-line.invariant.number)

pub returns : goal.returns
returns c =
    let f = λ (q : List ℕ). is_some (get_by_text c.args.names.now q) in
    sym c.loop-line.invariant.rest ∙ second_ends c.args.index.now.module f c.args.lines.now c.loop-line.line-index (take_all c.loop-line.line-index c.args.lines.now c.loop-line-test.false)
