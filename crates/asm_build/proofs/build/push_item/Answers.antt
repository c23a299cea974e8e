use Rattle.std.proofs.Common.{refl}
use Rattle.std.proofs.lemmas.Result.{on_ok_weaker}
use Rattle.asm_build.proofs.Built.{set_last}
use Rattle.asm_build.proofs.build.push_item.Goals as goal

pub returns-in-Some : goal.returns-in-Some
returns-in-Some c =
    let old = c.args.intervals.now in
    on_ok_weaker c.push.result
    (λ put. set_last old.items old.len c.in-Some.interval.now c.push.new.self c.args.item old.ok.0 (c.in-Some.ensures.variant.0 refl) c.in-Some.ensures.value put)
    c.push.ensures.ok
