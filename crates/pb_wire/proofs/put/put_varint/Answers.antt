use Rattle.std.proofs.Common.{◌≡◌, ◌+◌, ◌%◌, set, take, refl, arith}
use Rattle.std.proofs.lemmas.Grind.{common_steps}
use Rattle.std.proofs.lemmas.List.{length-set}
use Rattle.pb_wire.specs.Varint.{shortest}
use Rattle.pb_wire.proofs.Shortest.{begins, goes_on, ends}
use Rattle.pb_wire.proofs.put.put_varint.Goals as goal

pub loop-rest-init : goal.loop-rest-init
loop-rest-init c = (begins _ c.args.value, refl)

pub loop-rest-preserved : goal.loop-rest-preserved
loop-rest-preserved c = (goes_on c.loop-rest.buffer c.loop-rest.len c.loop-rest.rest c.args.value (omega arith) c.loop-rest.invariant.1 c.loop-rest.invariant.0 (omega arith), omega (arith, length-set c.loop-rest.buffer c.loop-rest.len (128 + c.loop-rest.rest % 128), c.loop-rest.invariant.1))

pub returns-clause-ok : goal.returns-clause-ok
returns-clause-ok c =
    let e : take (c.loop-rest.len + 1) (set c.loop-rest.buffer c.loop-rest.len c.loop-rest.rest) ≡ shortest c.args.value = ends c.loop-rest.buffer c.loop-rest.len c.loop-rest.rest c.args.value c.loop-rest.invariant.1 c.loop-rest.invariant.0 (omega arith) in
    grind (arith, common_steps)
