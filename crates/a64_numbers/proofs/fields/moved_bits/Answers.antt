use Rattle.std.proofs.Common.{◌+◌, ◌^◌, ◌<◌, ◌-◌, arith}
use Rattle.std.proofs.lemmas.Nat.{pow_pos, mod_below, shl_whole}
use Rattle.a64_inst.specs.Numbers.{bits_of}
use Rattle.a64_numbers.proofs.Widths.{width_most}
use Rattle.a64_numbers.proofs.fields.moved_bits.Goals as goal

pub returns-else-immr-imms : goal.returns-else-immr-imms
returns-else-immr-imms c =
    let most = width_most c.args.width in
    let small : c.low_bits-else-immr-imms.result < 2 ^ (c.args.imms + 1) = rw c.low_bits-else-immr-imms.ensures (mod_below c.low-a.result (2 ^ (c.args.imms + 1)) (pow_pos (c.args.imms + 1))) in
    let whole = shl_whole c.low_bits-else-immr-imms.result (c.args.imms + 1) (bits_of c.args.width - c.args.immr) 64 small (omega arith) in
    let bits = c.low_bits-else-immr-imms.ensures in
    let low = c.low-a.ensures in
    rw (c.bits.ensures.value, whole, bits, low) (grind arith)
