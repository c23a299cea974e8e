use Rattle.std.proofs.Common.{◌+◌, ◌^◌, ◌<◌, ◌≤◌, arith}
use Rattle.std.proofs.lemmas.Nat.{pow_pos, mod_below}
use Rattle.a64_inst.specs.Numbers.{moved_place}
use Rattle.a64_inst.specs.Numbers.{bits_of}
use Rattle.a64_numbers.proofs.Moved.{field_room, joined_fits}
use Rattle.a64_numbers.proofs.Widths.{width_most}
use Rattle.a64_numbers.proofs.fields.with_field.Goals as goal

pub overflow_add-result : goal.overflow_add-result
overflow_add-result c =
    let w = bits_of c.args.width in
    let room = field_room w c.args.immr c.args.imms c.args.b in
    let small : c.low-whole.result < 2 ^ w = rw c.low-whole.ensures (mod_below c.args.a (2 ^ w) (pow_pos w)) in
    let place = moved_place w c.args.immr c.args.imms in
    let room : c.moved_bits.result + 2 ^ place ≤ 2 ^ c.moved_top.result = rw (c.moved_bits.ensures, c.moved_top.ensures.value) room in
    let fits = joined_fits w c.moved_top.result place c.low-whole.result c.moved_bits.result 0 (width_most c.args.width) c.moved_top.ensures.most small room (pow_pos place) in
    let low = c.low_bits.ensures in
    omega (arith, fits, low)

pub overflow_add-result-2 : goal.overflow_add-result-2
overflow_add-result-2 c =
    let w = bits_of c.args.width in
    let room = field_room w c.args.immr c.args.imms c.args.b in
    let small : c.low-whole.result < 2 ^ w = rw c.low-whole.ensures (mod_below c.args.a (2 ^ w) (pow_pos w)) in
    let place = c.moved_place.result in
    let below : c.low_bits-2.result < 2 ^ place = rw c.low_bits-2.ensures (mod_below c.args.a (2 ^ place) (pow_pos place)) in
    let room : c.moved_bits.result + 2 ^ place ≤ 2 ^ c.moved_top.result = rw (c.moved_bits.ensures, c.moved_top.ensures.value, c.moved_place.ensures.value) room in
    let fits = joined_fits w c.moved_top.result place c.low-whole.result c.moved_bits.result c.low_bits-2.result (width_most c.args.width) c.moved_top.ensures.most small room below in
    let low = c.low_bits.ensures in
    omega (arith, fits, low)
