use Rattle.std.proofs.Common.{◌-◌, ◌^◌, arith}
use Rattle.a64_inst.specs.Numbers.{bits_of}
use Rattle.a64_inst.specs.Meaning.{width_of}
use Rattle.a64_inst.specs.Numbers.{element_size}
use Rattle.a64_numbers.proofs.Moved.{within}
use Rattle.a64_numbers.proofs.Widths.{greatest}
use Rattle.a64_numbers.proofs.fields.mask.Goals as goal

pub overflow_mul-result : goal.overflow_mul-result
overflow_mul-result c =
    let below = rw c.element_size-size.ensures.value at c.element.ensures.most in
    let fits = within c.element.result (2 ^ element_size c.args.n c.args.imms - 1) (2 ^ bits_of (width_of c.args.sf) - 1) (omega (arith, below)) in
    let most = greatest (width_of c.args.sf) in
    rw c.lowest_bits.ensures (omega (arith, fits, most))
