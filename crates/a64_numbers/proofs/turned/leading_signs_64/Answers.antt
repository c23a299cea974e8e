use Rattle.std.proofs.Common.{◌-◌, arith}
use Rattle.a64_numbers.proofs.Leading.{one_more}
use Rattle.a64_numbers.proofs.turned.leading_signs_64.Goals as goal
use Rattle.a64_numbers.proofs.turned.leading_signs_64.Goals.{then-a-lt9223372036854775808, else-a-lt9223372036854775808}

pub overflow_sub-result : goal.overflow_sub-result
overflow_sub-result c = elim c.if-a-lt9223372036854775808.branch [
  | then-a-lt9223372036854775808 w ↦ let e = one_more 63 c.if-a-lt9223372036854775808.signs (omega arith) in omega (arith, e)
  | else-a-lt9223372036854775808 w ↦ let e = one_more 63 c.if-a-lt9223372036854775808.signs (omega arith) in omega (arith, e)
]

pub returns : goal.returns
returns c = elim c.if-a-lt9223372036854775808.branch [
  | then-a-lt9223372036854775808 w ↦ let e = one_more 63 c.args.a (omega arith) in rw w.signs-is (grind (arith, e))
  | else-a-lt9223372036854775808 w ↦ let e = one_more 63 (18446744073709551615 - c.args.a) (omega arith) in rw w.signs-is (grind (arith, e))
]
