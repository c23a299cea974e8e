use Rattle.std.proofs.Common.{◌-◌, arith}
use Rattle.a64_numbers.proofs.Leading.{one_more}
use Rattle.a64_numbers.proofs.turned.leading_signs_32.Goals as goal
use Rattle.a64_numbers.proofs.turned.leading_signs_32.Goals.{then-a-lt2147483648, else-a-lt2147483648}

pub overflow_sub-result : goal.overflow_sub-result
overflow_sub-result c = elim c.if-a-lt2147483648.branch [
  | then-a-lt2147483648 w ↦ let e = one_more 31 c.if-a-lt2147483648.signs (omega arith) in omega (arith, e)
  | else-a-lt2147483648 w ↦ let e = one_more 31 c.if-a-lt2147483648.signs (omega arith) in omega (arith, e)
]

pub returns : goal.returns
returns c = elim c.if-a-lt2147483648.branch [
  | then-a-lt2147483648 w ↦ let e = one_more 31 c.args.a (omega arith) in rw w.signs-is (grind (arith, e))
  | else-a-lt2147483648 w ↦ let e = one_more 31 (4294967295 - c.args.a) (omega arith) in rw w.signs-is (grind (arith, e))
]
