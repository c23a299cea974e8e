-- The branches of the generated IR stand one behind the other.
use Rattle.std.proofs.Common.{◌≡◌, ℕ, zero, suc, ◌+◌, ◌*◌, ◌<◌, List, [], map, sym, arith}
use Rattle.std.specs.Cmp.{nat_cmp_is}
use Rattle.std.specs.Ordering.{nat_cmp}
use Rattle.std.specs.declared.cmp.Ordering.{Ordering}
use Rattle.std.specs.declared.cmp.Ordering.TheVariants.{Less}
use Rattle.std.specs.List.{AllByRecursion, range_with_len}
use Rattle.std.specs.List.Sorted.{IsStrictlySortedBy}
use Rattle.gt_model.specs.declared.exprs.Expr.{Expr}
use Rattle.demo_ir.specs.Demo.{branch}

-- where the branches of blocks stand
places : (a n : ℕ) → List ℕ
places a n = map (λ (e : Expr). e.at) (map branch (range_with_len a n))

later : (x a n : ℕ) → x < 8 * a + 8 → AllByRecursion (λ y. nat_cmp x y ≡ Less) (places a n)
unfolding places
later x a zero h = tt
later x a (suc n) h = (sym (nat_cmp_is x (8 * a + 8) Less h), later x (a + 1) n (omega arith))

pub ascends : (a n : ℕ) → IsStrictlySortedBy nat_cmp (map (λ (e : Expr). e.at) (map branch (range_with_len a n)))
unfolding places IsStrictlySortedBy
ascends a zero = tt
ascends a (suc n) = (later (8 * a + 8) (a + 1) n (omega arith), ascends (a + 1) n)

pub nothing_ascends : {K : Type 0} (c : K → K → Ordering) → IsStrictlySortedBy c []
unfolding IsStrictlySortedBy
nothing_ascends c = tt
