use Rattle.std.proofs.Common.{◌≡◌, ◌++◌, take}
use Rattle.a64_ops.proofs.list.OpList.extend.Given as goal

abbrev pub invariant-loop-op : goal.invariant-loop-op
invariant-loop-op l = l.self ≡ l.fn.self ++ take l.op-index l.more
