use Rattle.aux_codec.proofs.Ascending.{none_ascend}
use Rattle.aux_codec.proofs.seen.Seen.new.Goals as goal

pub invariant_of-result : goal.invariant_of-result
invariant_of-result c = rw c.new.ensures.items (none_ascend, tt)
