use Rattle.aux_codec.proofs.Ascending.{push_behind, push_first}
use Rattle.aux_codec.proofs.order.is_behind.Goals as goal

pub returns-in-None : goal.returns-in-None
returns-in-None c = push_first c.args.keys.now c.args.bytes.now c.in-None.ensures.value

pub returns-in-Some : goal.returns-in-Some
returns-in-Some c = push_behind c.is_before.result c.args.keys.now c.in-Some.last.now c.args.bytes.now c.is_before.ensures c.in-Some.ensures.value c.requires
