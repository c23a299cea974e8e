use Rattle.std.proofs.Common.{sym}
use Rattle.node_arena.proofs.landing.check_reference.Goals as goal

pub suits-requires-clause-live : goal.suits-requires-clause-live
suits-requires-clause-live c = c.requires.live c.args.to _ (sym c.in-Some.ensures.value)
