use Rattle.std.proofs.Common.{None}
use Rattle.std.proofs.lemmas.List.Elements.{All-push, All-same}
use Rattle.sym_step.specs.Found.{IsSlot}
use Rattle.sym_step.proofs.cache.Cache.new.Goals as goal

pub loop-preserved : goal.loop-preserved
loop-preserved c = λ g. All-same (IsSlot g) c.push.new.self.items _ c.in_ok-push.ensures.items (All-push (IsSlot g) c.loop.slots.items None (c.loop.invariant g) tt)
