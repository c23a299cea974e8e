use Rattle.std.proofs.Common.{Some}
use Rattle.std.proofs.lemmas.List.Elements.{All-set}
use Rattle.sym_step.specs.Found.{IsSlot}
use Rattle.sym_step.proofs.cache.Cache.put.Goals as goal

pub returns-then-slot-len : goal.returns-then-slot-len
returns-then-slot-len c = λ g found cache. All-set (IsSlot g) c.args.self.now.slots.items c.slot_of-slot.result (Some c.args.found) found cache
