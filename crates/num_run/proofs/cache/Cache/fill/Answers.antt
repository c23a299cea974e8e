use Rattle.std.proofs.Common.{sym, ◌∙◌}
use Rattle.std.proofs.lemmas.List.{length-set}
use Rattle.std.proofs.lemmas.List.Elements.{All-set}
use Rattle.num_run.specs.declared.cache.Slot.{Slot}
use Rattle.num_run.specs.Decoded.{IsDecoded}
use Rattle.num_run.proofs.cache.Cache.fill.Goals as goal

pub returns-in-Some-clause-cache : goal.returns-in-Some-clause-cache
returns-in-Some-clause-cache c =
    let slot : Slot = record { word = c.args.word; inst = c.in-Some.inst } in
    let slots = c.args.self.now.slots.items in
    record {
      decoded = All-set IsDecoded slots c.args.index slot (sym c.in-Some.ensures) c.requires.cache.decoded;
      slots = length-set slots c.args.index slot ∙ c.requires.cache.slots;
    }
