use Rattle.std.proofs.Common.{length, refl, ap, ◌∙◌}
use Rattle.std.proofs.lemmas.List.{length-replicate}
use Rattle.std.proofs.lemmas.List.Elements.{All-replicate}
use Rattle.a64_inst.specs.declared.inst.Inst.TheVariants.{Udf}
use Rattle.a64_inst.specs.Rows.{table}
use Rattle.num_run.specs.declared.cache.Slot.{Slot}
use Rattle.num_run.specs.Decoded.{IsDecoded}
use Rattle.num_run.proofs.cache.Cache.new.Goals as goal

abbrev first : Slot
first = record { word = 0; inst = Udf 0 }

first_is : IsDecoded first
unfolding table
first_is = refl

pub returns : goal.returns
returns c =
    let items = c.in_ok-vec.ensures.items_if_clones_equal (λ y h. h) in
    record {
      decoded = rw items (All-replicate IsDecoded 4096 first first_is);
      slots = ap length items ∙ length-replicate 4096 first;
    }
