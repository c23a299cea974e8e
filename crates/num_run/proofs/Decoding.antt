-- Instructions that are found by their words.
use Rattle.std.proofs.Common.{◌≡◌, ℕ, ◌%◌, [], Some, get_or, refl, sym, ap, ◌∙◌, eq-eqb}
use Rattle.a64_inst.specs.declared.inst.Inst.{Inst}
use Rattle.a64_inst.specs.declared.inst.Inst.TheVariants.{Udf}
use Rattle.a64_inst.specs.Domain.{exec}
use Rattle.a64_inst.specs.Meaning.{ops}
use Rattle.a64_inst.specs.Table.{row}
use Rattle.num_run.specs.declared.cache.Slot.{Slot}
use Rattle.num_run.specs.declared.cache.Cache.{Cache}
use Rattle.num_run.specs.Decoded.{IsCache, IsSlot}
use Rattle.paged_memory.specs.Mapping.{word_at}
use Rattle.num_run.specs.Machine.{Machine}
use Rattle.num_run.specs.Numeric.{numeric}
use Rattle.num_run.specs.Run.{step}

-- the instruction of a slot is that of its word
pub slot_row : (cache : Cache) (word index : ℕ) (inst : Inst) → IsCache cache → IsSlot cache word index → ((d : Slot) → (get_or cache.slots.items index d).inst ≡ inst) → row word ≡ Some inst
slot_row cache word index inst is found read =
    let d : Slot = record { word = 0; inst = Udf 0 } in
    ap row (sym (found.word_is d)) ∙ is.decoded index d found.within ∙ ap (λ (i : Inst). Some i) (read d)

-- a step is what the instruction of its word does
pub step_is : (m : Machine) (word : ℕ) (inst : Inst) → m.place % 4 ≡ 0 → Some word ≡ word_at m.memory m.place → row word ≡ Some inst → step m ≡ exec numeric (ops inst) [] m
unfolding step
step_is m word inst aligned read is = rw (eq-eqb (m.place % 4) 0 aligned, ← read, is) refl
