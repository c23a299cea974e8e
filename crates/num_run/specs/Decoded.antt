-- What a cache of decoded instructions holds.
use Rattle.std.specs.Prelude.{◌≡◌, ℕ, ◌<◌, length, All, Some}
use Rattle.std.specs.List.{HoldsAt}
use Rattle.a64_inst.specs.Table.{row}
use Rattle.num_run.specs.declared.cache.Slot.{Slot}
use Rattle.num_run.specs.declared.cache.Cache.{Cache}
use Rattle.num_run.specs.declared.cache.TheConstants.{SLOTS}

-- a slot's instruction is the table's row of its word
abbrev pub IsDecoded : Slot → Type 0
IsDecoded slot = row slot.word ≡ Some slot.inst

-- all slots are there, and each is decoded
pub record IsCache (cache : Cache) : Type 0 where
  pub decoded : All IsDecoded cache.slots.items
  pub slots : length cache.slots.items ≡ SLOTS

-- the slot at this index has the word
pub record IsSlot (cache : Cache) (word index : ℕ) : Type 0 where
  pub within : index < length cache.slots.items
  pub word_is : HoldsAt (λ slot. slot.word ≡ word) cache.slots.items index
