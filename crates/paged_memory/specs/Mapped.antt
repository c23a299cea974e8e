-- The memory of a runner as what stands at each address.
use Rattle.std.specs.Prelude.{◌≡◌, ℕ, ◌+◌, ◌-◌, ◌≤◌, ◌<◌, ◌^◌, ◌&&◌, nat_le, nat_lt, if◌then◌else◌, List, [], ◌∷◌, ◌++◌, length, take, drop, slice_index, All, AllPairs, Option, Some, None}
use Rattle.std.specs.Option.{option_map, option_or}
use Rattle.paged_memory.specs.declared.part.Part.{Part}
use Rattle.paged_memory.specs.declared.pages.Pages.{Pages}
use Rattle.paged_memory.specs.declared.memory.Memory.{Memory}
use Rattle.paged_memory.specs.declared.memory.TheConstants.{RECENT}
use Rattle.paged_memory.specs.Mapping.{Mapping}

-- the address after a part's last byte
abbrev pub end_of : Part → ℕ
end_of part = part.at + part.count

-- where the byte of an address stands in the list of bytes
abbrev pub place_of : List Part → ℕ → Option ℕ
place_of [] at = None
place_of (part ∷ parts) at = if nat_le part.at at && nat_lt at (end_of part) then Some (part.start + (at - part.at)) else place_of parts at

-- the byte at each address
abbrev pub mapped_by : List Part → List ℕ → Mapping
mapped_by parts bytes at = option_map (slice_index bytes) (place_of parts at)

-- the same of pages, and of a memory
abbrev pub paged : Pages → Mapping
paged pages = mapped_by pages.parts.items pages.bytes.items

abbrev pub mapped : Memory → Mapping
mapped memory = paged memory.pages

-- parts of a list of so many bytes, one behind the other in the list and by address
pub record IsIndex (parts : List Part) (size : ℕ) : Type 0 where
  pub apart : AllPairs (λ part later. end_of part ≤ later.at) parts
  pub packed : AllPairs (λ part later. part.start + part.count ≤ later.start) parts
  pub within : All (λ part. part.start + part.count ≤ size) parts
  pub high : All (λ part. end_of part < 2 ^ 64) parts

-- the bytes of a part stand one behind the other in the list of so many bytes
pub record Shows (parts : List Part) (size : ℕ) (part : Part) : Type 0 where
  pub places : (k : ℕ) → k < part.count → place_of parts (part.at + k) ≡ Some (part.start + k)
  pub within : part.start + part.count ≤ size
  pub high : end_of part < 2 ^ 64

-- the pages of a memory are indexed
abbrev pub IsPages : Pages → Type 0
IsPages pages = IsIndex pages.parts.items (length pages.bytes.items)

-- a part of these pages
abbrev pub IsPart : Pages → Part → Type 0
IsPart pages part = Shows pages.parts.items (length pages.bytes.items) part

-- the parts that were used last are parts of the pages
pub record IsMemory (memory : Memory) : Type 0 where
  pub pages : IsPages memory.pages
  pub code : IsPart memory.pages memory.code
  pub recent : All (IsPart memory.pages) memory.recent.items
  pub slots : length memory.recent.items ≡ RECENT

-- an address lies in a part
pub record Has (at : ℕ) (part : Part) : Type 0 where
  pub low : part.at ≤ at
  pub high : at < end_of part

-- so many bytes from an address on, which stand from a place on
abbrev pub stretch : (at count place : ℕ) → Part
stretch at count place = record { at = at; count = count; start = place }

-- a list with these elements from a place on in place of its own
abbrev pub with_part : List ℕ → ℕ → List ℕ → List ℕ
with_part old place new = take place old ++ new ++ drop (place + length new) old

-- no part ends behind an address
abbrev pub EndBy : ℕ → Pages → Type 0
EndBy at pages = All (λ part. end_of part ≤ at) pages.parts.items

-- what one mapping has, and where it has nothing what another has
abbrev pub beside : Mapping → Mapping → Mapping
beside first second at = option_or (first at) (second at)
