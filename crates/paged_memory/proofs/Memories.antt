-- The parts that a memory remembers.
use Rattle.std.proofs.Common.{◌≡◌, ℕ, ◌<◌, List, length, get_or, arith}
use Rattle.paged_memory.specs.declared.part.Part.{Part}
use Rattle.paged_memory.specs.declared.memory.Memory.{Memory}
use Rattle.paged_memory.specs.Mapped.{IsMemory, IsPart, Shows, stretch}
use Rattle.paged_memory.specs.declared.memory.TheConstants.{RECENT}

-- bytes that are found in one of them
pub found_shows : (memory : Memory) (i at count place : ℕ) (part : Part) → IsMemory memory → i < RECENT → part ≡ get_or memory.recent.items i part → ((parts : List Part) (size : ℕ) → Shows parts size part → Shows parts size (stretch at count place)) → IsPart memory.pages (stretch at count place)
found_shows memory i at count place part is lt read found =
    let slots = is.slots in
    found memory.pages.parts.items (length memory.pages.bytes.items) (rw read (is.recent i part (omega arith)))
