-- The one spelling of an image.
use Rattle.std.specs.Prelude.{ℕ, List, ◌++◌, length, codes}
use Rattle.std.specs.List.{flat_map}
use Rattle.std.specs.Int.{w64, to_le_bytes}
use Rattle.bare_image.specs.declared.image.Image.{Image}
use Rattle.bare_image.specs.declared.image.Segment.{Segment}

-- what an image begins with
abbrev pub magic : List ℕ
magic = codes "GRIMG001"

-- a number in eight bytes, little endian
unfoldable pub word : ℕ → List ℕ
word n = to_le_bytes w64 n

-- the address, the length and the bytes
abbrev pub segment : Segment → List ℕ
segment s = word s.at ++ (word (length s.bytes) ++ s.bytes)

-- the letters, the entry, the stack's address and size, the number of segments, and the segments
abbrev pub spelling : Image → List ℕ
spelling image = magic ++ (word image.entry ++ (word image.stack_at ++ (word image.stack_size ++ (word (length image.segments) ++ flat_map segment image.segments))))
