-- What stands at each address.
use Rattle.std.specs.Prelude.{ℕ, zero, suc, ◌+◌, ◌-◌, ◌*◌, ◌/◌, ◌%◌, Bool, ◌&&◌, nat_le, nat_lt, if◌then◌else◌, List, [], ◌∷◌, map, replicate, length, Option, Some, None, is_some, unwrap_or, slice_index}
use Rattle.std.specs.List.{list_all, range_with_len}
use Rattle.bare_image.specs.declared.image.Image.{Image}
use Rattle.bare_image.specs.declared.image.Segment.{Segment}
use Rattle.bare_image.specs.Valid.{end_of}

-- the byte at each address, where one is mapped
abbrev pub Mapping : Type 0
Mapping = ℕ → Option ℕ

-- the byte of the first segment that has the address
abbrev pub byte_in : List Segment → Mapping
byte_in [] at = None
byte_in (s ∷ segments) at = if nat_le s.at at && nat_lt at (end_of s) then Some (slice_index s.bytes (at - s.at)) else byte_in segments at

-- the stack as a segment of zeros
abbrev pub stack_of : Image → Segment
stack_of image = record { at = image.stack_at; bytes = replicate image.stack_size 0 }

-- each of so many bytes from an address on is mapped
abbrev pub is_mapped : Mapping → ℕ → ℕ → Bool
is_mapped memory at count = list_all (λ a. is_some (memory a)) (range_with_len at count)

-- so many bytes from an address on
abbrev pub bytes_from : Mapping → ℕ → ℕ → List ℕ
bytes_from memory at count = map (λ a. unwrap_or (memory a) 0) (range_with_len at count)

-- the memory with these bytes from an address on
abbrev pub with_bytes : Mapping → ℕ → List ℕ → Mapping
with_bytes memory at bytes = λ a. if nat_le at a && nat_lt a (at + length bytes) then Some (slice_index bytes (a - at)) else memory a

-- the number of bytes, the low one first
abbrev pub number_of : List ℕ → ℕ
number_of [] = 0
number_of (b ∷ bytes) = b + 256 * number_of bytes

-- the number of so many bytes from an address on, which are all mapped
abbrev pub number_at : Mapping → ℕ → ℕ → Option ℕ
number_at memory at count = if is_mapped memory at count then Some (number_of (bytes_from memory at count)) else None

-- the number of the four bytes of a word
abbrev pub word_at : Mapping → ℕ → Option ℕ
word_at memory at = number_at memory at 4

-- so many bytes of a number, the low one first
abbrev pub bytes_of : ℕ → ℕ → List ℕ
bytes_of zero n = []
bytes_of (suc count) n = n % 256 ∷ bytes_of count (n / 256)
