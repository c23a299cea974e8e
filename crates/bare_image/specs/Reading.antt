-- Reading from left to right, with the place of the first field that is cut or breaks its rule.
use Rattle.std.specs.Prelude.{◌≡◌, ℕ, zero, suc, ◌+◌, ◌%◌, ◌^◌, Bool, ◌&&◌, ◌||◌, List, [], ◌∷◌, length, take, drop, Result, Ok, Err, nat_le, nat_eq, ◌==◌, if◌then◌else◌}
use Rattle.std.specs.List.{starts_with}
use Rattle.std.specs.Int.{w64, from_le_bytes}
use Rattle.gr_base.specs.declared.end.End.{End}
use Rattle.gr_base.specs.declared.end.End.TheVariants as ends
use Rattle.bare_image.specs.declared.fault.ImageFault.{ImageFault}
use Rattle.bare_image.specs.declared.image.Image.{Image}
use Rattle.bare_image.specs.declared.image.Segment.{Segment}
use Rattle.bare_image.specs.Spelling.{magic}

infixl 10 ◌>>=◌
abbrev pub ◌>>=◌ : {A B : Type 0} → Result A ImageFault → (A → Result B ImageFault) → Result B ImageFault
(Ok x) >>= f = f x
(Err e) >>= f = Err e

-- a field's value, where it is whole and keeps its rule; else its place is at fault
abbrev pub kept : {A : Type 0} → Bool → A → ℕ → Result A ImageFault
kept holds value place = if holds then Ok value else Err (record { place = place })

-- the number in the eight bytes from a place on
abbrev pub number : List ℕ → ℕ → ℕ
number bytes place = from_le_bytes w64 (take 8 (drop place bytes))

-- a number with a rule
unfoldable pub field_at : (ℕ → Bool) → List ℕ → ℕ → Result ℕ ImageFault
field_at rule bytes place = kept (nat_le (place + 8) (length bytes) && rule (number bytes place)) (number bytes place) place

-- the entry is a multiple of 4
abbrev pub is_entry : ℕ → Bool
is_entry n = n % 4 == 0

-- the stack's address is a multiple of 16 and at least 4096
abbrev pub is_stack_address : ℕ → Bool
is_stack_address n = n % 16 == 0 && nat_le 4096 n

-- the stack's size is a multiple of 16 from 16 to 2 ^ 24, and the stack ends at 2 ^ 47 at most
abbrev pub is_stack_size : ℕ → ℕ → Bool
is_stack_size at n = n % 16 == 0 && nat_le 16 n && nat_le n (2 ^ 24) && nat_le (at + n) (2 ^ 47)

-- there are 2 ^ 24 segments at most
abbrev pub is_count : ℕ → Bool
is_count n = nat_le n (2 ^ 24)

-- a segment has a byte or more, ends at 2 ^ 47 at most, has no byte of the stack, and adds to 2 ^ 24 loaded bytes at most
abbrev pub is_length : (stack_at stack_size at loaded : ℕ) → ℕ → Bool
is_length stack_at stack_size at loaded n =
    nat_le 1 n && nat_le (at + n) (2 ^ 47) && (nat_le (at + n) stack_at || nat_le (stack_at + stack_size) at) && nat_le (loaded + n) (2 ^ 24)

-- so many bytes
unfoldable pub content_at : List ℕ → ℕ → ℕ → Result (List ℕ) ImageFault
content_at bytes place n = kept (nat_le (place + n) (length bytes)) (take n (drop place bytes)) place

-- a segment that begins at the least address or above it, where so many bytes are loaded already
unfoldable pub segment_at : (stack_at stack_size least loaded : ℕ) → List ℕ → ℕ → Result Segment ImageFault
segment_at stack_at stack_size least loaded bytes place = do
  at ← field_at (nat_le least) bytes place
  n ← field_at (is_length stack_at stack_size at loaded) bytes (place + 8)
  content ← content_at bytes (place + 16) n
  Ok (record { at = at; bytes = content })

-- so many segments, and the place behind them
unfoldable pub segments_at : (stack_at stack_size least loaded : ℕ) → List ℕ → (count place : ℕ) → Result (List Segment × ℕ) ImageFault
segments_at stack_at stack_size least loaded bytes zero place = Ok ([], place)
segments_at stack_at stack_size least loaded bytes (suc count) place = do
  first ← segment_at stack_at stack_size least loaded bytes place
  others ← segments_at stack_at stack_size (first.at + length first.bytes) (loaded + length first.bytes) bytes count (place + (16 + length first.bytes))
  Ok (first ∷ others.0, others.1)

-- all of the bytes
unfoldable pub image_of : List ℕ → Result Image ImageFault
image_of bytes = do
  letters ← kept (starts_with nat_eq bytes magic) magic 0
  entry ← field_at is_entry bytes 8
  stack_at ← field_at is_stack_address bytes 16
  stack_size ← field_at (is_stack_size stack_at) bytes 24
  count ← field_at is_count bytes 32
  segments ← segments_at stack_at stack_size 4096 stack_size bytes count 40
  kept (segments.1 == length bytes) (record { entry = entry; stack_at = stack_at; stack_size = stack_size; segments = segments.0 }) segments.1

-- the bytes are no image, and the first fault is at this place
abbrev pub image_fault : List ℕ → ℕ → Type 0
image_fault bytes place = image_of bytes ≡ Err (record { place = place })

-- what a reader answered is what reading gives, unless memory ran out
abbrev pub Fails : {Y : Type 0} → End ImageFault → Result Y ImageFault → Type 0
Fails ends.Memory read = Unit {0}
Fails (ends.Fault fault) read = read ≡ Err fault

abbrev pub Gives : {X Y : Type 0} → (X → Y) → Result X (End ImageFault) → Result Y ImageFault → Type 0
Gives view (Ok x) read = read ≡ Ok (view x)
Gives view (Err e) read = Fails e read
