-- Which images there are, and the relation between an image and its bytes.
use Rattle.std.specs.Prelude.{◌≡◌, ◌≤◌, ◌<◌, ◌⊎◌, ℕ, ◌+◌, ◌%◌, ◌^◌, List, length, All, AllPairs, sum_by}
use Rattle.bare_image.specs.declared.image.Image.{Image}
use Rattle.bare_image.specs.declared.image.Segment.{Segment}
use Rattle.bare_image.specs.Spelling.{spelling}

-- each number is a byte
abbrev pub AreBytes : List ℕ → Type 0
AreBytes bytes = All (λ b. b < 256) bytes

-- the address after a segment's last byte
abbrev pub end_of : Segment → ℕ
end_of s = s.at + length s.bytes

-- the bytes that segments load
abbrev pub loaded : List Segment → ℕ
loaded segments = sum_by (λ s. length s.bytes) segments

-- a stack of whole sixteen bytes, from 4096 to 2 ^ 47
pub record IsStack (at size : ℕ) : Type 0 where
  pub at_aligned : at % 16 ≡ 0
  pub at_low : 4096 ≤ at
  pub size_aligned : size % 16 ≡ 0
  pub size_some : 16 ≤ size
  pub size_most : size ≤ 2 ^ 24
  pub end_high : at + size ≤ 2 ^ 47

-- a segment with a byte or more, from 4096 to 2 ^ 47 and off the stack
pub record IsSegment (stack_at stack_size : ℕ) (s : Segment) : Type 0 where
  pub bytes : AreBytes s.bytes
  pub some : 1 ≤ length s.bytes
  pub low : 4096 ≤ s.at
  pub high : end_of s ≤ 2 ^ 47
  pub off_stack : (end_of s ≤ stack_at) ⊎ (stack_at + stack_size ≤ s.at)

-- an image keeps these rules
pub record image_ok (image : Image) : Type 0 where
  pub entry_fits : image.entry < 2 ^ 64
  pub entry_aligned : image.entry % 4 ≡ 0
  pub stack : IsStack image.stack_at image.stack_size
  pub count : length image.segments ≤ 2 ^ 24
  pub segments : All (IsSegment image.stack_at image.stack_size) image.segments
  pub ascending : AllPairs (λ s later. end_of s ≤ later.at) image.segments
  pub loaded : image.stack_size + loaded image.segments ≤ 2 ^ 24

-- the bytes spell the image
pub record image_bytes (image : Image) (bytes : List ℕ) : Type 0 where
  pub ok : image_ok image
  pub spelled : bytes ≡ spelling image
