-- The messages of a GTIRB file in the Protocol Buffers schema: for each message one line for each field.
use Rattle.std.specs.Prelude.{ℕ, List, [], ◌∷◌}

-- what a plain field holds
pub data Kind : Type 0 where
  -- an identifier of sixteen bytes, and one that may be absent, which then has no bytes
  Id : Kind
  OptionalId : Kind
  -- UTF-8, and bytes
  Text : Kind
  Blob : Kind
  -- varints read as u64, i64, u32 and i32, the last two from the low 32 bits
  Unsigned64 : Kind
  Signed64 : Kind
  Unsigned32 : Kind
  Signed32 : Kind
  -- true for any varint other than 0
  Flag : Kind

-- the key of a map
pub data Key : Type 0 where
  TextKey : Key
  NumberKey : Key

abbrev pub key_kind : Key → Kind
key_kind TextKey = Text
key_kind NumberKey = Unsigned64

-- the wire type of a varint, and of a run of bytes
abbrev pub varint : ℕ
varint = 0

abbrev pub run : ℕ
run = 2

-- the members of a oneof: the number of each, and its wire type
abbrev pub Members : Type 0
Members = List (ℕ × ℕ)

mutual
  pub data Row : Type 0 where
    -- a field that is there once, and one that is there any number of times
    field : ℕ → Kind → Row
    repeated : ℕ → Kind → Row
    -- an embedded message, and any number of them
    message : ℕ → Rows → Row
    messages : ℕ → Rows → Row
    -- a member of a oneof, of which one at most is set
    member : Members → ℕ → Kind → Row
    member_message : Members → ℕ → Rows → Row
    -- a map: entry messages with the key as field 1 and a message as field 2
    entries : ℕ → Key → Rows → Row

  -- the fields of a message, ascending by number
  pub data Rows : Type 0 where
    none : Rows
    ◌&◌ : Row → Rows → Rows

infixr 5 ◌&◌
unfoldable pub table_rows : Rows
table_rows =
    field 1 Text  -- type_name
    & field 2 Blob  -- data
    & none

unfoldable pub label_rows : Rows
label_rows =
    field 1 Flag  -- conditional
    & field 2 Flag  -- direct
    & field 3 Signed32  -- type
    & none

unfoldable pub edge_rows : Rows
edge_rows =
    field 1 Id  -- source_uuid
    & field 2 Id  -- target_uuid
    & message 5 label_rows  -- label
    & none

unfoldable pub cfg_rows : Rows
cfg_rows =
    messages 2 edge_rows  -- edges
    & repeated 3 Id  -- vertices
    & none

unfoldable pub addr_addr_rows : Rows
addr_addr_rows =
    field 1 Signed64  -- scale
    & field 2 Signed64  -- offset
    & field 3 OptionalId  -- symbol1_uuid
    & field 4 OptionalId  -- symbol2_uuid
    & none

unfoldable pub addr_const_rows : Rows
addr_const_rows =
    field 1 Signed64  -- offset
    & field 2 OptionalId  -- symbol_uuid
    & none

-- the value of an expression
abbrev pub expr_values : Members
expr_values = (2, run) ∷ (3, run) ∷ []

unfoldable pub expr_rows : Rows
expr_rows =
    member_message expr_values 2 addr_const_rows  -- addr_const
    & member_message expr_values 3 addr_addr_rows  -- addr_addr
    & repeated 4 Signed32  -- attribute_flags
    & none

-- the payload of a symbol
abbrev pub symbol_payloads : Members
symbol_payloads = (2, varint) ∷ (5, run) ∷ []

unfoldable pub symbol_rows : Rows
symbol_rows =
    field 1 Id  -- uuid
    & member symbol_payloads 2 Unsigned64  -- value
    & field 3 Text  -- name
    & member symbol_payloads 5 Id  -- referent_uuid
    & field 6 Flag  -- at_end
    & none

unfoldable pub proxy_rows : Rows
proxy_rows =
    field 1 Id  -- uuid
    & none

unfoldable pub data_rows : Rows
data_rows =
    field 1 Id  -- uuid
    & field 3 Unsigned64  -- size
    & none

unfoldable pub code_rows : Rows
code_rows =
    field 1 Id  -- uuid
    & field 3 Unsigned64  -- size
    & field 4 Unsigned64  -- decode_mode
    & none

-- what a block is
abbrev pub block_bodies : Members
block_bodies = (2, run) ∷ (3, run) ∷ []

unfoldable pub block_rows : Rows
block_rows =
    field 1 Unsigned64  -- offset
    & member_message block_bodies 2 code_rows  -- code
    & member_message block_bodies 3 data_rows  -- data
    & none

unfoldable pub interval_rows : Rows
interval_rows =
    field 1 Id  -- uuid
    & messages 2 block_rows  -- blocks
    & entries 3 NumberKey expr_rows  -- symbolic_expressions
    & field 4 Flag  -- has_address
    & field 5 Unsigned64  -- address
    & field 6 Unsigned64  -- size
    & field 7 Blob  -- contents
    & none

unfoldable pub section_rows : Rows
section_rows =
    field 1 Id  -- uuid
    & field 2 Text  -- name
    & messages 5 interval_rows  -- byte_intervals
    & repeated 6 Signed32  -- section_flags
    & none

unfoldable pub module_rows : Rows
module_rows =
    field 1 Id  -- uuid
    & field 2 Text  -- binary_path
    & field 3 Unsigned64  -- preferred_addr
    & field 4 Signed64  -- rebase_delta
    & field 5 Signed32  -- file_format
    & field 6 Signed32  -- isa
    & field 7 Text  -- name
    & messages 9 symbol_rows  -- symbols
    & messages 12 section_rows  -- sections
    & messages 16 proxy_rows  -- proxies
    & entries 17 TextKey table_rows  -- aux_data
    & field 18 OptionalId  -- entry_point
    & field 19 Signed32  -- byte_order
    & none

unfoldable pub ir_rows : Rows
ir_rows =
    field 1 Id  -- uuid
    & messages 3 module_rows  -- modules
    & entries 5 TextKey table_rows  -- aux_data
    & field 6 Unsigned32  -- version
    & message 7 cfg_rows  -- cfg
    & none
