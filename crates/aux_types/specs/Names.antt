-- The words that type names are made of, after GTIRB's names for the types of auxiliary data.
use Rattle.std.specs.Prelude.{ℕ, Bool, ◌||◌, ◌==◌, List, Option, codes}
use Rattle.std.specs.Char.{is_ascii_alphanumeric}
use Rattle.std.specs.List.{find}
use Rattle.std.specs.Str.{bytes_eq}
use Rattle.aux_types.specs.declared.name.Scalar.{Scalar}
use Rattle.aux_types.specs.declared.name.Scalar.TheVariants as s
use Rattle.aux_types.specs.declared.name.Container.{Container}
use Rattle.aux_types.specs.declared.name.Container.TheVariants as c
use Rattle.aux_types.specs.declared.name.TheConstants.{SCALARS, CONTAINERS}

-- the name of a type with no types inside it
abbrev pub scalar_text : Scalar → List ℕ
scalar_text s.Str = codes "string"
scalar_text s.Bool = codes "bool"
scalar_text s.Id = codes "UUID"
scalar_text s.Addr = codes "Addr"
scalar_text s.Offset = codes "Offset"
scalar_text s.I8 = codes "int8_t"
scalar_text s.I16 = codes "int16_t"
scalar_text s.I32 = codes "int32_t"
scalar_text s.I64 = codes "int64_t"
scalar_text s.U8 = codes "uint8_t"
scalar_text s.U16 = codes "uint16_t"
scalar_text s.U32 = codes "uint32_t"
scalar_text s.U64 = codes "uint64_t"
scalar_text s.Four = codes "float"
scalar_text s.Eight = codes "double"

-- the word before the brackets of a type with types inside it
abbrev pub container_text : Container → List ℕ
container_text c.Sequence = codes "sequence"
container_text c.Set = codes "set"
container_text c.Mapping = codes "mapping"
container_text c.Tuple = codes "tuple"
container_text c.Variant = codes "variant"

-- the first of the types whose name a word is
unfoldable pub scalar_named : List ℕ → Option Scalar
scalar_named word = find (λ k. bytes_eq (scalar_text k) word) SCALARS

-- the first of the containers whose name a word is
unfoldable pub container_named : List ℕ → Option Container
container_named word = find (λ k. bytes_eq (container_text k) word) CONTAINERS

-- a letter, a digit or an underscore
abbrev pub is_word_byte : ℕ → Bool
is_word_byte b = is_ascii_alphanumeric b || b == 95
