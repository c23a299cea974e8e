-- A value as clauses see it, without where it lies in memory, and with lists of its own.
use Rattle.std.specs.Prelude.{ℕ, suc, ℤ, Bool, List, [], ◌∷◌, map}
use Rattle.aux_codec.specs.declared.value.Place.{Place}
use Rattle.aux_codec.specs.declared.value.AuxValue.{AuxValue, fold-AuxValue}
use Rattle.aux_codec.specs.declared.value.AuxPair.{AuxPair, fold-AuxPair}
use Rattle.aux_codec.specs.declared.value.AuxValue.TheOpen.{AuxValue-F, AuxPair-F}

mutual
  pub data Value : Type 0 where
    Str : List ℕ → Value
    Truth : Bool → Value
    Id : List ℕ → Value
    Number : ℕ → Value
    Signed : ℤ → Value
    At : Place → Value
    Four : ℕ → Value
    Eight : ℕ → Value
    Many : Values → Value
    Pairs : Entries → Value
    Parts : Values → Value
    Choice : ℕ → Value → Value

  pub data Values : Type 0 where
    none : Values
    more : Value → Values → Values

  -- keys with their values
  pub data Entries : Type 0 where
    no_entry : Entries
    entry : Value → Value → Entries → Entries

abbrev pub values : List Value → Values
values [] = none
values (v ∷ vs) = more v (values vs)

abbrev pub entries : List (Value × Value) → Entries
entries [] = no_entry
entries (e ∷ es) = entry e.0 e.1 (entries es)

-- one level of a value, with each value inside it seen already
abbrev pub value_layer : AuxValue-F Value (Value × Value) → Value
value_layer (AuxValue-F.Str text) = Str text
value_layer (AuxValue-F.Bool b) = Truth b
value_layer (AuxValue-F.Id id) = Id id
value_layer (AuxValue-F.Number n) = Number n
value_layer (AuxValue-F.Signed z) = Signed z
value_layer (AuxValue-F.Place place) = At place
value_layer (AuxValue-F.Four n) = Four n
value_layer (AuxValue-F.Eight n) = Eight n
value_layer (AuxValue-F.Many vs) = Many (values vs.items)
value_layer (AuxValue-F.Pairs es) = Pairs (entries es.items)
value_layer (AuxValue-F.Parts vs) = Parts (values vs.items)
value_layer (AuxValue-F.Choice n v) = Choice n v.value

abbrev pub entry_layer : AuxPair-F Value (Value × Value) → Value × Value
entry_layer e = (e.key, e.value)

abbrev pub value_of : AuxValue → Value
value_of = fold-AuxValue Value (Value × Value) value_layer entry_layer

abbrev pub entry_of : AuxPair → Value × Value
entry_of = fold-AuxPair Value (Value × Value) value_layer entry_layer

abbrev pub count : Values → ℕ
count none = 0
count (more v vs) = suc (count vs)

abbrev pub count_entries : Entries → ℕ
count_entries no_entry = 0
count_entries (entry k v es) = suc (count_entries es)
