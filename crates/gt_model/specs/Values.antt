-- The value of a message: one of each field, by what a plain field of each kind holds.
use Rattle.std.specs.Prelude.{ℕ, ℤ, Bool, Option, List}
use Rattle.gt_model.specs.Schema.{Kind, Id, OptionalId, Text, Blob, Unsigned64, Signed64, Unsigned32, Signed32, Flag, key_kind, Row, field, repeated, message, messages, member, member_message, entries, Rows, none, ◌&◌}

abbrev mutual
  pub Field : (Kind → Type 0) → Row → Type 0
  Field Held (field n k) = Held k
  Field Held (repeated n k) = List (Held k)
  Field Held (message n rows) = Option (Fields Held rows)
  Field Held (messages n rows) = List (Fields Held rows)
  Field Held (member members n k) = Option (Held k)
  Field Held (member_message members n rows) = Option (Fields Held rows)
  Field Held (entries n k rows) = List (Held (key_kind k) × Fields Held rows)

  pub Fields : (Kind → Type 0) → Rows → Type 0
  Fields Held none = Unit {0}
  Fields Held (row & rows) = Field Held row × Fields Held rows

-- what a plain field of an IR holds
abbrev pub Plain : Kind → Type 0
Plain Id = List ℕ
Plain OptionalId = Option (List ℕ)
Plain Text = List ℕ
Plain Blob = List ℕ
Plain Unsigned64 = ℕ
Plain Signed64 = ℤ
Plain Unsigned32 = ℕ
Plain Signed32 = ℤ
Plain Flag = Bool

-- a field's value and those of the fields after it
infixr 5 ◌▹◌
abbrev pub ◌▹◌ : {A B : Type 0} → A → B → A × B
a ▹ b = (a, b)
