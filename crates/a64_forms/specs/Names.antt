-- Names, and the bits that stand for them.
use Rattle.std.specs.Prelude.{ℕ, List, map, Option}
use Rattle.std.specs.List.{find}
use Rattle.std.specs.Option.{option_map}
use Rattle.std.specs.Str.{bytes_eq}
use Rattle.a64_forms.specs.declared.form.Names.{Names}
use Rattle.a64_forms.specs.declared.form.Names.TheVariants as lists
use Rattle.a64_forms.specs.declared.names.TheConstants.{X, X_OR_SP, W, W_OR_SP, CONDITIONS, SHIFTS, SHIFTS_OR_TURN, LEFT, EXTENDS_W, EXTENDS_X, EXTENDS, OFFSETS_W, OFFSETS_X}

-- a text, and the bits that it stands for
pub record Name : Type 0 where
  pub text : List ℕ
  pub bits : ℕ

abbrev pub name : List ℕ → ℕ → Name
name text bits = record { text = text; bits = bits }

-- the names of a list
abbrev pub names_of : Names → List Name
names_of lists.X = map (λ n. name n.0.now n.1) X
names_of lists.XOrSp = map (λ n. name n.0.now n.1) X_OR_SP
names_of lists.W = map (λ n. name n.0.now n.1) W
names_of lists.WOrSp = map (λ n. name n.0.now n.1) W_OR_SP
names_of lists.Condition = map (λ n. name n.0.now n.1) CONDITIONS
names_of lists.Shift = map (λ n. name n.0.now n.1) SHIFTS
names_of lists.ShiftOrTurn = map (λ n. name n.0.now n.1) SHIFTS_OR_TURN
names_of lists.Left = map (λ n. name n.0.now n.1) LEFT
names_of lists.ExtendW = map (λ n. name n.0.now n.1) EXTENDS_W
names_of lists.ExtendX = map (λ n. name n.0.now n.1) EXTENDS_X
names_of lists.Extend = map (λ n. name n.0.now n.1) EXTENDS
names_of lists.OffsetW = map (λ n. name n.0.now n.1) OFFSETS_W
names_of lists.OffsetX = map (λ n. name n.0.now n.1) OFFSETS_X

-- the bits of the name that a text is
abbrev pub named_bits : List Name → List ℕ → Option ℕ
named_bits names text = option_map (λ (n : Name). n.bits) (find (λ (n : Name). bytes_eq n.text text) names)
