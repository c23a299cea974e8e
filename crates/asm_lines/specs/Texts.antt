-- The texts of an instruction: its mnemonic, and the words behind it, each cut behind its commas.
use Rattle.std.specs.Prelude.{ℕ, Bool, false, ◌==◌, if◌then◌else◌, List, [], ◌∷◌}
use Rattle.std.specs.List.{flat_map}
use Rattle.asm_read.specs.Words.{before_first}
use Rattle.asm_lines.specs.declared.cut.Place.{Place}
use Rattle.asm_lines.specs.declared.cut.Place.TheVariants.{Outside, Quoted, Escaped}

-- where the byte behind this one stands
abbrev pub after : Place → ℕ → Place
after Outside b = if b == 34 then Quoted else Outside
after Quoted b = if b == 34 then Outside else (if b == 92 then Escaped else Quoted)
after Escaped b = Quoted

-- a comma outside quotes
abbrev pub ends_text : Place → ℕ → Bool
ends_text Outside b = b == 44
ends_text Quoted b = false
ends_text Escaped b = false

-- the texts of a word from a place in it on: each but the last ends with such a comma
abbrev pub cut_from : Place → List ℕ → List (List ℕ)
cut_from place [] = []
cut_from place (b ∷ bytes) = if ends_text place b then (b ∷ []) ∷ cut_from (after place b) bytes else before_first (b ∷ []) (cut_from (after place b) bytes)

-- what was read of a text before, at the front of the first
abbrev pub with_text : List ℕ → List (List ℕ) → List (List ℕ)
with_text [] texts = texts
with_text (b ∷ bytes) texts = before_first (b ∷ bytes) texts

abbrev pub cut : List ℕ → List (List ℕ)
cut word = cut_from Outside word

abbrev pub texts_of : List (List ℕ) → List (List ℕ)
texts_of [] = []
texts_of (mnemonic ∷ operands) = mnemonic ∷ flat_map cut operands
