-- Words and instructions by the instruction table.
use Rattle.std.specs.Prelude.{ℕ, Bool, ◌&&◌, not, if◌then◌else◌, List, [], ◌∷◌, Option, Some, None, option_and_then}
use Rattle.a64_inst.specs.declared.inst.Inst.{Inst}
use Rattle.a64_inst.specs.Parts.{meets, at_fields, joined, fit_parts}
use Rattle.a64_inst.specs.Rows.{Row, table, row_of, fields_of}
use Rattle.a64_inst.specs.Reserved.{names_word, is_reserved}

-- each field fits its bits
abbrev pub fields_fit : Inst → Bool
fields_fit i = fit_parts (row_of i).parts (fields_of i)

-- the fields fit, and the row does not keep them out
abbrev pub is_allowed : Inst → Bool
is_allowed i = fields_fit i && names_word i && not (is_reserved i)

-- the word of an instruction
abbrev pub word_of : Inst → ℕ
word_of i = joined 32 (row_of i).parts (fields_of i)

-- the instruction of a word that has the row's fixed bits
abbrev pub read_row : Row → ℕ → Option Inst
read_row r word = if meets 32 r.parts word then Some (at_fields 32 r.parts r.inst word) else None

-- the same of the first of these rows whose fixed bits the word has
abbrev pub read_rows : List Row → ℕ → Option Inst
read_rows [] word = None
read_rows (r ∷ rows) word = if meets 32 r.parts word then Some (at_fields 32 r.parts r.inst word) else read_rows rows word

-- an instruction, where its row does not keep it out
abbrev pub unreserved : Inst → Option Inst
unreserved i = if is_reserved i then None else Some i

-- the instruction of a word, if it is in a row of the table
abbrev pub row : ℕ → Option Inst
row word = option_and_then unreserved (read_rows table word)
