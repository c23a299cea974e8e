-- Lines of printed text, without their ends.
use Rattle.std.specs.Prelude.{◌≡◌, ◌==◌, ◌++◌, ℕ, ℤ, Bool, false, true, not, List, [], Option, None, Some, codes}
use Rattle.std.specs.Fmt.{decimal, digits}
use Rattle.std.specs.List.{list_all}
use Rattle.hex.specs.Hex.{encode_lower}
use Rattle.uuid.specs.Text.{hyphenated_text, lower}
use Rattle.asm_lines.specs.declared.line.AsmExpr.{AsmExpr}
use Rattle.asm_lines.specs.declared.line.AsmLine.{AsmLine}
use Rattle.asm_lines.specs.Labels.{quoted}
use Rattle.asm_directives.specs.Lines.{IsAsmLine}
use Rattle.asm_spelling.specs.Labels.{label_text, offset_text}
use Rattle.asm_spelling.specs.Reading.{label}

-- no line ends at the byte
abbrev pub goes_on : ℕ → Bool
goes_on b = not (b == 10)

-- it is one line, which says this
pub record IsPrinted (line : List ℕ) (said : AsmLine) : Type 0 where
  pub says : IsAsmLine line said
  pub whole : list_all goes_on line ≡ true

-- ---- marks

-- an absolute label, in hexadecimal
abbrev pub set_text : List ℕ → ℕ → ℕ → List ℕ
set_text name k value = codes ".set " ++ (label_text name k ++ (codes ", 0x" ++ digits 16 false value))

-- a section begins
abbrev pub section_text : List ℕ → List ℕ
section_text name = codes ".section " ++ quoted name

-- the residue, where there is one
abbrev pub residue_text : Option ℕ → List ℕ
residue_text None = []
residue_text (Some residue) = codes " " ++ decimal residue

-- an interval begins
abbrev pub interval_text : List ℕ → ℕ → Option ℕ → List ℕ
interval_text uuid align residue = codes ".interval " ++ (hyphenated_text lower uuid ++ (codes " " ++ (decimal align ++ residue_text residue)))

-- a label of this position
abbrev pub label_line : List ℕ → ℕ → List ℕ
label_line name k = label_text name k ++ codes ":"

-- the entry is here
abbrev pub entry_text : List ℕ
entry_text = codes ".entry"

-- ---- items

-- the line of an item
abbrev pub item_text : List ℕ → List ℕ
item_text text = codes "    " ++ text

-- bytes
abbrev pub hex_text : List ℕ → List ℕ
hex_text bytes = item_text (codes ".hex " ++ encode_lower bytes)

-- so many zeros
abbrev pub zero_text : ℕ → List ℕ
zero_text count = item_text (codes ".zero " ++ decimal count)

-- a label and an offset
abbrev pub sum_text : List ℕ → ℕ → ℤ → List ℕ
sum_text name k offset = label_text name k ++ offset_text offset

-- one label less another
abbrev pub difference_text : List ℕ → ℕ → List ℕ → ℕ → ℤ → List ℕ
difference_text name k other n offset = label_text name k ++ (codes "-" ++ (label_text other n ++ offset_text offset))

-- the same divided by 4
abbrev pub quarter_text : List ℕ → ℕ → List ℕ → ℕ → List ℕ
quarter_text name k other n = codes "(" ++ (label_text name k ++ (codes "-" ++ (label_text other n ++ codes ")/4")))

-- the expression that a label and an offset are
abbrev pub sum_of : List ℕ → ℕ → ℤ → AsmExpr
sum_of name k offset = record { label = label name k; offset = offset }
