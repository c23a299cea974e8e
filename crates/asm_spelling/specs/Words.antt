-- How words are written: by the first form that reads as the word, and else as a number.
use Rattle.std.specs.Prelude.{ℕ, ◌==◌, ◌&&◌, Bool, true, false, if◌then◌else◌, List, [], ◌∷◌, ◌++◌, codes, find, map, bit_or, unwrap_or, Option, Some, None}
use Rattle.std.specs.Int.{w32, to_be_bytes}
use Rattle.std.specs.List.{flat_map, list_all, list_any}
use Rattle.std.specs.Option.{option_and_then, option_map, option_or}
use Rattle.hex.specs.Hex.{encode_lower}
use Rattle.a64_inst.specs.declared.kind.Kind.{Kind}
use Rattle.a64_inst.specs.Kinds.{operand, operand_kind}
use Rattle.a64_forms.specs.declared.form.Slot.{Slot}
use Rattle.a64_forms.specs.declared.form.Slot.TheVariants as slots
use Rattle.a64_forms.specs.Bits.{are_apart}
use Rattle.a64_forms.specs.Names.{Name}
use Rattle.a64_forms.specs.Spelling.{Form, Piece, accesses, branches, immediates, indexed, pairs, registers}
use Rattle.asm_spelling.specs.declared.named.Named.{Named}
use Rattle.asm_spelling.specs.declared.named.Named.TheVariants.{Nothing, Label}
use Rattle.asm_spelling.specs.declared.written.Texts.{Texts}
use Rattle.asm_spelling.specs.declared.written.Written.{Written}
use Rattle.asm_spelling.specs.Labels.{offset_text}
use Rattle.asm_spelling.specs.Slots.{name_of, without_operand, without_slot, written, written_slot}

-- the texts of a line, which give these bits together
abbrev pub texts : List (List ℕ) → ℕ → Texts
texts all bits = record { texts = all; bits = bits }

-- a text before others
abbrev pub before : Written → Texts → Texts
before first rest = texts (first.text ∷ rest.texts) (bit_or first.bits rest.bits)

abbrev pub written_piece : ℕ → Named → Piece → Option Written
written_piece word named p = option_map (λ (x : Written). written (p.before ++ x.text ++ p.behind) x.bits) (written_slot word named p.slot)

abbrev pub written_pieces : ℕ → Named → List Piece → Option Texts
written_pieces word named [] = Some (texts [] 0)
written_pieces word named (p ∷ ps) = option_and_then (λ first. option_map (before first) (written_pieces word named ps)) (written_piece word named p)

-- the word with 0 in the bits that the pieces have
abbrev pub without_pieces : List Piece → ℕ → ℕ
without_pieces [] word = word
without_pieces (p ∷ ps) word = without_pieces ps (without_slot p.slot word)

abbrev pub is_aim : Slot → Bool
is_aim (slots.Aim aim) = true
is_aim _ = false

-- a piece names something
abbrev pub has_aim : List Piece → Bool
has_aim ps = list_any (λ (p : Piece). is_aim p.slot) ps

-- the pieces name something where there is something to name
abbrev pub names_it : Named → List Piece → Bool
names_it Nothing ps = true
names_it (Label text offset) ps = has_aim ps

-- the texts read as the word, and differ in the registers that must differ
abbrev pub give : ℕ → Form → Texts → Bool
give word f x = (x.bits == word) && list_all (are_apart word) f.apart

-- the texts of a mnemonic and the pieces of its form, where they read as the word
abbrev pub with_mnemonic : ℕ → Named → Form → Name → Option Texts
with_mnemonic word named f n =
    option_and_then (λ (x : Texts). if give word f x then Some x else None) (option_map (before (written n.text n.bits)) (written_pieces word named f.pieces))

-- the form's texts of a word: its mnemonic has the bits that the pieces leave
abbrev pub written_form : ℕ → Named → Form → Option Texts
written_form word named f =
    if names_it named f.pieces then option_and_then (with_mnemonic word named f) (name_of f.mnemonics (without_pieces f.pieces word)) else None

-- those of the first form that has some
abbrev pub first_written : ℕ → Named → List Form → Option Texts
first_written word named [] = None
first_written word named (f ∷ fs) = option_or (written_form word named f) (first_written word named fs)

-- those of the table's first form that has some
unfoldable pub table_texts : ℕ → Named → Option Texts
table_texts word named =
    option_or (first_written word named immediates)
    (option_or (first_written word named registers)
    (option_or (first_written word named branches)
    (option_or (first_written word named accesses)
    (option_or (first_written word named indexed) (first_written word named pairs)))))

-- the texts of an instruction: where its operand names something, they leave the operand's bits 0
abbrev pub word_texts : ℕ → Named → Option Texts
word_texts word Nothing = table_texts word Nothing
word_texts word (Label text offset) = option_and_then (λ kind. table_texts (without_operand (operand kind) word) (Label text offset)) (operand_kind word)

-- what the operand names, behind a comma
abbrev pub operand_text : Named → List ℕ
operand_text Nothing = []
operand_text (Label text offset) = codes ", " ++ (text ++ offset_text offset)

-- the texts with spaces between them
abbrev pub spaced : List (List ℕ) → List ℕ
spaced [] = []
spaced (first ∷ rest) = first ++ flat_map (λ text. 32 ∷ text) rest

-- a word in eight digits
abbrev pub number_line : ℕ → Named → List ℕ
number_line word named = codes ".inst 0x" ++ (encode_lower (to_be_bytes w32 word) ++ operand_text named)

-- the line of a word: an instruction, or its number
abbrev pub word_line : ℕ → Named → List ℕ
word_line word named = unwrap_or (option_map (λ (x : Texts). spaced x.texts) (word_texts word named)) (number_line word named)
