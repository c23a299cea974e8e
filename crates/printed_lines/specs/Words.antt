-- What the lines of words are read as.
use Rattle.std.specs.Prelude.{ℕ, ℤ, is_some, if◌then◌else◌, List, Option}
use Rattle.std.specs.Option.{option_map_or}
use Rattle.a64_inst.specs.Kinds.{operand, operand_kind}
use Rattle.asm_spelling.specs.declared.named.Named.{Named}
use Rattle.asm_spelling.specs.Slots.{without_operand}
use Rattle.asm_spelling.specs.Words.{word_texts}

-- a word with 0 in the bits of its operand
abbrev pub left_open : ℕ → ℕ
left_open word = option_map_or (λ kind. without_operand (operand kind) word) (operand_kind word) word

-- the word that its line gives where its operand names something: an instruction leaves the operand's bits 0
abbrev pub read_word : ℕ → Named → ℕ
read_word word named = if is_some (word_texts word named) then left_open word else word
