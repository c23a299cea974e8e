-- The operands of words that an expression can give.
use Rattle.std.specs.Prelude.{ℕ, Bool, false, ◌==◌, List, find, Option, bit_and}
use Rattle.std.specs.Option.{option_map, option_map_or}
use Rattle.a64_inst.specs.declared.kind.TheConstants.{KIND_WORDS, REL26, REL19, REL14, ADR, PAGE, LOW12}
use Rattle.a64_inst.specs.declared.kind.Kind.{Kind}
use Rattle.a64_inst.specs.declared.kind.Kind.TheVariants.{Rel26, Rel19, Rel14, Adr, Page, Low12}
use Rattle.a64_inst.specs.declared.kind.KindWords.{KindWords}
use Rattle.a64_inst.specs.declared.kind.Operand.{Operand}

-- the word has the row's value in the bits of its mask
abbrev pub is_in : ℕ → KindWords → Bool
is_in word words = bit_and word words.mask == words.value

-- the first row of a table that a word is in
abbrev pub words_among : List KindWords → ℕ → Option KindWords
words_among rows word = find (is_in word) rows

-- the kind of the operand of a word, if it has one
abbrev pub operand_kind : ℕ → Option Kind
operand_kind word = option_map (λ (words : KindWords). words.kind) (words_among KIND_WORDS word)

-- the word is a direct branch
abbrev pub is_branch : ℕ → Bool
is_branch word = option_map_or (λ (words : KindWords). words.branch) (words_among KIND_WORDS word) false

-- what a kind takes
abbrev pub operand : Kind → Operand
operand Rel26 = REL26
operand Rel19 = REL19
operand Rel14 = REL14
operand Adr = ADR
operand Page = PAGE
operand (Low12 unit) = record LOW12 { unit = unit }
