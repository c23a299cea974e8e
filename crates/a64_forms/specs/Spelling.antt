-- The spellings of instructions: the pieces of a line, which are its words, each cut behind its commas.
use Rattle.std.specs.Prelude.{ℕ, ◌≡◌, ◌⊎◌, ℤ, pos, ◌-ℤ◌, ◌≤ℤ◌, Bool, true, false, ◌||◌, ◌==◌, IsTrue, List, [], ◌∷◌, ◌++◌, map, Option, Some, None, bit_or}
use Rattle.std.specs.Char.{is_ascii_alphabetic, is_ascii_lowercase}
use Rattle.std.specs.List.{list_all}
use Rattle.std.specs.Option.{option_map, option_or}
use Rattle.a64_inst.specs.declared.kind.Operand.{Operand}
use Rattle.a64_inst.specs.Kinds.{operand}
use Rattle.a64_forms.specs.declared.form.Aim.{Aim}
use Rattle.a64_forms.specs.declared.form.Apart.{Apart}
use Rattle.a64_forms.specs.declared.form.Numbers.{Numbers}
use Rattle.a64_forms.specs.declared.form.Numbers.TheVariants.{Fitting, Any}
use Rattle.a64_forms.specs.declared.form.Slot.{Slot}
use Rattle.a64_forms.specs.declared.form.Slot.TheVariants as slots
use Rattle.a64_forms.specs.declared.forms.TheConstants.{IMMEDIATES, REGISTERS, BRANCHES, ACCESSES, INDEXED, PAIRS}
use Rattle.a64_forms.specs.declared.share.Share.{Share as Held}
use Rattle.a64_forms.specs.Bits.{IsMask, are_apart, number_bits, placed}
use Rattle.a64_forms.specs.Names.{Name, name, named_bits, names_of}
use Rattle.a64_forms.specs.Number.{IsNumber, IsNumberWord}

-- what a piece gives: bits of the word, and a target that it names
pub record Spelled : Type 0 where
  pub bits : ℕ
  pub target : Option (Aim × List ℕ)

abbrev pub spelled : ℕ → Option (Aim × List ℕ) → Spelled
spelled bits target = record { bits = bits; target = target }

-- the same of a value of the program
abbrev pub held : Held → Spelled
held s = spelled s.bits (option_map (λ t. (t.aim, t.text.now)) s.target)

-- what two of them give together
abbrev pub both : Spelled → Spelled → Spelled
both a b = spelled (bit_or a.bits b.bits) (option_or a.target b.target)

-- `#`, perhaps a minus sign, and a number
abbrev pub IsImmediate : List ℕ → ℤ → Type 0
IsImmediate text value =
    (digits : List ℕ) × (n : ℕ) × IsNumber digits n
    × (((text ≡ 35 ∷ digits) × (value ≡ pos n)) ⊎ ((text ≡ 35 ∷ 45 ∷ digits) × (value ≡ pos 0 -ℤ pos n)))

-- a number in the operand's bits
unfoldable pub IsNumberOf : Operand → List ℕ → Spelled → Type 0
IsNumberOf o text s = (value : ℤ) × IsImmediate text value × (number_bits o value ≡ Some s.bits) × (s.target ≡ None)

-- `#` and a number that is a logical immediate
unfoldable pub IsMaskOf : ℕ → List ℕ → Spelled → Type 0
IsMaskOf sf text s = (digits : List ℕ) × (value : ℕ) × (text ≡ 35 ∷ digits) × IsNumber digits value × IsMask sf value s.bits × (s.target ≡ None)

-- a number word where the operand takes some number: behind a minus sign it takes 0 at least
unfoldable pub IsNumberIn : Operand → List ℕ → Spelled → Type 0
IsNumberIn o text s =
    (digits : List ℕ) × IsNumberWord digits × ((text ≡ 35 ∷ digits) ⊎ ((text ≡ 35 ∷ 45 ∷ digits) × (o.least ≤ℤ pos 0)))
    × (s ≡ spelled 0 None)

-- a number word where some number is a logical immediate
unfoldable pub IsMaskIn : List ℕ → Spelled → Type 0
IsMaskIn text s = (digits : List ℕ) × IsNumberWord digits × (text ≡ 35 ∷ digits) × (s ≡ spelled 0 None)

-- the number itself, or any in its place, which leaves its bits 0
abbrev pub IsNumberAs : Numbers → Operand → List ℕ → Spelled → Type 0
IsNumberAs Fitting o text s = IsNumberOf o text s
IsNumberAs Any o text s = IsNumberIn o text s

abbrev pub IsMaskAs : Numbers → ℕ → List ℕ → Spelled → Type 0
IsMaskAs Fitting sf text s = IsMaskOf sf text s
IsMaskAs Any sf text s = IsMaskIn text s

-- a letter, `_`, `.` or `$`, with which a bare name begins, or the quote before one that is quoted
abbrev pub is_name_start : ℕ → Bool
is_name_start b = is_ascii_alphabetic b || b == 95 || b == 46 || b == 36 || b == 34

abbrev pub begins_name : List ℕ → Bool
begins_name [] = false
begins_name (b ∷ bytes) = is_name_start b

-- the text is what the slot stands for, and gives this
abbrev pub IsSlot : Numbers → Slot → List ℕ → Spelled → Type 0
IsSlot n (slots.Name list place) text s = (option_map (placed place) (named_bits (names_of list) text) ≡ Some s.bits) × (s.target ≡ None)
IsSlot n (slots.Number o) text s = IsNumberAs n o text s
IsSlot n (slots.Distance kind) text s = IsNumberAs n (operand kind) text s
IsSlot n (slots.Mask sf) text s = IsMaskAs n sf text s
IsSlot n (slots.Aim aim) text s = IsTrue (begins_name text) × (s ≡ spelled 0 (Some (aim, text)))

-- a small letter stands first, as in each mnemonic
abbrev pub begins_small : List ℕ → Bool
begins_small [] = false
begins_small (b ∷ bytes) = is_ascii_lowercase b

-- a slot, with the text before and behind it
pub record Piece : Type 0 where
  pub before : List ℕ
  pub slot : Slot
  pub behind : List ℕ

abbrev pub piece : List ℕ → Slot → List ℕ → Piece
piece before slot behind = record { before = before; slot = slot; behind = behind }

-- the text is the piece, with what its slot stands for
abbrev pub IsPiece : Numbers → Piece → List ℕ → Spelled → Type 0
IsPiece n p text s = (inside : List ℕ) × (text ≡ p.before ++ inside ++ p.behind) × IsSlot n p.slot inside s

-- the texts are the pieces one by one, and give this together
unfoldable pub ArePieces : Numbers → List Piece → List (List ℕ) → Spelled → Type 0
ArePieces n [] [] s = s ≡ spelled 0 None
ArePieces n [] (text ∷ texts) s = ⊥
ArePieces n (p ∷ ps) [] s = ⊥
ArePieces n (p ∷ ps) (text ∷ texts) s = (first : Spelled) × (rest : Spelled) × IsPiece n p text first × ArePieces n ps texts rest × (s ≡ both first rest)

-- spellings that differ in their mnemonics alone: the mnemonics with the bits of their words, the pieces behind, and
-- which registers differ
pub record Form : Type 0 where
  pub mnemonics : List Name
  pub pieces : List Piece
  pub apart : List Apart

abbrev pub form : List Name → List Piece → List Apart → Form
form mnemonics pieces apart = record { mnemonics = mnemonics; pieces = pieces; apart = apart }

-- the texts are a mnemonic of the form and its pieces
unfoldable pub Spells : Numbers → Form → List (List ℕ) → Spelled → Type 0
Spells n f [] s = ⊥
Spells n f (text ∷ texts) s =
    (word : ℕ) × (rest : Spelled) × (named_bits f.mnemonics text ≡ Some word) × ArePieces n f.pieces texts rest
    × (s ≡ both (spelled word None) rest) × (list_all (are_apart s.bits) f.apart ≡ true)

-- one of the forms spells it
unfoldable pub OneSpells : Numbers → List Form → List (List ℕ) → Spelled → Type 0
OneSpells n [] texts s = ⊥
OneSpells n (f ∷ fs) texts s = Spells n f texts s ⊎ OneSpells n fs texts s

-- the forms of a table
unfoldable pub immediates : List Form
immediates = map (λ f. form (map (λ n. name n.0.now n.1) f.0.now) (map (λ p. piece p.0.now p.1 p.2.now) f.1.now) f.2.now) IMMEDIATES

unfoldable pub registers : List Form
registers = map (λ f. form (map (λ n. name n.0.now n.1) f.0.now) (map (λ p. piece p.0.now p.1 p.2.now) f.1.now) f.2.now) REGISTERS

unfoldable pub branches : List Form
branches = map (λ f. form (map (λ n. name n.0.now n.1) f.0.now) (map (λ p. piece p.0.now p.1 p.2.now) f.1.now) f.2.now) BRANCHES

unfoldable pub accesses : List Form
accesses = map (λ f. form (map (λ n. name n.0.now n.1) f.0.now) (map (λ p. piece p.0.now p.1 p.2.now) f.1.now) f.2.now) ACCESSES

unfoldable pub indexed : List Form
indexed = map (λ f. form (map (λ n. name n.0.now n.1) f.0.now) (map (λ p. piece p.0.now p.1 p.2.now) f.1.now) f.2.now) INDEXED

unfoldable pub pairs : List Form
pairs = map (λ f. form (map (λ n. name n.0.now n.1) f.0.now) (map (λ p. piece p.0.now p.1 p.2.now) f.1.now) f.2.now) PAIRS

-- one of the forms of data processing spells it
abbrev pub IsData : Numbers → List (List ℕ) → Spelled → Type 0
IsData n texts s = OneSpells n immediates texts s ⊎ OneSpells n registers texts s

-- one of the forms of loads and stores spells it: of one register, by an offset in a register, or of a pair
abbrev pub IsWide : Numbers → List (List ℕ) → Spelled → Type 0
IsWide n texts s = OneSpells n indexed texts s ⊎ OneSpells n pairs texts s

abbrev pub IsAccess : Numbers → List (List ℕ) → Spelled → Type 0
IsAccess n texts s = OneSpells n accesses texts s ⊎ IsWide n texts s

-- one of the forms of branches, loads and stores spells it
abbrev pub IsFlow : Numbers → List (List ℕ) → Spelled → Type 0
IsFlow n texts s = OneSpells n branches texts s ⊎ IsAccess n texts s

-- the pieces of a line have the form of an instruction, with such numbers
abbrev pub HasForm : Numbers → List (List ℕ) → Spelled → Type 0
HasForm n texts s = IsData n texts s ⊎ IsFlow n texts s

-- the pieces of a line spell a word, with the target that it names
abbrev pub IsSpelling : List (List ℕ) → Spelled → Type 0
IsSpelling texts s = HasForm Fitting texts s

-- they would spell a word with other numbers in the places of their number words
abbrev pub IsShape : List (List ℕ) → Spelled → Type 0
IsShape texts s = HasForm Any texts s
