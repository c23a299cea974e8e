-- Layout text: what its lines say, which layout they give, and the first line at fault.
use Rattle.std.specs.Prelude.{◌≡◌, ◌≤◌, ◌<◌, ◌⊎◌, ℕ, ◌+◌, ◌==◌, Some, false, List, [], ◌∷◌, ◌++◌, length, take, codes, IsUtf8, if◌then◌else◌}
use Rattle.std.specs.List.{flat_map}
use Rattle.std.specs.Fmt.{digits}
use Rattle.uuid.specs.Text.{lower, hyphenated_text}
use Rattle.asm_read.specs.Identifier.{identifier_of}
use Rattle.asm_read.specs.Number.{IsNumber}
use Rattle.asm_read.specs.Words.{HasWords, before_first}
use Rattle.sym_expr.specs.declared.layout.Layout.{Layout}
use Rattle.sym_expr.specs.declared.layout.PlaceAt.{PlaceAt}
use Rattle.sym_expr.specs.Layouts.{IsStackSize}
use Rattle.layout_plan.specs.declared.line.LayoutLine.{LayoutLine}
use Rattle.layout_plan.specs.declared.line.LayoutLine.TheVariants.{Place, Stack}
use Rattle.layout_plan.specs.declared.line.StackAt.{StackAt}

-- the lines of a text: each ends with the byte 10, which the last may lack
abbrev pub lines_of : List ℕ → List (List ℕ)
lines_of [] = []
lines_of (b ∷ bytes) = if b == 10 then [] ∷ lines_of bytes else before_first (b ∷ []) (lines_of bytes)

-- an identifier and an address
pub record IsPlace (interval at : List ℕ) (p : PlaceAt) : Type 0 where
  pub interval_is : identifier_of interval ≡ Some p.interval
  pub at_is : IsNumber at p.at

-- an address and a size that a stack may have
pub record IsStack (at size : List ℕ) (s : StackAt) : Type 0 where
  pub at_is : IsNumber at s.at
  pub size_is : IsNumber size s.size
  pub size_fits : IsStackSize s.size

-- `place UUID NUMBER` and `stack NUMBER NUMBER`
abbrev pub ThreeSay : (first second third : List ℕ) → LayoutLine → Type 0
ThreeSay first second third (Place p) = (first ≡ codes "place") × IsPlace second third p
ThreeSay first second third (Stack s) = (first ≡ codes "stack") × IsStack second third s

abbrev pub WordsSay : List (List ℕ) → LayoutLine → Type 0
WordsSay words said = (first second third : List ℕ) × (words ≡ first ∷ second ∷ third ∷ []) × ThreeSay first second third said

pub record Says (line : List ℕ) (said : LayoutLine) : Type 0 where
  pub utf8 : IsUtf8 line
  pub words : List (List ℕ)
  pub has : HasWords line words
  pub say : WordsSay words said

-- what each line says
abbrev pub Say : List (List ℕ) → List LayoutLine → Type 0
Say [] [] = Unit {0}
Say (line ∷ lines) (said ∷ more) = Says line said × Say lines more
Say _ _ = ⊥

-- the places among what lines say, and the stacks
abbrev pub places_in : List LayoutLine → List PlaceAt
places_in [] = []
places_in (Place p ∷ more) = p ∷ places_in more
places_in (Stack s ∷ more) = places_in more

abbrev pub stacks_in : List LayoutLine → List StackAt
stacks_in [] = []
stacks_in (Place p ∷ more) = stacks_in more
stacks_in (Stack s ∷ more) = s ∷ stacks_in more

-- the text's lines give the layout: its places in order, and one stack among them
pub record layout_text (text : List ℕ) (layout : Layout) : Type 0 where
  pub said : List LayoutLine
  pub say : Say (lines_of text) said
  pub places : layout.places ≡ places_in said
  pub stack : stacks_in said ≡ record { at = layout.stack_at; size = layout.stack_size } ∷ []

-- lines of layout text with one stack at most
pub record IsFront (lines : List (List ℕ)) : Type 0 where
  pub said : List LayoutLine
  pub say : Say lines said
  pub stacks : length (stacks_in said) ≤ 1

-- all lines up to this one, which isn't counted, go on together, and with it they don't
pub record IsFaultyLine (lines : List (List ℕ)) (n : ℕ) : Type 0 where
  pub within : n < length lines
  pub before : IsFront (take n lines)
  pub faulty : IsFront (take (n + 1) lines) → ⊥

-- all lines are lines of layout text, and none has the stack
pub record LacksStack (lines : List (List ℕ)) : Type 0 where
  pub said : List LayoutLine
  pub say : Say lines said
  pub none : stacks_in said ≡ []

-- the first line at fault, counted from 1; where only the stack is missing, the line after the last
abbrev pub text_fault : List ℕ → ℕ → Type 0
text_fault text number = (n : ℕ) × (number ≡ n + 1) × (IsFaultyLine (lines_of text) n ⊎ ((n ≡ length (lines_of text)) × LacksStack (lines_of text)))

-- the text of a layout, with small digits
abbrev pub hexadecimal : ℕ → List ℕ
hexadecimal n = codes "0x" ++ digits 16 false n

abbrev pub place_line : PlaceAt → List ℕ
place_line p = codes "place " ++ (hyphenated_text lower p.interval ++ (codes " " ++ (hexadecimal p.at ++ codes "\n")))

abbrev pub stack_line : ℕ → ℕ → List ℕ
stack_line at size = codes "stack " ++ (hexadecimal at ++ (codes " " ++ (hexadecimal size ++ codes "\n")))

abbrev pub spelling : Layout → List ℕ
spelling layout = flat_map place_line layout.places ++ stack_line layout.stack_at layout.stack_size
