-- The definitions at small texts: each equation is computed.
use Rattle.std.proofs.Common.{◌≡◌, ℕ, pos, List, [], ◌∷◌, ◌++◌, Option, None, Some, Result, Ok, Err, refl}
use Rattle.std.specs.Prelude.{codes, map, replicate}
use Rattle.asm_read.specs.declared.fault.TextFault.{TextFault}
use Rattle.asm_read.specs.declared.fault.TextReason.{TextReason}
use Rattle.asm_read.specs.declared.fault.TextReason.TheVariants as reasons
use Rattle.asm_lines.specs.declared.line.AsmExpr.{AsmExpr}
use Rattle.asm_lines.specs.declared.line.AsmItem.{AsmItem}
use Rattle.asm_lines.specs.declared.line.AsmItem.TheVariants as items
use Rattle.asm_lines.specs.declared.line.AsmLine.{AsmLine}
use Rattle.asm_lines.specs.declared.line.AsmLine.TheVariants as lines
use Rattle.asm_lines.specs.declared.line.AsmName.{AsmName}
use Rattle.asm_modules.specs.declared.module.AsmAt.TheVariants as ats
use Rattle.asm_modules.specs.declared.module.AsmModule.{AsmModule}
use Rattle.asm_modules.specs.Outcomes.{outcome}

-- an identifier of equal bytes
abbrev id : ℕ → List ℕ
id n = replicate 16 n

abbrev name : List ℕ → AsmName
name bytes = record { name = bytes; ordinal = None }

abbrev second_of : List ℕ → AsmName
second_of bytes = record { name = bytes; ordinal = Some 2 }

abbrev at_start : List ℕ → AsmExpr
at_start bytes = record { label = name bytes; offset = pos 0 }

abbrev word : ℕ → AsmLine
word n = lines.Item (items.Word n None)

abbrev text : AsmLine
text = lines.Section (codes ".text")

abbrev code : AsmLine
code = lines.Interval (id 4) 4 None

-- what lines give that all say something
abbrev of : List AsmLine → Result AsmModule TextFault
of ls = outcome (map (λ l. Ok l) ls)

abbrev fault : ℕ → TextReason → Result AsmModule TextFault
fault line reason = Err (record { line = line; reason = reason })

abbrev main_words : List AsmItem
main_words =
    items.Word 3531603968 None
    ∷ items.Word 2415919105 (Some (at_start (codes "msg")))
    ∷ items.Word 2432696353 (Some (at_start (codes "msg")))
    ∷ items.Word 3556769793 None ∷ []

-- a program that prints what stands at `msg`, cut short
abbrev greeting : List AsmLine
greeting =
    text ∷ code ∷ lines.Label (name (codes "main")) ∷ lines.Entry
    ∷ lines.Item (items.Word 3531603968 None)
    ∷ lines.Item (items.Word 2415919105 (Some (at_start (codes "msg"))))
    ∷ lines.Item (items.Word 2432696353 (Some (at_start (codes "msg"))))
    ∷ lines.Item (items.Word 3556769793 None)
    ∷ lines.Section (codes ".data") ∷ lines.Interval (id 7) 1 None ∷ lines.Label (name (codes "msg"))
    ∷ lines.Item (items.Bytes (104 ∷ 105 ∷ 10 ∷ [])) ∷ []

greeting_is : of greeting ≡ Ok (record {
  intervals =
      record { uuid = id 4; align = 4; residue = None; items = main_words }
      ∷ record { uuid = id 7; align = 1; residue = None; items = items.Bytes (104 ∷ 105 ∷ 10 ∷ []) ∷ [] } ∷ [];
  labels =
      record { name = codes "main"; ordinal = 1; at = ats.Inside (id 4) 0 }
      ∷ record { name = codes "msg"; ordinal = 1; at = ats.Inside (id 7) 0 } ∷ [];
  entry = ats.Inside (id 4) 0;
})
greeting_is = refl

-- labels ahead of all, between items and at the end; a second label of a name
labels_are : of (lines.Set (name (codes "a")) 5 ∷ text ∷ code ∷ word 0 ∷ lines.Label (name (codes "b")) ∷ lines.Entry ∷ word 0 ∷ lines.Label (second_of (codes "a")) ∷ []) ≡ Ok (record {
  intervals = record { uuid = id 4; align = 4; residue = None; items = items.Word 0 None ∷ items.Word 0 None ∷ [] } ∷ [];
  labels =
      record { name = codes "a"; ordinal = 1; at = ats.Absolute 5 }
      ∷ record { name = codes "b"; ordinal = 1; at = ats.Inside (id 4) 4 }
      ∷ record { name = codes "a"; ordinal = 2; at = ats.Inside (id 4) 8 } ∷ [];
  entry = ats.Inside (id 4) 4;
})
labels_are = refl

-- ---- places

item_without_interval : of (text ∷ word 0 ∷ []) ≡ fault 2 reasons.Directive
item_without_interval = refl

item_in_another_section : of (text ∷ code ∷ lines.Entry ∷ text ∷ word 0 ∷ []) ≡ fault 5 reasons.Directive
item_in_another_section = refl

interval_ahead_of_sections : of (code ∷ []) ≡ fault 1 reasons.Directive
interval_ahead_of_sections = refl

set_in_a_section : of (text ∷ lines.Set (name (codes "a")) 0 ∷ []) ≡ fault 2 reasons.Directive
set_in_a_section = refl

interval_twice : of (text ∷ code ∷ lines.Entry ∷ code ∷ []) ≡ fault 4 reasons.Directive
interval_twice = refl

entry_twice : of (text ∷ code ∷ lines.Entry ∷ lines.Entry ∷ []) ≡ fault 4 reasons.Directive
entry_twice = refl

entry_between_words : of (text ∷ code ∷ lines.Item (items.Zero 2) ∷ lines.Entry ∷ []) ≡ fault 4 reasons.Directive
entry_between_words = refl

entry_of_two : of (text ∷ lines.Interval (id 4) 2 None ∷ lines.Entry ∷ []) ≡ fault 3 reasons.Directive
entry_of_two = refl

-- the line behind the last
no_entry : of (text ∷ code ∷ word 0 ∷ []) ≡ fault 4 reasons.Directive
no_entry = refl

no_lines : of [] ≡ fault 1 reasons.Directive
no_lines = refl

-- ---- labels

label_twice : of (text ∷ code ∷ lines.Label (name (codes "a")) ∷ lines.Entry ∷ lines.Label (name (codes "a")) ∷ []) ≡ fault 5 reasons.LabelTwice
label_twice = refl

label_nowhere : of (text ∷ code ∷ lines.Entry ∷ lines.Item (items.Quad (at_start (codes "a"))) ∷ []) ≡ fault 4 reasons.LabelUnknown
label_nowhere = refl

-- a missing entry counts first
label_nowhere_without_entry : of (text ∷ code ∷ lines.Item (items.Quad (at_start (codes "a"))) ∷ []) ≡ fault 4 reasons.Directive
label_nowhere_without_entry = refl

-- the first line at fault counts, whatever the reason
first_line_counts : outcome (Ok text ∷ Ok (word 0) ∷ Err reasons.Syntax ∷ []) ≡ fault 2 reasons.Directive
first_line_counts = refl

own_fault_counts : outcome (Ok text ∷ Err reasons.Number ∷ Ok (word 0) ∷ []) ≡ fault 2 reasons.Number
own_fault_counts = refl
