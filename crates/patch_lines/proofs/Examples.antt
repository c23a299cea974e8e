-- The definitions at small texts and modules: each equation is computed.
use Rattle.std.proofs.Common.{◌≡◌, ℕ, pos, false, List, [], ◌∷◌, ◌++◌, Option, None, Some, Result, Ok, Err, refl}
use Rattle.std.specs.Prelude.{replicate, length, codes}
use Rattle.asm_read.specs.declared.fault.TextReason.TheVariants as texts
use Rattle.a64_inst.specs.Rows.{table}
use Rattle.gt_model.specs.declared.intervals.Block.{Block}
use Rattle.gt_model.specs.declared.intervals.Body.TheVariants as bodies
use Rattle.gt_model.specs.declared.intervals.Interval.{Interval}
use Rattle.gt_model.specs.declared.modules.Module.{Module}
use Rattle.gt_model.specs.declared.modules.Section.{Section}
use Rattle.gt_model.specs.declared.symbols.Payload.TheVariants.{Referent}
use Rattle.gt_model.specs.declared.symbols.Symbol.{Symbol}
use Rattle.sym_expr.specs.declared.patches.FunLine.TheVariants as funs
use Rattle.sym_expr.specs.declared.patches.PatchTable.{PatchTable}
use Rattle.sym_expr.specs.declared.patches.PatchWord.{PatchWord}
use Rattle.sym_expr.specs.declared.patches.SymbolName.TheVariants as names
use Rattle.patch_lines.specs.declared.fault.PatchFault.{PatchFault}
use Rattle.patch_lines.specs.declared.fault.PatchReason.{PatchReason}
use Rattle.patch_lines.specs.declared.fault.PatchReason.TheVariants as reasons
use Rattle.patch_lines.specs.declared.line.LabelName.{LabelName}
use Rattle.patch_lines.specs.declared.line.PatchLine.{PatchLine}
use Rattle.patch_lines.specs.declared.line.PatchLine.TheVariants as lines
use Rattle.patch_lines.specs.declared.line.Spot.TheVariants as spots
use Rattle.patch_lines.specs.Building.{outcome}

-- an identifier of equal bytes
abbrev id : ℕ → List ℕ
id n = replicate 16 n

abbrev code : ℕ → ℕ → ℕ → Block
code n offset size = record { offset = offset; body = bodies.Code (id n) size 0 }

abbrev data_at : ℕ → ℕ → ℕ → Block
data_at n offset size = record { offset = offset; body = bodies.Data (id n) size }

abbrev interval : List Block → Interval
interval blocks = record { uuid = id 4; blocks = blocks; exprs = []; has_address = false; address = 0; size = 24; contents = [] }

abbrev section : List Block → Section
section blocks = record { uuid = id 3; name = []; intervals = interval blocks ∷ []; flags = pos 4 ∷ [] }

abbrev symbol : ℕ → List ℕ → ℕ → Symbol
symbol n name block = record { uuid = id n; name = name; at_end = false; payload = Referent (id block) }

-- code blocks 5 and 11, and a data block 8; `main` on 5, `loop` on 11, twice `twin` on 8
abbrev example : Module
example = record {
  uuid = id 2;
  binary_path = [];
  preferred_addr = 0;
  rebase_delta = pos 0;
  file_format = pos 0;
  isa = pos 7;
  name = [];
  symbols = symbol 9 (codes "main") 5 ∷ symbol 10 (codes "loop") 11 ∷ symbol 12 (codes "twin") 8 ∷ symbol 13 (codes "twin") 8 ∷ [];
  sections = section (code 5 0 8 ∷ code 11 8 8 ∷ data_at 8 16 8 ∷ []) ∷ [];
  proxies = [];
  aux = [];
  entry = Some (id 5);
  byte_order = pos 2;
}

abbrev label : List ℕ → LabelName
label name = record { name = name; ordinal = None }

-- add x0, x0, #2
abbrev add : PatchLine
add = lines.Word 0x91000800 None

-- `bl` to a name
abbrev call : List ℕ → PatchLine
call name = lines.Word 0x94000000 (Some (record { label = label name; offset = pos 0 }))

abbrev plain : ℕ → PatchWord
plain n = record { word = n; target = None }

abbrev fault : ℕ → PatchReason → Result PatchTable PatchFault
fault line reason = Err (record { line = line; reason = reason })

-- an insert at an odd place
bad_offset : outcome example (lines.Insert (spots.Block (id 5)) 2 ∷ []) ≡ fault 1 reasons.BadOffset
bad_offset = refl

-- a function named like a symbol
taken_name : outcome example (lines.Function (codes "main") ∷ []) ≡ fault 1 reasons.NameTaken
taken_name = refl

no_such_symbol : outcome example (lines.Insert (spots.Symbol (label (codes "nobody"))) 0 ∷ []) ≡ fault 1 reasons.UnknownName
no_such_symbol = refl

which_symbol : outcome example (lines.Insert (spots.Symbol (label (codes "twin"))) 0 ∷ []) ≡ fault 1 reasons.Ambiguous
which_symbol = refl

-- the second `twin` is on data
no_code : outcome example (lines.Insert (spots.Symbol (record { name = codes "twin"; ordinal = Some 2 })) 0 ∷ []) ≡ fault 1 reasons.UnknownBlock
no_code = refl

-- an instruction outside is no line there, whatever its numbers
outside : outcome example (lines.Blank ∷ lines.UnfitWord ∷ []) ≡ fault 2 (reasons.Text texts.Syntax)
outside = refl

inside : outcome example (lines.Insert (spots.Block (id 5)) 0 ∷ lines.UnfitWord ∷ []) ≡ fault 2 (reasons.Text texts.Number)
inside = refl

-- nothing stands between an insert and its end
empty_body : outcome example (lines.Insert (spots.Block (id 5)) 0 ∷ lines.End ∷ []) ≡ fault 2 (reasons.Text texts.Syntax)
empty_body = refl

-- the end is missing: the line behind the last is at fault
no_end : outcome example (lines.Insert (spots.Block (id 5)) 0 ∷ add ∷ []) ≡ fault 3 (reasons.Text texts.Syntax)
no_end = refl

-- a fault of the first pass in a later line comes before one of the second
passes : outcome example (lines.Insert (spots.Block (id 5)) 0 ∷ call (codes "nobody") ∷ lines.End ∷ lines.End ∷ []) ≡ fault 4 (reasons.Text texts.Syntax)
passes = refl

unknown_target : outcome example (lines.Insert (spots.Block (id 5)) 0 ∷ call (codes "nobody") ∷ lines.End ∷ []) ≡ fault 2 reasons.UnknownName
unknown_target = refl

-- a branch to data
bad_target : outcome example (lines.Insert (spots.Block (id 5)) 0 ∷ lines.Word 0x94000000 (Some (record { label = record { name = codes "twin"; ordinal = Some 1 }; offset = pos 0 })) ∷ lines.End ∷ []) ≡ fault 2 reasons.BadTarget
unfolding table
bad_target = refl

-- an insert before `loop` that calls a function of the text, which stands behind it
whole : outcome example (lines.Insert (spots.Symbol (label (codes "loop"))) 0 ∷ call (codes "five") ∷ lines.End ∷ lines.Blank ∷ lines.Function (codes "five") ∷ add ∷ lines.Label (codes "six") ∷ add ∷ lines.End ∷ [])
    ≡ Ok (record {
      inserts = record { block = id 11; offset = 0; body = record { word = 0x94000000; target = Some (record { symbol = names.New (codes "five"); offset = pos 0 }) } ∷ [] } ∷ [];
      functions = record { name = codes "five"; body = funs.Word (plain 0x91000800) ∷ funs.Label (codes "six") ∷ funs.Word (plain 0x91000800) ∷ [] } ∷ [];
    })
whole = refl
