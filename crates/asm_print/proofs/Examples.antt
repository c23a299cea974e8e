-- The text of a small module, computed.
use Rattle.std.proofs.Common.{◌≡◌, ℕ, ℤ, pos, false, true, List, [], ◌∷◌, ◌++◌, Option, None, Some, refl}
use Rattle.std.specs.Prelude.{codes, replicate}
use Rattle.std.specs.Fmt.{digits}
use Rattle.std.specs.List.{flat_map}
use Rattle.uuid.specs.Text.{by_index}
use Rattle.gt_model.specs.declared.exprs.Expr.{Expr}
use Rattle.gt_model.specs.declared.exprs.ExprValue.TheVariants.{AddrConst, AddrAddr}
use Rattle.gt_model.specs.declared.intervals.Block.{Block}
use Rattle.gt_model.specs.declared.intervals.Body.TheVariants as bodies
use Rattle.gt_model.specs.declared.intervals.Interval.{Interval}
use Rattle.gt_model.specs.declared.modules.Module.{Module}
use Rattle.gt_model.specs.declared.modules.Section.{Section}
use Rattle.gt_model.specs.declared.symbols.Payload.{Payload}
use Rattle.gt_model.specs.declared.symbols.Payload.TheVariants.{Value, Referent}
use Rattle.gt_model.specs.declared.symbols.Symbol.{Symbol}
use Rattle.hex.specs.Hex.{encode_with}
use Rattle.a64_forms.specs.Spelling.{accesses, branches, immediates, indexed, pairs, registers}
use Rattle.sym_expr.specs.Tables.{Tables, no_tables}
use Rattle.asm_spelling.specs.Words.{table_texts}
use Rattle.asm_print.specs.Printed.{printed_with}

-- an identifier of equal bytes
abbrev id : ℕ → List ℕ
id n = replicate 16 n

abbrev sum : ℕ → ℕ → Expr
sum at symbol = record { at = at; value = AddrConst (pos 0) (Some (id symbol)); flags = [] }

abbrev symbol : ℕ → List ℕ → ℕ → Symbol
symbol n name block = record { uuid = id n; name = name; at_end = false; payload = Referent (id block) }

abbrev interval : ℕ → ℕ → List Block → List Expr → List ℕ → Interval
interval n size blocks exprs contents = record { uuid = id n; blocks = blocks; exprs = exprs; has_address = false; address = 0; size = size; contents = contents }

abbrev section : ℕ → List ℕ → Interval → Section
section n name i = record { uuid = id n; name = name; intervals = i ∷ []; flags = pos 4 ∷ [] }

abbrev with_parts : List Symbol → List Section → Module
with_parts symbols sections = record {
  uuid = id 2;
  binary_path = [];
  preferred_addr = 0;
  rebase_delta = pos 0;
  file_format = pos 0;
  isa = pos 7;
  name = [];
  symbols = symbols;
  sections = sections;
  proxies = [];
  aux = [];
  entry = Some (id 5);
  byte_order = pos 2;
}

-- a program that writes "hi" and a line end, and exits with 0
abbrev text : Interval
text = interval 4 36 (record { offset = 0; body = bodies.Code (id 5) 36 0 } ∷ []) (sum 4 10 ∷ sum 8 10 ∷ [])
    (0x20 ∷ 0x00 ∷ 0x80 ∷ 0xd2 ∷ 0x01 ∷ 0x00 ∷ 0x00 ∷ 0x90 ∷ 0x21 ∷ 0x00 ∷ 0x00 ∷ 0x91 ∷ 0x62 ∷ 0x00 ∷ 0x80 ∷ 0xd2 ∷ 0x08 ∷ 0x08 ∷ 0x80 ∷ 0xd2
    ∷ 0x01 ∷ 0x00 ∷ 0x00 ∷ 0xd4 ∷ 0x00 ∷ 0x00 ∷ 0x80 ∷ 0xd2 ∷ 0xa8 ∷ 0x0b ∷ 0x80 ∷ 0xd2 ∷ 0x01 ∷ 0x00 ∷ 0x00 ∷ 0xd4 ∷ [])

abbrev message : Interval
message = interval 7 3 (record { offset = 0; body = bodies.Data (id 8) 3 } ∷ []) [] (104 ∷ 105 ∷ 10 ∷ [])

abbrev hello : Module
hello = with_parts (symbol 9 (codes "main") 5 ∷ symbol 10 (codes "msg") 8 ∷ []) (section 3 (codes ".text") text ∷ section 6 (codes ".data") message ∷ [])

abbrev lines : List (List ℕ) → List ℕ
lines texts = flat_map (λ (t : List ℕ). t ++ 10 ∷ []) texts

whole : printed_with hello no_tables
    ≡ lines (
    codes ".section \".text\""
    ∷ codes ".interval 04040404-0404-0404-0404-040404040404 4"
    ∷ codes "main:"
    ∷ codes ".entry"
    ∷ codes "    movz x0, #1"
    ∷ codes "    adrp x1, msg"
    ∷ codes "    add x1, x1, :lo12:msg"
    ∷ codes "    movz x2, #3"
    ∷ codes "    movz x8, #64"
    ∷ codes "    svc #0"
    ∷ codes "    movz x0, #0"
    ∷ codes "    movz x8, #93"
    ∷ codes "    svc #0"
    ∷ codes ".section \".data\""
    ∷ codes ".interval 07070707-0707-0707-0707-070707070707 1"
    ∷ codes "msg:"
    ∷ codes "    .hex 68690a"
    ∷ []
    )
unfolding table_texts immediates registers branches accesses indexed pairs digits encode_with by_index
whole = refl

-- two symbols of one name, an absolute one, a cut at an expression, zeros, and what stands at the end
abbrev numbers : Symbol
numbers = record { uuid = id 13; name = codes "x y"; at_end = false; payload = Value 4660 }

abbrev end : Symbol
end = record { uuid = id 14; name = codes "end"; at_end = true; payload = Referent (id 8) }

abbrev entries : Expr
entries = record { at = 2; value = AddrAddr (pos 4) (pos 0) (Some (id 14)) (Some (id 10)); flags = [] }

abbrev table : Interval
table = record { uuid = id 7; blocks = record { offset = 2; body = bodies.Data (id 8) 5 } ∷ []; exprs = entries ∷ []; has_address = true; address = 4097; size = 7; contents = 1 ∷ 2 ∷ [] }

abbrev mixed : Module
mixed = with_parts (numbers ∷ symbol 10 (codes "x y") 8 ∷ end ∷ []) (section 6 (codes ".data") table ∷ [])

parts : printed_with mixed (record { alignment = []; sizes = ((id 7, 2), 1) ∷ [] })
    ≡ lines (
    codes ".set \"x y\", 0x1234"
    ∷ codes ".section \".data\""
    ∷ codes ".interval 07070707-0707-0707-0707-070707070707 1 1"
    ∷ codes "    .hex 0102"
    ∷ codes "\"x y\"#2:"
    ∷ codes "    .byte (end-\"x y\"#2)/4"
    ∷ codes "    .zero 4"
    ∷ codes "end:"
    ∷ []
    )
unfolding table_texts immediates registers branches accesses indexed pairs digits encode_with by_index
parts = refl
