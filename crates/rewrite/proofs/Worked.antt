-- Rewritten modules: evaluated, and cited by nothing.
use Rattle.std.proofs.Common.{refl, ◌≡◌, pos}
use Rattle.std.specs.Prelude.{ℕ, Bool, true, false, List, [], ◌∷◌, Some, None, map, codes, length}
use Rattle.std.specs.List.{flat_map}
use Rattle.a64_inst.specs.Rows.{table}
use Rattle.aux_codec.specs.declared.value.Place.{Place}
use Rattle.gt_model.specs.declared.exprs.Expr.{Expr}
use Rattle.gt_model.specs.declared.exprs.ExprValue.TheVariants as values
use Rattle.gt_model.specs.declared.intervals.Block.{Block}
use Rattle.gt_model.specs.declared.intervals.Body.TheVariants as bodies
use Rattle.gt_model.specs.declared.intervals.Interval.{Interval}
use Rattle.gt_model.specs.declared.modules.Module.{Module}
use Rattle.gt_model.specs.declared.modules.Section.{Section}
use Rattle.gt_model.specs.declared.symbols.Payload.{Payload}
use Rattle.gt_model.specs.declared.symbols.Payload.TheVariants as payloads
use Rattle.gt_model.specs.declared.symbols.Symbol.{Symbol}
use Rattle.rewrite.specs.Places.{moved_place, moved_tables}
use Rattle.rewrite.specs.Rewritten.{new_section, rewritten_module}
use Rattle.rewrite.specs.Symbols.{function_symbols}
use Rattle.sym_expr.specs.declared.patches.FunLine.TheVariants as lines
use Rattle.sym_expr.specs.declared.patches.Function.{Function}
use Rattle.sym_expr.specs.declared.patches.PatchTable.{PatchTable}
use Rattle.sym_expr.specs.declared.patches.PatchWord.{PatchWord}
use Rattle.sym_expr.specs.declared.patches.SymbolName.TheVariants as names
use Rattle.sym_expr.specs.Derived.{derived, part_text, interval_text, block_text, symbol_text}
use Rattle.sym_expr.specs.Modules.{loaded_intervals}
use Rattle.sym_expr.specs.Patches.{no_patches}
use Rattle.sym_expr.specs.Tables.{no_tables, Tables}
use Rattle.sym_expr.proofs.WorkedImages.{u, hello}

abbrev pub word : ℕ → PatchWord
word n = record { word = n; target = None }

abbrev pub expr : ℕ → ℕ → Expr
expr at symbol = record { at = at; value = values.AddrConst (pos 0) (Some (u symbol)); flags = [] }

abbrev pub code : List ℕ → ℕ → ℕ → Block
code id offset size = record { offset = offset; body = bodies.Code id size 0 }

abbrev on : ℕ → List ℕ → ℕ → Symbol
on n name block = record { uuid = u n; name = name; at_end = false; payload = payloads.Referent (u block) }

-- a module of one interval
abbrev module_of : List Symbol → Interval → Module
module_of symbols i = record hello { symbols = symbols; sections = record { uuid = u 3; name = codes ".text"; flags = pos 4 ∷ []; intervals = i ∷ [] } ∷ [] }

abbrev interval : List Block → List Expr → List ℕ → Interval
interval blocks exprs bytes = record { uuid = u 4; blocks = blocks; exprs = exprs; has_address = false; address = 0; size = length bytes; contents = bytes }

-- ---- a call, a word behind it, a call before the next block's words, and the function that it calls

abbrev pub call : Module
call = module_of (on 9 (codes "f") 12 ∷ []) (interval (code (u 5) 0 4 ∷ code (u 11) 4 8 ∷ code (u 12) 12 4 ∷ []) (expr 0 9 ∷ [])
    (0 ∷ 0 ∷ 0 ∷ 148 ∷ 168 ∷ 11 ∷ 128 ∷ 210 ∷ 1 ∷ 0 ∷ 0 ∷ 212 ∷ 192 ∷ 3 ∷ 95 ∷ 214 ∷ []))

abbrev pub patches : PatchTable
patches = record {
  inserts = record { block = u 5; offset = 4; body = word 0x91000800 ∷ [] }
      ∷ record { block = u 11; offset = 0; body = record { word = 0x94000000; target = Some (record { symbol = names.New (codes "five"); offset = pos 0 }) } ∷ [] } ∷ [];
  functions = record { name = codes "five"; body = lines.Word (word 0x91001400) ∷ lines.Word (word 0xd65f03c0) ∷ [] } ∷ [];
}

abbrev pub part_of : ℕ → ℕ → List ℕ
part_of block start = derived (u 2) (part_text (u block) start)

abbrev pub five : List ℕ
five = derived (u 2) (block_text (codes "five") 0)

abbrev pub five_symbol : List ℕ
five_symbol = derived (u 2) (symbol_text (codes "five"))

call_rewritten : loaded_intervals (rewritten_module call no_tables patches) ≡
    interval (code (u 5) 0 4 ∷ code (part_of 5 4) 4 4 ∷ code (u 11) 8 4 ∷ code (part_of 11 4) 12 8 ∷ code (u 12) 20 4 ∷ [])
    (expr 0 9 ∷ record { at = 8; value = values.AddrConst (pos 0) (Some five_symbol); flags = [] } ∷ [])
    (0 ∷ 0 ∷ 0 ∷ 148 ∷ 0 ∷ 8 ∷ 0 ∷ 145 ∷ 0 ∷ 0 ∷ 0 ∷ 148 ∷ 168 ∷ 11 ∷ 128 ∷ 210 ∷ 1 ∷ 0 ∷ 0 ∷ 212 ∷ 192 ∷ 3 ∷ 95 ∷ 214 ∷ [])
    ∷ record (interval (code five 0 8 ∷ []) [] (0 ∷ 20 ∷ 0 ∷ 145 ∷ 192 ∷ 3 ∷ 95 ∷ 214 ∷ [])) { uuid = derived (u 2) (interval_text (codes "five")) }
    ∷ []
unfolding table
call_rewritten = refl

call_symbols : (rewritten_module call no_tables patches).symbols ≡
    on 9 (codes "f") 12 ∷ record { uuid = five_symbol; name = codes "five"; at_end = false; payload = payloads.Referent five } ∷ []
unfolding table
call_symbols = refl

abbrev place : List ℕ → ℕ → Place
place id offset = record { id = id; offset = offset }

abbrev place_of : ℕ → ℕ → Place
place_of n offset = moved_place call no_tables (record patches { functions = [] }) (place (u n) offset)

call_places : place_of 5 0 ∷ place_of 5 4 ∷ place_of 11 0 ∷ place_of 11 6 ∷ place_of 11 8 ∷ place_of 12 2 ∷ place_of 4 5 ∷ place_of 4 16 ∷ place_of 9 1 ∷ [] ≡
    place (u 5) 0 ∷ place (part_of 5 4) 4 ∷ place (part_of 11 4) 0 ∷ place (part_of 11 4) 6 ∷ place (part_of 11 4) 8 ∷ place (u 12) 2 ∷ place (u 4) 13 ∷ place (u 4) 24 ∷ place (u 9) 1 ∷ []
unfolding table
call_places = refl

-- a symbol at the end of a block goes to its last part
abbrev ended : Module
ended = record call { symbols = record (on 9 [] 5) { at_end = true } ∷ record (on 10 [] 12) { at_end = true } ∷ on 13 [] 5 ∷ [] }

ended_symbols : map (λ (s : Symbol). s.payload) (rewritten_module ended no_tables (record patches { functions = [] })).symbols ≡
    payloads.Referent (part_of 5 4) ∷ payloads.Referent (u 12) ∷ payloads.Referent (u 5) ∷ []
unfolding table
ended_symbols = refl

-- ---- a loop: a word before the target of its branch, whose own word stays as it is

abbrev pub looped : Module
looped = module_of (on 9 (codes "loop") 11 ∷ []) (interval (code (u 5) 0 8 ∷ code (u 11) 8 8 ∷ code (u 12) 16 8 ∷ []) (expr 12 9 ∷ [])
    (0 ∷ 0 ∷ 128 ∷ 210 ∷ 105 ∷ 0 ∷ 128 ∷ 210 ∷ 41 ∷ 5 ∷ 0 ∷ 209 ∷ 9 ∷ 0 ∷ 0 ∷ 181 ∷ 168 ∷ 11 ∷ 128 ∷ 210 ∷ 1 ∷ 0 ∷ 0 ∷ 212 ∷ []))

abbrev counted : PatchTable
counted = record { inserts = record { block = u 11; offset = 0; body = word 0x91000400 ∷ [] } ∷ []; functions = [] }

loop_rewritten : loaded_intervals (rewritten_module looped no_tables counted) ≡
    interval (code (u 5) 0 8 ∷ code (u 11) 8 12 ∷ code (u 12) 20 8 ∷ []) (expr 16 9 ∷ [])
    (0 ∷ 0 ∷ 128 ∷ 210 ∷ 105 ∷ 0 ∷ 128 ∷ 210 ∷ 0 ∷ 4 ∷ 0 ∷ 145 ∷ 41 ∷ 5 ∷ 0 ∷ 209 ∷ 9 ∷ 0 ∷ 0 ∷ 181 ∷ 168 ∷ 11 ∷ 128 ∷ 210 ∷ 1 ∷ 0 ∷ 0 ∷ 212 ∷ [])
    ∷ []
unfolding table
loop_rewritten = refl

-- ---- data that needs a multiple of 8, with a difference in it

abbrev difference : ℕ → Expr
difference at = record { at = at; value = values.AddrAddr (pos 1) (pos 0) (Some (u 10)) (Some (u 9)); flags = [] }

abbrev data_at : ℕ → Block
data_at offset = record { offset = offset; body = bodies.Data (u 8) 8 }

abbrev aligned : Module
aligned = module_of (on 9 (codes "a") 5 ∷ record (on 10 (codes "b") 5) { at_end = true } ∷ []) (interval (code (u 5) 0 8 ∷ data_at 8 ∷ []) (difference 8 ∷ [])
    (31 ∷ 32 ∷ 3 ∷ 213 ∷ 31 ∷ 32 ∷ 3 ∷ 213 ∷ 1 ∷ 0 ∷ 0 ∷ 0 ∷ 2 ∷ 0 ∷ 0 ∷ 0 ∷ []))

abbrev aligned_tables : Tables
aligned_tables = record { alignment = (u 8, 8) ∷ []; sizes = ((u 4, 8), 4) ∷ [] }

abbrev hint : PatchTable
hint = record { inserts = record { block = u 5; offset = 0; body = word 0xD503201F ∷ [] } ∷ []; functions = [] }

aligned_rewritten : loaded_intervals (rewritten_module aligned aligned_tables hint) ≡
    interval (code (u 5) 0 12 ∷ data_at 16 ∷ []) (difference 16 ∷ [])
    (31 ∷ 32 ∷ 3 ∷ 213 ∷ 31 ∷ 32 ∷ 3 ∷ 213 ∷ 31 ∷ 32 ∷ 3 ∷ 213 ∷ 0 ∷ 0 ∷ 0 ∷ 0 ∷ 1 ∷ 0 ∷ 0 ∷ 0 ∷ 2 ∷ 0 ∷ 0 ∷ 0 ∷ [])
    ∷ []
unfolding table
aligned_rewritten = refl

aligned_sizes : moved_tables aligned aligned_tables hint ≡ record { alignment = (u 8, 8) ∷ []; sizes = ((u 4, 16), 4) ∷ [] }
unfolding table
aligned_sizes = refl

-- ---- a word among those of a single block

abbrev masked : PatchTable
masked = record { inserts = record { block = u 5; offset = 12; body = word 0x927cec21 ∷ [] } ∷ []; functions = [] }

hello_exprs : map {B = ℕ × List ℕ} (λ (i : Interval). (i.size, map (λ (e : Expr). e.at) i.exprs)) (loaded_intervals (rewritten_module hello no_tables masked)) ≡ (40, 4 ∷ 8 ∷ []) ∷ (3, []) ∷ []
unfolding table
hello_exprs = refl

hello_blocks : flat_map (λ (i : Interval). i.blocks) (loaded_intervals (rewritten_module hello no_tables masked)) ≡
    code (u 5) 0 40 ∷ record { offset = 0; body = bodies.Data (u 8) 3 } ∷ []
unfolding table
hello_blocks = refl

hello_stays : rewritten_module hello no_tables no_patches ≡ hello
unfolding table
hello_stays = refl

-- ---- names of a function: its own, a label inside, and one behind the last word

abbrev labelled : Function
labelled = record { name = codes "g"; body = lines.Word (word 0xd503201f) ∷ lines.Label (codes "a") ∷ lines.Word (word 0xd65f03c0) ∷ lines.Label (codes "z") ∷ [] }

abbrev block_of : ℕ → List ℕ
block_of k = derived (u 2) (block_text (codes "g") k)

name_symbols : map {B = List ℕ × Bool × Payload} (λ (s : Symbol). (s.name, s.at_end, s.payload)) (function_symbols call labelled) ≡
    (codes "g", false, payloads.Referent (block_of 0)) ∷ (codes "a", false, payloads.Referent (block_of 1)) ∷ (codes "z", true, payloads.Referent (block_of 1)) ∷ []
unfolding table
name_symbols = refl

-- ---- a section that isn't loaded stays, whatever is inserted

abbrev unloaded : Section
unloaded = record { uuid = u 3; name = []; flags = []; intervals = interval (code (u 5) 0 4 ∷ []) [] (0 ∷ 0 ∷ 0 ∷ 148 ∷ []) ∷ [] }

unloaded_stays : new_section call no_tables patches unloaded ≡ unloaded
unloaded_stays = refl
