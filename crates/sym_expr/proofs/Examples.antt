-- The definitions at small modules: each equation is computed.
use Rattle.std.proofs.Common.{◌≡◌, ℕ, pos, false, true, List, [], ◌∷◌, Option, None, Some, refl}
use Rattle.std.specs.Prelude.{replicate, map, length, codes}
use Rattle.gt_model.specs.declared.exprs.Expr.{Expr}
use Rattle.gt_model.specs.declared.exprs.ExprValue.{ExprValue}
use Rattle.gt_model.specs.declared.exprs.ExprValue.TheVariants.{AddrConst, AddrAddr}
use Rattle.gt_model.specs.declared.intervals.Block.{Block}
use Rattle.gt_model.specs.declared.intervals.Body.TheVariants as bodies
use Rattle.gt_model.specs.declared.intervals.Interval.{Interval}
use Rattle.gt_model.specs.declared.modules.Module.{Module}
use Rattle.gt_model.specs.declared.modules.Section.{Section}
use Rattle.gt_model.specs.declared.symbols.Payload.TheVariants.{Referent}
use Rattle.gt_model.specs.declared.symbols.Symbol.{Symbol}
use Rattle.a64_inst.specs.Rows.{table}
use Rattle.sym_expr.specs.declared.patches.FunLine.TheVariants as lines
use Rattle.sym_expr.specs.declared.patches.Function.{Function}
use Rattle.sym_expr.specs.declared.patches.PatchTable.{PatchTable}
use Rattle.sym_expr.specs.declared.patches.PatchWord.{PatchWord}
use Rattle.sym_expr.specs.declared.patches.SymbolName.TheVariants as names
use Rattle.sym_expr.specs.Expressions.{BadOperand, BadTarget, expr_faults}
use Rattle.sym_expr.specs.Linkable.{overlaps, overlaps_in, is_entered}
use Rattle.sym_expr.specs.Modules.{in_order, loaded_intervals}
use Rattle.sym_expr.specs.Patches.{function_blocks, name_in, Start, End}
use Rattle.sym_expr.specs.Points.{word_at, after, goes_on, reached}
use Rattle.sym_expr.specs.declared.program.Program.{Program}
use Rattle.sym_expr.specs.Program.{program}
use Rattle.sym_expr.specs.Tables.{Tables, no_tables, effective}
use Rattle.sym_expr.specs.declared.target.Target.TheVariants.{Code}
use Rattle.sym_expr.specs.Targets.{point, start_of, old_target}

-- an identifier of equal bytes
abbrev id : ℕ → List ℕ
id n = replicate 16 n

abbrev code : ℕ → ℕ → ℕ → Block
code n offset size = record { offset = offset; body = bodies.Code (id n) size 0 }

abbrev data_at : ℕ → ℕ → ℕ → Block
data_at n offset size = record { offset = offset; body = bodies.Data (id n) size }

abbrev interval : ℕ → List Block → List Expr → List ℕ → Interval
interval n blocks exprs bytes = record { uuid = id n; blocks = blocks; exprs = exprs; has_address = false; address = 0; size = length bytes; contents = bytes }

abbrev expr : ℕ → ExprValue → Expr
expr at value = record { at = at; value = value; flags = [] }

abbrev section : ℕ → List Interval → Section
section n intervals = record { uuid = id n; name = []; intervals = intervals; flags = pos 4 ∷ [] }

abbrev on : ℕ → ℕ → Symbol
on n block = record { uuid = id n; name = []; at_end = false; payload = Referent (id block) }

abbrev module_of : List Symbol → List Section → Module
module_of symbols sections = record { uuid = id 2; binary_path = []; preferred_addr = 0; rebase_delta = pos 0; file_format = pos 0; isa = pos 7; name = []; symbols = symbols; sections = sections; proxies = []; aux = []; entry = Some (id 5); byte_order = pos 2 }

-- ---- a call: bl f, movz x8, #93, svc #0, ret x30, in three blocks

abbrev call : Module
call = module_of (on 9 12 ∷ []) (section 3 (interval 4 (code 12 12 4 ∷ code 5 0 4 ∷ code 11 4 8 ∷ []) (expr 0 (AddrConst (pos 0) (Some (id 9))) ∷ [])
    (0 ∷ 0 ∷ 0 ∷ 148 ∷ 168 ∷ 11 ∷ 128 ∷ 210 ∷ 1 ∷ 0 ∷ 0 ∷ 212 ∷ 192 ∷ 3 ∷ 95 ∷ 214 ∷ []) ∷ []) ∷ [])

abbrev word : ℕ → PatchWord
word n = record { word = n; target = None }

-- add x0, x0, #2 behind the call, bl five before the movz, and five: add x0, x0, #5, ret x30
abbrev patches : PatchTable
patches = record {
  inserts = record { block = id 5; offset = 4; body = word 0x91000800 ∷ [] }
      ∷ record { block = id 11; offset = 0; body = record { word = 0x94000000; target = Some (record { symbol = names.New (codes "five"); offset = pos 0 }) } ∷ [] } ∷ [];
  functions = record { name = codes "five"; body = lines.Word (word 0x91001400) ∷ lines.Word (word 0xd65f03c0) ∷ [] } ∷ [];
}

abbrev patched : Program
patched = program call no_tables patches

no_faults : expr_faults call no_tables ≡ []
unfolding table
no_faults = refl

all_apart : overlaps (loaded_intervals call) ≡ []
all_apart = refl

has_entry : is_entered call ≡ true
has_entry = refl

named : old_target call patches (id 9) (pos 0) ≡ Code (start_of (id 12))
named = refl

first : word_at patched (point (id 5) 0 0) ≡ Some (record { word = 0x94000000; target = Some (Code (start_of (id 12))) })
first = refl

behind_first : after patched (point (id 5) 0 0) ≡ point (id 5) 4 0
behind_first = refl

inserted_last : word_at patched (point (id 5) 4 0) ≡ Some (record { word = 0x91000800; target = None })
inserted_last = refl

falls_on : goes_on patched (point (id 5) 4 1) ≡ Some (start_of (id 11))
falls_on = refl

stays : goes_on patched (point (id 5) 4 0) ≡ None
stays = refl

inserted_first : after patched (point (id 11) 0 0) ≡ point (id 11) 0 1
inserted_first = refl

own_next : word_at patched (point (id 11) 0 1) ≡ Some (record { word = 0xd2800ba8; target = None })
own_next = refl

last_ends : reached patched (point (id 12) 4 0) ≡ point (id 12) 4 0
last_ends = refl

-- ---- blocks of functions

abbrev looped : Function
looped = record { name = codes "f"; body = lines.Label (codes "a") ∷ lines.Word (word 0xb4000000) ∷ lines.Label (codes "b") ∷ lines.Word (word 0xd503201f) ∷ lines.Label (codes "c") ∷ lines.Label (codes "d") ∷ lines.Word (word 0xd503201f) ∷ lines.Word (word 0xd503201f) ∷ lines.Label (codes "e") ∷ [] }

cut_at_labels : function_blocks looped ≡ (word 0xb4000000 ∷ []) ∷ (word 0xd503201f ∷ []) ∷ (word 0xd503201f ∷ word 0xd503201f ∷ []) ∷ []
unfolding table
cut_at_labels = refl

labels_begin : map (λ (label : List ℕ). name_in label looped) (codes "f" ∷ codes "a" ∷ codes "b" ∷ codes "d" ∷ codes "e" ∷ codes "x" ∷ []) ≡ Some (Start 0) ∷ Some (Start 0) ∷ Some (Start 1) ∷ Some (Start 2) ∷ Some End ∷ None ∷ []
unfolding table
labels_begin = refl

-- ---- a table of jumps in bytes, in units of four

abbrev jumps : ℕ → ℕ → Module
jumps scale second = module_of (on 9 11 ∷ on 10 8 ∷ on 14 12 ∷ [])
    (section 3 (interval 4 (code 5 0 24 ∷ code 11 24 4 ∷ code 12 28 8 ∷ []) (expr 0 (AddrConst (pos 0) (Some (id 10))) ∷ expr 4 (AddrConst (pos 0) (Some (id 10))) ∷ expr 12 (AddrConst (pos 0) (Some (id 9))) ∷ [])
    (1 ∷ 0 ∷ 0 ∷ 144 ∷ 33 ∷ 0 ∷ 0 ∷ 145 ∷ 35 ∷ 4 ∷ 64 ∷ 57 ∷ 4 ∷ 0 ∷ 0 ∷ 16 ∷ replicate 20 0) ∷ [])
    ∷ section 6 (interval 7 (data_at 8 0 2 ∷ []) (expr 0 (AddrAddr (pos 4) (pos 0) (Some (id 9)) (Some (id 9))) ∷ expr 1 (AddrAddr (pos scale) (pos 0) (Some (id 14)) (Some (id second))) ∷ []) (0 ∷ 0 ∷ []) ∷ []) ∷ [])

abbrev bytes_each : Tables
bytes_each = record { alignment = []; sizes = ((id 7, 0), 1) ∷ ((id 7, 1), 1) ∷ [] }

entries_fit : expr_faults (jumps 4 9) bytes_each ≡ []
unfolding table
entries_fit = refl

scale_of_three : expr_faults (jumps 3 9) bytes_each ≡ (1, BadOperand) ∷ []
unfolding table
scale_of_three = refl

data_in_entry : expr_faults (jumps 4 10) bytes_each ≡ (1, BadTarget) ∷ []
unfolding table
data_in_entry = refl

-- without the table of sizes an expression has eight bytes
entries_of_eight : expr_faults (jumps 4 9) no_tables ≡ (0, BadOperand) ∷ (1, BadOperand) ∷ []
unfolding table
entries_of_eight = refl

-- ---- block order and alignment

empty_first : in_order (data_at 1 8 4 ∷ data_at 2 8 0 ∷ code 3 0 8 ∷ data_at 4 8 0 ∷ []) ≡ code 3 0 8 ∷ data_at 2 8 0 ∷ data_at 4 8 0 ∷ data_at 1 8 4 ∷ []
empty_first = refl

inside_another : overlaps_in (interval 4 (data_at 1 0 8 ∷ data_at 2 4 0 ∷ []) [] (replicate 8 0)) ≡ (data_at 1 0 8, data_at 2 4 0) ∷ []
inside_another = refl

alignments : map (λ (e : Option ℕ). effective e 4 24) (None ∷ Some 0 ∷ Some 4 ∷ Some 16 ∷ Some 24 ∷ []) ≡ 1 ∷ 1 ∷ 4 ∷ 8 ∷ 8 ∷ []
alignments = refl

aligned_at_zero : effective (Some 65536) 4 0 ≡ 4096
aligned_at_zero = refl
