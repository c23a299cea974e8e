-- A repaired module beside its patches: evaluated, and cited by nothing.
use Rattle.std.proofs.Common.{refl, ◌≡◌, pos}
use Rattle.std.specs.Prelude.{ℕ, Bool, true, false, List, [], ◌∷◌, Some, None, map, codes, replicate}
use Rattle.a64_inst.specs.Rows.{table}
use Rattle.edge_repair.specs.Repaired.{repaired_module}
use Rattle.gt_model.specs.declared.exprs.Expr.{Expr}
use Rattle.gt_model.specs.declared.exprs.ExprValue.TheVariants as values
use Rattle.gt_model.specs.declared.intervals.Block.{Block}
use Rattle.gt_model.specs.declared.intervals.Body.TheVariants as bodies
use Rattle.gt_model.specs.declared.intervals.Interval.{Interval}
use Rattle.gt_model.specs.declared.modules.Module.{Module}
use Rattle.gt_model.specs.declared.symbols.Payload.TheVariants as payloads
use Rattle.gt_model.specs.declared.symbols.Symbol.{Symbol}
use Rattle.repaired_programs.specs.Pieces.{bare_piece, new_pieces}
use Rattle.rewrite.specs.Places.{moved_tables}
use Rattle.rewrite.specs.Rewritten.{stretched}
use Rattle.rewrite.specs.Offsets.{new_offset}
use Rattle.sym_expr.specs.declared.layout.Layout.{Layout}
use Rattle.sym_expr.specs.declared.patches.FunLine.TheVariants as lines
use Rattle.sym_expr.specs.declared.patches.PatchTable.{PatchTable}
use Rattle.sym_expr.specs.declared.patches.PatchWord.{PatchWord}
use Rattle.sym_expr.specs.declared.patches.SymbolName.TheVariants as names
use Rattle.sym_expr.specs.declared.program.Program.{Program}
use Rattle.sym_expr.specs.Images.{image}
use Rattle.sym_expr.specs.Patches.{no_patches}
use Rattle.sym_expr.specs.Placing.{placed, shape_of}
use Rattle.sym_expr.specs.Program.{program, stretch}
use Rattle.sym_expr.specs.Tables.{Tables, expr_size}

abbrev u : ℕ → List ℕ
u n = replicate 16 n

abbrev code : ℕ → ℕ → ℕ → Block
code id offset size = record { offset = offset; body = bodies.Code (u id) size 0 }

abbrev on : ℕ → List ℕ → Bool → ℕ → Symbol
on n name at_end block = record { uuid = u n; name = name; at_end = at_end; payload = payloads.Referent (u block) }

abbrev nop : List ℕ
nop = 31 ∷ 32 ∷ 3 ∷ 213 ∷ []

-- a call, a gap, code, a gap, data that needs a multiple of 8 with a difference in it, and what is called
abbrev text : Interval
text = record {
  uuid = u 4;
  blocks = code 12 32 4 ∷ code 5 0 8 ∷ record { offset = 24; body = bodies.Data (u 8) 8 } ∷ code 11 12 8 ∷ [];
  exprs = record { at = 0; value = values.AddrConst (pos 0) (Some (u 9)); flags = [] } ∷ record { at = 24; value = values.AddrAddr (pos 1) (pos 0) (Some (u 10)) (Some (u 9)); flags = [] } ∷ [];
  has_address = false;
  address = 0;
  size = 36;
  contents = 0 ∷ 0 ∷ 0 ∷ 148 ∷ 31 ∷ 32 ∷ 3 ∷ 213 ∷ 1 ∷ 2 ∷ 3 ∷ 4 ∷ 31 ∷ 32 ∷ 3 ∷ 213 ∷ 31 ∷ 32 ∷ 3 ∷ 213 ∷ 5 ∷ 6 ∷ 7 ∷ 8 ∷ 1 ∷ 0 ∷ 0 ∷ 0 ∷ 2 ∷ 0 ∷ 0 ∷ 0 ∷ 192 ∷ 3 ∷ 95 ∷ 214 ∷ [];
}

abbrev called : Module
called = record {
  uuid = u 2;
  binary_path = [];
  preferred_addr = 0;
  rebase_delta = pos 0;
  file_format = pos 0;
  isa = pos 7;
  name = [];
  symbols = on 9 (codes "f") false 12 ∷ on 10 (codes "e") true 11 ∷ [];
  sections = record { uuid = u 3; name = codes ".text"; flags = pos 4 ∷ []; intervals = text ∷ [] } ∷ [];
  proxies = [];
  aux = [];
  entry = Some (u 5);
  byte_order = pos 2;
}

abbrev tables : Tables
tables = record { alignment = (u 8, 8) ∷ []; sizes = ((u 4, 24), 4) ∷ [] }

abbrev word : ℕ → PatchWord
word n = record { word = n; target = None }

-- a call of the function, words at the end of a block, and the function, which ends behind a label
abbrev patches : PatchTable
patches = record {
  inserts =
      record { block = u 5; offset = 4; body = record { word = 0x94000000; target = Some (record { symbol = names.New (codes "five"); offset = pos 0 }) } ∷ [] }
      ∷ record { block = u 11; offset = 8; body = word 0xd503201f ∷ record { word = 0x14000000; target = Some (record { symbol = names.Old (u 10); offset = pos 0 }) } ∷ [] }
      ∷ record { block = u 12; offset = 0; body = word 0xd503201f ∷ [] } ∷ [];
  functions = record { name = codes "five"; body = lines.Word (word 0x91001400) ∷ lines.Label (codes "z") ∷ lines.Word (word 0xd65f03c0) ∷ [] } ∷ [];
}

abbrev old : Program
old = program called tables patches

abbrev new : Program
new = program (repaired_module called tables patches) (moved_tables called tables patches) no_patches

same_pieces : map bare_piece (stretch (repaired_module called tables patches) (moved_tables called tables patches) no_patches (stretched called patches text (stretch called tables patches text))).pieces ≡ new_pieces called [] 0 (placed (stretch called tables patches text))
unfolding table
same_pieces = refl

same_shape : shape_of new ≡ shape_of old
unfolding table
same_shape = refl

-- ---- the images, where nothing is cut

abbrev uncut : PatchTable
uncut = record {
  inserts =
      record { block = u 11; offset = 8; body = word 0xd503201f ∷ record { word = 0x14000000; target = Some (record { symbol = names.Old (u 10); offset = pos 0 }) } ∷ [] }
      ∷ record { block = u 12; offset = 0; body = word 0xd503201f ∷ [] } ∷ [];
  functions = [];
}

abbrev layout : Layout
layout = record { places = record { interval = u 4; at = 65536 } ∷ []; stack_at = 131072; stack_size = 65536 }

same_image : image (program (repaired_module called tables uncut) (moved_tables called tables uncut) no_patches) layout ≡ image (program called tables uncut) layout
unfolding table
same_image = refl

-- ---- an entry of the tables past the end of its interval stays, and a moved expression may come to stand there: its size is another then

abbrev longer : PatchTable
longer = record { inserts = record { block = u 11; offset = 8; body = word 0xd503201f ∷ word 0xd503201f ∷ word 0xd503201f ∷ word 0xd503201f ∷ [] } ∷ []; functions = [] }

abbrev stale : Tables
stale = record { alignment = (u 8, 8) ∷ []; sizes = ((u 4, 40), 8) ∷ ((u 4, 24), 4) ∷ [] }

moved_to : new_offset (stretch called stale longer text) 24 ≡ 40
unfolding table
moved_to = refl

now_size : expr_size (moved_tables called stale longer) (u 4) 40 ≡ 8
unfolding table
now_size = refl

old_size : expr_size stale (u 4) 24 ≡ 4
old_size = refl
