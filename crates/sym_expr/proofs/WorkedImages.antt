-- Worked images: evaluated, and cited by nothing.
use Rattle.std.proofs.Common.{refl, ◌≡◌, pos}
use Rattle.std.specs.Prelude.{ℕ, true, false, List, [], ◌∷◌, Some, None, map, replicate, codes, take, drop}
use Rattle.gt_model.specs.declared.exprs.Expr.{Expr}
use Rattle.gt_model.specs.declared.exprs.ExprValue.TheVariants as values
use Rattle.gt_model.specs.declared.intervals.Body.TheVariants as bodies
use Rattle.gt_model.specs.declared.intervals.Interval.{Interval}
use Rattle.gt_model.specs.declared.modules.Module.{Module}
use Rattle.gt_model.specs.declared.symbols.Payload.TheVariants as payloads
use Rattle.sym_expr.specs.declared.layout.Layout.{Layout}
use Rattle.sym_expr.specs.declared.link_fault.LinkFault.TheVariants as faults
use Rattle.sym_expr.specs.Images.{image, link_fault}
use Rattle.sym_expr.specs.Placing.{shape_of}
use Rattle.sym_expr.specs.Layouts.{default_of}
use Rattle.sym_expr.specs.declared.program.Program.{Program}
use Rattle.sym_expr.specs.Program.{program}
use Rattle.sym_expr.specs.Patches.{no_patches}
use Rattle.sym_expr.specs.Tables.{no_tables, Tables}
use Rattle.sym_expr.specs.declared.patches.PatchTable.{PatchTable}
use Rattle.bare_image.specs.declared.image.Segment.{Segment}

abbrev pub u : ℕ → List ℕ
u n = replicate 16 n

-- hello: `msg` stands in data, and the second and third word name it
abbrev pub text : Interval
text = record {
  uuid = u 4;
  blocks = record { offset = 0; body = bodies.Code (u 5) 36 0 } ∷ [];
  exprs = record { at = 4; value = values.AddrConst (pos 0) (Some (u 10)); flags = [] } ∷ record { at = 8; value = values.AddrConst (pos 0) (Some (u 10)); flags = [] } ∷ [];
  has_address = false;
  address = 0;
  size = 36;
  contents = 0x20 ∷ 0x00 ∷ 0x80 ∷ 0xd2 ∷ 0x01 ∷ 0x00 ∷ 0x00 ∷ 0x90 ∷ 0x21 ∷ 0x00 ∷ 0x00 ∷ 0x91 ∷ 0x62 ∷ 0x00 ∷ 0x80 ∷ 0xd2 ∷ 0x08 ∷ 0x08 ∷ 0x80 ∷ 0xd2 ∷ 0x01 ∷ 0x00 ∷ 0x00 ∷ 0xd4 ∷ 0x00 ∷ 0x00 ∷ 0x80 ∷ 0xd2 ∷ 0xa8 ∷ 0x0b ∷ 0x80 ∷ 0xd2 ∷ 0x01 ∷ 0x00 ∷ 0x00 ∷ 0xd4 ∷ [];
}

abbrev pub hello : Module
hello = record {
  uuid = u 2;
  binary_path = [];
  preferred_addr = 0;
  rebase_delta = pos 0;
  file_format = pos 0;
  isa = pos 7;
  name = [];
  symbols = record { uuid = u 9; name = codes "main"; at_end = false; payload = payloads.Referent (u 5) } ∷ record { uuid = u 10; name = codes "msg"; at_end = false; payload = payloads.Referent (u 8) } ∷ [];
  sections =
      record { uuid = u 3; name = codes ".text"; flags = pos 1 ∷ pos 3 ∷ pos 4 ∷ pos 5 ∷ []; intervals = text ∷ [] }
      ∷ record {
        uuid = u 6;
        name = codes ".data";
        flags = pos 1 ∷ pos 2 ∷ pos 4 ∷ pos 5 ∷ [];
        intervals = record {
          uuid = u 7;
          blocks = record { offset = 0; body = bodies.Data (u 8) 3 } ∷ [];
          exprs = [];
          has_address = false;
          address = 0;
          size = 3;
          contents = 0x68 ∷ 0x69 ∷ 0x0a ∷ [];
        } ∷ [];
      } ∷ [];
  proxies = [];
  aux = [];
  entry = Some (u 5);
  byte_order = pos 2;
}

abbrev pub at_places : ℕ → ℕ → ℕ → ℕ → Layout
at_places code bytes stack size = record { places = record { interval = u 4; at = code } ∷ record { interval = u 7; at = bytes } ∷ []; stack_at = stack; stack_size = size }

near : (link_fault (program hello no_tables no_patches) (at_places 0x1000 0x5010 0x10000 0x1000)) ≡ None
near = refl

near_image : (image (program hello no_tables no_patches) (at_places 0x1000 0x5010 0x10000 0x1000)) ≡ record {
  entry = 0x1000;
  stack_at = 0x10000;
  stack_size = 0x1000;
  segments = record { at = 0x1000; bytes = 0x20 ∷ 0x00 ∷ 0x80 ∷ 0xd2 ∷ 0x21 ∷ 0x00 ∷ 0x00 ∷ 0x90 ∷ 0x21 ∷ 0x40 ∷ 0x00 ∷ 0x91 ∷ 0x62 ∷ 0x00 ∷ 0x80 ∷ 0xd2 ∷ 0x08 ∷ 0x08 ∷ 0x80 ∷ 0xd2 ∷ 0x01 ∷ 0x00 ∷ 0x00 ∷ 0xd4 ∷ 0x00 ∷ 0x00 ∷ 0x80 ∷ 0xd2 ∷ 0xa8 ∷ 0x0b ∷ 0x80 ∷ 0xd2 ∷ 0x01 ∷ 0x00 ∷ 0x00 ∷ 0xd4 ∷ [] }
      ∷ record { at = 0x5010; bytes = 0x68 ∷ 0x69 ∷ 0x0a ∷ [] } ∷ [];
}
near_image = refl

default_layout : default_of (shape_of (program hello no_tables no_patches)) ≡ at_places 0x10000 0x10024 0x11030 0x10000
default_layout = refl

far_words : map (λ (s : Segment). take 8 (drop 4 s.bytes)) (image (program hello no_tables no_patches) (at_places 0x1000 0x7ffe 0x10000 0x1000)).segments ≡ (0x21 ∷ 0x00 ∷ 0x00 ∷ 0xd0 ∷ 0x21 ∷ 0xf8 ∷ 0x3f ∷ 0x91 ∷ []) ∷ [] ∷ []
far_words = refl

-- a table of two distances of one byte each, in fours
abbrev pub table_text : Interval
table_text = record {
  uuid = u 4;
  blocks = record { offset = 0; body = bodies.Code (u 5) 24 0 } ∷ record { offset = 24; body = bodies.Code (u 11) 4 0 } ∷ record { offset = 28; body = bodies.Code (u 12) 8 0 } ∷ [];
  exprs = record { at = 0; value = values.AddrConst (pos 0) (Some (u 10)); flags = [] } ∷ record { at = 4; value = values.AddrConst (pos 0) (Some (u 10)); flags = [] } ∷ record { at = 12; value = values.AddrConst (pos 0) (Some (u 9)); flags = [] } ∷ [];
  has_address = false;
  address = 0;
  size = 36;
  contents = 0x01 ∷ 0x00 ∷ 0x00 ∷ 0x90 ∷ 0x21 ∷ 0x00 ∷ 0x00 ∷ 0x91 ∷ 0x23 ∷ 0x04 ∷ 0x40 ∷ 0x39 ∷ 0x04 ∷ 0x00 ∷ 0x00 ∷ 0x10 ∷ 0x83 ∷ 0x88 ∷ 0x23 ∷ 0x8b ∷ 0x60 ∷ 0x00 ∷ 0x1f ∷ 0xd6 ∷ 0x20 ∷ 0x01 ∷ 0x80 ∷ 0xd2 ∷ 0xa8 ∷ 0x0b ∷ 0x80 ∷ 0xd2 ∷ 0x01 ∷ 0x00 ∷ 0x00 ∷ 0xd4 ∷ [];
}

abbrev pub entry_to : ℕ → ℕ → Expr
entry_to at symbol = record { at = at; value = values.AddrAddr (pos 4) (pos 0) (Some (u symbol)) (Some (u 9)); flags = [] }

abbrev pub table : Module
table = record hello {
  symbols = record { uuid = u 9; name = codes "base"; at_end = false; payload = payloads.Referent (u 11) } ∷ record { uuid = u 10; name = codes "tab"; at_end = false; payload = payloads.Referent (u 8) } ∷ record { uuid = u 14; name = codes "two"; at_end = false; payload = payloads.Referent (u 12) } ∷ [];
  sections =
      record { uuid = u 3; name = codes ".text"; flags = pos 4 ∷ []; intervals = table_text ∷ [] }
      ∷ record {
        uuid = u 6;
        name = codes ".data";
        flags = pos 4 ∷ [];
        intervals = record {
          uuid = u 7;
          blocks = record { offset = 0; body = bodies.Data (u 8) 2 } ∷ [];
          exprs = entry_to 0 9 ∷ entry_to 1 14 ∷ [];
          has_address = false;
          address = 0;
          size = 2;
          contents = 0 ∷ 0 ∷ [];
        } ∷ [];
      } ∷ [];
}

abbrev pub table_sizes : Tables
table_sizes = record { alignment = []; sizes = ((u 7, 0), 1) ∷ ((u 7, 1), 1) ∷ [] }

-- so many HINTs before the first case
abbrev pub hints : ℕ → PatchTable
hints n = record { inserts = record { block = u 11; offset = 0; body = replicate n (record { word = 0xD503201F; target = None }) } ∷ []; functions = [] }

abbrev pub table_bytes : PatchTable → List (List ℕ)
table_bytes p =
    let g = program table table_sizes p in
    map (λ (s : Segment). s.bytes) (drop 1 (image g (default_of (shape_of g))).segments)

narrow : table_bytes no_patches ≡ (0 ∷ 1 ∷ []) ∷ []
narrow = refl

narrow_126 : table_bytes (hints 126) ≡ (0 ∷ 0x7f ∷ []) ∷ []
narrow_126 = refl

narrow_254 : table_bytes (hints 254) ≡ (0 ∷ 0xff ∷ []) ∷ []
narrow_254 = refl

narrow_255 : (let g = program table table_sizes (hints 255) in link_fault g (default_of (shape_of g))) ≡ Some (faults.Range (u 7) 1 (pos 1024))
narrow_255 = refl

-- a data block of alignment 8 behind code is moved to a multiple of 8 by one word
abbrev pub aligned_text : Interval
aligned_text = record table_text {
  blocks = record { offset = 0; body = bodies.Code (u 5) 8 0 } ∷ record { offset = 8; body = bodies.Data (u 8) 8 } ∷ [];
  exprs = record { at = 8; value = values.AddrAddr (pos 1) (pos 0) (Some (u 10)) (Some (u 9)); flags = [] } ∷ [];
  size = 16;
  contents = 0x1f ∷ 0x20 ∷ 0x03 ∷ 0xd5 ∷ 0x1f ∷ 0x20 ∷ 0x03 ∷ 0xd5 ∷ 0x01 ∷ 0x00 ∷ 0x00 ∷ 0x00 ∷ 0x02 ∷ 0x00 ∷ 0x00 ∷ 0x00 ∷ [];
}

abbrev pub aligned : Program
aligned = program (record hello {
  symbols = record { uuid = u 9; name = codes "a"; at_end = false; payload = payloads.Referent (u 5) } ∷ record { uuid = u 10; name = codes "b"; at_end = true; payload = payloads.Referent (u 5) } ∷ [];
  sections = record { uuid = u 3; name = codes ".text"; flags = pos 4 ∷ []; intervals = aligned_text ∷ [] } ∷ [];
}) (record { alignment = (u 8, 8) ∷ []; sizes = ((u 4, 8), 4) ∷ [] })
    (record { inserts = record { block = u 5; offset = 0; body = record { word = 0xD503201F; target = None } ∷ [] } ∷ []; functions = [] })

realigned : shape_of aligned ≡ record { spots = record { interval = u 4; size = 24; align = 8; residue = None } ∷ [] }
realigned = refl

-- its difference is the 12 bytes of the code block
realigned_bytes : map (λ (s : Segment). drop 12 s.bytes) (image aligned (default_of (shape_of aligned))).segments ≡ (0 ∷ 0 ∷ 0 ∷ 0 ∷ 12 ∷ 0 ∷ 0 ∷ 0 ∷ 2 ∷ 0 ∷ 0 ∷ 0 ∷ []) ∷ []
realigned_bytes = refl
