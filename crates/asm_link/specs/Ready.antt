-- What the index of a linker knows of its module and its layout.
use Rattle.std.specs.Prelude.{◌≡◌, ℕ, List}
use Rattle.std.specs.Str.{bytes_eq}
use Rattle.bare_image.specs.declared.image.Segment.{Segment}
use Rattle.bare_image.specs.Valid.{AreBytes}
use Rattle.indexmap.specs.IndexMap.{get}
use Rattle.asm_modules.specs.Valid.{asm_ok}
use Rattle.sym_expr.specs.Layouts.{accepted, place_in}
use Rattle.asm_link.specs.declared.index.Index.{Index}
use Rattle.asm_link.specs.Kept.{kept_at, label_by}
use Rattle.asm_link.specs.Shaping.{shape_asm}

-- the module can be linked under the layout, and the places of its intervals and the addresses of its labels are kept
pub record IsReady (k : Index) : Type 0 where
  pub ok : asm_ok k.asm.now
  pub accepted : accepted k.layout.now (shape_asm k.asm.now)
  pub places : (id : List ℕ) → get bytes_eq k.places id ≡ place_in k.layout.now.places id
  pub labels : (name : List ℕ) (n : ℕ) → kept_at k.labels name n ≡ label_by (place_in k.layout.now.places) k.asm.now.labels name n

-- what a segment holds are bytes
abbrev pub HasBytes : Segment → Type 0
HasBytes s = AreBytes s.bytes
