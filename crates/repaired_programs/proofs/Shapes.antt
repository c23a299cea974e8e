-- The program of a repaired module needs the rooms that the program of the module and its patches needs.
use Rattle.std.proofs.Common.{◌≡◌, ℕ, ◌+◌, Bool, true, false, List, length, Option, Some, None, refl, ap, ◌∙◌}
use Rattle.std.specs.Prelude.{if◌then◌else◌}
use Rattle.std.specs.List.{list_any}
use Rattle.block_parts.specs.Words.{patched_words}
use Rattle.edge_repair.specs.Repaired.{repaired_module}
use Rattle.gt_model.specs.declared.intervals.Interval.{Interval}
use Rattle.gt_model.specs.declared.ir.Ir.{Ir}
use Rattle.gt_model.specs.declared.modules.Module.{Module}
use Rattle.rewrite.specs.Functions.{function_interval}
use Rattle.rewrite.specs.Places.{moved_tables}
use Rattle.rewrite.specs.Rewritten.{has_words, new_interval, stretched}
use Rattle.sym_expr.specs.declared.patches.Function.{Function}
use Rattle.sym_expr.specs.declared.patches.PatchTable.{PatchTable}
use Rattle.sym_expr.specs.declared.program.CodeBlock.{CodeBlock}
use Rattle.sym_expr.specs.declared.program.Program.{Program}
use Rattle.sym_expr.specs.declared.shape.ShapeSpot.{ShapeSpot}
use Rattle.sym_expr.specs.Linkable.{formed}
use Rattle.sym_expr.specs.Modules.{in_order}
use Rattle.sym_expr.specs.Patches.{no_patches}
use Rattle.sym_expr.specs.Placing.{residue_of, shape_of, spot_of}
use Rattle.sym_expr.specs.Program.{function_stretch, pieces, program, stretch}
use Rattle.sym_expr.specs.Tables.{Tables, alignment_entry}
use Rattle.sym_expr.specs.WellMade.{IsCode, well_made}
use Rattle.repaired_programs.proofs.Functions.{whole_walk}
use Rattle.repaired_programs.proofs.Known.{all_known}
use Rattle.repaired_programs.proofs.Lists.{every_all, none_of_any}
use Rattle.repaired_programs.proofs.Sections.{sections_same}
use Rattle.repaired_programs.proofs.Sorted.{each_in_order}
use Rattle.repaired_programs.proofs.Stands.{IsKnown, new_order}
use Rattle.repaired_programs.proofs.Walks.{spots_walk, still_walk, walk}

-- the room of an interval by its walk
abbrev spot_with : List ℕ → Option ℕ → ℕ × ℕ → ShapeSpot
spot_with id address w = record { interval = id; size = w.0; align = w.1; residue = residue_of w.1 address }

abbrev address_in : Interval → Option ℕ
address_in i = if i.has_address then Some i.address else None

module _ (m : Module) (t : Tables) (p : PatchTable) (n : Module) (u : Tables) (same : (id : List ℕ) → alignment_entry u id ≡ alignment_entry t id) where
  either_spot : (i : Interval) (x : Bool) → list_any (has_words p) i.blocks ≡ x → IsKnown m t p i → spot_of (stretch n u no_patches (if x then stretched m p i (stretch m t p i) else i)) ≡ spot_of (stretch m t p i)
  either_spot i true e known =
      let j : Interval = stretched m p i (stretch m t p i) in
      ap (λ bs. spot_with i.uuid (address_in i) (walk 0 (pieces n u no_patches j 0 bs))) (new_order m t p i known)
      ∙ ap (spot_with i.uuid (address_in i)) (spots_walk m t p i n u j same 0 0 (in_order i.blocks) known.fit refl)
  either_spot i false e known =
      ap (spot_with i.uuid (address_in i)) (still_walk m t p i n u same 0 0 (in_order i.blocks) (each_in_order (λ b. has_words p b ≡ false) i.blocks (none_of_any (has_words p) i.blocks e)))

  own_spot : (i : Interval) → IsKnown m t p i → spot_of (stretch n u no_patches (new_interval m t p i)) ≡ spot_of (stretch m t p i)
  own_spot i known = either_spot i (list_any (has_words p) i.blocks) refl known

  function_spot : (f : Function) → spot_of (stretch n u no_patches (function_interval m f)) ≡ spot_of (function_stretch m p f)
  function_spot f = ap (spot_with (function_interval m f).uuid None) (whole_walk n u m p f)

pub keeps_shape : (ir : Ir) (m : Module) (t : Tables) (p : PatchTable) → ((g : Program) (b : CodeBlock) → IsCode g b → length (patched_words b) ≡ length b.own + length b.inserted) → formed ir m t → well_made (program m t p)
    → shape_of (program (repaired_module m t p) (moved_tables m t p) no_patches) ≡ shape_of (program m t p)
keeps_shape ir m t p count h made =
    let n : Module = repaired_module m t p in
    let u : Tables = moved_tables m t p in
    ap (λ spots. record { spots = spots }) (sections_same spot_of spot_of (IsKnown m t p) (λ f. Unit {0}) m t p n u (own_spot m t p n u (λ id. refl)) (λ f h. function_spot m t p n u (λ id. refl) f) (every_all (λ f. Unit {0}) (λ f. tt) p.functions) m.sections (all_known ir m t p count h made))
