-- The program of a repaired module is the program of the module and its patches once more, but for what operands and data name.
use Rattle.std.proofs.Common.{◌≡◌, ◌+◌, Bool, true, false, [], length, map, Some, None, refl, ap, ◌∙◌}
use Rattle.std.specs.Prelude.{if◌then◌else◌}
use Rattle.std.specs.List.{AllByRecursion as Every, list_any}
use Rattle.block_parts.specs.Parts.{parts}
use Rattle.block_parts.specs.Words.{patched_words}
use Rattle.edge_repair.specs.Repaired.{repaired_module}
use Rattle.gt_model.specs.declared.intervals.Interval.{Interval}
use Rattle.gt_model.specs.declared.ir.Ir.{Ir}
use Rattle.gt_model.specs.declared.modules.Module.{Module}
use Rattle.repaired_programs.specs.Pieces.{bare_piece, bare_program, bare_stretch, new_pieces, new_program, new_stretch}
use Rattle.repaired_programs.specs.Programs.{repaired_program}
use Rattle.repaired_programs.specs.Spots.{new_spots}
use Rattle.rewrite.specs.Functions.{function_interval}
use Rattle.rewrite.specs.Blocks.{part_size}
use Rattle.rewrite.specs.Identifiers.{last_part, part_id}
use Rattle.rewrite.specs.Places.{moved_tables}
use Rattle.rewrite.specs.Rewritten.{has_words, stretched}
use Rattle.sym_expr.specs.declared.layout.Layout.{Layout}
use Rattle.sym_expr.specs.declared.patches.Function.{Function}
use Rattle.sym_expr.specs.declared.patches.PatchTable.{PatchTable}
use Rattle.sym_expr.specs.declared.program.CodeBlock.{CodeBlock}
use Rattle.sym_expr.specs.declared.program.Program.{Program}
use Rattle.sym_expr.specs.declared.program.Stretch.{Stretch}
use Rattle.sym_expr.specs.Images.{block_address, point_address}
use Rattle.sym_expr.specs.Linkable.{formed}
use Rattle.sym_expr.specs.Modules.{in_order, loaded_intervals}
use Rattle.sym_expr.specs.Patches.{no_patches}
use Rattle.sym_expr.specs.Placing.{placed}
use Rattle.sym_expr.specs.Points.{code_blocks, code_size, ins}
use Rattle.sym_expr.specs.Program.{entry_of, function_stretch, pieces, program, stretch}
use Rattle.sym_expr.specs.TableOk.{function_words, typed_patches}
use Rattle.sym_expr.specs.Tables.{Tables}
use Rattle.sym_expr.specs.Targets.{point, start_of}
use Rattle.sym_expr.specs.WellMade.{block_ids, IsCode, well_made}
use Rattle.repaired_programs.proofs.Addresses.{AreApart, AreAt, kept_addresses, new_addresses, old_addresses}
use Rattle.repaired_programs.proofs.Bare.{AreNamed, AreSmall, spots_bare}
use Rattle.repaired_programs.proofs.Brought.{function_bare, functions_short, IsShort}
use Rattle.repaired_programs.proofs.Ends.{all_ends, all_starts, quiet_program, same_entry}
use Rattle.repaired_programs.proofs.Known.{all_known, all_told, IsCountedPiece, IsTold}
use Rattle.repaired_programs.proofs.Lists.{every_all, every_both, every_weaker, none_of_any}
use Rattle.repaired_programs.proofs.Sections.{sections_same}
use Rattle.repaired_programs.proofs.Small.{all_bytes, block_small, HasBytes}
use Rattle.repaired_programs.proofs.Sorted.{each_in_order}
use Rattle.repaired_programs.proofs.Stands.{IsKnown, new_order}
use Rattle.repaired_programs.proofs.Still.{IsOnePart, still_bare}

-- the pieces of a rewritten interval are the old ones once more
abbrev pub AreNew : Module → Tables → PatchTable → Interval → Type 0
AreNew m t p i = map bare_piece (stretch (repaired_module m t p) (moved_tables m t p) no_patches (stretched m p i (stretch m t p i))).pieces ≡ new_pieces m [] 0 (placed (stretch m t p i))

pub interval_new : ((b : CodeBlock) → AreNamed b) → (m : Module) (t : Tables) (p : PatchTable) (i : Interval) → typed_patches p → IsKnown m t p i × HasBytes i → AreNew m t p i
interval_new named m t p i typed h =
    let n : Module = repaired_module m t p in
    let u : Tables = moved_tables m t p in
    let j : Interval = stretched m p i (stretch m t p i) in
    ap (λ bs. map bare_piece (pieces n u no_patches j 0 bs)) (new_order m t p i h.0)
    ∙ spots_bare named m t p i n u j (λ id. refl) 0 0 (in_order i.blocks) h.0.fit (every_all (AreSmall m p i) (λ b. block_small m p i b typed h.1) (in_order i.blocks)) refl (record { front = []; size = refl; whole = refl })

-- ---- the whole program

either_new : ((b : CodeBlock) → AreNamed b) → ((b : CodeBlock) → IsOnePart b) → (m : Module) (t : Tables) (p : PatchTable) (i : Interval) (x : Bool) → list_any (has_words p) i.blocks ≡ x → typed_patches p → IsKnown m t p i × HasBytes i
    → bare_stretch (stretch (repaired_module m t p) (moved_tables m t p) no_patches (if x then stretched m p i (stretch m t p i) else i)) ≡ new_stretch m (stretch m t p i)
either_new named one m t p i true e typed h = ap (λ ps. record { id = i.uuid; address = if i.has_address then Some i.address else None; pieces = ps }) (interval_new named m t p i typed h)
either_new named one m t p i false e typed h =
    ap (λ ps. record { id = i.uuid; address = if i.has_address then Some i.address else None; pieces = ps })
    (still_bare one m t p i (repaired_module m t p) (moved_tables m t p) (λ id. refl) 0 (in_order i.blocks) h.0.behind h.0.fit (each_in_order (λ b. has_words p b ≡ false) i.blocks (none_of_any (has_words p) i.blocks e)))

brought_new : ((b : CodeBlock) → IsOnePart b) → (m : Module) (t : Tables) (p : PatchTable) (f : Function) → Every IsShort (function_words f)
    → bare_stretch (stretch (repaired_module m t p) (moved_tables m t p) no_patches (function_interval m f)) ≡ new_stretch m (function_stretch m p f)
brought_new one m t p f short = ap (λ ps. record { id = (function_interval m f).uuid; address = None; pieces = ps }) (function_bare one (repaired_module m t p) (moved_tables m t p) m p f short)

pub program_new : (ir : Ir) (m : Module) (t : Tables) (p : PatchTable) → ((b : CodeBlock) → AreNamed b) → ((b : CodeBlock) → IsOnePart b) → ((g : Program) (b : CodeBlock) → IsCode g b → length (patched_words b) ≡ length b.own + length b.inserted) → formed ir m t → typed_patches p → well_made (program m t p)
    → bare_program (program (repaired_module m t p) (moved_tables m t p) no_patches) ≡ new_program m (program m t p)
program_new ir m t p named one count h typed made =
    let n : Module = repaired_module m t p in
    let u : Tables = moved_tables m t p in
    ap (λ ss. record { stretches = ss; entry = start_of (entry_of m) })
    (sections_same bare_stretch (new_stretch m) (λ i. IsKnown m t p i × HasBytes i) (λ (f : Function). Every IsShort (function_words f)) m t p n u
    (λ i k. either_new named one m t p i (list_any (has_words p) i.blocks) refl typed k) (brought_new one m t p) (functions_short p typed) m.sections
    (every_both (IsKnown m t p) HasBytes (loaded_intervals m) (all_known ir m t p count h made) (all_bytes ir m t h)))

-- ---- addresses

pub parts_at : (ir : Ir) (m : Module) (t : Tables) (p : PatchTable) (l : Layout) → ((b : CodeBlock) → AreNamed b) → ((b : CodeBlock) → IsOnePart b) → ((g : Program) (b : CodeBlock) → IsCode g b → length (patched_words b) ≡ length b.own + length b.inserted) → formed ir m t → typed_patches p → well_made (program m t p)
    → AreApart (repaired_program m t p) → Every (AreAt l (repaired_program m t p) (new_spots m)) (program m t p).stretches
parts_at ir m t p l named one count h typed made apart =
    let g : Program = program m t p in
    new_addresses l m g (repaired_program m t p) (program_new ir m t p named one count h typed made)
    (every_weaker IsTold (λ (s : Stretch). Every IsCountedPiece s.pieces) (λ s k. k.counted) g.stretches (all_told g (count g) made)) apart

pub blocks_at : (ir : Ir) (m : Module) (t : Tables) (p : PatchTable) (l : Layout) → ((b : CodeBlock) → AreNamed b) → ((b : CodeBlock) → IsOnePart b) → ((g : Program) (b : CodeBlock) → IsCode g b → length (patched_words b) ≡ length b.own + length b.inserted) → formed ir m t → typed_patches p → well_made (program m t p)
    → AreApart (repaired_program m t p) → Every (λ id. block_address l (repaired_program m t p) id ≡ block_address l (program m t p) id) (block_ids (program m t p))
blocks_at ir m t p l named one count h typed made apart =
    let g : Program = program m t p in
    kept_addresses l m g (repaired_program m t p) (old_addresses l g made.apart) (parts_at ir m t p l named one count h typed made apart)

-- ---- points

pub entry_at : (ir : Ir) (m : Module) (t : Tables) (p : PatchTable) (l : Layout) → ((b : CodeBlock) → AreNamed b) → ((b : CodeBlock) → IsOnePart b) → ((g : Program) (b : CodeBlock) → IsCode g b → length (patched_words b) ≡ length b.own + length b.inserted) → formed ir m t → typed_patches p → well_made (program m t p)
    → AreApart (repaired_program m t p) → point_address l (repaired_program m t p) (repaired_program m t p).entry ≡ point_address l (program m t p) (program m t p).entry
entry_at ir m t p l named one count h typed made apart =
    same_entry l (program m t p) (repaired_program m t p) made refl (blocks_at ir m t p l named one count h typed made apart)

pub starts_at : (ir : Ir) (m : Module) (t : Tables) (p : PatchTable) (l : Layout) → ((b : CodeBlock) → AreNamed b) → ((b : CodeBlock) → IsOnePart b) → ((g : Program) (b : CodeBlock) → IsCode g b → length (patched_words b) ≡ length b.own + length b.inserted) → formed ir m t → typed_patches p → well_made (program m t p)
    → AreApart (repaired_program m t p) → Every (λ id. point_address l (repaired_program m t p) (start_of id) ≡ point_address l (program m t p) (start_of id)) (block_ids (program m t p))
starts_at ir m t p l named one count h typed made apart =
    all_starts l (program m t p) (repaired_program m t p) (blocks_at ir m t p l named one count h typed made apart)

pub ends_at : (ir : Ir) (m : Module) (t : Tables) (p : PatchTable) (l : Layout) → ((b : CodeBlock) → AreNamed b) → ((b : CodeBlock) → IsOnePart b) → ((g : Program) (b : CodeBlock) → IsCode g b → length (patched_words b) ≡ length b.own + length b.inserted) → formed ir m t → typed_patches p → well_made (program m t p)
    → AreApart (repaired_program m t p)
    → Every (λ (b : CodeBlock). point_address l (repaired_program m t p) (point (part_id m b.id (last_part (parts b))) (part_size (last_part (parts b))) 0) ≡ point_address l (program m t p) (point b.id (code_size b) (length (ins b (code_size b))))) (code_blocks (program m t p))
ends_at ir m t p l named one count h typed made apart =
    let g : Program = program m t p in
    all_ends l m g (repaired_program m t p) (quiet_program (repaired_module m t p) (moved_tables m t p)) made (count g) (old_addresses l g made.apart) (parts_at ir m t p l named one count h typed made apart)
