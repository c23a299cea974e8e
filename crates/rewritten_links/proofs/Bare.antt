-- A rewritten module has no bare block where it had none.
use Rattle.std.proofs.Common.{◌≡◌, ℕ, suc, ◌+◌, ◌*◌, inl, inr, Bool, true, false, List, [], ◌∷◌, length, map, refl, sym, subst, ◌∙◌}
use Rattle.std.specs.Prelude.{if◌then◌else◌}
use Rattle.std.specs.List.{flat_map, list_any}
use Rattle.std.proofs.lemmas.Bool.{false≢true, or_from, or_parts}
use Rattle.std.proofs.lemmas.List.Folds.{list_any-append}
use Rattle.block_parts.specs.declared.parts.Part.{Part}
use Rattle.block_parts.specs.Parts.{parts}
use Rattle.gt_model.specs.declared.intervals.Block.{Block}
use Rattle.gt_model.specs.declared.intervals.Body.{Body}
use Rattle.gt_model.specs.declared.intervals.Body.TheVariants as bodies
use Rattle.gt_model.specs.declared.intervals.Interval.{Interval}
use Rattle.gt_model.specs.declared.modules.Module.{Module}
use Rattle.gt_model.specs.declared.modules.Section.{Section}
use Rattle.gt_model.specs.Linked.{is_bare}
use Rattle.rewrite.specs.Blocks.{new_block, part_block}
use Rattle.rewrite.specs.Functions.{blocks_from, function_interval}
use Rattle.rewrite.specs.Offsets.{new_start}
use Rattle.rewrite.specs.Rewritten.{has_words, new_interval, new_intervals, new_section, rewritten_module, stretched}
use Rattle.sym_expr.specs.declared.patches.Function.{Function}
use Rattle.sym_expr.specs.declared.patches.PatchTable.{PatchTable}
use Rattle.sym_expr.specs.declared.patches.PatchWord.{PatchWord}
use Rattle.sym_expr.specs.declared.program.Stretch.{Stretch}
use Rattle.sym_expr.specs.Modules.{is_loaded}
use Rattle.sym_expr.specs.Patches.{function_blocks}
use Rattle.sym_expr.specs.Program.{code_block, has_entry, stretch}
use Rattle.sym_expr.specs.Tables.{Tables}
use Rattle.rewritten_links.proofs.Lists.{In, in_either, in_flat, out_flat, out_map}

parts_whole : (m : Module) (block : List ℕ) (decode_mode start : ℕ) (qs : List Part) → list_any is_bare (map (part_block m block decode_mode start) qs) ≡ false
parts_whole m block decode_mode start [] = refl
parts_whole m block decode_mode start (q ∷ qs) = parts_whole m block decode_mode start qs

body_whole : (m : Module) (p : PatchTable) (i : Interval) (s : Stretch) (offset : ℕ) (x : Body) → let b : Block = record { offset = offset; body = x } in is_bare b ≡ false → list_any is_bare (new_block m p i s b) ≡ false
body_whole m p i s offset bodies.Bare h = absurd (false≢true (sym h))
body_whole m p i s offset (bodies.Code uuid size decode_mode) h =
    let b : Block = record { offset = offset; body = bodies.Code uuid size decode_mode } in
    parts_whole m uuid decode_mode (new_start s uuid) (parts (code_block m p i b))
body_whole m p i s offset (bodies.Data uuid size) h = refl

blocks_whole : (m : Module) (p : PatchTable) (i : Interval) (s : Stretch) (bs : List Block) → list_any is_bare bs ≡ false → list_any is_bare (flat_map (new_block m p i s) bs) ≡ false
blocks_whole m p i s [] h = refl
blocks_whole m p i s (b ∷ bs) h =
    let both = or_parts (is_bare b) (list_any is_bare bs) h in
    list_any-append is_bare (new_block m p i s b) (flat_map (new_block m p i s) bs)
    ∙ or_from (list_any is_bare (new_block m p i s b)) (list_any is_bare (flat_map (new_block m p i s) bs)) (body_whole m p i s b.offset b.body both.0) (blocks_whole m p i s bs both.1)

-- no block of the interval is bare
abbrev pub IsWhole : Interval → Type 0
IsWhole i = list_any is_bare i.blocks ≡ false

either_whole : (m : Module) (p : PatchTable) (i : Interval) (s : Stretch) (x : Bool) → IsWhole i → IsWhole (if x then stretched m p i s else i)
either_whole m p i s true h = blocks_whole m p i s i.blocks h
either_whole m p i s false h = h

function_whole : (m : Module) (f : Function) (k at : ℕ) (bs : List (List PatchWord)) → list_any is_bare (blocks_from m f k at bs) ≡ false
function_whole m f k at [] = refl
function_whole m f k at (b ∷ bs) = function_whole m f (suc k) (at + 4 * length b) bs

extra_whole : (m : Module) (p : PatchTable) (x : Bool) (j : Interval) → In j (if x then map (function_interval m) p.functions else []) → IsWhole j
extra_whole m p true j h =
    let f = out_map (function_interval m) j p.functions h in
    subst IsWhole (sym f.2) (function_whole m f.0 0 0 (function_blocks f.0))
extra_whole m p false j h = absurd h

new_whole : (m : Module) (t : Tables) (p : PatchTable) (s : Section) (j : Interval) → ((i : Interval) → In i s.intervals → IsWhole i) → In j (new_intervals m t p s) → IsWhole j
new_whole m t p s j h k =
    elim (in_either j (map (new_interval m t p) s.intervals) (if has_entry m s then map (function_interval m) p.functions else []) k) [
      | inl l ↦
          let i = out_map (new_interval m t p) j s.intervals l in
          subst IsWhole (sym i.2) (either_whole m p i.0 (stretch m t p i.0) (list_any (has_words p) i.0.blocks) (h i.0 i.1))
      | inr l ↦ extra_whole m p (has_entry m s) j l
    ]

either_section : (m : Module) (t : Tables) (p : PatchTable) (s : Section) (x : Bool) (j : Interval) → ((i : Interval) → In i s.intervals → IsWhole i) → In j (if x then record s { intervals = new_intervals m t p s } else s).intervals → IsWhole j
either_section m t p s true j h k = new_whole m t p s j h k
either_section m t p s false j h k = h j k

abbrev pub section_intervals : Module → List Interval
section_intervals m = flat_map (λ (s : Section). s.intervals) m.sections

pub module_whole : (m : Module) (t : Tables) (p : PatchTable) (j : Interval) → ((i : Interval) → In i (section_intervals m) → IsWhole i) → In j (section_intervals (rewritten_module m t p)) → IsWhole j
module_whole m t p j h k =
    let r = out_flat (λ (s : Section). s.intervals) j (map (new_section m t p) m.sections) k in
    let s = out_map (new_section m t p) r.0 m.sections r.1 in
    either_section m t p s.0 (is_loaded s.0) j (λ i l. h i (in_flat (λ (x : Section). x.intervals) s.0 i m.sections s.1 l)) (subst (λ (x : Section). In j x.intervals) s.2 r.2)
