-- What is kept of all blocks and intervals says where Places go.
use Rattle.std.proofs.Common.{◌≡◌, ℕ, cond, leb, Option, Some, None, List, refl, sym, ap, ◌∙◌}
use Rattle.std.specs.Option.{option_map, option_map_or, option_or}
use Rattle.std.specs.Str.{bytes_eq}
use Rattle.std.proofs.Math.Path.{fun_ext}
use Rattle.std.proofs.lemmas.Slice.Eq.{bytes_eq-Decides}
use Rattle.aux_codec.specs.declared.value.Place.{Place}
use Rattle.gt_model.specs.declared.intervals.Interval.{Interval}
use Rattle.gt_model.specs.declared.modules.Module.{Module}
use Rattle.indexmap.specs.IndexMap.{get}
use Rattle.moved_places.specs.declared.interval.IntervalMoves.{IntervalMoves}
use Rattle.moved_places.specs.declared.kept.BlockMoves.{BlockMoves}
use Rattle.moved_places.specs.Blocks.{place_kept}
use Rattle.moved_places.specs.Intervals.{offset_kept}
use Rattle.moved_places.specs.Kept.{Index, block_among, interval_among, kept_block, kept_interval, size_among}
use Rattle.moved_places.specs.Moved.{block_place, interval_place, place_by, place_within}
use Rattle.moved_places.proofs.Lists.{found_passes}
use Rattle.moved_places.proofs.Stretches.{stretch_found}
use Rattle.rewrite.specs.Offsets.{new_offset}
use Rattle.rewrite.specs.Places.{code_place, interval_place as old_interval_place, loaded_interval, moved_place}
use Rattle.sym_expr.specs.declared.patches.PatchTable.{PatchTable}
use Rattle.sym_expr.specs.declared.program.CodeBlock.{CodeBlock}
use Rattle.sym_expr.specs.declared.program.Stretch.{Stretch}
use Rattle.sym_expr.specs.Modules.{loaded_intervals}
use Rattle.sym_expr.specs.Points.{code_at, code_blocks}
use Rattle.sym_expr.specs.Program.{program, stretch}
use Rattle.sym_expr.specs.Tables.{Tables}
use Rattle.sym_expr.specs.WellMade.{well_made}

-- where an offset goes by a function that may be there
abbrev at_offset : {A B : Type 0} → (A → ℕ → Option B) → ℕ → Option A → Option B
at_offset f offset x = option_map_or (λ a. f a offset) x None

through : {A B : Type 0} (f : A → ℕ → Option B) (offset : ℕ) (x : Option A) → at_offset f offset x ≡ option_map_or (λ (g : ℕ → Option B). g offset) (option_map f x) None
through f offset None = refl
through f offset (Some a) = refl

same_through : {A C B : Type 0} (f : A → ℕ → Option B) (g : C → ℕ → Option B) (offset : ℕ) (x : Option A) (y : Option C) → option_map f x ≡ option_map g y → at_offset f offset x ≡ at_offset g offset y
same_through {B = B} f g offset x y e = through f offset x ∙ ap (λ (o : Option (ℕ → Option B)). option_map_or (λ h. h offset) o None) e ∙ sym (through g offset y)

-- an offset in an interval that is kept as it goes
within_same : (at : Place) (kept : Option IntervalMoves) (s : Stretch) (id : List ℕ) → id ≡ at.id → option_map offset_kept kept ≡ Some (new_offset s)
    → option_map (λ (i : IntervalMoves). record at { offset = offset_kept i at.offset }) kept ≡ Some (record { id = id; offset = new_offset s at.offset })
within_same at None s id same e = cc
within_same at (Some i) s id same e =
    let goes : offset_kept i ≡ new_offset s = cc in
    ap (λ (f : ℕ → ℕ). Some (record at { offset = f at.offset })) goes ∙ ap (λ (x : List ℕ). Some (record { id = x; offset = new_offset s at.offset })) (sym same)

module _ (m : Module) (t : Tables) (p : PatchTable) (blocks : Index BlockMoves) (intervals : Index IntervalMoves) (sizes : Index ℕ)
    (well : well_made (program m t p))
    (codes : (q : List ℕ) → kept_block blocks q ≡ block_among m (code_blocks (program m t p)) q)
    (spans : (q : List ℕ) → kept_interval intervals q ≡ interval_among (program m t p).stretches q)
    (rooms : (q : List ℕ) → get bytes_eq sizes q ≡ size_among (loaded_intervals m) q) where
  block_same : (at : Place) → block_place blocks at ≡ option_map_or (λ (b : CodeBlock). code_place m b at.offset) (code_at (program m t p) at.id) None
  block_same at = same_through place_kept (code_place m) at.offset (get bytes_eq blocks at.id) (code_at (program m t p) at.id) (codes at.id)

  by_interval : (at : Place) (found : Option Interval) → loaded_interval m at.id ≡ found
      → option_map_or (place_within intervals at) (option_map (λ (i : Interval). i.size) found) None ≡ option_map_or (λ (i : Interval). old_interval_place m t p i at.offset) found None
  by_interval at None e = refl
  by_interval at (Some i) e =
      let same : i.uuid ≡ at.id = (bytes_eq-Decides i.uuid at.id).0 (found_passes (λ (j : Interval). bytes_eq j.uuid at.id) (loaded_intervals m) i e) in
      let kept : option_map offset_kept (get bytes_eq intervals at.id) ≡ Some (new_offset (stretch m t p i)) =
      spans at.id ∙ ap (option_map new_offset) (stretch_found m t p at.id i well e same) in
      ap (λ (o : Option Place). cond (leb at.offset i.size) o None) (within_same at (get bytes_eq intervals at.id) (stretch m t p i) i.uuid same kept)

  interval_same : (at : Place) → interval_place intervals sizes at ≡ option_map_or (λ (i : Interval). old_interval_place m t p i at.offset) (loaded_interval m at.id) None
  interval_same at = ap (λ (o : Option ℕ). option_map_or (place_within intervals at) o None) (rooms at.id) ∙ by_interval at (loaded_interval m at.id) refl

  pub all_same : place_by blocks intervals sizes ≡ moved_place m t p
  all_same = fun_ext (λ at.
      ap (λ (o : Option Place). option_map_or (λ (to : Place). to) (option_or o (interval_place intervals sizes at)) at) (block_same at)
      ∙ ap (λ (o : Option Place). option_map_or (λ (to : Place). to) (option_or (option_map_or (λ (b : CodeBlock). code_place m b at.offset) (code_at (program m t p) at.id) None) o) at) (interval_same at))
