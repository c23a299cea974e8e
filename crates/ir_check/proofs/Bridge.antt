-- What the checks find in a graph is what is wrong with the module.
use Rattle.std.proofs.Common.{◌≡◌, ℕ, ◌+◌, ◌^◌, Bool, true, false, cond, nat_lt, List, [], ◌∷◌, ◌++◌, map, Option, None, Some, refl, sym, ap, ◌∙◌}
use Rattle.std.specs.Prelude.{filter, fold, drop}
use Rattle.std.specs.List.{flat_map, zip}
use Rattle.std.specs.Option.{option_map}
use Rattle.gt_model.specs.declared.intervals.Block.{Block}
use Rattle.gt_model.specs.declared.intervals.Interval.{Interval}
use Rattle.gt_model.specs.declared.modules.Section.{Section}
use Rattle.ir_check.specs.AtGraph.{loaded_ids, interval_ids}
use Rattle.ir_check.specs.Faults.{first, thread_local, large, contents_long, block_outside, overlap, code_align}
use Rattle.ir_check.specs.Part.{spans_of}
use Rattle.ir_check.specs.PartFaults.{sections_fault, span_sizes, large_in, outside_fault, overlap_fault, crooked_fault}
use Rattle.ir_check.specs.Spans.{first_in, long_in, outside_in, overlap_in, crooked_in, span_of}
use Rattle.ir_check.specs.declared.span.Span.{Span}
use Rattle.ir_check.proofs.FirstLists.{first_flat, first_filter, first_in-map, first_in-same, found_as}
use Rattle.node_arena.specs.Arenas.{Arenas, module_at, section_at}
use Rattle.node_arena.specs.Plain.{plain_module, plain_section, plain_interval}
use Rattle.node_arena.specs.declared.fault.CheckFault.TheVariants as faults
use Rattle.node_arena.specs.declared.ids.IntervalId.{IntervalId}
use Rattle.node_arena.specs.declared.ids.ModuleId.{ModuleId}
use Rattle.node_arena.specs.declared.ids.SectionId.{SectionId}
use Rattle.sym_expr.specs.Linkable.{thread_locals, total_size, long_intervals, is_long, blocks_outside, passes, overlaps_in, is_overlap, is_crooked}
use Rattle.sym_expr.specs.Linkable as l
use Rattle.sym_expr.specs.Modules.{is_loaded, has_flag, loaded_sections, loaded_intervals, intervals_of, id_of, in_order}

map_cond : {A B : Type 0} (f : A → B) (b : Bool) (x : A) (xs : List A) → map f (cond b (x ∷ xs) xs) ≡ cond b (f x ∷ map f xs) (map f xs)
map_cond f true x xs = refl
map_cond f false x xs = refl

pub filter-map : {A B : Type 0} (p : B → Bool) (f : A → B) (xs : List A) → filter p (map f xs) ≡ map f (filter (λ x. p (f x)) xs)
filter-map p f [] = refl
filter-map {A} {B} p f (x ∷ xs) = ap (λ (ys : List B). cond (p (f x)) (f x ∷ ys) ys) (filter-map p f xs) ∙ sym (map_cond f (p (f x)) x (filter (λ x. p (f x)) xs))

map-append : {A B : Type 0} (f : A → B) (xs ys : List A) → map f (xs ++ ys) ≡ map f xs ++ map f ys
map-append f [] ys = refl
map-append {A} {B} f (x ∷ xs) ys = ap (λ (zs : List B). f x ∷ zs) (map-append f xs ys)

pub loaded_is : (g : Arenas) (m : ModuleId) → loaded_sections (plain_module g (module_at g m)) ≡ map (plain_section g) (loaded_ids g m)
loaded_is g m = filter-map is_loaded (plain_section g) (module_at g m).sections

pub sections_intervals : (g : Arenas) (ids : List SectionId) → intervals_of (map (plain_section g) ids) ≡ map (plain_interval g) (interval_ids g ids)
sections_intervals g [] = refl
sections_intervals g (id ∷ ids) =
    ap (λ (ys : List Interval). map (plain_interval g) (section_at g id).intervals ++ ys) (sections_intervals g ids)
    ∙ sym (map-append (plain_interval g) (section_at g id).intervals (interval_ids g ids))

pub intervals_is : (g : Arenas) (m : ModuleId) → loaded_intervals (plain_module g (module_at g m)) ≡ map (plain_interval g) (interval_ids g (loaded_ids g m))
intervals_is g m = ap intervals_of (loaded_is g m) ∙ sections_intervals g (loaded_ids g m)

pub sections_bridge : (g : Arenas) (m : ModuleId) → sections_fault g (loaded_ids g m) ≡ thread_local (plain_module g (module_at g m))
sections_bridge g m =
    found_as faults.ThreadLocal (λ (s : Section). s.uuid) (has_flag 6) (plain_section g) (loaded_ids g m)
    ∙ ap (λ (ss : List Section). option_map (λ (s : Section). faults.ThreadLocal s.uuid) (first (thread_locals ss))) (sym (loaded_is g m))

pub sum_same : {X Y : Type 0} (f : Y → ℕ) (h : X → Y) (k : X → ℕ) → ((x : X) → f (h x) ≡ k x) → (a : ℕ) (xs : List X) → fold (λ a y. a + f y) a (map h xs) ≡ fold (λ a x. a + k x) a xs
sum_same f h k same a [] = refl
sum_same {X} f h k same a (x ∷ xs) = ap (λ (n : ℕ). fold (λ a y. a + f y) (a + n) (map h xs)) (same x) ∙ sum_same f h k same (a + k x) xs

sizes_are : (g : Arenas) (ids : List IntervalId) → span_sizes (map (span_of g) ids) ≡ total_size (map (plain_interval g) ids)
sizes_are g ids =
    sum_same (λ (s : Span). s.size) (span_of g) (λ (id : IntervalId). (plain_interval g id).size) (λ id. refl) 0 ids
    ∙ sym (sum_same (λ (i : Interval). i.size) (plain_interval g) (λ (id : IntervalId). (plain_interval g id).size) (λ id. refl) 0 ids)

pub total_is : (g : Arenas) (m : ModuleId) → span_sizes (spans_of g m) ≡ total_size (loaded_intervals (plain_module g (module_at g m)))
total_is g m = sizes_are g (interval_ids g (loaded_ids g m)) ∙ ap total_size (sym (intervals_is g m))

-- what each span answers is what its interval answers
along : {Y : Type 0} (g : Arenas) (f : Span → Option Y) (h : Interval → Option Y) → ((id : IntervalId) → f (span_of g id) ≡ h (plain_interval g id)) → (ids : List IntervalId) → first_in f (map (span_of g) ids) ≡ first_in h (map (plain_interval g) ids)
along g f h same ids =
    first_in-map f (span_of g) ids ∙ first_in-same (λ id. f (span_of g id)) (λ id. h (plain_interval g id)) same ids ∙ sym (first_in-map h (plain_interval g) ids)

pub large_bridge : (g : Arenas) (m : ModuleId) → large_in (spans_of g m) ≡ large (plain_module g (module_at g m))
large_bridge g m = ap (λ (n : ℕ). cond (nat_lt (2 ^ 24) n) (Some (faults.Large n)) None) (total_is g m)

pub long_bridge : (g : Arenas) (m : ModuleId) → option_map faults.ContentsLong (first_in long_in (spans_of g m)) ≡ contents_long (plain_module g (module_at g m))
long_bridge g m =
    let ids = interval_ids g (loaded_ids g m) in
    ap (option_map faults.ContentsLong) (first_in-map long_in (span_of g) ids)
    ∙ found_as faults.ContentsLong (λ (i : Interval). i.uuid) is_long (plain_interval g) ids
    ∙ ap (λ (is : List Interval). option_map (λ (i : Interval). faults.ContentsLong i.uuid) (first (long_intervals is))) (sym (intervals_is g m))

-- the first of what each interval has
all_along : {Y Z : Type 0} (g : Arenas) (m : ModuleId) (k : Y → Z) (f : Span → Option Y) (h : Interval → List Y) → ((id : IntervalId) → f (span_of g id) ≡ first (h (plain_interval g id)))
    → option_map k (first_in f (spans_of g m)) ≡ option_map k (first (flat_map h (loaded_intervals (plain_module g (module_at g m)))))
all_along g m k f h same =
    ap (option_map k) (along g f (λ i. first (h i)) same (interval_ids g (loaded_ids g m)) ∙ sym (first_flat h (map (plain_interval g) (interval_ids g (loaded_ids g m)))))
    ∙ ap (λ (is : List Interval). option_map k (first (flat_map h is))) (sym (intervals_is g m))

pub outside_bridge : (g : Arenas) (m : ModuleId) → outside_fault (spans_of g m) ≡ block_outside (plain_module g (module_at g m))
outside_bridge g m = all_along g m (λ (b : Block). faults.BlockOutside (id_of b)) outside_in blocks_outside (λ id. sym (first_filter (passes (plain_interval g id).size) (plain_interval g id).blocks))

pub overlap_bridge : (g : Arenas) (m : ModuleId) → overlap_fault (spans_of g m) ≡ overlap (plain_module g (module_at g m))
overlap_bridge g m =
    all_along g m (λ (pair : Block × Block). faults.Overlap (id_of pair.0) (id_of pair.1)) overlap_in overlaps_in
    (λ id. sym (first_filter is_overlap (zip (in_order (plain_interval g id).blocks) (drop 1 (in_order (plain_interval g id).blocks)))))

pub crooked_bridge : (g : Arenas) (m : ModuleId) → crooked_fault (spans_of g m) ≡ code_align (plain_module g (module_at g m))
crooked_bridge g m = all_along g m (λ (b : Block). faults.CodeAlign (id_of b)) crooked_in l.crooked_in (λ id. sym (first_filter is_crooked (plain_interval g id).blocks))
