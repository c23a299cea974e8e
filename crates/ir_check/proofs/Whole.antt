-- The checks, one after another, find the first thing that is wrong with the module.
use Rattle.std.proofs.Common.{◌≡◌, ℕ, ℤ, Bool, false, cond, not, nat_lt, List, [], ◌∷◌, map, Option, None, Some, refl, sym, ap, ◌∙◌}
use Rattle.std.specs.Prelude.{find, is_some}
use Rattle.std.specs.List.{flat_map}
use Rattle.std.specs.Option.{option_map, option_map_or, option_or, option_and_then}
use Rattle.std.specs.Str.{bytes_eq}
use Rattle.indexmap.specs.IndexMap.{get}
use Rattle.aux_codec.specs.Places.{places_of}
use Rattle.aux_codec.specs.Reading.{read_value}
use Rattle.aux_codec.specs.declared.value.Place.{Place}
use Rattle.aux_tables.specs.ModuleTables.{shape_of_table, table_places, result_option}
use Rattle.aux_types.specs.Shape.{Shape}
use Rattle.gt_model.specs.declared.exprs.Expr.{Expr}
use Rattle.gt_model.specs.declared.exprs.ExprValue.{ExprValue}
use Rattle.gt_model.specs.declared.exprs.ExprValue.TheVariants as values
use Rattle.gt_model.specs.declared.intervals.Interval.{Interval}
use Rattle.gt_model.specs.declared.tables.Aux.{Aux}
use Rattle.ir_check.specs.AtGraph.{loaded_ids, interval_ids, faults_at}
use Rattle.ir_check.specs.Faults.{first, thread_local, large, contents_long, block_outside, overlap, code_align, no_entry, aux_fault, aux_faults, is_past, bad_places, bad_places_in, fault_of, faults_in, faults_of_exprs, flag_fault, named_fault}
use Rattle.ir_check.specs.Part.{IsPart, spans_of, is_past_in, code_size_of}
use Rattle.ir_check.specs.PartFaults.{part_fault, sections_fault, intervals_fault, blocks_fault, entry_fault, is_entered_in, overlap_fault, crooked_fault}
use Rattle.ir_check.specs.Spans.{first_in, long_in}
use Rattle.ir_check.specs.TablesRead.{bad_place_of, past_in}
use Rattle.ir_check.specs.declared.part.LoadedPart.{LoadedPart}
use Rattle.ir_check.specs.declared.profile.Plain.{Plain}
use Rattle.ir_check.specs.declared.sites.Site.{Site}
use Rattle.ir_check.proofs.Bridge.{intervals_is, sections_bridge, large_bridge, long_bridge, outside_bridge, overlap_bridge, crooked_bridge}
use Rattle.ir_check.proofs.FirstLists.{or_assoc, first_flat, first_filter, first_filter_map, first_map, first_in-map, first_in-same}
use Rattle.ir_check.proofs.FoundBlocks.{found_in, size_found, loaded, entered_bridge, size_named_is}
use Rattle.node_arena.specs.Arenas.{Arenas, module_at, interval_at}
use Rattle.node_arena.specs.Plain.{plain_module, plain_interval}
use Rattle.node_arena.specs.declared.fault.CheckFault.{CheckFault}
use Rattle.node_arena.specs.declared.fault.CheckFault.TheVariants as faults
use Rattle.node_arena.specs.declared.ids.IntervalId.{IntervalId}
use Rattle.node_arena.specs.declared.ids.ModuleId.{ModuleId}
use Rattle.sym_expr.specs.declared.aim.Aim.{Aim}
use Rattle.sym_expr.specs.Differences.{form_of}
use Rattle.sym_expr.specs.Expressions.{names_bad, is_bad_sum, is_bad_difference, is_operand, word_or_none, symbol_aim, BadOperand, BadTarget}
use Rattle.sym_expr.specs.Tables.{Tables, expr_size}

-- ---- what is loaded

entered_same : (f h : List ℕ → Option Site) (entry : Option (List ℕ)) → ((id : List ℕ) → f id ≡ h id) → is_entered_in f entry ≡ is_entered_in h entry
entered_same f h None same = refl
entered_same f h (Some id) same = ap is_some (same id)

pub part_is : (g : Arenas) (m : ModuleId) (p : LoadedPart) → IsPart g m p
    → part_fault g m p
    ≡ option_or (thread_local (plain_module g (module_at g m)))
    (option_or (large (plain_module g (module_at g m)))
    (option_or (contents_long (plain_module g (module_at g m)))
    (option_or (block_outside (plain_module g (module_at g m)))
    (option_or (overlap (plain_module g (module_at g m)))
    (option_or (code_align (plain_module g (module_at g m))) (no_entry (plain_module g (module_at g m))))))))
part_is g m p is =
    let M = plain_module g (module_at g m) in
    let entry : entry_fault (get bytes_eq p.sites) M.entry ≡ no_entry M = ap (λ (t : Bool). cond t None (Some faults.NoEntry)) (entered_same (get bytes_eq p.sites) (found_in g m) M.entry is.sites ∙ entered_bridge g m) in
    let sections : sections_fault g p.sections.items ≡ thread_local M = ap (sections_fault g) is.sections ∙ sections_bridge g m in
    let intervals : intervals_fault p.spans.items ≡ option_or (large M) (contents_long M) =
    ap intervals_fault is.spans ∙ ap (λ (o : Option CheckFault). option_or o (option_map faults.ContentsLong (first_in long_in (spans_of g m)))) (large_bridge g m) ∙ ap (option_or (large M)) (long_bridge g m) in
    let blocks : blocks_fault p.spans.items ≡ option_or (block_outside M) (option_or (overlap M) (code_align M)) =
    ap blocks_fault is.spans
    ∙ ap (λ (o : Option CheckFault). option_or o (option_or (overlap_fault (spans_of g m)) (crooked_fault (spans_of g m)))) (outside_bridge g m)
    ∙ ap (λ (o : Option CheckFault). option_or (block_outside M) (option_or o (crooked_fault (spans_of g m)))) (overlap_bridge g m)
    ∙ ap (λ (o : Option CheckFault). option_or (block_outside M) (option_or (overlap M) o)) (crooked_bridge g m) in
    ap (λ (o : Option CheckFault). option_or o (option_or (intervals_fault p.spans.items) (option_or (blocks_fault p.spans.items) (entry_fault (get bytes_eq p.sites) M.entry)))) sections
    ∙ ap (λ (o : Option CheckFault). option_or (thread_local M) (option_or o (option_or (blocks_fault p.spans.items) (entry_fault (get bytes_eq p.sites) M.entry)))) intervals
    ∙ ap (λ (o : Option CheckFault). option_or (thread_local M) (option_or (option_or (large M) (contents_long M)) (option_or o (entry_fault (get bytes_eq p.sites) M.entry)))) blocks
    ∙ ap (λ (o : Option CheckFault). option_or (thread_local M) (option_or (option_or (large M) (contents_long M)) (option_or (option_or (block_outside M) (option_or (overlap M) (code_align M))) o))) entry
    ∙ ap (option_or (thread_local M)) (
    or_assoc (large M) (contents_long M) (option_or (option_or (block_outside M) (option_or (overlap M) (code_align M))) (no_entry M))
    ∙ ap (λ (o : Option CheckFault). option_or (large M) (option_or (contents_long M) o)) (
    or_assoc (block_outside M) (option_or (overlap M) (code_align M)) (no_entry M)
    ∙ ap (option_or (block_outside M)) (or_assoc (overlap M) (code_align M) (no_entry M))
    )
    )

-- ---- tables

find_cond : {A : Type 0} (p q : Bool) (x : A) (o : Option A) → p ≡ q → cond p (Some x) o ≡ cond q (Some x) o
find_cond p q x o e = ap (λ (t : Bool). cond t (Some x) o) e

find-same : {A : Type 0} (p q : A → Bool) → ((x : A) → p x ≡ q x) → (xs : List A) → find p xs ≡ find q xs
find-same p q same [] = refl
find-same {A} p q same (x ∷ xs) = find_cond (p x) (q x) x (find p xs) (same x) ∙ ap (λ (o : Option A). cond (q x) (Some x) o) (find-same p q same xs)

past_is : (g : Arenas) (m : ModuleId) (p : LoadedPart) → IsPart g m p → (place : Place) → is_past_in (get bytes_eq p.sizes) (get bytes_eq p.sites) place ≡ is_past (loaded g m) place
past_is g m p is place =
    ap (λ (o : Option ℕ). option_map_or (λ size. nat_lt size place.offset) o false) (
    ap (λ (o : Option ℕ). option_or o (option_and_then code_size_of (get bytes_eq p.sites place.id))) (is.sizes place.id)
    ∙ ap (λ (o : Option Site). option_or (size_found g m place.id) (option_and_then code_size_of o)) (is.sites place.id)
    ∙ size_named_is g m place.id
    )

held_first : (past : Place → Bool) (a : Aux) (o : Option Shape) → shape_of_table a ≡ o → past_in past (option_map (λ _. table_places a) o) ≡ find past (table_places a)
held_first past a None e =
    sym (ap (λ (o : Option Shape). find past (option_map_or places_of (option_and_then result_option (option_map (λ shape. read_value shape a.bytes) o)) [])) e)
held_first past a (Some shape) e = refl

pub places_are : (g : Arenas) (m : ModuleId) (p : LoadedPart) → IsPart g m p → (tables : List Aux) → first_in (bad_place_of (is_past_in (get bytes_eq p.sizes) (get bytes_eq p.sites))) tables ≡ first (bad_places (loaded g m) tables)
places_are g m p is tables =
    first_in-same (bad_place_of (is_past_in (get bytes_eq p.sizes) (get bytes_eq p.sites))) (λ (a : Aux). first (bad_places_in (loaded g m) a)) (λ (a : Aux).
    ap (option_map (λ (q : Place). faults.BadPlace a.name q.id q.offset)) (
    held_first (is_past_in (get bytes_eq p.sizes) (get bytes_eq p.sites)) a (shape_of_table a) refl
    ∙ find-same _ (is_past (loaded g m)) (past_is g m p is) (table_places a)
    ∙ sym (first_filter (is_past (loaded g m)) (table_places a))
    )
    ∙ sym (first_map (λ (q : Place). faults.BadPlace a.name q.id q.offset) _)
    ) tables
    ∙ sym (first_flat (bad_places_in (loaded g m)) tables)

pub aux_are : (tables : List Aux) → first_in aux_fault tables ≡ first (aux_faults tables)
aux_are tables = sym (first_filter_map aux_fault tables)

-- ---- expressions

sum_same : (word : ℕ) (offset : ℤ) (aim other : List ℕ → Aim) → ((id : List ℕ) → aim id ≡ other id) → (symbol : Option (List ℕ)) → option_map_or (λ s. is_bad_sum word offset (aim s)) symbol false ≡ option_map_or (λ s. is_bad_sum word offset (other s)) symbol false
sum_same word offset aim other same None = refl
sum_same word offset aim other same (Some s) = ap (is_bad_sum word offset) (same s)

bad_same : (aim other : List ℕ → Aim) (size word : ℕ) → ((id : List ℕ) → aim id ≡ other id) → (value : ExprValue) → names_bad aim size word value ≡ names_bad other size word value
bad_same aim other size word same values.Nothing = refl
bad_same aim other size word same (values.AddrConst offset symbol) = sum_same word offset aim other same symbol
bad_same aim other size word same (values.AddrAddr scale offset None second) = refl
bad_same aim other size word same (values.AddrAddr scale offset (Some a) None) = refl
bad_same aim other size word same (values.AddrAddr scale offset (Some a) (Some b)) =
    ap (λ (x : Aim). option_map_or (is_bad_difference offset x (aim b)) (form_of size scale) false) (same a)
    ∙ ap (λ (x : Aim). option_map_or (is_bad_difference offset (other a) x) (form_of size scale) false) (same b)

fault_same_aim : (allowed : Plain) (aim other : List ℕ → Aim) (size : ℕ → ℕ) (i : Interval) → ((id : List ℕ) → aim id ≡ other id) → (e : Expr) → fault_of allowed aim size i e ≡ fault_of allowed other size i e
fault_same_aim allowed aim other size i same e =
    ap (λ (t : Bool). option_or (flag_fault allowed i e) (option_map (named_fault i e) (cond (not (is_operand size i e)) (Some BadOperand) (cond t (Some BadTarget) None))))
    (bad_same aim other (size e.at) (word_or_none i e) same e.value)

pub exprs_are : (g : Arenas) (m : ModuleId) (allowed : Plain) (aim : List ℕ → Aim) (t : Tables) → ((id : List ℕ) → aim id ≡ symbol_aim (plain_module g (module_at g m)) id)
    → first_in (faults_at allowed aim t g) (interval_ids g (loaded_ids g m)) ≡ first (faults_of_exprs allowed (plain_module g (module_at g m)) t)
exprs_are g m allowed aim t same =
    let M = plain_module g (module_at g m) in
    first_in-same (faults_at allowed aim t g) (λ (id : IntervalId). first (faults_in allowed M t (plain_interval g id))) (λ (id : IntervalId).
    first_in-same (fault_of allowed aim (expr_size t (interval_at g id).uuid) (plain_interval g id)) (fault_of allowed (symbol_aim M) (expr_size t (interval_at g id).uuid) (plain_interval g id))
    (fault_same_aim allowed aim (symbol_aim M) (expr_size t (interval_at g id).uuid) (plain_interval g id) same) (interval_at g id).exprs
    ∙ sym (first_filter_map (fault_of allowed (symbol_aim M) (expr_size t (interval_at g id).uuid) (plain_interval g id)) (interval_at g id).exprs)
    ) (interval_ids g (loaded_ids g m))
    ∙ sym (first_in-map (λ (i : Interval). first (faults_in allowed M t i)) (plain_interval g) (interval_ids g (loaded_ids g m)))
    ∙ sym (first_flat (faults_in allowed M t) (map (plain_interval g) (interval_ids g (loaded_ids g m))))
    ∙ ap (λ (is : List Interval). first (flat_map (faults_in allowed M t) is)) (sym (intervals_is g m))
