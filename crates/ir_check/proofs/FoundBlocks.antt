-- Loaded blocks, intervals and symbols by identifier, and what they are in the module.
use Rattle.std.proofs.Common.{◌≡◌, ℕ, pos, Bool, true, false, cond, ◌||◌, List, [], ◌∷◌, ◌++◌, map, Option, None, Some, refl, sym, ap, ◌∙◌}
use Rattle.std.specs.Prelude.{find, is_some, unwrap_or}
use Rattle.std.specs.List.{flat_map, list_any}
use Rattle.std.specs.Option.{option_map, option_map_or, option_or, option_and_then}
use Rattle.std.specs.Str.{bytes_eq}
use Rattle.std.proofs.lemmas.Slice.Eq.{bytes_eq-Decides}
use Rattle.gt_model.specs.declared.intervals.Block.{Block}
use Rattle.gt_model.specs.declared.intervals.Interval.{Interval}
use Rattle.gt_model.specs.declared.symbols.Payload.{Payload}
use Rattle.gt_model.specs.declared.symbols.Payload.TheVariants as payloads
use Rattle.gt_model.specs.declared.symbols.Symbol.{Symbol}
use Rattle.ir_check.specs.AtGraph.{loaded_ids, interval_ids}
use Rattle.ir_check.specs.Faults.{interval_size, size_of_code, size_named}
use Rattle.ir_check.specs.Keyed.{value_at}
use Rattle.ir_check.specs.Part.{spans_of, code_size_of, size_in}
use Rattle.ir_check.specs.PartFaults.{is_entered_in}
use Rattle.ir_check.specs.Sites.{site, site_entry, sites_in, size_entry, aim_at, payload_aim, aim_entry, aim_in}
use Rattle.ir_check.specs.Spans.{span_of}
use Rattle.ir_check.specs.declared.sites.Site.{Site}
use Rattle.ir_check.specs.declared.span.Span.{Span}
use Rattle.ir_check.proofs.Bridge.{intervals_is}
use Rattle.ir_check.proofs.FirstLists.{find-map}
use Rattle.node_arena.specs.Arenas.{Arenas, module_at, symbol_at}
use Rattle.node_arena.specs.Plain.{plain_module, plain_interval, plain_symbol, plain_payload}
use Rattle.node_arena.specs.declared.ids.IntervalId.{IntervalId}
use Rattle.node_arena.specs.declared.ids.ModuleId.{ModuleId}
use Rattle.node_arena.specs.declared.ids.SymbolId.{SymbolId}
use Rattle.sym_expr.specs.declared.aim.Aim.{Aim}
use Rattle.sym_expr.specs.declared.aim.Aim.TheVariants as aims
use Rattle.sym_expr.specs.declared.target.Target.{Target}
use Rattle.sym_expr.specs.declared.target.Target.TheVariants as targets
use Rattle.sym_expr.specs.Expressions.{interval_id, aim_of, symbol_aim}
use Rattle.sym_expr.specs.Linkable.{have_block, is_entered}
use Rattle.sym_expr.specs.Modules.{has_id, id_of, size_of, is_code, block_of, blocks_of, loaded_intervals}
use Rattle.sym_expr.specs.Patches.{no_patches}
use Rattle.sym_expr.specs.Targets.{block_target, payload_target, symbol_target, end_point, start_of, plus_offset}

-- ---- lists

or_cond : {A : Type 0} (b : Bool) (x : A) (o q : Option A) → cond b (Some x) (option_or o q) ≡ option_or (cond b (Some x) o) q
or_cond true x o q = refl
or_cond false x o q = refl

find-append : {A : Type 0} (p : A → Bool) (xs ys : List A) → find p (xs ++ ys) ≡ option_or (find p xs) (find p ys)
find-append p [] ys = refl
find-append {A} p (x ∷ xs) ys = ap (λ (o : Option A). cond (p x) (Some x) o) (find-append p xs ys) ∙ or_cond (p x) x (find p xs) (find p ys)

some_cond : {A : Type 0} (b : Bool) (x : A) (o : Option A) (r : Bool) → is_some o ≡ r → is_some (cond b (Some x) o) ≡ (b || r)
some_cond true x o r e = refl
some_cond false x o r e = e

pub any_found : {A : Type 0} (p : A → Bool) (xs : List A) → is_some (find p xs) ≡ list_any p xs
any_found p [] = refl
any_found p (x ∷ xs) = some_cond (p x) x (find p xs) (list_any p xs) (any_found p xs)

holds_cond : {A : Type 0} (p : A → Bool) (x y : A) (b : Bool) (o : Option A) → p x ≡ b → (o ≡ Some y → p y ≡ true) → cond b (Some x) o ≡ Some y → p y ≡ true
holds_cond {A} p x y true o e rest found = ap p (sym (ap (λ (q : Option A). unwrap_or q x) found)) ∙ e
holds_cond p x y false o e rest found = rest found

pub found_holds : {A : Type 0} (p : A → Bool) (xs : List A) (y : A) → find p xs ≡ Some y → p y ≡ true
found_holds p [] y found = absurd cc
found_holds p (x ∷ xs) y found = holds_cond p x y (p x) (find p xs) refl (found_holds p xs y) found

map_of_or : {A B : Type 0} (f : A → B) (o q : Option A) → option_map f (option_or o q) ≡ option_or (option_map f o) (option_map f q)
map_of_or f None q = refl
map_of_or f (Some x) q = refl

-- ---- blocks

abbrev entries_of : Interval → List (List ℕ × Site)
entries_of i = map (site_entry i.uuid) i.blocks

flat_same : {X Y A : Type 0} (f : Y → List A) (h : X → Y) (k : X → List A) → ((x : X) → f (h x) ≡ k x) → (xs : List X) → flat_map f (map h xs) ≡ flat_map k xs
flat_same f h k same [] = refl
flat_same {X} {Y} {A} f h k same (x ∷ xs) = ap (λ (ys : List A). ys ++ flat_map f (map h xs)) (same x) ∙ ap (λ (ys : List A). k x ++ ys) (flat_same f h k same xs)

here : (id uuid : List ℕ) (blocks : List Block) → value_at bytes_eq id (map (site_entry uuid) blocks) ≡ option_map (site uuid) (block_of id blocks)
here id uuid blocks = find-map (λ (e : List ℕ × Site). e.1) (λ (e : List ℕ × Site). bytes_eq e.0 id) (site_entry uuid) blocks

value_at-append : (id : List ℕ) (xs ys : List (List ℕ × Site)) → value_at bytes_eq id (xs ++ ys) ≡ option_or (value_at bytes_eq id xs) (value_at bytes_eq id ys)
value_at-append id xs ys =
    ap (option_map (λ (e : List ℕ × Site). e.1)) (find-append (λ (e : List ℕ × Site). bytes_eq e.0 id) xs ys)
    ∙ map_of_or (λ (e : List ℕ × Site). e.1) (find (λ (e : List ℕ × Site). bytes_eq e.0 id) xs) (find (λ (e : List ℕ × Site). bytes_eq e.0 id) ys)

id_cond : (i : Interval) (is : List Interval) (id : List ℕ) (b : Bool) → list_any (has_id id) i.blocks ≡ b → interval_id (i ∷ is) id ≡ cond b i.uuid (interval_id is id)
id_cond i is id true e = ap (λ (t : Bool). unwrap_or (option_map (λ (i : Interval). i.uuid) (cond t (Some i) (find (λ (i : Interval). list_any (has_id id) i.blocks) is))) []) e
id_cond i is id false e = ap (λ (t : Bool). unwrap_or (option_map (λ (i : Interval). i.uuid) (cond t (Some i) (find (λ (i : Interval). list_any (has_id id) i.blocks) is))) []) e

one_more : (i : Interval) (is : List Interval) (id : List ℕ) (o : Option Block) → block_of id i.blocks ≡ o
    → option_or (option_map (site i.uuid) o) (option_map (site (interval_id is id)) (block_of id (blocks_of is))) ≡ option_map (site (interval_id (i ∷ is) id)) (option_or o (block_of id (blocks_of is)))
one_more i is id None e =
    ap (λ (u : List ℕ). option_map (site u) (block_of id (blocks_of is))) (sym (id_cond i is id false (sym (any_found (has_id id) i.blocks) ∙ ap is_some e)))
one_more i is id (Some b) e = ap (λ (u : List ℕ). Some (site u b)) (sym (id_cond i is id true (sym (any_found (has_id id) i.blocks) ∙ ap is_some e)))

pub found_site : (intervals : List Interval) (id : List ℕ) → value_at bytes_eq id (flat_map entries_of intervals) ≡ option_map (site (interval_id intervals id)) (block_of id (blocks_of intervals))
found_site [] id = refl
found_site (i ∷ is) id =
    value_at-append id (entries_of i) (flat_map entries_of is)
    ∙ ap (λ (o : Option Site). option_or o (value_at bytes_eq id (flat_map entries_of is))) (here id i.uuid i.blocks)
    ∙ ap (option_or (option_map (site i.uuid) (block_of id i.blocks))) (found_site is id)
    ∙ one_more i is id (block_of id i.blocks) refl
    ∙ sym (ap (option_map (site (interval_id (i ∷ is) id))) (find-append (has_id id) i.blocks (blocks_of is)))

-- the loaded blocks of a module
abbrev pub found_in : Arenas → ModuleId → List ℕ → Option Site
found_in g m id = value_at bytes_eq id (flat_map sites_in (spans_of g m))

abbrev pub loaded : Arenas → ModuleId → List Interval
loaded g m = loaded_intervals (plain_module g (module_at g m))

pub found_is : (g : Arenas) (m : ModuleId) (id : List ℕ) → found_in g m id ≡ option_map (site (interval_id (loaded g m) id)) (block_of id (blocks_of (loaded g m)))
found_is g m id =
    let ids = interval_ids g (loaded_ids g m) in
    ap (value_at bytes_eq id) (flat_same sites_in (span_of g) (λ (k : IntervalId). entries_of (plain_interval g k)) (λ k. refl) ids ∙ sym (flat_same entries_of (plain_interval g) (λ (k : IntervalId). entries_of (plain_interval g k)) (λ k. refl) ids))
    ∙ ap (λ (is : List Interval). value_at bytes_eq id (flat_map entries_of is)) (sym (intervals_is g m))
    ∙ found_site (loaded g m) id

some_of_map : {A B : Type 0} (f : A → B) (o : Option A) → is_some (option_map f o) ≡ is_some o
some_of_map f None = refl
some_of_map f (Some x) = refl

-- ---- the entry

entered_by : (g : Arenas) (m : ModuleId) (entry : Option (List ℕ)) → is_entered_in (found_in g m) entry ≡ option_map_or (have_block (loaded g m)) entry false
entered_by g m None = refl
entered_by g m (Some id) = ap is_some (found_is g m id) ∙ some_of_map (site (interval_id (loaded g m) id)) (block_of id (blocks_of (loaded g m))) ∙ any_found (has_id id) (blocks_of (loaded g m))

pub entered_bridge : (g : Arenas) (m : ModuleId) → is_entered_in (found_in g m) (plain_module g (module_at g m)).entry ≡ is_entered (plain_module g (module_at g m))
entered_bridge g m = entered_by g m (plain_module g (module_at g m)).entry

-- ---- sizes

abbrev pub size_found : Arenas → ModuleId → List ℕ → Option ℕ
size_found g m id = value_at bytes_eq id (map size_entry (spans_of g m))

interval_size_is : (g : Arenas) (m : ModuleId) (id : List ℕ) → size_found g m id ≡ interval_size (loaded g m) id
interval_size_is g m id =
    let ids = interval_ids g (loaded_ids g m) in
    find-map (λ (e : List ℕ × ℕ). e.1) (λ (e : List ℕ × ℕ). bytes_eq e.0 id) size_entry (spans_of g m)
    ∙ find-map (λ (s : Span). s.size) (λ (s : Span). bytes_eq s.uuid id) (span_of g) ids
    ∙ sym (find-map (λ (i : Interval). i.size) (λ (i : Interval). bytes_eq i.uuid id) (plain_interval g) ids)
    ∙ ap (λ (is : List Interval). interval_size is id) (sym (intervals_is g m))

code_size_is : (uuid : List ℕ) (o : Option Block) → option_and_then code_size_of (option_map (site uuid) o) ≡ option_and_then size_of_code o
code_size_is uuid None = refl
code_size_is uuid (Some b) = refl

pub size_named_is : (g : Arenas) (m : ModuleId) (id : List ℕ) → size_in (size_found g m) (found_in g m) id ≡ size_named (loaded g m) id
size_named_is g m id =
    ap (λ (o : Option ℕ). option_or o (option_and_then code_size_of (found_in g m id))) (interval_size_is g m id)
    ∙ ap (option_or (interval_size (loaded g m) id)) (ap (option_and_then code_size_of) (found_is g m id) ∙ code_size_is (interval_id (loaded g m) id) (block_of id (blocks_of (loaded g m))))

-- ---- what symbols name

aim_of_block : (intervals : List Interval) (id : List ℕ) (at_end : Bool) (b : Block) (code : Bool) → id_of b ≡ id
    → cond code (aims.Code (interval_id intervals id)) aims.Data ≡ aim_of intervals (cond code (targets.Code (cond at_end (end_point no_patches (id_of b) (size_of b)) (start_of (id_of b)))) (targets.Address (id_of b) (plus_offset (cond at_end (size_of b) 0) (pos 0))))
aim_of_block intervals id true b true e = ap (λ (u : List ℕ). aims.Code (interval_id intervals u)) (sym e)
aim_of_block intervals id false b true e = ap (λ (u : List ℕ). aims.Code (interval_id intervals u)) (sym e)
aim_of_block intervals id at_end b false e = refl

aim_of_found : (intervals : List Interval) (id : List ℕ) (s : Symbol) (o : Option Block) → block_of id (blocks_of intervals) ≡ o
    → option_map_or aim_at (option_map (site (interval_id intervals id)) o) aims.Undefined ≡ aim_of intervals (option_map_or (block_target no_patches s.at_end (pos 0)) o (targets.Undefined s.uuid))
aim_of_found intervals id s None e = refl
aim_of_found intervals id s (Some b) e = aim_of_block intervals id s.at_end b (is_code b) ((bytes_eq-Decides (id_of b) id).0 (found_holds (has_id id) (blocks_of intervals) b e))

payload_aim_is : (g : Arenas) (m : ModuleId) (s : Symbol) (p : Payload) → payload_aim (found_in g m) p ≡ aim_of (loaded g m) (payload_target no_patches (blocks_of (loaded g m)) s (pos 0) p)
payload_aim_is g m s payloads.Nothing = refl
payload_aim_is g m s (payloads.Value value) = refl
payload_aim_is g m s (payloads.Referent id) =
    ap (λ (o : Option Site). option_map_or aim_at o aims.Undefined) (found_is g m id) ∙ aim_of_found (loaded g m) id s (block_of id (blocks_of (loaded g m))) refl

aim_or : (intervals : List Interval) (f : Symbol → Target) (id : List ℕ) (o : Option Symbol) → unwrap_or (option_map (λ s. aim_of intervals (f s)) o) aims.Undefined ≡ aim_of intervals (option_map_or f o (targets.Undefined id))
aim_or intervals f id None = refl
aim_or intervals f id (Some s) = refl

map_same : {A B : Type 0} (f h : A → B) → ((x : A) → f x ≡ h x) → (o : Option A) → option_map f o ≡ option_map h o
map_same f h same None = refl
map_same f h same (Some x) = ap Some (same x)

pub aim_is : (g : Arenas) (m : ModuleId) (id : List ℕ) → aim_in (λ k. value_at bytes_eq k (map (aim_entry g (found_in g m)) (module_at g m).symbols)) id ≡ symbol_aim (plain_module g (module_at g m)) id
aim_is g m id =
    let ids = (module_at g m).symbols in
    let target = λ (s : Symbol). symbol_target (plain_module g (module_at g m)) no_patches s (pos 0) in
    ap (λ (o : Option Aim). unwrap_or o aims.Undefined) (
    find-map (λ (e : List ℕ × Aim). e.1) (λ (e : List ℕ × Aim). bytes_eq e.0 id) (aim_entry g (found_in g m)) ids
    ∙ map_same _ _ (λ (k : SymbolId). payload_aim_is g m (plain_symbol g k) (plain_payload g (symbol_at g k).payload)) (find (λ (k : SymbolId). bytes_eq (symbol_at g k).uuid id) ids)
    ∙ sym (find-map (λ (s : Symbol). aim_of (loaded g m) (target s)) (λ (s : Symbol). bytes_eq s.uuid id) (plain_symbol g) ids)
    )
    ∙ aim_or (loaded g m) target id (find (λ (s : Symbol). bytes_eq s.uuid id) (map (plain_symbol g) ids))
