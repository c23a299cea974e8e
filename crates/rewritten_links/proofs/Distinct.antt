-- The identifiers of a rewritten module: each stands as often as before, and as often as it is derived.
use Rattle.std.proofs.Common.{◌≡◌, ℕ, suc, ◌+◌, ◌*◌, ◌≤◌, Bool, true, false, List, [], ◌∷◌, ◌++◌, length, map, inl, inr, Option, Some, None, refl, ap, ◌∙◌, arith}
use Rattle.std.specs.Prelude.{filter, if◌then◌else◌}
use Rattle.std.specs.List.{cons_option, flat_map, filter_map, list_any}
use Rattle.std.specs.Option.{option_map}
use Rattle.std.specs.Str.{bytes_eq}
use Rattle.std.proofs.lemmas.Bool.{cases_Bool, false_from_ne_true}
use Rattle.std.proofs.lemmas.List.{map-append}
use Rattle.std.proofs.lemmas.List.Concat.{flat_map-append}
use Rattle.block_parts.specs.declared.parts.Part.{Part}
use Rattle.block_parts.specs.Parts.{parts}
use Rattle.gt_model.specs.declared.intervals.Block.{Block}
use Rattle.gt_model.specs.declared.intervals.Body.{Body}
use Rattle.gt_model.specs.declared.intervals.Body.TheVariants as bodies
use Rattle.gt_model.specs.declared.intervals.Interval.{Interval}
use Rattle.gt_model.specs.declared.modules.Module.{Module}
use Rattle.gt_model.specs.declared.modules.Section.{Section}
use Rattle.gt_model.specs.declared.symbols.Payload.{Payload}
use Rattle.gt_model.specs.declared.symbols.Symbol.{Symbol}
use Rattle.rewrite.specs.Blocks.{new_block, part_block}
use Rattle.rewrite.specs.Functions.{blocks_from, function_interval}
use Rattle.rewrite.specs.Identifiers.{new_symbol_id, part_id}
use Rattle.rewrite.specs.Offsets.{new_start}
use Rattle.rewrite.specs.Rewritten.{has_words, new_interval, new_intervals, new_section, rewritten_module, stretched}
use Rattle.rewrite.specs.Symbols.{end_payload, function_symbols, moved_symbol, name_symbol, names_of, new_symbols}
use Rattle.sym_expr.specs.declared.patches.Function.{Function}
use Rattle.sym_expr.specs.declared.patches.PatchTable.{PatchTable}
use Rattle.sym_expr.specs.declared.patches.PatchWord.{PatchWord}
use Rattle.sym_expr.specs.declared.program.Program.{Program}
use Rattle.sym_expr.specs.declared.program.Stretch.{Stretch}
use Rattle.sym_expr.specs.Derived.{derived, function_text, interval_text}
use Rattle.sym_expr.specs.Modules.{is_loaded}
use Rattle.sym_expr.specs.Patches.{FunPlace, function_blocks, name_in}
use Rattle.sym_expr.specs.Points.{code_blocks}
use Rattle.sym_expr.specs.Program.{code_block, entry_of, has_entry, program, stretch}
use Rattle.sym_expr.specs.Tables.{Tables}
use Rattle.sym_expr.specs.Targets.{function_block_id}
use Rattle.taken_ids.specs.Identifiers.{block_ids as derived_blocks, function_ids, ids_among, labels, part_ids, symbol_id as derived_symbol}
use Rattle.taken_ids.specs.NodeIds.{block_ids, interval_ids, module_ids, section_ids, symbol_id}
use Rattle.rewritten_links.proofs.Apart.{Apart, apart_back, apart_both}
use Rattle.rewritten_links.proofs.Counts.{one, times, times_append}
use Rattle.rewritten_links.proofs.Later.{later_derived, later_in, later_in_section, later_of}
use Rattle.rewritten_links.proofs.Lists.{In, in_flat}
use Rattle.rewritten_links.proofs.Parts.{ids_of_parts}

-- ---- blocks and intervals

part_blocks : (m : Module) (block : List ℕ) (decode_mode start : ℕ) (qs : List Part) → flat_map block_ids (map (part_block m block decode_mode start) qs) ≡ map (part_id m block) qs
part_blocks m block decode_mode start [] = refl
part_blocks m block decode_mode start (q ∷ qs) = ap (λ l. part_id m block q ∷ l) (part_blocks m block decode_mode start qs)

body_less : (id : List ℕ) (m : Module) (p : PatchTable) (i : Interval) (s : Stretch) (offset : ℕ) (x : Body) → let b : Block = record { offset = offset; body = x } in times id (flat_map block_ids (new_block m p i s b)) ≤ times id (block_ids b) + times id (later_of m p i b)
body_less id m p i s offset bodies.Bare = omega arith
body_less id m p i s offset (bodies.Code uuid size decode_mode) =
    let b : Block = record { offset = offset; body = bodies.Code uuid size decode_mode } in
    let same = ap (times id) (part_blocks m uuid decode_mode (new_start s uuid) (parts (code_block m p i b)) ∙ ids_of_parts m (code_block m p i b)) in
    omega (arith, same)
body_less id m p i s offset (bodies.Data uuid size) = omega arith

blocks_less : (id : List ℕ) (m : Module) (p : PatchTable) (i : Interval) (s : Stretch) (bs : List Block) → times id (flat_map block_ids (flat_map (new_block m p i s) bs)) ≤ times id (flat_map block_ids bs) + times id (flat_map (later_of m p i) bs)
blocks_less id m p i s [] = omega arith
blocks_less id m p i s (b ∷ bs) =
    let here = body_less id m p i s b.offset b.body in
    let rest = blocks_less id m p i s bs in
    let x = ap (times id) (flat_map-append block_ids (new_block m p i s b) (flat_map (new_block m p i s) bs)) ∙ times_append id (flat_map block_ids (new_block m p i s b)) (flat_map block_ids (flat_map (new_block m p i s) bs)) in
    let y = times_append id (block_ids b) (flat_map block_ids bs) in
    let z = times_append id (later_of m p i b) (flat_map (later_of m p i) bs) in
    omega (arith, here, rest, x, y, z)

either_less : (id : List ℕ) (m : Module) (p : PatchTable) (i : Interval) (s : Stretch) (x : Bool) → times id (interval_ids (if x then stretched m p i s else i)) ≤ times id (interval_ids i) + times id (later_in m p i)
either_less id m p i s true = let all = blocks_less id m p i s i.blocks in omega (arith, all)
either_less id m p i s false = omega arith

interval_less : (id : List ℕ) (m : Module) (t : Tables) (p : PatchTable) (i : Interval) → times id (interval_ids (new_interval m t p i)) ≤ times id (interval_ids i) + times id (later_in m p i)
interval_less id m t p i = either_less id m p i (stretch m t p i) (list_any (has_words p) i.blocks)

-- ---- functions

blocks_derived : (m : Module) (f : Function) (k at : ℕ) (bs : List (List PatchWord)) → flat_map block_ids (blocks_from m f k at bs) ≡ derived_blocks m.uuid f.name k (length bs)
blocks_derived m f k at [] = refl
blocks_derived m f k at (b ∷ bs) = ap (λ l. function_block_id m f k ∷ l) (blocks_derived m f (suc k) (at + 4 * length b) bs)

abbrev placed_ids : Module → Function → List (List ℕ)
placed_ids m f = interval_ids (function_interval m f)

abbrev named_symbols : Module → Function → List (List ℕ)
named_symbols m f = map (new_symbol_id m) (names_of f)

function_less : (id : List ℕ) (m : Module) (f : Function) → times id (placed_ids m f) + times id (named_symbols m f) ≤ times id (function_ids m.uuid f)
function_less id m f =
    let interval = derived m.uuid (interval_text f.name) in
    let blocks = derived_blocks m.uuid f.name 0 (length (function_blocks f)) in
    let symbols = derived_symbol m.uuid f.name ∷ map (derived_symbol m.uuid) (labels f) in
    let itself : List (List ℕ) = derived m.uuid (function_text f.name) ∷ [] in
    let same : times id (placed_ids m f) ≡ times id (interval ∷ blocks) = ap (λ l. times id (interval ∷ l)) (blocks_derived m f 0 0 (function_blocks f)) in
    let all = times_append id ((interval ∷ blocks) ++ symbols) itself in
    let both = times_append id (interval ∷ blocks) symbols in
    omega (arith, same, all, both)

functions_less : (id : List ℕ) (m : Module) (fs : List Function) → times id (flat_map (placed_ids m) fs) + times id (flat_map (named_symbols m) fs) ≤ times id (flat_map (function_ids m.uuid) fs)
functions_less id m [] = omega arith
functions_less id m (f ∷ fs) =
    let here = function_less id m f in
    let rest = functions_less id m fs in
    let a = times_append id (placed_ids m f) (flat_map (placed_ids m) fs) in
    let b = times_append id (named_symbols m f) (flat_map (named_symbols m) fs) in
    let c = times_append id (function_ids m.uuid f) (flat_map (function_ids m.uuid) fs) in
    omega (arith, here, rest, a, b, c)

placed_of_map : (m : Module) (fs : List Function) → flat_map interval_ids (map (function_interval m) fs) ≡ flat_map (placed_ids m) fs
placed_of_map m [] = refl
placed_of_map m (f ∷ fs) = ap (λ l. placed_ids m f ++ l) (placed_of_map m fs)

-- ---- symbols

moved_id : (s : Symbol) (y : Payload) (x : Bool) → symbol_id (if x then record s { payload = y } else s) ≡ symbol_id s
moved_id s y true = refl
moved_id s y false = refl

moved_ids : (m : Module) (g : Program) (ss : List Symbol) → map symbol_id (map (moved_symbol m g) ss) ≡ map symbol_id ss
moved_ids m g [] = refl
moved_ids m g (s ∷ ss) =
    ap (λ x. x ∷ map symbol_id (map (moved_symbol m g) ss)) (moved_id s (end_payload m g s.payload) s.at_end)
    ∙ ap (λ l. symbol_id s ∷ l) (moved_ids m g ss)

kept_less : (id : List ℕ) (m : Module) (f : Function) (name : List ℕ) (o : Option FunPlace) (ss : List Symbol) (ids : List (List ℕ)) → times id (map symbol_id ss) ≤ times id ids
    → times id (map symbol_id (cons_option (option_map (name_symbol m f name) o) ss)) ≤ one (bytes_eq id (new_symbol_id m name)) + times id ids
kept_less id m f name None ss ids h = omega (arith, h)
kept_less id m f name (Some place) ss ids h = omega (arith, h)

names_less : (id : List ℕ) (m : Module) (f : Function) (ns : List (List ℕ)) → times id (map symbol_id (filter_map (λ name. option_map (name_symbol m f name) (name_in name f)) ns)) ≤ times id (map (new_symbol_id m) ns)
names_less id m f [] = omega arith
names_less id m f (n ∷ ns) = kept_less id m f n (name_in n f) (filter_map (λ name. option_map (name_symbol m f name) (name_in name f)) ns) (map (new_symbol_id m) ns) (names_less id m f ns)

added_symbols : (id : List ℕ) (m : Module) (fs : List Function) → times id (map symbol_id (flat_map (function_symbols m) fs)) ≤ times id (flat_map (named_symbols m) fs)
added_symbols id m [] = omega arith
added_symbols id m (f ∷ fs) =
    let here = names_less id m f (names_of f) in
    let rest = added_symbols id m fs in
    let a = ap (times id) (map-append symbol_id (function_symbols m f) (flat_map (function_symbols m) fs)) ∙ times_append id (map symbol_id (function_symbols m f)) (map symbol_id (flat_map (function_symbols m) fs)) in
    let b = times_append id (named_symbols m f) (flat_map (named_symbols m) fs) in
    omega (arith, here, rest, a, b)

symbols_less : (id : List ℕ) (m : Module) (g : Program) (p : PatchTable) → times id (map symbol_id (new_symbols m g p)) ≤ times id (map symbol_id m.symbols) + times id (flat_map (named_symbols m) p.functions)
symbols_less id m g p =
    let both = ap (times id) (map-append symbol_id (map (moved_symbol m g) m.symbols) (flat_map (function_symbols m) p.functions)) ∙ times_append id (map symbol_id (map (moved_symbol m g) m.symbols)) (map symbol_id (flat_map (function_symbols m) p.functions)) in
    let old = ap (times id) (moved_ids m g m.symbols) in
    let new = added_symbols id m p.functions in
    omega (arith, both, old, new)

-- ---- sections

own_less : (id : List ℕ) (m : Module) (t : Tables) (p : PatchTable) (is : List Interval) → times id (flat_map interval_ids (map (new_interval m t p) is)) ≤ times id (flat_map interval_ids is) + times id (flat_map (later_in m p) is)
own_less id m t p [] = omega arith
own_less id m t p (i ∷ is) =
    let here = interval_less id m t p i in
    let rest = own_less id m t p is in
    let a = times_append id (interval_ids (new_interval m t p i)) (flat_map interval_ids (map (new_interval m t p) is)) in
    let b = times_append id (interval_ids i) (flat_map interval_ids is) in
    let c = times_append id (later_in m p i) (flat_map (later_in m p) is) in
    omega (arith, here, rest, a, b, c)

-- what functions add to the section that has the entry
abbrev added : Module → PatchTable → Bool → List (List ℕ)
added m p x = if x then flat_map (placed_ids m) p.functions else []

either_added : (id : List ℕ) (m : Module) (p : PatchTable) (x : Bool) → times id (flat_map interval_ids (if x then map (function_interval m) p.functions else [])) ≡ times id (added m p x)
either_added id m p true = ap (times id) (placed_of_map m p.functions)
either_added id m p false = refl

loaded_less : (id : List ℕ) (m : Module) (t : Tables) (p : PatchTable) (s : Section) → times id (flat_map interval_ids (new_intervals m t p s)) ≤ times id (flat_map interval_ids s.intervals) + times id (later_in_section m p s) + times id (added m p (has_entry m s))
loaded_less id m t p s =
    let extra : List Interval = if has_entry m s then map (function_interval m) p.functions else [] in
    let both = ap (times id) (flat_map-append interval_ids (map (new_interval m t p) s.intervals) extra) ∙ times_append id (flat_map interval_ids (map (new_interval m t p) s.intervals)) (flat_map interval_ids extra) in
    let own = own_less id m t p s.intervals in
    let new = either_added id m p (has_entry m s) in
    omega (arith, both, own, new)

either_section : (id : List ℕ) (m : Module) (t : Tables) (p : PatchTable) (s : Section) (x : Bool)
    → times id (section_ids (if x then record s { intervals = new_intervals m t p s } else s)) ≤ times id (section_ids s) + times id (if x then later_in_section m p s else []) + times id (added m p (has_entry m s))
either_section id m t p s true = let all = loaded_less id m t p s in omega (arith, all)
either_section id m t p s false = omega arith

kept_times : (id : List ℕ) (m : Module) (p : PatchTable) (s : Section) (x : Bool) (ss : List Section) → times id (flat_map (later_in_section m p) (if x then s ∷ ss else ss)) ≡ times id (if x then later_in_section m p s else []) + times id (flat_map (later_in_section m p) ss)
kept_times id m p s true ss = times_append id (later_in_section m p s) (flat_map (later_in_section m p) ss)
kept_times id m p s false ss = omega arith

abbrev later_loaded : Module → PatchTable → List Section → List (List ℕ)
later_loaded m p ss = flat_map (later_in_section m p) (filter is_loaded ss)

first_less : (id : List ℕ) (m : Module) (t : Tables) (p : PatchTable) (s : Section) (ss : List Section) (most : ℕ) → times id (flat_map section_ids (map (new_section m t p) ss)) ≤ times id (flat_map section_ids ss) + times id (later_loaded m p ss) + most
    → times id (flat_map section_ids (map (new_section m t p) (s ∷ ss))) ≤ times id (flat_map section_ids (s ∷ ss)) + times id (later_loaded m p (s ∷ ss)) + (times id (added m p (has_entry m s)) + most)
first_less id m t p s ss most rest =
    let here = either_section id m t p s (is_loaded s) in
    let a = times_append id (section_ids (new_section m t p s)) (flat_map section_ids (map (new_section m t p) ss)) in
    let b = times_append id (section_ids s) (flat_map section_ids ss) in
    let c = kept_times id m p s (is_loaded s) (filter is_loaded ss) in
    omega (arith, rest, here, a, b, c)

-- sections without the entry
others_less : (id : List ℕ) (m : Module) (t : Tables) (p : PatchTable) (ss : List Section) → ((s : Section) → In s ss → has_entry m s ≡ false) → times id (flat_map section_ids (map (new_section m t p) ss)) ≤ times id (flat_map section_ids ss) + times id (later_loaded m p ss) + 0
others_less id m t p [] h = omega arith
others_less id m t p (s ∷ ss) h =
    let all = first_less id m t p s ss 0 (others_less id m t p ss (λ r k. h r (inr k))) in
    let none = ap (λ x. times id (added m p x)) (h s (inl refl)) in
    omega (arith, all, none)

-- of which one at most has the entry
sections_less : (id : List ℕ) (m : Module) (t : Tables) (p : PatchTable) (ss : List Section) → Apart (flat_map section_ids ss) → ((s : Section) → In s ss → has_entry m s ≡ true → In (entry_of m) (section_ids s))
    → times id (flat_map section_ids (map (new_section m t p) ss)) ≤ times id (flat_map section_ids ss) + times id (later_loaded m p ss) + times id (flat_map (placed_ids m) p.functions)
sections_less id m t p [] apart h = omega arith
sections_less id m t p (s ∷ ss) apart h =
    elim (cases_Bool (has_entry m s)) [
      | inl e ↦
          let none = λ (r : Section) (k : In r ss). false_from_ne_true (has_entry m r) (λ d. apart_both (entry_of m) (section_ids s) (flat_map section_ids ss) apart (h s (inl refl) e) (in_flat section_ids r (entry_of m) ss k (h r (inr k) d))) in
          let all = first_less id m t p s ss 0 (others_less id m t p ss none) in
          let new = ap (λ x. times id (added m p x)) e in
          omega (arith, all, new)
      | inr e ↦
          let rest = sections_less id m t p ss (apart_back (section_ids s) (flat_map section_ids ss) apart) (λ r k. h r (inr k)) in
          let all = first_less id m t p s ss (times id (flat_map (placed_ids m) p.functions)) rest in
          let new = ap (λ x. times id (added m p x)) e in
          omega (arith, all, new)
    ]

-- ---- a module

module_times : (id uuid : List ℕ) (a b c : List (List ℕ)) → times id (uuid ∷ a ++ b ++ c) ≡ one (bytes_eq id uuid) + times id a + times id b + times id c
module_times id uuid a b c =
    let all = times_append id (a ++ b) c in
    let front = times_append id a b in
    omega (arith, all, front)

pub module_less : (id : List ℕ) (m : Module) (t : Tables) (p : PatchTable) → Apart (flat_map section_ids m.sections) → ((s : Section) → In s m.sections → has_entry m s ≡ true → In (entry_of m) (section_ids s))
    → times id (module_ids (rewritten_module m t p)) ≤ times id (module_ids m) + times id (ids_among m.uuid (program m t p) p)
module_less id m t p apart h =
    let new = rewritten_module m t p in
    let after = module_times id m.uuid m.proxies (map symbol_id new.symbols) (flat_map section_ids new.sections) in
    let before = module_times id m.uuid m.proxies (map symbol_id m.symbols) (flat_map section_ids m.sections) in
    let symbols = symbols_less id m (program m t p) p in
    let sections = sections_less id m t p m.sections apart h in
    let later = later_derived id m t p in
    let functions = functions_less id m p.functions in
    let all = times_append id (flat_map (part_ids m.uuid) (code_blocks (program m t p))) (flat_map (function_ids m.uuid) p.functions) in
    omega (arith, after, before, symbols, sections, later, functions, all)
