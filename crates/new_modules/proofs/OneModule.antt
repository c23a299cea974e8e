-- One module of an IR, which has an identifier of its own.
use Rattle.std.proofs.Common.{◌≡◌, ◌≢◌, ℕ, zero, suc, ◌+◌, ◌<◌, ◌≤◌, Bool, true, false, cond, nat_lt, List, [], ◌∷◌, ◌++◌, length, map, None, Some, refl, sym, ap, subst, ◌∙◌, arith}
use Rattle.std.specs.Prelude.{AllPairs, not, position, slice_get, slice_set, if◌then◌else◌}
use Rattle.std.specs.List.{AllByRecursion, flat_map, prefix_len, position_or_len}
use Rattle.std.specs.Str.{bytes_eq}
use Rattle.std.proofs.lemmas.Bool.{cond-true, cond-false, lt-ltb}
use Rattle.std.proofs.lemmas.List.{length-append, length-map, map-append}
use Rattle.std.proofs.lemmas.Slice.Eq.{bytes_eq-Decides}
use Rattle.gt_model.specs.declared.intervals.Interval.{Interval}
use Rattle.gt_model.specs.declared.ir.Ir.{Ir}
use Rattle.gt_model.specs.declared.modules.Module.{Module}
use Rattle.gt_model.specs.declared.modules.Section.{Section}
use Rattle.gt_model.specs.declared.symbols.Symbol.{Symbol}
use Rattle.gt_model.specs.Linked.{linked}
use Rattle.gt_model.specs.Nodes.{Node, AProxy, ASymbol, ids, node, nodes, nodes_from, section_nodes}
use Rattle.new_modules.proofs.Apart.{first_apart, rest_apart}
use Rattle.rewrite.specs.Rewritten.{rewritten, rewritten_module}
use Rattle.sym_expr.specs.declared.patches.PatchTable.{PatchTable}
use Rattle.sym_expr.specs.declared.program.Stretch.{Stretch}
use Rattle.sym_expr.specs.Modules.{loaded_intervals, loaded_sections}
use Rattle.sym_expr.specs.Program.{function_stretch, has_entry, program, section_stretches, stretch}
use Rattle.sym_expr.specs.Tables.{Tables}

abbrev uuid_of : Module → List ℕ
uuid_of m = m.uuid

-- ---- modules have identifiers of their own

abbrev Differ : List ℕ → List (List ℕ) → Type 0
Differ id others = AllByRecursion (λ (other : List ℕ). id ≢ other) others

-- each differs from those behind it
abbrev IsApart : List (List ℕ) → Type 0
IsApart [] = Unit {0}
IsApart (id ∷ rest) = Differ id rest × IsApart rest

apart_one_by_one : (xs : List (List ℕ)) → AllPairs (λ (a b : List ℕ). a ≢ b) xs → IsApart xs
apart_one_by_one [] apart = tt
apart_one_by_one (x ∷ xs) apart =
    (first_apart (λ (a b : List ℕ). a ≢ b) x xs apart, apart_one_by_one xs (rest_apart (λ (a b : List ℕ). a ≢ b) x xs apart))

differ_back : (id : List ℕ) (xs ys : List (List ℕ)) → Differ id (xs ++ ys) → Differ id ys
differ_back id [] ys h = h
differ_back id (x ∷ xs) ys h = differ_back id xs ys h.1

apart_back : (xs ys : List (List ℕ)) → IsApart (xs ++ ys) → IsApart ys
apart_back [] ys h = h
apart_back (x ∷ xs) ys h = apart_back xs ys h.1

-- the nodes of a module but itself
abbrev inside : ℕ → Module → List Node
inside k x = map (λ id. node id (AProxy k)) x.proxies ++ map (λ (s : Symbol). node s.uuid (ASymbol k)) x.symbols ++ flat_map (section_nodes k) x.sections

abbrev id_of_node : Node → List ℕ
id_of_node n = n.id

split : (xs ys : List Node) → ids (xs ++ ys) ≡ ids xs ++ ids ys
split xs ys = map-append id_of_node xs ys

uuids_differ : (id : List ℕ) (k : ℕ) (ms : List Module) → Differ id (ids (nodes_from k ms)) → Differ id (map uuid_of ms)
uuids_differ id k [] h = tt
uuids_differ id k (x ∷ xs) h =
    (h.0, uuids_differ id (k + 1) xs (differ_back id (ids (inside k x)) (ids (nodes_from (k + 1) xs)) (subst (Differ id) (split (inside k x) (nodes_from (k + 1) xs)) h.1)))

uuids_apart : (k : ℕ) (ms : List Module) → IsApart (ids (nodes_from k ms)) → IsApart (map uuid_of ms)
uuids_apart k [] h = tt
uuids_apart k (x ∷ xs) h =
    let rest : List Node = nodes_from (k + 1) xs in (
      uuids_differ x.uuid (k + 1) xs (differ_back x.uuid (ids (inside k x)) (ids rest) (subst (Differ x.uuid) (split (inside k x) rest) h.0)),
      uuids_apart (k + 1) xs (apart_back (ids (inside k x)) (ids rest) (subst IsApart (split (inside k x) rest) h.1)),
    )

modules_apart : (ir : Ir) → linked ir → IsApart (map uuid_of ir.modules)
modules_apart ir h = uuids_apart 0 ir.modules (apart_one_by_one (ids (nodes ir)) h.distinct).1

-- ---- the one of an identifier

same_id : (a : List ℕ) → bytes_eq a a ≡ true
same_id a = (bytes_eq-Decides a a).1 refl

other_id : (a b : List ℕ) → a ≢ b → bytes_eq a b ≡ false
other_id a b apart = at (bytes_eq a b) refl
  where
    at : (x : Bool) → bytes_eq a b ≡ x → bytes_eq a b ≡ false
    at true h = absurd (apart ((bytes_eq-Decides a b).0 h))
    at false h = h

other_back : (a b : List ℕ) → a ≢ b → bytes_eq b a ≡ false
other_back a b apart = other_id b a (λ same. apart (sym same))

others_stay : (f : Module → Module) (id : List ℕ) (ms : List Module) → Differ id (map uuid_of ms) → map (λ (m : Module). if bytes_eq m.uuid id then f m else m) ms ≡ ms
others_stay f id [] h = refl
others_stay f id (x ∷ xs) h =
    ap (λ (y : Module). y ∷ map (λ (m : Module). if bytes_eq m.uuid id then f m else m) xs) (cond-false (bytes_eq x.uuid id) (f x) x (other_back id x.uuid h.0))
    ∙ ap (λ (l : List Module). x ∷ l) (others_stay f id xs h.1)

differs_there : (id : List ℕ) (ms : List Module) (k : ℕ) (m : Module) → Differ id (map uuid_of ms) → slice_get ms k ≡ Some m → id ≢ m.uuid
differs_there id [] k m h at = absurd (cc)
differs_there id (x ∷ xs) zero m h at = let same : x ≡ m = cc in subst (λ (y : Module). id ≢ y.uuid) same h.0
differs_there id (x ∷ xs) (suc k) m h at = differs_there id xs k m h.1 at

one_set : (f : Module → Module) (ms : List Module) (k : ℕ) (m : Module) → IsApart (map uuid_of ms) → slice_get ms k ≡ Some m
    → slice_set ms k (f m) ≡ map (λ (x : Module). if bytes_eq x.uuid m.uuid then f x else x) ms
one_set f [] k m h at = absurd (cc)
one_set f (x ∷ xs) zero m h at =
    let same : x ≡ m = cc in
    let P : Module → Type 0 = λ (y : Module). (f y ∷ xs) ≡ map (λ (z : Module). if bytes_eq z.uuid y.uuid then f z else z) (x ∷ xs) in
    subst P same
    (sym
    (ap (λ (y : Module). y ∷ map (λ (z : Module). if bytes_eq z.uuid x.uuid then f z else z) xs) (cond-true (bytes_eq x.uuid x.uuid) (f x) x (same_id x.uuid))
    ∙ ap (λ (l : List Module). f x ∷ l) (others_stay f x.uuid xs h.0)))
one_set f (x ∷ xs) (suc k) m h at =
    ap (λ (l : List Module). x ∷ l) (one_set f xs k m h.1 at)
    ∙ ap (λ (y : Module). y ∷ map (λ (z : Module). if bytes_eq z.uuid m.uuid then f z else z) xs)
    (sym (cond-false (bytes_eq x.uuid m.uuid) (f x) x (other_id x.uuid m.uuid (differs_there x.uuid xs k m h.0 at))))

-- the place of the one of an identifier
one_place : (ms : List Module) (k : ℕ) (m : Module) → IsApart (map uuid_of ms) → slice_get ms k ≡ Some m
    → (prefix_len (λ (x : Module). not (bytes_eq x.uuid m.uuid)) ms ≡ k) × (k < length ms)
one_place [] k m h at = absurd (cc)
one_place (x ∷ xs) zero m h at =
    let same : m ≡ x = cc in
    let here : bytes_eq x.uuid m.uuid ≡ true = ap (λ (y : Module). bytes_eq x.uuid y.uuid) same ∙ same_id x.uuid in
    (cond-false (not (bytes_eq x.uuid m.uuid)) (1 + prefix_len (λ (y : Module). not (bytes_eq y.uuid m.uuid)) xs) 0 (ap not here), omega arith)
one_place (x ∷ xs) (suc k) m h at =
    let rest = one_place xs k m h.1 at in
    let other = other_id x.uuid m.uuid (differs_there x.uuid xs k m h.0 at) in
    let next : 1 + prefix_len (λ (y : Module). not (bytes_eq y.uuid m.uuid)) xs ≡ suc k = omega (arith, rest.0) in
    (cond-true (not (bytes_eq x.uuid m.uuid)) (1 + prefix_len (λ (y : Module). not (bytes_eq y.uuid m.uuid)) xs) 0 (ap not other) ∙ next, omega (arith, rest.1))

pub placed : (ir : Ir) (k : ℕ) (m : Module) → linked ir → slice_get ir.modules k ≡ Some m → position (λ (x : Module). bytes_eq x.uuid m.uuid) ir.modules ≡ Some k
placed ir k m links at =
    let there = one_place ir.modules k m (modules_apart ir links) at in
    let first : ℕ = position_or_len (λ (x : Module). bytes_eq x.uuid m.uuid) ir.modules in
    cond-true (nat_lt first (length ir.modules)) (Some first) None (lt-ltb first (length ir.modules) (omega (arith, there.0, there.1)))
    ∙ ap (λ (n : ℕ). Some n) there.0

pub module_set : (ir : Ir) (k : ℕ) (m : Module) (f : Module → Module) → linked ir → slice_get ir.modules k ≡ Some m
    → slice_set ir.modules k (f m) ≡ map (λ (x : Module). if bytes_eq x.uuid m.uuid then f x else x) ir.modules
module_set ir k m f links at = one_set f ir.modules k m (modules_apart ir links) at

pub whole_set : (ir : Ir) (k : ℕ) (m : Module) (t : Tables) (p : PatchTable) → linked ir → slice_get ir.modules k ≡ Some m
    → record ir { modules = slice_set ir.modules k (rewritten_module m t p) } ≡ rewritten ir m.uuid t p
whole_set ir k m t p links at =
    ap (λ (ms : List Module). record ir { modules = ms }) (module_set ir k m (λ (x : Module). rewritten_module x t p) links at)

-- ---- there are no more intervals than stretches

fewer : (m : Module) (t : Tables) (p : PatchTable) (ss : List Section) → length (flat_map (λ (s : Section). s.intervals) ss) ≤ length (flat_map (section_stretches m t p) ss)
fewer m t p [] = omega arith
fewer m t p (s ∷ ss) =
    let functions : List Stretch = if has_entry m s then map (function_stretch m p) p.functions else [] in
    let left = length-append s.intervals (flat_map (λ (x : Section). x.intervals) ss) in
    let right = length-append (section_stretches m t p s) (flat_map (section_stretches m t p) ss) in
    let own = length-append (map (stretch m t p) s.intervals) functions in
    let same = length-map s.intervals (stretch m t p) in
    let rest = fewer m t p ss in
    omega (arith, left, right, own, same, rest)

pub intervals_few : (m : Module) (t : Tables) (p : PatchTable) → length (loaded_intervals m) ≤ length (program m t p).stretches
intervals_few m t p = fewer m t p (loaded_sections m)
