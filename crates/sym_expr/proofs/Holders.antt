-- The identifiers of a module's intervals and blocks are among those of the IR's nodes, each as often.
use Rattle.std.proofs.Common.{◌≡◌, ℕ, zero, suc, ◌+◌, ◌≤◌, true, false, List, [], ◌∷◌, ◌++◌, map, refl, sym, ap, ◌∙◌, arith, append_assoc}
use Rattle.std.specs.Prelude.{Contains}
use Rattle.std.specs.List.{AllByRecursion as Every, flat_map, list_any}
use Rattle.std.specs.Str.{bytes_eq}
use Rattle.std.proofs.lemmas.Bool.{or_parts, both_ways}
use Rattle.std.proofs.lemmas.List.{map-append}
use Rattle.gt_model.specs.declared.intervals.Block.{Block}
use Rattle.gt_model.specs.declared.intervals.Body.{Body}
use Rattle.gt_model.specs.declared.intervals.Body.TheVariants as bodies
use Rattle.gt_model.specs.declared.intervals.Interval.{Interval}
use Rattle.gt_model.specs.declared.ir.Ir.{Ir}
use Rattle.gt_model.specs.declared.modules.Module.{Module}
use Rattle.gt_model.specs.declared.modules.Section.{Section}
use Rattle.gt_model.specs.declared.symbols.Symbol.{Symbol}
use Rattle.gt_model.specs.Linked.{is_bare, is_bare_body}
use Rattle.gt_model.specs.Nodes.{Node, node, AModule, AProxy, ASymbol, ids, body_nodes, block_nodes, interval_nodes, section_nodes, module_nodes, nodes_from, nodes}
use Rattle.gt_model.specs.References.{Reference, module_references, references_from}
use Rattle.sym_expr.specs.Modules.{id_of, id_of_body, is_loaded, loaded_sections, loaded_intervals, in_order}
use Rattle.sym_expr.proofs.Counts.{one, times, times_append, times_filter}
use Rattle.sym_expr.proofs.Lists.{flat_flat}
use Rattle.sym_expr.proofs.Orders.{times_in_order}

-- ---- a module's part of the IR

-- the nodes and the references of a module are a part of those of all modules, under one ordinal
pub record IsPart (m : Module) (ms : List Module) (j : ℕ) : Type 0 where
  pub ordinal : ℕ
  pub before : List Node
  pub after : List Node
  pub nodes_are : nodes_from j ms ≡ before ++ (module_nodes ordinal m ++ after)
  pub earlier : List Reference
  pub later : List Reference
  pub references_are : references_from j ms ≡ earlier ++ (module_references ordinal m ++ later)

pub part_of : (m : Module) (ms : List Module) (j : ℕ) → Contains ms m → IsPart m ms j
part_of m [] j h = absurd (omega (arith, h.1))
part_of m (x ∷ ms) j (zero, l, e) = record {
  ordinal = j;
  before = [];
  after = nodes_from (j + 1) ms;
  nodes_are = ap (λ y. module_nodes j y ++ nodes_from (j + 1) ms) e;
  earlier = [];
  later = references_from (j + 1) ms;
  references_are = ap (λ y. module_references j y ++ references_from (j + 1) ms) e;
}
part_of m (x ∷ ms) j (suc k, l, e) =
    let rest = part_of m ms (j + 1) (k, omega (arith, l), e) in
    record {
      ordinal = rest.ordinal;
      before = module_nodes j x ++ rest.before;
      after = rest.after;
      nodes_are = ap (λ y. module_nodes j x ++ y) rest.nodes_are ∙ sym (append_assoc (module_nodes j x) rest.before (module_nodes rest.ordinal m ++ rest.after));
      earlier = module_references j x ++ rest.earlier;
      later = rest.later;
      references_are = ap (λ y. module_references j x ++ y) rest.references_are ∙ sym (append_assoc (module_references j x) rest.earlier (module_references rest.ordinal m ++ rest.later));
    }

-- ---- how often nodes have an identifier

abbrev pub held : List ℕ → List Node → ℕ
held id ns = times id (ids ns)

held_append : (id : List ℕ) (xs ys : List Node) → held id (xs ++ ys) ≡ held id xs + held id ys
held_append id xs ys = ap (times id) (map-append (λ (n : Node). n.id) xs ys) ∙ times_append id (ids xs) (ids ys)

held_flat : {X : Type 0} (id : List ℕ) (f : X → List (List ℕ)) (g : X → List Node) (xs : List X) → Every (λ x. times id (f x) ≤ held id (g x)) xs → times id (flat_map f xs) ≤ held id (flat_map g xs)
held_flat id f g [] h = omega arith
held_flat id f g (x ∷ xs) h =
    let rest = held_flat id f g xs h.1 in
    let a = times_append id (f x) (flat_map f xs) in
    let b = held_append id (g x) (flat_map g xs) in
    let here = h.0 in
    omega (arith, rest, a, b, here)

behind_held : (id : List ℕ) (xs ys : List Node) → held id ys ≤ held id (xs ++ ys)
behind_held id xs ys =
    let all = held_append id xs ys in
    omega (arith, all)

-- the nodes of the sections come last in a module
in_module : (id : List ℕ) (k : ℕ) (m : Module) → held id (flat_map (section_nodes k) m.sections) ≤ held id (module_nodes k m)
in_module id k m = behind_held id (node m.uuid AModule ∷ map (λ proxy. node proxy (AProxy k)) m.proxies ++ map (λ (s : Symbol). node s.uuid (ASymbol k)) m.symbols) (flat_map (section_nodes k) m.sections)

in_nodes : (id : List ℕ) (ir : Ir) (m : Module) (part : IsPart m ir.modules 0) → held id (module_nodes part.ordinal m) ≤ held id (nodes ir)
in_nodes id ir m part =
    let all : held id (nodes_from 0 ir.modules) ≡ held id (part.before ++ (module_nodes part.ordinal m ++ part.after)) = ap (held id) part.nodes_are in
    let a = held_append id part.before (module_nodes part.ordinal m ++ part.after) in
    let b = held_append id (module_nodes part.ordinal m) part.after in
    omega (arith, all, a, b)

-- ---- intervals and blocks

abbrev pub interval_id_of : Interval → List (List ℕ)
interval_id_of i = i.uuid ∷ []

abbrev pub block_ids_of : Interval → List (List ℕ)
block_ids_of i = map id_of (in_order i.blocks)

-- no block is bare
abbrev pub HasNoBare : Interval → Type 0
HasNoBare i = list_any is_bare i.blocks ≡ false

pub interval_held : (id : List ℕ) (k : ℕ) (i : Interval) → times id (interval_id_of i) ≤ held id (interval_nodes k i)
interval_held id k i = omega arith

body_held : (id : List ℕ) (k : ℕ) (b : Body) → is_bare_body b ≡ false → one (bytes_eq id (id_of_body b)) ≤ held id (body_nodes k b)
body_held id k bodies.Bare h = absurd (both_ways true h refl)
body_held id k (bodies.Code uuid size decode_mode) h = omega arith
body_held id k (bodies.Data uuid size) h = omega arith

blocks_held : (id : List ℕ) (k : ℕ) (bs : List Block) → list_any is_bare bs ≡ false → times id (map id_of bs) ≤ held id (flat_map (block_nodes k) bs)
blocks_held id k [] h = omega arith
blocks_held id k (b ∷ bs) h =
    let both = or_parts (is_bare b) (list_any is_bare bs) h in
    let here = body_held id k b.body both.0 in
    let rest = blocks_held id k bs both.1 in
    let all = held_append id (block_nodes k b) (flat_map (block_nodes k) bs) in
    omega (arith, here, rest, all)

pub block_held : (id : List ℕ) (k : ℕ) (i : Interval) → HasNoBare i → times id (block_ids_of i) ≤ held id (interval_nodes k i)
block_held id k i h =
    let all = blocks_held id k i.blocks h in
    let same = times_in_order id id_of i.blocks in
    omega (arith, all, same)

-- what the loaded intervals have of an identifier, the nodes of the IR have
section_held : (id : List ℕ) (k : ℕ) (f : Interval → List (List ℕ)) (s : Section) → Every (λ i. times id (f i) ≤ held id (interval_nodes k i)) s.intervals → times id (flat_map f s.intervals) ≤ held id (section_nodes k s)
section_held id k f s h =
    let all = held_flat id f (interval_nodes k) s.intervals h in
    omega (arith, all)

sections_held : (id : List ℕ) (k : ℕ) (f : Interval → List (List ℕ)) (ss : List Section) → Every (λ (s : Section). Every (λ i. times id (f i) ≤ held id (interval_nodes k i)) s.intervals) ss
    → Every (λ (s : Section). times id (flat_map f s.intervals) ≤ held id (section_nodes k s)) ss
sections_held id k f [] h = tt
sections_held id k f (s ∷ ss) h = (section_held id k f s h.0, sections_held id k f ss h.1)

pub loaded_held : (id : List ℕ) (f : Interval → List (List ℕ)) (ir : Ir) (m : Module) (part : IsPart m ir.modules 0)
    → Every (λ (s : Section). Every (λ i. times id (f i) ≤ held id (interval_nodes part.ordinal i)) s.intervals) m.sections → times id (flat_map f (loaded_intervals m)) ≤ held id (nodes ir)
loaded_held id f ir m part h =
    let same : times id (flat_map f (loaded_intervals m)) ≡ times id (flat_map (λ (s : Section). flat_map f s.intervals) (loaded_sections m)) = ap (times id) (flat_flat (λ (s : Section). s.intervals) f (loaded_sections m)) in
    let kept = times_filter id (λ (s : Section). flat_map f s.intervals) is_loaded m.sections in
    let all = held_flat id (λ (s : Section). flat_map f s.intervals) (section_nodes part.ordinal) m.sections (sections_held id part.ordinal f m.sections h) in
    let inside = in_module id part.ordinal m in
    let last = in_nodes id ir m part in
    omega (arith, same, kept, all, inside, last)
