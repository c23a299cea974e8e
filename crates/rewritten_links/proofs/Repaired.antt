-- A repaired IR is linked and in order where the rewritten one is.
use Rattle.std.proofs.Common.{◌≡◌, ◌≢◌, ℕ, ◌+◌, inl, inr, Bool, true, false, List, [], ◌∷◌, ◌++◌, map, Option, Some, None, refl, sym, ap, subst, ◌∙◌}
use Rattle.std.specs.Prelude.{AllPairs, if◌then◌else◌}
use Rattle.std.specs.List.{AllByRecursion as Every, flat_map, filter_map}
use Rattle.std.specs.Cmp.Lexicographic.{slice_cmp}
use Rattle.std.specs.List.Sorted.{IsStrictlySortedBy}
use Rattle.std.specs.Option.{option_map_or, option_to_list}
use Rattle.std.specs.Ordering.{nat_cmp}
use Rattle.std.specs.Str.{bytes_eq}
use Rattle.aux_tables.specs.ModuleTables.{shape_of_table, tables_of}
use Rattle.aux_types.specs.Shape.{Shape}
use Rattle.edge_repair.specs.Edges.{made_cfg, moved_edge, new_edges, new_vertices, repaired_cfg}
use Rattle.edge_repair.specs.Repaired.{repaired, repaired_module, repaired_table, value_bytes}
use Rattle.gt_model.specs.declared.edges.Cfg.{Cfg}
use Rattle.gt_model.specs.declared.edges.Edge.{Edge}
use Rattle.gt_model.specs.declared.intervals.Interval.{Interval}
use Rattle.gt_model.specs.declared.ir.Ir.{Ir}
use Rattle.gt_model.specs.declared.modules.Module.{Module}
use Rattle.gt_model.specs.declared.tables.Aux.{Aux}
use Rattle.gt_model.specs.Linked.{Lands, linked}
use Rattle.gt_model.specs.Nodes.{Node, TheIr, ids, module_nodes, node, nodes, nodes_from}
use Rattle.gt_model.specs.Ordered.{ordered, ordered_module}
use Rattle.gt_model.specs.References.{Reference, Vertex, cfg_references, edge_references, module_references, reference, references_from}
use Rattle.rewrite.specs.Rewritten.{rewritten, rewritten_module}
use Rattle.sym_expr.specs.declared.patches.PatchTable.{PatchTable}
use Rattle.sym_expr.specs.Linkable.{formed}
use Rattle.sym_expr.specs.Program.{program}
use Rattle.sym_expr.specs.TableOk.{table_ok}
use Rattle.taken_ids.specs.Faults.{id_fault}
use Rattle.rewritten_links.proofs.Bare.{IsWhole, section_intervals}
use Rattle.rewritten_links.proofs.Kept.{AreWhole}
use Rattle.rewritten_links.proofs.Lands.{every_append, every_back, every_flat, every_front, every_one}
use Rattle.rewritten_links.proofs.Lists.{In, in_either, out_filter_map}
use Rattle.rewritten_links.proofs.Refers.{IsThere}
use Rattle.rewritten_links.proofs.Vertices.{Ends, IsEdge, new_edge, new_vertex, old_edge}
use Rattle.rewritten_links.proofs.Whole.{changed, stays_linked, there_of}

-- ---- nodes, intervals and the references of modules are those of the rewritten IR

abbrev mended : Module → PatchTable → Module → Module
mended m p x = if bytes_eq x.uuid m.uuid then repaired_module x (tables_of m) p else x

either_nodes : (j : ℕ) (m : Module) (p : PatchTable) (x : Module) (b : Bool) → module_nodes j (if b then repaired_module x (tables_of m) p else x) ≡ module_nodes j (if b then rewritten_module x (tables_of m) p else x)
either_nodes j m p x true = refl
either_nodes j m p x false = refl

same_nodes : (j : ℕ) (m : Module) (p : PatchTable) (ms : List Module) → nodes_from j (map (mended m p) ms) ≡ nodes_from j (map (changed m p) ms)
same_nodes j m p [] = refl
same_nodes j m p (x ∷ ms) =
    ap (λ l. l ++ nodes_from (j + 1) (map (mended m p) ms)) (either_nodes j m p x (bytes_eq x.uuid m.uuid))
    ∙ ap (λ l. module_nodes j (changed m p x) ++ l) (same_nodes (j + 1) m p ms)

either_references : (j : ℕ) (m : Module) (p : PatchTable) (x : Module) (b : Bool) → module_references j (if b then repaired_module x (tables_of m) p else x) ≡ module_references j (if b then rewritten_module x (tables_of m) p else x)
either_references j m p x true = refl
either_references j m p x false = refl

same_references : (j : ℕ) (m : Module) (p : PatchTable) (ms : List Module) → references_from j (map (mended m p) ms) ≡ references_from j (map (changed m p) ms)
same_references j m p [] = refl
same_references j m p (x ∷ ms) =
    ap (λ l. l ++ references_from (j + 1) (map (mended m p) ms)) (either_references j m p x (bytes_eq x.uuid m.uuid))
    ∙ ap (λ l. module_references j (changed m p x) ++ l) (same_references (j + 1) m p ms)

either_intervals : (m : Module) (p : PatchTable) (x : Module) (b : Bool) → section_intervals (if b then repaired_module x (tables_of m) p else x) ≡ section_intervals (if b then rewritten_module x (tables_of m) p else x)
either_intervals m p x true = refl
either_intervals m p x false = refl

same_intervals : (m : Module) (p : PatchTable) (ms : List Module) → flat_map section_intervals (map (mended m p) ms) ≡ flat_map section_intervals (map (changed m p) ms)
same_intervals m p [] = refl
same_intervals m p (x ∷ ms) =
    ap (λ l. l ++ flat_map section_intervals (map (mended m p) ms)) (either_intervals m p x (bytes_eq x.uuid m.uuid))
    ∙ ap (λ l. section_intervals (changed m p x) ++ l) (same_intervals m p ms)

-- ---- edges and vertices

every_mapped : {X Y : Type 0} (f : X → Y) (P : Y → Type 0) (xs : List X) → ((x : X) → In x xs → P (f x)) → Every P (map f xs)
every_mapped f P [] h = tt
every_mapped f P (x ∷ xs) h = (h x (inl refl), every_mapped f P xs (λ y k. h y (inr k)))

one_mapped : {X Y : Type 0} (f : X → Y) (P : Y → Type 0) (xs : List X) (x : X) → Every P (map f xs) → In x xs → P (f x)
one_mapped f P [] x h k = absurd k
one_mapped f P (y ∷ xs) x h (inl e) = subst (λ z. P (f z)) (sym e) h.0
one_mapped f P (y ∷ xs) x h (inr k) = one_mapped f P xs x h.1 k

module _ (ir : Ir) (m : Module) (p : PatchTable) (k : ℕ) (new : List Node) (h : IsThere ir m p k new) where
  cfg_lands : (edges : List Edge) (vertices : List (List ℕ)) → ((e : Edge) → In e edges → IsEdge ir m p k new h e) → ((v : List ℕ) → In v vertices → Ends ir m p k new h v)
      → Every (Lands new) (flat_map (edge_references ir.uuid) edges ++ map (reference ir.uuid Vertex) vertices)
  cfg_lands edges vertices good ends =
      every_append (Lands new) (flat_map (edge_references ir.uuid) edges) (map (reference ir.uuid Vertex) vertices)
      (every_flat (edge_references ir.uuid) (Lands new) edges (λ e l. let both = good e l in (both.0 ir.uuid, (both.1 ir.uuid, tt))))
      (every_mapped (reference ir.uuid Vertex) (Lands new) vertices (λ v l. ends v l ir.uuid))

  made_lands : (edges : List Edge) (vertices : List (List ℕ)) → ((e : Edge) → In e edges → IsEdge ir m p k new h e) → ((v : List ℕ) → In v vertices → Ends ir m p k new h v)
      → Every (Lands new) (flat_map (cfg_references ir.uuid) (option_to_list (made_cfg edges vertices)))
  made_lands [] vertices good ends = tt
  made_lands (e ∷ es) vertices good ends = every_append (Lands new) (cfg_references ir.uuid (record { edges = e ∷ es; vertices = vertices })) [] (cfg_lands (e ∷ es) vertices good ends) tt

  flow_lands : (cfg : Option Cfg) → Every (Lands (nodes ir)) (flat_map (cfg_references ir.uuid) (option_to_list cfg)) → Every (Lands new) (flat_map (cfg_references ir.uuid) (option_to_list (repaired_cfg m (tables_of m) p cfg)))
  flow_lands None old = made_lands (new_edges m (tables_of m) p) (new_vertices m (tables_of m) p) (new_edge ir m p k new h) (new_vertex ir m p k new h)
  flow_lands (Some c) old =
      let all = every_front (Lands (nodes ir)) (cfg_references ir.uuid c) [] old in
      let edges = flat_map (edge_references ir.uuid) c.edges in
      let vertices = map (reference ir.uuid Vertex) c.vertices in
      let moved = filter_map (moved_edge m (program m (tables_of m) p)) c.edges in
      let more = new_edges m (tables_of m) p in
      every_append (Lands new) (cfg_references ir.uuid (record { edges = moved ++ more; vertices = c.vertices ++ new_vertices m (tables_of m) p })) []
      (cfg_lands (moved ++ more) (c.vertices ++ new_vertices m (tables_of m) p)
      (λ x l.
      elim (in_either x moved more l) [
        | inl n ↦
            let e = out_filter_map (moved_edge m (program m (tables_of m) p)) x c.edges n in
            let both = every_one (edge_references ir.uuid) (Lands (nodes ir)) c.edges e.0 (every_front (Lands (nodes ir)) edges vertices all) e.1 in
            old_edge ir m p k new h e.0 x (λ from. both.0) (λ from. both.1.0) e.2
        | inr n ↦ new_edge ir m p k new h x n
      ])
      (λ v l.
      elim (in_either v c.vertices (new_vertices m (tables_of m) p) l) [
        | inl n ↦ (λ from. h.kept (reference from Vertex v) (one_mapped (reference ir.uuid Vertex) (Lands (nodes ir)) c.vertices v (every_back (Lands (nodes ir)) edges vertices all) n))
        | inr n ↦ new_vertex ir m p k new h v n
      ]))
      tt

pub mended_linked : AreWhole → (ir : Ir) (m : Module) (p : PatchTable) → formed ir m (tables_of m) → table_ok m p → id_fault ir m p ≡ None → linked (repaired ir m (tables_of m) p)
mended_linked whole ir m p h accepted no_fault =
    let links = stays_linked whole ir m p h accepted no_fault in
    let new = nodes (rewritten ir m.uuid (tables_of m) p) in
    let there = there_of whole ir m p h accepted no_fault in
    let same : nodes (repaired ir m (tables_of m) p) ≡ new = ap (λ l. node ir.uuid TheIr ∷ l) (same_nodes 0 m p ir.modules) in
    let flows = flat_map (cfg_references ir.uuid) (option_to_list ir.cfg) in
    let after = flat_map (cfg_references ir.uuid) (option_to_list (repaired_cfg m (tables_of m) p ir.cfg)) in
    let own = every_front (Lands new) (references_from 0 (map (changed m p) ir.modules)) flows links.lands in
    let old = every_back (Lands (nodes ir)) (references_from 0 ir.modules) flows h.linked.links.lands in
    record {
      distinct = subst (λ (ns : List Node). AllPairs (λ a b. a ≢ b) (ids ns)) (sym same) links.distinct;
      no_bare = subst (λ (is : List Interval). Every IsWhole is) (sym (same_intervals m p ir.modules)) links.no_bare;
      lands =
          subst (λ (ns : List Node). Every (Lands ns) (references_from 0 (map (mended m p) ir.modules) ++ after)) (sym same)
          (every_append (Lands new) (references_from 0 (map (mended m p) ir.modules)) after
          (subst (λ (rs : List Reference). Every (Lands new) rs) (sym (same_references 0 m p ir.modules)) own)
          (flow_lands ir m p there.0 new there.1 ir.cfg old));
    }

-- ---- order

either_name : (m : Module) (p : PatchTable) (x : Module) (a : Aux) (o : Option Shape) → (option_map_or (λ (shape : Shape). record a { bytes = value_bytes x (tables_of m) p a shape }) o a).name ≡ a.name
either_name m p x a None = refl
either_name m p x a (Some shape) = refl

same_names : (m : Module) (p : PatchTable) (x : Module) (tables : List Aux) → map (λ (a : Aux). a.name) (map (repaired_table x (tables_of m) p) tables) ≡ map (λ (a : Aux). a.name) tables
same_names m p x [] = refl
same_names m p x (a ∷ tables) =
    ap (λ n. n ∷ map (λ (b : Aux). b.name) (map (repaired_table x (tables_of m) p) tables)) (either_name m p x a (shape_of_table a))
    ∙ ap (λ l. a.name ∷ l) (same_names m p x tables)

either_ordered : (m : Module) (p : PatchTable) (x : Module) (b : Bool) → ordered_module (if b then rewritten_module x (tables_of m) p else x) → ordered_module (if b then repaired_module x (tables_of m) p else x)
either_ordered m p x true h = record { sections = h.sections; aux = subst (IsStrictlySortedBy (slice_cmp nat_cmp)) (sym (same_names m p x x.aux)) h.aux }
either_ordered m p x false h = h

all_ordered : (m : Module) (p : PatchTable) (ms : List Module) → Every ordered_module (map (changed m p) ms) → Every ordered_module (map (mended m p) ms)
all_ordered m p [] h = tt
all_ordered m p (x ∷ ms) h = (either_ordered m p x (bytes_eq x.uuid m.uuid) h.0, all_ordered m p ms h.1)

pub mended_ordered : (ir : Ir) (m : Module) (p : PatchTable) → ordered (rewritten ir m.uuid (tables_of m) p) → ordered (repaired ir m (tables_of m) p)
mended_ordered ir m p h = record { modules = all_ordered m p ir.modules h.modules; aux = h.aux }
