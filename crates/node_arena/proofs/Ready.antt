-- A graph whose nodes are those of a linked IR: the index finds them, and each reference lands.
use Rattle.std.proofs.Common.{◌≡◌, ℕ, List, map, Option, Some, None, refl, sym, ap, ◌∙◌, subst}
use Rattle.std.specs.Prelude.{◌≢◌, AllPairs, Contains}
use Rattle.std.specs.List.{AllByRecursion}
use Rattle.std.specs.Map.{lookup}
use Rattle.std.specs.Option.{option_map}
use Rattle.std.specs.Str.{bytes_eq}
use Rattle.indexmap.specs.IndexMap.{get}
use Rattle.gt_model.specs.declared.edges.Cfg.{Cfg}
use Rattle.gt_model.specs.declared.ir.Ir.{Ir}
use Rattle.gt_model.specs.declared.symbols.Payload.{Payload}
use Rattle.gt_model.specs.Linked.{linked, kind_at}
use Rattle.gt_model.specs.Nodes.{nodes}
use Rattle.gt_model.specs.References.{Reference, references}
use Rattle.node_arena.specs.Arenas.{Arenas}
use Rattle.node_arena.specs.Linking.{Found, IsEnd, HasEnds, cfg_edges, cfg_vertices}
use Rattle.node_arena.specs.Refs.{all_refs, ref_kind}
use Rattle.node_arena.specs.Sound.{Finds, ref_id}
use Rattle.node_arena.specs.Stored.{Index, entry_of}
use Rattle.node_arena.proofs.RefsLand.{Landed, landed, end-lands, source-reference, target-reference, vertex-reference}
use Rattle.node_arena.proofs.Members.{In-All}
use Rattle.node_arena.proofs.RefMembers.{finds-nodes}
use Rattle.node_arena.proofs.RefNodes.{Formed, formed-nodes, formed-ids, kind-found}

pub record Ready (ir : Ir) (ps : List Payload) (g : Arenas) (found : Found) : Type 0 where
  pub formed : Formed ir ps g
  pub finds : Finds g found
  pub lands : (r : Reference) → Contains (references ir) r → Landed g found r

pub ready : (ir : Ir) (ps : List Payload) (g : Arenas) (index : Index) → Formed ir ps g → index.entries ≡ map (entry_of g) (all_refs g) → linked ir → Ready ir ps g (get bytes_eq index)
ready ir ps g index f entries l =
    let apart : AllPairs (λ a b. a ≢ b) (map (ref_id g) (all_refs g)) = subst (AllPairs (λ a b. a ≢ b)) (sym (formed-ids ir ps g f)) l.distinct in
    let finds : Finds g (get bytes_eq index) = subst (λ es. Finds g (λ id. lookup (bytes_eq id) es)) (sym entries) (finds-nodes g f.tree apart) in
    let kinds : (id : List ℕ) → kind_at (nodes ir) id ≡ option_map (ref_kind g) (get bytes_eq index id) = λ id.
    ap (λ ns. kind_at ns id) (sym (formed-nodes ir ps g f)) ∙ kind-found g (all_refs g) id ∙ ap (λ es. option_map (ref_kind g) (lookup (bytes_eq id) es)) (sym entries) in
    record { formed = f; finds = finds; lands = λ r m. landed ir g (get bytes_eq index) r finds kinds l.lands m }

module _ (ir : Ir) (ps : List Payload) (g : Arenas) (found : Found) (r : Ready ir ps g found) where
  edges-of : (o : Option Cfg) → ir.cfg ≡ o → AllByRecursion (HasEnds found) (cfg_edges o)
  edges-of None e = tt
  edges-of (Some c) e = In-All (HasEnds found) c.edges (λ x k. (
    (end-lands g found ir.uuid x.source (r.lands _ (source-reference ir c e x k))).0,
    (end-lands g found ir.uuid x.target (r.lands _ (target-reference ir c e x k))).0,
  ))

  vertices-of : (o : Option Cfg) → ir.cfg ≡ o → AllByRecursion (λ id. IsEnd (found id)) (cfg_vertices o)
  vertices-of None e = tt
  vertices-of (Some c) e = In-All (λ id. IsEnd (found id)) c.vertices (λ id k. (end-lands g found ir.uuid id (r.lands _ (vertex-reference ir c e id k))).0)

  pub edges-ready : AllByRecursion (HasEnds found) (cfg_edges ir.cfg)
  edges-ready = edges-of ir.cfg refl

  pub vertices-ready : AllByRecursion (λ id. IsEnd (found id)) (cfg_vertices ir.cfg)
  vertices-ready = vertices-of ir.cfg refl
