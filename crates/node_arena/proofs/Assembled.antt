-- The arena of a draft whose references were written holds, and its IR is the draft's.
use Rattle.std.proofs.Common.{◌≡◌, map, List, Result, Ok, Err, sym, ap, ◌∙◌}
use Rattle.std.specs.Prelude.{IfOk}
use Rattle.std.specs.List.{AllByRecursion}
use Rattle.std.specs.Str.{bytes_eq}
use Rattle.indexmap.specs.IndexMap.{get}
use Rattle.gt_model.specs.declared.ir.Ir.{Ir}
use Rattle.gt_model.specs.declared.symbols.Payload.{Payload}
use Rattle.gt_model.specs.Linked.{linked}
use Rattle.gt_model.specs.Ordered.{ordered}
use Rattle.node_arena.specs.Arenas.{Arenas}
use Rattle.node_arena.specs.declared.arena.Arena.{Arena}
use Rattle.node_arena.specs.Linking.{IsEnd, HasEnds, Linked, cfg_edges, cfg_vertices}
use Rattle.node_arena.specs.Placing.{Drafted}
use Rattle.node_arena.specs.Plain.{ir_of}
use Rattle.node_arena.specs.Refs.{all_refs}
use Rattle.node_arena.specs.Stored.{Index, arenas_of, entry_of, Holds}
use Rattle.node_arena.proofs.Checked.{formed-draft}
use Rattle.node_arena.proofs.Joined.{value-right, sound-right}
use Rattle.node_arena.proofs.Loose.{same-entries, same-drafted, same-tree}
use Rattle.node_arena.proofs.Ready.{Ready, ready, edges-ready, vertices-ready}
use Rattle.node_arena.proofs.RefNodes.{Formed}

module _ (ir : Ir) (ps : List Payload) (a : Arena) (index : Index) (d : Drafted ir ir.modules ps (arenas_of a))
    (entries : index.entries ≡ map (entry_of (arenas_of a)) (all_refs (arenas_of a))) (l : linked ir) where
  pub before : AllByRecursion (HasEnds (get bytes_eq index)) (cfg_edges ir.cfg) × AllByRecursion (λ id. IsEnd (get bytes_eq index id)) (cfg_vertices ir.cfg)
  before =
      let r = ready ir ps (arenas_of a) index (formed-draft ir ps a d) entries l in
      (edges-ready ir ps (arenas_of a) (get bytes_eq index) r, vertices-ready ir ps (arenas_of a) (get bytes_eq index) r)

  module _ (h : Arenas) (k : Linked (get bytes_eq index) ir ps (arenas_of a) h) where
    formed-after : Formed ir ps h
    formed-after = record {
      root = ap (λ (x : Arenas). x.uuid) k.same ∙ d.root;
      plain = same-drafted (arenas_of a) h k.same ps ∙ d.plain;
      tree = same-tree (arenas_of a) h k.same d.tree;
    }

    ready-after : Ready ir ps h (get bytes_eq index)
    ready-after = ready ir ps h index formed-after (entries ∙ sym (same-entries (arenas_of a) h k.same)) l

    value-after : ir_of h ≡ ir
    value-after =
        value-right ir ps h (get bytes_eq index) ready-after k.payloads k.entries k.edges k.live k.vertices (ap (λ (x : Arenas). x.has_cfg) k.same ∙ d.has_cfg)
        (ap (λ (x : Arenas). x.version) k.same ∙ d.version) (ap (λ (x : Arenas). x.aux) k.same ∙ d.aux)

  module _ (o : ordered ir) where
    pub holds-joined : {E : Type 0} (result : Result Arena E) → IfOk result (λ b. Linked (get bytes_eq index) ir ps (arenas_of a) (arenas_of b)) → IfOk result (λ b. Holds b index)
    holds-joined (Err e) h = tt
    holds-joined (Ok b) k = record {
      sound = sound-right ir ps (arenas_of b) (get bytes_eq index) (ready-after (arenas_of b) k) k.payloads k.entries k.edges k.live k.vertices
          (ap (λ (x : Arenas). x.has_cfg) k.same ∙ d.has_cfg) l o (ap (λ (x : Arenas). x.aux) k.same ∙ d.aux);
      finds = (ready-after (arenas_of b) k).finds;
    }

    pub value-joined : {E : Type 0} (result : Result Arena E) → IfOk result (λ b. Linked (get bytes_eq index) ir ps (arenas_of a) (arenas_of b)) → IfOk result (λ b. ir_of (arenas_of b) ≡ ir)
    value-joined (Err e) h = tt
    value-joined (Ok b) k = value-after (arenas_of b) k
