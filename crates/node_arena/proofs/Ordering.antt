-- A graph stands with the blocks of an interval in another order.
use Rattle.std.proofs.Common.{◌≡◌, ◌≢◌, ℕ, ◌+◌, ◌<◌, ◌≤◌, ◌⊎◌, List, [], ◌++◌, length, get_or, set, map, Option, refl, sym, ap, ◌∙◌, subst, inl, inr, arith}
use Rattle.std.specs.Prelude.{All, AllPairs, Contains}
use Rattle.std.proofs.lemmas.List.{length-map, get_or-map, append-nil}
use Rattle.std.proofs.lemmas.List.Elements.{All-set, All-get_or, Contains-get_or}
use Rattle.std.proofs.Math.Seq.{map-set_same}
use Rattle.gt_model.specs.Ordered.{ordered_exprs}
use Rattle.node_arena.specs.declared.ids.BlockId.{BlockId}
use Rattle.node_arena.specs.declared.ids.IntervalId.{IntervalId}
use Rattle.node_arena.specs.declared.ids.NodeRef.{NodeRef}
use Rattle.node_arena.specs.declared.nodes.BlockNode.{BlockNode}
use Rattle.node_arena.specs.declared.nodes.IntervalNode.{IntervalNode}
use Rattle.node_arena.specs.Arenas.{Arenas, no_interval, interval_at}
use Rattle.node_arena.specs.Changes.{Reordered, with_interval}
use Rattle.node_arena.specs.Sound.{Children, NamesSymbolsOf, module_of_section, block_places}
use Rattle.node_arena.proofs.Added.{as_was}
use Rattle.node_arena.proofs.Alike.{Stands, Children-same}
use Rattle.node_arena.proofs.Grown.{Joins, tree_joined}
use Rattle.node_arena.proofs.Kept.{Extends, module_core, section_core, interval_core, block_core, symbol_core, kept_solid, kept_exprs, kept_referents, names_found, finds_kept}
use Rattle.node_arena.proofs.Landed.{flow_same, lands_same}
use Rattle.node_arena.proofs.Lists.{In-map}

no_id : BlockId
no_id = record { index = 0 }

module _ (old new : List BlockId) (r : Reordered old new) where
  place_at : (ids : List BlockId) (k d : ℕ) → k < length ids → get_or (block_places ids) k d ≡ (get_or ids k no_id).index
  place_at ids k d l = get_or-map (λ (x : BlockId). x.index) ids k no_id d l

  named_by : (ids : List BlockId) (c : ℕ) → Contains (block_places ids) c → Contains ids (record { index = c })
  named_by ids c h =
      let l : h.0 < length ids = rw length-map at h.1 in
      let same : (get_or ids h.0 no_id).index ≡ c = sym (place_at ids h.0 c l) ∙ h.2 in
      subst (λ (x : BlockId). Contains ids x) (ap (λ (k : ℕ). record { index = k }) same) (Contains-get_or ids h.0 no_id l)

  pub joins_reordered : (first : ℕ) → Joins (block_places old) (block_places new) first 0
  joins_reordered first = record {
    from = λ c h. inl (In-map (λ (x : BlockId). x.index) old (record { index = c }) (r.from (record { index = c }) (named_by new c h)));
    kept = λ c h. In-map (λ (x : BlockId). x.index) new (record { index = c }) (r.kept (record { index = c }) (named_by old c h));
    added = λ c l u. absurd (omega arith);
    apart = λ i j d l m e.
        let n : j < length new = rw length-map at m in
        let same : (get_or new i no_id).index ≡ (get_or new j no_id).index = sym (place_at new i d (omega arith)) ∙ e ∙ place_at new j d n in
        let one : get_or new i no_id ≡ get_or new j no_id = ap (λ (k : ℕ). record { index = k }) same in
        r.apart i j no_id l n one;
  }

module _ (g : Arenas) (found : List ℕ → Option NodeRef) (s : Stands g found) where
  pub stands_ordered : (id : IntervalId) (n : IntervalNode) (blocks : List BlockId) → id.index < length g.intervals → n ≡ interval_at g id
      → Reordered (interval_at g id).blocks blocks → Stands (with_interval g id (record n { blocks = blocks })) found
  stands_ordered id n blocks within at r =
      let k = id.index in
      let m : IntervalNode = record n { blocks = blocks } in
      let h = with_interval g id m in
      let t = s.sound.tree in
      let kids = λ (x : IntervalNode). block_places x.blocks in
      let cores : map interval_core (set g.intervals k m) ≡ map interval_core g.intervals = map-set_same interval_core g.intervals k m no_interval (ap interval_core at) in
      let there : Extends g h = record {
        uuid = refl;
        modules = refl;
        sections = refl;
        intervals = ([], cores ∙ sym (append-nil (map interval_core g.intervals)));
        blocks = as_was (map block_core g.blocks);
        symbols = as_was (map symbol_core g.symbols);
        proxies = refl;
      } in
      let back : Extends h g = record {
        uuid = refl;
        modules = refl;
        sections = refl;
        intervals = ([], sym cores ∙ sym (append-nil (map interval_core (set g.intervals k m))));
        blocks = as_was (map block_core g.blocks);
        symbols = as_was (map symbol_core g.symbols);
        proxies = refl;
      } in
      let finds = finds_kept g h found there back s.finds in
      let names = All-get_or (λ (x : IntervalNode). NamesSymbolsOf g (module_of_section g x.section) x.exprs) g.intervals k no_interval within s.sound.lands.symbols in
      let exprs = All-set (λ (x : IntervalNode). NamesSymbolsOf g (module_of_section g x.section) x.exprs) g.intervals k m
      (subst (λ (x : IntervalNode). NamesSymbolsOf g (module_of_section g x.section) x.exprs) (sym at) names) s.sound.lands.symbols in
      let order = All-get_or (λ (x : IntervalNode). ordered_exprs x.exprs) g.intervals k no_interval within s.sound.sorted.exprs in
      let blocks_tree = tree_joined kids (λ (x : BlockNode). x.interval.index) g.intervals no_interval g.blocks [] k 0 m t.blocks within
      (joins_reordered (interval_at g id).blocks blocks r (length g.blocks)) refl in
      record {
        sound = record {
          tree = record {
            sections = t.sections;
            symbols = t.symbols;
            proxies = t.proxies;
            intervals = Children-same _ _ _ _ refl (map-set_same (λ (x : IntervalNode). x.section.index) g.intervals k m no_interval (ap (λ (x : IntervalNode). x.section.index) at)) t.intervals;
            blocks = subst (λ (bs : List BlockNode). Children (map kids (set g.intervals k m)) (map (λ (x : BlockNode). x.interval.index) bs)) (append-nil g.blocks) blocks_tree;
          };
          solid = λ i l. kept_solid g h there (record { index = i }) l ∙ s.sound.solid i l;
          names = names_found h found finds;
          lands = lands_same g h there t (record { edges = refl; live = refl; vertices = refl; has_cfg = refl }) s.sound.lands
              (kept_referents g h there t g.symbols s.sound.lands.referents) (kept_exprs g h there (set g.intervals k m) exprs);
          flow = flow_same g h (record { edges = refl; live = refl; vertices = refl; has_cfg = refl }) s.sound.flow;
          sorted = record {
            exprs = All-set (λ (x : IntervalNode). ordered_exprs x.exprs) g.intervals k m (subst (λ (x : IntervalNode). ordered_exprs x.exprs) (sym at) order) s.sound.sorted.exprs;
            tables = s.sound.sorted.tables;
            aux = s.sound.sorted.aux;
          };
        };
        finds = finds;
      }
