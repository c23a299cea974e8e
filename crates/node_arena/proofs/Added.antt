-- A graph with one more node stands.
use Rattle.std.proofs.Common.{◌≡◌, ℕ, ◌+◌, ◌<◌, ◌≤◌, Bool, false, ◌⊎◌, Option, Some, None, List, [], ◌∷◌, ◌++◌, length, get_or, set, map, replicate, refl, sym, ap, ◌∙◌, subst, inl, inr, arith}
use Rattle.std.specs.Prelude.{All, insert}
use Rattle.std.specs.Str.{bytes_eq}
use Rattle.std.proofs.lemmas.Bool.{cases_lt}
use Rattle.std.proofs.lemmas.List.{length-set, length_push, length-map, get_or_push, get_or_append_left, append-nil, map-append}
use Rattle.std.proofs.lemmas.List.Elements.{All-set, All-push, All-get_or}
use Rattle.std.proofs.Math.Seq.{map-set_same}
use Rattle.gt_model.specs.Linked.{is_bare_body}
use Rattle.gt_model.specs.Ordered.{ordered_exprs, ordered_aux}
use Rattle.node_arena.specs.declared.ids.BlockId.{BlockId}
use Rattle.node_arena.specs.declared.ids.IntervalId.{IntervalId}
use Rattle.node_arena.specs.declared.ids.NodeRef.{NodeRef}
use Rattle.node_arena.specs.declared.ids.NodeRef.TheVariants as refs
use Rattle.node_arena.specs.declared.ids.SymbolId.{SymbolId}
use Rattle.node_arena.specs.declared.nodes.BlockNode.{BlockNode}
use Rattle.node_arena.specs.declared.nodes.IntervalNode.{IntervalNode}
use Rattle.node_arena.specs.declared.nodes.ModuleNode.{ModuleNode}
use Rattle.node_arena.specs.declared.nodes.SectionNode.{SectionNode}
use Rattle.node_arena.specs.declared.nodes.SymbolNode.{SymbolNode}
use Rattle.node_arena.specs.Arenas.{Arenas, no_module, no_section, no_interval, no_block, no_symbol, module_at, section_at, interval_at}
use Rattle.node_arena.specs.Changes.{symbol_added, interval_added, block_added, placed_after}
use Rattle.node_arena.specs.Placing.{Begins}
use Rattle.node_arena.specs.Plain.{body_id}
use Rattle.node_arena.specs.Sound.{tree, section_places, symbol_places, proxy_places, interval_places, block_places, is_bare_at, ref_id, Live, Finds, IsReferent, NamesSymbolsOf, module_of_section, sorted}
use Rattle.node_arena.proofs.Alike.{Stands, Children-same}
use Rattle.node_arena.proofs.Grown.{Joins, tree_joined, finds_more}
use Rattle.node_arena.proofs.Joining.{children_below, children_apart, joins_insert, joins_last, place_of, map-insert}
use Rattle.node_arena.proofs.Kept.{Extends, module_core, section_core, interval_core, block_core, symbol_core, kept_solid, kept_exprs, kept_referent, kept_referents, names_found}
use Rattle.node_arena.proofs.Landed.{SameFlow, flow_same, lands_same}
use Rattle.node_arena.proofs.Lists.{tree-grown}

-- a look-up that finds one more identifier
pub record Adds (found now : List ℕ → Option NodeRef) (u : List ℕ) (r : NodeRef) : Type 0 where
  pub none : found u ≡ None
  pub hit : now u ≡ Some r
  pub miss : (id : List ℕ) → bytes_eq u id ≡ false → now id ≡ found id

pub as_was : {A : Type 0} (xs : List A) → Begins xs xs
as_was xs = ([], sym (append-nil xs))

module _ (g : Arenas) (found now : List ℕ → Option NodeRef) (s : Stands g found) where
  -- what a graph with one more node owes
  stands_grown : (h : Arenas) (r : NodeRef) (u : List ℕ) → Extends g h → SameFlow g h → tree h
      → ((k : ℕ) → k < length h.blocks → is_bare_at h (record { index = k }) ≡ false)
      → All (λ (n : SymbolNode). IsReferent h n.module n.payload) h.symbols
      → All (λ (n : IntervalNode). NamesSymbolsOf h (module_of_section h n.section) n.exprs) h.intervals → sorted h
      → Adds found now u r → ((x : NodeRef) → Live h x → Live g x ⊎ (x ≡ r)) → Live h r → ref_id h r ≡ u → Stands h now
  stands_grown h r u e f t solid referents exprs order a only live named =
      let finds = finds_more g h found now r u e s.finds a.none only live named a.hit a.miss in
      record {
        sound = record {
          tree = t;
          solid = solid;
          names = names_found h now finds;
          lands = lands_same g h e s.sound.tree f s.sound.lands referents exprs;
          flow = flow_same g h f s.sound.flow;
          sorted = order;
        };
        finds = finds;
      }

  -- a symbol
  module _ (n : SymbolNode) (within : n.module.index < length g.modules) (referent : IsReferent g n.module n.payload)
      (a : Adds found now n.uuid (refs.Symbol (record { index = length g.symbols }))) where
    only_symbol : (x : NodeRef) → Live (symbol_added g n) x → Live g x ⊎ (x ≡ refs.Symbol (record { index = length g.symbols }))
    only_symbol refs.Ir l = inl tt
    only_symbol (refs.Module id) l = inl (subst (λ (k : ℕ). id.index < k) (length-set g.modules n.module.index _) l)
    only_symbol (refs.Section id) l = inl l
    only_symbol (refs.Interval id) l = inl l
    only_symbol (refs.Block id) l = inl l
    only_symbol (refs.Symbol id) l =
        let below : id.index < length g.symbols + 1 = subst (λ (k : ℕ). id.index < k) (length_push g.symbols n) l in
        elim (cases_lt id.index (length g.symbols)) [
          | inl old ↦ inl old
          | inr new ↦ let last : id.index ≡ length g.symbols = omega arith in inr (ap (λ (k : ℕ). refs.Symbol (record { index = k })) last)
        ]
    only_symbol (refs.Proxy id) l = inl l

    pub stands_symbol_added : Stands (symbol_added g n) now
    stands_symbol_added =
        let h = symbol_added g n in
        let id : SymbolId = record { index = length g.symbols } in
        let old : ModuleNode = module_at g n.module in
        let m : ModuleNode = record old { symbols = old.symbols ++ id ∷ [] } in
        let k = n.module.index in
        let t = s.sound.tree in
        let kids = λ (x : ModuleNode). symbol_places x.symbols in
        let e : Extends g h = record {
          uuid = refl;
          modules = map-set_same module_core g.modules k m no_module refl;
          sections = refl;
          intervals = as_was (map interval_core g.intervals);
          blocks = as_was (map block_core g.blocks);
          symbols = (symbol_core n ∷ [], map-append symbol_core g.symbols (n ∷ []));
          proxies = refl;
        } in
        let joins : Joins (symbol_places old.symbols) (symbol_places m.symbols) (length g.symbols) 1 =
        subst (λ (xs : List ℕ). Joins (symbol_places old.symbols) xs (length g.symbols) 1) (sym (map-append (λ (x : SymbolId). x.index) old.symbols (id ∷ [])))
        (joins_last (symbol_places old.symbols) (length g.symbols)
        (children_below kids (λ (x : SymbolNode). x.module.index) g.modules no_module g.symbols k t.symbols within)
        (children_apart kids (λ (x : SymbolNode). x.module.index) g.modules no_module g.symbols k t.symbols within)) in
        stands_grown h (refs.Symbol id) n.uuid e (record { edges = refl; live = refl; vertices = refl; has_cfg = refl })
        (record {
          sections = Children-same _ _ _ _ (map-set_same (λ (x : ModuleNode). section_places x.sections) g.modules k m no_module refl) refl t.sections;
          symbols = tree_joined kids (λ (x : SymbolNode). x.module.index) g.modules no_module g.symbols (n ∷ []) k 1 m t.symbols within joins refl;
          proxies = Children-same _ _ _ _ (map-set_same (λ (x : ModuleNode). proxy_places x.proxies) g.modules k m no_module refl) refl t.proxies;
          intervals = t.intervals;
          blocks = t.blocks;
        })
        (λ i l. kept_solid g h e (record { index = i }) l ∙ s.sound.solid i l)
        (All-push (λ (x : SymbolNode). IsReferent h x.module x.payload) g.symbols n (kept_referents g h e t g.symbols s.sound.lands.referents) (kept_referent g h e t n.module n.payload referent))
        (kept_exprs g h e g.intervals s.sound.lands.symbols)
        (record {
          exprs = s.sound.sorted.exprs;
          tables = All-set (λ (x : ModuleNode). ordered_aux x.aux) g.modules k m (All-get_or (λ (x : ModuleNode). ordered_aux x.aux) g.modules k no_module within s.sound.sorted.tables) s.sound.sorted.tables;
          aux = s.sound.sorted.aux;
        })
        a only_symbol
        (let more = length_push g.symbols n in omega arith)
        (ap (λ (x : SymbolNode). x.uuid) (get_or_push g.symbols n no_symbol (length g.symbols) refl))

  -- an interval without blocks
  module _ (n : IntervalNode) (within : n.section.index < length g.sections) (empty : n.blocks ≡ []) (order : ordered_exprs n.exprs)
      (names : NamesSymbolsOf g (module_of_section g n.section) n.exprs) (a : Adds found now n.uuid (refs.Interval (record { index = length g.intervals }))) where
    only_interval : (x : NodeRef) → Live (interval_added g n) x → Live g x ⊎ (x ≡ refs.Interval (record { index = length g.intervals }))
    only_interval refs.Ir l = inl tt
    only_interval (refs.Module id) l = inl l
    only_interval (refs.Section id) l = inl (subst (λ (k : ℕ). id.index < k) (length-set g.sections n.section.index _) l)
    only_interval (refs.Interval id) l =
        let below : id.index < length g.intervals + 1 = subst (λ (k : ℕ). id.index < k) (length_push g.intervals n) l in
        elim (cases_lt id.index (length g.intervals)) [
          | inl old ↦ inl old
          | inr new ↦ let last : id.index ≡ length g.intervals = omega arith in inr (ap (λ (k : ℕ). refs.Interval (record { index = k })) last)
        ]
    only_interval (refs.Block id) l = inl l
    only_interval (refs.Symbol id) l = inl l
    only_interval (refs.Proxy id) l = inl l

    pub stands_interval_added : Stands (interval_added g n) now
    stands_interval_added =
        let h = interval_added g n in
        let id : IntervalId = record { index = length g.intervals } in
        let old : SectionNode = section_at g n.section in
        let m : SectionNode = record old { intervals = old.intervals ++ id ∷ [] } in
        let k = n.section.index in
        let t = s.sound.tree in
        let kids = λ (x : SectionNode). interval_places x.intervals in
        let e : Extends g h = record {
          uuid = refl;
          modules = refl;
          sections = map-set_same section_core g.sections k m no_section refl;
          intervals = (interval_core n ∷ [], map-append interval_core g.intervals (n ∷ []));
          blocks = as_was (map block_core g.blocks);
          symbols = as_was (map symbol_core g.symbols);
          proxies = refl;
        } in
        let joins : Joins (interval_places old.intervals) (interval_places m.intervals) (length g.intervals) 1 =
        subst (λ (xs : List ℕ). Joins (interval_places old.intervals) xs (length g.intervals) 1) (sym (map-append (λ (x : IntervalId). x.index) old.intervals (id ∷ [])))
        (joins_last (interval_places old.intervals) (length g.intervals)
        (children_below kids (λ (x : IntervalNode). x.section.index) g.sections no_section g.intervals k t.intervals within)
        (children_apart kids (λ (x : IntervalNode). x.section.index) g.sections no_section g.intervals k t.intervals within)) in
        let all = kept_exprs g h e (g.intervals ++ n ∷ []) (All-push (λ (x : IntervalNode). NamesSymbolsOf g (module_of_section g x.section) x.exprs) g.intervals n s.sound.lands.symbols names) in
        stands_grown h (refs.Interval id) n.uuid e (record { edges = refl; live = refl; vertices = refl; has_cfg = refl })
        (record {
          sections = Children-same _ _ _ _ refl (map-set_same (λ (x : SectionNode). x.module.index) g.sections k m no_section refl) t.sections;
          symbols = t.symbols;
          proxies = t.proxies;
          intervals = tree_joined kids (λ (x : IntervalNode). x.section.index) g.sections no_section g.intervals (n ∷ []) k 1 m t.intervals within joins refl;
          blocks = tree-grown (λ (x : IntervalNode). block_places x.blocks) (λ (x : BlockNode). x.interval.index) g.intervals n g.blocks g.blocks 0 t.blocks (ap block_places empty)
              (sym (append-nil (map (λ (x : BlockNode). x.interval.index) g.blocks)));
        })
        (λ i l. kept_solid g h e (record { index = i }) l ∙ s.sound.solid i l)
        (kept_referents g h e t g.symbols s.sound.lands.referents)
        all
        (record {
          exprs = All-push (λ (x : IntervalNode). ordered_exprs x.exprs) g.intervals n s.sound.sorted.exprs order;
          tables = s.sound.sorted.tables;
          aux = s.sound.sorted.aux;
        })
        a only_interval
        (let more = length_push g.intervals n in omega arith)
        (ap (λ (x : IntervalNode). x.uuid) (get_or_push g.intervals n no_interval (length g.intervals) refl))

  -- a block
  module _ (after : Option BlockId) (n : BlockNode) (within : n.interval.index < length g.intervals) (solid : is_bare_body n.body ≡ false)
      (a : Adds found now (body_id n.body) (refs.Block (record { index = length g.blocks }))) where
    only_block : (x : NodeRef) → Live (block_added g after n) x → Live g x ⊎ (x ≡ refs.Block (record { index = length g.blocks }))
    only_block refs.Ir l = inl tt
    only_block (refs.Module id) l = inl l
    only_block (refs.Section id) l = inl l
    only_block (refs.Interval id) l = inl (subst (λ (k : ℕ). id.index < k) (length-set g.intervals n.interval.index _) l)
    only_block (refs.Block id) l =
        let below : id.index < length g.blocks + 1 = subst (λ (k : ℕ). id.index < k) (length_push g.blocks n) l.0 in
        elim (cases_lt id.index (length g.blocks)) [
          | inl old ↦ inl (old, sym (ap (λ (x : BlockNode). is_bare_body x.body) (get_or_append_left g.blocks (n ∷ []) no_block id.index old)) ∙ l.1)
          | inr new ↦ let last : id.index ≡ length g.blocks = omega arith in inr (ap (λ (k : ℕ). refs.Block (record { index = k })) last)
        ]
    only_block (refs.Symbol id) l = inl l
    only_block (refs.Proxy id) l = inl l

    new_body : (k : ℕ) → length g.blocks ≡ k → is_bare_body (get_or (g.blocks ++ n ∷ []) k no_block).body ≡ false
    new_body k e = ap (λ (x : BlockNode). is_bare_body x.body) (get_or_push g.blocks n no_block k e) ∙ solid

    pub stands_block_added : Stands (block_added g after n) now
    stands_block_added =
        let h = block_added g after n in
        let id : BlockId = record { index = length g.blocks } in
        let old : IntervalNode = interval_at g n.interval in
        let m : IntervalNode = record old { blocks = placed_after old.blocks after id } in
        let k = n.interval.index in
        let t = s.sound.tree in
        let kids = λ (x : IntervalNode). block_places x.blocks in
        let e : Extends g h = record {
          uuid = refl;
          modules = refl;
          sections = refl;
          intervals = ([], map-set_same interval_core g.intervals k m no_interval refl ∙ sym (append-nil (map interval_core g.intervals)));
          blocks = (block_core n ∷ [], map-append block_core g.blocks (n ∷ []));
          symbols = as_was (map symbol_core g.symbols);
          proxies = refl;
        } in
        let at = place_of old.blocks after in
        let places : block_places m.blocks ≡ insert (block_places old.blocks) at.0 (length g.blocks) =
        ap block_places (at.2 id) ∙ map-insert (λ (x : BlockId). x.index) old.blocks at.0 id in
        let inside : at.0 ≤ length (block_places old.blocks) = subst (λ (q : ℕ). at.0 ≤ q) (sym (length-map old.blocks (λ (x : BlockId). x.index))) at.1 in
        let joins : Joins (block_places old.blocks) (block_places m.blocks) (length g.blocks) 1 =
        subst (λ (xs : List ℕ). Joins (block_places old.blocks) xs (length g.blocks) 1) (sym places)
        (joins_insert (block_places old.blocks) at.0 (length g.blocks) inside
        (children_below kids (λ (x : BlockNode). x.interval.index) g.intervals no_interval g.blocks k t.blocks within)
        (children_apart kids (λ (x : BlockNode). x.interval.index) g.intervals no_interval g.blocks k t.blocks within)) in
        let exprs = All-set (λ (x : IntervalNode). NamesSymbolsOf g (module_of_section g x.section) x.exprs) g.intervals k m
        (All-get_or (λ (x : IntervalNode). NamesSymbolsOf g (module_of_section g x.section) x.exprs) g.intervals k no_interval within s.sound.lands.symbols) s.sound.lands.symbols in
        let ordered = All-set (λ (x : IntervalNode). ordered_exprs x.exprs) g.intervals k m
        (All-get_or (λ (x : IntervalNode). ordered_exprs x.exprs) g.intervals k no_interval within s.sound.sorted.exprs) s.sound.sorted.exprs in
        stands_grown h (refs.Block id) (body_id n.body) e (record { edges = refl; live = refl; vertices = refl; has_cfg = refl })
        (record {
          sections = t.sections;
          symbols = t.symbols;
          proxies = t.proxies;
          intervals = Children-same _ _ _ _ refl (map-set_same (λ (x : IntervalNode). x.section.index) g.intervals k m no_interval refl) t.intervals;
          blocks = tree_joined kids (λ (x : BlockNode). x.interval.index) g.intervals no_interval g.blocks (n ∷ []) k 1 m t.blocks within joins refl;
        })
        (λ i l.
        let below : i < length g.blocks + 1 = subst (λ (q : ℕ). i < q) (length_push g.blocks n) l in
        elim (cases_lt i (length g.blocks)) [
          | inl was ↦ kept_solid g h e (record { index = i }) was ∙ s.sound.solid i was
          | inr new ↦ new_body i (omega arith)
        ])
        (kept_referents g h e t g.symbols s.sound.lands.referents)
        (kept_exprs g h e (set g.intervals k m) exprs)
        (record { exprs = ordered; tables = s.sound.sorted.tables; aux = s.sound.sorted.aux })
        a only_block
        (let more = length_push g.blocks n in (omega arith, new_body (length g.blocks) refl))
        (ap (λ (x : BlockNode). body_id x.body) (get_or_push g.blocks n no_block (length g.blocks) refl))
