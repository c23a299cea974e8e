-- The nodes of a graph in order are those of its IR, and all are of the graph.
use Rattle.std.proofs.Common.{◌≡◌, ℕ, ◌+◌, ◌<◌, Bool, true, false, List, [], ◌∷◌, ◌++◌, length, map, refl, arith}
use Rattle.std.specs.Prelude.{Contains, if◌then◌else◌}
use Rattle.std.specs.List.{AllByRecursion, flat_map}
use Rattle.std.proofs.lemmas.List.{length-map}
use Rattle.std.proofs.lemmas.List.Elements.{Contains-get_or}
use Rattle.node_arena.specs.declared.ids.BlockId.{BlockId}
use Rattle.node_arena.specs.declared.ids.IntervalId.{IntervalId}
use Rattle.node_arena.specs.declared.ids.NodeRef.TheVariants as refs
use Rattle.node_arena.specs.declared.ids.ProxyId.{ProxyId}
use Rattle.node_arena.specs.declared.ids.SectionId.{SectionId}
use Rattle.node_arena.specs.declared.ids.SymbolId.{SymbolId}
use Rattle.node_arena.specs.declared.nodes.IntervalNode.{IntervalNode}
use Rattle.node_arena.specs.declared.nodes.ModuleNode.{ModuleNode}
use Rattle.node_arena.specs.declared.nodes.SectionNode.{SectionNode}
use Rattle.node_arena.specs.Arenas.{Arenas, interval_at, section_at, no_interval, no_section}
use Rattle.node_arena.specs.Placing.{full_tree, block_parents, interval_parents, section_parents, symbol_parents, proxy_parents, lower_tree}
use Rattle.node_arena.specs.Refs.{block_refs, interval_refs, section_refs, module_refs, refs_from, all_refs}
use Rattle.node_arena.specs.Sound.{Live, is_bare_at}
use Rattle.node_arena.proofs.Lists.{In-head, In-tail, listed_of}

pub All-join : {X : Type 0} (P : X → Type 0) (xs ys : List X) → AllByRecursion P xs → AllByRecursion P ys → AllByRecursion P (xs ++ ys)
All-join P [] ys h k = k
All-join P (x ∷ xs) ys h k = (h.0, All-join P xs ys h.1 k)

pub All-flat : {X Y : Type 0} (P : Y → Type 0) (f : X → List Y) (xs : List X) → ((x : X) → Contains xs x → AllByRecursion P (f x)) → AllByRecursion P (flat_map f xs)
All-flat P f [] h = tt
All-flat P f (x ∷ xs) h = All-join P (f x) (flat_map f xs) (h x (In-head x xs)) (All-flat P f xs (λ y m. h y (In-tail x y xs m)))

pub All-mapped : {X Y : Type 0} (P : Y → Type 0) (f : X → Y) (xs : List X) → ((x : X) → Contains xs x → P (f x)) → AllByRecursion P (map f xs)
All-mapped P f [] h = tt
All-mapped P f (x ∷ xs) h = (h x (In-head x xs), All-mapped P f xs (λ y m. h y (In-tail x y xs m)))

-- the children of a node are below it
pub block-below : (g : Arenas) → lower_tree g → (i : IntervalId) → i.index < length g.intervals → (b : BlockId) → Contains (interval_at g i).blocks b → b.index < length g.blocks
block-below g t i at b m =
    rw length-map at (listed_of (λ (x : IntervalNode). x.blocks) (λ (x : BlockId). x.index) no_interval g.intervals (block_parents g.blocks) t.blocks (interval_at g i) (Contains-get_or g.intervals i.index no_interval at) b m)

pub interval-below : (g : Arenas) → lower_tree g → (s : SectionId) → s.index < length g.sections → (i : IntervalId) → Contains (section_at g s).intervals i → i.index < length g.intervals
interval-below g t s at i m =
    rw length-map at (listed_of (λ (x : SectionNode). x.intervals) (λ (x : IntervalId). x.index) no_section g.sections (interval_parents g.intervals) t.intervals (section_at g s) (Contains-get_or g.sections s.index no_section at) i m)

-- all references in order are live
live_block : (g : Arenas) (b : BlockId) → b.index < length g.blocks → AllByRecursion (Live g) (block_refs g b)
live_block g b h = by (is_bare_at g b) refl
  where
    by : (bare : Bool) → is_bare_at g b ≡ bare → AllByRecursion (Live g) (if bare then [] else refs.Block b ∷ [])
    by true e = tt
    by false e = ((h, e), tt)

live_interval : (g : Arenas) → lower_tree g → (i : IntervalId) → i.index < length g.intervals → AllByRecursion (Live g) (interval_refs g i)
live_interval g t i h = (h, All-flat (Live g) (block_refs g) (interval_at g i).blocks (λ b m. live_block g b (block-below g t i h b m)))

live_section : (g : Arenas) → lower_tree g → (s : SectionId) → s.index < length g.sections → AllByRecursion (Live g) (section_refs g s)
live_section g t s h = (h, All-flat (Live g) (interval_refs g) (section_at g s).intervals (λ i m. live_interval g t i (interval-below g t s h i m)))

live_module : (g : Arenas) → full_tree g → (m : ℕ) → m < length g.modules → (n : ModuleNode) → Contains g.modules n → AllByRecursion (Live g) (module_refs g m n)
live_module g t m h n at =
    All-join (Live g) (refs.Module (record { index = m }) ∷ map (λ id. refs.Proxy id) n.proxies ++ map (λ id. refs.Symbol id) n.symbols) (flat_map (section_refs g) n.sections)
    (All-join (Live g) (refs.Module (record { index = m }) ∷ map (λ id. refs.Proxy id) n.proxies) (map (λ id. refs.Symbol id) n.symbols)
    (h, All-mapped (Live g) (λ id. refs.Proxy id) n.proxies (λ id k. rw length-map at (listed_of (λ (x : ModuleNode). x.proxies) (λ (x : ProxyId). x.index) n g.modules (proxy_parents g.proxies) t.proxies n at id k)))
    (All-mapped (Live g) (λ id. refs.Symbol id) n.symbols (λ id k. rw length-map at (listed_of (λ (x : ModuleNode). x.symbols) (λ (x : SymbolId). x.index) n g.modules (symbol_parents g.symbols) t.symbols n at id k))))
    (All-flat (Live g) (section_refs g) n.sections (λ id k. live_section g t.lower id
    (rw length-map at (listed_of (λ (x : ModuleNode). x.sections) (λ (x : SectionId). x.index) n g.modules (section_parents g.sections) t.sections n at id k))))

live_from : (g : Arenas) → full_tree g → (m : ℕ) (ns : List ModuleNode) → m + length ns ≡ length g.modules → ((n : ModuleNode) → Contains ns n → Contains g.modules n)
    → AllByRecursion (Live g) (refs_from g m ns)
live_from g t m [] e h = tt
live_from g t m (n ∷ ns) e h =
    All-join (Live g) (module_refs g m n) (refs_from g (m + 1) ns) (live_module g t m (omega arith) n (h n (In-head n ns)))
    (live_from g t (m + 1) ns (omega arith) (λ x k. h x (In-tail n x ns k)))

pub live_refs : (g : Arenas) → full_tree g → AllByRecursion (Live g) (all_refs g)
live_refs g t = (tt, live_from g t 0 g.modules (omega arith) (λ n h. h))
