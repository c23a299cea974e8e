-- No node of a graph stands twice among its nodes in order.
use Rattle.std.proofs.Common.{◌≡◌, ◌≢◌, ℕ, ◌+◌, ◌<◌, ◌≤◌, Bool, true, false, List, [], ◌∷◌, ◌++◌, length, get_or, map, refl, sym, ap, ◌∙◌, subst, arith, append_assoc}
use Rattle.std.specs.Prelude.{AllPairs, if◌then◌else◌}
use Rattle.std.specs.List.{AllByRecursion, flat_map}
use Rattle.std.proofs.lemmas.List.{length-map, get_or-map}
use Rattle.std.proofs.Math.ListN.{length-append}
use Rattle.std.proofs.Math.Seq.{get_or-append_seam}
use Rattle.node_arena.specs.declared.ids.BlockId.{BlockId}
use Rattle.node_arena.specs.declared.ids.IntervalId.{IntervalId}
use Rattle.node_arena.specs.declared.ids.NodeRef.{NodeRef}
use Rattle.node_arena.specs.declared.ids.NodeRef.TheVariants as refs
use Rattle.node_arena.specs.declared.ids.ProxyId.{ProxyId}
use Rattle.node_arena.specs.declared.ids.SectionId.{SectionId}
use Rattle.node_arena.specs.declared.ids.SymbolId.{SymbolId}
use Rattle.node_arena.specs.declared.nodes.IntervalNode.{IntervalNode}
use Rattle.node_arena.specs.declared.nodes.ModuleNode.{ModuleNode}
use Rattle.node_arena.specs.declared.nodes.SectionNode.{SectionNode}
use Rattle.node_arena.specs.Arenas.{Arenas, section_at, interval_at, block_at, symbol_at, proxy_at, no_module, no_section, no_interval}
use Rattle.node_arena.specs.Placing.{full_tree}
use Rattle.node_arena.specs.Refs.{block_refs, interval_refs, section_refs, module_refs, refs_from, all_refs}
use Rattle.node_arena.specs.Sound.{Children, Live, ref_id, is_bare_at, module_of_block, module_of_interval, module_of_section}
use Rattle.node_arena.proofs.Apart.{Apart, All-weak, apart-ranked, ranked-other, apart-flat, apart-wrapped, apart-mapped, apart-pairs, pairs-apart}
use Rattle.node_arena.proofs.Below.{block-below, interval-below, section-below, symbol-below, proxy-below}
use Rattle.node_arena.proofs.Members.{In-All}
use Rattle.node_arena.proofs.RefLaws.{All-join, All-flat, All-mapped, live_refs}

abbrev rank : NodeRef → ℕ
rank refs.Ir = 0
rank (refs.Module id) = 1
rank (refs.Proxy id) = 2
rank (refs.Symbol id) = 3
rank (refs.Section id) = 4
rank (refs.Interval id) = 5
rank (refs.Block id) = 6

abbrev leaf_key : NodeRef → ℕ
leaf_key (refs.Proxy id) = id.index
leaf_key (refs.Symbol id) = id.index
leaf_key _ = 0

-- the block, the interval, the section and the module that a node is in
abbrev block_key : NodeRef → ℕ
block_key (refs.Block id) = id.index
block_key _ = 0

abbrev interval_key : Arenas → NodeRef → ℕ
interval_key g (refs.Interval id) = id.index
interval_key g (refs.Block id) = (block_at g id).interval.index
interval_key g _ = 0

abbrev section_key : Arenas → NodeRef → ℕ
section_key g (refs.Section id) = id.index
section_key g (refs.Interval id) = (interval_at g id).section.index
section_key g (refs.Block id) = (interval_at g (block_at g id).interval).section.index
section_key g _ = 0

abbrev module_key : Arenas → NodeRef → ℕ
module_key g refs.Ir = 0
module_key g (refs.Module id) = id.index
module_key g (refs.Proxy id) = (proxy_at g id).module.index
module_key g (refs.Symbol id) = (symbol_at g id).module.index
module_key g (refs.Section id) = module_of_section g id
module_key g (refs.Interval id) = module_of_interval g id
module_key g (refs.Block id) = module_of_block g id

-- what holds of a block holds of its references
of-block : (P : NodeRef → Type 0) (g : Arenas) (b : BlockId) → P (refs.Block b) → AllByRecursion P (block_refs g b)
of-block P g b h = by (is_bare_at g b)
  where
    by : (c : Bool) → AllByRecursion P (if c then [] else refs.Block b ∷ [])
    by true = tt
    by false = (h, tt)

one-block : (g : Arenas) (b : BlockId) → Apart (block_refs g b)
one-block g b = by (is_bare_at g b)
  where
    by : (c : Bool) → Apart (if c then [] else refs.Block b ∷ [])
    by true = tt
    by false = (tt, tt)

-- the places of the children of a node are distinct
kids-apart : {N I : Type 0} (kids : N → List I) (place : I → ℕ) (dn : N) (ns : List N) (parents : List ℕ) → Children (map (λ n. map place (kids n)) ns) parents
    → (p : ℕ) → p < length ns → Apart (map place (kids (get_or ns p dn)))
kids-apart kids place dn ns parents t p within =
    let len : p < length (map (λ n. map place (kids n)) ns) = rw length-map within in
    subst Apart (get_or-map (λ n. map place (kids n)) ns p dn [] within) (pairs-apart _ (t.once p len))

module _ (g : Arenas) (t : full_tree g) where
  -- what holds of an interval and its blocks
  of-interval : (P : NodeRef → Type 0) (i : IntervalId) → i.index < length g.intervals → P (refs.Interval i) → ((b : BlockId) → (block_at g b).interval.index ≡ i.index → P (refs.Block b))
      → AllByRecursion P (interval_refs g i)
  of-interval P i w h k = (h, All-flat P (block_refs g) (interval_at g i).blocks (λ b m. of-block P g b (k b ((block-below g t i w b m).1))))

  interval-keys : (i : IntervalId) → i.index < length g.intervals → AllByRecursion (λ r. interval_key g r ≡ i.index) (interval_refs g i)
  interval-keys i w = of-interval (λ r. interval_key g r ≡ i.index) i w refl (λ b e. e)

  section-keys-of : (i : IntervalId) → i.index < length g.intervals → AllByRecursion (λ r. section_key g r ≡ (interval_at g i).section.index) (interval_refs g i)
  section-keys-of i w = of-interval (λ r. section_key g r ≡ (interval_at g i).section.index) i w refl (λ b e. ap (λ j. (get_or g.intervals j no_interval).section.index) e)

  module-keys-of : (i : IntervalId) → i.index < length g.intervals → AllByRecursion (λ r. module_key g r ≡ module_of_interval g i) (interval_refs g i)
  module-keys-of i w = of-interval (λ r. module_key g r ≡ module_of_interval g i) i w refl
      (λ b e. ap (λ j. (get_or g.sections (get_or g.intervals j no_interval).section.index no_section).module.index) e)

  interval-apart : (i : IntervalId) → i.index < length g.intervals → Apart (interval_refs g i)
  interval-apart i w = (
    ranked-other rank 6 (refs.Interval i) (flat_map (block_refs g) (interval_at g i).blocks) (omega arith)
        (All-flat (λ r. 6 ≤ rank r) (block_refs g) (interval_at g i).blocks (λ b m. of-block (λ r. 6 ≤ rank r) g b (omega arith))),
    apart-flat (block_refs g) block_key (λ (b : BlockId). b.index) (interval_at g i).blocks
        (In-All (λ b. Apart (block_refs g b)) (interval_at g i).blocks (λ b m. one-block g b))
        (In-All (λ (b : BlockId). AllByRecursion (λ r. block_key r ≡ b.index) (block_refs g b)) (interval_at g i).blocks (λ b m. of-block (λ r. block_key r ≡ b.index) g b refl))
        (kids-apart (λ (n : IntervalNode). n.blocks) (λ (b : BlockId). b.index) no_interval g.intervals _ t.lower.blocks i.index w),
  )

  interval-high : (i : IntervalId) → i.index < length g.intervals → AllByRecursion (λ r. 5 ≤ rank r) (interval_refs g i)
  interval-high i w = of-interval (λ r. 5 ≤ rank r) i w (omega arith) (λ b e. omega arith)

  -- what holds of a section and its intervals
  of-section : (P : NodeRef → Type 0) (s : SectionId) → s.index < length g.sections → P (refs.Section s)
      → ((i : IntervalId) → i.index < length g.intervals → (interval_at g i).section.index ≡ s.index → AllByRecursion P (interval_refs g i)) → AllByRecursion P (section_refs g s)
  of-section P s w h k = (h, All-flat P (interval_refs g) (section_at g s).intervals (λ i m. let up = interval-below g t s w i m in k i up.0 up.1))

  section-keys : (s : SectionId) → s.index < length g.sections → AllByRecursion (λ r. section_key g r ≡ s.index) (section_refs g s)
  section-keys s w = of-section (λ r. section_key g r ≡ s.index) s w refl (λ i l e. subst (λ k. AllByRecursion (λ r. section_key g r ≡ k) (interval_refs g i)) e (section-keys-of i l))

  module-keys-in : (s : SectionId) → s.index < length g.sections → AllByRecursion (λ r. module_key g r ≡ module_of_section g s) (section_refs g s)
  module-keys-in s w = of-section (λ r. module_key g r ≡ module_of_section g s) s w refl (λ i l e.
      subst (λ k. AllByRecursion (λ r. module_key g r ≡ (get_or g.sections k no_section).module.index) (interval_refs g i)) e (module-keys-of i l))

  section-apart : (s : SectionId) → s.index < length g.sections → Apart (section_refs g s)
  section-apart s w =
      let is : List IntervalId = (section_at g s).intervals in (
        ranked-other rank 5 (refs.Section s) (flat_map (interval_refs g) is) (omega arith)
            (All-flat (λ r. 5 ≤ rank r) (interval_refs g) is (λ i m. interval-high i (interval-below g t s w i m).0)),
        apart-flat (interval_refs g) (interval_key g) (λ (i : IntervalId). i.index) is
            (In-All (λ i. Apart (interval_refs g i)) is (λ i m. interval-apart i (interval-below g t s w i m).0))
            (In-All (λ (i : IntervalId). AllByRecursion (λ r. interval_key g r ≡ i.index) (interval_refs g i)) is (λ i m. interval-keys i (interval-below g t s w i m).0))
            (kids-apart (λ (n : SectionNode). n.intervals) (λ (i : IntervalId). i.index) no_section g.sections _ t.lower.intervals s.index w),
      )

  section-high : (s : SectionId) → s.index < length g.sections → AllByRecursion (λ r. 4 ≤ rank r) (section_refs g s)
  section-high s w = of-section (λ r. 4 ≤ rank r) s w (omega arith) (λ i l e. of-interval (λ r. 4 ≤ rank r) i l (omega arith) (λ b k. omega arith))

  -- what holds of a module and all nodes in it
  of-module : (P : NodeRef → Type 0) (m : ℕ) → m < length g.modules → P (refs.Module (record { index = m }))
      → ((x : ProxyId) → (proxy_at g x).module.index ≡ m → P (refs.Proxy x)) → ((x : SymbolId) → (symbol_at g x).module.index ≡ m → P (refs.Symbol x))
      → ((s : SectionId) → s.index < length g.sections → module_of_section g s ≡ m → AllByRecursion P (section_refs g s)) → AllByRecursion P (module_refs g m (get_or g.modules m no_module))
  of-module P m w h proxies symbols sections =
      let n : ModuleNode = get_or g.modules m no_module in
      All-join P (refs.Module (record { index = m }) ∷ map (λ id. refs.Proxy id) n.proxies ++ map (λ id. refs.Symbol id) n.symbols) (flat_map (section_refs g) n.sections)
      (All-join P (refs.Module (record { index = m }) ∷ map (λ id. refs.Proxy id) n.proxies) (map (λ id. refs.Symbol id) n.symbols) (
        h,
        All-mapped P (λ id. refs.Proxy id) n.proxies (λ id k. proxies id
            (proxy-below g t m w id k).1),
      )
      (All-mapped P (λ id. refs.Symbol id) n.symbols (λ id k. symbols id
      (symbol-below g t m w id k).1)))
      (All-flat P (section_refs g) n.sections (λ s k. let up = section-below g t m w s k in sections s up.0 up.1))

  module-keys : (m : ℕ) → m < length g.modules → AllByRecursion (λ r. module_key g r ≡ m) (module_refs g m (get_or g.modules m no_module))
  module-keys m w =
      of-module (λ r. module_key g r ≡ m) m w refl (λ x e. e) (λ x e. e)
      (λ s l e. subst (λ k. AllByRecursion (λ r. module_key g r ≡ k) (section_refs g s)) e (module-keys-in s l))

  module-high : (m : ℕ) → m < length g.modules → AllByRecursion (λ r. 1 ≤ rank r) (module_refs g m (get_or g.modules m no_module))
  module-high m w =
      of-module (λ r. 1 ≤ rank r) m w (omega arith) (λ x e. omega arith) (λ x e. omega arith)
      (λ s l e. All-weak (λ r. 4 ≤ rank r) (λ r. 1 ≤ rank r) (section_refs g s) (λ r h. omega arith) (section-high s l))

  module-apart : (m : ℕ) → m < length g.modules → Apart (module_refs g m (get_or g.modules m no_module))
  module-apart m w =
      let n : ModuleNode = get_or g.modules m no_module in
      let proxies : List NodeRef = map (λ id. refs.Proxy id) n.proxies in
      let symbols : List NodeRef = map (λ id. refs.Symbol id) n.symbols in
      let head : List NodeRef = refs.Module (record { index = m }) ∷ proxies in
      let low : AllByRecursion (λ r. rank r < 3) head = (omega arith, All-mapped (λ r. rank r < 3) (λ id. refs.Proxy id) n.proxies (λ id k. omega arith)) in
      let first : Apart head = (
        ranked-other rank 2 (refs.Module (record { index = m })) proxies (omega arith) (All-mapped (λ r. 2 ≤ rank r) (λ id. refs.Proxy id) n.proxies (λ id k. omega arith)),
        apart-wrapped (λ (x : ProxyId). x.index) (λ id. refs.Proxy id) leaf_key n.proxies (λ x. refl)
            (kids-apart (λ (x : ModuleNode). x.proxies) (λ (x : ProxyId). x.index) no_module g.modules _ t.proxies m w),
      ) in
      let second : Apart (head ++ symbols) =
      apart-ranked rank 3 head symbols first
      (apart-wrapped (λ (x : SymbolId). x.index) (λ id. refs.Symbol id) leaf_key n.symbols (λ x. refl)
      (kids-apart (λ (x : ModuleNode). x.symbols) (λ (x : SymbolId). x.index) no_module g.modules _ t.symbols m w))
      low (All-mapped (λ r. 3 ≤ rank r) (λ id. refs.Symbol id) n.symbols (λ id k. omega arith)) in
      apart-ranked rank 4 (head ++ symbols) (flat_map (section_refs g) n.sections) second
      (apart-flat (section_refs g) (section_key g) (λ (s : SectionId). s.index) n.sections
      (In-All (λ s. Apart (section_refs g s)) n.sections (λ s k. section-apart s (section-below g t m w s k).0))
      (In-All (λ (s : SectionId). AllByRecursion (λ r. section_key g r ≡ s.index) (section_refs g s)) n.sections (λ s k. section-keys s (section-below g t m w s k).0))
      (kids-apart (λ (x : ModuleNode). x.sections) (λ (s : SectionId). s.index) no_module g.modules _ t.sections m w))
      (All-join (λ r. rank r < 4) head symbols (All-weak (λ r. rank r < 3) (λ r. rank r < 4) head (λ r l. omega arith) low) (All-mapped (λ r. rank r < 4) (λ id. refs.Symbol id) n.symbols (λ id k. omega arith)))
      (All-flat (λ r. 4 ≤ rank r) (section_refs g) n.sections (λ s k. section-high s (section-below g t m w s k).0))

  -- modules, of which the first has the place m
  module _ (P : (m : ℕ) → List NodeRef → Type 0) (none : (m : ℕ) → P m [])
      (more : (m : ℕ) (rest : List NodeRef) → m < length g.modules → P (m + 1) rest → P m (module_refs g m (get_or g.modules m no_module) ++ rest)) where
    from : (m : ℕ) (done ns : List ModuleNode) → g.modules ≡ done ++ ns → length done ≡ m → P m (refs_from g m ns)
    from m done [] e len = none m
    from m done (n ∷ ns) e len =
        let at : get_or g.modules m no_module ≡ n = ap (λ l. get_or l m no_module) e ∙ ap (λ k. get_or (done ++ n ∷ ns) k no_module) (sym len) ∙ get_or-append_seam done n ns no_module in
        let all : length g.modules ≡ length done + length (n ∷ ns) = ap length e ∙ length-append done (n ∷ ns) in
        let within : m < length g.modules = omega arith in
        let longer : length (done ++ n ∷ []) ≡ m + 1 = length-append done (n ∷ []) ∙ ap (λ k. k + 1) len in
        subst (λ x. P m (module_refs g m x ++ refs_from g (m + 1) ns)) at
        (more m (refs_from g (m + 1) ns) within (from (m + 1) (done ++ n ∷ []) ns (e ∙ sym (append_assoc done (n ∷ []) ns)) longer))

  from-high : AllByRecursion (λ r. 1 ≤ rank r) (refs_from g 0 g.modules)
  from-high =
      from (λ m rs. AllByRecursion (λ r. 1 ≤ rank r) rs) (λ m. tt)
      (λ m rest w h. All-join (λ r. 1 ≤ rank r) (module_refs g m (get_or g.modules m no_module)) rest (module-high m w) h) 0 [] g.modules refl refl

  from-apart : Apart (refs_from g 0 g.modules)
  from-apart =
      (from (λ m rs. Apart rs × AllByRecursion (λ r. m ≤ module_key g r) rs) (λ m. (tt, tt))
      (λ m rest w h.
      let n : ModuleNode = get_or g.modules m no_module in (
        apart-ranked (module_key g) (m + 1) (module_refs g m n) rest (module-apart m w) h.0
            (All-weak (λ r. module_key g r ≡ m) (λ r. module_key g r < m + 1) (module_refs g m n) (λ r e. omega arith) (module-keys m w)) h.1,
        All-join (λ r. m ≤ module_key g r) (module_refs g m n) rest
            (All-weak (λ r. module_key g r ≡ m) (λ r. m ≤ module_key g r) (module_refs g m n) (λ r e. omega arith) (module-keys m w))
            (All-weak (λ r. m + 1 ≤ module_key g r) (λ r. m ≤ module_key g r) rest (λ r l. omega arith) h.1),
      )) 0 [] g.modules refl refl).0

  pub refs-apart : Apart (all_refs g)
  refs-apart = (ranked-other rank 1 refs.Ir (refs_from g 0 g.modules) (omega arith) from-high, from-apart)

  -- so identifiers that no two nodes share are distinct
  pub ids-apart : ((r s : NodeRef) → Live g r → Live g s → ref_id g r ≡ ref_id g s → r ≡ s) → AllPairs (λ a b. a ≢ b) (map (ref_id g) (all_refs g))
  ids-apart names = apart-pairs (map (ref_id g) (all_refs g)) (apart-mapped (Live g) (ref_id g) (all_refs g) names (live_refs g t) refs-apart)
