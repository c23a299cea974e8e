-- Each node of a graph is among its nodes in order, and its index finds it.
use Rattle.std.proofs.Common.{◌≡◌, ℕ, zero, suc, ◌+◌, ◌<◌, Bool, true, false, List, [], ◌∷◌, ◌++◌, length, get_or, map, Option, Some, refl, sym, ap, ◌∙◌, subst, arith, cond}
use Rattle.std.specs.Prelude.{Contains, ◌≢◌, AllPairs, if◌then◌else◌}
use Rattle.std.specs.List.{flat_map}
use Rattle.std.specs.Map.{lookup}
use Rattle.std.specs.Str.{bytes_eq}
use Rattle.std.proofs.lemmas.List.Elements.{Contains-append_left, Contains-append_right}
use Rattle.std.proofs.lemmas.Slice.Eq.{bytes_eq-Decides}
use Rattle.node_arena.specs.declared.ids.BlockId.{BlockId}
use Rattle.node_arena.specs.declared.ids.IntervalId.{IntervalId}
use Rattle.node_arena.specs.declared.ids.NodeRef.{NodeRef}
use Rattle.node_arena.specs.declared.ids.NodeRef.TheVariants as refs
use Rattle.node_arena.specs.declared.ids.ProxyId.{ProxyId}
use Rattle.node_arena.specs.declared.ids.SectionId.{SectionId}
use Rattle.node_arena.specs.declared.ids.SymbolId.{SymbolId}
use Rattle.node_arena.specs.declared.nodes.BlockNode.{BlockNode}
use Rattle.node_arena.specs.declared.nodes.IntervalNode.{IntervalNode}
use Rattle.node_arena.specs.declared.nodes.ModuleNode.{ModuleNode}
use Rattle.node_arena.specs.declared.nodes.ProxyNode.{ProxyNode}
use Rattle.node_arena.specs.declared.nodes.SectionNode.{SectionNode}
use Rattle.node_arena.specs.declared.nodes.SymbolNode.{SymbolNode}
use Rattle.node_arena.specs.Arenas.{Arenas, section_at, interval_at, block_at, symbol_at, proxy_at, no_module, no_section, no_interval, no_block, no_symbol, no_proxy}
use Rattle.node_arena.specs.Placing.{full_tree}
use Rattle.node_arena.specs.Refs.{block_refs, interval_refs, section_refs, module_refs, refs_from, all_refs}
use Rattle.node_arena.specs.Sound.{Finds, Live, ref_id, is_bare_at}
use Rattle.node_arena.specs.Stored.{entry_of}
use Rattle.node_arena.proofs.Lists.{In-head, In-tail, In-map}
use Rattle.node_arena.proofs.Members.{In-flat, All-In, child-in}
use Rattle.node_arena.proofs.RefLaws.{live_refs}

from-at : (g : Arenas) (m k : ℕ) (ns : List ModuleNode) (r : NodeRef) → k < length ns → Contains (module_refs g (m + k) (get_or ns k no_module)) r → Contains (refs_from g m ns) r
from-at g m k [] r l h = absurd (omega arith)
from-at g m zero (n ∷ ns) r l h =
    let e : m + zero ≡ m = omega arith in
    Contains-append_left (module_refs g m n) (refs_from g (m + 1) ns) r (subst (λ j. Contains (module_refs g j n) r) e h)
from-at g m (suc k) (n ∷ ns) r l h =
    let e : m + suc k ≡ (m + 1) + k = omega arith in
    Contains-append_right (module_refs g m n) (refs_from g (m + 1) ns) r
    (from-at g (m + 1) k ns r (omega arith) (subst (λ j. Contains (module_refs g j (get_or ns k no_module)) r) e h))

module _ (g : Arenas) (t : full_tree g) where
  in-all : (m : ℕ) → m < length g.modules → (r : NodeRef) → Contains (module_refs g m (get_or g.modules m no_module)) r → Contains (all_refs g) r
  in-all m within r h =
      let e : m ≡ 0 + m = omega arith in
      In-tail refs.Ir r (refs_from g 0 g.modules) (from-at g 0 m g.modules r within (subst (λ j. Contains (module_refs g j (get_or g.modules m no_module)) r) e h))

  in-sections : (s : SectionId) → s.index < length g.sections → (r : NodeRef) → Contains (section_refs g s) r → Contains (all_refs g) r
  in-sections s within r h =
      let up = child-in (λ (n : ModuleNode). n.sections) (λ (i : SectionId). i.index) (λ k. record { index = k }) (λ (n : SectionNode). n.module.index) no_module no_section g.modules g.sections (λ i. refl) t.sections s within in
      let n : ModuleNode = get_or g.modules (section_at g s).module.index no_module in
      in-all (section_at g s).module.index up.0 r
      (Contains-append_right ((refs.Module (section_at g s).module ∷ map (λ id. refs.Proxy id) n.proxies) ++ map (λ id. refs.Symbol id) n.symbols) (flat_map (section_refs g) n.sections) r
      (In-flat (section_refs g) n.sections s r up.1 h))

  in-intervals : (i : IntervalId) → i.index < length g.intervals → (r : NodeRef) → Contains (interval_refs g i) r → Contains (all_refs g) r
  in-intervals i within r h =
      let up = child-in (λ (n : SectionNode). n.intervals) (λ (i : IntervalId). i.index) (λ k. record { index = k }) (λ (n : IntervalNode). n.section.index) no_section no_interval g.sections g.intervals (λ i. refl) t.lower.intervals i within in
      in-sections (interval_at g i).section up.0 r
      (In-tail (refs.Section (interval_at g i).section) r (flat_map (interval_refs g) (section_at g (interval_at g i).section).intervals)
      (In-flat (interval_refs g) (section_at g (interval_at g i).section).intervals i r up.1 h))

  solid-block : (b : BlockId) → is_bare_at g b ≡ false → Contains (block_refs g b) (refs.Block b)
  solid-block b e = subst (λ c. Contains (if c then [] else refs.Block b ∷ []) (refs.Block b)) (sym e) (In-head (refs.Block b) [])

  -- the nodes that live are among those in order
  pub live-in : (r : NodeRef) → Live g r → Contains (all_refs g) r
  live-in refs.Ir h = In-head refs.Ir (refs_from g 0 g.modules)
  live-in (refs.Module id) h =
      let n : ModuleNode = get_or g.modules id.index no_module in
      in-all id.index h (refs.Module id)
      (Contains-append_left ((refs.Module id ∷ map (λ x. refs.Proxy x) n.proxies) ++ map (λ x. refs.Symbol x) n.symbols) (flat_map (section_refs g) n.sections) (refs.Module id)
      (In-head (refs.Module id) (map (λ x. refs.Proxy x) n.proxies ++ map (λ x. refs.Symbol x) n.symbols)))
  live-in (refs.Section id) h = in-sections id h (refs.Section id) (In-head (refs.Section id) (flat_map (interval_refs g) (section_at g id).intervals))
  live-in (refs.Interval id) h = in-intervals id h (refs.Interval id) (In-head (refs.Interval id) (flat_map (block_refs g) (interval_at g id).blocks))
  live-in (refs.Block id) h =
      let up = child-in (λ (n : IntervalNode). n.blocks) (λ (i : BlockId). i.index) (λ k. record { index = k }) (λ (n : BlockNode). n.interval.index) no_interval no_block g.intervals g.blocks (λ i. refl) t.lower.blocks id h.0 in
      in-intervals (block_at g id).interval up.0 (refs.Block id)
      (In-tail (refs.Interval (block_at g id).interval) (refs.Block id) (flat_map (block_refs g) (interval_at g (block_at g id).interval).blocks)
      (In-flat (block_refs g) (interval_at g (block_at g id).interval).blocks id (refs.Block id) up.1 (solid-block id h.1)))
  live-in (refs.Symbol id) h =
      let up = child-in (λ (n : ModuleNode). n.symbols) (λ (i : SymbolId). i.index) (λ k. record { index = k }) (λ (n : SymbolNode). n.module.index) no_module no_symbol g.modules g.symbols (λ i. refl) t.symbols id h in
      let n : ModuleNode = get_or g.modules (symbol_at g id).module.index no_module in
      in-all (symbol_at g id).module.index up.0 (refs.Symbol id)
      (Contains-append_left ((refs.Module (symbol_at g id).module ∷ map (λ x. refs.Proxy x) n.proxies) ++ map (λ x. refs.Symbol x) n.symbols) (flat_map (section_refs g) n.sections) (refs.Symbol id)
      (Contains-append_right (refs.Module (symbol_at g id).module ∷ map (λ x. refs.Proxy x) n.proxies) (map (λ x. refs.Symbol x) n.symbols) (refs.Symbol id)
      (In-map (λ x. refs.Symbol x) n.symbols id up.1)))
  live-in (refs.Proxy id) h =
      let up = child-in (λ (n : ModuleNode). n.proxies) (λ (i : ProxyId). i.index) (λ k. record { index = k }) (λ (n : ProxyNode). n.module.index) no_module no_proxy g.modules g.proxies (λ i. refl) t.proxies id h in
      let n : ModuleNode = get_or g.modules (proxy_at g id).module.index no_module in
      in-all (proxy_at g id).module.index up.0 (refs.Proxy id)
      (Contains-append_left ((refs.Module (proxy_at g id).module ∷ map (λ x. refs.Proxy x) n.proxies) ++ map (λ x. refs.Symbol x) n.symbols) (flat_map (section_refs g) n.sections) (refs.Proxy id)
      (Contains-append_left (refs.Module (proxy_at g id).module ∷ map (λ x. refs.Proxy x) n.proxies) (map (λ x. refs.Symbol x) n.symbols) (refs.Proxy id)
      (In-tail (refs.Module (proxy_at g id).module) (refs.Proxy id) (map (λ x. refs.Proxy x) n.proxies) (In-map (λ x. refs.Proxy x) n.proxies id up.1))))

-- look-ups among entries
pub held-at : (g : Arenas) (rs : List NodeRef) (id : List ℕ) (r : NodeRef) → lookup (bytes_eq id) (map (entry_of g) rs) ≡ Some r → Contains rs r × (ref_id g r ≡ id)
held-at g [] id r h = absurd (cc)
held-at g (x ∷ xs) id r h = by (bytes_eq id (ref_id g x)) refl (held-at g xs id r) h
  where
    by : (b : Bool) → bytes_eq id (ref_id g x) ≡ b → (lookup (bytes_eq id) (map (entry_of g) xs) ≡ Some r → Contains xs r × (ref_id g r ≡ id))
        → cond b (Some x) (lookup (bytes_eq id) (map (entry_of g) xs)) ≡ Some r → Contains (x ∷ xs) r × (ref_id g r ≡ id)
    by true e rest h =
        let same : x ≡ r = cc in
        (subst (λ y. Contains (x ∷ xs) y) same (In-head x xs), sym (ap (ref_id g) same) ∙ sym ((bytes_eq-Decides id (ref_id g x)).0 e))
    by false e rest h =
        let there = rest h in
        (In-tail x r xs there.0, there.1)

same-bytes : (a : List ℕ) → bytes_eq a a ≡ true
same-bytes a = (bytes_eq-Decides a a).1 refl

pub other-bytes : (a b : List ℕ) → a ≢ b → bytes_eq a b ≡ false
other-bytes a b n = by (bytes_eq a b) refl
  where
    by : (c : Bool) → bytes_eq a b ≡ c → bytes_eq a b ≡ false
    by true e = absurd (n ((bytes_eq-Decides a b).0 e))
    by false e = e

pub first_apart : {A : Type 0} (x : A) (xs : List A) → AllPairs (λ a b. a ≢ b) (x ∷ xs) → (y : A) → Contains xs y → x ≢ y
first_apart x xs h y m e =
    let l : suc m.0 < length (x ∷ xs) = omega (arith, m.1) in
    h 0 (suc m.0) y (omega arith) l (e ∙ sym m.2)

pub rest_apart : {A : Type 0} (x : A) (xs : List A) → AllPairs (λ a b. a ≢ b) (x ∷ xs) → AllPairs (λ a b. a ≢ b) xs
rest_apart x xs h = λ i j d l m. h (suc i) (suc j) d (omega arith) (omega arith)

named-at : (g : Arenas) (rs : List NodeRef) (r : NodeRef) → AllPairs (λ a b. a ≢ b) (map (ref_id g) rs) → (k : ℕ) → k < length rs → get_or rs k r ≡ r
    → lookup (bytes_eq (ref_id g r)) (map (entry_of g) rs) ≡ Some r
named-at g [] r d k l e = absurd (omega arith)
named-at g (x ∷ xs) r d zero l e =
    let same : bytes_eq (ref_id g r) (ref_id g x) ≡ true = ap (λ (y : NodeRef). bytes_eq (ref_id g r) (ref_id g y)) e ∙ same-bytes (ref_id g r) in
    rw same (ap (λ y. Some y) e)
named-at g (x ∷ xs) r d (suc k) l e =
    let inside : k < length xs = omega arith in
    let apart : ref_id g r ≢ ref_id g x = λ q. first_apart (ref_id g x) (map (ref_id g) xs) d (ref_id g r) (In-map (ref_id g) xs r (k, inside, e)) (sym q) in
    let other : bytes_eq (ref_id g r) (ref_id g x) ≡ false = other-bytes (ref_id g r) (ref_id g x) apart in
    rw other (named-at g xs r (rest_apart (ref_id g x) (map (ref_id g) xs) d) k inside e)

-- an index of distinct nodes finds them
pub finds-nodes : (g : Arenas) → full_tree g → AllPairs (λ a b. a ≢ b) (map (ref_id g) (all_refs g)) → Finds g (λ id. lookup (bytes_eq id) (map (entry_of g) (all_refs g)))
finds-nodes g t d = record {
  named = λ r live. let m = live-in g t r live in named-at g (all_refs g) r d m.0 m.1 m.2;
  held = λ id r e. let m = held-at g (all_refs g) id r e in (All-In (Live g) (all_refs g) r (live_refs g t) m.0, m.1);
}

-- and no two have one identifier
pub names-apart : (g : Arenas) (found : List ℕ → Option NodeRef) → Finds g found → (r s : NodeRef) → Live g r → Live g s → ref_id g r ≡ ref_id g s → r ≡ s
names-apart g found f r s p q e =
    let a : found (ref_id g r) ≡ Some r = f.named r p in
    let b : found (ref_id g s) ≡ Some s = f.named s q in
    let c : Some r ≡ Some s = sym a ∙ ap found e ∙ b in
    cc
