-- What stays of a graph through a change: its nodes, and what references read of them.
use Rattle.std.proofs.Common.{◌≡◌, ℕ, ◌+◌, ◌<◌, Bool, List, [], ◌++◌, length, get_or, map, Option, Some, None, refl, sym, ap, ◌∙◌, subst, arith}
use Rattle.std.specs.Prelude.{IsTrue, IfSome, All}
use Rattle.std.proofs.lemmas.List.{get_or_append_left, length-map}
use Rattle.std.proofs.lemmas.List.Elements.{All-weaker}
use Rattle.std.proofs.Math.ListN.{get_or-map, length-append}
use Rattle.gt_model.specs.declared.exprs.Expr.{Expr}
use Rattle.gt_model.specs.declared.intervals.Body.{Body}
use Rattle.gt_model.specs.Linked.{is_bare_body}
use Rattle.gt_model.specs.References.{symbols_of}
use Rattle.node_arena.specs.declared.ids.BlockId.{BlockId}
use Rattle.node_arena.specs.declared.ids.CfgEnd.{CfgEnd}
use Rattle.node_arena.specs.declared.ids.CfgEnd.TheVariants as ends
use Rattle.node_arena.specs.declared.ids.IntervalId.{IntervalId}
use Rattle.node_arena.specs.declared.ids.ModuleId.{ModuleId}
use Rattle.node_arena.specs.declared.ids.NodeRef.{NodeRef}
use Rattle.node_arena.specs.declared.ids.NodeRef.TheVariants as refs
use Rattle.node_arena.specs.declared.ids.SectionId.{SectionId}
use Rattle.node_arena.specs.declared.ids.SymbolId.{SymbolId}
use Rattle.node_arena.specs.declared.nodes.BlockNode.{BlockNode}
use Rattle.node_arena.specs.declared.nodes.EdgeNode.{EdgeNode}
use Rattle.node_arena.specs.declared.nodes.IntervalNode.{IntervalNode}
use Rattle.node_arena.specs.declared.nodes.ModuleNode.{ModuleNode}
use Rattle.node_arena.specs.declared.nodes.NodePayload.{NodePayload}
use Rattle.node_arena.specs.declared.nodes.NodePayload.TheVariants as payloads
use Rattle.node_arena.specs.declared.nodes.ProxyNode.{ProxyNode}
use Rattle.node_arena.specs.declared.nodes.SectionNode.{SectionNode}
use Rattle.node_arena.specs.declared.nodes.SymbolNode.{SymbolNode}
use Rattle.node_arena.specs.Arenas.{Arenas, no_module, no_section, no_interval, no_block, no_symbol, no_proxy, module_at, section_at, interval_at, block_at, symbol_at}
use Rattle.node_arena.specs.Placing.{Begins}
use Rattle.node_arena.specs.Plain.{body_id}
use Rattle.node_arena.specs.Sound.{tree, ref_id, is_bare_at, Live, Finds, module_of_section, module_of_interval, module_of_block, is_code_body, is_code, IsVertex, IsReferent, IsSymbolOf, NamesSymbolsOf, IsEntry}
use Rattle.node_arena.proofs.Lists.{parent-within}

-- what references read of a node of each kind
abbrev pub module_core : ModuleNode → List ℕ × Option BlockId
module_core n = (n.uuid, n.entry)

abbrev pub section_core : SectionNode → List ℕ × ModuleId
section_core n = (n.uuid, n.module)

abbrev pub interval_core : IntervalNode → List ℕ × SectionId
interval_core n = (n.uuid, n.section)

abbrev pub body_core : Body → List ℕ × Bool × Bool
body_core b = (body_id b, is_bare_body b, is_code_body b)

abbrev pub block_core : BlockNode → IntervalId × (List ℕ × Bool × Bool)
block_core n = (n.interval, body_core n.body)

abbrev pub symbol_core : SymbolNode → List ℕ × ModuleId
symbol_core n = (n.uuid, n.module)

-- the nodes of the first graph are nodes of the second, where references read the same
pub record Extends (g h : Arenas) : Type 0 where
  pub uuid : h.uuid ≡ g.uuid
  pub modules : map module_core h.modules ≡ map module_core g.modules
  pub sections : map section_core h.sections ≡ map section_core g.sections
  pub intervals : Begins (map interval_core g.intervals) (map interval_core h.intervals)
  pub blocks : Begins (map block_core g.blocks) (map block_core h.blocks)
  pub symbols : Begins (map symbol_core g.symbols) (map symbol_core h.symbols)
  pub proxies : h.proxies ≡ g.proxies

-- a part of a node that stays, in lists of nodes
module _ {N C : Type 0} (core : N → C) (xs ys : List N) where
  pub same_at : map core ys ≡ map core xs → (i : ℕ) (d : N) → core (get_or ys i d) ≡ core (get_or xs i d)
  same_at e i d = sym (get_or-map core ys i d) ∙ ap (λ (zs : List C). get_or zs i (core d)) e ∙ get_or-map core xs i d

  pub same_length : map core ys ≡ map core xs → length ys ≡ length xs
  same_length e = sym (length-map ys core) ∙ ap length e ∙ length-map xs core

  pub begun_at : Begins (map core xs) (map core ys) → (i : ℕ) (d : N) → i < length xs → core (get_or ys i d) ≡ core (get_or xs i d)
  begun_at b i d l =
      let within : i < length (map core xs) = rw length-map l in
      sym (get_or-map core ys i d) ∙ ap (λ (zs : List C). get_or zs i (core d)) b.1
      ∙ get_or_append_left (map core xs) b.0 (core d) i within ∙ get_or-map core xs i d

  pub begun_within : Begins (map core xs) (map core ys) → (i : ℕ) → i < length xs → i < length ys
  begun_within b i l =
      let all : length (map core ys) ≡ length (map core xs) + length b.0 = ap length b.1 ∙ length-append (map core xs) b.0 in
      let new : length (map core ys) ≡ length ys = length-map ys core in
      let old : length (map core xs) ≡ length xs = length-map xs core in
      omega arith

some-weaker : {A : Type 0} (P Q : A → Type 0) → ((x : A) → P x → Q x) → (o : Option A) → IfSome o P → IfSome o Q
some-weaker P Q f None h = tt
some-weaker P Q f (Some x) h = f x h

-- a block is in an interval
pub interval_within : (g : Arenas) → tree g → (k : ℕ) → k < length g.blocks → (get_or g.blocks k no_block).interval.index < length g.intervals
interval_within g t k l =
    subst (λ n. (get_or g.blocks k no_block).interval.index < n) (length-map g.intervals _)
    (parent-within (λ (n : BlockNode). n.interval.index) _ g.blocks t.blocks k no_block l)

module _ (g h : Arenas) (e : Extends g h) where
  pub kept_live : (r : NodeRef) → Live g r → Live h r
  kept_live refs.Ir l = tt
  kept_live (refs.Module id) l = subst (λ n. id.index < n) (sym (same_length module_core g.modules h.modules e.modules)) l
  kept_live (refs.Section id) l = subst (λ n. id.index < n) (sym (same_length section_core g.sections h.sections e.sections)) l
  kept_live (refs.Interval id) l = begun_within interval_core g.intervals h.intervals e.intervals id.index l
  kept_live (refs.Block id) l = (
    begun_within block_core g.blocks h.blocks e.blocks id.index l.0,
    ap (λ (c : IntervalId × (List ℕ × Bool × Bool)). c.1.1) (begun_at block_core g.blocks h.blocks e.blocks id.index no_block l.0) ∙ l.1,
  )
  kept_live (refs.Symbol id) l = begun_within symbol_core g.symbols h.symbols e.symbols id.index l
  kept_live (refs.Proxy id) l = subst (λ (ps : List ProxyNode). id.index < length ps) (sym e.proxies) l

  pub kept_id : (r : NodeRef) → Live g r → ref_id h r ≡ ref_id g r
  kept_id refs.Ir l = e.uuid
  kept_id (refs.Module id) l = ap (λ (c : List ℕ × Option BlockId). c.0) (same_at module_core g.modules h.modules e.modules id.index no_module)
  kept_id (refs.Section id) l = ap (λ (c : List ℕ × ModuleId). c.0) (same_at section_core g.sections h.sections e.sections id.index no_section)
  kept_id (refs.Interval id) l = ap (λ (c : List ℕ × SectionId). c.0) (begun_at interval_core g.intervals h.intervals e.intervals id.index no_interval l)
  kept_id (refs.Block id) l = ap (λ (c : IntervalId × (List ℕ × Bool × Bool)). c.1.0) (begun_at block_core g.blocks h.blocks e.blocks id.index no_block l.0)
  kept_id (refs.Symbol id) l = ap (λ (c : List ℕ × ModuleId). c.0) (begun_at symbol_core g.symbols h.symbols e.symbols id.index no_symbol l)
  kept_id (refs.Proxy id) l = ap (λ (ps : List ProxyNode). (get_or ps id.index no_proxy).uuid) e.proxies

  pub kept_code : (b : BlockId) → b.index < length g.blocks → is_code h b ≡ is_code g b
  kept_code b l = ap (λ (c : IntervalId × (List ℕ × Bool × Bool)). c.1.2) (begun_at block_core g.blocks h.blocks e.blocks b.index no_block l)

  pub kept_solid : (b : BlockId) → b.index < length g.blocks → is_bare_at h b ≡ is_bare_at g b
  kept_solid b l = ap (λ (c : IntervalId × (List ℕ × Bool × Bool)). c.1.1) (begun_at block_core g.blocks h.blocks e.blocks b.index no_block l)

  pub kept_section : (s : SectionId) → module_of_section h s ≡ module_of_section g s
  kept_section s = ap (λ (c : List ℕ × ModuleId). c.1.index) (same_at section_core g.sections h.sections e.sections s.index no_section)

  pub kept_interval : (i : IntervalId) → i.index < length g.intervals → module_of_interval h i ≡ module_of_interval g i
  kept_interval i l =
      kept_section (interval_at h i).section
      ∙ ap (λ (c : List ℕ × SectionId). module_of_section g c.1) (begun_at interval_core g.intervals h.intervals e.intervals i.index no_interval l)

  pub kept_vertex : (v : CfgEnd) → IsVertex g v → IsVertex h v
  kept_vertex (ends.Block id) l = (begun_within block_core g.blocks h.blocks e.blocks id.index l.0, subst IsTrue (sym (kept_code id l.0)) l.1)
  kept_vertex (ends.Proxy id) l = subst (λ (ps : List ProxyNode). id.index < length ps) (sym e.proxies) l

  kept_symbol : (m : ℕ) (id : List ℕ) → IsSymbolOf g m id → IsSymbolOf h m id
  kept_symbol m id l =
      let core = begun_at symbol_core g.symbols h.symbols e.symbols l.0.index no_symbol l.1 in (
        l.0,
        begun_within symbol_core g.symbols h.symbols e.symbols l.0.index l.1,
        ap (λ (c : List ℕ × ModuleId). c.1.index) core ∙ l.2,
        ap (λ (c : List ℕ × ModuleId). c.0) core ∙ l.3,
      )

  pub kept_names : (m : ℕ) (exprs : List Expr) → NamesSymbolsOf g m exprs → NamesSymbolsOf h m exprs
  kept_names m exprs a =
      All-weaker (λ (x : Expr). All (IsSymbolOf g m) (symbols_of x.value)) (λ (x : Expr). All (IsSymbolOf h m) (symbols_of x.value))
      (λ (x : Expr) b. All-weaker (IsSymbolOf g m) (IsSymbolOf h m) (kept_symbol m) (symbols_of x.value) b) exprs a

  -- of the references of lists that stay
  pub kept_sources : (xs : List EdgeNode) → All (λ (n : EdgeNode). IsVertex g n.source) xs → All (λ (n : EdgeNode). IsVertex h n.source) xs
  kept_sources xs a = All-weaker (λ (n : EdgeNode). IsVertex g n.source) (λ (n : EdgeNode). IsVertex h n.source) (λ (n : EdgeNode) v. kept_vertex n.source v) xs a

  pub kept_targets : (xs : List EdgeNode) → All (λ (n : EdgeNode). IsVertex g n.target) xs → All (λ (n : EdgeNode). IsVertex h n.target) xs
  kept_targets xs a = All-weaker (λ (n : EdgeNode). IsVertex g n.target) (λ (n : EdgeNode). IsVertex h n.target) (λ (n : EdgeNode) v. kept_vertex n.target v) xs a

  pub kept_vertices : (xs : List CfgEnd) → All (IsVertex g) xs → All (IsVertex h) xs
  kept_vertices xs a = All-weaker (IsVertex g) (IsVertex h) kept_vertex xs a

  pub kept_exprs : (xs : List IntervalNode) → All (λ (n : IntervalNode). NamesSymbolsOf g (module_of_section g n.section) n.exprs) xs
      → All (λ (n : IntervalNode). NamesSymbolsOf h (module_of_section h n.section) n.exprs) xs
  kept_exprs xs a =
      All-weaker (λ (n : IntervalNode). NamesSymbolsOf g (module_of_section g n.section) n.exprs) (λ (n : IntervalNode). NamesSymbolsOf h (module_of_section h n.section) n.exprs)
      (λ (n : IntervalNode) b. subst (λ m. NamesSymbolsOf h m n.exprs) (sym (kept_section n.section)) (kept_names (module_of_section g n.section) n.exprs b)) xs a

  module _ (t : tree g) where
    pub kept_block : (b : BlockId) → b.index < length g.blocks → module_of_block h b ≡ module_of_block g b
    kept_block b l =
        ap (λ (c : IntervalId × (List ℕ × Bool × Bool)). module_of_interval h c.0) (begun_at block_core g.blocks h.blocks e.blocks b.index no_block l)
        ∙ kept_interval (block_at g b).interval (interval_within g t b.index l)

    pub kept_referent : (m : ModuleId) (p : NodePayload) → IsReferent g m p → IsReferent h m p
    kept_referent m payloads.Nothing l = tt
    kept_referent m (payloads.Value value) l = tt
    kept_referent m (payloads.Block id) l = (begun_within block_core g.blocks h.blocks e.blocks id.index l.0, kept_block id l.0 ∙ l.1)
    kept_referent m (payloads.Proxy id) l = (
      subst (λ (ps : List ProxyNode). id.index < length ps) (sym e.proxies) l.0,
      ap (λ (ps : List ProxyNode). (get_or ps id.index no_proxy).module.index) e.proxies ∙ l.1,
    )

    pub kept_referents : (xs : List SymbolNode) → All (λ (n : SymbolNode). IsReferent g n.module n.payload) xs → All (λ (n : SymbolNode). IsReferent h n.module n.payload) xs
    kept_referents xs a =
        All-weaker (λ (n : SymbolNode). IsReferent g n.module n.payload) (λ (n : SymbolNode). IsReferent h n.module n.payload)
        (λ (n : SymbolNode) b. kept_referent n.module n.payload b) xs a

    kept_entry : (m : ℕ) (b : BlockId) → IsEntry g m b → IsEntry h m b
    kept_entry m b l = (begun_within block_core g.blocks h.blocks e.blocks b.index l.0, subst IsTrue (sym (kept_code b l.0)) l.1, kept_block b l.0 ∙ l.2)

    pub kept_entries : ((k : ℕ) → k < length g.modules → IfSome (module_at g (record { index = k })).entry (IsEntry g k))
        → (k : ℕ) → k < length h.modules → IfSome (module_at h (record { index = k })).entry (IsEntry h k)
    kept_entries a k l =
        let within : k < length g.modules = subst (λ n. k < n) (same_length module_core g.modules h.modules e.modules) l in
        let same : (module_at h (record { index = k })).entry ≡ (module_at g (record { index = k })).entry =
        ap (λ (c : List ℕ × Option BlockId). c.1) (same_at module_core g.modules h.modules e.modules k no_module) in
        subst (λ (o : Option BlockId). IfSome o (IsEntry h k)) (sym same)
        (some-weaker (IsEntry g k) (IsEntry h k) (kept_entry k) (module_at g (record { index = k })).entry (a k within))

-- nodes that an index finds have identifiers of their own
pub names_found : (g : Arenas) (found : List ℕ → Option NodeRef) → Finds g found → (r s : NodeRef) → Live g r → Live g s → ref_id g r ≡ ref_id g s → r ≡ s
names_found g found f r s l m same =
    let one : Some r ≡ Some s = sym (f.named r l) ∙ ap found same ∙ f.named s m in
    cc

-- the index that finds the nodes finds those of a graph with no others
pub finds_kept : (g h : Arenas) (found : List ℕ → Option NodeRef) → Extends g h → Extends h g → Finds g found → Finds h found
finds_kept g h found there back f = record {
  named = λ r l.
      let old = kept_live h g back r l in
      ap found (kept_id g h there r old) ∙ f.named r old;
  held = λ id r q.
      let was = f.held id r q in
      (kept_live g h there r was.0, kept_id g h there r was.0 ∙ was.1);
}
