-- What placing more nodes keeps and adds.
use Rattle.std.proofs.Common.{◌≡◌, ℕ, ℤ, ◌+◌, ◌<◌, List, [], ◌∷◌, ◌++◌, length, get_or, map, replicate, refl, sym, ap, ◌∙◌, subst, append_assoc, append-nil}
use Rattle.std.specs.Prelude.{Contains}
use Rattle.std.specs.List.{range_with_len}
use Rattle.std.proofs.lemmas.List.{get_or_append_left, get_or_push, length-map, get_or-map, map-append}
use Rattle.std.proofs.Math.ListN.{length-append, length-replicate}
use Rattle.gt_model.specs.declared.exprs.Expr.{Expr}
use Rattle.gt_model.specs.declared.intervals.Block.{Block}
use Rattle.gt_model.specs.declared.intervals.Interval.{Interval}
use Rattle.gt_model.specs.declared.modules.Section.{Section}
use Rattle.gt_model.specs.declared.symbols.Symbol.{Symbol}
use Rattle.node_arena.specs.declared.ids.BlockId.{BlockId}
use Rattle.node_arena.specs.declared.ids.IntervalId.{IntervalId}
use Rattle.node_arena.specs.declared.ids.SectionId.{SectionId}
use Rattle.node_arena.specs.declared.ids.SymbolId.{SymbolId}
use Rattle.node_arena.specs.declared.nodes.BlockNode.{BlockNode}
use Rattle.node_arena.specs.declared.nodes.IntervalNode.{IntervalNode}
use Rattle.node_arena.specs.declared.nodes.NodePayload.TheVariants as payloads
use Rattle.node_arena.specs.declared.nodes.SectionNode.{SectionNode}
use Rattle.node_arena.specs.declared.nodes.SymbolNode.{SymbolNode}
use Rattle.node_arena.specs.Arenas.{Arenas, no_interval, no_block, no_section, interval_at, section_at}
use Rattle.node_arena.specs.Plain.{plain_block, plain_interval, plain_section}
use Rattle.node_arena.specs.Sound.{Children, block_places, interval_places}
use Rattle.node_arena.specs.Placing.{Begins, Appended, PlacedBlocks, PlacedSymbols, PlacedIntervals, PlacedSections, placed_block, placed_symbol, block_lists, block_parents, interval_lists, interval_parents, section_parents, blocks_tree, lower_tree}
use Rattle.node_arena.proofs.Lists.{map-map, map-itself, map-same, map-read, In-map, In-range, range-append, replicate-add, map-constant, Children-grown}

pub begins_itself : {X : Type 0} (xs : List X) → Begins xs xs
begins_itself xs = ([], sym (append-nil xs))

pub begins_more : {X : Type 0} (xs : List X) (more : List X) → Begins xs (xs ++ more)
begins_more xs more = (more, refl)

pub begins_through : {X : Type 0} (xs ys zs : List X) → Begins xs ys → Begins ys zs → Begins xs zs
begins_through xs ys zs b c = (b.0 ++ c.0, c.1 ∙ ap (λ l. l ++ c.0) b.1 ∙ append_assoc xs b.0 c.0)

pub begins_get : {X : Type 0} (xs ys : List X) (d : X) (k : ℕ) → Begins xs ys → k < length xs → get_or ys k d ≡ get_or xs k d
begins_get xs ys d k b h = rw b.1 (get_or_append_left xs b.0 d k h)

pub range-one : (a b : ℕ) → b ≡ a → b ∷ [] ≡ range_with_len a 1
range-one a b e = ap (λ k. k ∷ []) e

pub places_more : {I X : Type 0} (place : I → ℕ) (ids more : List I) (xs ys : List X) (a b : ℕ) → b ≡ a + length xs
    → map place ids ≡ range_with_len a (length xs) → map place more ≡ range_with_len b (length ys)
    → map place (ids ++ more) ≡ range_with_len a (length (xs ++ ys))
places_more place ids more xs ys a b e p q =
    map-append place ids more ∙ (λ k. p k ++ q k) ∙ ap (λ s. range_with_len a (length xs) ++ range_with_len s (length ys)) e
    ∙ sym (ap (range_with_len a) (length-append xs ys) ∙ range-append a (length xs) (length ys))

pub appended-none : {I X N : Type 0} (place : I → ℕ) (node : X → N) (old : List N) → Appended place node [] old [] old
appended-none place node old = record { nodes = sym (append-nil old); places = refl }

pub appended-more : {I X N : Type 0} (place : I → ℕ) (node : X → N) (xs : List X) (x : X) (old now new : List N) (ids : List I) (id : I)
    → Appended place node xs old ids now → place id ≡ length now → new ≡ now ++ node x ∷ []
    → Appended place node (xs ++ x ∷ []) old (ids ++ id ∷ []) new
appended-more place node xs x old now new ids id t at e = record {
  nodes = e ∙ ap (λ l. l ++ node x ∷ []) t.nodes ∙ append_assoc old (map node xs) (node x ∷ []) ∙ ap (λ l. old ++ l) (sym (map-append node xs (x ∷ [])));
  places = places_more place ids (id ∷ []) xs (x ∷ []) (length old) (length now)
      (ap length t.nodes ∙ length-append old (map node xs) ∙ ap (λ k. length old + k) (length-map xs node))
      t.places (range-one (length now) (place id) at);
}

-- what stays readable as the lists grow
pub keep_interval : (g h : Arenas) (i : IntervalId) → i.index < length g.intervals → blocks_tree g
    → Begins g.intervals h.intervals → Begins g.blocks h.blocks → plain_interval h i ≡ plain_interval g i
keep_interval g h i at t is bs =
    let n : IntervalNode = interval_at g i in
    let node : interval_at h i ≡ n = begins_get g.intervals h.intervals no_interval i.index is at in
    let plain : Arenas → IntervalNode → Interval = λ a m. record {
      uuid = m.uuid;
      blocks = map (plain_block a) m.blocks;
      exprs = m.exprs;
      has_address = m.has_address;
      address = m.address;
      size = m.size;
      contents = m.contents;
    } in
    let inside : (b : BlockId) → Contains n.blocks b → b.index < length g.blocks = λ b m.
    let places : Contains (get_or (block_lists g.intervals) i.index []) b.index = rw (get_or-map (λ (k : IntervalNode). block_places k.blocks) g.intervals i.index no_interval [] at) (In-map (λ (k : BlockId). k.index) n.blocks b m) in
    let len : i.index < length (block_lists g.intervals) = rw length-map at in
    rw length-map at (t.listed i.index b.index len places).0 in
    ap (plain h) node
    ∙ ap (λ l. record (plain g n) { blocks = l }) (map-same (plain_block h) (plain_block g) n.blocks
    (λ b m. ap (λ (k : BlockNode). record { offset = k.offset; body = k.body }) (begins_get g.blocks h.blocks no_block b.index bs (inside b m))))

-- the intervals of a list, and then those of another
pub intervals-none : (p : ℕ) (g : Arenas) → blocks_tree g → PlacedIntervals p [] g [] g
intervals-none p g t = record {
  same = refl;
  intervals = begins_itself g.intervals;
  blocks = begins_itself g.blocks;
  parents = sym (append-nil (interval_parents g.intervals));
  places = refl;
  plain = refl;
  tree = t;
}

pub length-placed_intervals : (p : ℕ) (xs : List Interval) (g h : Arenas) (ids : List IntervalId) → PlacedIntervals p xs g ids h
    → length h.intervals ≡ length g.intervals + length xs
length-placed_intervals p xs g h ids t =
    sym (length-map h.intervals (λ (n : IntervalNode). n.section.index)) ∙ ap length t.parents
    ∙ length-append (interval_parents g.intervals) (replicate (length xs) p)
    ∙ (λ k. length-map g.intervals (λ (n : IntervalNode). n.section.index) k + length-replicate (length xs) p k)

in_places : {I : Type 0} (place : I → ℕ) (ids : List I) (a n : ℕ) → map place ids ≡ range_with_len a n → (id : I) → Contains ids id → place id < a + n
in_places place ids a n e id m = (In-range a n (place id) (subst (λ l. Contains l (place id)) e (In-map place ids id m))).1

pub intervals-more : (p : ℕ) (xs ys : List Interval) (g h k : Arenas) (ids jds : List IntervalId)
    → PlacedIntervals p xs g ids h → PlacedIntervals p ys h jds k → PlacedIntervals p (xs ++ ys) g (ids ++ jds) k
intervals-more p xs ys g h k ids jds t u =
    let len = length-placed_intervals p xs g h ids t in
    record {
      same = u.same ∙ ap (λ (a : Arenas). record a { intervals = k.intervals; blocks = k.blocks }) t.same;
      intervals = begins_through g.intervals h.intervals k.intervals t.intervals u.intervals;
      blocks = begins_through g.blocks h.blocks k.blocks t.blocks u.blocks;
      parents = u.parents ∙ ap (λ l. l ++ replicate (length ys) p) t.parents ∙ append_assoc (interval_parents g.intervals) _ _
          ∙ ap (λ l. interval_parents g.intervals ++ l) (sym (ap (λ n. replicate n p) (length-append xs ys) ∙ replicate-add (length xs) (length ys) p));
      places = places_more (λ (i : IntervalId). i.index) ids jds xs ys (length g.intervals) (length h.intervals) len t.places u.places;
      plain = map-append (plain_interval k) ids jds
          ∙ (λ i. (map-same (plain_interval k) (plain_interval h) ids
          (λ id m. keep_interval h k id (subst (λ n. id.index < n) (sym len) (in_places (λ (x : IntervalId). x.index) ids (length g.intervals) (length xs) t.places id m)) t.tree u.intervals u.blocks)
          ∙ t.plain) i ++ u.plain i);
      tree = u.tree;
    }

-- one interval, with its blocks
pub interval-placed : (p : ℕ) (x : Interval) (n : IntervalNode) (g k : Arenas) (id : IntervalId)
    → blocks_tree g → id.index ≡ length g.intervals → PlacedBlocks id.index x.blocks g.blocks n.blocks k.blocks
    → k.intervals ≡ g.intervals ++ n ∷ []
    → n ≡ record { uuid = x.uuid; has_address = x.has_address; address = x.address; size = x.size; contents = x.contents; exprs = x.exprs; blocks = n.blocks; section = record { index = p } }
    → k ≡ record g { intervals = k.intervals; blocks = k.blocks }
    → PlacedIntervals p (x ∷ []) g (id ∷ []) k
interval-placed p x n g k id t at placed is e same =
    let bs : PlacedBlocks (length g.intervals) x.blocks g.blocks n.blocks k.blocks = subst (λ q. PlacedBlocks q x.blocks g.blocks n.blocks k.blocks) at placed in
    let node : interval_at k id ≡ n = ap (λ l. get_or l id.index no_interval) is ∙ get_or_push g.intervals n no_interval id.index (sym at) in
    let plain : Arenas → IntervalNode → Interval = λ a m. record {
      uuid = m.uuid;
      blocks = map (plain_block a) m.blocks;
      exprs = m.exprs;
      has_address = m.has_address;
      address = m.address;
      size = m.size;
      contents = m.contents;
    } in
    let read : map (λ (b : BlockId). get_or k.blocks b.index no_block) n.blocks ≡ map (placed_block (length g.intervals)) x.blocks =
    map-read (λ (b : BlockId). b.index) no_block g.blocks (map (placed_block (length g.intervals)) x.blocks) k.blocks n.blocks bs.nodes
    (bs.places ∙ ap (range_with_len (length g.blocks)) (sym (length-map x.blocks (placed_block (length g.intervals))))) in
    let value : BlockNode → Block = λ m. record { offset = m.offset; body = m.body } in
    let blocks : map (plain_block k) n.blocks ≡ x.blocks =
    sym (map-map value (λ (b : BlockId). get_or k.blocks b.index no_block) n.blocks) ∙ ap (map value) read
    ∙ map-map value (placed_block (length g.intervals)) x.blocks ∙ map-itself x.blocks in
    let one : plain_interval k id ≡ x =
    ap (plain k) node ∙ ap (plain k) e ∙ ap (λ l. record x { blocks = l }) blocks in
    let lists : block_lists k.intervals ≡ block_lists g.intervals ++ range_with_len (length (block_parents g.blocks)) (length x.blocks) ∷ [] =
    ap block_lists is ∙ map-append (λ (m : IntervalNode). block_places m.blocks) g.intervals (n ∷ [])
    ∙ ap (λ l. block_lists g.intervals ++ l ∷ []) (bs.places ∙ ap (λ m. range_with_len m (length x.blocks)) (sym (length-map g.blocks (λ (m : BlockNode). m.interval.index)))) in
    let parents : block_parents k.blocks ≡ block_parents g.blocks ++ replicate (length x.blocks) (length (block_lists g.intervals)) =
    ap block_parents bs.nodes ∙ map-append (λ (m : BlockNode). m.interval.index) g.blocks (map (placed_block (length g.intervals)) x.blocks)
    ∙ ap (λ l. block_parents g.blocks ++ l) (map-map (λ (m : BlockNode). m.interval.index) (placed_block (length g.intervals)) x.blocks
    ∙ map-constant (length g.intervals) x.blocks ∙ ap (replicate (length x.blocks)) (sym (length-map g.intervals (λ (m : IntervalNode). block_places m.blocks)))) in
    record {
      same = same;
      intervals = (n ∷ [], is);
      blocks = (map (placed_block (length g.intervals)) x.blocks, bs.nodes);
      parents = ap interval_parents is ∙ map-append (λ (m : IntervalNode). m.section.index) g.intervals (n ∷ [])
          ∙ ap (λ (m : IntervalNode). interval_parents g.intervals ++ m.section.index ∷ []) e;
      places = range-one (length g.intervals) id.index at;
      plain = ap (λ i. i ∷ []) one;
      tree = subst (λ l. Children l (block_parents k.blocks)) (sym lists)
          (subst (λ l. Children (block_lists g.intervals ++ range_with_len (length (block_parents g.blocks)) (length x.blocks) ∷ []) l) (sym parents)
          (Children-grown (block_lists g.intervals) (block_parents g.blocks) (length x.blocks) t));
    }

-- sections stay readable as the lists grow
pub keep_section : (g h : Arenas) (i : SectionId) → i.index < length g.sections → lower_tree g
    → Begins g.sections h.sections → Begins g.intervals h.intervals → Begins g.blocks h.blocks → plain_section h i ≡ plain_section g i
keep_section g h i at t ss is bs =
    let n : SectionNode = section_at g i in
    let node : section_at h i ≡ n = begins_get g.sections h.sections no_section i.index ss at in
    let plain : Arenas → SectionNode → Section = λ a m. record { uuid = m.uuid; name = m.name; intervals = map (plain_interval a) m.intervals; flags = m.flags } in
    let inside : (b : IntervalId) → Contains n.intervals b → b.index < length g.intervals = λ b m.
    let places : Contains (get_or (interval_lists g.sections) i.index []) b.index = rw (get_or-map (λ (k : SectionNode). interval_places k.intervals) g.sections i.index no_section [] at) (In-map (λ (k : IntervalId). k.index) n.intervals b m) in
    let len : i.index < length (interval_lists g.sections) = rw length-map at in
    rw length-map at (t.intervals.listed i.index b.index len places).0 in
    ap (plain h) node
    ∙ ap (λ l. record (plain g n) { intervals = l }) (map-same (plain_interval h) (plain_interval g) n.intervals
    (λ b m. keep_interval g h b (inside b m) t.blocks is bs))

-- the sections of a list, and then those of another
pub sections-none : (p : ℕ) (g : Arenas) → lower_tree g → PlacedSections p [] g [] g
sections-none p g t = record {
  same = refl;
  sections = begins_itself g.sections;
  intervals = begins_itself g.intervals;
  blocks = begins_itself g.blocks;
  parents = sym (append-nil (section_parents g.sections));
  places = refl;
  plain = refl;
  tree = t;
}

pub length-placed_sections : (p : ℕ) (xs : List Section) (g h : Arenas) (ids : List SectionId) → PlacedSections p xs g ids h
    → length h.sections ≡ length g.sections + length xs
length-placed_sections p xs g h ids t =
    sym (length-map h.sections (λ (n : SectionNode). n.module.index)) ∙ ap length t.parents
    ∙ length-append (section_parents g.sections) (replicate (length xs) p)
    ∙ (λ k. length-map g.sections (λ (n : SectionNode). n.module.index) k + length-replicate (length xs) p k)

pub sections-more : (p : ℕ) (xs ys : List Section) (g h k : Arenas) (ids jds : List SectionId)
    → PlacedSections p xs g ids h → PlacedSections p ys h jds k → PlacedSections p (xs ++ ys) g (ids ++ jds) k
sections-more p xs ys g h k ids jds t u =
    let len = length-placed_sections p xs g h ids t in
    record {
      same = u.same ∙ ap (λ (a : Arenas). record a { sections = k.sections; intervals = k.intervals; blocks = k.blocks }) t.same;
      sections = begins_through g.sections h.sections k.sections t.sections u.sections;
      intervals = begins_through g.intervals h.intervals k.intervals t.intervals u.intervals;
      blocks = begins_through g.blocks h.blocks k.blocks t.blocks u.blocks;
      parents = u.parents ∙ ap (λ l. l ++ replicate (length ys) p) t.parents ∙ append_assoc (section_parents g.sections) _ _
          ∙ ap (λ l. section_parents g.sections ++ l) (sym (ap (λ n. replicate n p) (length-append xs ys) ∙ replicate-add (length xs) (length ys) p));
      places = places_more (λ (i : SectionId). i.index) ids jds xs ys (length g.sections) (length h.sections) len t.places u.places;
      plain = map-append (plain_section k) ids jds
          ∙ (λ i. (map-same (plain_section k) (plain_section h) ids
          (λ id m. keep_section h k id (subst (λ n. id.index < n) (sym len) (in_places (λ (x : SectionId). x.index) ids (length g.sections) (length xs) t.places id m)) t.tree u.sections u.intervals u.blocks)
          ∙ t.plain) i ++ u.plain i);
      tree = u.tree;
    }

-- one section, with its intervals
pub section-placed : (p : ℕ) (x : Section) (n : SectionNode) (g h k : Arenas) (id : SectionId)
    → lower_tree g → id.index ≡ length g.sections → PlacedIntervals id.index x.intervals g n.intervals h
    → k.sections ≡ g.sections ++ n ∷ []
    → n ≡ record { uuid = x.uuid; name = x.name; flags = x.flags; intervals = n.intervals; «module» = record { index = p } }
    → k ≡ record h { sections = k.sections }
    → PlacedSections p (x ∷ []) g (id ∷ []) k
section-placed p x n g h k id t at placed ss e same =
    let is : PlacedIntervals (length g.sections) x.intervals g n.intervals h = subst (λ q. PlacedIntervals q x.intervals g n.intervals h) at placed in
    let intervals : k.intervals ≡ h.intervals = ap (λ (a : Arenas). a.intervals) same in
    let blocks : k.blocks ≡ h.blocks = ap (λ (a : Arenas). a.blocks) same in
    let node : section_at k id ≡ n = ap (λ l. get_or l id.index no_section) ss ∙ get_or_push g.sections n no_section id.index (sym at) in
    let plain : Arenas → SectionNode → Section = λ a m. record { uuid = m.uuid; name = m.name; intervals = map (plain_interval a) m.intervals; flags = m.flags } in
    let inner : map (plain_interval k) n.intervals ≡ x.intervals = ap (λ (a : Arenas). map (plain_interval a) n.intervals) same ∙ is.plain in
    let one : plain_section k id ≡ x =
    ap (plain k) node ∙ ap (plain k) e ∙ ap (λ l. record x { intervals = l }) inner in
    let lists : interval_lists k.sections ≡ interval_lists g.sections ++ range_with_len (length (interval_parents g.intervals)) (length x.intervals) ∷ [] =
    ap interval_lists ss ∙ map-append (λ (m : SectionNode). interval_places m.intervals) g.sections (n ∷ [])
    ∙ ap (λ l. interval_lists g.sections ++ l ∷ []) (is.places ∙ ap (λ m. range_with_len m (length x.intervals)) (sym (length-map g.intervals (λ (m : IntervalNode). m.section.index)))) in
    let parents : interval_parents k.intervals ≡ interval_parents g.intervals ++ replicate (length x.intervals) (length (interval_lists g.sections)) =
    ap interval_parents intervals ∙ is.parents
    ∙ ap (λ m. interval_parents g.intervals ++ replicate (length x.intervals) m) (sym (length-map g.sections (λ (m : SectionNode). interval_places m.intervals))) in
    record {
      same = same ∙ ap (λ (a : Arenas). record a { sections = k.sections }) is.same
          ∙ sym (λ i. record g { sections = k.sections; intervals = intervals i; blocks = blocks i });
      sections = (n ∷ [], ss);
      intervals = (is.intervals.0, intervals ∙ is.intervals.1);
      blocks = (is.blocks.0, blocks ∙ is.blocks.1);
      parents = ap section_parents ss ∙ map-append (λ (m : SectionNode). m.module.index) g.sections (n ∷ [])
          ∙ ap (λ (m : SectionNode). section_parents g.sections ++ m.module.index ∷ []) e;
      places = range-one (length g.sections) id.index at;
      plain = ap (λ i. i ∷ []) one;
      tree = record {
        blocks = subst (λ (a : Arenas). blocks_tree a) (sym same) is.tree;
        intervals = subst (λ l. Children l (interval_parents k.intervals)) (sym lists)
            (subst (λ l. Children (interval_lists g.sections ++ range_with_len (length (interval_parents g.intervals)) (length x.intervals) ∷ []) l) (sym parents)
            (Children-grown (interval_lists g.sections) (interval_parents g.intervals) (length x.intervals) t.intervals));
      };
    }

-- the same of a node whose texts and lists are copies
pub interval-put : (p : ℕ) (x : Interval) (contents : List ℕ) (exprs : List Expr) (ids : List BlockId) (g k : Arenas) (id : IntervalId)
    → blocks_tree g → id.index ≡ length g.intervals → PlacedBlocks id.index x.blocks g.blocks ids k.blocks
    → k.intervals ≡ g.intervals ++ record { uuid = x.uuid; has_address = x.has_address; address = x.address; size = x.size; contents = contents; exprs = exprs; blocks = ids; section = record { index = p } } ∷ []
    → contents ≡ x.contents → exprs ≡ x.exprs
    → k ≡ record g { intervals = k.intervals; blocks = k.blocks }
    → PlacedIntervals p (x ∷ []) g (id ∷ []) k
interval-put p x contents exprs ids g k id t at placed is ec ee same =
    interval-placed p x _ g k id t at placed is
    (λ i. record { uuid = x.uuid; has_address = x.has_address; address = x.address; size = x.size; contents = ec i; exprs = ee i; blocks = ids; section = record { index = p } })
    same

pub section-put : (p : ℕ) (x : Section) (name : List ℕ) (flags : List ℤ) (ids : List IntervalId) (g h k : Arenas) (id : SectionId)
    → lower_tree g → id.index ≡ length g.sections → PlacedIntervals id.index x.intervals g ids h
    → k.sections ≡ h.sections ++ record { uuid = x.uuid; name = name; flags = flags; intervals = ids; «module» = record { index = p } } ∷ []
    → name ≡ x.name → flags ≡ x.flags
    → k ≡ record h { sections = k.sections }
    → PlacedSections p (x ∷ []) g (id ∷ []) k
section-put p x name flags ids g h k id t at placed ss en ef same =
    section-placed p x _ g h k id t at placed (ss ∙ ap (λ (a : Arenas). a.sections ++ record { uuid = x.uuid; name = name; flags = flags; intervals = ids; «module» = record { index = p } } ∷ []) placed.same)
    (λ i. record { uuid = x.uuid; name = en i; flags = ef i; intervals = ids; «module» = record { index = p } })
    same

-- one more element of a mapped list
pub map-more : {X N : Type 0} (node : X → N) (xs : List X) (x : X) (old now new : List N) → now ≡ old ++ map node xs → new ≡ now ++ node x ∷ []
    → new ≡ old ++ map node (xs ++ x ∷ [])
map-more node xs x old now new t e = e ∙ ap (λ l. l ++ node x ∷ []) t ∙ append_assoc old (map node xs) (node x ∷ []) ∙ ap (λ l. old ++ l) (sym (map-append node xs (x ∷ [])))

-- a symbol whose name is a copy
pub symbol-put : (p : ℕ) (xs : List Symbol) (x : Symbol) (name : List ℕ) (old now new : List SymbolNode) (ids more : List SymbolId) (id : SymbolId)
    → PlacedSymbols p xs old ids now → id.index ≡ length now → more ≡ ids ++ id ∷ []
    → new ≡ now ++ record { uuid = x.uuid; name = name; at_end = x.at_end; payload = payloads.Nothing; «module» = record { index = p } } ∷ []
    → name ≡ x.name → PlacedSymbols p (xs ++ x ∷ []) old more new
symbol-put p xs x name old now new ids more id t at m e en =
    subst (λ l. PlacedSymbols p (xs ++ x ∷ []) old l new) (sym m)
    (appended-more (λ (i : SymbolId). i.index) (placed_symbol p) xs x old now new ids id t at
    (e ∙ (λ i. now ++ record { uuid = x.uuid; name = en i; at_end = x.at_end; payload = payloads.Nothing; «module» = record { index = p } } ∷ [])))
