-- The children of a node that is there are there.
use Rattle.std.proofs.Common.{◌≡◌, ℕ, ◌<◌, true, ap, List, [], ◌++◌, map, length, get_or, subst}
use Rattle.std.specs.Prelude.{All, Contains}
use Rattle.std.proofs.lemmas.List.{get_or-map, length-map}
use Rattle.std.proofs.lemmas.List.Elements.{All-same, All-append}
use Rattle.node_arena.specs.Arenas.{Arenas, no_module, no_section, no_interval, module_at, section_at, interval_at, block_at}
use Rattle.node_arena.specs.Sound.{Children, sound}
use Rattle.node_arena.specs.declared.ids.BlockId.{BlockId}
use Rattle.node_arena.specs.declared.ids.IntervalId.{IntervalId}
use Rattle.node_arena.specs.declared.ids.ModuleId.{ModuleId}
use Rattle.node_arena.specs.declared.ids.SectionId.{SectionId}
use Rattle.node_arena.specs.declared.ids.SymbolId.{SymbolId}
use Rattle.node_arena.specs.declared.nodes.SymbolNode.{SymbolNode}
use Rattle.gt_model.specs.declared.intervals.Body.TheVariants as bodies
use Rattle.gt_model.specs.Linked.{is_bare_body}
use Rattle.node_arena.specs.declared.nodes.BlockNode.{BlockNode}
use Rattle.node_arena.specs.declared.nodes.IntervalNode.{IntervalNode}
use Rattle.node_arena.specs.declared.nodes.ModuleNode.{ModuleNode}
use Rattle.node_arena.specs.declared.nodes.SectionNode.{SectionNode}
use Rattle.ir_check.specs.Spans.{AreSections, AreIntervals, AreBlocks}

-- the list of a parent has places of children alone
listed : {I N M : Type 0} (place : I → ℕ) (ids : N → List I) (parent : M → ℕ) (nodes : List N) (children : List M)
    → Children (map (λ n. map place (ids n)) nodes) (map parent children) → (p : ℕ) (d : N) → p < length nodes → All (λ id. place id < length children) (ids (get_or nodes p d))
listed place ids parent nodes children tree p d within k e inside =
    let lists = map (λ n. map place (ids n)) nodes in
    let at : get_or lists p [] ≡ map place (ids (get_or nodes p d)) = get_or-map (λ n. map place (ids n)) nodes p d [] within in
    let held : Contains (map place (ids (get_or nodes p d))) (place (get_or (ids (get_or nodes p d)) k e)) =
    (k, rw length-map inside, get_or-map place (ids (get_or nodes p d)) k e _ inside) in
    let there = tree.listed p (place (get_or (ids (get_or nodes p d)) k e)) (rw length-map within) (rw at held) in
    subst (λ (n : ℕ). place (get_or (ids (get_or nodes p d)) k e) < n) (length-map children parent) there.0

pub live_sections : (g : Arenas) (id : ModuleId) → sound g → id.index < length g.modules → AreSections g (module_at g id).sections
live_sections g id s within = listed (λ (c : SectionId). c.index) (λ (n : ModuleNode). n.sections) (λ (n : SectionNode). n.module.index) g.modules g.sections s.tree.sections id.index no_module within

pub live_intervals : (g : Arenas) (id : SectionId) → sound g → id.index < length g.sections → AreIntervals g (section_at g id).intervals
live_intervals g id s within = listed (λ (c : IntervalId). c.index) (λ (n : SectionNode). n.intervals) (λ (n : IntervalNode). n.section.index) g.sections g.intervals s.tree.intervals id.index no_section within

pub live_blocks : (g : Arenas) (id : IntervalId) → sound g → id.index < length g.intervals → AreBlocks g (interval_at g id).blocks
live_blocks g id s within = listed (λ (c : BlockId). c.index) (λ (n : IntervalNode). n.blocks) (λ (n : BlockNode). n.interval.index) g.intervals g.blocks s.tree.blocks id.index no_interval within

-- the same of one child, as a loop comes to it
pub live_section_at : (g : Arenas) (id : ModuleId) (ids : List SectionId) (k : ℕ) → sound g → id.index < length g.modules → ids ≡ (module_at g id).sections → k < length ids → (get_or ids k (record { index = 0 })).index < length g.sections
live_section_at g id ids k s within same inside = All-same (λ (c : SectionId). c.index < length g.sections) ids (module_at g id).sections same (live_sections g id s within) k (record { index = 0 }) inside

pub live_block_at : (g : Arenas) (id : IntervalId) (ids : List BlockId) (k : ℕ) → sound g → id.index < length g.intervals → ids ≡ (interval_at g id).blocks → k < length ids → (get_or ids k (record { index = 0 })).index < length g.blocks
live_block_at g id ids k s within same inside = All-same (λ (c : BlockId). c.index < length g.blocks) ids (interval_at g id).blocks same (live_blocks g id s within) k (record { index = 0 }) inside

pub intervals_more : (g : Arenas) (xs ys zs : List IntervalId) → zs ≡ xs ++ ys → AreIntervals g xs → AreIntervals g ys → AreIntervals g zs
intervals_more g xs ys zs same left right = All-same (λ (c : IntervalId). c.index < length g.intervals) zs (xs ++ ys) same (All-append (λ (c : IntervalId). c.index < length g.intervals) xs ys left right)

-- the symbols of a module
pub live_symbols : (g : Arenas) (id : ModuleId) → sound g → id.index < length g.modules → All (λ (c : SymbolId). c.index < length g.symbols) (module_at g id).symbols
live_symbols g id s within = listed (λ (c : SymbolId). c.index) (λ (n : ModuleNode). n.symbols) (λ (n : SymbolNode). n.module.index) g.modules g.symbols s.tree.symbols id.index no_module within

pub live_symbol_at : (g : Arenas) (id : ModuleId) (ids : List SymbolId) (k : ℕ) → sound g → id.index < length g.modules → ids ≡ (module_at g id).symbols → k < length ids → (get_or ids k (record { index = 0 })).index < length g.symbols
live_symbol_at g id ids k s within same inside = All-same (λ (c : SymbolId). c.index < length g.symbols) ids (module_at g id).symbols same (live_symbols g id s within) k (record { index = 0 }) inside

-- a block is not bare
pub not_bare : (g : Arenas) (id : BlockId) → sound g → id.index < length g.blocks → (block_at g id).body ≡ bodies.Bare → ⊥
not_bare g id s within bare = let solid = s.solid id.index within in let is : is_bare_body (block_at g id).body ≡ true = ap is_bare_body bare in cc
