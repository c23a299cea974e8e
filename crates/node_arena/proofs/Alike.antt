-- A graph whose nodes stand for the same, below the same parents: only what no reference reads has changed.
use Rattle.std.proofs.Common.{◌≡◌, ℕ, ◌<◌, Bool, List, [], ◌++◌, length, get_or, map, Option, refl, sym, ap, ◌∙◌, subst}
use Rattle.std.specs.Prelude.{false}
use Rattle.std.proofs.lemmas.List.{append-nil}
use Rattle.std.proofs.Math.Seq.{map-set_same}
use Rattle.gt_model.specs.declared.intervals.Body.{Body}
use Rattle.gt_model.specs.declared.intervals.Body.TheVariants as bodies
use Rattle.node_arena.specs.declared.ids.NodeRef.{NodeRef}
use Rattle.node_arena.specs.declared.nodes.BlockNode.{BlockNode}
use Rattle.node_arena.specs.declared.nodes.IntervalNode.{IntervalNode}
use Rattle.node_arena.specs.declared.nodes.ModuleNode.{ModuleNode}
use Rattle.node_arena.specs.declared.nodes.NodePayload.TheVariants as payloads
use Rattle.node_arena.specs.declared.nodes.ProxyNode.{ProxyNode}
use Rattle.node_arena.specs.declared.nodes.SectionNode.{SectionNode}
use Rattle.node_arena.specs.declared.nodes.SymbolNode.{SymbolNode}
use Rattle.node_arena.specs.Arenas.{Arenas, no_block}
use Rattle.node_arena.specs.Changes.{sized}
use Rattle.node_arena.specs.Placing.{Begins}
use Rattle.node_arena.specs.Sound.{Children, tree, section_places, symbol_places, proxy_places, interval_places, block_places, lands, flow, sorted, sound, Finds}
use Rattle.node_arena.proofs.Kept.{Extends, module_core, section_core, interval_core, body_core, block_core, symbol_core, begun_within, kept_solid, names_found, finds_kept}
use Rattle.node_arena.proofs.Lists.{map-map, map-same}

-- a node without what no reference reads
abbrev pub module_frame : ModuleNode → ModuleNode
module_frame n = record n { aux = [] }

abbrev pub interval_frame : IntervalNode → IntervalNode
interval_frame n = record n { size = 0; contents = []; exprs = [] }

abbrev pub block_frame : BlockNode → BlockNode
block_frame n = record n { offset = 0; body = sized n.body 0 }

abbrev pub symbol_frame : SymbolNode → SymbolNode
symbol_frame n = record n { payload = payloads.Nothing }

pub record Alike (g h : Arenas) : Type 0 where
  pub uuid : h.uuid ≡ g.uuid
  pub modules : map module_frame h.modules ≡ map module_frame g.modules
  pub sections : h.sections ≡ g.sections
  pub intervals : map interval_frame h.intervals ≡ map interval_frame g.intervals
  pub blocks : map block_frame h.blocks ≡ map block_frame g.blocks
  pub symbols : map symbol_frame h.symbols ≡ map symbol_frame g.symbols
  pub proxies : h.proxies ≡ g.proxies

pub alike-sym : (g h : Arenas) → Alike g h → Alike h g
alike-sym g h a = record {
  uuid = sym a.uuid;
  modules = sym a.modules;
  sections = sym a.sections;
  intervals = sym a.intervals;
  blocks = sym a.blocks;
  symbols = sym a.symbols;
  proxies = sym a.proxies;
}

-- what is read of the frames of nodes
pub read : {N C : Type 0} (frame : N → N) (f : N → C) → ((n : N) → f (frame n) ≡ f n) → (xs ys : List N) → map frame ys ≡ map frame xs → map f ys ≡ map f xs
read {N} frame f same xs ys e = through ys ∙ ap (map f) e ∙ sym (through xs)
  where
    through : (zs : List N) → map f zs ≡ map f (map frame zs)
    through zs = sym (map-map f frame zs ∙ map-same (λ (n : N). f (frame n)) f zs (λ n m. same n))

pub sized-core : (b : Body) (size : ℕ) → body_core (sized b size) ≡ body_core b
sized-core bodies.Bare size = refl
sized-core (bodies.Code uuid old decode_mode) size = refl
sized-core (bodies.Data uuid old) size = refl

pub sized-sized : (b : Body) (m n : ℕ) → sized (sized b m) n ≡ sized b n
sized-sized bodies.Bare m n = refl
sized-sized (bodies.Code uuid old decode_mode) m n = refl
sized-sized (bodies.Data uuid old) m n = refl

begun : {A : Type 0} (xs ys : List A) → ys ≡ xs → Begins xs ys
begun xs ys e = ([], e ∙ sym (append-nil xs))

block-core : (n : BlockNode) → block_core (block_frame n) ≡ block_core n
block-core n = ap (λ (c : List ℕ × Bool × Bool). (n.interval, c)) (sized-core n.body 0)

pub extends_alike : (g h : Arenas) → Alike g h → Extends g h
extends_alike g h a = record {
  uuid = a.uuid;
  modules = read module_frame module_core (λ n. refl) g.modules h.modules a.modules;
  sections = ap (map section_core) a.sections;
  intervals = begun _ _ (read interval_frame interval_core (λ n. refl) g.intervals h.intervals a.intervals);
  blocks = begun _ _ (read block_frame block_core block-core g.blocks h.blocks a.blocks);
  symbols = begun _ _ (read symbol_frame symbol_core (λ n. refl) g.symbols h.symbols a.symbols);
  proxies = a.proxies;
}

pub Children-same : (ls ms : List (List ℕ)) (ps qs : List ℕ) → ms ≡ ls → qs ≡ ps → Children ls ps → Children ms qs
Children-same ls ms ps qs l p t = subst (λ (k : List (List ℕ)). Children k qs) (sym l) (subst (λ (k : List ℕ). Children ls k) (sym p) t)

pub tree_alike : (g h : Arenas) → Alike g h → tree g → tree h
tree_alike g h a t = record {
  sections = Children-same _ _ _ _ (read module_frame (λ (n : ModuleNode). section_places n.sections) (λ n. refl) g.modules h.modules a.modules)
      (ap (map (λ (n : SectionNode). n.module.index)) a.sections) t.sections;
  symbols = Children-same _ _ _ _ (read module_frame (λ (n : ModuleNode). symbol_places n.symbols) (λ n. refl) g.modules h.modules a.modules)
      (read symbol_frame (λ (n : SymbolNode). n.module.index) (λ n. refl) g.symbols h.symbols a.symbols) t.symbols;
  proxies = Children-same _ _ _ _ (read module_frame (λ (n : ModuleNode). proxy_places n.proxies) (λ n. refl) g.modules h.modules a.modules)
      (ap (map (λ (n : ProxyNode). n.module.index)) a.proxies) t.proxies;
  intervals = Children-same _ _ _ _ (ap (map (λ (n : SectionNode). interval_places n.intervals)) a.sections)
      (read interval_frame (λ (n : IntervalNode). n.section.index) (λ n. refl) g.intervals h.intervals a.intervals) t.intervals;
  blocks = Children-same _ _ _ _ (read interval_frame (λ (n : IntervalNode). block_places n.blocks) (λ n. refl) g.intervals h.intervals a.intervals)
      (read block_frame (λ (n : BlockNode). n.interval.index) (λ n. refl) g.blocks h.blocks a.blocks) t.blocks;
}

-- what holds of a graph, and of an index that finds its nodes
pub record Stands (g : Arenas) (found : List ℕ → Option NodeRef) : Type 0 where
  pub sound : sound g
  pub finds : Finds g found

pub stands_alike : (g h : Arenas) (found : List ℕ → Option NodeRef) → Alike g h → Stands g found → lands h → flow h → sorted h → Stands h found
stands_alike g h found a s l f o =
    let there = extends_alike g h a in
    let back = extends_alike h g (alike-sym g h a) in
    let finds = finds_kept g h found there back s.finds in
    record {
      sound = record {
        tree = tree_alike g h a s.sound.tree;
        solid = λ k m.
            let old = begun_within block_core h.blocks g.blocks back.blocks k m in
            kept_solid g h there (record { index = k }) old ∙ s.sound.solid k old;
        names = names_found h found finds;
        lands = l;
        flow = f;
        sorted = o;
      };
      finds = finds;
    }
