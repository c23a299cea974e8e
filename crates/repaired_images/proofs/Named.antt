-- What symbols and expressions of a module name is a node, and nothing that patches derive.
use Rattle.std.proofs.Common.{◌≡◌, ℕ, ◌+◌, inl, inr, List, [], ◌∷◌, ◌++◌, map, refl, sym, subst}
use Rattle.std.specs.List.{flat_map}
use Rattle.std.specs.Option.{option_to_list}
use Rattle.gt_model.specs.declared.exprs.Expr.{Expr}
use Rattle.gt_model.specs.declared.intervals.Interval.{Interval}
use Rattle.gt_model.specs.declared.ir.Ir.{Ir}
use Rattle.gt_model.specs.declared.modules.Module.{Module}
use Rattle.gt_model.specs.declared.symbols.Payload.TheVariants as payloads
use Rattle.gt_model.specs.declared.symbols.Symbol.{Symbol}
use Rattle.gt_model.specs.Linked.{Lands}
use Rattle.gt_model.specs.Nodes.{ids, Node, nodes}
use Rattle.gt_model.specs.References.{cfg_references, expr_references, interval_references, module_references, Reference, reference, ReferentOf, references, references_from, section_references, EntryOf, SymbolOf, symbol_references, symbols_of}
use Rattle.gt_model.specs.Views.{referent_of}
use Rattle.sym_expr.specs.Linkable.{formed}
use Rattle.sym_expr.specs.Modules.{loaded_intervals}
use Rattle.sym_expr.specs.Tables.{Tables}
use Rattle.repaired_images.proofs.Blocks.{loaded_inside}
use Rattle.repaired_images.proofs.Lands.{landed}
use Rattle.repaired_images.proofs.Lists.{In, in_back, in_contained, in_flat, in_front, in_map, of_every}

-- a module has its references in the IR
module_there : (m : Module) (k : ℕ) (ms : List Module) → In m ms → (j : ℕ) × ((r : Reference) → In r (module_references j m) → In r (references_from k ms))
module_there m k [] h = absurd h
module_there m k (x ∷ ms) (inl e) = (k, λ r l. in_front r (module_references k x) (references_from (k + 1) ms) (subst (λ (z : Module). In r (module_references k z)) e l))
module_there m k (x ∷ ms) (inr h) = let rest = module_there m (k + 1) ms h in (rest.0, λ r l. in_back r (module_references k x) (references_from (k + 1) ms) (rest.1 r l))

module _ (ir : Ir) (m : Module) (t : Tables) (h : formed ir m t) where
  reference_held : (r : Reference) → In r (references_from 0 ir.modules) → In r.to (ids (nodes ir))
  reference_held r l =
      let n = landed (nodes ir) r (of_every (Lands (nodes ir)) r (references ir) h.linked.links.lands (in_front r (references_from 0 ir.modules) (flat_map (cfg_references ir.uuid) (option_to_list ir.cfg)) l)) in
      subst (λ z. In z (ids (nodes ir))) n.2 (in_map (λ (x : Node). x.id) n.0 (nodes ir) n.1)

  abbrev first : ℕ → List Reference
  first j = map (reference m.uuid (EntryOf j)) (option_to_list m.entry)

  -- the block that a symbol stands for
  pub referent_held : (s : Symbol) (id : List ℕ) → In s m.symbols → s.payload ≡ payloads.Referent id → In id (ids (nodes ir))
  referent_held s id k e =
      let at = module_there m 0 ir.modules (in_contained m ir.modules h.member) in
      let r : Reference = reference s.uuid (ReferentOf at.0) id in
      let own : In r (symbol_references at.0 s) = subst (λ x. In r (map (reference s.uuid (ReferentOf at.0)) (option_to_list (referent_of x)))) (sym e) (inl refl) in
      let symbols : List Reference = flat_map (symbol_references at.0) m.symbols in
      let sections : List Reference = flat_map (section_references at.0) m.sections in
      reference_held r (at.1 r (in_front r (first at.0 ++ symbols) sections (in_back r (first at.0) symbols (in_flat (symbol_references at.0) s r m.symbols k own))))

  -- the symbols that an expression names
  pub expr_held : (i : Interval) (e : Expr) (id : List ℕ) → In i (loaded_intervals m) → In e i.exprs → In id (symbols_of e.value) → In id (ids (nodes ir))
  expr_held i e id k l n =
      let at = module_there m 0 ir.modules (in_contained m ir.modules h.member) in
      let r : Reference = reference i.uuid (SymbolOf at.0) id in
      let own : In r (expr_references at.0 i.uuid e) = in_map (reference i.uuid (SymbolOf at.0)) id (symbols_of e.value) n in
      let inside = loaded_inside m i k in
      let there : In r (section_references at.0 inside.section) = in_flat (interval_references at.0) i r inside.section.intervals inside.inner (in_flat (expr_references at.0 i.uuid) e r i.exprs l own) in
      let symbols : List Reference = flat_map (symbol_references at.0) m.symbols in
      let sections : List Reference = flat_map (section_references at.0) m.sections in
      reference_held r (at.1 r (in_back r (first at.0 ++ symbols) sections (in_flat (section_references at.0) inside.section r m.sections inside.outer there)))
