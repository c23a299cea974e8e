-- The references of a rewritten module land.
use Rattle.std.proofs.Common.{◌≡◌, ◌≢◌, ℕ, ◌⊎◌, inl, inr, Bool, true, false, List, [], ◌++◌, map, Option, Some, None, refl, sym, subst, eq-eqb}
use Rattle.std.specs.Prelude.{MatchOption, find, is_some, ◌==◌, if◌then◌else◌}
use Rattle.std.specs.List.{AllByRecursion as Every, flat_map, list_any}
use Rattle.std.specs.Option.{option_map, option_map_or, option_to_list}
use Rattle.std.specs.Str.{bytes_eq}
use Rattle.std.proofs.lemmas.Bool.{false≢true}
use Rattle.std.proofs.lemmas.Option.{none-some, same_Some}
use Rattle.aux_tables.specs.ModuleTables.{tables_of}
use Rattle.gt_model.specs.declared.exprs.Expr.{Expr}
use Rattle.gt_model.specs.declared.intervals.Interval.{Interval}
use Rattle.gt_model.specs.declared.ir.Ir.{Ir}
use Rattle.gt_model.specs.declared.modules.Module.{Module}
use Rattle.gt_model.specs.declared.modules.Section.{Section}
use Rattle.gt_model.specs.declared.symbols.Payload.{Payload}
use Rattle.gt_model.specs.declared.symbols.Payload.TheVariants as payloads
use Rattle.gt_model.specs.declared.symbols.Symbol.{Symbol}
use Rattle.gt_model.specs.Linked.{Lands}
use Rattle.gt_model.specs.Nodes.{Node, ASymbol, CodeBlock as CodeKind, ids, node, nodes, module_nodes}
use Rattle.gt_model.specs.References.{Reference, EntryOf, ReferentOf, SymbolOf, expr_references, interval_references, module_references, reference, section_references, symbol_references}
use Rattle.gt_model.specs.Views.{referent_of}
use Rattle.rewrite.specs.Functions.{function_interval}
use Rattle.block_parts.specs.Parts.{parts}
use Rattle.rewrite.specs.Identifiers.{last_part, new_symbol_id, part_id, symbol_id}
use Rattle.rewrite.specs.Rewritten.{has_words, new_interval, new_intervals, new_section, rewritten_module, stretched}
use Rattle.rewrite.specs.Symbols.{end_payload, function_symbols, holder, last_id, moved_symbol, name_symbol, names_of, new_symbols}
use Rattle.sym_expr.specs.declared.patches.Function.{Function}
use Rattle.sym_expr.specs.declared.patches.PatchTable.{PatchTable}
use Rattle.sym_expr.specs.declared.patches.SymbolName.{SymbolName}
use Rattle.sym_expr.specs.declared.patches.SymbolName.TheVariants as names
use Rattle.sym_expr.specs.declared.program.CodeBlock.{CodeBlock}
use Rattle.sym_expr.specs.declared.program.Stretch.{Stretch}
use Rattle.sym_expr.specs.Linkable.{formed}
use Rattle.sym_expr.specs.Modules.{is_loaded, loaded_sections}
use Rattle.sym_expr.specs.Patches.{FunPlace, name_in}
use Rattle.sym_expr.specs.Points.{code_at, code_blocks}
use Rattle.sym_expr.specs.Program.{has_entry, program, stretch}
use Rattle.sym_expr.specs.TableOk.{IsNamed, IsTarget, IsWord, is_aimed, function_words, new_names, patch_words, table_ok}
use Rattle.taken_ids.specs.Identifiers.{function_ids, part_ids}
use Rattle.rewritten_links.proofs.Added.{function_there, has_entry_section, holder_there, interval_there, name_there, old_symbol_there}
use Rattle.rewritten_links.proofs.Apart.{Apart, same_id}
use Rattle.rewritten_links.proofs.Brought.{IsBrought, from_function, from_interval}
use Rattle.rewritten_links.proofs.Homes.{HasHome, comes_from}
use Rattle.rewritten_links.proofs.Kept.{AreWhole, Sub, module_kept, part_kept}
use Rattle.rewritten_links.proofs.Lands.{every_append, every_back, every_flat, every_front, every_one, every_weaker, land, landed}
use Rattle.rewritten_links.proofs.Lists.{In, found_in, in_back, in_contained, in_either, in_front, in_map, of_every, out_filter, out_filter_map, out_flat, out_map}
use Rattle.rewritten_links.proofs.Parts.{last_is_part}
use Rattle.rewritten_links.proofs.Places.{IsFree}

named_some : {A B : Type 0} (f : A → B) (o : Option A) (y : B) → option_map f o ≡ Some y → (x : A) × (o ≡ Some x) × (y ≡ f x)
named_some f None y e = absurd (none-some y e)
named_some f (Some x) y e = (x, refl, sym (same_Some (f x) y e))

-- the module is rewritten at this ordinal, and these are all nodes then
pub record IsThere (ir : Ir) (m : Module) (p : PatchTable) (k : ℕ) (new : List Node) : Type 0 where
  pub formed : formed ir m (tables_of m)
  pub accepted : table_ok m p
  pub free : IsFree ir m p
  pub whole : AreWhole
  pub apart : Apart (ids new)
  pub own : Sub (module_nodes k (rewritten_module m (tables_of m) p)) new
  pub kept : (r : Reference) → Lands (nodes ir) r → Lands new r

module _ (ir : Ir) (m : Module) (p : PatchTable) (k : ℕ) (new : List Node) (h : IsThere ir m p k new) where
  same_ordinal : (k == k) ≡ true
  same_ordinal = eq-eqb k k refl

  -- ---- symbols

  block_lands : (from id : List ℕ) → In (node id (CodeKind k)) (module_nodes k (rewritten_module m (tables_of m) p)) → Lands new (reference from (ReferentOf k) id)
  block_lands from id l = land new h.apart (reference from (ReferentOf k) id) (node id (CodeKind k)) (h.own (node id (CodeKind k)) l) refl same_ordinal

  -- the parts of a block of a loaded interval are code blocks of the module
  pub home_part : (b : CodeBlock) (id : List ℕ) → HasHome m p b → In id (map (part_id m b.id) (parts b)) → In (node id (CodeKind k)) (module_nodes k (rewritten_module m (tables_of m) p))
  home_part b id home l =
      let i = home.interval in
      let at = out_flat (λ (s : Section). s.intervals) i (loaded_sections m) home.loaded in
      let s = out_filter is_loaded at.0 m.sections at.1 in
      let there = in_front (new_interval m (tables_of m) p i) (map (new_interval m (tables_of m) p) at.0.intervals) (if has_entry m at.0 then map (function_interval m) p.functions else []) (in_map (new_interval m (tables_of m) p) i at.0.intervals at.2) in
      let own = subst (λ (c : CodeBlock). In id (map (part_id m c.id) (parts c))) home.is l in
      interval_there k m (tables_of m) p at.0 (new_interval m (tables_of m) p i) s.0 s.1 there (node id (CodeKind k)) (part_kept h.whole k m (tables_of m) p i home.block id home.among home.code own)

  home_last : (b : CodeBlock) → HasHome m p b → In (node (last_id m b) (CodeKind k)) (module_nodes k (rewritten_module m (tables_of m) p))
  home_last b home = home_part b (last_id m b) home (in_map (part_id m b.id) (last_part (parts b)) (parts b) (last_is_part b))

  from_code : (from id : List ℕ) (b : CodeBlock) → b.id ≡ id → Lands (nodes ir) (reference from (ReferentOf k) id) → HasHome m p b ⊎ In b.id (flat_map (function_ids m.uuid) p.functions) → Lands new (reference from (ReferentOf k) (last_id m b))
  from_code from id b e old (inl home) = block_lands from (last_id m b) (home_last b home)
  from_code from id b e old (inr made) =
      let n = landed (nodes ir) (reference from (ReferentOf k) id) old in
      let held : In id (ids (nodes ir)) = subst (λ z. In z (ids (nodes ir))) n.2 (in_map (λ (x : Node). x.id) n.0 (nodes ir) n.1) in
      let derived = in_back b.id (flat_map (part_ids m.uuid) (code_blocks (program m (tables_of m) p))) (flat_map (function_ids m.uuid) p.functions) made in
      absurd (h.free.unheld b.id derived (subst (λ z. In z (ids (nodes ir))) (sym e) held))

  end_lands : (from id : List ℕ) (o : Option CodeBlock) → code_at (program m (tables_of m) p) id ≡ o → Lands (nodes ir) (reference from (ReferentOf k) id) → Lands new (reference from (ReferentOf k) (option_map_or (last_id m) o id))
  end_lands from id None e old = h.kept (reference from (ReferentOf k) id) old
  end_lands from id (Some b) e old =
      let found = found_in (λ (c : CodeBlock). bytes_eq c.id id) b (code_blocks (program m (tables_of m) p)) e in
      from_code from id b (same_id b.id id found.1) old (comes_from m (tables_of m) p b found.0)

  payload_lands : (from : List ℕ) (y : Payload) → Every (Lands (nodes ir)) (map (reference from (ReferentOf k)) (option_to_list (referent_of y)))
      → Every (Lands new) (map (reference from (ReferentOf k)) (option_to_list (referent_of (end_payload m (program m (tables_of m) p) y))))
  payload_lands from payloads.Nothing old = tt
  payload_lands from (payloads.Value value) old = tt
  payload_lands from (payloads.Referent id) old = (end_lands from id (code_at (program m (tables_of m) p) id) refl old.0, tt)

  either_lands : (s : Symbol) (x : Bool) → Every (Lands (nodes ir)) (symbol_references k s)
      → Every (Lands new) (symbol_references k (if x then record s { payload = end_payload m (program m (tables_of m) p) s.payload } else s))
  either_lands s true old = payload_lands s.uuid s.payload old
  either_lands s false old = every_weaker (Lands (nodes ir)) (Lands new) h.kept (symbol_references k s) old

  name_lands : (f : Function) (name : List ℕ) (place : FunPlace) → In f p.functions → name_in name f ≡ Some place → Every (Lands new) (symbol_references k (name_symbol m f name place))
  name_lands f name place l e =
      let words = of_every (λ (g : Function). function_words g ≢ []) f p.functions h.accepted.bodies l in
      let entry = has_entry_section ir m (tables_of m) h.formed in
      (block_lands (new_symbol_id m name) (holder m f place) (function_there k m (tables_of m) p f entry l (node (holder m f place) (CodeKind k)) (holder_there k m f name place words e)), tt)

  function_lands : (f : Function) (s : Symbol) → In f p.functions → In s (function_symbols m f) → Every (Lands new) (symbol_references k s)
  function_lands f s l n =
      let name = out_filter_map (λ name. option_map (name_symbol m f name) (name_in name f)) s (names_of f) n in
      let place = named_some (name_symbol m f name.0) (name_in name.0 f) s name.2 in
      subst (λ (y : Symbol). Every (Lands new) (symbol_references k y)) (sym place.2) (name_lands f name.0 place.0 l place.1)

  symbols_land : Every (Lands (nodes ir)) (flat_map (symbol_references k) m.symbols) → Every (Lands new) (flat_map (symbol_references k) (new_symbols m (program m (tables_of m) p) p))
  symbols_land old =
      every_flat (symbol_references k) (Lands new) (new_symbols m (program m (tables_of m) p) p) (λ s l.
      elim (in_either s (map (moved_symbol m (program m (tables_of m) p)) m.symbols) (flat_map (function_symbols m) p.functions) l) [
        | inl n ↦
            let y = out_map (moved_symbol m (program m (tables_of m) p)) s m.symbols n in
            subst (λ (x : Symbol). Every (Lands new) (symbol_references k x)) (sym y.2) (either_lands y.0 y.0.at_end (every_one (symbol_references k) (Lands (nodes ir)) m.symbols y.0 old y.1))
        | inr n ↦
            let f = out_flat (function_symbols m) s p.functions n in
            function_lands f.0 s f.1 f.2
      ])

  -- ---- expressions

  symbol_lands : (from id : List ℕ) → In (node id (ASymbol k)) (module_nodes k (rewritten_module m (tables_of m) p)) → Lands new (reference from (SymbolOf k) id)
  symbol_lands from id l = land new h.apart (reference from (SymbolOf k) id) (node id (ASymbol k)) (h.own (node id (ASymbol k)) l) refl same_ordinal

  old_lands : (from id : List ℕ) (o : Option Symbol) → find (λ (s : Symbol). bytes_eq s.uuid id) m.symbols ≡ o → is_some o ≡ true → Lands new (reference from (SymbolOf k) id)
  old_lands from id None e some = absurd (false≢true some)
  old_lands from id (Some s) e some =
      let found = found_in (λ (x : Symbol). bytes_eq x.uuid id) s m.symbols e in
      let there = module_kept k m (tables_of m) p (node s.uuid (ASymbol k)) (old_symbol_there k m s found.0) in
      symbol_lands from id (subst (λ z. In (node z (ASymbol k)) (module_nodes k (rewritten_module m (tables_of m) p))) (same_id s.uuid id found.1) there)

  named_lands : (from : List ℕ) (name : SymbolName) → IsNamed m p name → Lands new (reference from (SymbolOf k) (symbol_id m name))
  named_lands from (names.Old id) named = old_lands from id (find (λ (s : Symbol). bytes_eq s.uuid id) m.symbols) refl named
  named_lands from (names.New name) named = symbol_lands from (new_symbol_id m name) (name_there k m (tables_of m) p name (in_contained name (new_names p) named))

  brought_lands : (from : List ℕ) (x : Expr) → IsBrought m (patch_words p) x → Every (Lands new) (expr_references k from x)
  brought_lands from x b =
      let word = of_every (IsWord m p) b.word (patch_words p) h.accepted.words b.among in
      let target : IsTarget m p b.word.word b.target = subst (λ o. MatchOption o (is_aimed b.word.word ≡ false) (IsTarget m p b.word.word)) b.has word in
      subst (λ (e : Expr). Every (Lands new) (expr_references k from e)) (sym b.is) (named_lands from b.target.symbol target.named, tt)

  either_interval : (i : Interval) (s : Stretch) (x : Bool) → Every (Lands (nodes ir)) (interval_references k i) → Every (Lands new) (interval_references k (if x then stretched m p i s else i))
  either_interval i s true old =
      every_flat (expr_references k i.uuid) (Lands new) (stretched m p i s).exprs (λ x l.
      elim (from_interval m p i s x l) [
        | inl e ↦
            subst (λ (y : Expr). Every (Lands new) (expr_references k i.uuid y)) (sym e.2)
            (every_weaker (Lands (nodes ir)) (Lands new) h.kept (expr_references k i.uuid e.0) (every_one (expr_references k i.uuid) (Lands (nodes ir)) i.exprs e.0 old e.1))
        | inr b ↦ brought_lands i.uuid x b
      ])
  either_interval i s false old = every_weaker (Lands (nodes ir)) (Lands new) h.kept (interval_references k i) old

  function_refers : (f : Function) → In f p.functions → Every (Lands new) (interval_references k (function_interval m f))
  function_refers f l = every_flat (expr_references k (function_interval m f).uuid) (Lands new) (function_interval m f).exprs (λ x n. brought_lands (function_interval m f).uuid x (from_function m p f x l n))

  extra_refers : (x : Bool) (j : Interval) → In j (if x then map (function_interval m) p.functions else []) → Every (Lands new) (interval_references k j)
  extra_refers true j l =
      let f = out_map (function_interval m) j p.functions l in
      subst (λ (i : Interval). Every (Lands new) (interval_references k i)) (sym f.2) (function_refers f.0 f.1)
  extra_refers false j l = absurd l

  either_refers : (s : Section) (x : Bool) → Every (Lands (nodes ir)) (section_references k s) → Every (Lands new) (section_references k (if x then record s { intervals = new_intervals m (tables_of m) p s } else s))
  either_refers s true old =
      every_flat (interval_references k) (Lands new) (new_intervals m (tables_of m) p s) (λ j l.
      elim (in_either j (map (new_interval m (tables_of m) p) s.intervals) (if has_entry m s then map (function_interval m) p.functions else []) l) [
        | inl n ↦
            let i = out_map (new_interval m (tables_of m) p) j s.intervals n in
            subst (λ (y : Interval). Every (Lands new) (interval_references k y)) (sym i.2)
            (either_interval i.0 (stretch m (tables_of m) p i.0) (list_any (has_words p) i.0.blocks) (every_one (interval_references k) (Lands (nodes ir)) s.intervals i.0 old i.1))
        | inr n ↦ extra_refers (has_entry m s) j n
      ])
  either_refers s false old = every_weaker (Lands (nodes ir)) (Lands new) h.kept (section_references k s) old

  sections_land : Every (Lands (nodes ir)) (flat_map (section_references k) m.sections) → Every (Lands new) (flat_map (section_references k) (map (new_section m (tables_of m) p) m.sections))
  sections_land old =
      every_flat (section_references k) (Lands new) (map (new_section m (tables_of m) p) m.sections) (λ r l.
      let s = out_map (new_section m (tables_of m) p) r m.sections l in
      subst (λ (y : Section). Every (Lands new) (section_references k y)) (sym s.2) (either_refers s.0 (is_loaded s.0) (every_one (section_references k) (Lands (nodes ir)) m.sections s.0 old s.1)))

  -- ---- all of the module

  pub module_lands : Every (Lands (nodes ir)) (module_references k m) → Every (Lands new) (module_references k (rewritten_module m (tables_of m) p))
  module_lands old =
      let entry = map (reference m.uuid (EntryOf k)) (option_to_list m.entry) in
      let symbols = flat_map (symbol_references k) m.symbols in
      let sections = flat_map (section_references k) m.sections in
      let moved = flat_map (symbol_references k) (new_symbols m (program m (tables_of m) p) p) in
      let front = every_front (Lands (nodes ir)) (entry ++ symbols) sections old in
      every_append (Lands new) (entry ++ moved) (flat_map (section_references k) (map (new_section m (tables_of m) p) m.sections))
      (every_append (Lands new) entry moved (every_weaker (Lands (nodes ir)) (Lands new) h.kept entry (every_front (Lands (nodes ir)) entry symbols front)) (symbols_land (every_back (Lands (nodes ir)) entry symbols front)))
      (sections_land (every_back (Lands (nodes ir)) (entry ++ symbols) sections old))
