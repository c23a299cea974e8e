-- Symbols that the module has, or lacks, name one thing in both programs.
use Rattle.std.proofs.Common.{◌≡◌, ℕ, ℤ, ◌⊎◌, inl, inr, Bool, true, false, List, [], ◌∷◌, ◌++◌, length, map, Option, Some, None, refl, sym, ap, subst, ◌∙◌}
use Rattle.std.specs.Prelude.{find, if◌then◌else◌, IsSome}
use Rattle.std.specs.List.{flat_map}
use Rattle.std.specs.Option.{IsSomeAnd, option_map, option_map_or}
use Rattle.std.specs.Str.{bytes_eq}
use Rattle.std.proofs.lemmas.Option.{none-some, same_Some}
use Rattle.aux_tables.specs.ModuleTables.{tables_of}
use Rattle.edge_repair.specs.Repaired.{repaired_module}
use Rattle.gt_model.specs.declared.intervals.Block.{Block}
use Rattle.gt_model.specs.declared.intervals.Interval.{Interval}
use Rattle.gt_model.specs.declared.ir.Ir.{Ir}
use Rattle.gt_model.specs.declared.modules.Module.{Module}
use Rattle.gt_model.specs.declared.symbols.Payload.{Payload}
use Rattle.gt_model.specs.declared.symbols.Payload.TheVariants as payloads
use Rattle.gt_model.specs.declared.symbols.Symbol.{Symbol}
use Rattle.repaired_programs.specs.Named.{IsOneTarget}
use Rattle.repaired_programs.specs.Programs.{repaired_program}
use Rattle.repaired_programs.specs.Symbols.{IsLoadedPayload}
use Rattle.rewrite.specs.Identifiers.{new_symbol_id}
use Rattle.rewrite.specs.Symbols.{end_holder, end_payload, function_symbols, last_id, moved_symbol, name_symbol, names_of}
use Rattle.sym_expr.specs.declared.layout.Layout.{Layout}
use Rattle.sym_expr.specs.declared.patches.Function.{Function}
use Rattle.sym_expr.specs.declared.patches.PatchTable.{PatchTable}
use Rattle.sym_expr.specs.declared.program.CodeBlock.{CodeBlock}
use Rattle.sym_expr.specs.declared.program.Program.{Program}
use Rattle.sym_expr.specs.declared.target.Target.{Target}
use Rattle.sym_expr.specs.declared.target.Target.TheVariants.{Undefined}
use Rattle.sym_expr.specs.Derived.{derived, function_text, interval_text}
use Rattle.sym_expr.specs.Images.{target_value, undefined_in}
use Rattle.sym_expr.specs.Linkable.{formed}
use Rattle.sym_expr.specs.Modules.{block_of, blocks_of, has_id, id_of, loaded_intervals}
use Rattle.sym_expr.specs.Patches.{FunPlace, function_blocks, name_in, no_patches}
use Rattle.sym_expr.specs.Points.{code_at, code_blocks}
use Rattle.sym_expr.specs.Program.{program}
use Rattle.sym_expr.specs.Targets.{block_target, old_target, symbol_target}
use Rattle.taken_ids.specs.Identifiers.{block_ids, derived_ids, function_ids, labels, symbol_id as name_id}
use Rattle.repaired_images.proofs.Apart.{id_same, same_id}
use Rattle.repaired_images.proofs.Free.{function_derived, IsFree}
use Rattle.repaired_images.proofs.Homes.{comes_from, HasHome}
use Rattle.repaired_images.proofs.Lists.{found_in, found_some, In, in_back, in_either, in_flat, in_front, in_map, out_filter_map, out_flat, out_map}
use Rattle.repaired_images.proofs.Named.{referent_held}
use Rattle.repaired_images.proofs.Origins.{block_origin}

-- ---- the symbols of functions have identifiers that are derived

name_derived : (m : Module) (f : Function) (name : List ℕ) → In name (names_of f) → In (new_symbol_id m name) (function_ids m.uuid f)
name_derived m f name h =
    let blocks = block_ids m.uuid f.name 0 (length (function_blocks f)) in
    let interval = derived m.uuid (interval_text f.name) in
    let symbols = map (name_id m.uuid) (f.name ∷ labels f) in
    in_front (new_symbol_id m name) ((interval ∷ blocks) ++ symbols) (derived m.uuid (function_text f.name) ∷ []) (in_back (new_symbol_id m name) (interval ∷ blocks) symbols (in_map (name_id m.uuid) name (f.name ∷ labels f) h))

named_symbol : (m : Module) (f : Function) (name : List ℕ) (o : Option FunPlace) (s : Symbol) → option_map (name_symbol m f name) o ≡ Some s → s.uuid ≡ new_symbol_id m name
named_symbol m f name None s e = absurd (none-some s e)
named_symbol m f name (Some place) s e = ap (λ (x : Symbol). x.uuid) (sym (same_Some (name_symbol m f name place) s e))

new_derived : (m : Module) (p : PatchTable) (s : Symbol) → In s (flat_map (function_symbols m) p.functions) → In s.uuid (derived_ids m p)
new_derived m p s h =
    let f = out_flat (function_symbols m) s p.functions h in
    let name = out_filter_map (λ x. option_map (name_symbol m f.0 x) (name_in x f.0)) s (names_of f.0) f.2 in
    let same = named_symbol m f.0 name.0 (name_in name.0 f.0) s name.2 in
    function_derived m p s.uuid (in_flat (function_ids m.uuid) f.0 s.uuid p.functions f.1 (subst (λ z. In z (function_ids m.uuid f.0)) (sym same) (name_derived m f.0 name.0 name.1)))

moved_keeps : (m : Module) (g : Program) (s : Symbol) (x : Bool) → (if x then record s { payload = end_payload m g s.payload } else s).uuid ≡ s.uuid
moved_keeps m g s true = refl
moved_keeps m g s false = refl

abbrev has_uuid : List ℕ → Symbol → Bool
has_uuid id s = bytes_eq s.uuid id

found_moved : (m : Module) (g : Program) (id : List ℕ) (ss more : List Symbol) (s : Symbol) → find (has_uuid id) ss ≡ Some s → find (has_uuid id) (map (moved_symbol m g) ss ++ more) ≡ Some (moved_symbol m g s)
found_moved m g id [] more s e = absurd (none-some s e)
found_moved m g id (x ∷ ss) more s e =
    ap (λ (k : List ℕ). if bytes_eq k id then Some (moved_symbol m g x) else find (has_uuid id) (map (moved_symbol m g) ss ++ more)) (moved_keeps m g x x.at_end)
    ∙ either (bytes_eq x.uuid id) e (λ f. found_moved m g id ss more s f)
  where
    either : (c : Bool) → (if c then Some x else find (has_uuid id) ss) ≡ Some s → (find (has_uuid id) ss ≡ Some s → find (has_uuid id) (map (moved_symbol m g) ss ++ more) ≡ Some (moved_symbol m g s))
        → (if c then Some (moved_symbol m g x) else find (has_uuid id) (map (moved_symbol m g) ss ++ more)) ≡ Some (moved_symbol m g s)
    either true f rest = ap (λ o. option_map (moved_symbol m g) o) f
    either false f rest = rest f

none_of : {X : Type 0} (o : Option X) → ((x : X) → o ≡ Some x → ⊥) → o ≡ None
none_of None h = refl
none_of (Some x) h = absurd (h x refl)

-- what the law on symbols of loaded blocks says
abbrev pub SymbolsOne : Module → PatchTable → Layout → Type 0
SymbolsOne m p l =
    (id : List ℕ) (offset : ℤ) → IsSomeAnd (find (λ (s : Symbol). bytes_eq s.uuid id) m.symbols) (λ (s : Symbol). IsLoadedPayload m s.payload)
    → IsOneTarget l (repaired_program m (tables_of m) p) (program m (tables_of m) p) (old_target (repaired_module m (tables_of m) p) no_patches id offset) (old_target m p id offset)

module _ (ir : Ir) (m : Module) (p : PatchTable) (l : Layout) (h : formed ir m (tables_of m)) (free : IsFree ir m p) (loaded : SymbolsOne m p l) where
  abbrev g : Program
  g = program m (tables_of m) p

  abbrev n : Module
  n = repaired_module m (tables_of m) p

  abbrev new : Program
  new = repaired_program m (tables_of m) p

  abbrev pub OneTarget : Target → Target → Type 0
  OneTarget a b = IsOneTarget l (repaired_program m (tables_of m) p) (program m (tables_of m) p) a b

  both_undefined : (a b : Target) (id : List ℕ) → a ≡ Undefined id → b ≡ Undefined id → OneTarget a b
  both_undefined a b id e f = record { value = ap (target_value l new) e ∙ sym (ap (target_value l g) f); undefined = ap undefined_in e ∙ sym (ap undefined_in f) }

  -- ---- a block that isn't loaded

  module _ (id : List ℕ) (kept : In id (derived_ids m p) → ⊥) (none : block_of id (blocks_of (loaded_intervals m)) ≡ None) where
    not_loaded : (b : Block) → In b (blocks_of (loaded_intervals m)) → id_of b ≡ id → ⊥
    not_loaded b k e = let z = found_some (has_id id) b (blocks_of (loaded_intervals m)) k (id_same (id_of b) id e) in none-some z.0 (sym none ∙ z.1)

    no_code : code_at g id ≡ None
    no_code =
        none_of (code_at g id) (λ b e.
        let found = found_in (λ (c : CodeBlock). bytes_eq c.id id) b (code_blocks g) e in
        from b (same_id b.id id found.1) (comes_from m (tables_of m) p b found.0))
      where
        from : (b : CodeBlock) → b.id ≡ id → HasHome m p b ⊎ In b.id (flat_map (function_ids m.uuid) p.functions) → ⊥
        from b same (inl home) = not_loaded home.block (in_flat (λ (i : Interval). i.blocks) home.interval home.block (loaded_intervals m) home.loaded home.among) (sym (ap (λ (c : CodeBlock). c.id) home.is) ∙ same)
        from b same (inr k) = kept (function_derived m p id (subst (λ z. In z (flat_map (function_ids m.uuid) p.functions)) same k))

    none_now : block_of id (blocks_of (loaded_intervals n)) ≡ None
    none_now =
        none_of (block_of id (blocks_of (loaded_intervals n))) (λ b e.
        let found = found_in (has_id id) b (blocks_of (loaded_intervals n)) e in
        from b (same_id (id_of b) id found.1) (block_origin m p b found.0))
      where
        from : (b : Block) → id_of b ≡ id → In (id_of b) (map id_of (blocks_of (loaded_intervals m))) ⊎ In (id_of b) (derived_ids m p) → ⊥
        from b same (inl k) = let c = out_map id_of (id_of b) (blocks_of (loaded_intervals m)) k in not_loaded c.0 c.1 (sym c.2 ∙ same)
        from b same (inr k) = kept (subst (λ z. In z (derived_ids m p)) same k)

    its_end : end_holder m g id ≡ id
    its_end = ap (λ o. option_map_or (last_id m) o id) no_code

    moved_undefined : (uuid name : List ℕ) (at_end : Bool) (offset : ℤ) → symbol_target n no_patches (moved_symbol m g (record { uuid = uuid; name = name; at_end = at_end; payload = payloads.Referent id })) offset ≡ Undefined uuid
    moved_undefined uuid name true offset =
        ap (λ x. option_map_or (block_target no_patches true offset) (block_of x (blocks_of (loaded_intervals n))) (Undefined uuid)) its_end
        ∙ ap (λ o. option_map_or (block_target no_patches true offset) o (Undefined uuid)) none_now
    moved_undefined uuid name false offset = ap (λ o. option_map_or (block_target no_patches false offset) o (Undefined uuid)) none_now

    symbol_undefined : (s : Symbol) (offset : ℤ) → s.payload ≡ payloads.Referent id → OneTarget (symbol_target n no_patches (moved_symbol m g s) offset) (symbol_target m p s offset)
    symbol_undefined s offset e =
        let P : Payload → Type 0 = λ x. let v : Symbol = record { uuid = s.uuid; name = s.name; at_end = s.at_end; payload = x } in OneTarget (symbol_target n no_patches (moved_symbol m g v) offset) (symbol_target m p v offset) in
        let v : Symbol = record { uuid = s.uuid; name = s.name; at_end = s.at_end; payload = payloads.Referent id } in
        let old : symbol_target m p v offset ≡ Undefined s.uuid = ap (λ o. option_map_or (block_target p s.at_end offset) o (Undefined s.uuid)) none in
        let here : P (payloads.Referent id) = both_undefined (symbol_target n no_patches (moved_symbol m g v) offset) (symbol_target m p v offset) s.uuid (moved_undefined s.uuid s.name s.at_end offset) old in
        subst P (sym e) here

  -- ---- a symbol of the module

  by_law : (id : List ℕ) (offset : ℤ) (s : Symbol) → find (has_uuid id) m.symbols ≡ Some s → IsLoadedPayload m s.payload → OneTarget (old_target n no_patches id offset) (old_target m p id offset)
  by_law id offset s e k = loaded id offset (subst (λ o. IsSomeAnd o (λ (x : Symbol). IsLoadedPayload m x.payload)) (sym e) k)

  by_symbol : (id : List ℕ) (offset : ℤ) (s : Symbol) → find (has_uuid id) m.symbols ≡ Some s → OneTarget (symbol_target n no_patches (moved_symbol m g s) offset) (symbol_target m p s offset) → OneTarget (old_target n no_patches id offset) (old_target m p id offset)
  by_symbol id offset s e k =
      let now : old_target n no_patches id offset ≡ symbol_target n no_patches (moved_symbol m g s) offset =
      ap (λ o. option_map_or (λ x. symbol_target n no_patches x offset) o (Undefined id)) (found_moved m g id m.symbols (flat_map (function_symbols m) p.functions) s e) in
      let before : old_target m p id offset ≡ symbol_target m p s offset = ap (λ o. option_map_or (λ x. symbol_target m p x offset) o (Undefined id)) e in
      record {
        value = ap (target_value l new) now ∙ k.value ∙ sym (ap (target_value l g) before);
        undefined = ap undefined_in now ∙ k.undefined ∙ sym (ap undefined_in before);
      }

  by_block : (id : List ℕ) (offset : ℤ) (s : Symbol) (on : List ℕ) (o : Option Block) → find (has_uuid id) m.symbols ≡ Some s → s.payload ≡ payloads.Referent on → block_of on (blocks_of (loaded_intervals m)) ≡ o
      → OneTarget (old_target n no_patches id offset) (old_target m p id offset)
  by_block id offset s on (Some b) e q f = by_law id offset s e (subst (IsLoadedPayload m) (sym q) (subst (λ (x : Option Block). IsSome x) (sym f) refl))
  by_block id offset s on None e q f =
      let among = (found_in (has_uuid id) s m.symbols e).0 in
      by_symbol id offset s e (symbol_undefined on (λ k. free.unheld on k (referent_held ir m (tables_of m) h s on among q)) f s offset q)

  by_payload : (id : List ℕ) (offset : ℤ) (s : Symbol) (x : Payload) → find (has_uuid id) m.symbols ≡ Some s → s.payload ≡ x → OneTarget (old_target n no_patches id offset) (old_target m p id offset)
  by_payload id offset s payloads.Nothing e q = by_law id offset s e (subst (IsLoadedPayload m) (sym q) tt)
  by_payload id offset s (payloads.Value value) e q = by_law id offset s e (subst (IsLoadedPayload m) (sym q) tt)
  by_payload id offset s (payloads.Referent on) e q = by_block id offset s on (block_of on (blocks_of (loaded_intervals m))) e q refl

  -- ---- none of its symbols

  no_symbol : (id : List ℕ) → (In id (derived_ids m p) → ⊥) → find (has_uuid id) m.symbols ≡ None → find (has_uuid id) n.symbols ≡ None
  no_symbol id kept none =
      none_of (find (has_uuid id) n.symbols) (λ z e.
      let found = found_in (has_uuid id) z n.symbols e in
      from z (same_id z.uuid id found.1) (in_either z (map (moved_symbol m g) m.symbols) (flat_map (function_symbols m) p.functions) found.0))
    where
      from : (z : Symbol) → z.uuid ≡ id → In z (map (moved_symbol m g) m.symbols) ⊎ In z (flat_map (function_symbols m) p.functions) → ⊥
      from z same (inl k) =
          let s = out_map (moved_symbol m g) z m.symbols k in
          let own : s.0.uuid ≡ id = sym (ap (λ (x : Symbol). x.uuid) s.2 ∙ moved_keeps m g s.0 s.0.at_end) ∙ same in
          let y = found_some (has_uuid id) s.0 m.symbols s.1 (id_same s.0.uuid id own) in
          none-some y.0 (sym none ∙ y.1)
      from z same (inr k) = kept (subst (λ x. In x (derived_ids m p)) same (new_derived m p z k))

  -- whatever isn't derived names one thing
  pub old_one : (id : List ℕ) (offset : ℤ) → (In id (derived_ids m p) → ⊥) → OneTarget (old_target n no_patches id offset) (old_target m p id offset)
  old_one id offset kept = by (find (has_uuid id) m.symbols) refl
    where
      by : (o : Option Symbol) → find (has_uuid id) m.symbols ≡ o → OneTarget (old_target n no_patches id offset) (old_target m p id offset)
      by (Some s) e = by_payload id offset s s.payload e refl
      by None e =
          both_undefined (old_target n no_patches id offset) (old_target m p id offset) id (ap (λ o. option_map_or (λ x. symbol_target n no_patches x offset) o (Undefined id)) (no_symbol id kept e))
          (ap (λ o. option_map_or (λ x. symbol_target m p x offset) o (Undefined id)) e)
