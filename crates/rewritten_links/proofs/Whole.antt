-- A rewritten IR is linked.
use Rattle.std.proofs.Common.{◌≡◌, ℕ, ◌+◌, ◌≤◌, inl, inr, Bool, true, false, List, [], ◌∷◌, ◌++◌, map, None, refl, sym, ap, subst, ◌∙◌, arith}
use Rattle.std.specs.Prelude.{Contains, if◌then◌else◌}
use Rattle.std.specs.List.{AllByRecursion as Every, flat_map, list_any}
use Rattle.std.specs.Option.{option_to_list}
use Rattle.std.specs.Str.{bytes_eq}
use Rattle.std.proofs.lemmas.Bool.{cases_Bool, false_from_ne_true}
use Rattle.aux_tables.specs.ModuleTables.{tables_of}
use Rattle.gt_model.specs.declared.intervals.Interval.{Interval}
use Rattle.gt_model.specs.declared.ir.Ir.{Ir}
use Rattle.gt_model.specs.declared.modules.Module.{Module}
use Rattle.gt_model.specs.declared.modules.Section.{Section}
use Rattle.gt_model.specs.Linked.{Lands, intervals, linked}
use Rattle.gt_model.specs.Nodes.{Node, TheIr, ids, module_nodes, node, nodes, nodes_from}
use Rattle.gt_model.specs.References.{Reference, cfg_references, module_references, references_from}
use Rattle.rewrite.specs.Rewritten.{rewritten, rewritten_module}
use Rattle.sym_expr.specs.declared.patches.PatchTable.{PatchTable}
use Rattle.sym_expr.specs.Linkable.{formed}
use Rattle.sym_expr.specs.Modules.{has_id, id_of}
use Rattle.sym_expr.specs.Program.{entry_of, has_entry}
use Rattle.sym_expr.specs.TableOk.{table_ok}
use Rattle.taken_ids.specs.Faults.{id_fault}
use Rattle.taken_ids.specs.Identifiers.{derived_ids}
use Rattle.taken_ids.specs.NodeIds.{block_ids, ir_ids, module_ids, section_ids, symbol_id}
use Rattle.rewritten_links.proofs.Added.{any_out}
use Rattle.rewritten_links.proofs.Apart.{Apart, apart_back, apart_of_pairs, one_holder, same_id, id_same}
use Rattle.rewritten_links.proofs.Bare.{IsWhole, module_whole, section_intervals}
use Rattle.rewritten_links.proofs.Blocks.{in_interval, in_section, own_id, sections_apart, whole_blocks}
use Rattle.rewritten_links.proofs.Counts.{apart_of_once, once_in_both, pairs_of_apart, times, times_append}
use Rattle.rewritten_links.proofs.Distinct.{module_less}
use Rattle.rewritten_links.proofs.Kept.{AreWhole, Sub, module_kept, sub_both, sub_next}
use Rattle.rewritten_links.proofs.Lands.{every_append, every_back, every_front, every_weaker, keep}
use Rattle.rewritten_links.proofs.Lists.{In, every_of, in_back, in_contained, in_flat, in_front, of_every, out_flat, out_map}
use Rattle.rewritten_links.proofs.NodeLists.{of_ir}
use Rattle.rewritten_links.proofs.Places.{IsFree, free_of}
use Rattle.rewritten_links.proofs.Refers.{IsThere, module_lands}

-- what a module of the IR becomes
abbrev pub changed : Module → PatchTable → Module → Module
changed m p x = if bytes_eq x.uuid m.uuid then rewritten_module x (tables_of m) p else x

-- of these modules only m has its identifier
abbrev pub Alone : Module → List Module → Type 0
Alone m ms = (x : Module) → In x ms → bytes_eq x.uuid m.uuid ≡ true → x ≡ m

ids_apart : (ir : Ir) → linked ir → Apart (ir_ids ir)
ids_apart ir h = subst Apart (of_ir ir) (apart_of_pairs (ids (nodes ir)) h.distinct)

pub alone : (ir : Ir) (m : Module) → linked ir → Contains ir.modules m → Alone m ir.modules
alone ir m h k x l e =
    one_holder module_ids x m m.uuid ir.modules (ids_apart ir h).1 l (in_contained m ir.modules k) (inl (sym (same_id x.uuid m.uuid e))) (inl refl)

-- ---- nodes

either_nodes : (j : ℕ) (m : Module) (p : PatchTable) (x : Module) (b : Bool) → Sub (module_nodes j x) (module_nodes j (if b then rewritten_module x (tables_of m) p else x))
either_nodes j m p x true = module_kept j x (tables_of m) p
either_nodes j m p x false = λ n h. h

modules_kept : (j : ℕ) (m : Module) (p : PatchTable) (ms : List Module) → Sub (nodes_from j ms) (nodes_from j (map (changed m p) ms))
modules_kept j m p [] = λ n h. h
modules_kept j m p (x ∷ ms) =
    sub_both (module_nodes j x) (module_nodes j (changed m p x)) (nodes_from (j + 1) ms) (nodes_from (j + 1) (map (changed m p) ms)) (either_nodes j m p x (bytes_eq x.uuid m.uuid)) (modules_kept (j + 1) m p ms)

nodes_kept : (ir : Ir) (m : Module) (p : PatchTable) → Sub (nodes ir) (nodes (rewritten ir m.uuid (tables_of m) p))
nodes_kept ir m p = sub_next (node ir.uuid TheIr) (nodes_from 0 ir.modules) (nodes_from 0 (map (changed m p) ir.modules)) (modules_kept 0 m p ir.modules)

-- ---- identifiers

entry_held : (ir : Ir) (m : Module) → linked ir → Contains ir.modules m → (s : Section) → In s m.sections → has_entry m s ≡ true → In (entry_of m) (section_ids s)
entry_held ir m h k s l e =
    let i = any_out (λ (i : Interval). list_any (has_id (entry_of m)) i.blocks) s.intervals e in
    let b = any_out (has_id (entry_of m)) i.0.blocks i.2 in
    let whole = whole_blocks ir m b.0 h k (record { interval = i.0; inside = record { section = s; outer = l; inner = i.1 }; among = b.1 }) in
    let own : In (entry_of m) (block_ids b.0) = subst (λ z. In z (block_ids b.0)) (same_id (id_of b.0) (entry_of m) b.2) (own_id b.0 whole) in
    in_section (entry_of m) i.0 s i.1 (in_interval (entry_of m) b.0 i.0 b.1 own)

abbrev Less : List ℕ → Module → PatchTable → Module → Type 0
Less id m p x = times id (module_ids (rewritten_module x (tables_of m) p)) ≤ times id (module_ids x) + times id (derived_ids m p)

unchanged : (m : Module) (p : PatchTable) (ms : List Module) → ((x : Module) → In x ms → bytes_eq x.uuid m.uuid ≡ false) → map (changed m p) ms ≡ ms
unchanged m p [] h = refl
unchanged m p (x ∷ ms) h =
    ap (λ y. y ∷ map (changed m p) ms) (ap (λ y. if y then rewritten_module x (tables_of m) p else x) (h x (inl refl)))
    ∙ ap (λ l. x ∷ l) (unchanged m p ms (λ y k. h y (inr k)))

-- the identifier of a module is that of no other
no_other : (m x : Module) (ms : List Module) → Apart (flat_map module_ids (x ∷ ms)) → bytes_eq x.uuid m.uuid ≡ true → (y : Module) → In y ms → bytes_eq y.uuid m.uuid ≡ false
no_other m x ms apart e y k =
    false_from_ne_true (bytes_eq y.uuid m.uuid) (λ f.
    let same : x.uuid ≡ y.uuid = same_id x.uuid m.uuid e ∙ sym (same_id y.uuid m.uuid f) in
    apart.0 (in_back x.uuid (x.proxies ++ map symbol_id x.symbols ++ flat_map section_ids x.sections) (flat_map module_ids ms) (in_flat module_ids y x.uuid ms k (inl same))))

modules_less : (id : List ℕ) (m : Module) (p : PatchTable) (ms : List Module) → Apart (flat_map module_ids ms) → ((x : Module) → In x ms → bytes_eq x.uuid m.uuid ≡ true → Less id m p x)
    → times id (flat_map module_ids (map (changed m p) ms)) ≤ times id (flat_map module_ids ms) + times id (derived_ids m p)
modules_less id m p [] apart h = omega arith
modules_less id m p (x ∷ ms) apart h =
    let a = times_append id (module_ids (changed m p x)) (flat_map module_ids (map (changed m p) ms)) in
    let b = times_append id (module_ids x) (flat_map module_ids ms) in
    elim (cases_Bool (bytes_eq x.uuid m.uuid)) [
      | inl e ↦
          let same = ap (λ l. times id (flat_map module_ids l)) (unchanged m p ms (no_other m x ms apart e)) in
          let new = ap (λ y. times id (module_ids (if y then rewritten_module x (tables_of m) p else x))) e in
          let here = h x (inl refl) e in
          omega (arith, a, b, same, new, here)
      | inr e ↦
          let old = ap (λ y. times id (module_ids (if y then rewritten_module x (tables_of m) p else x))) e in
          let rest = modules_less id m p ms (apart_back (module_ids x) (flat_map module_ids ms) apart) (λ y k. h y (inr k)) in
          omega (arith, a, b, old, rest)
    ]

new_apart : (ir : Ir) (m : Module) (p : PatchTable) → linked ir → Contains ir.modules m → IsFree ir m p → Apart (ir_ids (rewritten ir m.uuid (tables_of m) p))
new_apart ir m p h k free =
    apart_of_once (ir_ids (rewritten ir m.uuid (tables_of m) p)) (λ id.
    let own = λ (x : Module) (l : In x ir.modules) (e : bytes_eq x.uuid m.uuid ≡ true).
    subst (Less id m p) (sym (alone ir m h k x l e)) (module_less id m (tables_of m) p (sections_apart ir m h k) (entry_held ir m h k)) in
    let less = modules_less id m p ir.modules (ids_apart ir h).1 own in
    let both = once_in_both id (ir_ids ir) (derived_ids m p) (ids_apart ir h) free.apart (λ z l d. free.unheld z d (subst (In z) (sym (of_ir ir)) l)) in
    omega (arith, less, both))

-- ---- blocks

either_whole : (m : Module) (p : PatchTable) (x : Module) (b : Bool) (j : Interval) → ((i : Interval) → In i (section_intervals x) → IsWhole i) → In j (section_intervals (if b then rewritten_module x (tables_of m) p else x)) → IsWhole j
either_whole m p x true j h k = module_whole x (tables_of m) p j h k
either_whole m p x false j h k = h j k

all_whole : (ir : Ir) (m : Module) (p : PatchTable) → linked ir → Every IsWhole (intervals (rewritten ir m.uuid (tables_of m) p))
all_whole ir m p h =
    every_of IsWhole (intervals (rewritten ir m.uuid (tables_of m) p)) (λ j l.
    let y = out_flat section_intervals j (map (changed m p) ir.modules) l in
    let x = out_map (changed m p) y.0 ir.modules y.1 in
    either_whole m p x.0 (bytes_eq x.0.uuid m.uuid) j (λ i n. of_every IsWhole i (intervals ir) h.no_bare (in_flat section_intervals x.0 i ir.modules x.1 n)) (subst (λ (z : Module). In j (section_intervals z)) x.2 y.2))

-- ---- references

module _ (ir : Ir) (m : Module) (p : PatchTable) (new : List Node) (is_formed : formed ir m (tables_of m)) (accepted : table_ok m p) (free : IsFree ir m p) (whole : AreWhole) (apart : Apart (ids new)) (kept : (r : Reference) → Lands (nodes ir) r → Lands new r) where
  one_module : (j : ℕ) (x : Module) → (bytes_eq x.uuid m.uuid ≡ true → x ≡ m) → Every (Lands (nodes ir)) (module_references j x) → Sub (module_nodes j (changed m p x)) new → Every (Lands new) (module_references j (changed m p x))
  one_module j x only old own =
      elim (cases_Bool (bytes_eq x.uuid m.uuid)) [
        | inl e ↦
            let same : changed m p x ≡ rewritten_module m (tables_of m) p = ap (λ y. if y then rewritten_module x (tables_of m) p else x) e ∙ ap (λ (z : Module). rewritten_module z (tables_of m) p) (only e) in
            let there : IsThere ir m p j new = record {
              formed = is_formed;
              accepted = accepted;
              free = free;
              whole = whole;
              apart = apart;
              own = subst (λ (z : Module). Sub (module_nodes j z) new) same own;
              kept = kept;
            } in
            subst (λ (z : Module). Every (Lands new) (module_references j z)) (sym same) (module_lands ir m p j new there (subst (λ (z : Module). Every (Lands (nodes ir)) (module_references j z)) (only e) old))
        | inr e ↦
            let same : changed m p x ≡ x = ap (λ y. if y then rewritten_module x (tables_of m) p else x) e in
            subst (λ (z : Module). Every (Lands new) (module_references j z)) (sym same) (every_weaker (Lands (nodes ir)) (Lands new) kept (module_references j x) old)
      ]

  modules_land : (j : ℕ) (ms : List Module) → Alone m ms → Every (Lands (nodes ir)) (references_from j ms) → Sub (nodes_from j (map (changed m p) ms)) new → Every (Lands new) (references_from j (map (changed m p) ms))
  modules_land j [] only old own = tt
  modules_land j (x ∷ ms) only old own =
      every_append (Lands new) (module_references j (changed m p x)) (references_from (j + 1) (map (changed m p) ms))
      (one_module j x (only x (inl refl)) (every_front (Lands (nodes ir)) (module_references j x) (references_from (j + 1) ms) old)
      (λ n h. own n (in_front n (module_nodes j (changed m p x)) (nodes_from (j + 1) (map (changed m p) ms)) h)))
      (modules_land (j + 1) ms (λ y k. only y (inr k)) (every_back (Lands (nodes ir)) (module_references j x) (references_from (j + 1) ms) old)
      (λ n h. own n (in_back n (module_nodes j (changed m p x)) (nodes_from (j + 1) (map (changed m p) ms)) h)))

pub stays_linked : AreWhole → (ir : Ir) (m : Module) (p : PatchTable) → formed ir m (tables_of m) → table_ok m p → id_fault ir m p ≡ None → linked (rewritten ir m.uuid (tables_of m) p)
stays_linked whole ir m p h accepted no_fault =
    let free = free_of ir m p no_fault in
    let links = h.linked.links in
    let new = nodes (rewritten ir m.uuid (tables_of m) p) in
    let apart : Apart (ids new) = subst Apart (sym (of_ir (rewritten ir m.uuid (tables_of m) p))) (new_apart ir m p links h.member free) in
    let kept = keep (nodes ir) new apart (nodes_kept ir m p) in
    let flows = flat_map (cfg_references ir.uuid) (option_to_list ir.cfg) in
    record {
      distinct = pairs_of_apart (ids new) apart;
      no_bare = all_whole ir m p links;
      lands =
          every_append (Lands new) (references_from 0 (map (changed m p) ir.modules)) flows
          (modules_land ir m p new h accepted free whole apart kept 0 ir.modules (alone ir m links h.member) (every_front (Lands (nodes ir)) (references_from 0 ir.modules) flows links.lands) (λ n k. inr k))
          (every_weaker (Lands (nodes ir)) (Lands new) kept flows (every_back (Lands (nodes ir)) (references_from 0 ir.modules) flows links.lands));
    }

-- ---- the module in the rewritten IR

changed_itself : (m : Module) (p : PatchTable) → changed m p m ≡ rewritten_module m (tables_of m) p
changed_itself m p = ap (λ x. if x then rewritten_module m (tables_of m) p else m) (id_same m.uuid m.uuid refl)

module_at : (j : ℕ) (m : Module) (p : PatchTable) (ms : List Module) → In m ms → (k : ℕ) × Sub (module_nodes k (changed m p m)) (nodes_from j (map (changed m p) ms))
module_at j m p [] h = absurd h
module_at j m p (x ∷ ms) (inl e) =
    (j, λ n l. in_front n (module_nodes j (changed m p x)) (nodes_from (j + 1) (map (changed m p) ms)) (subst (λ (z : Module). In n (module_nodes j (changed m p z))) e l))
module_at j m p (x ∷ ms) (inr h) =
    let rest = module_at (j + 1) m p ms h in
    (rest.0, λ n l. in_back n (module_nodes j (changed m p x)) (nodes_from (j + 1) (map (changed m p) ms)) (rest.1 n l))

pub there_of : AreWhole → (ir : Ir) (m : Module) (p : PatchTable) → formed ir m (tables_of m) → table_ok m p → id_fault ir m p ≡ None → (k : ℕ) × IsThere ir m p k (nodes (rewritten ir m.uuid (tables_of m) p))
there_of whole ir m p h accepted no_fault =
    let free = free_of ir m p no_fault in
    let new = nodes (rewritten ir m.uuid (tables_of m) p) in
    let apart : Apart (ids new) = subst Apart (sym (of_ir (rewritten ir m.uuid (tables_of m) p))) (new_apart ir m p h.linked.links h.member free) in
    let at = module_at 0 m p ir.modules (in_contained m ir.modules h.member) in (
      at.0,
      record {
        formed = h;
        accepted = accepted;
        free = free;
        whole = whole;
        apart = apart;
        own = λ n l. inr (at.1 n (subst (λ (z : Module). In n (module_nodes at.0 z)) (sym (changed_itself m p)) l));
        kept = keep (nodes ir) new apart (nodes_kept ir m p);
      },
    )
