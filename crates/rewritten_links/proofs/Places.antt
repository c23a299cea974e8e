-- Two Places of a table never go to one.
use Rattle.std.proofs.Common.{◌≡◌, ℕ, ◌<◌, ◌≤◌, ◌⊎◌, inl, inr, List, map, Option, Some, None, refl, sym, ap, ap₂, subst, ◌∙◌, arith}
use Rattle.std.specs.Prelude.{if◌then◌else◌}
use Rattle.std.specs.List.{flat_map}
use Rattle.std.specs.Option.{option_map, option_map_or, option_or}
use Rattle.std.specs.Str.{bytes_eq}
use Rattle.std.proofs.lemmas.Bool.{cases_order, le-leb}
use Rattle.std.proofs.lemmas.Option.{none-some, same_Some}
use Rattle.aux_codec.specs.declared.value.Place.{Place}
use Rattle.aux_tables.specs.ModuleTables.{tables_of}
use Rattle.block_parts.specs.Parts.{parts}
use Rattle.gt_model.specs.declared.intervals.Interval.{Interval}
use Rattle.gt_model.specs.declared.ir.Ir.{Ir}
use Rattle.gt_model.specs.declared.modules.Module.{Module}
use Rattle.gt_model.specs.Linked.{repeated}
use Rattle.gt_model.specs.Nodes.{ids, nodes}
use Rattle.rewrite.specs.Identifiers.{part_id}
use Rattle.rewrite.specs.Offsets.{new_offset}
use Rattle.rewrite.specs.Places.{code_place, interval_place, loaded_interval, moved_place}
use Rattle.sym_expr.specs.declared.patches.PatchTable.{PatchTable}
use Rattle.sym_expr.specs.declared.program.CodeBlock.{CodeBlock}
use Rattle.sym_expr.specs.Modules.{loaded_intervals}
use Rattle.sym_expr.specs.Points.{code_at, code_blocks, code_size}
use Rattle.sym_expr.specs.Program.{program, stretch}
use Rattle.sym_expr.specs.Tables.{Tables}
use Rattle.taken_ids.specs.declared.fault.RewriteFault.TheVariants.{IdTaken}
use Rattle.taken_ids.specs.Faults.{id_fault, taken_ids}
use Rattle.taken_ids.specs.Identifiers.{derived_ids, function_ids, part_ids}
use Rattle.taken_ids.specs.Named.{named_ids}
use Rattle.rewritten_links.proofs.Apart.{Apart, apart_front, apart_one, none_repeated, one_holder, same_id}
use Rattle.rewritten_links.proofs.Lists.{In, found_in, in_back, in_flat, in_front, in_map}
use Rattle.rewritten_links.proofs.Parts.{GoesTo, HaveWords, code_goes, ids_of_parts, one_spot}

-- ---- identifiers that are free

-- what the patches derive is apart, and no node has it and no table names it
pub record IsFree (ir : Ir) (m : Module) (p : PatchTable) : Type 0 where
  pub apart : Apart (derived_ids m p)
  pub unheld : (z : List ℕ) → In z (derived_ids m p) → In z (ids (nodes ir)) → ⊥
  pub unnamed : (z : List ℕ) → In z (derived_ids m p) → In z (named_ids m) → ⊥

no_fault : (o : Option (List ℕ)) → option_map IdTaken o ≡ None → o ≡ None
no_fault None h = refl
no_fault (Some id) h = absurd (none-some (IdTaken id) (sym h))

pub free_of : (ir : Ir) (m : Module) (p : PatchTable) → id_fault ir m p ≡ None → IsFree ir m p
free_of ir m p h =
    let none = none_repeated (taken_ids ir m) (derived_ids m p) (no_fault (repeated (taken_ids ir m) (derived_ids m p)) h) in
    record {
      apart = none.0;
      unheld = λ z k l. none.1 z k (in_front z (ids (nodes ir)) (named_ids m) l);
      unnamed = λ z k l. none.1 z k (in_back z (ids (nodes ir)) (named_ids m) l);
    }

-- ---- where a Place goes

-- bytes of an interval keep their order
abbrev pub Grows : Module → Tables → PatchTable → Interval → Type 0
Grows m t p i = (a b : ℕ) → a < b → b ≤ i.size → new_offset (stretch m t p i) a < new_offset (stretch m t p i) b

abbrev InCode : Module → Tables → PatchTable → Place → Place → Type 0
InCode m t p at to = (b : CodeBlock) × (code_at (program m t p) at.id ≡ Some b) × GoesTo m b at.offset to

abbrev InInterval : Module → Tables → PatchTable → Place → Place → Type 0
InInterval m t p at to =
    (code_at (program m t p) at.id ≡ None) × ((i : Interval) × (loaded_interval m at.id ≡ Some i) × (at.offset ≤ i.size) × (to ≡ record { id = i.uuid; offset = new_offset (stretch m t p i) at.offset }))

abbrev Stays : Module → Tables → PatchTable → Place → Place → Type 0
Stays m t p at to = (code_at (program m t p) at.id ≡ None) × (loaded_interval m at.id ≡ None) × (to ≡ at)

-- the Place lies in what it names
pub record Lies (m : Module) (t : Tables) (p : PatchTable) (at : Place) : Type 0 where
  pub code : (b : CodeBlock) → code_at (program m t p) at.id ≡ Some b → at.offset ≤ code_size b
  pub interval : (i : Interval) → loaded_interval m at.id ≡ Some i → at.offset ≤ i.size

-- where it goes, by what it names
abbrev moved_by : Module → Tables → PatchTable → Place → Option CodeBlock → Option Interval → Place
moved_by m t p at code interval =
    option_map_or (λ (to : Place). to)
    (option_or (option_map_or (λ (b : CodeBlock). code_place m b at.offset) code None) (option_map_or (λ (i : Interval). interval_place m t p i at.offset) interval None)) at

code_moved : (m : Module) (t : Tables) (p : PatchTable) (at to : Place) (b : CodeBlock) (o : Option Interval) → code_place m b at.offset ≡ Some to → moved_by m t p at (Some b) o ≡ to
code_moved m t p at to b o e =
    ap (λ (x : Option Place). option_map_or (λ (to : Place). to) (option_or x (option_map_or (λ (i : Interval). interval_place m t p i at.offset) o None)) at) e

interval_moved : (m : Module) (t : Tables) (p : PatchTable) (at : Place) (i : Interval) → at.offset ≤ i.size → moved_by m t p at None (Some i) ≡ record { id = i.uuid; offset = new_offset (stretch m t p i) at.offset }
interval_moved m t p at i le =
    ap (λ x. option_map_or (λ (to : Place). to) (if x then Some (record { id = i.uuid; offset = new_offset (stretch m t p i) at.offset }) else None) at) (le-leb at.offset i.size le)

goes : HaveWords → (m : Module) (t : Tables) (p : PatchTable) (at : Place) → Lies m t p at
    → InCode m t p at (moved_place m t p at) ⊎ (InInterval m t p at (moved_place m t p at) ⊎ Stays m t p at (moved_place m t p at))
goes whole m t p at lies = by (code_at (program m t p) at.id) (loaded_interval m at.id) refl refl
  where
    by : (code : Option CodeBlock) (interval : Option Interval) → code_at (program m t p) at.id ≡ code → loaded_interval m at.id ≡ interval
        → InCode m t p at (moved_place m t p at) ⊎ (InInterval m t p at (moved_place m t p at) ⊎ Stays m t p at (moved_place m t p at))
    by (Some b) interval e f =
        let to = code_goes whole m b at.offset (lies.code b e) in
        let same : moved_place m t p at ≡ to.0 = ap (λ o. moved_by m t p at o (loaded_interval m at.id)) e ∙ code_moved m t p at to.0 b (loaded_interval m at.id) to.1 in
        inl (b, e, subst (GoesTo m b at.offset) (sym same) to.2)
    by None (Some i) e f =
        let le = lies.interval i f in
        let same = ap (λ o. moved_by m t p at o (loaded_interval m at.id)) e ∙ ap (moved_by m t p at None) f ∙ interval_moved m t p at i le in
        inr (inl (e, (i, f, le, same)))
    by None None e f = inr (inr (e, f, ap (λ o. moved_by m t p at o (loaded_interval m at.id)) e ∙ ap (moved_by m t p at None) f))

-- ---- two Places

-- a place in code goes to its block's identifier, or to a derived one
code_id : (m : Module) (t : Tables) (p : PatchTable) (at to : Place) (h : InCode m t p at to) → (to.id ≡ at.id) ⊎ In to.id (part_ids m.uuid h.0)
code_id m t p at to h =
    let b = h.0 in
    let found = found_in (λ (c : CodeBlock). bytes_eq c.id at.id) b (code_blocks (program m t p)) h.1 in
    either (subst (In to.id) (ids_of_parts m b) (subst (λ x. In x (map (part_id m b.id) (parts b))) (sym h.2.id) (in_map (part_id m b.id) h.2.part (parts b) h.2.among))) (same_id b.id at.id found.1)
  where
    either : (to.id ≡ h.0.id) ⊎ In to.id (part_ids m.uuid h.0) → h.0.id ≡ at.id → (to.id ≡ at.id) ⊎ In to.id (part_ids m.uuid h.0)
    either (inl e) d = inl (e ∙ d)
    either (inr k) d = inr k

-- what is found among the code blocks is one of them
there : (m : Module) (t : Tables) (p : PatchTable) (at to : Place) (h : InCode m t p at to) → In h.0 (code_blocks (program m t p)) × (h.0.id ≡ at.id)
there m t p at to h =
    let found = found_in (λ (c : CodeBlock). bytes_eq c.id at.id) h.0 (code_blocks (program m t p)) h.1 in
    (found.0, same_id h.0.id at.id found.1)

abbrev derived_in : Module → PatchTable → CodeBlock → Type 0
derived_in m p b = (z : List ℕ) → In z (part_ids m.uuid b) → In z (derived_ids m p)

part_derived : (m : Module) (p : PatchTable) (b : CodeBlock) → In b (code_blocks (program m (tables_of m) p)) → derived_in m p b
part_derived m p b h z k =
    in_front z (flat_map (part_ids m.uuid) (code_blocks (program m (tables_of m) p))) (flat_map (function_ids m.uuid) p.functions)
    (in_flat (part_ids m.uuid) b z (code_blocks (program m (tables_of m) p)) h k)

-- a Place whose identifier is named, and lies in what it names
pub record IsPlace (m : Module) (p : PatchTable) (at : Place) : Type 0 where
  pub lies : Lies m (tables_of m) p at
  pub named : In at.id (named_ids m)

module _ (ir : Ir) (m : Module) (p : PatchTable) (free : IsFree ir m p) where
  -- the parts of a block whose identifier is named have identifiers of their own
  parts_apart : (b : CodeBlock) → In b (code_blocks (program m (tables_of m) p)) → In b.id (named_ids m) → Apart (map (part_id m b.id) (parts b))
  parts_apart b h named =
      let later = apart_one (part_ids m.uuid) b (code_blocks (program m (tables_of m) p)) (apart_front (flat_map (part_ids m.uuid) (code_blocks (program m (tables_of m) p))) (flat_map (function_ids m.uuid) p.functions) free.apart) h in
      subst Apart (sym (ids_of_parts m b)) (λ k. free.unnamed b.id (part_derived m p b h b.id k) named, later)

  -- a place in code, and one that keeps its identifier and isn't in code
  code_other : (a c to : Place) → IsPlace m p c → InCode m (tables_of m) p a to → code_at (program m (tables_of m) p) c.id ≡ None → to.id ≡ c.id → ⊥
  code_other a c to k h none e = at (code_id m (tables_of m) p a to h)
    where
      at : (to.id ≡ a.id) ⊎ In to.id (part_ids m.uuid h.0) → ⊥
      at (inl d) = none-some h.0 (sym none ∙ (ap (code_at (program m (tables_of m) p)) (sym e ∙ d) ∙ h.1))
      at (inr l) = free.unnamed c.id (subst (λ z. In z (derived_ids m p)) e (part_derived m p h.0 (there m (tables_of m) p a to h).0 to.id l)) k.named

  -- the block that has the part is one
  one_block : (a c to : Place) → IsPlace m p a → IsPlace m p c → (h : InCode m (tables_of m) p a to) → (l : InCode m (tables_of m) p c to) → In h.0 (code_blocks (program m (tables_of m) p)) → In l.0 (code_blocks (program m (tables_of m) p))
      → (to.id ≡ a.id) ⊎ In to.id (part_ids m.uuid h.0) → (to.id ≡ c.id) ⊎ In to.id (part_ids m.uuid l.0) → h.0 ≡ l.0
  one_block a c to j k h l own other (inl d) (inl e) = same_Some h.0 l.0 (sym h.1 ∙ (ap (code_at (program m (tables_of m) p)) (sym d ∙ e) ∙ l.1))
  one_block a c to j k h l own other (inl d) (inr y) = absurd (free.unnamed a.id (subst (λ z. In z (derived_ids m p)) d (part_derived m p l.0 other to.id y)) j.named)
  one_block a c to j k h l own other (inr x) (inl e) = absurd (free.unnamed c.id (subst (λ z. In z (derived_ids m p)) e (part_derived m p h.0 own to.id x)) k.named)
  one_block a c to j k h l own other (inr x) (inr y) =
      one_holder (part_ids m.uuid) h.0 l.0 to.id (code_blocks (program m (tables_of m) p)) (apart_front (flat_map (part_ids m.uuid) (code_blocks (program m (tables_of m) p))) (flat_map (function_ids m.uuid) p.functions) free.apart) own other x y

  -- two places in code
  code_code : (a c to : Place) → IsPlace m p a → IsPlace m p c → InCode m (tables_of m) p a to → InCode m (tables_of m) p c to → a ≡ c
  code_code a c to j k h l =
      let own = there m (tables_of m) p a to h in
      let other = there m (tables_of m) p c to l in
      let same = one_block a c to j k h l own.0 other.0 (code_id m (tables_of m) p a to h) (code_id m (tables_of m) p c to l) in
      let id : a.id ≡ c.id = sym own.1 ∙ (ap (λ (b : CodeBlock). b.id) same ∙ other.1) in
      let named : In h.0.id (named_ids m) = subst (λ z. In z (named_ids m)) (sym own.1) j.named in
      let offset : a.offset ≡ c.offset = one_spot m h.0 a.offset c.offset to (parts_apart h.0 own.0 named) h.2 (subst (λ (b : CodeBlock). GoesTo m b c.offset to) (sym same) l.2) in
      ap₂ (λ x y. record { id = x; offset = y }) id offset

  interval_id : (a to : Place) (h : InInterval m (tables_of m) p a to) → to.id ≡ a.id
  interval_id a to h =
      let found = found_in (λ (i : Interval). bytes_eq i.uuid a.id) h.1.0 (loaded_intervals m) h.1.1 in
      ap (λ (x : Place). x.id) h.1.3 ∙ same_id h.1.0.uuid a.id found.1

  interval_interval : (a c to : Place) → ((i : Interval) → In i (loaded_intervals m) → Grows m (tables_of m) p i) → InInterval m (tables_of m) p a to → InInterval m (tables_of m) p c to → a ≡ c
  interval_interval a c to grows h l =
      let id : a.id ≡ c.id = sym (interval_id a to h) ∙ interval_id c to l in
      let same : l.1.0 ≡ h.1.0 = same_Some l.1.0 h.1.0 (sym l.1.1 ∙ (ap (loaded_interval m) (sym id) ∙ h.1.1)) in
      let i = h.1.0 in
      let grow = grows i (found_in (λ (x : Interval). bytes_eq x.uuid a.id) i (loaded_intervals m) h.1.1).0 in
      let s = stretch m (tables_of m) p i in
      let most : c.offset ≤ i.size = subst (λ (x : Interval). c.offset ≤ x.size) same l.1.2 in
      let first : to.offset ≡ new_offset s a.offset = ap (λ (x : Place). x.offset) h.1.3 in
      let second : to.offset ≡ new_offset s c.offset = ap (λ (x : Place). x.offset) l.1.3 ∙ ap (λ (x : Interval). new_offset (stretch m (tables_of m) p x) c.offset) same in
      ap₂ (λ x y. record { id = x; offset = y }) id (at grow h.1.2 most (sym first ∙ second) (cases_order a.offset c.offset))
    where
      at : Grows m (tables_of m) p h.1.0 → a.offset ≤ h.1.0.size → c.offset ≤ h.1.0.size → new_offset (stretch m (tables_of m) p h.1.0) a.offset ≡ new_offset (stretch m (tables_of m) p h.1.0) c.offset
          → (a.offset ≡ c.offset) ⊎ ((a.offset < c.offset) ⊎ (c.offset < a.offset)) → a.offset ≡ c.offset
      at grow x y e (inl d) = d
      at grow x y e (inr (inl lt)) = absurd (let more = grow a.offset c.offset lt y in omega (arith, more, e))
      at grow x y e (inr (inr lt)) = absurd (let more = grow c.offset a.offset lt x in omega (arith, more, e))

  interval_stays : (a c to : Place) → InInterval m (tables_of m) p a to → Stays m (tables_of m) p c to → ⊥
  interval_stays a c to h l =
      let id : c.id ≡ a.id = sym (ap (λ (x : Place). x.id) l.2) ∙ interval_id a to h in
      none-some h.1.0 (sym l.1 ∙ (ap (loaded_interval m) id ∙ h.1.1))

  one_place : (a c to : Place) → ((i : Interval) → In i (loaded_intervals m) → Grows m (tables_of m) p i) → IsPlace m p a → IsPlace m p c
      → InCode m (tables_of m) p a to ⊎ (InInterval m (tables_of m) p a to ⊎ Stays m (tables_of m) p a to) → InCode m (tables_of m) p c to ⊎ (InInterval m (tables_of m) p c to ⊎ Stays m (tables_of m) p c to) → a ≡ c
  one_place a c to grows j k (inl h) (inl l) = code_code a c to j k h l
  one_place a c to grows j k (inl h) (inr (inl l)) = absurd (code_other a c to k h l.0 (interval_id c to l))
  one_place a c to grows j k (inl h) (inr (inr l)) = absurd (code_other a c to k h l.0 (ap (λ (x : Place). x.id) l.2))
  one_place a c to grows j k (inr (inl h)) (inl l) = absurd (code_other c a to j l h.0 (interval_id a to h))
  one_place a c to grows j k (inr (inl h)) (inr (inl l)) = interval_interval a c to grows h l
  one_place a c to grows j k (inr (inl h)) (inr (inr l)) = absurd (interval_stays a c to h l)
  one_place a c to grows j k (inr (inr h)) (inl l) = absurd (code_other c a to j l h.0 (ap (λ (x : Place). x.id) h.2))
  one_place a c to grows j k (inr (inr h)) (inr (inl l)) = absurd (interval_stays c a to l h)
  one_place a c to grows j k (inr (inr h)) (inr (inr l)) = sym h.2 ∙ l.2

  pub apart_places : HaveWords → ((i : Interval) → In i (loaded_intervals m) → Grows m (tables_of m) p i) → (a c : Place) → IsPlace m p a → IsPlace m p c → moved_place m (tables_of m) p a ≡ moved_place m (tables_of m) p c → a ≡ c
  apart_places whole grows a c j k e =
      let goes_on = goes whole m (tables_of m) p c k.lies in
      let Goes : Place → Type 0 = λ to. InCode m (tables_of m) p c to ⊎ (InInterval m (tables_of m) p c to ⊎ Stays m (tables_of m) p c to) in
      one_place a c (moved_place m (tables_of m) p a) grows j k (goes whole m (tables_of m) p a j.lies) (subst Goes (sym e) goes_on)
