-- What the checks of a module say of each loaded interval and its blocks.
use Rattle.std.proofs.Common.{◌≡◌, ℕ, ◌≤◌, true, false, List, [], ◌∷◌, Some, refl}
use Rattle.std.specs.Prelude.{filter, find}
use Rattle.std.specs.List.{AllByRecursion as Every, flat_map}
use Rattle.std.proofs.lemmas.Bool.{ltb-false, both_ways}
use Rattle.gt_model.specs.declared.intervals.Block.{Block}
use Rattle.gt_model.specs.declared.intervals.Body.{Body}
use Rattle.gt_model.specs.declared.intervals.Body.TheVariants as bodies
use Rattle.gt_model.specs.declared.intervals.Interval.{Interval}
use Rattle.gt_model.specs.declared.ir.Ir.{Ir}
use Rattle.gt_model.specs.declared.modules.Module.{Module}
use Rattle.gt_model.specs.declared.modules.Section.{Section}
use Rattle.gt_model.specs.Linked.{is_bare, is_bare_body}
use Rattle.gt_model.specs.Nodes.{ids, nodes, interval_nodes}
use Rattle.gt_model.specs.Typed.{IsId, typed_body, typed_block, typed_interval, typed_section, typed_module}
use Rattle.sym_expr.specs.Linkable.{formed, passes, blocks_outside, overlaps_in, is_crooked, crooked_in}
use Rattle.sym_expr.specs.Modules.{id_of, id_of_body, end_of, covers, in_order, is_loaded, loaded_intervals}
use Rattle.sym_expr.specs.Tables.{Tables}
use Rattle.sym_expr.proofs.Counts.{times, once}
use Rattle.sym_expr.proofs.Holders.{part_of, held, HasNoBare, interval_id_of, block_ids_of, interval_held, block_held, loaded_held}
use Rattle.sym_expr.proofs.Lists.{every_weaker, every_each, every_contained, every_flat, every_part, every_filter, none_of_flat, none_of_filter, none_of_any}
use Rattle.sym_expr.proofs.Orders.{Behind, behind_of, home_is, each_in_order}
use Rattle.sym_expr.proofs.Rooms.{IsLaid}
use Rattle.sym_expr.proofs.Stands.{IsStood, IsHome, all_stood}

-- ---- all loaded intervals

-- what holds of the intervals of all sections holds of the loaded ones
pub loaded_each : (P : Interval → Type 0) (m : Module) → Every (λ (s : Section). Every P s.intervals) m.sections → Every P (loaded_intervals m)
loaded_each P m h =
    every_flat (λ (s : Section). s.intervals) P (filter is_loaded m.sections)
    (every_filter is_loaded (λ (s : Section). Every P s.intervals) m.sections
    (every_weaker (λ (s : Section). Every P s.intervals) (λ (s : Section). is_loaded s ≡ true → Every P s.intervals) (λ s l loaded. l) m.sections h))

pub module_typed : (m : Module) → typed_module m → Every (λ (s : Section). Every typed_interval s.intervals) m.sections
module_typed m h = every_weaker typed_section (λ (s : Section). Every typed_interval s.intervals) (λ s l. l.intervals) m.sections h.sections

pub module_whole : (ir : Ir) (m : Module) (t : Tables) → formed ir m t → Every (λ (s : Section). Every HasNoBare s.intervals) m.sections
module_whole ir m t h =
    every_part (λ (s : Section). s.intervals) HasNoBare m.sections
    (every_contained (λ (x : Module). Every HasNoBare (flat_map (λ (s : Section). s.intervals) x.sections)) ir.modules m
    (every_part (λ (x : Module). flat_map (λ (s : Section). s.intervals) x.sections) HasNoBare ir.modules h.linked.links.no_bare) h.member)

-- ---- one interval

body_id : (b : Body) → typed_body b → is_bare_body b ≡ false → IsId (id_of_body b)
body_id bodies.Bare h e = absurd (both_ways true e refl)
body_id (bodies.Code uuid size decode_mode) h e = h.0
body_id (bodies.Data uuid size) h e = h.0

blocks_id : (bs : List Block) → Every typed_block bs → Every (λ b. is_bare b ≡ false) bs → Every (λ b. IsId (id_of b)) bs
blocks_id [] h k = tt
blocks_id (b ∷ bs) h k = (body_id b.body h.0.body k.0, blocks_id bs h.1 k.1)

homes_of : (i : Interval) → Behind 0 (in_order i.blocks) → Every (IsHome i) (in_order i.blocks)
homes_of i h =
    every_weaker (λ b. (at : ℕ) → covers at b ≡ true → find (covers at) (in_order i.blocks) ≡ Some b) (IsHome i) (λ b l. record { alone = l }) (in_order i.blocks)
    (every_each (λ at b. covers at b ≡ true → find (covers at) (in_order i.blocks) ≡ Some b) (in_order i.blocks) (λ at. home_is at 0 (in_order i.blocks) h))

inside_of : (i : Interval) → blocks_outside i ≡ [] → Every (λ b. end_of b ≤ i.size) (in_order i.blocks)
inside_of i h =
    each_in_order (λ b. end_of b ≤ i.size) i.blocks
    (every_weaker (λ b. passes i.size b ≡ false) (λ b. end_of b ≤ i.size) (λ b l. ltb-false i.size (end_of b) l) i.blocks (none_of_filter (passes i.size) i.blocks h))

-- an interval without faults
pub record IsSound (t : Tables) (i : Interval) : Type 0 where
  pub id : IsId i.uuid
  pub ids : Every (λ b. IsId (id_of b)) (in_order i.blocks)
  pub laid : IsLaid i
  pub straight : Every (λ b. is_crooked b ≡ false) (in_order i.blocks)
  pub stood : IsStood t i
  pub homes : Every (IsHome i) (in_order i.blocks)

sound_of : (t : Tables) (i : Interval) → typed_interval i → HasNoBare i → overlaps_in i ≡ [] → blocks_outside i ≡ [] → crooked_in i ≡ [] → IsStood t i → IsSound t i
sound_of t i typed whole over outside crooked stood =
    let behind = behind_of (in_order i.blocks) over in
    record {
      id = typed.uuid;
      ids = each_in_order (λ b. IsId (id_of b)) i.blocks (blocks_id i.blocks typed.blocks (none_of_any is_bare i.blocks whole));
      laid = record { behind = behind; inside = inside_of i outside };
      straight = each_in_order (λ b. is_crooked b ≡ false) i.blocks (none_of_filter is_crooked i.blocks crooked);
      stood = stood;
      homes = homes_of i behind;
    }

all_of : (t : Tables) (is : List Interval) → Every typed_interval is → Every HasNoBare is → Every (λ i. overlaps_in i ≡ []) is → Every (λ i. blocks_outside i ≡ []) is → Every (λ i. crooked_in i ≡ []) is → Every (IsStood t) is
    → Every (IsSound t) is
all_of t [] typed whole over outside crooked stood = tt
all_of t (i ∷ is) typed whole over outside crooked stood =
    (sound_of t i typed.0 whole.0 over.0 outside.0 crooked.0 stood.0, all_of t is typed.1 whole.1 over.1 outside.1 crooked.1 stood.1)

pub typed_of : (ir : Ir) (m : Module) (t : Tables) → formed ir m t → typed_module m
typed_of ir m t h = every_contained typed_module ir.modules m h.linked.values.modules h.member

pub all_sound : (ir : Ir) (m : Module) (t : Tables) → formed ir m t → Every (IsSound t) (loaded_intervals m)
all_sound ir m t h =
    all_of t (loaded_intervals m)
    (loaded_each typed_interval m (module_typed m (typed_of ir m t h)))
    (loaded_each HasNoBare m (module_whole ir m t h))
    (none_of_flat overlaps_in (loaded_intervals m) h.faultless.apart)
    (none_of_flat blocks_outside (loaded_intervals m) h.faultless.inside)
    (none_of_flat crooked_in (loaded_intervals m) h.faultless.straight)
    (all_stood m t h.faultless.exprs)

-- ---- identifiers

pub held_all : (f : Interval → List (List ℕ)) (ir : Ir) (m : Module) (t : Tables) → formed ir m t → ((id : List ℕ) (k : ℕ) (i : Interval) → HasNoBare i → times id (f i) ≤ held id (interval_nodes k i)) → (id : List ℕ) → times id (flat_map f (loaded_intervals m)) ≤ held id (nodes ir)
held_all f ir m t h less id =
    let part = part_of m ir.modules 0 h.member in
    loaded_held id f ir m part
    (every_weaker (λ (s : Section). Every HasNoBare s.intervals) (λ (s : Section). Every (λ i. times id (f i) ≤ held id (interval_nodes part.ordinal i)) s.intervals)
    (λ s l. every_weaker HasNoBare (λ i. times id (f i) ≤ held id (interval_nodes part.ordinal i)) (less id part.ordinal) s.intervals l) m.sections (module_whole ir m t h))

pub held_once : (ir : Ir) (m : Module) (t : Tables) → formed ir m t → (id : List ℕ) → held id (nodes ir) ≤ 1
held_once ir m t h id = once (ids (nodes ir)) h.linked.links.distinct id

pub intervals_held : (ir : Ir) (m : Module) (t : Tables) → formed ir m t → (id : List ℕ) → times id (flat_map interval_id_of (loaded_intervals m)) ≤ held id (nodes ir)
intervals_held ir m t h = held_all interval_id_of ir m t h (λ id k i whole. interval_held id k i)

pub blocks_held : (ir : Ir) (m : Module) (t : Tables) → formed ir m t → (id : List ℕ) → times id (flat_map block_ids_of (loaded_intervals m)) ≤ held id (nodes ir)
blocks_held ir m t h = held_all block_ids_of ir m t h block_held
