-- Where identifiers of nodes are distinct, each block and each interval has its own.
use Rattle.std.proofs.Common.{◌≡◌, ℕ, inl, inr, true, false, List, [], ◌∷◌, ◌++◌, map, refl, sym, ap, subst, ◌∙◌}
use Rattle.std.specs.Prelude.{Contains}
use Rattle.std.specs.List.{flat_map, list_any}
use Rattle.std.proofs.lemmas.Bool.{both_ways, or_parts}
use Rattle.gt_model.specs.declared.intervals.Block.{Block}
use Rattle.gt_model.specs.declared.intervals.Body.{Body}
use Rattle.gt_model.specs.declared.intervals.Body.TheVariants as bodies
use Rattle.gt_model.specs.declared.intervals.Interval.{Interval}
use Rattle.gt_model.specs.declared.ir.Ir.{Ir}
use Rattle.gt_model.specs.declared.modules.Module.{Module}
use Rattle.gt_model.specs.declared.modules.Section.{Section}
use Rattle.gt_model.specs.Linked.{intervals, is_bare, is_bare_body, linked}
use Rattle.gt_model.specs.Nodes.{ids, nodes}
use Rattle.sym_expr.specs.Modules.{blocks_of, id_of, id_of_body, is_loaded, loaded_intervals}
use Rattle.taken_ids.specs.NodeIds.{block_ids, body_ids, interval_ids, ir_ids, module_ids, section_ids, symbol_id}
use Rattle.repaired_images.proofs.Apart.{Apart, apart_back, apart_of_pairs, apart_one, one_holder}
use Rattle.repaired_images.proofs.Lists.{In, in_contained, in_flat, of_every, out_filter, out_flat}
use Rattle.repaired_images.proofs.NodeLists.{of_ir}

-- an interval of these sections
pub record Inside (ss : List Section) (i : Interval) : Type 0 where
  pub section : Section
  pub outer : In section ss
  pub inner : In i section.intervals

-- a block of theirs
pub record Within (ss : List Section) (b : Block) : Type 0 where
  pub interval : Interval
  pub inside : Inside ss interval
  pub among : In b interval.blocks

pub loaded_inside : (m : Module) (i : Interval) → In i (loaded_intervals m) → Inside m.sections i
loaded_inside m i h =
    let s = out_flat (λ (s : Section). s.intervals) i _ h in
    record { section = s.0; outer = (out_filter is_loaded s.0 m.sections s.1).0; inner = s.2 }

-- the identifiers of the sections of a module are apart
pub sections_apart : (ir : Ir) (m : Module) → linked ir → Contains ir.modules m → Apart (flat_map section_ids m.sections)
sections_apart ir m h k =
    let all : Apart (ir_ids ir) = subst Apart (of_ir ir) (apart_of_pairs (ids (nodes ir)) h.distinct) in
    let one : Apart (module_ids m) = apart_one module_ids m ir.modules all.1 (in_contained m ir.modules k) in
    apart_back (m.proxies ++ map symbol_id m.symbols) (flat_map section_ids m.sections) one.1

pub in_interval : (x : List ℕ) (b : Block) (i : Interval) → In b i.blocks → In x (block_ids b) → In x (interval_ids i)
in_interval x b i h k = inr (in_flat block_ids b x i.blocks h k)

pub in_section : (x : List ℕ) (i : Interval) (s : Section) → In i s.intervals → In x (interval_ids i) → In x (section_ids s)
in_section x i s h k = inr (in_flat interval_ids i x s.intervals h k)

-- an identifier is of one interval
pub one_interval : (ss : List Section) (x : List ℕ) (i j : Interval) → Apart (flat_map section_ids ss) → Inside ss i → Inside ss j → In x (interval_ids i) → In x (interval_ids j) → i ≡ j
one_interval ss x i j apart h k a b =
    let same = one_holder section_ids h.section k.section x ss apart h.outer k.outer (in_section x i h.section h.inner a) (in_section x j k.section k.inner b) in
    let one : Apart (section_ids h.section) = apart_one section_ids h.section ss apart h.outer in
    one_holder interval_ids i j x h.section.intervals one.1 h.inner (subst (λ (s : Section). In j s.intervals) (sym same) k.inner) a b

interval_apart : (ss : List Section) (i : Interval) → Apart (flat_map section_ids ss) → Inside ss i → Apart (interval_ids i)
interval_apart ss i apart h =
    let one : Apart (section_ids h.section) = apart_one section_ids h.section ss apart h.outer in
    apart_one interval_ids i h.section.intervals one.1 h.inner

-- and of one block
pub one_block : (ss : List Section) (x : List ℕ) (b c : Block) → Apart (flat_map section_ids ss) → Within ss b → Within ss c → In x (block_ids b) → In x (block_ids c) → b ≡ c
one_block ss x b c apart h k a d =
    let same = one_interval ss x h.interval k.interval apart h.inside k.inside (in_interval x b h.interval h.among a) (in_interval x c k.interval k.among d) in
    let one = interval_apart ss h.interval apart h.inside in
    one_holder block_ids b c x h.interval.blocks one.1 h.among (subst (λ (i : Interval). In c i.blocks) (sym same) k.among) a d

-- no interval has that of a block
pub no_interval_of : (ss : List Section) (b : Block) (i : Interval) → Apart (flat_map section_ids ss) → Within ss b → Inside ss i → In i.uuid (block_ids b) → ⊥
no_interval_of ss b i apart h k a =
    let same = one_interval ss i.uuid h.interval i apart h.inside k (in_interval i.uuid b h.interval h.among a) (inl refl) in
    let one = interval_apart ss h.interval apart h.inside in
    one.0 (subst (λ (x : List ℕ). In x (flat_map block_ids h.interval.blocks)) (sym (ap (λ (j : Interval). j.uuid) same)) (in_flat block_ids b i.uuid h.interval.blocks h.among a))

-- ---- no block is bare

not_bare : (b : Block) (bs : List Block) → list_any is_bare bs ≡ false → In b bs → is_bare b ≡ false
not_bare b [] h k = absurd k
not_bare b (c ∷ bs) h (inl e) = ap is_bare e ∙ (or_parts (is_bare c) (list_any is_bare bs) h).0
not_bare b (c ∷ bs) h (inr k) = not_bare b bs (or_parts (is_bare c) (list_any is_bare bs) h).1 k

abbrev section_intervals : Module → List Interval
section_intervals m = flat_map (λ (s : Section). s.intervals) m.sections

pub whole_blocks : (ir : Ir) (m : Module) (b : Block) → linked ir → Contains ir.modules m → Within m.sections b → is_bare b ≡ false
whole_blocks ir m b h k w =
    let there : In w.interval (intervals ir) =
    in_flat section_intervals m w.interval ir.modules (in_contained m ir.modules k) (in_flat (λ (s : Section). s.intervals) w.inside.section w.interval m.sections w.inside.outer w.inside.inner) in
    not_bare b w.interval.blocks (of_every (λ (i : Interval). list_any is_bare i.blocks ≡ false) w.interval (intervals ir) h.no_bare there) w.among

body_has : (x : Body) → is_bare_body x ≡ false → In (id_of_body x) (body_ids x)
body_has bodies.Bare h = absurd (both_ways true h refl)
body_has (bodies.Code uuid size decode_mode) h = inl refl
body_has (bodies.Data uuid size) h = inl refl

pub own_id : (b : Block) → is_bare b ≡ false → In (id_of b) (block_ids b)
own_id b h = body_has b.body h

pub loaded_block : (m : Module) (b : Block) → In b (blocks_of (loaded_intervals m)) → Within m.sections b
loaded_block m b h =
    let i = out_flat (λ (i : Interval). i.blocks) b (loaded_intervals m) h in
    record { interval = i.0; inside = loaded_inside m i.0 i.1; among = i.2 }
