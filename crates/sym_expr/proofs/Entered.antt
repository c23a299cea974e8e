-- The entry of a module is a code block of a loaded section.
use Rattle.std.proofs.Common.{◌≡◌, ◌≢◌, ℕ, ◌⊎◌, inl, inr, true, false, List, [], ◌∷◌, ◌++◌, map, Option, Some, refl, sym, subst}
use Rattle.std.specs.Prelude.{IsTrue, AllPairs}
use Rattle.std.specs.List.{AllByRecursion as Every, IsDistinct, flat_map}
use Rattle.std.specs.Option.{IsSomeAnd, option_to_list}
use Rattle.std.specs.Str.{bytes_eq}
use Rattle.std.proofs.lemmas.Bool.{both_ways, cases_Bool, false≢true, true_from_ne_false}
use Rattle.std.proofs.lemmas.Map.Made.{IsDistinct-from_AllPairs}
use Rattle.std.proofs.lemmas.Slice.Eq.{bytes_eq-Decides}
use Rattle.gt_model.specs.declared.intervals.Block.{Block}
use Rattle.gt_model.specs.declared.intervals.Body.{Body}
use Rattle.gt_model.specs.declared.intervals.Body.TheVariants as bodies
use Rattle.gt_model.specs.declared.intervals.Interval.{Interval}
use Rattle.gt_model.specs.declared.ir.Ir.{Ir}
use Rattle.gt_model.specs.declared.modules.Module.{Module}
use Rattle.gt_model.specs.declared.modules.Section.{Section}
use Rattle.gt_model.specs.declared.symbols.Symbol.{Symbol}
use Rattle.gt_model.specs.Linked.{Lands, kind_at, is_bare, is_bare_body}
use Rattle.gt_model.specs.Nodes.{Kind, Node, node, ids, AModule, AProxy, ASymbol, DataBlock, body_nodes, block_nodes, interval_nodes, section_nodes, module_nodes, nodes_from, nodes}
use Rattle.gt_model.specs.References.{Reference, reference, EntryOf, suits, symbol_references, section_references, module_references, references_from, references}
use Rattle.sym_expr.specs.Modules.{id_of, id_of_body, is_code, is_code_body}
use Rattle.sym_expr.proofs.Counts.{id_same, same_id}
use Rattle.sym_expr.proofs.Holders.{IsPart}
use Rattle.sym_expr.proofs.Lists.{every_weaker, every_front, every_back, every_part}

-- ---- each node is found by its identifier

-- an identifier stands for what its node is
abbrev pub StandsIn : List Node → Node → Type 0
StandsIn ns n = kind_at ns n.id ≡ Some n.kind

stands_first : (n : Node) (ns : List Node) → StandsIn (n ∷ ns) n
stands_first n ns = rw (id_same n.id) refl

stands_next : (n x : Node) (ns : List Node) → bytes_eq x.id n.id ≡ false → StandsIn ns x → StandsIn (n ∷ ns) x
stands_next n x ns h k = rw h k

swapped : (a b : List ℕ) → bytes_eq a b ≡ false → bytes_eq b a ≡ false
swapped a b h = at (cases_Bool (bytes_eq b a))
  where
    at : (bytes_eq b a ≡ true) ⊎ (bytes_eq b a ≡ false) → bytes_eq b a ≡ false
    at (inl e) = let P : List ℕ → Type 0 = λ z. bytes_eq z b ≡ false in absurd (both_ways (bytes_eq b b) (subst P (sym (same_id b a e)) h) (id_same b))
    at (inr e) = e

stand_later : (n : Node) (all xs : List Node) → Every (λ y. bytes_eq n.id y ≡ false) (ids xs) → Every (StandsIn all) xs → Every (StandsIn (n ∷ all)) xs
stand_later n all [] h k = tt
stand_later n all (x ∷ xs) h k = (stands_next n x all (swapped n.id x.id h.0) k.0, stand_later n all xs h.1 k.1)

stand_all : (ns : List Node) → IsDistinct bytes_eq (ids ns) → Every (StandsIn ns) ns
unfolding IsDistinct
stand_all [] d = tt
stand_all (n ∷ ns) d = (stands_first n ns, stand_later n ns ns d.0 (stand_all ns d.1))

pub nodes_stand : (ns : List Node) → AllPairs (λ a b. a ≢ b) (ids ns) → Every (StandsIn ns) ns
nodes_stand ns d = stand_all ns (IsDistinct-from_AllPairs bytes_eq-Decides (ids ns) d)

-- ---- the blocks of a module

-- a data block's identifier stands for one
abbrev pub IsData : List Node → ℕ → Block → Type 0
IsData ns k b = is_bare b ≡ false → is_code b ≡ false → kind_at ns (id_of b) ≡ Some (DataBlock k)

body_data : (ns : List Node) (k : ℕ) (b : Body) → Every (StandsIn ns) (body_nodes k b) → is_bare_body b ≡ false → is_code_body b ≡ false → kind_at ns (id_of_body b) ≡ Some (DataBlock k)
body_data ns k bodies.Bare h e f = absurd (both_ways true e refl)
body_data ns k (bodies.Code uuid size decode_mode) h e f = absurd (both_ways true f refl)
body_data ns k (bodies.Data uuid size) h e f = h.0

blocks_data : (ns : List Node) (k : ℕ) (bs : List Block) → Every (StandsIn ns) (flat_map (block_nodes k) bs) → Every (IsData ns k) bs
blocks_data ns k bs h = every_weaker (λ b. Every (StandsIn ns) (block_nodes k b)) (IsData ns k) (λ b l. body_data ns k b.body l) bs (every_part (block_nodes k) (StandsIn ns) bs h)

interval_data : (ns : List Node) (k : ℕ) (is : List Interval) → Every (StandsIn ns) (flat_map (interval_nodes k) is) → Every (λ (i : Interval). Every (IsData ns k) i.blocks) is
interval_data ns k is h =
    every_weaker (λ i. Every (StandsIn ns) (interval_nodes k i)) (λ (i : Interval). Every (IsData ns k) i.blocks) (λ i l. blocks_data ns k i.blocks l.1) is (every_part (interval_nodes k) (StandsIn ns) is h)

section_data : (ns : List Node) (k : ℕ) (ss : List Section) → Every (StandsIn ns) (flat_map (section_nodes k) ss) → Every (λ (s : Section). Every (λ (i : Interval). Every (IsData ns k) i.blocks) s.intervals) ss
section_data ns k ss h =
    every_weaker (λ s. Every (StandsIn ns) (section_nodes k s)) (λ (s : Section). Every (λ (i : Interval). Every (IsData ns k) i.blocks) s.intervals) (λ s l. interval_data ns k s.intervals l.1) ss (every_part (section_nodes k) (StandsIn ns) ss h)

every_same : {X : Type 0} (P : X → Type 0) (xs ys : List X) → xs ≡ ys → Every P xs → Every P ys
every_same {X = X} P xs ys e h = let Q : List X → Type 0 = λ l. Every P l in subst Q e h

every_middle : {X : Type 0} (P : X → Type 0) (xs ys zs : List X) → Every P (xs ++ (ys ++ zs)) → Every P ys
every_middle P xs ys zs h = every_front P ys zs (every_back P xs (ys ++ zs) h)

pub module_data : (ir : Ir) (m : Module) (part : IsPart m ir.modules 0) → AllPairs (λ a b. a ≢ b) (ids (nodes ir)) → Every (λ (s : Section). Every (λ (i : Interval). Every (IsData (nodes ir) part.ordinal) i.blocks) s.intervals) m.sections
module_data ir m part d =
    let k : ℕ = part.ordinal in
    let all = every_same (StandsIn (nodes ir)) (nodes_from 0 ir.modules) (part.before ++ (module_nodes k m ++ part.after)) part.nodes_are (nodes_stand (nodes ir) d).1 in
    let own = every_middle (StandsIn (nodes ir)) part.before (module_nodes k m) part.after all in
    section_data (nodes ir) k m.sections
    (every_back (StandsIn (nodes ir)) (node m.uuid AModule ∷ map (λ proxy. node proxy (AProxy k)) m.proxies ++ map (λ (s : Symbol). node s.uuid (ASymbol k)) m.symbols) (flat_map (section_nodes k) m.sections) own)

-- ---- the entry

entry_front : (P : Reference → Type 0) (k : ℕ) (m : Module) → Every P (module_references k m) → Every P (map (reference m.uuid (EntryOf k)) (option_to_list m.entry))
entry_front P k m h =
    every_front P (map (reference m.uuid (EntryOf k)) (option_to_list m.entry)) (flat_map (symbol_references k) m.symbols)
    (every_front P (map (reference m.uuid (EntryOf k)) (option_to_list m.entry) ++ flat_map (symbol_references k) m.symbols) (flat_map (section_references k) m.sections) h)

-- the entry, if there is one, stands for a code block of the module
pub entry_lands : (ir : Ir) (m : Module) (part : IsPart m ir.modules 0) → Every (Lands (nodes ir)) (references ir) → Every (Lands (nodes ir)) (map (reference m.uuid (EntryOf part.ordinal)) (option_to_list m.entry))
entry_lands ir m part h =
    let all = every_front (Lands (nodes ir)) (references_from 0 ir.modules) _ h in
    entry_front (Lands (nodes ir)) part.ordinal m
    (every_middle (Lands (nodes ir)) part.earlier (module_references part.ordinal m) part.later
    (every_same (Lands (nodes ir)) (references_from 0 ir.modules) (part.earlier ++ (module_references part.ordinal m ++ part.later)) part.references_are all))

not_data : (k : ℕ) (o : Option Kind) → o ≡ Some (DataBlock k) → IsSomeAnd o (λ kind. IsTrue (suits (EntryOf k) kind)) → ⊥
not_data k o e h = let P : Option Kind → Type 0 = λ x. IsSomeAnd x (λ kind. IsTrue (suits (EntryOf k) kind)) in false≢true (subst P e h)

-- a block with the entry's identifier is code
pub entry_code : (ns : List Node) (from : List ℕ) (k : ℕ) (id : List ℕ) (b : Block) → Lands ns (reference from (EntryOf k) id) → id_of b ≡ id → IsData ns k b → is_bare b ≡ false → is_code b ≡ true
entry_code ns from k id b lands same data_of bare = true_from_ne_false (is_code b) (λ e.
    let P : List ℕ → Type 0 = λ x. kind_at ns x ≡ Some (DataBlock k) in
    not_data k (kind_at ns id) (subst P same (data_of bare e)) lands)
