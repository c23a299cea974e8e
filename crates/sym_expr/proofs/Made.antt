-- The program of a formed module and of patches that it can take is well made.
use Rattle.std.proofs.Common.{◌≡◌, ◌≢◌, ℕ, suc, ◌+◌, ◌*◌, ◌%◌, ◌^◌, ◌≤◌, ◌<◌, Bool, true, false, List, [], ◌∷◌, length, map, Option, Some, None, refl, sym, ap, ◌∙◌, subst, arith}
use Rattle.std.specs.Prelude.{AllPairs, IfSome, sum_by, unwrap_or, if◌then◌else◌}
use Rattle.std.specs.List.{AllByRecursion as Every, flat_map}
use Rattle.std.specs.Option.{option_map_or, option_to_list}
use Rattle.std.proofs.lemmas.Bool.{false≢true}
use Rattle.std.proofs.lemmas.List.{length-append, length-map, get_or-map}
use Rattle.std.proofs.lemmas.List.Sums.{sum_by-append, sum_by-cons}
use Rattle.gt_model.specs.declared.intervals.Block.{Block}
use Rattle.gt_model.specs.declared.intervals.Interval.{Interval}
use Rattle.gt_model.specs.declared.ir.Ir.{Ir}
use Rattle.gt_model.specs.declared.modules.Module.{Module}
use Rattle.gt_model.specs.Linked.{Lands, is_bare}
use Rattle.gt_model.specs.Nodes.{nodes}
use Rattle.gt_model.specs.References.{reference, EntryOf}
use Rattle.gt_model.specs.Typed.{IsId}
use Rattle.sym_expr.specs.declared.patches.Function.{Function}
use Rattle.sym_expr.specs.declared.patches.Insert.{Insert}
use Rattle.sym_expr.specs.declared.patches.PatchTable.{PatchTable}
use Rattle.sym_expr.specs.declared.patches.PatchWord.{PatchWord}
use Rattle.sym_expr.specs.declared.program.Piece.{Piece}
use Rattle.sym_expr.specs.declared.program.Piece.TheVariants.{Code as CodePiece, Data as DataPiece}
use Rattle.sym_expr.specs.declared.program.Program.{Program}
use Rattle.sym_expr.specs.declared.program.Stretch.{Stretch}
use Rattle.sym_expr.specs.declared.program.Word.{Word}
use Rattle.sym_expr.specs.Derived.{interval_text}
use Rattle.sym_expr.specs.Linkable.{formed, have_block, is_crooked, total_size}
use Rattle.sym_expr.specs.Modules.{blocks_of, has_id, id_of, in_order, is_code, loaded_intervals, loaded_sections, size_of}
use Rattle.sym_expr.specs.Patches.{function_blocks, inserted_in, with_starts}
use Rattle.sym_expr.specs.Placing.{stretch_size}
use Rattle.sym_expr.specs.Points.{code_of, code_size, data_of, pieces_of}
use Rattle.sym_expr.specs.Program.{code_block, data_block, entry_of, function_pieces, function_stretch, patched_word, piece, pieces, program, stretch}
use Rattle.sym_expr.specs.TableOk.{function_words, ids_ok, patch_words, table_ok}
use Rattle.sym_expr.specs.TableOk as patches
use Rattle.sym_expr.specs.Tables.{Tables}
use Rattle.sym_expr.specs.Targets.{start_of}
use Rattle.sym_expr.specs.WellMade.{IsCode, IsData, IsInserted, IsPoint, IsTiled, IsWord, block_ids, well_made}
use Rattle.sym_expr.proofs.Aims.{AllThere, IsKnownFunction, word_there}
use Rattle.sym_expr.proofs.Counts.{apart, same_id}
use Rattle.sym_expr.proofs.Entered.{entry_code, entry_lands, module_data}
use Rattle.sym_expr.proofs.Entered as entered
use Rattle.sym_expr.proofs.Fresh.{stretch_id}
use Rattle.sym_expr.proofs.Functions.{all_words, cut_each, function_room, function_tiled, starts_each}
use Rattle.sym_expr.proofs.Holders.{HasNoBare, IsPart, block_ids_of, part_of}
use Rattle.sym_expr.proofs.Identifiers.{derived_is_id}
use Rattle.sym_expr.proofs.Known.{all_known, functions_known, symbols_there}
use Rattle.sym_expr.proofs.Lists.{any_one, every_all, every_back, every_filter_map, every_flat, every_front, every_map, every_part, every_weaker, none_of_any}
use Rattle.sym_expr.proofs.Parts.{blocks_once, extra_once, intervals_once, pieces_each}
use Rattle.sym_expr.proofs.Puts.{all_stand, inserted_stand, put_most}
use Rattle.sym_expr.proofs.Rooms.{IsLaid, put_among, stretches_room}
use Rattle.sym_expr.proofs.Sections.{all_parts, both_parts, brought, extra, once_extra}
use Rattle.sym_expr.proofs.Sound.{IsSound, all_sound, blocks_held, held_once, loaded_each, module_whole}
use Rattle.sym_expr.proofs.Stands.{IsHome, IsStood, fillings_stand, own_words_stand}
use Rattle.sym_expr.proofs.There.{IsKnown, start_there}
use Rattle.sym_expr.proofs.Tiles.{own_size, straight_code, tiled_pieces}

-- ---- words

-- all that a word of the patches, or an expression, may name is there
record HasAll (m : Module) (t : Tables) (p : PatchTable) : Type 0 where
  old : AllThere (program m t p) m p
  new : Every (IsKnownFunction (program m t p) m) p.functions

abbrev Fits : Module → PatchTable → PatchWord → Type 0
Fits m p w = patches.IsWord m p w

insert_words : (m : Module) (p : PatchTable) → table_ok m p → Every (λ (x : Insert). Every (Fits m p) x.body) p.inserts
insert_words m p h = every_part (λ (x : Insert). x.body) (Fits m p) p.inserts (every_front (Fits m p) (flat_map (λ (x : Insert). x.body) p.inserts) (flat_map function_words p.functions) h.words)

all_function_words : (m : Module) (p : PatchTable) → table_ok m p → Every (λ f. Every (Fits m p) (function_words f)) p.functions
all_function_words m p h = every_part function_words (Fits m p) p.functions (every_back (Fits m p) (flat_map (λ (x : Insert). x.body) p.inserts) (flat_map function_words p.functions) h.words)

inserted_good : (m : Module) (t : Tables) (p : PatchTable) → HasAll m t p → (i : Interval) (b : Block) → code_size (code_block m p i b) ≡ size_of b
    → Every (λ (w : ℕ × PatchWord). (w.0 % 4 ≡ 0) × (w.0 ≤ size_of b) × Fits m p w.1) (inserted_in p (id_of b)) → Every (IsInserted (program m t p) (code_block m p i b)) (code_block m p i b).inserted
inserted_good m t p all i b size h =
    every_map (λ (w : ℕ × PatchWord). let v : ℕ × Word = (w.0, patched_word m p w.1) in v) (IsInserted (program m t p) (code_block m p i b)) (inserted_in p (id_of b))
    (every_weaker (λ (w : ℕ × PatchWord). (w.0 % 4 ≡ 0) × (w.0 ≤ size_of b) × Fits m p w.1) (λ (w : ℕ × PatchWord). IsInserted (program m t p) (code_block m p i b) (w.0, patched_word m p w.1))
    (λ w k. (k.0, (let within = k.1 in omega (arith, within, size)), word_there (program m t p) m p all.old all.new w.1 k.2)) (inserted_in p (id_of b)) h)

-- ---- blocks of the module

-- what is inserted in a block stands in it
abbrev TakesWords : Module → PatchTable → Block → Type 0
TakesWords m p b = Every (λ (w : ℕ × PatchWord). (w.0 % 4 ≡ 0) × (w.0 ≤ size_of b) × Fits m p w.1) (inserted_in p (id_of b))

code_made : (m : Module) (t : Tables) (p : PatchTable) → HasAll m t p → (i : Interval) (b : Block) (x : Bool) → is_code b ≡ x → IsStood t i → IsHome i b → IsId (id_of b) → is_crooked b ≡ false → TakesWords m p b
    → IfSome (code_of (if x then CodePiece (code_block m p i b) else DataPiece (data_block m t p i b))) (IsCode (program m t p))
code_made m t p all i b true is stood alone id straight takes = record {
  id = id;
  own = own_words_stand (program m t p) m t p all.old i b stood alone is;
  inserted = inserted_good m t p all i b (own_size m p i b (straight_code b straight is)) takes;
}
code_made m t p all i b false is stood alone id straight takes = tt

data_made : (m : Module) (t : Tables) (p : PatchTable) → HasAll m t p → (i : Interval) (b : Block) (x : Bool) → is_code b ≡ x → IsStood t i → IsHome i b → IsId (id_of b)
    → IfSome (data_of (if x then CodePiece (code_block m p i b) else DataPiece (data_block m t p i b))) (IsData (program m t p))
data_made m t p all i b true is stood alone id = tt
data_made m t p all i b false is stood alone id = record { id = id; fillings = fillings_stand (program m t p) m t p all.old i b stood alone is }

-- a piece is a good block
abbrev IsGood : Program → Piece → Type 0
IsGood g q = IfSome (code_of q) (IsCode g) × IfSome (data_of q) (IsData g)

blocks_good : (m : Module) (t : Tables) (p : PatchTable) → HasAll m t p → (i : Interval) → IsStood t i → (bs : List Block) → Every (IsHome i) bs → Every (λ b. IsId (id_of b)) bs → Every (λ b. is_crooked b ≡ false) bs → Every (TakesWords m p) bs
    → Every (λ b. IsGood (program m t p) (piece m t p i b)) bs
blocks_good m t p all i stood [] alone id straight takes = tt
blocks_good m t p all i stood (b ∷ bs) alone id straight takes = (
  (code_made m t p all i b (is_code b) refl stood alone.0 id.0 straight.0 takes.0, data_made m t p all i b (is_code b) refl stood alone.0 id.0),
  blocks_good m t p all i stood bs alone.1 id.1 straight.1 takes.1,
)

all_take : (ir : Ir) (m : Module) (t : Tables) (p : PatchTable) → formed ir m t → table_ok m p → Every (λ (i : Interval). Every (TakesWords m p) (in_order i.blocks)) (loaded_intervals m)
all_take ir m t p h accepted =
    every_weaker _ (λ (i : Interval). Every (TakesWords m p) (in_order i.blocks))
    (λ i k. every_weaker _ (TakesWords m p) (λ b l. inserted_stand p b (Fits m p) l (insert_words m p accepted)) (in_order i.blocks) k) (loaded_intervals m)
    (all_stand m p accepted.inserts (λ id. let less = blocks_held ir m t h id in let one = held_once ir m t h id in omega (arith, less, one)))

own_good : (m : Module) (t : Tables) (p : PatchTable) → HasAll m t p → (is : List Interval) → Every (IsSound t) is → Every (λ (i : Interval). Every (TakesWords m p) (in_order i.blocks)) is
    → Every (λ (s : Stretch). Every (IsGood (program m t p)) s.pieces) (map (stretch m t p) is)
own_good m t p all [] h k = tt
own_good m t p all (i ∷ is) h k = (
  pieces_each (IsGood (program m t p)) (λ bytes. (tt, tt)) m t p i 0 (in_order i.blocks) (blocks_good m t p all i h.0.stood (in_order i.blocks) h.0.homes h.0.ids h.0.straight k.0),
  own_good m t p all is h.1 k.1,
)

-- ---- blocks of functions

function_good : (m : Module) (t : Tables) (p : PatchTable) → HasAll m t p → (f : Function) (k at : ℕ) (bs : List (List PatchWord)) → Every (Every (Fits m p)) bs → Every (IsGood (program m t p)) (function_pieces m p f k at bs)
function_good m t p all f k at [] h = tt
function_good m t p all f k at (b ∷ bs) h = (
  (
    record {
      id = derived_is_id m.uuid _;
      own = every_map (patched_word m p) (IsWord (program m t p)) b (every_weaker (Fits m p) (λ w. IsWord (program m t p) (patched_word m p w)) (λ w l. word_there (program m t p) m p all.old all.new w l) b h.0);
      inserted = tt;
    },
    tt,
  ),
  function_good m t p all f (suc k) (at + 4 * length b) bs h.1,
)

brought_good : (m : Module) (t : Tables) (p : PatchTable) → HasAll m t p → table_ok m p → Every (λ (s : Stretch). Every (IsGood (program m t p)) s.pieces) (brought m p)
brought_good m t p all h =
    every_map (function_stretch m p) (λ (s : Stretch). Every (IsGood (program m t p)) s.pieces) p.functions
    (every_weaker (λ f. Every (Fits m p) (function_words f)) (λ f. Every (IsGood (program m t p)) (function_stretch m p f).pieces)
    (λ f l. function_good m t p all f 0 0 (function_blocks f) (cut_each (Fits m p) (with_starts true f.body) (starts_each (Fits m p) true f.body l))) p.functions (all_function_words m p h))

all_good : (ir : Ir) (m : Module) (t : Tables) (p : PatchTable) → formed ir m t → HasAll m t p → table_ok m p → Every (IsGood (program m t p)) (pieces_of (program m t p))
all_good ir m t p h all accepted =
    every_flat (λ (s : Stretch). s.pieces) (IsGood (program m t p)) (program m t p).stretches
    (all_parts (λ (s : Stretch). Every (IsGood (program m t p)) s.pieces) m t p (loaded_sections m) (own_good m t p all (loaded_intervals m) (all_sound ir m t h) (all_take ir m t p h accepted)) (brought_good m t p all accepted))

-- ---- intervals

own_each : (P : Stretch → Type 0) (m : Module) (t : Tables) (p : PatchTable) → ((i : Interval) → IsSound t i → P (stretch m t p i)) → Every (IsSound t) (loaded_intervals m) → Every P (map (stretch m t p) (loaded_intervals m))
own_each P m t p f h = every_map (stretch m t p) P (loaded_intervals m) (every_weaker (IsSound t) (λ i. P (stretch m t p i)) f (loaded_intervals m) h)

brought_each : (P : Stretch → Type 0) (m : Module) (p : PatchTable) → ((f : Function) → P (function_stretch m p f)) → Every P (brought m p)
brought_each P m p f = every_map (function_stretch m p) P p.functions (every_all (λ x. P (function_stretch m p x)) f p.functions)

ids_flat : (ss : List Stretch) → map (λ (s : Stretch). s.id) ss ≡ flat_map stretch_id ss
ids_flat [] = refl
ids_flat (s ∷ ss) = ap (λ l. s.id ∷ l) (ids_flat ss)

pairs_of_keys : {X : Type 0} (key : X → List ℕ) (xs : List X) → AllPairs (λ a b. a ≢ b) (map key xs) → AllPairs (λ x y. key x ≢ key y) xs
pairs_of_keys key xs h i j d low high e =
    let first = get_or-map key xs i d (key d) (omega (arith, low, high)) in
    let second = get_or-map key xs j d (key d) high in
    h i j (key d) low (subst (λ n. j < n) (sym (length-map xs key)) high) (first ∙ (e ∙ sym second))

intervals_apart : (ir : Ir) (m : Module) (t : Tables) (p : PatchTable) → formed ir m t → ids_ok ir m p → AllPairs (λ (s later : Stretch). s.id ≢ later.id) (program m t p).stretches
intervals_apart ir m t p h ok =
    let P : List (List ℕ) → Type 0 = λ l. AllPairs (λ a b. a ≢ b) l in
    pairs_of_keys (λ (s : Stretch). s.id) (program m t p).stretches
    (subst P (sym (ids_flat (program m t p).stretches)) (apart (flat_map stretch_id (program m t p).stretches) (intervals_once ir m t p h ok)))

-- ---- sizes

-- a function has a word at least
few_functions : (fs : List Function) → Every (λ f. function_words f ≢ []) fs → length fs ≤ length (flat_map function_words fs)
few_functions [] h = omega arith
few_functions (f ∷ fs) h =
    let all = length-append (function_words f) (flat_map function_words fs) in
    let rest = few_functions fs h.1 in
    let some = at (function_words f) h.0 in
    omega (arith, all, rest, some)
  where
    at : (ws : List PatchWord) → ws ≢ [] → 1 ≤ length ws
    at [] k = absurd (k refl)
    at (w ∷ ws) k = omega arith

functions_room : (m : Module) (p : PatchTable) (fs : List Function) → sum_by stretch_size (map (function_stretch m p) fs) ≤ 4 * length (flat_map function_words fs)
functions_room m p [] = omega arith
functions_room m p (f ∷ fs) =
    let all = length-append (function_words f) (flat_map function_words fs) in
    let sum = sum_by-cons stretch_size (function_stretch m p f) (map (function_stretch m p) fs) in
    let here = function_room m p f 0 0 0 (function_blocks f) in
    let words = all_words f in
    let rest = functions_room m p fs in
    omega (arith, all, sum, here, words, rest)

words_of_functions : (p : PatchTable) → length (flat_map function_words p.functions) ≤ length (patch_words p)
words_of_functions p = let all = length-append (flat_map (λ (x : Insert). x.body) p.inserts) (flat_map function_words p.functions) in omega (arith, all)

all_sizes : (ir : Ir) (m : Module) (t : Tables) (p : PatchTable) → formed ir m t → table_ok m p → sum_by stretch_size (program m t p).stretches < 2 ^ 62
all_sizes ir m t p h accepted =
    let size : List Stretch → ℕ = λ ss. sum_by stretch_size ss in
    let both = both_parts size refl (λ xs ys. sum_by-append stretch_size xs ys) m t p (loaded_sections m) in
    let extras = once_extra m (loaded_sections m) (size (brought m p)) (extra_once ir m t h) in
    let own = stretches_room m t p (loaded_intervals m) (every_weaker (IsSound t) IsLaid (λ i s. s.laid) (loaded_intervals m) (all_sound ir m t h)) in
    let put = put_most p (flat_map block_ids_of (loaded_intervals m)) (λ id. let less = blocks_held ir m t h id in let one = held_once ir m t h id in omega (arith, less, one)) in
    let functions = functions_room m p p.functions in
    let words = words_of_functions p in
    small (size (program m t p).stretches) (size (map (stretch m t p) (loaded_intervals m))) (extra m (loaded_sections m) (size (brought m p))) (size (brought m p)) (total_size (loaded_intervals m)) (put_among p (flat_map block_ids_of (loaded_intervals m))) (length (flat_map function_words p.functions)) (length (patch_words p))
    both extras own put functions words h.faultless.small accepted.few
  where
    small : (all own more new total put words most : ℕ) → all ≡ own + more → more ≤ new → own ≤ 4096 * total + 4 * put → put ≤ most → new ≤ 4 * words → words ≤ most → total ≤ 2 ^ 40 → most ≤ 1048576 → all < 2 ^ 62
    small all own more new total put words most a b c d e f g k = omega arith

-- the intervals: those of the module, and one of each function
pub most_stretches : (ir : Ir) (m : Module) (t : Tables) (p : PatchTable) → formed ir m t → length (program m t p).stretches ≤ length (loaded_intervals m) + length p.functions
most_stretches ir m t p h =
    let size : List Stretch → ℕ = λ ss. length ss in
    let both = both_parts size refl (λ xs ys. length-append xs ys) m t p (loaded_sections m) in
    let extras = once_extra m (loaded_sections m) (size (brought m p)) (extra_once ir m t h) in
    let own = length-map (loaded_intervals m) (stretch m t p) in
    let new = length-map p.functions (function_stretch m p) in
    small (size (program m t p).stretches) (size (map (stretch m t p) (loaded_intervals m))) (extra m (loaded_sections m) (size (brought m p))) (size (brought m p)) (length (loaded_intervals m)) (length p.functions)
    both extras own new
  where
    small : (all own more new is fs : ℕ) → all ≡ own + more → more ≤ new → own ≡ is → new ≡ fs → all ≤ is + fs
    small all own more new is fs a b c d = omega arith

few_stretches : (ir : Ir) (m : Module) (t : Tables) (p : PatchTable) → formed ir m t → length (loaded_intervals m) < 2 ^ 39 → table_ok m p → length (program m t p).stretches < 2 ^ 40
few_stretches ir m t p h few accepted =
    let most = most_stretches ir m t p h in
    let functions = few_functions p.functions accepted.bodies in
    let words = words_of_functions p in
    small (length (program m t p).stretches) (length (loaded_intervals m)) (length p.functions) (length (flat_map function_words p.functions)) (length (patch_words p)) most functions words few accepted.few
  where
    small : (all is fs words most : ℕ) → all ≤ is + fs → fs ≤ words → words ≤ most → is < 2 ^ 39 → most ≤ 1048576 → all < 2 ^ 40
    small all is fs words most a b c d e = omega arith

-- ---- the entry

-- what is known of a block of a loaded section
record IsOwn (ir : Ir) (g : Program) (p : PatchTable) (k : ℕ) (b : Block) : Type 0 where
  known : IsKnown g p b
  other : entered.IsData (nodes ir) k b
  whole : is_bare b ≡ false

own_blocks : (ir : Ir) (g : Program) (p : PatchTable) (k : ℕ) (bs : List Block) → Every (IsKnown g p) bs → Every (entered.IsData (nodes ir) k) bs → Every (λ b. is_bare b ≡ false) bs → Every (IsOwn ir g p k) bs
own_blocks ir g p k [] a b c = tt
own_blocks ir g p k (x ∷ xs) a b c = (record { known = a.0; other = b.0; whole = c.0 }, own_blocks ir g p k xs a.1 b.1 c.1)

all_own : (ir : Ir) (m : Module) (t : Tables) (p : PatchTable) → formed ir m t → ids_ok ir m p → (part : IsPart m ir.modules 0) → Every (IsOwn ir (program m t p) p part.ordinal) (blocks_of (loaded_intervals m))
all_own ir m t p h ok part =
    own_blocks ir (program m t p) p part.ordinal (blocks_of (loaded_intervals m)) (all_known ir m t p h ok)
    (every_flat (λ (i : Interval). i.blocks) (entered.IsData (nodes ir) part.ordinal) (loaded_intervals m) (loaded_each (λ (i : Interval). Every (entered.IsData (nodes ir) part.ordinal) i.blocks) m (module_data ir m part h.linked.links.distinct)))
    (every_flat (λ (i : Interval). i.blocks) (λ b. is_bare b ≡ false) (loaded_intervals m) (every_weaker HasNoBare (λ (i : Interval). Every (λ b. is_bare b ≡ false) i.blocks) (λ i l. none_of_any is_bare i.blocks l) (loaded_intervals m) (loaded_each HasNoBare m (module_whole ir m t h))))

entry_at : (ir : Ir) (m : Module) (g : Program) (p : PatchTable) (k : ℕ) (o : Option (List ℕ)) → Every (IsOwn ir g p k) (blocks_of (loaded_intervals m)) → Every (Lands (nodes ir)) (map (reference m.uuid (EntryOf k)) (option_to_list o))
    → option_map_or (have_block (loaded_intervals m)) o false ≡ true → IsPoint g (start_of (unwrap_or o []))
entry_at ir m g p k None own lands h = absurd (false≢true h)
entry_at ir m g p k (Some id) own lands h =
    let one = any_one (has_id id) (IsOwn ir g p k) (blocks_of (loaded_intervals m)) own h in
    let b : Block = one.0 in
    let same : id_of b ≡ id = same_id (id_of b) id one.1 in
    let code : is_code b ≡ true = entry_code (nodes ir) m.uuid k id b lands.0 same one.2.other one.2.whole in
    let P : List ℕ → Type 0 = λ x. IsPoint g (start_of x) in
    subst P same (start_there g p b (one.2.known.code code))

entry_made : (ir : Ir) (m : Module) (t : Tables) (p : PatchTable) → formed ir m t → ids_ok ir m p → IsPoint (program m t p) (start_of (entry_of m))
entry_made ir m t p h ok =
    let part = part_of m ir.modules 0 h.member in
    entry_at ir m (program m t p) p part.ordinal m.entry (all_own ir m t p h ok part) (entry_lands ir m part h.linked.links.lands) h.faultless.entered

-- ---- all

pub made : (ir : Ir) (m : Module) (t : Tables) (p : PatchTable) → formed ir m t → length (program m t p).stretches < 2 ^ 40 → table_ok m p → ids_ok ir m p → well_made (program m t p)
made ir m t p h few accepted ok =
    let sound = all_sound ir m t h in
    let all : HasAll m t p = record { old = symbols_there ir m t p h ok; new = functions_known ir m t p h ok accepted } in
    let good = all_good ir m t p h all accepted in
    let g = program m t p in
    record {
      count = few;
      ids = all_parts (λ (s : Stretch). IsId s.id) m t p (loaded_sections m) (own_each (λ (s : Stretch). IsId s.id) m t p (λ i s. s.id) sound) (brought_each (λ (s : Stretch). IsId s.id) m p (λ f. derived_is_id m.uuid (interval_text f.name)));
      distinct = intervals_apart ir m t p h ok;
      apart = apart (block_ids g) (blocks_once ir m t p h ok);
      sizes = all_sizes ir m t p h accepted;
      tiled = all_parts (λ (s : Stretch). IsTiled 0 s.pieces) m t p (loaded_sections m)
          (own_each (λ (s : Stretch). IsTiled 0 s.pieces) m t p (λ i s. tiled_pieces m t p i 0 (in_order i.blocks) s.laid.behind s.straight) sound)
          (brought_each (λ (s : Stretch). IsTiled 0 s.pieces) m p (λ f. function_tiled m p f 0 0 (function_blocks f) refl));
      codes = every_filter_map code_of (IsCode g) (pieces_of g) (every_weaker (IsGood g) (λ q. IfSome (code_of q) (IsCode g)) (λ q k. k.0) (pieces_of g) good);
      datas = every_filter_map data_of (IsData g) (pieces_of g) (every_weaker (IsGood g) (λ q. IfSome (data_of q) (IsData g)) (λ q k. k.1) (pieces_of g) good);
      entry = (entry_of m, refl, entry_made ir m t p h ok);
    }

pub all_made : (ir : Ir) (m : Module) (t : Tables) (p : PatchTable) → formed ir m t → length (loaded_intervals m) < 2 ^ 39 → table_ok m p → ids_ok ir m p → well_made (program m t p)
all_made ir m t p h few accepted ok = made ir m t p h (few_stretches ir m t p h few accepted) accepted ok
