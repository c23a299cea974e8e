-- Blocks are found by their identifiers, in a module without patches and in a rewritten one.
use Rattle.sym_expr.specs.declared.program.Word.{Word}
use Rattle.sym_expr.specs.declared.patches.PatchWord.{PatchWord}
use Rattle.std.proofs.Common.{◌≡◌, ◌≢◌, ℕ, ◌+◌, ◌*◌, ◌/◌, ◌%◌, Bool, true, false, List, [], ◌∷◌, ◌++◌, length, map, Some, refl, sym, ap, ◌∙◌, subst, arith}
use Rattle.std.specs.Prelude.{AllPairs, filter, ◌==◌, if◌then◌else◌}
use Rattle.std.specs.List.{AllByRecursion as Every, IsDistinct, flat_map, list_any}
use Rattle.std.specs.Str.{bytes_eq}
use Rattle.std.proofs.lemmas.Bool.{both_ways, eqb-true, false_from_ne_true, not-false}
use Rattle.std.proofs.lemmas.List.{map-append}
use Rattle.std.proofs.lemmas.Map.Made.{AllPairs-from_IsDistinct}
use Rattle.std.proofs.lemmas.Slice.Eq.{bytes_eq-Decides}
use Rattle.block_parts.specs.declared.parts.Part.{Part}
use Rattle.block_parts.specs.declared.words.PatchedWord.{PatchedWord}
use Rattle.block_parts.specs.Parts.{parts, parts_from}
use Rattle.block_parts.specs.Words.{patched_words}
use Rattle.gt_model.specs.declared.intervals.Block.{Block}
use Rattle.gt_model.specs.declared.intervals.Body.{Body}
use Rattle.gt_model.specs.declared.intervals.Body.TheVariants as bodies
use Rattle.gt_model.specs.declared.intervals.Interval.{Interval}
use Rattle.gt_model.specs.declared.modules.Module.{Module}
use Rattle.gt_model.specs.declared.modules.Section.{Section}
use Rattle.rewrite.specs.Blocks.{new_block, part_block, part_size}
use Rattle.rewrite.specs.Functions.{function_interval}
use Rattle.rewrite.specs.Identifiers.{last_part, part_id}
use Rattle.rewrite.specs.Offsets.{new_start}
use Rattle.rewrite.specs.Rewritten.{has_words, new_interval, new_intervals, new_section, stretched}
use Rattle.sym_expr.specs.declared.patches.PatchTable.{PatchTable}
use Rattle.sym_expr.specs.declared.program.CodeBlock.{CodeBlock}
use Rattle.sym_expr.specs.declared.program.Stretch.{Stretch}
use Rattle.sym_expr.specs.Modules.{block_of, blocks_of, id_of, in_order, intervals_of, is_code, is_loaded, loaded_intervals, loaded_sections, size_of}
use Rattle.sym_expr.specs.Patches.{inserted_in, no_patches}
use Rattle.sym_expr.specs.Program.{patched_word, code_block, has_entry, program, section_stretches, stretch}
use Rattle.sym_expr.specs.Tables.{Tables}
use Rattle.sym_expr.specs.WellMade.{block_id, block_ids}
use Rattle.repaired_programs.proofs.Becomes.{whole_code, length-own_words, becomes, IsFit, body_at}
use Rattle.repaired_programs.proofs.Counts.{distinct_of_once, once, times, times_append, times_in_order}
use Rattle.repaired_programs.proofs.Known.{ids_kept}
use Rattle.repaired_programs.proofs.Lists.{every_append, every_back, every_both, every_front, every_part, every_unmap, every_weaker, none_of_any}
use Rattle.repaired_programs.proofs.Still.{IsOnePart}
use Rattle.repaired_programs.proofs.Walks.{some_part}

-- ---- the blocks of a program without patches are those of the module

nothing_more : {X : Type 0} (xs : List X) (b : Bool) → xs ++ (if b then [] else []) ≡ xs
nothing_more [] true = refl
nothing_more [] false = refl
nothing_more (x ∷ xs) b = ap (λ l. x ∷ l) (nothing_more xs b)

section_intervals : (n : Module) (u : Tables) (ss : List Section) → flat_map (section_stretches n u no_patches) ss ≡ map (stretch n u no_patches) (intervals_of ss)
section_intervals n u [] = refl
section_intervals n u (s ∷ ss) =
    ap (λ l. l ++ flat_map (section_stretches n u no_patches) ss) (nothing_more (map (stretch n u no_patches) s.intervals) (has_entry n s))
    ∙ (ap (λ l. map (stretch n u no_patches) s.intervals ++ l) (section_intervals n u ss)
    ∙ sym (map-append (stretch n u no_patches) s.intervals (intervals_of ss)))

abbrev ids_in : Stretch → List (List ℕ)
ids_in s = flat_map block_id s.pieces

times_of : (n : Module) (u : Tables) (id : List ℕ) (is : List Interval) → times id (flat_map ids_in (map (stretch n u no_patches) is)) ≡ times id (map id_of (blocks_of is))
times_of n u id [] = refl
times_of n u id (i ∷ is) =
    let s : Stretch = stretch n u no_patches i in
    let rest = times_of n u id is in
    let here : times id (ids_in s) ≡ times id (map id_of i.blocks) = ap (times id) (ids_kept n u no_patches i 0 (in_order i.blocks)) ∙ times_in_order id i.blocks in
    let split = times_append id (ids_in s) (flat_map ids_in (map (stretch n u no_patches) is)) in
    let join : times id (map id_of (i.blocks ++ blocks_of is)) ≡ times id (map id_of i.blocks) + times id (map id_of (blocks_of is)) =
    ap (times id) (map-append id_of i.blocks (blocks_of is)) ∙ times_append id (map id_of i.blocks) (map id_of (blocks_of is)) in
    omega (arith, rest, here, split, join)

distinct_blocks : (n : Module) (u : Tables) → AllPairs (λ (a b : List ℕ). a ≢ b) (block_ids (program n u no_patches)) → IsDistinct bytes_eq (map id_of (blocks_of (loaded_intervals n)))
distinct_blocks n u apart =
    distinct_of_once (map id_of (blocks_of (loaded_intervals n)))
    (λ id.
    let most = once (block_ids (program n u no_patches)) apart id in
    let same : times id (block_ids (program n u no_patches)) ≡ times id (map id_of (blocks_of (loaded_intervals n))) =
    ap (λ (l : List Stretch). times id (flat_map ids_in l)) (section_intervals n u (loaded_sections n)) ∙ times_of n u id (loaded_intervals n) in
    omega (arith, most, same))

pub apart_blocks : (n : Module) (u : Tables) → AllPairs (λ (a b : List ℕ). a ≢ b) (map id_of (blocks_of (loaded_intervals n))) → AllPairs (λ (a b : List ℕ). a ≢ b) (block_ids (program n u no_patches))
apart_blocks n u apart =
    AllPairs-from_IsDistinct bytes_eq-Decides (block_ids (program n u no_patches))
    (distinct_of_once (block_ids (program n u no_patches))
    (λ id.
    let most = once (map id_of (blocks_of (loaded_intervals n))) apart id in
    let same : times id (block_ids (program n u no_patches)) ≡ times id (map id_of (blocks_of (loaded_intervals n))) =
    ap (λ (l : List Stretch). times id (flat_map ids_in l)) (section_intervals n u (loaded_sections n)) ∙ times_of n u id (loaded_intervals n) in
    omega (arith, most, same)))

-- ---- each is found

turned : (a b : List ℕ) → bytes_eq a b ≡ false → bytes_eq b a ≡ false
turned a b h = false_from_ne_true (bytes_eq b a) (λ e. both_ways (bytes_eq a b) h ((bytes_eq-Decides a b).1 (sym ((bytes_eq-Decides b a).0 e))))

abbrev pub IsIn : List Block → Block → Type 0
IsIn bs b = block_of (id_of b) bs ≡ Some b

skipped : (b c : Block) (bs : List Block) → bytes_eq (id_of b) (id_of c) ≡ false → IsIn bs c → IsIn (b ∷ bs) c
skipped b c bs h k = ap (λ x. if x then Some b else block_of (id_of c) bs) h ∙ k

each_in : (bs : List Block) → IsDistinct bytes_eq (map id_of bs) → Every (IsIn bs) bs
unfolding IsDistinct
each_in [] d = tt
each_in (b ∷ bs) d = (
  ap (λ x. if x then Some b else block_of (id_of b) bs) ((bytes_eq-Decides (id_of b) (id_of b)).1 refl),
  every_weaker (λ c. (bytes_eq (id_of b) (id_of c) ≡ false) × IsIn bs c) (IsIn (b ∷ bs)) (λ c h. skipped b c bs h.0 h.1) bs
      (every_both (λ c. bytes_eq (id_of b) (id_of c) ≡ false) (IsIn bs) bs (every_unmap id_of (λ y. bytes_eq (id_of b) y ≡ false) bs d.0) (each_in bs d.1)),
)

pub all_blocks_in : (n : Module) (u : Tables) → AllPairs (λ (a b : List ℕ). a ≢ b) (block_ids (program n u no_patches)) → Every (IsIn (blocks_of (loaded_intervals n))) (blocks_of (loaded_intervals n))
all_blocks_in n u apart = each_in (blocks_of (loaded_intervals n)) (distinct_blocks n u apart)

-- ---- from the new intervals to the old ones

either_old : (R : Interval → Type 0) (m : Module) (t : Tables) (p : PatchTable) (s : Section) (ss : List Section) (x : Bool) → is_loaded s ≡ x
    → (Every R (intervals_of (filter is_loaded (map (new_section m t p) ss))) → Every (λ i. R (new_interval m t p i)) (intervals_of (filter is_loaded ss)))
    → Every R (intervals_of (filter is_loaded ((if x then record s { intervals = new_intervals m t p s } else s) ∷ map (new_section m t p) ss))) → Every (λ i. R (new_interval m t p i)) (intervals_of (if x then s ∷ filter is_loaded ss else filter is_loaded ss))
either_old R m t p s ss true e rest h =
    let others : List Section = filter is_loaded (map (new_section m t p) ss) in
    let now : Every R (new_intervals m t p s ++ intervals_of others) =
    let P : Bool → Type 0 = λ x. Every R (intervals_of (if x then record s { intervals = new_intervals m t p s } ∷ others else others)) in subst P e h in
    let first = every_front R (new_intervals m t p s) (intervals_of others) now in
    let own = every_front R (map (new_interval m t p) s.intervals) (if has_entry m s then map (function_interval m) p.functions else []) first in
    every_append (λ i. R (new_interval m t p i)) s.intervals (intervals_of (filter is_loaded ss)) (every_unmap (new_interval m t p) R s.intervals own) (rest (every_back R (new_intervals m t p s) (intervals_of others) now))
either_old R m t p s ss false e rest h =
    let others : List Section = filter is_loaded (map (new_section m t p) ss) in
    rest (let P : Bool → Type 0 = λ x. Every R (intervals_of (if x then s ∷ others else others)) in subst P e h)

pub of_olds : (R : Interval → Type 0) (m : Module) (t : Tables) (p : PatchTable) (ss : List Section) → Every R (intervals_of (filter is_loaded (map (new_section m t p) ss))) → Every (λ i. R (new_interval m t p i)) (intervals_of (filter is_loaded ss))
of_olds R m t p [] h = tt
of_olds R m t p (s ∷ ss) h = either_old R m t p s ss (is_loaded s) refl (of_olds R m t p ss) h

-- ---- what a block becomes is found

-- a block of this identifier, kind and size is found
pub record IsHeld (blocks : List Block) (id : List ℕ) (kind : Bool) (size : ℕ) : Type 0 where
  pub block : Block
  pub found : block_of id blocks ≡ Some block
  pub same : id_of block ≡ id
  pub code : is_code block ≡ kind
  pub sized : size_of block ≡ size

-- its first part and its last one, or the block itself
pub record IsSplit (m : Module) (blocks : List Block) (c : CodeBlock) : Type 0 where
  pub size : ℕ
  pub first : IsHeld blocks c.id true size
  pub last : IsHeld blocks (part_id m c.id (last_part (parts c))) true (part_size (last_part (parts c)))

abbrev pub IsCarried : Module → PatchTable → Interval → List Block → Block → Body → Type 0
IsCarried m p i blocks b bodies.Bare = Unit {0}
IsCarried m p i blocks b (bodies.Code uuid size decode_mode) = IsSplit m blocks (code_block m p i b)
IsCarried m p i blocks b (bodies.Data uuid size) = IsHeld blocks uuid false size

last_every : (P : Part → Type 0) (start : ℕ) (words : List PatchedWord) (ps : List (List PatchedWord)) → Every P (parts_from start (words ∷ ps)) → P (last_part (parts_from start (words ∷ ps)))
last_every P start words [] h = h.0
last_every P start words (next ∷ ps) h = last_every P (start + 4 * length words) next ps h.1

split_of : (m : Module) (blocks : List Block) (c : CodeBlock) (decode_mode place : ℕ) → Every (IsIn blocks) (map (part_block m c.id decode_mode place) (parts c)) → IsSplit m blocks c
split_of m blocks c decode_mode place h =
    let P : Part → Type 0 = λ q. IsHeld blocks (part_id m c.id q) true (part_size q) in
    let all : Every P (parts c) =
    every_weaker (λ q. IsIn blocks (part_block m c.id decode_mode place q)) P (λ q k. record { block = part_block m c.id decode_mode place q; found = k; same = refl; code = refl; sized = refl }) (parts c)
    (every_unmap (part_block m c.id decode_mode place) (IsIn blocks) (parts c) h) in
    let some = some_part (patched_words c) in
    let first = subst (λ (ws : List (List PatchedWord)). Every P (parts_from 0 ws)) some.2 all in
    let Q : List (List PatchedWord) → Type 0 = λ ws. Every P (parts_from 0 ws) → P (last_part (parts_from 0 ws)) in
    record { size = 4 * length some.0; first = first.0; last = (subst Q (sym some.2) (last_every P 0 some.0 some.1)) all }

body_carried : (m : Module) (p : PatchTable) (i : Interval) (blocks : List Block) (place offset : ℕ) (body : Body) → let b : Block = record { offset = offset; body = body } in Every (IsIn blocks) (body_at m p i place b body) → IsCarried m p i blocks b body
body_carried m p i blocks place offset bodies.Bare h = tt
body_carried m p i blocks place offset (bodies.Code uuid size decode_mode) h = split_of m blocks (code_block m p i (record { offset = offset; body = bodies.Code uuid size decode_mode })) decode_mode place h
body_carried m p i blocks place offset (bodies.Data uuid size) h = record { block = record { offset = place; body = bodies.Data uuid size }; found = h.0; same = refl; code = refl; sized = refl }

stretched_carried : (m : Module) (t : Tables) (p : PatchTable) (i : Interval) (blocks : List Block) (b : Block) → Every (IsIn blocks) (new_block m p i (stretch m t p i) b) → IsCarried m p i blocks b b.body
stretched_carried m t p i blocks b h =
    let place : ℕ = new_start (stretch m t p i) (id_of b) in
    body_carried m p i blocks place b.offset b.body (subst (Every (IsIn blocks)) (becomes m p i (stretch m t p i) b place refl) h)

-- where nothing is inserted
nil_of : {X : Type 0} (xs : List X) → length xs ≡ 0 → xs ≡ []
nil_of [] e = refl
nil_of (x ∷ xs) e = absurd (omega (arith, e))

quiet_carried : ((b : CodeBlock) → IsOnePart b) → (m : Module) (p : PatchTable) (i : Interval) (blocks : List Block) (offset : ℕ) (body : Body) → let b : Block = record { offset = offset; body = body } in IsFit m p i b → has_words p b ≡ false → IsIn blocks b → IsCarried m p i blocks b body
quiet_carried one m p i blocks offset bodies.Bare fit none h = tt
quiet_carried one m p i blocks offset (bodies.Code uuid size decode_mode) fit none h =
    let b : Block = record { offset = offset; body = bodies.Code uuid size decode_mode } in
    let c : CodeBlock = code_block m p i b in
    let zero_words : length (inserted_in p uuid) ≡ 0 = eqb-true (length (inserted_in p uuid)) 0 (not-false (length (inserted_in p uuid) == 0) none) in
    let quiet : c.inserted ≡ [] = ap (map (λ (w : ℕ × PatchWord). let v : ℕ × Word = (w.0, patched_word m p w.1) in v)) (nil_of (inserted_in p uuid) zero_words) in
    let none_in : length c.inserted ≡ 0 = ap (λ (l : List (ℕ × Word)). length l) quiet in
    let counted = fit.counted refl in
    let own = length-own_words m p i offset (size / 4) in
    let whole : size % 4 ≡ 0 = whole_code b fit.straight refl in
    let all : 4 * length (patched_words c) ≡ size = omega (arith, counted, none_in, own, whole) in
    let L : List Part → Type 0 = λ qs. IsHeld blocks (part_id m uuid (last_part qs)) true (part_size (last_part qs)) in
    record {
      size = size;
      first = record { block = b; found = h; same = refl; code = refl; sized = refl };
      last = subst L (sym (one c quiet)) (record { block = b; found = h; same = refl; code = refl; sized = sym all });
    }
quiet_carried one m p i blocks offset (bodies.Data uuid size) fit none h = record { block = record { offset = offset; body = bodies.Data uuid size }; found = h; same = refl; code = refl; sized = refl }

abbrev pub AreCarried : Module → Tables → PatchTable → List Block → Interval → Type 0
AreCarried m t p blocks i = Every (λ (b : Block). IsCarried m p i blocks b b.body) i.blocks

either_carried : ((b : CodeBlock) → IsOnePart b) → (m : Module) (t : Tables) (p : PatchTable) (blocks : List Block) (i : Interval) (x : Bool) → list_any (has_words p) i.blocks ≡ x → Every (IsFit m p i) i.blocks
    → Every (IsIn blocks) (if x then stretched m p i (stretch m t p i) else i).blocks → AreCarried m t p blocks i
either_carried one m t p blocks i true e fit h =
    every_weaker (λ b. Every (IsIn blocks) (new_block m p i (stretch m t p i) b)) (λ (b : Block). IsCarried m p i blocks b b.body) (λ b k. stretched_carried m t p i blocks b k) i.blocks
    (every_part (new_block m p i (stretch m t p i)) (IsIn blocks) i.blocks h)
either_carried one m t p blocks i false e fit h =
    every_weaker (λ b. (IsFit m p i b × (has_words p b ≡ false)) × IsIn blocks b) (λ (b : Block). IsCarried m p i blocks b b.body) (λ b k. quiet_carried one m p i blocks b.offset b.body k.0.0 k.0.1 k.1) i.blocks
    (every_both (λ b. IsFit m p i b × (has_words p b ≡ false)) (IsIn blocks) i.blocks (every_both (IsFit m p i) (λ b. has_words p b ≡ false) i.blocks fit (none_of_any (has_words p) i.blocks e)) h)

pub carried : ((b : CodeBlock) → IsOnePart b) → (m : Module) (t : Tables) (p : PatchTable) (blocks : List Block) (i : Interval) → Every (IsFit m p i) i.blocks → Every (IsIn blocks) (new_interval m t p i).blocks → AreCarried m t p blocks i
carried one m t p blocks i fit h = either_carried one m t p blocks i (list_any (has_words p) i.blocks) refl fit h
