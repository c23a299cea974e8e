-- Without patches every place, and every value of a table, stays.
use Rattle.std.proofs.Common.{◌≡◌, ℕ, ◌+◌, ◌-◌, ◌*◌, ◌%◌, ◌≤◌, ◌⊎◌, inl, inr, Bool, true, false, List, [], ◌∷◌, ◌++◌, Option, Some, None, length, refl, sym, ap, subst, ◌∙◌, arith}
use Rattle.std.specs.Prelude.{find, nat_le, ◌==◌, if◌then◌else◌}
use Rattle.std.specs.List.{AllByRecursion as Every}
use Rattle.std.specs.Option.{option_map, option_map_or, option_or}
use Rattle.std.specs.Str.{bytes_eq}
use Rattle.std.proofs.lemmas.Bool.{cases_lt, eqb-true, leb-true}
use Rattle.aux_codec.specs.declared.value.Place.{Place}
use Rattle.aux_codec.specs.Places.{with_places, each_with_places, entries_with_places}
use Rattle.aux_codec.specs.Value.{Value, Str, Truth, Id, Number, Signed, At, Four, Eight, Many, Pairs, Parts, Choice, Values, none, more, Entries, no_entry, entry}
use Rattle.block_parts.proofs.Cuts.{whole}
use Rattle.block_parts.specs.declared.words.PatchedWord.{PatchedWord}
use Rattle.block_parts.specs.Parts.{part}
use Rattle.block_parts.specs.Words.{numbered, own, patched_words, words_from}
use Rattle.edge_repair.proofs.Unpatched.{quiet_vertices}
use Rattle.edge_repair.specs.Edges.{later_parts}
use Rattle.edge_repair.specs.Repaired.{new_value}
use Rattle.edge_repair.specs.Sets.{before, function_value, parts_of, sets_with_parts, with_functions, with_parts, is_blocks_table, is_entries_table, is_names_table, blocks_value, entries_value, symbol_value}
use Rattle.gt_model.specs.declared.intervals.Block.{Block}
use Rattle.gt_model.specs.declared.intervals.Interval.{Interval}
use Rattle.gt_model.specs.declared.ir.Ir.{Ir}
use Rattle.gt_model.specs.declared.modules.Module.{Module}
use Rattle.gt_model.specs.declared.tables.Aux.{Aux}
use Rattle.rewrite.proofs.Order.{first, here, later}
use Rattle.rewrite.proofs.Rooms.{no_padding, step_divides}
use Rattle.rewrite.proofs.Unpatched.{all_quiet}
use Rattle.rewrite.specs.Blocks.{part_size}
use Rattle.rewrite.specs.Identifiers.{last_part, part_id}
use Rattle.rewrite.specs.Offsets.{new_depth, new_offset, offset_among, old_size}
use Rattle.rewrite.specs.Places.{code_place, depth_of, interval_place, loaded_interval, moved_place, place_among}
use Rattle.sym_expr.specs.declared.patches.Function.{Function}
use Rattle.sym_expr.specs.declared.program.CodeBlock.{CodeBlock}
use Rattle.sym_expr.specs.declared.program.Piece.{Piece}
use Rattle.sym_expr.specs.declared.program.Piece.TheVariants.{Code as CodePiece, Data as DataPiece, Gap}
use Rattle.sym_expr.specs.declared.program.Word.{Word}
use Rattle.sym_expr.specs.Linkable.{formed, is_crooked}
use Rattle.sym_expr.specs.Modules.{bytes_at, end_of, in_order, is_code, loaded_intervals, size_of}
use Rattle.sym_expr.specs.Patches.{no_patches}
use Rattle.sym_expr.specs.Placing.{new_size, placed_from, step_of}
use Rattle.sym_expr.specs.Points.{code_at, code_blocks, code_size, data_size}
use Rattle.sym_expr.specs.Program.{code_block, data_block, piece, pieces, program, stretch}
use Rattle.sym_expr.specs.Tables.{Tables, effective}
use Rattle.sym_expr.specs.Layouts.{least_from}
use Rattle.sym_expr.proofs.Counts.{same_id}
use Rattle.sym_expr.proofs.Lists.{found_one}
use Rattle.sym_expr.proofs.Orders.{Behind}
use Rattle.sym_expr.proofs.Sound.{IsSound, all_sound}
use Rattle.sym_expr.proofs.Tiles.{length-bytes_at, own_size, straight_code}

-- ---- in code blocks

count_own : (at : ℕ) (ws : List Word) → length (words_from [] at ws) ≡ length ws
count_own at [] = refl
count_own at (w ∷ ws) = let rest = count_own (at + 4) ws in omega (arith, rest)

abbrev IsDepth : ℕ → ℕ → Option ℕ → Type 0
IsDepth x at o = (o ≡ None) ⊎ ((d : ℕ) × (o ≡ Some d) × (at + d ≡ x))

depth_next : (x at : ℕ) (o : Option ℕ) (b : Bool) → (x == at) ≡ b → IsDepth x (at + 4) o → IsDepth x at (if b then Some 0 else option_map (λ depth. depth + 4) o)
depth_next x at o true e h = let same = eqb-true x at e in inr (0, refl, omega arith)
depth_next x at o false e (inl away) = inl (ap (option_map (λ depth. depth + 4)) away)
depth_next x at o false e (inr found) = inr (found.0 + 4, ap (option_map (λ depth. depth + 4)) found.1, omega (arith, found.2))

depth_own : (x at : ℕ) (ws : List Word) → IsDepth x at (depth_of x (words_from [] at ws))
depth_own x at [] = inl refl
depth_own x at (w ∷ ws) = depth_next x at (depth_of x (words_from [] (at + 4) ws)) (x == at) refl (depth_own x (at + 4) ws)

-- nothing, or the place itself
abbrev Keeps : Place → Option Place → Type 0
Keeps at o = (o ≡ None) ⊎ (o ≡ Some at)

abbrev with_words : Module → CodeBlock → ℕ → List PatchedWord → Option Place
with_words m b offset ws =
    if offset == code_size b then Some (record { id = part_id m b.id (part 0 ws); offset = 4 * length ws })
    else option_or (option_map (λ depth. let at : Place = record { id = part_id m b.id (part 0 ws); offset = depth + offset % 4 } in at) (depth_of (offset - offset % 4) ws)) None

code_is : (m : Module) (b : CodeBlock) (offset : ℕ) → b.inserted ≡ [] → code_place m b offset ≡ with_words m b offset (patched_words b)
code_is m b offset quiet =
    ap (λ qs. if offset == code_size b then Some (record { id = part_id m b.id (last_part qs); offset = part_size (last_part qs) }) else place_among m b.id (offset - offset % 4) (offset % 4) qs) (whole b quiet)

words_are : (b : CodeBlock) → b.inserted ≡ [] → patched_words b ≡ words_from [] 0 b.own
words_are b quiet = ap (λ news. words_from (numbered 0 news) 0 b.own) quiet

code_keeps : (m : Module) (b : CodeBlock) (at : Place) (x : Bool) (o : Option ℕ) → (at.offset == code_size b) ≡ x → b.id ≡ at.id → IsDepth (at.offset - at.offset % 4) 0 o
    → Keeps at (if x then Some (record { id = b.id; offset = 4 * length (words_from [] 0 b.own) }) else option_or (option_map (λ depth. let to : Place = record { id = b.id; offset = depth + at.offset % 4 } in to) o) None)
code_keeps m b at true o e name h =
    let same = eqb-true at.offset (code_size b) e in
    let count = count_own 0 b.own in
    let place : 4 * length (words_from [] 0 b.own) ≡ at.offset = omega (arith, same, count) in
    inr (ap (λ id. let to : Option Place = Some (record { id = id; offset = 4 * length (words_from [] 0 b.own) }) in to) name ∙ ap (λ n. let to : Option Place = Some (record { id = at.id; offset = n }) in to) place)
code_keeps m b at false o e name (inl gone) = inl (ap (λ p. option_or (option_map (λ depth. let to : Place = record { id = b.id; offset = depth + at.offset % 4 } in to) p) None) gone)
code_keeps m b at false o e name (inr found) =
    let place : found.0 + at.offset % 4 ≡ at.offset = omega (arith, found.2) in
    inr (
    ap (λ p. option_or (option_map (λ depth. let to : Place = record { id = b.id; offset = depth + at.offset % 4 } in to) p) None) found.1
    ∙ ap (λ id. let to : Option Place = Some (record { id = id; offset = found.0 + at.offset % 4 }) in to) name
    ∙ ap (λ n. let to : Option Place = Some (record { id = at.id; offset = n }) in to) place
    )

keeps_on : (at : Place) (p q : Option Place) → p ≡ q → Keeps at q → Keeps at p
keeps_on at p q e (inl away) = inl (e ∙ away)
keeps_on at p q e (inr it) = inr (e ∙ it)

block_keeps : (m : Module) (b : CodeBlock) (at : Place) → b.inserted ≡ [] → b.id ≡ at.id → Keeps at (code_place m b at.offset)
block_keeps m b at quiet name =
    keeps_on at (code_place m b at.offset) (with_words m b at.offset (words_from [] 0 b.own)) (code_is m b at.offset quiet ∙ ap (with_words m b at.offset) (words_are b quiet))
    (code_keeps m b at (at.offset == code_size b) (depth_of (at.offset - at.offset % 4) (words_from [] 0 b.own)) refl name (depth_own (at.offset - at.offset % 4) 0 b.own))

found_block : (m : Module) (at : Place) (bs : List CodeBlock) (o : Option CodeBlock) → Every (λ (b : CodeBlock). b.inserted ≡ []) bs → find (λ (b : CodeBlock). bytes_eq b.id at.id) bs ≡ o
    → Keeps at (option_map_or (λ (b : CodeBlock). code_place m b at.offset) o None)
found_block m at bs None h e = inl refl
found_block m at bs (Some b) h e =
    let it = found_one (λ (b : CodeBlock). bytes_eq b.id at.id) (λ (b : CodeBlock). b.inserted ≡ []) bs b h e in
    block_keeps m b at it.1 (same_id b.id at.id it.0)

-- ---- in intervals

-- pieces that stand one behind the other without padding, with the sizes that they had
abbrev AreStill : ℕ → ℕ → List Piece → Type 0
AreStill at end [] = at ≡ end
AreStill at end (p ∷ ps) = (least_from at (step_of p) 0 ≡ at) × (new_size p ≡ old_size p) × ((d : ℕ) → new_depth d p ≡ d) × AreStill (at + old_size p) end ps

still : (x at end : ℕ) (ps : List Piece) → AreStill at end ps → at ≤ x → x ≤ end → offset_among x at at (placed_from at ps) ≡ x
still x at end [] h low high = omega (arith, h, low, high)
still x at end (p ∷ ps) h low high =
    let next : ℕ = least_from at (step_of p) 0 + new_size p in
    elim (cases_lt x (at + old_size p)) [
      | inl inside ↦
          let goes = here x at at (first at p) (placed_from next ps) inside in
          let depth = h.2 (x - at) in
          omega (arith, goes, depth, h.0, low)
      | inr past ↦
          let same : next ≡ at + old_size p = omega (arith, h.0, h.1) in
          later x at at (first at p) (placed_from next ps) past
          ∙ ap (λ n. offset_among x (at + old_size p) n (placed_from n ps)) same
          ∙ still x (at + old_size p) end ps h.3 past high
    ]

still_on : (a b end : ℕ) (ps : List Piece) → a ≡ b → AreStill b end ps → AreStill a end ps
still_on a b end ps e h = let P : ℕ → Type 0 = λ n. AreStill n end ps in subst P (sym e) h

gap_still : (i : Interval) (from to end : ℕ) (ps : List Piece) (x : Bool) → (to - from == 0) ≡ x → from ≤ to → AreStill to end ps → AreStill from end ((if x then [] else Gap (bytes_at i from (to - from)) ∷ []) ++ ps)
gap_still i from to end ps true e le h = let zero = eqb-true (to - from) 0 e in still_on from to end ps (omega arith) h
gap_still i from to end ps false e le h =
    let count = length-bytes_at i from (to - from) in
    (no_padding from 1 (omega arith), refl, (λ d. refl), still_on (from + length (bytes_at i from (to - from))) to end ps (omega (arith, count)) h)

gap_last : (i : Interval) (from to : ℕ) (x : Bool) → (to - from == 0) ≡ x → from ≤ to → AreStill from to (if x then [] else Gap (bytes_at i from (to - from)) ∷ [])
gap_last i from to true e le = let zero = eqb-true (to - from) 0 e in omega arith
gap_last i from to false e le =
    let count = length-bytes_at i from (to - from) in
    (no_padding from 1 (omega arith), refl, (λ d. refl), omega (arith, count))

piece_still : (m : Module) (t : Tables) (i : Interval) (b : Block) (end : ℕ) (ps : List Piece) (x : Bool) → is_code b ≡ x → is_crooked b ≡ false → AreStill (end_of b) end ps
    → AreStill b.offset end ((if x then CodePiece (code_block m no_patches i b) else DataPiece (data_block m t no_patches i b)) ∷ ps)
piece_still m t i b end ps true e straight h =
    let own = own_size m no_patches i b (straight_code b straight e) in
    (no_padding b.offset 1 (omega arith), omega arith, (λ d. omega arith), still_on (b.offset + code_size (code_block m no_patches i b)) (end_of b) end ps (omega (arith, own)) h)
piece_still m t i b end ps false e straight h =
    let count = length-bytes_at i b.offset (size_of b) in
    let alignment = (data_block m t no_patches i b).alignment in (
      no_padding b.offset (effective alignment (data_size (data_block m t no_patches i b)) b.offset) (step_divides alignment (data_size (data_block m t no_patches i b)) b.offset),
      refl,
      (λ d. refl),
      still_on (b.offset + data_size (data_block m t no_patches i b)) (end_of b) end ps (omega (arith, count)) h,
    )

pieces_still : (m : Module) (t : Tables) (i : Interval) (at : ℕ) (bs : List Block) → at ≤ i.size → Behind at bs → Every (λ b. end_of b ≤ i.size) bs → Every (λ b. is_crooked b ≡ false) bs
    → AreStill at i.size (pieces m t no_patches i at bs)
pieces_still m t i at [] le behind inside straight = gap_last i at i.size (i.size - at == 0) refl le
pieces_still m t i at (b ∷ bs) le behind inside straight =
    gap_still i at b.offset i.size (piece m t no_patches i b ∷ pieces m t no_patches i (end_of b) bs) (b.offset - at == 0) refl behind.0
    (piece_still m t i b i.size (pieces m t no_patches i (end_of b) bs) (is_code b) refl straight.0 (pieces_still m t i (end_of b) bs inside.0 behind.1 inside.1 straight.1))

interval_still : (m : Module) (t : Tables) (i : Interval) → IsSound t i → (x : ℕ) → x ≤ i.size → new_offset (stretch m t no_patches i) x ≡ x
interval_still m t i sound x le =
    still x 0 i.size (pieces m t no_patches i 0 (in_order i.blocks)) (pieces_still m t i 0 (in_order i.blocks) (omega arith) sound.laid.behind sound.laid.inside sound.straight) (omega arith) le

interval_keeps : (m : Module) (t : Tables) (i : Interval) (at : Place) (x : Bool) → IsSound t i → i.uuid ≡ at.id → nat_le at.offset i.size ≡ x
    → Keeps at (if x then Some (record { id = i.uuid; offset = new_offset (stretch m t no_patches i) at.offset }) else None)
interval_keeps m t i at true sound name e =
    inr (ap (λ id. let to : Option Place = Some (record { id = id; offset = new_offset (stretch m t no_patches i) at.offset }) in to) name
    ∙ ap (λ n. let to : Option Place = Some (record { id = at.id; offset = n }) in to) (interval_still m t i sound at.offset (leb-true at.offset i.size e)))
interval_keeps m t i at false sound name e = inl refl

found_interval : (m : Module) (t : Tables) (at : Place) (is : List Interval) (o : Option Interval) → Every (IsSound t) is → find (λ (i : Interval). bytes_eq i.uuid at.id) is ≡ o
    → Keeps at (option_map_or (λ (i : Interval). interval_place m t no_patches i at.offset) o None)
found_interval m t at is None h e = inl refl
found_interval m t at is (Some i) h e =
    let it = found_one (λ (i : Interval). bytes_eq i.uuid at.id) (IsSound t) is i h e in
    interval_keeps m t i at (nat_le at.offset i.size) it.1 (same_id i.uuid at.id it.0) refl

-- ---- places

either_keeps : (at : Place) (p q : Option Place) → Keeps at p → Keeps at q → option_map_or (λ (to : Place). to) (option_or p q) at ≡ at
either_keeps at p q (inr it) h = ap (λ o. option_map_or (λ (to : Place). to) (option_or o q) at) it
either_keeps at p q (inl away) (inl gone) = ap (λ o. option_map_or (λ (to : Place). to) (option_or o q) at) away ∙ ap (λ o. option_map_or (λ (to : Place). to) o at) gone
either_keeps at p q (inl away) (inr it) = ap (λ o. option_map_or (λ (to : Place). to) (option_or o q) at) away ∙ ap (λ o. option_map_or (λ (to : Place). to) o at) it

place_stays : (ir : Ir) (m : Module) (t : Tables) → formed ir m t → (at : Place) → moved_place m t no_patches at ≡ at
place_stays ir m t h at =
    either_keeps at (option_map_or (λ (b : CodeBlock). code_place m b at.offset) (code_at (program m t no_patches) at.id) None) (option_map_or (λ (i : Interval). interval_place m t no_patches i at.offset) (loaded_interval m at.id) None)
    (found_block m at (code_blocks (program m t no_patches)) (code_at (program m t no_patches) at.id) (all_quiet m t) refl)
    (found_interval m t at (loaded_intervals m) (loaded_interval m at.id) (all_sound ir m t h) refl)

-- ---- values

mutual
  value_stays : (f : Place → Place) → ((at : Place) → f at ≡ at) → (x : Value) → with_places f x ≡ x
  value_stays f h (Str text) = refl
  value_stays f h (Truth b) = refl
  value_stays f h (Id id) = refl
  value_stays f h (Number n) = refl
  value_stays f h (Signed z) = refl
  value_stays f h (At place) = ap At (h place)
  value_stays f h (Four n) = refl
  value_stays f h (Eight n) = refl
  value_stays f h (Many xs) = ap Many (each_stays f h xs)
  value_stays f h (Pairs es) = ap Pairs (entries_stay f h es)
  value_stays f h (Parts xs) = ap Parts (each_stays f h xs)
  value_stays f h (Choice n x) = ap (Choice n) (value_stays f h x)

  each_stays : (f : Place → Place) → ((at : Place) → f at ≡ at) → (xs : Values) → each_with_places f xs ≡ xs
  each_stays f h none = refl
  each_stays f h (more x xs) = ap (λ y. more y (each_with_places f xs)) (value_stays f h x) ∙ ap (more x) (each_stays f h xs)

  entries_stay : (f : Place → Place) → ((at : Place) → f at ≡ at) → (es : Entries) → entries_with_places f es ≡ es
  entries_stay f h no_entry = refl
  entries_stay f h (entry k x es) =
      ap (λ y. entry y (with_places f x) (entries_with_places f es)) (value_stays f h k)
      ∙ ap (λ y. entry k y (entries_with_places f es)) (value_stays f h x)
      ∙ ap (entry k x) (entries_stay f h es)

-- ---- the tables of functions

found_parts : (m : Module) (id : List ℕ) (bs : List CodeBlock) (o : Option CodeBlock) → Every (λ (b : CodeBlock). b.inserted ≡ []) bs → find (λ (b : CodeBlock). bytes_eq b.id id) bs ≡ o → option_map_or (later_parts m) o [] ≡ []
found_parts m id bs None h e = refl
found_parts m id bs (Some b) h e =
    quiet_vertices m b (found_one (λ (b : CodeBlock). bytes_eq b.id id) (λ (b : CodeBlock). b.inserted ≡ []) bs b h e).1

no_parts : (m : Module) (t : Tables) (id : List ℕ) → parts_of m (program m t no_patches) id ≡ []
no_parts m t id = found_parts m id (code_blocks (program m t no_patches)) (code_at (program m t no_patches) id) (all_quiet m t) refl

set_stays : (later : List ℕ → List (List ℕ)) → ((id : List ℕ) → later id ≡ []) → (xs : Values) → with_parts later xs ≡ xs
set_stays later h none = refl
set_stays later h (more (Id id) xs) = ap (λ ids. more (Id id) (before ids (with_parts later xs))) (h id) ∙ ap (more (Id id)) (set_stays later h xs)
set_stays later h (more (Str text) xs) = ap (more (Str text)) (set_stays later h xs)
set_stays later h (more (Truth b) xs) = ap (more (Truth b)) (set_stays later h xs)
set_stays later h (more (Number n) xs) = ap (more (Number n)) (set_stays later h xs)
set_stays later h (more (Signed z) xs) = ap (more (Signed z)) (set_stays later h xs)
set_stays later h (more (At place) xs) = ap (more (At place)) (set_stays later h xs)
set_stays later h (more (Four n) xs) = ap (more (Four n)) (set_stays later h xs)
set_stays later h (more (Eight n) xs) = ap (more (Eight n)) (set_stays later h xs)
set_stays later h (more (Many ys) xs) = ap (more (Many ys)) (set_stays later h xs)
set_stays later h (more (Pairs es) xs) = ap (more (Pairs es)) (set_stays later h xs)
set_stays later h (more (Parts ys) xs) = ap (more (Parts ys)) (set_stays later h xs)
set_stays later h (more (Choice n x) xs) = ap (more (Choice n x)) (set_stays later h xs)

sets_stay : (later : List ℕ → List (List ℕ)) → ((id : List ℕ) → later id ≡ []) → (es : Entries) → sets_with_parts later es ≡ es
sets_stay later h no_entry = refl
sets_stay later h (entry k (Many xs) es) = ap (λ ys. entry k (Many ys) (sets_with_parts later es)) (set_stays later h xs) ∙ ap (entry k (Many xs)) (sets_stay later h es)
sets_stay later h (entry k (Id id) es) = ap (entry k (Id id)) (sets_stay later h es)
sets_stay later h (entry k (Str text) es) = ap (entry k (Str text)) (sets_stay later h es)
sets_stay later h (entry k (Truth b) es) = ap (entry k (Truth b)) (sets_stay later h es)
sets_stay later h (entry k (Number n) es) = ap (entry k (Number n)) (sets_stay later h es)
sets_stay later h (entry k (Signed z) es) = ap (entry k (Signed z)) (sets_stay later h es)
sets_stay later h (entry k (At place) es) = ap (entry k (At place)) (sets_stay later h es)
sets_stay later h (entry k (Four n) es) = ap (entry k (Four n)) (sets_stay later h es)
sets_stay later h (entry k (Eight n) es) = ap (entry k (Eight n)) (sets_stay later h es)
sets_stay later h (entry k (Pairs ys) es) = ap (entry k (Pairs ys)) (sets_stay later h es)
sets_stay later h (entry k (Parts ys) es) = ap (entry k (Parts ys)) (sets_stay later h es)
sets_stay later h (entry k (Choice n x) es) = ap (entry k (Choice n x)) (sets_stay later h es)

no_functions : (m : Module) (value : Function → Value) (es : Entries) → with_functions m value [] es ≡ es
no_functions m value no_entry = refl
no_functions m value (entry k x es) = ap (entry k x) (no_functions m value es)

either_entries : (a b c d : Entries) (x y z : Bool) → a ≡ d → b ≡ d → c ≡ d → (if x then a else if y then b else if z then c else d) ≡ d
either_entries a b c d true y z f g h = f
either_entries a b c d false true z f g h = g
either_entries a b c d false false true f g h = h
either_entries a b c d false false false f g h = refl

function_stays : (m : Module) (t : Tables) (a : Aux) (x : Value) → function_value m (program m t no_patches) no_patches a x ≡ x
function_stays m t a (Pairs es) =
    let later : List ℕ → List (List ℕ) = parts_of m (program m t no_patches) in
    ap Pairs (either_entries (with_functions m (blocks_value m) [] (sets_with_parts later es)) (with_functions m (entries_value m) [] es) (with_functions m (symbol_value m) [] es) es (is_blocks_table a) (is_entries_table a) (is_names_table a)
    (no_functions m (blocks_value m) (sets_with_parts later es) ∙ sets_stay later (no_parts m t) es) (no_functions m (entries_value m) es) (no_functions m (symbol_value m) es))
function_stays m t a (Str text) = refl
function_stays m t a (Truth b) = refl
function_stays m t a (Id id) = refl
function_stays m t a (Number n) = refl
function_stays m t a (Signed z) = refl
function_stays m t a (At place) = refl
function_stays m t a (Four n) = refl
function_stays m t a (Eight n) = refl
function_stays m t a (Many xs) = refl
function_stays m t a (Parts xs) = refl
function_stays m t a (Choice n x) = refl

pub values_stay : (ir : Ir) (m : Module) (t : Tables) (a : Aux) (x : Value) → formed ir m t → new_value m t no_patches a x ≡ x
values_stay ir m t a x h =
    function_stays m t a (with_places (moved_place m t no_patches) x) ∙ value_stays (moved_place m t no_patches) (place_stays ir m t h) x
