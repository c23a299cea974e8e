-- The loaded intervals of a rewritten module have the rooms of the program of the module and its patches.
use Rattle.std.proofs.Common.{◌≡◌, ℕ, zero, suc, ◌+◌, ◌-◌, ◌*◌, ◌%◌, ◌^◌, ◌≤◌, Bool, true, false, List, [], ◌∷◌, ◌++◌, length, map, Option, Some, None, refl, sym, ap, ◌∙◌, arith}
use Rattle.std.specs.Prelude.{filter, ◌&&◌, ◌==◌, if◌then◌else◌}
use Rattle.std.specs.List.{AllByRecursion as Every, flat_map, list_any}
use Rattle.std.proofs.Math.Nat.{mod_self}
use Rattle.std.proofs.lemmas.Bool.{and_parts, eqb-true, not-false}
use Rattle.std.proofs.lemmas.List.{length-map, map-append}
use Rattle.gt_model.specs.declared.intervals.Block.{Block}
use Rattle.gt_model.specs.declared.intervals.Interval.{Interval}
use Rattle.gt_model.specs.declared.ir.Ir.{Ir}
use Rattle.gt_model.specs.declared.modules.Module.{Module}
use Rattle.gt_model.specs.declared.modules.Section.{Section}
use Rattle.rewrite.specs.Functions.{function_interval}
use Rattle.rewrite.specs.Rewritten.{has_words, new_interval, new_intervals, new_section, rewritten_module, stretched}
use Rattle.rewrite.specs.Rooms.{Room, interval_room, stretch_room}
use Rattle.sym_expr.specs.declared.patches.Function.{Function}
use Rattle.sym_expr.specs.declared.patches.PatchTable.{PatchTable}
use Rattle.sym_expr.specs.declared.patches.PatchWord.{PatchWord}
use Rattle.sym_expr.specs.declared.program.Piece.{Piece}
use Rattle.sym_expr.specs.declared.program.Piece.TheVariants.{Code as CodePiece, Data as DataPiece, Gap}
use Rattle.sym_expr.specs.declared.program.Word.{Word}
use Rattle.sym_expr.specs.Layouts.{least_from}
use Rattle.sym_expr.specs.Linkable.{formed, is_crooked}
use Rattle.sym_expr.specs.Modules.{bytes_at, end_of, id_of, in_order, intervals_of, is_code, is_loaded, loaded_intervals, size_of}
use Rattle.sym_expr.specs.Patches.{function_blocks, inserted_in}
use Rattle.sym_expr.specs.Placing.{end_from, new_size, step_of, stretch_size}
use Rattle.sym_expr.specs.Points.{data_size}
use Rattle.sym_expr.specs.Program.{code_block, data_block, function_pieces, function_stretch, gap, has_entry, patched_word, piece, pieces, program, section_stretches, stretch}
use Rattle.sym_expr.specs.TableOk.{function_words}
use Rattle.sym_expr.specs.Tables.{Tables, common_power, effective}
use Rattle.sym_expr.proofs.Functions.{all_words, block_words}
use Rattle.sym_expr.proofs.Lists.{every_back, every_front, none_of_any}
use Rattle.sym_expr.proofs.Orders.{Behind, each_in_order}
use Rattle.sym_expr.proofs.Sound.{IsSound, all_sound}
use Rattle.sym_expr.proofs.Tiles.{length-bytes_at, own_size, straight_code}

-- ---- a step that divides a place leads to no padding

power_either : (k a b : ℕ) (x : Bool) → ((a % 2 ^ suc k == 0) && (b % 2 ^ suc k == 0)) ≡ x → b % common_power k a b ≡ 0 → b % (if x then 2 ^ suc k else common_power k a b) ≡ 0
power_either k a b true e h = eqb-true (b % 2 ^ suc k) 0 (and_parts (a % 2 ^ suc k == 0) (b % 2 ^ suc k == 0) e).1
power_either k a b false e h = h

power_divides : (k a b : ℕ) → b % common_power k a b ≡ 0
power_divides zero a b = omega arith
power_divides (suc k) a b = power_either k a b ((a % 2 ^ suc k == 0) && (b % 2 ^ suc k == 0)) refl (power_divides k a b)

either_divides : (x y : Bool) (n b : ℕ) → b % n ≡ 0 → b % (if x then 1 else if y then 1 else n) ≡ 0
either_divides true y n b h = omega arith
either_divides false true n b h = omega arith
either_divides false false n b h = h

pub step_divides : (o : Option ℕ) (size offset : ℕ) → offset % effective o size offset ≡ 0
step_divides None size offset = omega arith
step_divides (Some entry) size offset = either_divides (size == 0) (entry == 0) (common_power 12 entry offset) offset (power_divides 12 entry offset)

pub no_padding : (at n : ℕ) → at % n ≡ 0 → least_from at n 0 ≡ at
no_padding at n h =
    let whole : 0 + (n - at % n) ≡ n = omega (arith, h) in
    let none : (0 + (n - at % n)) % n ≡ 0 = ap (λ k. k % n) whole ∙ mod_self n in
    omega (arith, none)

-- ---- an interval without words keeps its size

end_append : (a : ℕ) (ps qs : List Piece) → end_from a (ps ++ qs) ≡ end_from (end_from a ps) qs
end_append a [] qs = refl
end_append a (p ∷ ps) qs = end_append (least_from a (step_of p) 0 + new_size p) ps qs

gap_end : (i : Interval) (from to : ℕ) (x : Bool) → (to - from == 0) ≡ x → from ≤ to → end_from from (if x then [] else Gap (bytes_at i from (to - from)) ∷ []) ≡ to
gap_end i from to true e le = let none = eqb-true (to - from) 0 e in omega arith
gap_end i from to false e le = let count = length-bytes_at i from (to - from) in omega (arith, count)

no_words : (p : PatchTable) (b : Block) → has_words p b ≡ false → length (inserted_in p (id_of b)) ≡ 0
no_words p b h = eqb-true (length (inserted_in p (id_of b))) 0 (not-false (length (inserted_in p (id_of b)) == 0) h)

piece_end : (m : Module) (t : Tables) (p : PatchTable) (i : Interval) (b : Block) (x : Bool) → is_code b ≡ x → has_words p b ≡ false → is_crooked b ≡ false
    → let q : Piece = if x then CodePiece (code_block m p i b) else DataPiece (data_block m t p i b) in least_from b.offset (step_of q) 0 + new_size q ≡ end_of b
piece_end m t p i b true e none straight =
    let own = own_size m p i b (straight_code b straight e) in
    let more : length (code_block m p i b).inserted ≡ length (inserted_in p (id_of b)) = length-map (inserted_in p (id_of b)) (λ (w : ℕ × PatchWord). let v : ℕ × Word = (w.0, patched_word m p w.1) in v) in
    let zero = no_words p b none in
    omega (arith, own, more, zero)
piece_end m t p i b false e none straight =
    let count = length-bytes_at i b.offset (size_of b) in
    let alignment = (data_block m t p i b).alignment in
    let place = no_padding b.offset (effective alignment (data_size (data_block m t p i b)) b.offset) (step_divides alignment (data_size (data_block m t p i b)) b.offset) in
    omega (arith, count, place)

pieces_end : (m : Module) (t : Tables) (p : PatchTable) (i : Interval) (at : ℕ) (bs : List Block) → at ≤ i.size → Behind at bs → Every (λ b. end_of b ≤ i.size) bs → Every (λ b. is_crooked b ≡ false) bs → Every (λ b. has_words p b ≡ false) bs
    → end_from at (pieces m t p i at bs) ≡ i.size
pieces_end m t p i at [] le behind inside straight none = gap_end i at i.size (i.size - at == 0) refl le
pieces_end m t p i at (b ∷ bs) le behind inside straight none =
    end_append at (gap i at b.offset) (piece m t p i b ∷ pieces m t p i (end_of b) bs)
    ∙ ap (λ a. end_from a (piece m t p i b ∷ pieces m t p i (end_of b) bs)) (gap_end i at b.offset (b.offset - at == 0) refl behind.0)
    ∙ ap (λ a. end_from a (pieces m t p i (end_of b) bs)) (piece_end m t p i b (is_code b) refl none.0 straight.0)
    ∙ pieces_end m t p i (end_of b) bs inside.0 behind.1 inside.1 straight.1 none.1

keeps_size : (m : Module) (t : Tables) (p : PatchTable) (i : Interval) → IsSound t i → list_any (has_words p) i.blocks ≡ false → stretch_size (stretch m t p i) ≡ i.size
keeps_size m t p i sound none =
    pieces_end m t p i 0 (in_order i.blocks) (omega arith) sound.laid.behind sound.laid.inside sound.straight
    (each_in_order (λ b. has_words p b ≡ false) i.blocks (none_of_any (has_words p) i.blocks none))

-- ---- rooms

either_room : (m : Module) (t : Tables) (p : PatchTable) (i : Interval) (x : Bool) → list_any (has_words p) i.blocks ≡ x → IsSound t i → interval_room (if x then stretched m p i (stretch m t p i) else i) ≡ stretch_room (stretch m t p i)
either_room m t p i true e sound = refl
either_room m t p i false e sound = ap (λ n. record { id = i.uuid; address = if i.has_address then Some i.address else None; size = n }) (sym (keeps_size m t p i sound e))

own_rooms : (m : Module) (t : Tables) (p : PatchTable) (is : List Interval) → Every (IsSound t) is → map interval_room (map (new_interval m t p) is) ≡ map stretch_room (map (stretch m t p) is)
own_rooms m t p [] h = refl
own_rooms m t p (i ∷ is) h =
    ap (λ r. r ∷ map interval_room (map (new_interval m t p) is)) (either_room m t p i (list_any (has_words p) i.blocks) refl h.0)
    ∙ ap (λ l. stretch_room (stretch m t p i) ∷ l) (own_rooms m t p is h.1)

blocks_end : (m : Module) (p : PatchTable) (f : Function) (k at a : ℕ) (bs : List (List PatchWord)) → end_from a (function_pieces m p f k at bs) ≡ a + 4 * block_words bs
blocks_end m p f k at a [] = omega arith
blocks_end m p f k at a (b ∷ bs) =
    let own = length-map b (patched_word m p) in
    let place = no_padding a 1 (omega arith) in
    let next : ℕ = least_from a 1 0 + 4 * (length (map (patched_word m p) b) + 0) in
    let rest = blocks_end m p f (suc k) (at + 4 * length b) next bs in
    sums (end_from a (function_pieces m p f k at (b ∷ bs))) a (least_from a 1 0) (length (map (patched_word m p) b)) (length b) (block_words bs) rest place own
  where
    sums : (all a start own words rest : ℕ) → all ≡ start + 4 * (own + 0) + 4 * rest → start ≡ a → own ≡ words → all ≡ a + 4 * (words + rest)
    sums all a start own words rest e f g = omega arith

function_room : (m : Module) (p : PatchTable) (f : Function) → interval_room (function_interval m f) ≡ stretch_room (function_stretch m p f)
function_room m p f =
    let words = all_words f in
    let ends = blocks_end m p f 0 0 0 (function_blocks f) in
    let same : 4 * length (function_words f) ≡ stretch_size (function_stretch m p f) = omega arith in
    ap (λ n. record { id = (function_interval m f).uuid; address = None; size = n }) same

function_rooms : (m : Module) (p : PatchTable) (fs : List Function) → map interval_room (map (function_interval m) fs) ≡ map stretch_room (map (function_stretch m p) fs)
function_rooms m p [] = refl
function_rooms m p (f ∷ fs) =
    ap (λ r. r ∷ map interval_room (map (function_interval m) fs)) (function_room m p f)
    ∙ ap (λ l. stretch_room (function_stretch m p f) ∷ l) (function_rooms m p fs)

extra_rooms : (m : Module) (p : PatchTable) (x : Bool) → map interval_room (if x then map (function_interval m) p.functions else []) ≡ map stretch_room (if x then map (function_stretch m p) p.functions else [])
extra_rooms m p true = function_rooms m p p.functions
extra_rooms m p false = refl

section_rooms : (m : Module) (t : Tables) (p : PatchTable) (s : Section) → Every (IsSound t) s.intervals → map interval_room (new_intervals m t p s) ≡ map stretch_room (section_stretches m t p s)
section_rooms m t p s h =
    map-append interval_room (map (new_interval m t p) s.intervals) (if has_entry m s then map (function_interval m) p.functions else [])
    ∙ ap (λ l. l ++ map interval_room (if has_entry m s then map (function_interval m) p.functions else [])) (own_rooms m t p s.intervals h)
    ∙ ap (λ l. map stretch_room (map (stretch m t p) s.intervals) ++ l) (extra_rooms m p (has_entry m s))
    ∙ sym (map-append stretch_room (map (stretch m t p) s.intervals) (if has_entry m s then map (function_stretch m p) p.functions else []))

-- ---- all loaded sections

abbrev rooms_in : List Section → List Room
rooms_in ss = map interval_room (intervals_of (filter is_loaded ss))

loaded_first : (s : Section) (is : List Interval) (rest : List Section) → is_loaded s ≡ true → rooms_in (record s { intervals = is } ∷ rest) ≡ map interval_room is ++ rooms_in rest
loaded_first s is rest e =
    ap (λ x. map interval_room (intervals_of (if x then record s { intervals = is } ∷ filter is_loaded rest else filter is_loaded rest))) e
    ∙ map-append interval_room is (intervals_of (filter is_loaded rest))

either_first : (s : Section) (is : List Interval) (rest : List Section) (rooms : List Room) (others : List Room) (x : Bool) → is_loaded s ≡ x → (x ≡ true → map interval_room is ≡ rooms) → rooms_in rest ≡ others
    → rooms_in ((if x then record s { intervals = is } else s) ∷ rest) ≡ (if x then rooms ++ others else others)
either_first s is rest rooms others true e h k = loaded_first s is rest e ∙ ap (λ l. l ++ rooms_in rest) (h refl) ∙ ap (λ l. rooms ++ l) k
either_first s is rest rooms others false e h k = ap (λ x. map interval_room (intervals_of (if x then s ∷ filter is_loaded rest else filter is_loaded rest))) e ∙ k

either_stretches : (m : Module) (t : Tables) (p : PatchTable) (s : Section) (ss : List Section) (x : Bool)
    → map stretch_room (flat_map (section_stretches m t p) (if x then s ∷ ss else ss)) ≡ (if x then map stretch_room (section_stretches m t p s) ++ map stretch_room (flat_map (section_stretches m t p) ss) else map stretch_room (flat_map (section_stretches m t p) ss))
either_stretches m t p s ss true = map-append stretch_room (section_stretches m t p s) (flat_map (section_stretches m t p) ss)
either_stretches m t p s ss false = refl

sound_first : (t : Tables) (s : Section) (ss : List Section) (x : Bool) → Every (IsSound t) (intervals_of (if x then s ∷ ss else ss)) → (x ≡ true → Every (IsSound t) s.intervals) × Every (IsSound t) (intervals_of ss)
sound_first t s ss true h = (λ e. every_front (IsSound t) s.intervals (intervals_of ss) h, every_back (IsSound t) s.intervals (intervals_of ss) h)
sound_first t s ss false h = (λ e. absurd (grind (arith, e)), h)

sections_rooms : (m : Module) (t : Tables) (p : PatchTable) (ss : List Section) → Every (IsSound t) (intervals_of (filter is_loaded ss)) → rooms_in (map (new_section m t p) ss) ≡ map stretch_room (flat_map (section_stretches m t p) (filter is_loaded ss))
sections_rooms m t p [] h = refl
sections_rooms m t p (s ∷ ss) h =
    let both = sound_first t s (filter is_loaded ss) (is_loaded s) h in
    either_first s (new_intervals m t p s) (map (new_section m t p) ss) (map stretch_room (section_stretches m t p s)) (map stretch_room (flat_map (section_stretches m t p) (filter is_loaded ss))) (is_loaded s) refl
    (λ e. section_rooms m t p s (both.0 e)) (sections_rooms m t p ss both.1)
    ∙ sym (either_stretches m t p s (filter is_loaded ss) (is_loaded s))

pub rooms : (ir : Ir) (m : Module) (t : Tables) (p : PatchTable) → formed ir m t → map interval_room (loaded_intervals (rewritten_module m t p)) ≡ map stretch_room (program m t p).stretches
rooms ir m t p h = sections_rooms m t p m.sections (all_sound ir m t h)
