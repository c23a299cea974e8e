-- What each block of an interval becomes at its new place: one block or several, inside the room that its piece has there.
use Rattle.std.proofs.Common.{◌≡◌, ℕ, zero, suc, ◌+◌, ◌-◌, ◌*◌, ◌/◌, ◌%◌, ◌≤◌, ◌<◌, Bool, true, false, not, List, [], ◌∷◌, length, map, refl, sym, ap, ◌∙◌, inl, inr, arith}
use Rattle.std.specs.Prelude.{◌==◌, ◌&&◌, ◌||◌, if◌then◌else◌}
use Rattle.std.specs.List.{AllByRecursion as Every}
use Rattle.std.proofs.lemmas.Bool.{cases_lt, le-ltb, eq-eqb, eqb-true, and_parts, not-false, both_ways}
use Rattle.block_parts.specs.declared.words.PatchedWord.{PatchedWord}
use Rattle.block_parts.specs.Parts.{cut_words, is_cut, parts, parts_from, put_first}
use Rattle.block_parts.specs.Words.{patched_words}
use Rattle.gt_model.specs.declared.intervals.Block.{Block}
use Rattle.gt_model.specs.declared.intervals.Body.{Body}
use Rattle.gt_model.specs.declared.intervals.Body.TheVariants as bodies
use Rattle.gt_model.specs.declared.intervals.Interval.{Interval}
use Rattle.gt_model.specs.declared.modules.Module.{Module}
use Rattle.gt_model.specs.Linked.{is_bare}
use Rattle.rewrite.specs.Blocks.{new_block, part_block}
use Rattle.rewrite.specs.Offsets.{new_start}
use Rattle.sym_expr.specs.declared.patches.PatchTable.{PatchTable}
use Rattle.sym_expr.specs.declared.program.Piece.{Piece}
use Rattle.sym_expr.specs.declared.program.Stretch.{Stretch}
use Rattle.sym_expr.specs.Linkable.{is_crooked}
use Rattle.sym_expr.specs.Modules.{end_of, goes_before, id_of, id_of_body, is_code, is_empty, size_of}
use Rattle.sym_expr.specs.Placing.{new_size}
use Rattle.sym_expr.specs.Program.{code_block, own_words, piece}
use Rattle.sym_expr.specs.Tables.{Tables}
use Rattle.repaired_programs.proofs.Lists.{every_weaker, Pairs}
use Rattle.repaired_programs.proofs.Sorted.{before_empty, before_lt, in_turn, IsBefore, IsInTurn}
use Rattle.repaired_programs.proofs.Spots.{Behind, IsApart, IsLarge, length-bytes_at}

-- what a block with this body becomes at a place
abbrev pub body_at : Module → PatchTable → Interval → ℕ → Block → Body → List Block
body_at m p i place b bodies.Bare = b ∷ []
body_at m p i place b (bodies.Code uuid size decode_mode) = map (part_block m uuid decode_mode place) (parts (code_block m p i b))
body_at m p i place b (bodies.Data uuid size) = record b { offset = place } ∷ []

abbrev pub block_at : Module → PatchTable → Interval → ℕ × Block → List Block
block_at m p i x = body_at m p i x.0 x.1 x.1.body

body_becomes : (m : Module) (p : PatchTable) (i : Interval) (s : Stretch) (offset : ℕ) (body : Body)
    → let b : Block = record { offset = offset; body = body } in new_block m p i s b ≡ body_at m p i (new_start s (id_of_body body)) b body
body_becomes m p i s offset bodies.Bare = refl
body_becomes m p i s offset (bodies.Code uuid size decode_mode) = refl
body_becomes m p i s offset (bodies.Data uuid size) = refl

pub becomes : (m : Module) (p : PatchTable) (i : Interval) (s : Stretch) (b : Block) (place : ℕ) → new_start s (id_of b) ≡ place → new_block m p i s b ≡ block_at m p i (place, b)
becomes m p i s b place e = body_becomes m p i s b.offset b.body ∙ ap (λ n. body_at m p i n b b.body) e

-- ---- the words of the parts

abbrev pub count : List (List PatchedWord) → ℕ
count [] = 0
count (words ∷ rest) = length words + count rest

abbrev IsFilled : List PatchedWord → Type 0
IsFilled words = 0 < length words

put_count : (w : PatchedWord) (ps : List (List PatchedWord)) → count (put_first w ps) ≡ suc (count ps)
put_count w [] = omega arith
put_count w (part ∷ ps) = omega arith

either_count : (w : PatchedWord) (x : Bool) (ps : List (List PatchedWord)) → count (if x then (w ∷ []) ∷ ps else put_first w ps) ≡ suc (count ps)
either_count w true ps = omega arith
either_count w false ps = put_count w ps

pub cut_count : (ws : List PatchedWord) → count (cut_words ws) ≡ length ws
cut_count [] = omega arith
cut_count (w ∷ []) = omega arith
cut_count (w ∷ next ∷ rest) = either_count w (is_cut w next) (cut_words (next ∷ rest)) ∙ ap suc (cut_count (next ∷ rest))

put_filled : (w : PatchedWord) (ps : List (List PatchedWord)) → Every IsFilled ps → Every IsFilled (put_first w ps)
put_filled w [] h = (omega arith, tt)
put_filled w (part ∷ ps) h = (omega arith, h.1)

either_filled : (w : PatchedWord) (x : Bool) (ps : List (List PatchedWord)) → Every IsFilled ps → Every IsFilled (if x then (w ∷ []) ∷ ps else put_first w ps)
either_filled w true ps h = (omega arith, h)
either_filled w false ps h = put_filled w ps h

cut_filled : (w : PatchedWord) (ws : List PatchedWord) → Every IsFilled (cut_words (w ∷ ws))
cut_filled w [] = (omega arith, tt)
cut_filled w (next ∷ rest) = either_filled w (is_cut w next) (cut_words (next ∷ rest)) (cut_filled next rest)

-- only a block without words has a part without
abbrev IsWhole : ℕ → List PatchedWord → Type 0
IsWhole n words = length words ≡ 0 → n ≡ 0

filled_whole : (n : ℕ) (words : List PatchedWord) → IsFilled words → IsWhole n words
filled_whole n words h e = absurd (omega (arith, h, e))

cut_whole : (n : ℕ) (ws : List PatchedWord) → n ≡ 4 * length ws → Every (IsWhole n) (cut_words ws)
cut_whole n [] e = (λ none. omega (arith, e), tt)
cut_whole n (w ∷ ws) e = every_weaker IsFilled (IsWhole n) (filled_whole n) (cut_words (w ∷ ws)) (cut_filled w ws)

-- ---- inside a room

-- a block in the room from a place to an end, which is empty if the block is
pub record IsWithin (place end : ℕ) (b : Block) : Type 0 where
  pub low : place ≤ b.offset
  pub high : end_of b ≤ end
  pub empty : size_of b ≡ 0 → end ≡ place

parts_within : (m : Module) (block : List ℕ) (decode_mode place n start : ℕ) (ps : List (List PatchedWord)) → start + 4 * count ps ≤ n → Every (IsWhole n) ps → Every (IsWithin place (place + n)) (map (part_block m block decode_mode place) (parts_from start ps))
parts_within m block decode_mode place n start [] le h = tt
parts_within m block decode_mode place n start (words ∷ rest) le h = (
  record { low = omega arith; high = omega (arith, le); empty = λ e. none h.0 (omega (arith, e)) },
  parts_within m block decode_mode place n (start + 4 * length words) rest (omega (arith, le)) h.1,
)
  where
    none : IsWhole n words → length words ≡ 0 → place + n ≡ place
    none f e = let zero_room = f e in omega (arith, zero_room)

parts_behind : (m : Module) (block : List ℕ) (decode_mode place at start : ℕ) (ps : List (List PatchedWord)) → at ≤ place + start → Behind at (map (part_block m block decode_mode place) (parts_from start ps))
parts_behind m block decode_mode place at start [] le = tt
parts_behind m block decode_mode place at start (words ∷ rest) le = (le, parts_behind m block decode_mode place (place + start + 4 * length words) (start + 4 * length words) rest (omega arith))

later : (at : ℕ) (b c : Block) → at ≤ b.offset → end_of b ≤ c.offset → at ≤ c.offset
later at b c h k = omega (arith, h, k)

all_behind : (at : ℕ) (bs : List Block) → Behind at bs → Every (λ (c : Block). at ≤ c.offset) bs
all_behind at [] h = tt
all_behind at (b ∷ bs) h = (h.0, every_weaker (λ (c : Block). end_of b ≤ c.offset) (λ (c : Block). at ≤ c.offset) (λ c k. later at b c h.0 k) bs (all_behind (end_of b) bs h.1))

pub behind_turns : (at : ℕ) (bs : List Block) → Behind at bs → Pairs IsInTurn bs
behind_turns at [] h = tt
behind_turns at (b ∷ bs) h =
    (every_weaker (λ (c : Block). end_of b ≤ c.offset) (IsInTurn b) (λ c k. in_turn b c k) bs (all_behind (end_of b) bs h.1), behind_turns (end_of b) bs h.1)

-- ---- what is known of a block

pub length-own_words : (m : Module) (p : PatchTable) (i : Interval) (at n : ℕ) → length (own_words m p i at n) ≡ n
length-own_words m p i at zero = refl
length-own_words m p i at (suc n) = ap suc (length-own_words m p i (at + 4) n)

pub record IsFit (m : Module) (p : PatchTable) (i : Interval) (b : Block) : Type 0 where
  pub straight : is_crooked b ≡ false
  pub bodied : is_bare b ≡ false
  pub counted : is_code b ≡ true → length (patched_words (code_block m p i b)) ≡ length (code_block m p i b).own + length (code_block m p i b).inserted

whole_size : (offset size : ℕ) → not ((offset % 4 == 0) && (size % 4 == 0)) ≡ false → size % 4 ≡ 0
whole_size offset size h = eqb-true (size % 4) 0 (and_parts (offset % 4 == 0) (size % 4 == 0) (not-false ((offset % 4 == 0) && (size % 4 == 0)) h)).1

pub whole_code : (b : Block) → is_crooked b ≡ false → is_code b ≡ true → size_of b % 4 ≡ 0
whole_code b h code = whole_size b.offset (size_of b) (sym (ap (λ x. x && not ((b.offset % 4 == 0) && (size_of b % 4 == 0))) code) ∙ h)

body_within : (m : Module) (t : Tables) (p : PatchTable) (i : Interval) (place offset : ℕ) (body : Body)
    → let b : Block = record { offset = offset; body = body } in IsFit m p i b → Every (IsWithin place (place + new_size (piece m t p i b))) (body_at m p i place b body)
body_within m t p i place offset bodies.Bare fit = absurd (both_ways true fit.bodied refl)
body_within m t p i place offset (bodies.Code uuid size decode_mode) fit =
    let b : Block = record { offset = offset; body = bodies.Code uuid size decode_mode } in
    let words : List PatchedWord = patched_words (code_block m p i b) in
    let n : ℕ = new_size (piece m t p i b) in
    let counted = fit.counted refl in
    let all = cut_count words in
    let same : n ≡ 4 * length words = omega (arith, counted) in
    parts_within m uuid decode_mode place n 0 (cut_words words) (omega (arith, all, same)) (cut_whole n words same)
body_within m t p i place offset (bodies.Data uuid size) fit =
    let bytes = length-bytes_at i offset size in
    (record { low = omega arith; high = omega (arith, bytes); empty = λ e. omega (arith, bytes, e) }, tt)

pub within : (m : Module) (t : Tables) (p : PatchTable) (i : Interval) (place : ℕ) (b : Block) → IsFit m p i b → Every (IsWithin place (place + new_size (piece m t p i b))) (block_at m p i (place, b))
within m t p i place b fit = body_within m t p i place b.offset b.body fit

body_turns : (m : Module) (p : PatchTable) (i : Interval) (place : ℕ) (b : Block) (body : Body) → Pairs IsInTurn (body_at m p i place b body)
body_turns m p i place b bodies.Bare = (tt, tt)
body_turns m p i place b (bodies.Code uuid size decode_mode) =
    behind_turns place (map (part_block m uuid decode_mode place) (parts (code_block m p i b))) (parts_behind m uuid decode_mode place place 0 (cut_words (patched_words (code_block m p i b))) (omega arith))
body_turns m p i place b (bodies.Data uuid size) = (tt, tt)

pub turns : (m : Module) (p : PatchTable) (i : Interval) (x : ℕ × Block) → Pairs IsInTurn (block_at m p i x)
turns m p i x = body_turns m p i x.0 x.1 x.1.body

body_large : (m : Module) (t : Tables) (p : PatchTable) (i : Interval) (offset : ℕ) (body : Body) → let b : Block = record { offset = offset; body = body } in IsFit m p i b → IsLarge (piece m t p i) b
body_large m t p i offset bodies.Bare fit = absurd (both_ways true fit.bodied refl)
body_large m t p i offset (bodies.Code uuid size decode_mode) fit =
    let own = length-own_words m p i offset (size / 4) in
    let whole = whole_size offset size fit.straight in
    omega (arith, own, whole)
body_large m t p i offset (bodies.Data uuid size) fit = let bytes = length-bytes_at i offset size in omega (arith, bytes)

pub large : (m : Module) (t : Tables) (p : PatchTable) (i : Interval) (b : Block) → IsFit m p i b → IsLarge (piece m t p i) b
large m t p i b fit = body_large m t p i b.offset b.body fit

-- ---- two blocks

level_not_before : (b c : Block) → c.offset ≤ b.offset → size_of c ≡ 0 → goes_before b c ≡ false
level_not_before b c le none =
    ap (λ x. x || ((b.offset == c.offset) && (is_empty b && not (is_empty c)))) (le-ltb b.offset c.offset le)
    ∙ ap (λ x. (b.offset == c.offset) && (is_empty b && not x)) (eq-eqb (size_of c) 0 none)
    ∙ none_of (b.offset == c.offset) (is_empty b)
  where
    none_of : (x y : Bool) → (x && (y && false)) ≡ false
    none_of true true = refl
    none_of true false = refl
    none_of false y = refl

-- a block before an empty one begins below it
below_empty : (b c : Block) → IsBefore b c → size_of c ≡ 0 → b.offset < c.offset
below_empty b c h none =
    elim (cases_lt b.offset c.offset) [
      | inl lt ↦ lt
      | inr ge ↦ absurd (both_ways (goes_before b c) (level_not_before b c ge none) h)
    ]

pub pass : (f : Block → Piece) (x y : ℕ × Block) (u v : Block) → IsApart f x y → IsLarge f x.1 → IsLarge f y.1 → IsBefore x.1 y.1
    → IsWithin x.0 (x.0 + new_size (f x.1)) u → IsWithin y.0 (y.0 + new_size (f y.1)) v → IsBefore u v
pass f x y u v apart big_x big_y before at_u at_v =
    let high : end_of u ≤ x.0 + new_size (f x.1) = at_u.high in
    let low : y.0 ≤ v.offset = at_v.low in
    let room : x.0 + new_size (f x.1) + (y.1.offset - end_of x.1) ≤ y.0 = apart.room in
    elim (cases_lt u.offset v.offset) [
      | inl lt ↦ before_lt u v lt
      | inr ge ↦
          let level : u.offset ≡ v.offset = omega (arith, high, low, room, ge) in
          let none : size_of u ≡ 0 = omega (arith, high, low, room, ge) in
          before_empty u v level none (λ e. no_room f x y u v apart big_x big_y before at_u at_v ge none e)
    ]
  where
    no_room : (f : Block → Piece) (x y : ℕ × Block) (u v : Block) → IsApart f x y → IsLarge f x.1 → IsLarge f y.1 → IsBefore x.1 y.1
        → IsWithin x.0 (x.0 + new_size (f x.1)) u → IsWithin y.0 (y.0 + new_size (f y.1)) v → v.offset ≤ u.offset → size_of u ≡ 0 → size_of v ≡ 0 → ⊥
    no_room f x y u v apart big_x big_y before at_u at_v ge none e =
        let no_x : x.0 + new_size (f x.1) ≡ x.0 = at_u.empty none in
        let no_y : y.0 + new_size (f y.1) ≡ y.0 = at_v.empty e in
        let empty : size_of y.1 ≡ 0 = omega (arith, big_y, no_y) in
        let lt = below_empty x.1 y.1 before empty in
        let high : end_of u ≤ x.0 + new_size (f x.1) = at_u.high in
        let low : y.0 ≤ v.offset = at_v.low in
        let room : x.0 + new_size (f x.1) + (y.1.offset - end_of x.1) ≤ y.0 = apart.room in
        omega (arith, no_x, big_x, lt, high, low, room, ge)

pub keep_turn : (f : Block → Piece) (x y : ℕ × Block) (u v : Block) → IsApart f x y → IsWithin x.0 (x.0 + new_size (f x.1)) u → IsWithin y.0 (y.0 + new_size (f y.1)) v → IsInTurn u v
keep_turn f x y u v apart at_u at_v =
    let high : end_of u ≤ x.0 + new_size (f x.1) = at_u.high in
    let low : y.0 ≤ v.offset = at_v.low in
    let room : x.0 + new_size (f x.1) + (y.1.offset - end_of x.1) ≤ y.0 = apart.room in
    in_turn u v (omega (arith, high, low, room))
