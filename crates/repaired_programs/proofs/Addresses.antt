-- The addresses of blocks under a layout, by the spots of the blocks.
use Rattle.std.proofs.Common.{◌≡◌, ◌≢◌, ℕ, ◌+◌, ◌-◌, ◌*◌, Bool, true, false, List, [], ◌∷◌, ◌++◌, length, map, replicate, Option, Some, None, refl, sym, ap, ◌∙◌, subst, arith}
use Rattle.std.specs.Prelude.{AllPairs, find, ◌==◌, if◌then◌else◌}
use Rattle.std.specs.List.{AllByRecursion as Every, IsDistinct, flat_map}
use Rattle.std.specs.Option.{option_map}
use Rattle.std.specs.Str.{bytes_eq}
use Rattle.std.proofs.lemmas.Bool.{eqb-true, false_from_ne_true, both_ways}
use Rattle.std.proofs.lemmas.List.{length-append, length-map, length-replicate, map-append}
use Rattle.std.proofs.lemmas.Map.Made.{IsDistinct-from_AllPairs}
use Rattle.std.proofs.lemmas.Slice.Eq.{bytes_eq-Decides}
use Rattle.block_parts.specs.declared.parts.Part.{Part}
use Rattle.block_parts.specs.declared.words.PatchedWord.{PatchedWord}
use Rattle.block_parts.specs.Parts.{cut_words, parts, parts_from}
use Rattle.block_parts.specs.Words.{patched_words}
use Rattle.gt_model.specs.declared.modules.Module.{Module}
use Rattle.repaired_programs.specs.Pieces.{bare_piece, bare_program, bare_stretch, bare_word, new_pieces, new_program, new_stretch, part_piece, plain_word}
use Rattle.repaired_programs.specs.Spots.{new_spots, old_spots, part_spot, piece_parts, piece_spots}
use Rattle.rewrite.specs.Identifiers.{part_id}
use Rattle.sym_expr.specs.declared.layout.Layout.{Layout}
use Rattle.sym_expr.specs.declared.program.DataBlock.{DataBlock}
use Rattle.sym_expr.specs.declared.program.Piece.{Piece}
use Rattle.sym_expr.specs.declared.program.Piece.TheVariants.{Code as CodePiece, Data as DataPiece, Gap}
use Rattle.sym_expr.specs.declared.program.Program.{Program}
use Rattle.sym_expr.specs.declared.program.Stretch.{Stretch}
use Rattle.sym_expr.specs.declared.program.Word.{Word}
use Rattle.sym_expr.specs.Images.{addressed, block_address, is_block}
use Rattle.sym_expr.specs.Layouts.{address_of, least_from}
use Rattle.sym_expr.specs.Placing.{Placed, placed, placed_from}
use Rattle.sym_expr.specs.Points.{data_size, object_alignment}
use Rattle.sym_expr.specs.WellMade.{block_id, block_ids}
use Rattle.repaired_programs.proofs.Becomes.{count, cut_count}
use Rattle.repaired_programs.proofs.Known.{IsCounted, IsCountedPiece}
use Rattle.repaired_programs.proofs.Lists.{every_both, every_flat, every_map, every_part, every_unmap, every_weaker}
use Rattle.repaired_programs.proofs.Spots.{no_padding}
use Rattle.repaired_programs.proofs.Walks.{some_part, step_divides}

-- ---- spots of placed pieces

abbrev spots_in : List Placed → List (List ℕ × ℕ)
spots_in xs = flat_map old_spots xs

-- they don't ask what pieces name
bare_spots : (end : ℕ) (ps : List Piece) → spots_in (placed_from end (map bare_piece ps)) ≡ spots_in (placed_from end ps)
bare_spots end [] = refl
bare_spots end (CodePiece b ∷ ps) =
    let own = length-map b.own bare_word in
    let more : length (map (λ (w : ℕ × Word). let v : ℕ × Word = (w.0, bare_word w.1) in v) b.inserted) ≡ length b.inserted = length-map b.inserted (λ (w : ℕ × Word). let v : ℕ × Word = (w.0, bare_word w.1) in v) in
    let at : ℕ = least_from end 1 0 in
    let size : at + 4 * (length (map bare_word b.own) + length (map (λ (w : ℕ × Word). let v : ℕ × Word = (w.0, bare_word w.1) in v) b.inserted)) ≡ at + 4 * (length b.own + length b.inserted) = omega (arith, own, more) in
    ap (λ k. (b.id, at) ∷ spots_in (placed_from k (map bare_piece ps))) size
    ∙ ap (λ l. (b.id, at) ∷ l) (bare_spots (at + 4 * (length b.own + length b.inserted)) ps)
bare_spots end (DataPiece b ∷ ps) =
    ap (λ l. (b.id, least_from end (object_alignment b) 0) ∷ l) (bare_spots (least_from end (object_alignment b) 0 + data_size b) ps)
bare_spots end (Gap bytes ∷ ps) = bare_spots (least_from end 1 0 + length bytes) ps

gap_spots : (end : ℕ) (bytes : List ℕ) (x : Bool) (ps : List Piece) → (length bytes == 0) ≡ x → spots_in (placed_from end ((if x then [] else Gap bytes ∷ []) ++ ps)) ≡ spots_in (placed_from (end + length bytes) ps)
gap_spots end bytes true ps e = let none = eqb-true (length bytes) 0 e in let same : end ≡ end + length bytes = omega (arith, none) in ap (λ k. spots_in (placed_from k ps)) same
gap_spots end bytes false ps e = let still = no_padding end 1 (omega arith) in ap (λ k. spots_in (placed_from (k + length bytes) ps)) still

part_spots : (m : Module) (block : List ℕ) (place at start : ℕ) (words : List (List PatchedWord)) (ps : List Piece) → at ≡ place + start
    → spots_in (placed_from at (map (part_piece m block place) (parts_from start words) ++ ps)) ≡ map (part_spot m block place) (parts_from start words) ++ spots_in (placed_from (place + (start + 4 * count words)) ps)
part_spots m block place at start [] ps e = let same : at ≡ place + (start + 4 * 0) = omega (arith, e) in ap (λ k. spots_in (placed_from k ps)) same
part_spots m block place at start (words ∷ rest) ps e =
    let q : Part = record { start = start; words = words } in
    let still = no_padding at 1 (omega arith) in
    let own = length-map words plain_word in
    let here : least_from at 1 0 ≡ place + start = omega (arith, still, e) in
    let next : place + start + 4 * (length (map plain_word words) + 0) ≡ place + (start + 4 * length words) = omega (arith, own) in
    let end : place + (start + 4 * length words + 4 * count rest) ≡ place + (start + 4 * count (words ∷ rest)) = omega arith in
    let tail : List Piece = map (part_piece m block place) (parts_from (start + 4 * length words) rest) ++ ps in
    let spot = λ (k : ℕ). let v : List ℕ × ℕ = (part_id m block q, k) in v in
    ap (λ k. spot k ∷ spots_in (placed_from (k + 4 * (length (map plain_word words) + 0)) tail)) here
    ∙ ap (λ k. spot (place + start) ∷ spots_in (placed_from k tail)) next
    ∙ ap (λ l. spot (place + start) ∷ l) (part_spots m block place (place + (start + 4 * length words)) (start + 4 * length words) rest ps refl)
    ∙ ap (λ k. spot (place + start) ∷ (map (part_spot m block place) (parts_from (start + 4 * length words) rest) ++ spots_in (placed_from k ps))) end

-- the pieces once more stand where the parts stand
new_pieces_spots : (m : Module) (gap : List ℕ) (start end : ℕ) (ps : List Piece) → start + length gap ≡ end → Every IsCountedPiece ps → spots_in (placed_from start (new_pieces m gap end (placed_from end ps))) ≡ flat_map (new_spots m) (placed_from end ps)
new_pieces_spots m gap start end [] e h = gap_alone gap (length gap == 0)
  where
    gap_alone : (bytes : List ℕ) (x : Bool) → spots_in (placed_from start (if x then [] else Gap bytes ∷ [])) ≡ []
    gap_alone bytes true = refl
    gap_alone bytes false = refl
new_pieces_spots m gap start end (CodePiece b ∷ ps) e h =
    let place : ℕ = least_from end 1 0 in
    let zeros : List ℕ = replicate (place - end) 0 in
    let next : ℕ = place + 4 * (length b.own + length b.inserted) in
    let words : List (List PatchedWord) = cut_words (patched_words b) in
    let counted : IsCounted b = h.0 in
    let all = cut_count (patched_words b) in
    let size = length-append gap zeros in
    let padding : length zeros ≡ place - end = length-replicate (place - end) 0 in
    let there : start + length (gap ++ zeros) ≡ place + 0 = omega (arith, size, padding, e) in
    let last : place + (0 + 4 * count words) ≡ next = omega (arith, counted, all) in
    let rest : List Piece = new_pieces m [] next (placed_from next ps) in
    let own : List (List ℕ × ℕ) = map (part_spot m b.id place) (parts b) in
    gap_spots start (gap ++ zeros) (length (gap ++ zeros) == 0) (map (part_piece m b.id place) (parts b) ++ rest) refl
    ∙ part_spots m b.id place (start + length (gap ++ zeros)) 0 words rest there
    ∙ ap (λ k. own ++ spots_in (placed_from k rest)) last
    ∙ ap (λ l. own ++ l) (new_pieces_spots m [] next next ps (omega arith) h.1)
new_pieces_spots m gap start end (DataPiece b ∷ ps) e h =
    let place : ℕ = least_from end (object_alignment b) 0 in
    let zeros : List ℕ = replicate (place - end) 0 in
    let next : ℕ = place + data_size b in
    let size = length-append gap zeros in
    let padding : length zeros ≡ place - end = length-replicate (place - end) 0 in
    let there : start + length (gap ++ zeros) ≡ place = omega (arith, size, padding, e) in
    let d : DataBlock = record b { offset = place; fillings = [] } in
    let still : least_from place (object_alignment d) 0 ≡ place = no_padding place (object_alignment d) (step_divides b.alignment (data_size b) place) in
    let rest : List Piece = new_pieces m [] next (placed_from next ps) in
    gap_spots start (gap ++ zeros) (length (gap ++ zeros) == 0) (DataPiece d ∷ rest) refl
    ∙ ap (λ k. spots_in (placed_from k (DataPiece d ∷ rest))) there
    ∙ ap (λ k. (b.id, k) ∷ spots_in (placed_from (k + data_size b) rest)) still
    ∙ ap (λ l. (b.id, place) ∷ l) (new_pieces_spots m [] next next ps (omega arith) h.1)
new_pieces_spots m gap start end (Gap bytes ∷ ps) e h =
    let still = no_padding end 1 (omega arith) in
    let size = length-append gap bytes in
    new_pieces_spots m (gap ++ bytes) start (least_from end 1 0 + length bytes) ps (omega (arith, still, size, e)) h.1

-- ---- spots of a program under a layout

-- the address that spots give a block
abbrev lookup : List ℕ → List (List ℕ × ℕ) → Option ℕ
lookup id [] = None
lookup id (e ∷ es) = if bytes_eq id e.0 then Some e.1 else lookup id es

abbrev moved : ℕ → List ℕ × ℕ → List ℕ × ℕ
moved base e = (e.0, base + e.1)

-- the blocks of an interval, and of a program, with their addresses
abbrev stretch_spots : Layout → Stretch → List (List ℕ × ℕ)
stretch_spots l s = map (moved (address_of l s.id)) (spots_in (placed s))

abbrev all_spots : Layout → List Stretch → List (List ℕ × ℕ)
all_spots l ss = flat_map (stretch_spots l) ss

abbrev shifted : ℕ → List Placed → List Placed
shifted base xs = map (λ (x : Placed). record x { at = base + x.at }) xs

abbrev first_at : List ℕ → List Placed → Option ℕ
first_at id xs = option_map (λ (x : Placed). x.at) (find (λ (x : Placed). is_block id x.piece) xs)

choose : (x : Placed) (o : Option Placed) (c : Bool) → option_map (λ (y : Placed). y.at) (if c then Some x else o) ≡ (if c then Some x.at else option_map (λ (y : Placed). y.at) o)
choose x o true = refl
choose x o false = refl

first_spot : (id : List ℕ) (base at : ℕ) (p : Piece) (xs ys : List Placed) (zs : List (List ℕ × ℕ)) → first_at id (shifted base xs ++ ys) ≡ lookup id (map (moved base) (spots_in xs) ++ zs)
    → first_at id (shifted base (record { at = at; piece = p } ∷ xs) ++ ys) ≡ lookup id (map (moved base) (spots_in (record { at = at; piece = p } ∷ xs)) ++ zs)
first_spot id base at (CodePiece b) xs ys zs e =
    choose (record { at = base + at; piece = CodePiece b }) (find (λ (x : Placed). is_block id x.piece) (shifted base xs ++ ys)) (bytes_eq id b.id)
    ∙ ap (λ o. if bytes_eq id b.id then Some (base + at) else o) e
first_spot id base at (DataPiece b) xs ys zs e =
    choose (record { at = base + at; piece = DataPiece b }) (find (λ (x : Placed). is_block id x.piece) (shifted base xs ++ ys)) (bytes_eq id b.id)
    ∙ ap (λ o. if bytes_eq id b.id then Some (base + at) else o) e
first_spot id base at (Gap bytes) xs ys zs e = e

spots_first : (id : List ℕ) (base : ℕ) (xs ys : List Placed) (zs : List (List ℕ × ℕ)) → first_at id ys ≡ lookup id zs → first_at id (shifted base xs ++ ys) ≡ lookup id (map (moved base) (spots_in xs) ++ zs)
spots_first id base [] ys zs e = e
spots_first id base (x ∷ xs) ys zs e = first_spot id base x.at x.piece xs ys zs (spots_first id base xs ys zs e)

stretches_first : (l : Layout) (id : List ℕ) (ss : List Stretch) → first_at id (flat_map (addressed l) ss) ≡ lookup id (all_spots l ss)
stretches_first l id [] = refl
stretches_first l id (s ∷ ss) = spots_first id (address_of l s.id) (placed s) (flat_map (addressed l) ss) (all_spots l ss) (stretches_first l id ss)

-- ---- each is found by its identifier

turned : (a b : List ℕ) → bytes_eq a b ≡ false → bytes_eq b a ≡ false
turned a b h = false_from_ne_true (bytes_eq b a) (λ e. both_ways (bytes_eq a b) h ((bytes_eq-Decides a b).1 (sym ((bytes_eq-Decides b a).0 e))))

abbrev IsFound : List (List ℕ × ℕ) → List ℕ × ℕ → Type 0
IsFound es e = lookup e.0 es ≡ Some e.1

skipped : (e f : List ℕ × ℕ) (es : List (List ℕ × ℕ)) → bytes_eq e.0 f.0 ≡ false → IsFound es f → IsFound (e ∷ es) f
skipped e f es h k = ap (λ c. if c then Some e.1 else lookup f.0 es) (turned e.0 f.0 h) ∙ k

each_found : (es : List (List ℕ × ℕ)) → IsDistinct bytes_eq (map (λ (e : List ℕ × ℕ). e.0) es) → Every (IsFound es) es
unfolding IsDistinct
each_found [] d = tt
each_found (e ∷ es) d = (
  ap (λ c. if c then Some e.1 else lookup e.0 es) ((bytes_eq-Decides e.0 e.0).1 refl),
  every_weaker (λ f. (bytes_eq e.0 f.0 ≡ false) × IsFound es f) (IsFound (e ∷ es)) (λ f h. skipped e f es h.0 h.1) es
      (every_both (λ f. bytes_eq e.0 f.0 ≡ false) (IsFound es) es (every_unmap (λ (f : List ℕ × ℕ). f.0) (λ k. bytes_eq e.0 k ≡ false) es d.0) (each_found es d.1)),
)

-- ---- the identifiers of spots are those of blocks

spot_ids : (base end : ℕ) (ps : List Piece) → map (λ (e : List ℕ × ℕ). e.0) (map (moved base) (spots_in (placed_from end ps))) ≡ flat_map block_id ps
spot_ids base end [] = refl
spot_ids base end (CodePiece b ∷ ps) = ap (λ l. b.id ∷ l) (spot_ids base (least_from end 1 0 + 4 * (length b.own + length b.inserted)) ps)
spot_ids base end (DataPiece b ∷ ps) = ap (λ l. b.id ∷ l) (spot_ids base (least_from end (object_alignment b) 0 + data_size b) ps)
spot_ids base end (Gap bytes ∷ ps) = spot_ids base (least_from end 1 0 + length bytes) ps

all_ids : (l : Layout) (ss : List Stretch) → map (λ (e : List ℕ × ℕ). e.0) (all_spots l ss) ≡ flat_map (λ (s : Stretch). flat_map block_id s.pieces) ss
all_ids l [] = refl
all_ids l (s ∷ ss) =
    map-append (λ (e : List ℕ × ℕ). e.0) (stretch_spots l s) (all_spots l ss)
    ∙ ap (λ x. x ++ map (λ (e : List ℕ × ℕ). e.0) (all_spots l ss)) (spot_ids (address_of l s.id) 0 s.pieces)
    ∙ ap (λ x. flat_map block_id s.pieces ++ x) (all_ids l ss)

abbrev pub AreApart : Program → Type 0
AreApart g = AllPairs (λ (a later : List ℕ). a ≢ later) (block_ids g)

-- each block of a program has its address
pub all_addressed : (l : Layout) (g : Program) → AreApart g → Every (λ (e : List ℕ × ℕ). block_address l g e.0 ≡ Some e.1) (all_spots l g.stretches)
all_addressed l g apart =
    every_weaker (IsFound (all_spots l g.stretches)) (λ (e : List ℕ × ℕ). block_address l g e.0 ≡ Some e.1) (λ e h. stretches_first l e.0 g.stretches ∙ h) (all_spots l g.stretches)
    (each_found (all_spots l g.stretches) (subst (IsDistinct bytes_eq) (sym (all_ids l g.stretches)) (IsDistinct-from_AllPairs bytes_eq-Decides (block_ids g) apart)))

-- ---- a repaired module

spots_bared : (l : Layout) (ss : List Stretch) → all_spots l (map bare_stretch ss) ≡ all_spots l ss
spots_bared l [] = refl
spots_bared l (s ∷ ss) =
    ap (λ x. map (moved (address_of l s.id)) x ++ all_spots l (map bare_stretch ss)) (bare_spots 0 s.pieces)
    ∙ ap (λ x. stretch_spots l s ++ x) (spots_bared l ss)

abbrev part_spots_of : Layout → Module → Stretch → List (List ℕ × ℕ)
part_spots_of l m s = map (moved (address_of l s.id)) (flat_map (new_spots m) (placed s))

spots_cut : (l : Layout) (m : Module) (ss : List Stretch) → Every (λ (s : Stretch). Every IsCountedPiece s.pieces) ss → all_spots l (map (new_stretch m) ss) ≡ flat_map (part_spots_of l m) ss
spots_cut l m [] h = refl
spots_cut l m (s ∷ ss) h =
    ap (λ x. map (moved (address_of l s.id)) x ++ all_spots l (map (new_stretch m) ss)) (new_pieces_spots m [] 0 0 s.pieces refl h.0)
    ∙ ap (λ x. part_spots_of l m s ++ x) (spots_cut l m ss h.1)

-- the blocks of an interval have these addresses in a program
abbrev pub AreAt : Layout → Program → (Placed → List (List ℕ × ℕ)) → Stretch → Type 0
AreAt l g spots s = Every (λ (e : List ℕ × ℕ). block_address l g e.0 ≡ Some (address_of l s.id + e.1)) (flat_map spots (placed s))

of_stretches : (l : Layout) (g : Program) (spots : Placed → List (List ℕ × ℕ)) (ss : List Stretch)
    → Every (λ (e : List ℕ × ℕ). block_address l g e.0 ≡ Some e.1) (flat_map (λ (s : Stretch). map (moved (address_of l s.id)) (flat_map spots (placed s))) ss) → Every (AreAt l g spots) ss
of_stretches l g spots ss h =
    every_weaker (λ (s : Stretch). Every (λ (e : List ℕ × ℕ). block_address l g e.0 ≡ Some e.1) (map (moved (address_of l s.id)) (flat_map spots (placed s)))) (AreAt l g spots)
    (λ s k. every_unmap (moved (address_of l s.id)) (λ (e : List ℕ × ℕ). block_address l g e.0 ≡ Some e.1) (flat_map spots (placed s)) k) ss
    (every_part (λ (s : Stretch). map (moved (address_of l s.id)) (flat_map spots (placed s))) (λ (e : List ℕ × ℕ). block_address l g e.0 ≡ Some e.1) ss h)

pub old_addresses : (l : Layout) (g : Program) → AreApart g → Every (AreAt l g old_spots) g.stretches
old_addresses l g apart = of_stretches l g old_spots g.stretches (all_addressed l g apart)

pub new_addresses : (l : Layout) (m : Module) (g new : Program) → bare_program new ≡ new_program m g → Every (λ (s : Stretch). Every IsCountedPiece s.pieces) g.stretches → AreApart new → Every (AreAt l new (new_spots m)) g.stretches
new_addresses l m g new same counted apart =
    let P : List ℕ × ℕ → Type 0 = λ e. block_address l new e.0 ≡ Some e.1 in
    let all : all_spots l new.stretches ≡ flat_map (part_spots_of l m) g.stretches =
    sym (spots_bared l new.stretches) ∙ ap (λ (x : Program). all_spots l x.stretches) same ∙ spots_cut l m g.stretches counted in
    of_stretches l new (new_spots m) g.stretches (subst (Every P) all (all_addressed l new apart))

-- ---- blocks keep their addresses

-- a block is its own first part
first_part : (P : List ℕ × ℕ → Type 0) (m : Module) (at : ℕ) (p : Piece) → Every P (piece_parts m at p) → Every P (piece_spots at p)
first_part P m at (CodePiece b) h =
    let some = some_part (patched_words b) in
    let first = subst (λ (ws : List (List PatchedWord)). Every P (map (part_spot m b.id at) (parts_from 0 ws))) some.2 h in
    let same : at + 0 ≡ at = omega arith in
    (subst (λ (k : ℕ). P (b.id, k)) same first.0, tt)
first_part P m at (DataPiece b) h = h
first_part P m at (Gap bytes) h = h

first_parts : (P : List ℕ × ℕ → Type 0) (m : Module) (xs : List Placed) → Every P (flat_map (new_spots m) xs) → Every P (flat_map old_spots xs)
first_parts P m xs h =
    every_flat old_spots P xs
    (every_weaker (λ x. Every P (new_spots m x)) (λ x. Every P (old_spots x)) (λ x k. first_part P m x.at x.piece k) xs
    (every_part (new_spots m) P xs h))

-- both programs give a block one address
abbrev IsKept : Layout → Program → Program → List ℕ → Type 0
IsKept l g new id = block_address l new id ≡ block_address l g id

kept_in : (l : Layout) (m : Module) (g new : Program) (s : Stretch) → AreAt l g old_spots s → AreAt l new (new_spots m) s → Every (IsKept l g new) (flat_map block_id s.pieces)
kept_in l m g new s old now =
    let base : ℕ = address_of l s.id in
    let xs : List (List ℕ × ℕ) = flat_map old_spots (placed s) in
    let P : List ℕ × ℕ → Type 0 = λ e. block_address l new e.0 ≡ Some (base + e.1) in
    let Q : List ℕ × ℕ → Type 0 = λ e. block_address l g e.0 ≡ Some (base + e.1) in
    let both : Every (λ (e : List ℕ × ℕ). IsKept l g new e.0) xs =
    every_weaker (λ e. P e × Q e) (λ (e : List ℕ × ℕ). IsKept l g new e.0) (λ e h. h.0 ∙ sym h.1) xs (every_both P Q xs (first_parts P m (placed s) now) old) in
    subst (Every (IsKept l g new)) (spot_ids base 0 s.pieces)
    (every_map (λ (e : List ℕ × ℕ). e.0) (IsKept l g new) (map (moved base) xs) (every_map (moved base) (λ (e : List ℕ × ℕ). IsKept l g new e.0) xs both))

pub kept_addresses : (l : Layout) (m : Module) (g new : Program) → Every (AreAt l g old_spots) g.stretches → Every (AreAt l new (new_spots m)) g.stretches → Every (λ id. block_address l new id ≡ block_address l g id) (block_ids g)
kept_addresses l m g new old now =
    every_flat (λ (s : Stretch). flat_map block_id s.pieces) (IsKept l g new) g.stretches
    (every_weaker (λ s. AreAt l g old_spots s × AreAt l new (new_spots m) s) (λ (s : Stretch). Every (IsKept l g new) (flat_map block_id s.pieces)) (λ s h. kept_in l m g new s h.0 h.1) g.stretches
    (every_both (AreAt l g old_spots) (AreAt l new (new_spots m)) g.stretches old now))
