-- The blocks of a program are those of the loaded intervals, each interval's in order.
use Rattle.std.proofs.Common.{◌≡◌, ℕ, ◌-◌, Bool, true, false, List, [], ◌∷◌, ◌++◌, map, Option, Some, None, refl, sym, ap, ◌∙◌, subst}
use Rattle.std.specs.Prelude.{find, IfSome, ◌==◌, if◌then◌else◌}
use Rattle.std.specs.List.{AllByRecursion as Every, IsDistinct, flat_map, filter_map, cons_option}
use Rattle.std.specs.Str.{bytes_eq}
use Rattle.std.proofs.lemmas.List.{map-append}
use Rattle.std.proofs.lemmas.List.Concat.{flat_map-append}
use Rattle.std.proofs.lemmas.List.Elements.{filter_map-append}
use Rattle.gt_model.specs.declared.intervals.Block.{Block}
use Rattle.gt_model.specs.declared.intervals.Interval.{Interval}
use Rattle.gt_model.specs.declared.modules.Module.{Module}
use Rattle.gt_model.specs.declared.modules.Section.{Section}
use Rattle.sym_expr.specs.declared.patches.PatchTable.{PatchTable}
use Rattle.sym_expr.specs.declared.program.Piece.{Piece}
use Rattle.sym_expr.specs.declared.program.Piece.TheVariants.{Code as CodePiece, Data as DataPiece, Gap}
use Rattle.sym_expr.specs.declared.program.Stretch.{Stretch}
use Rattle.sym_expr.specs.Modules.{loaded_intervals, loaded_sections, intervals_of, bytes_at, is_code, id_of, end_of, in_order}
use Rattle.sym_expr.specs.Patches.{no_patches}
use Rattle.sym_expr.specs.Program.{code_block, data_block, piece, gap, pieces, stretch, section_stretches, has_entry, program}
use Rattle.sym_expr.specs.Tables.{Tables}
use Rattle.sym_expr.specs.WellMade.{block_id}
use Rattle.sym_expr.proofs.Counts.{id_same}

-- ---- intervals

nothing_more : {X : Type 0} (xs : List X) (b : Bool) → xs ++ (if b then [] else []) ≡ xs
nothing_more [] true = refl
nothing_more [] false = refl
nothing_more (x ∷ xs) b = ap (λ l. x ∷ l) (nothing_more xs b)

section_intervals : (m : Module) (t : Tables) (ss : List Section) → flat_map (section_stretches m t no_patches) ss ≡ map (stretch m t no_patches) (intervals_of ss)
section_intervals m t [] = refl
section_intervals m t (s ∷ ss) =
    ap (λ l. l ++ flat_map (section_stretches m t no_patches) ss) (nothing_more (map (stretch m t no_patches) s.intervals) (has_entry m s))
    ∙ (ap (λ l. map (stretch m t no_patches) s.intervals ++ l) (section_intervals m t ss)
    ∙ sym (map-append (stretch m t no_patches) s.intervals (intervals_of ss)))

-- without patches the intervals are the loaded ones
pub stretches_are : (m : Module) (t : Tables) → (program m t no_patches).stretches ≡ map (stretch m t no_patches) (loaded_intervals m)
stretches_are m t = section_intervals m t (loaded_sections m)

-- ---- blocks

-- each block with its interval
abbrev pub blocks_with : Interval → List Block → List (Interval × Block)
blocks_with i bs = map (λ b. (i, b)) bs

abbrev pub listed : List Interval → List (Interval × Block)
listed is = flat_map (λ (i : Interval). blocks_with i (in_order i.blocks)) is

abbrev pub piece_of : Module → Tables → PatchTable → Interval × Block → Piece
piece_of m t p x = piece m t p x.0 x.1

no_gap : {Y : Type 0} (h : Piece → Option Y) (none : (bytes : List ℕ) → h (Gap bytes) ≡ None) (bytes : List ℕ) (b : Bool) → filter_map h (if b then [] else Gap bytes ∷ []) ≡ []
no_gap h none bytes true = refl
no_gap h none bytes false = ap (λ o. cons_option o []) (none bytes)

blocks_kept : {Y : Type 0} (h : Piece → Option Y) → ((bytes : List ℕ) → h (Gap bytes) ≡ None) → (m : Module) (t : Tables) (p : PatchTable) (i : Interval) (at : ℕ) (bs : List Block)
    → filter_map h (pieces m t p i at bs) ≡ filter_map (λ x. h (piece_of m t p x)) (blocks_with i bs)
blocks_kept h none m t p i at [] = no_gap h none (bytes_at i at (i.size - at)) (i.size - at == 0)
blocks_kept h none m t p i at (b ∷ bs) =
    filter_map-append h (gap i at b.offset) (piece m t p i b ∷ pieces m t p i (end_of b) bs)
    ∙ (ap (λ l. l ++ cons_option (h (piece m t p i b)) (filter_map h (pieces m t p i (end_of b) bs))) (no_gap h none (bytes_at i at (b.offset - at)) (b.offset - at == 0))
    ∙ ap (λ l. cons_option (h (piece m t p i b)) l) (blocks_kept h none m t p i (end_of b) bs))

-- what is kept of all pieces, but for gaps, is kept of the blocks
pub all_kept : {Y : Type 0} (h : Piece → Option Y) → ((bytes : List ℕ) → h (Gap bytes) ≡ None) → (m : Module) (t : Tables) (p : PatchTable) (is : List Interval)
    → filter_map h (flat_map (λ (s : Stretch). s.pieces) (map (stretch m t p) is)) ≡ filter_map (λ x. h (piece_of m t p x)) (listed is)
all_kept h none m t p [] = refl
all_kept h none m t p (i ∷ is) =
    filter_map-append h (pieces m t p i 0 (in_order i.blocks)) (flat_map (λ (s : Stretch). s.pieces) (map (stretch m t p) is))
    ∙ (ap (λ l. l ++ filter_map h (flat_map (λ (s : Stretch). s.pieces) (map (stretch m t p) is))) (blocks_kept h none m t p i 0 (in_order i.blocks))
    ∙ (ap (λ l. filter_map (λ x. h (piece_of m t p x)) (blocks_with i (in_order i.blocks)) ++ l) (all_kept h none m t p is)
    ∙ sym (filter_map-append (λ x. h (piece_of m t p x)) (blocks_with i (in_order i.blocks)) (listed is))))

-- ---- identifiers of blocks

no_id : (bytes : List ℕ) (b : Bool) → flat_map block_id (if b then [] else Gap bytes ∷ []) ≡ []
no_id bytes true = refl
no_id bytes false = refl

its_id : (m : Module) (t : Tables) (p : PatchTable) (i : Interval) (b : Block) (x : Bool) → block_id (if x then CodePiece (code_block m p i b) else DataPiece (data_block m t p i b)) ≡ id_of b ∷ []
its_id m t p i b true = refl
its_id m t p i b false = refl

ids_kept : (m : Module) (t : Tables) (p : PatchTable) (i : Interval) (at : ℕ) (bs : List Block) → flat_map block_id (pieces m t p i at bs) ≡ map id_of bs
ids_kept m t p i at [] = no_id (bytes_at i at (i.size - at)) (i.size - at == 0)
ids_kept m t p i at (b ∷ bs) =
    flat_map-append block_id (gap i at b.offset) (piece m t p i b ∷ pieces m t p i (end_of b) bs)
    ∙ (ap (λ l. l ++ (block_id (piece m t p i b) ++ flat_map block_id (pieces m t p i (end_of b) bs))) (no_id (bytes_at i at (b.offset - at)) (b.offset - at == 0))
    ∙ (ap (λ l. l ++ flat_map block_id (pieces m t p i (end_of b) bs)) (its_id m t p i b (is_code b))
    ∙ ap (λ l. id_of b ∷ l) (ids_kept m t p i (end_of b) bs)))

pub ids_are : (m : Module) (t : Tables) (p : PatchTable) (is : List Interval)
    → flat_map (λ (s : Stretch). flat_map block_id s.pieces) (map (stretch m t p) is) ≡ flat_map (λ (i : Interval). map id_of (in_order i.blocks)) is
ids_are m t p [] = refl
ids_are m t p (i ∷ is) =
    ap (λ l. l ++ flat_map (λ (s : Stretch). flat_map block_id s.pieces) (map (stretch m t p) is)) (ids_kept m t p i 0 (in_order i.blocks))
    ∙ ap (λ l. map id_of (in_order i.blocks) ++ l) (ids_are m t p is)

map_with : (i : Interval) (bs : List Block) → map (λ (x : Interval × Block). id_of x.1) (blocks_with i bs) ≡ map id_of bs
map_with i [] = refl
map_with i (b ∷ bs) = ap (λ l. id_of b ∷ l) (map_with i bs)

pub listed_ids : (is : List Interval) → map (λ (x : Interval × Block). id_of x.1) (listed is) ≡ flat_map (λ (i : Interval). map id_of (in_order i.blocks)) is
listed_ids [] = refl
listed_ids (i ∷ is) =
    map-append (λ (x : Interval × Block). id_of x.1) (blocks_with i (in_order i.blocks)) (listed is)
    ∙ (ap (λ l. l ++ map (λ (x : Interval × Block). id_of x.1) (listed is)) (map_with i (in_order i.blocks))
    ∙ ap (λ l. map id_of (in_order i.blocks) ++ l) (listed_ids is))

-- ---- each is found by its identifier

other_name : (a b c : List ℕ) → a ≡ b → bytes_eq b c ≡ false → bytes_eq a c ≡ false
other_name a b c e h = let P : List ℕ → Type 0 = λ z. bytes_eq z c ≡ false in subst P (sym e) h

find_pass : {Y : Type 0} (test : Y → Bool) (y : Y) (ys : List Y) → test y ≡ true → find test (y ∷ ys) ≡ Some y
find_pass test y ys h = rw h refl

find_skip : {Y : Type 0} (test : Y → Bool) (y : Y) (ys : List Y) → test y ≡ false → find test (y ∷ ys) ≡ find test ys
find_skip test y ys h = rw h refl

its_name : (a b : List ℕ) → a ≡ b → bytes_eq a b ≡ true
its_name a b e = let P : List ℕ → Type 0 = λ z. bytes_eq z b ≡ true in subst P (sym e) (id_same b)

found_here : {Y : Type 0} (name : Y → List ℕ) (id : List ℕ) (o : Option Y) (ys : List Y) → IfSome o (λ y. name y ≡ id) → IfSome o (λ y. find (λ z. bytes_eq (name z) id) (cons_option o ys) ≡ Some y)
found_here name id None ys h = tt
found_here name id (Some y) ys h = find_pass (λ z. bytes_eq (name z) id) y ys (its_name (name y) id h)

found_past : {Y : Type 0} (name : Y → List ℕ) (first id : List ℕ) (o : Option Y) (ys : List Y) → IfSome o (λ y. name y ≡ first) → bytes_eq first id ≡ false → find (λ z. bytes_eq (name z) id) (cons_option o ys) ≡ find (λ z. bytes_eq (name z) id) ys
found_past name first id None ys h k = refl
found_past name first id (Some y) ys h k = find_skip (λ z. bytes_eq (name z) id) y ys (other_name (name y) first id h k)

at_option : {Y : Type 0} (o : Option Y) (a b : Option Y) → b ≡ a → IfSome o (λ y. a ≡ Some y) → IfSome o (λ y. b ≡ Some y)
at_option o a b e h = let P : Option _ → Type 0 = λ z. IfSome o (λ y. z ≡ Some y) in subst P (sym e) h

found_later : {X Y : Type 0} (h : X → Option Y) (key : X → List ℕ) (name : Y → List ℕ) (x : X) (ys : List Y) → IfSome (h x) (λ y. name y ≡ key x) → (zs : List X) → Every (λ y. bytes_eq (key x) y ≡ false) (map key zs)
    → Every (λ z. IfSome (h z) (λ y. find (λ w. bytes_eq (name w) (key z)) ys ≡ Some y)) zs
    → Every (λ z. IfSome (h z) (λ y. find (λ w. bytes_eq (name w) (key z)) (cons_option (h x) ys) ≡ Some y)) zs
found_later h key name x ys named [] k l = tt
found_later h key name x ys named (z ∷ zs) k l = (
  at_option (h z) (find (λ w. bytes_eq (name w) (key z)) ys) (find (λ w. bytes_eq (name w) (key z)) (cons_option (h x) ys)) (found_past name (key x) (key z) (h x) ys named k.0) l.0,
  found_later h key name x ys named zs k.1 l.1,
)

-- where identifiers are distinct
pub found_in : {X Y : Type 0} (h : X → Option Y) (key : X → List ℕ) (name : Y → List ℕ) → ((x : X) → IfSome (h x) (λ y. name y ≡ key x)) → (xs : List X) → IsDistinct bytes_eq (map key xs)
    → Every (λ x. IfSome (h x) (λ y. find (λ w. bytes_eq (name w) (key x)) (filter_map h xs) ≡ Some y)) xs
unfolding IsDistinct
found_in h key name named [] d = tt
found_in h key name named (x ∷ xs) d = (
  found_here name (key x) (h x) (filter_map h xs) (named x),
  found_later h key name x (filter_map h xs) (named x) xs d.0 (found_in h key name named xs d.1),
)
