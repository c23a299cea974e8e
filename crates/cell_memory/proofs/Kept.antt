-- The cells of blocks by their identifiers.
use Rattle.std.proofs.Common.{◌≡◌, ℕ, zero, suc, ◌<◌, true, false, cond, Option, Some, None, List, [], ◌∷◌, ◌++◌, length, get_or, find, refl, sym, ap, subst, ◌∙◌, arith}
use Rattle.std.specs.List.{AllByRecursion, cons_option, filter_map, flat_map}
use Rattle.std.specs.Option.{option_map, option_or}
use Rattle.std.specs.Str.{bytes_eq}
use Rattle.cell_memory.specs.Blocks.{AreFit, Fits, IsFit, data_in}
use Rattle.cell_memory.proofs.Filled.{filling_most}
use Rattle.sym_expr.specs.declared.program.DataBlock.{DataBlock}
use Rattle.sym_expr.specs.declared.program.Filling.{Filling}
use Rattle.sym_expr.specs.declared.program.Piece.{Piece}
use Rattle.sym_expr.specs.declared.program.Program.{Program}
use Rattle.sym_expr.specs.declared.program.Stretch.{Stretch}
use Rattle.sym_expr.specs.Points.{data_of}
use Rattle.sym_expr.specs.States.{block_cells}
use Rattle.sym_expr.specs.Values.{Cell}
use Rattle.sym_expr.specs.WellMade.{IsData, IsInside}

-- ---- finding

found_first : (id : List ℕ) (o : Option DataBlock) (bs : List DataBlock)
    → find (λ (b : DataBlock). bytes_eq b.id id) (cons_option o bs) ≡ option_or (find (λ (b : DataBlock). bytes_eq b.id id) (cons_option o [])) (find (λ (b : DataBlock). bytes_eq b.id id) bs)
found_first id None bs = refl
found_first id (Some b) bs =
    elim (bytes_eq b.id id) as (λ t. cond t (Some b) (find (λ (b : DataBlock). bytes_eq b.id id) bs) ≡ option_or (cond t (Some b) None) (find (λ (b : DataBlock). bytes_eq b.id id) bs)) [ true ↦ refl | false ↦ refl ]

pub data_first : (p : Piece) (ps : List Piece) (id : List ℕ) → data_in (p ∷ ps) id ≡ option_or (data_in (p ∷ []) id) (data_in ps id)
data_first p ps id = found_first id (data_of p) (filter_map data_of ps)

or_assoc : {A : Type 0} (a b c : Option A) → option_or (option_or a b) c ≡ option_or a (option_or b c)
or_assoc None b c = refl
or_assoc (Some x) b c = refl

pub data_append : (ps qs : List Piece) (id : List ℕ) → data_in (ps ++ qs) id ≡ option_or (data_in ps id) (data_in qs id)
data_append [] qs id = refl
data_append (p ∷ ps) qs id =
    data_first p (ps ++ qs) id ∙ ap (option_or (data_in (p ∷ []) id)) (data_append ps qs id)
    ∙ sym (or_assoc (data_in (p ∷ []) id) (data_in ps id) (data_in qs id)) ∙ ap (λ o. option_or o (data_in qs id)) (sym (data_first p ps id))

map_or : {A B : Type 0} (f : A → B) (a b : Option A) → option_map f (option_or a b) ≡ option_or (option_map f a) (option_map f b)
map_or f None b = refl
map_or f (Some x) b = refl

-- one more piece before those that are kept
pub piece_before : (p : Piece) (ps : List Piece) (id : List ℕ) (old new base : Option (List Cell)) → new ≡ option_or (option_map block_cells (data_in (p ∷ []) id)) old
    → old ≡ option_or (option_map block_cells (data_in ps id)) base → new ≡ option_or (option_map block_cells (data_in (p ∷ ps) id)) base
piece_before p ps id old new base put kept =
    put ∙ ap (option_or (option_map block_cells (data_in (p ∷ []) id))) kept
    ∙ sym (or_assoc (option_map block_cells (data_in (p ∷ []) id)) (option_map block_cells (data_in ps id)) base)
    ∙ ap (λ o. option_or o base) (sym (ap (option_map block_cells) (data_first p ps id) ∙ map_or block_cells (data_in (p ∷ []) id) (data_in ps id)))

-- the pieces of one more interval before those that are kept
pub pieces_before : (ps qs : List Piece) (id : List ℕ) (old new : Option (List Cell)) → new ≡ option_or (option_map block_cells (data_in ps id)) old
    → old ≡ option_map block_cells (data_in qs id) → new ≡ option_map block_cells (data_in (ps ++ qs) id)
pieces_before ps qs id old new put kept =
    put ∙ ap (option_or (option_map block_cells (data_in ps id))) kept ∙ sym (ap (option_map block_cells) (data_append ps qs id) ∙ map_or block_cells (data_in ps id) (data_in qs id))

-- ---- what fits

all_fit : (g : Program) (size : ℕ) (b : DataBlock) (fs : List (ℕ × Filling)) → size ≡ length b.bytes → AllByRecursion (IsInside g b) fs → AllByRecursion (Fits size) fs
all_fit g size b [] same all = tt
all_fit g size b (f ∷ fs) same all = ((filling_most g f.1 all.0.1, omega (arith, all.0.0)), all_fit g size b fs same all.1)

fits : (g : Program) (b : DataBlock) → IsData g b → IsFit b
fits g b is = all_fit g (length b.bytes) b b.fillings refl is.fillings

pub blocks_fit : (g : Program) (bs : List DataBlock) → AllByRecursion (IsData g) bs → AllByRecursion IsFit bs
blocks_fit g [] all = tt
blocks_fit g (b ∷ bs) all = (fits g b all.0, blocks_fit g bs all.1)

-- the first of several and the others
fit_parts : (o : Option DataBlock) (bs : List DataBlock) → AllByRecursion IsFit (cons_option o bs) → AllByRecursion IsFit (cons_option o []) × AllByRecursion IsFit bs
fit_parts None bs all = (tt, all)
fit_parts (Some b) bs all = ((all.0, tt), all.1)

fit_join : (o : Option DataBlock) (bs : List DataBlock) → AllByRecursion IsFit (cons_option o []) → AllByRecursion IsFit bs → AllByRecursion IsFit (cons_option o bs)
fit_join None bs first rest = rest
fit_join (Some b) bs first rest = (first.0, rest)

fit_append : (ps qs : List Piece) → AreFit (ps ++ qs) → AreFit ps × AreFit qs
fit_append [] qs all = (tt, all)
fit_append (p ∷ ps) qs all =
    let both = fit_parts (data_of p) (filter_map data_of (ps ++ qs)) all in
    let rest = fit_append ps qs both.1 in
    (fit_join (data_of p) (filter_map data_of ps) both.0 rest.0, rest.1)

pub piece_fits : (ps : List Piece) (i : ℕ) (p : Piece) → i < length ps → p ≡ get_or ps i p → AreFit ps → AreFit (p ∷ [])
piece_fits [] i p lt is all = absurd (omega arith)
piece_fits (q ∷ qs) zero p lt is all = subst (λ (x : Piece). AreFit (x ∷ [])) (sym is) (fit_parts (data_of q) (filter_map data_of qs) all).0
piece_fits (q ∷ qs) (suc i) p lt is all = piece_fits qs i p (omega arith) is (fit_parts (data_of q) (filter_map data_of qs) all).1

pub stretch_fits : (ss : List Stretch) (i : ℕ) (s : Stretch) → i < length ss → s ≡ get_or ss i s → AreFit (flat_map (λ (x : Stretch). x.pieces) ss) → AreFit s.pieces
stretch_fits [] i s lt is all = absurd (omega arith)
stretch_fits (x ∷ xs) zero s lt is all = subst (λ (y : Stretch). AreFit y.pieces) (sym is) (fit_append x.pieces (flat_map (λ (y : Stretch). y.pieces) xs) all).0
stretch_fits (x ∷ xs) (suc i) s lt is all = stretch_fits xs i s (omega arith) is (fit_append x.pieces (flat_map (λ (y : Stretch). y.pieces) xs) all).1
