-- The intervals of a program, one after the other.
use Rattle.std.proofs.Common.{◌≡◌, ℕ, ◌+◌, ◌^◌, ◌<◌, ◌≤◌, Bool, true, false, List, [], ◌∷◌, ◌++◌, length, get_or, take, drop, filter, map, sym, ap, ◌∙◌, eq-eqb}
use Rattle.std.specs.Option.{option_or}
use Rattle.std.specs.List.{AllByRecursion, filter_map, flat_map}
use Rattle.std.proofs.lemmas.Bool.{cond-true, cond-false, ne_eqb}
use Rattle.std.proofs.lemmas.List.{append-nil, map-append, take_more}
use Rattle.std.proofs.lemmas.List.Elements.{filter-append}
use Rattle.bare_image.specs.declared.image.Segment.{Segment}
use Rattle.sym_expr.specs.declared.layout.Layout.{Layout}
use Rattle.sym_expr.specs.declared.program.Piece.{Piece}
use Rattle.sym_expr.specs.declared.program.Piece.TheVariants.{Code as CodePiece, Data as DataPiece, Gap}
use Rattle.sym_expr.specs.declared.program.Program.{Program}
use Rattle.sym_expr.specs.declared.program.Stretch.{Stretch}
use Rattle.sym_expr.specs.Images.{first_fault, is_some_bytes, segment_of, stretch_bytes, stretch_faults}
use Rattle.sym_expr.specs.Layouts.{accepted, address_of, IsInside, placed as placed_spot, placed_stack}
use Rattle.sym_expr.specs.Placing.{shape_of, spot_of, stretch_size}
use Rattle.sym_expr.specs.Points.{code_of, data_of, pieces_of}
use Rattle.sym_expr.specs.WellMade.{IsCode, IsData, well_made}
use Rattle.link_image.specs.Ready.{IsGood}
use Rattle.link_image.proofs.DataBytes.{first_fault-append}
use Rattle.link_image.proofs.Lists.{all_parts, dropped}

-- an interval ends at 2 ^ 47 or before
abbrev pub Fits : Layout → Stretch → Type 0
Fits l s = address_of l s.id + stretch_size s ≤ 2 ^ 47

fits_each : (l : Layout) (ss : List Stretch) → AllByRecursion IsInside (map (placed_spot l) (map spot_of ss)) → AllByRecursion (Fits l) ss
fits_each l [] all = tt
fits_each l (s ∷ ss) all = (all.0.high, fits_each l ss all.1)

pub all_fit : (l : Layout) (g : Program) → accepted l (shape_of g) → AllByRecursion (Fits l) g.stretches
all_fit l g is = fits_each l g.stretches (all_parts IsInside (map (placed_spot l) (map spot_of g.stretches)) (placed_stack l ∷ []) is.inside).0

good_pieces : (g : Program) (ps : List Piece) → AllByRecursion (IsCode g) (filter_map code_of ps) → AllByRecursion (IsData g) (filter_map data_of ps) → AllByRecursion (IsGood g) ps
good_pieces g [] codes datas = tt
good_pieces g (CodePiece b ∷ ps) codes datas = (codes.0, good_pieces g ps codes.1 datas)
good_pieces g (DataPiece b ∷ ps) codes datas = (datas.0, good_pieces g ps codes datas.1)
good_pieces g (Gap bytes ∷ ps) codes datas = (tt, good_pieces g ps codes datas)

-- all pieces of an interval are as they should be
abbrev pub AreGood : Program → Stretch → Type 0
AreGood g s = AllByRecursion (IsGood g) s.pieces

good_each : (g : Program) (ss : List Stretch) → AllByRecursion (IsGood g) (flat_map (λ (s : Stretch). s.pieces) ss) → AllByRecursion (AreGood g) ss
good_each g [] all = tt
good_each g (s ∷ ss) all = let parts = all_parts (IsGood g) s.pieces (flat_map (λ (s : Stretch). s.pieces) ss) all in (parts.0, good_each g ss parts.1)

pub all_good : (g : Program) → well_made g → AllByRecursion (AreGood g) g.stretches
all_good g is = good_each g g.stretches (good_pieces g (pieces_of g) is.codes is.datas)

-- ---- segments

pub segment_is : (l : Layout) (g : Program) (s : Stretch) (x : Segment) (at : ℕ) (bytes : List ℕ) → x ≡ record { at = at; bytes = bytes } → at ≡ address_of l s.id → bytes ≡ stretch_bytes l g s → x ≡ segment_of l g s
segment_is l g s x at bytes is at_is bytes_is = is ∙ ap (λ (a : ℕ). record { at = a; bytes = bytes }) at_is ∙ ap (λ (b : List ℕ). record { at = address_of l s.id; bytes = b }) bytes_is

pub no_segment : (l : Layout) (g : Program) (s : Stretch) (before : List Segment) → stretch_size s ≡ 0 → before ≡ before ++ map (segment_of l g) (filter is_some_bytes (s ∷ []))
no_segment l g s before none =
    sym (append-nil before)
    ∙ ap (λ ss. before ++ map (segment_of l g) ss) (sym (cond-false (is_some_bytes s) (s ∷ []) [] (ap (λ v. not_of v) (eq-eqb (stretch_size s) 0 none))))
  where
    not_of : Bool → Bool
    not_of true = false
    not_of false = true

pub one_segment : (l : Layout) (g : Program) (s : Stretch) (before : List Segment) (x : Segment) → (stretch_size s ≡ 0 → ⊥) → x ≡ segment_of l g s → before ++ x ∷ [] ≡ before ++ map (segment_of l g) (filter is_some_bytes (s ∷ []))
one_segment l g s before x some is =
    ap (λ y. before ++ y ∷ []) is
    ∙ ap (λ ss. before ++ map (segment_of l g) ss) (sym (cond-true (is_some_bytes s) (s ∷ []) [] (ap (λ v. not_of v) (ne_eqb (stretch_size s) 0 some))))
  where
    not_of : Bool → Bool
    not_of true = false
    not_of false = true

module _ (l : Layout) (g : Program) (ss : List Stretch) (i : ℕ) (s : Stretch) (lt : i < length ss) (is : s ≡ get_or ss i s) where
  pub segments_more : (before now : List Segment) → before ≡ map (segment_of l g) (filter is_some_bytes (take i ss)) → now ≡ before ++ map (segment_of l g) (filter is_some_bytes (s ∷ []))
      → now ≡ map (segment_of l g) (filter is_some_bytes (take (i + 1) ss))
  segments_more before now so_far added =
      added ∙ ap (λ xs. xs ++ map (segment_of l g) (filter is_some_bytes (s ∷ []))) so_far
      ∙ sym (map-append (segment_of l g) (filter is_some_bytes (take i ss)) (filter is_some_bytes (s ∷ [])))
      ∙ ap (map (segment_of l g)) (sym (filter-append is_some_bytes (take i ss) (s ∷ [])))
      ∙ ap (λ ts. map (segment_of l g) (filter is_some_bytes ts)) (sym (take_more ss i s lt ∙ ap (λ t. take i ss ++ t ∷ []) (sym is)))

  pub faults_behind : first_fault (flat_map (stretch_faults l g) (drop i ss)) ≡ option_or (first_fault (stretch_faults l g s)) (first_fault (flat_map (stretch_faults l g) (drop (i + 1) ss)))
  faults_behind =
      ap (λ ts. first_fault (flat_map (stretch_faults l g) ts)) (dropped ss i s lt is)
      ∙ first_fault-append (stretch_faults l g s) (flat_map (stretch_faults l g) (drop (i + 1) ss))
