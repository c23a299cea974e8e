-- What the indexes of a program answer where nothing is kept.
use Rattle.std.proofs.Common.{◌≡◌, ℕ, ◌+◌, ◌*◌, ◌||◌, true, false, IsSome, Option, Some, None, List, [], ◌∷◌, find, refl, sym, ap, subst, ◌∙◌, inl, inr, slice_get}
use Rattle.std.specs.List.{AllByRecursion, filter_map, flat_map, list_any}
use Rattle.std.specs.Option.{is_some, option_and_then, option_map_or}
use Rattle.std.specs.Str.{bytes_eq}
use Rattle.std.proofs.lemmas.Bool.{cond-false, cases_Bool}
use Rattle.std.proofs.lemmas.Slice.Eq.{bytes_eq-Decides}
use Rattle.indexmap.specs.IndexMap.{get}
use Rattle.sym_expr.specs.declared.program.CodeBlock.{CodeBlock}
use Rattle.sym_expr.specs.declared.program.DataBlock.{DataBlock}
use Rattle.sym_expr.specs.declared.program.Piece.{Piece}
use Rattle.sym_expr.specs.declared.program.Piece.TheVariants.{Code as CodePiece, Data as DataPiece, Gap}
use Rattle.sym_expr.specs.declared.program.Program.{Program}
use Rattle.sym_expr.specs.declared.program.Stretch.{Stretch}
use Rattle.sym_expr.specs.declared.point.Point.{Point}
use Rattle.sym_expr.specs.Images.{depth, inserted_below}
use Rattle.sym_expr.specs.Points.{after, after_in, code_at, code_of, data_at, data_of, is_code_piece, pieces_of, stretch_of, word_at, word_in}
use Rattle.sym_expr.specs.Symbolic.{point_offset}
use Rattle.sym_expr.specs.WellMade.{IsPoint}
use Rattle.indexed_program.specs.declared.spot.Indexes.{Indexes}
use Rattle.indexed_program.specs.declared.spot.CodeSpot.{CodeSpot}
use Rattle.indexed_program.specs.declared.spot.Spot.{Spot}
use Rattle.indexed_program.specs.Kept.{IsCodeSpot, IsDataSpot, IsKept, KeepsAll, offset_of}
use Rattle.indexed_program.specs.Spots.{piece_at}
use Rattle.indexed_program.proofs.Lists.{all_append}

-- what is kept isn't an identifier of which nothing is
other_than : {V : Type 0} (m : List ℕ → Option V) (id at : List ℕ) → m id ≡ None → IsSome (m at) → bytes_eq at id ≡ false
other_than m id at none some =
    elim (cases_Bool (bytes_eq at id)) [
      | inl same ↦
          let here : is_some (m id) ≡ true = subst (λ k. is_some (m k) ≡ true) ((bytes_eq-Decides at id).0 same) some in
          let clash = sym (ap is_some none) ∙ here in cc
      | inr other ↦ other
    ]

kept_pieces : (k : Indexes) (ss : List Stretch) → KeepsAll k ss → AllByRecursion (IsKept k) (flat_map (λ (s : Stretch). s.pieces) ss)
kept_pieces k [] all = tt
kept_pieces k (s ∷ ss) all = all_append (IsKept k) s.pieces (flat_map (λ (s : Stretch). s.pieces) ss) all.0 (kept_pieces k ss all.1)

module _ (k : Indexes) (id : List ℕ) where
  no_code : (ps : List Piece) → get bytes_eq k.code id ≡ None → AllByRecursion (IsKept k) ps → find (λ (c : CodeBlock). bytes_eq c.id id) (filter_map code_of ps) ≡ None
  no_code [] none all = refl
  no_code (CodePiece b ∷ ps) none all =
      cond-false (bytes_eq b.id id) (Some b) (find (λ (c : CodeBlock). bytes_eq c.id id) (filter_map code_of ps)) (other_than (get bytes_eq k.code) id b.id none all.0) ∙ no_code ps none all.1
  no_code (DataPiece b ∷ ps) none all = no_code ps none all.1
  no_code (Gap bytes ∷ ps) none all = no_code ps none all.1

  no_data : (ps : List Piece) → get bytes_eq k.data id ≡ None → AllByRecursion (IsKept k) ps → find (λ (c : DataBlock). bytes_eq c.id id) (filter_map data_of ps) ≡ None
  no_data [] none all = refl
  no_data (DataPiece b ∷ ps) none all =
      cond-false (bytes_eq b.id id) (Some b) (find (λ (c : DataBlock). bytes_eq c.id id) (filter_map data_of ps)) (other_than (get bytes_eq k.data) id b.id none all.0) ∙ no_data ps none all.1
  no_data (CodePiece b ∷ ps) none all = no_data ps none all.1
  no_data (Gap bytes ∷ ps) none all = no_data ps none all.1

  not_in : (ps : List Piece) → get bytes_eq k.code id ≡ None → AllByRecursion (IsKept k) ps → list_any (is_code_piece id) ps ≡ false
  not_in [] none all = refl
  not_in (CodePiece b ∷ ps) none all = ap (λ v. v || list_any (is_code_piece id) ps) (other_than (get bytes_eq k.code) id b.id none all.0) ∙ not_in ps none all.1
  not_in (DataPiece b ∷ ps) none all = not_in ps none all.1
  not_in (Gap bytes ∷ ps) none all = not_in ps none all.1

  no_stretch : (ss : List Stretch) → get bytes_eq k.code id ≡ None → KeepsAll k ss → find (λ (s : Stretch). list_any (is_code_piece id) s.pieces) ss ≡ None
  no_stretch [] none all = refl
  no_stretch (s ∷ ss) none all =
      cond-false (list_any (is_code_piece id) s.pieces) (Some s) (find (λ (s : Stretch). list_any (is_code_piece id) s.pieces) ss) (not_in s.pieces none all.0) ∙ no_stretch ss none all.1

  pub code_none : (g : Program) → KeepsAll k g.stretches → get bytes_eq k.code id ≡ None → code_at g id ≡ None
  code_none g all none = no_code (pieces_of g) none (kept_pieces k g.stretches all)

  pub data_none : (g : Program) → KeepsAll k g.stretches → get bytes_eq k.data id ≡ None → data_at g id ≡ None
  data_none g all none = no_data (pieces_of g) none (kept_pieces k g.stretches all)

  pub stretch_none : (g : Program) → KeepsAll k g.stretches → get bytes_eq k.code id ≡ None → stretch_of g id ≡ None
  stretch_none g all none = no_stretch g.stretches none all

-- the block that is kept stands at its spot
pub code_at_spot : (g : Program) (id : List ℕ) (b : CodeBlock) (x : CodeSpot) → IsCodeSpot g id b x → option_and_then code_of (piece_at g x.spot) ≡ Some b
code_at_spot g id b x is =
    ap (λ (o : Option Stretch). option_and_then code_of (option_and_then (λ (s : Stretch). slice_get s.pieces x.spot.piece) o)) is.at_stretch
    ∙ ap (option_and_then code_of) is.at_piece

pub data_at_spot : (g : Program) (id : List ℕ) (x : Spot) → IsDataSpot g id x → option_and_then data_of (piece_at g x) ≡ data_at g id
data_at_spot g id x is = ap (option_and_then data_of) is.at_piece ∙ sym is.found

-- ---- points

pub word_found : (g : Program) (at : Point) (b : CodeBlock) → code_at g at.block ≡ Some b → word_at g at ≡ word_in b at
word_found g at b found = ap (option_and_then (λ (c : CodeBlock). word_in c at)) found

pub word_none : (g : Program) (at : Point) → code_at g at.block ≡ None → word_at g at ≡ None
word_none g at none = ap (option_and_then (λ (c : CodeBlock). word_in c at)) none

pub after_found : (g : Program) (at : Point) (b : CodeBlock) → code_at g at.block ≡ Some b → after g at ≡ after_in b at
after_found g at b found = ap (λ (o : Option CodeBlock). option_map_or (λ (c : CodeBlock). after_in c at) o at) found

pub after_none : (g : Program) (at : Point) → code_at g at.block ≡ None → after g at ≡ at
after_none g at none = ap (λ (o : Option CodeBlock). option_map_or (λ (c : CodeBlock). after_in c at) o at) none

pub offset_found : (g : Program) (p : Point) (b : CodeBlock) (x : CodeSpot) → IsCodeSpot g p.block b x → point_offset g p ≡ x.at + (p.offset + (4 * inserted_below p.offset b + 4 * p.j))
offset_found g p b x is =
    ap (λ (o : Option Stretch). option_map_or (λ (s : Stretch). offset_of s p.block + depth g p) o 0) is.interval
    ∙ ap (λ n. n + depth g p) (sym is.offset)
    ∙ ap (λ (o : Option CodeBlock). x.at + (p.offset + (4 * option_map_or (inserted_below p.offset) o 0 + 4 * p.j))) is.found

-- a point's block is the one that is found
pub same_block : (g : Program) (p : Point) (b : CodeBlock) → code_at g p.block ≡ Some b → (is : IsPoint g p) → is.block ≡ b
same_block g p b found is = let both = sym is.found ∙ found in cc
