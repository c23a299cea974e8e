-- What is kept of a block is so, and more blocks that are kept.
use Rattle.std.proofs.Common.{◌≡◌, ℕ, zero, suc, ◌+◌, ◌^◌, ◌<◌, ◌≤◌, cond, IsSome, Option, Some, None, List, [], ◌∷◌, drop, sum_by, Result, Ok, Err, OnOk, refl, sym, ap, subst, ◌∙◌, inl, inr, arith, slice_get}
use Rattle.std.specs.List.{AllByRecursion}
use Rattle.std.specs.Option.{is_some, option_map, option_map_or, unwrap_or}
use Rattle.std.specs.Str.{bytes_eq}
use Rattle.std.proofs.lemmas.Bool.{cond-true, cond-false, cases_Bool}
use Rattle.std.proofs.lemmas.List.Sums.{sum_by-cons}
use Rattle.std.proofs.lemmas.Slice.Eq.{bytes_eq-Decides}
use Rattle.indexmap.specs.IndexMap.{get}
use Rattle.sym_expr.specs.declared.program.CodeBlock.{CodeBlock}
use Rattle.sym_expr.specs.declared.program.DataBlock.{DataBlock}
use Rattle.sym_expr.specs.declared.program.Piece.{Piece}
use Rattle.sym_expr.specs.declared.program.Piece.TheVariants.{Code as CodePiece, Data as DataPiece, Gap}
use Rattle.sym_expr.specs.declared.program.Program.{Program}
use Rattle.sym_expr.specs.declared.program.Stretch.{Stretch}
use Rattle.sym_expr.specs.Layouts.{least_from}
use Rattle.sym_expr.specs.Placing.{Placed, placed, placed_from, end_from, new_size, step_of, stretch_size}
use Rattle.sym_expr.specs.Points.{first_code, is_passed, reached}
use Rattle.sym_expr.specs.Targets.{start_of}
use Rattle.indexed_program.specs.declared.spot.Ahead.{Ahead}
use Rattle.indexed_program.specs.declared.spot.CodeSpot.{CodeSpot}
use Rattle.indexed_program.specs.declared.spot.Indexes.{Indexes}
use Rattle.indexed_program.specs.declared.spot.Spot.{Spot}
use Rattle.indexed_program.specs.Building.{adjacent, IsAhead, StandsAt}
use Rattle.indexed_program.specs.Kept.{IsByOffset, IsCodeSpot, IsDataSpot, IsKept, IsRight}
use Rattle.indexed_program.proofs.Apart.{apart_in, piece_placed, placed_here, same_id}
use Rattle.indexed_program.proofs.Lists.{all_at}
use Rattle.indexed_program.proofs.Reaching.{apart_ids, code_found, data_found, goes_not, reached_passed, Stands, stays, stretch_found}

-- ---- sizes

-- a piece ends at an offset or before it
abbrev pub EndsBy : ℕ → Placed → Type 0
EndsBy end x = x.at + new_size x.piece ≤ end

pub ends_from : (at : ℕ) (ps : List Piece) → (at ≤ end_from at ps) × AllByRecursion (EndsBy (end_from at ps)) (placed_from at ps)
ends_from at [] = (omega arith, tt)
ends_from at (p ∷ ps) =
    let rest = ends_from (least_from at (step_of p) 0 + new_size p) ps in
    let le = rest.0 in
    (omega arith, (le, rest.1))

pub sum_at : (ss : List Stretch) (i : ℕ) (s : Stretch) → slice_get ss i ≡ Some s → stretch_size s ≤ sum_by stretch_size ss
sum_at [] i s e = cc
sum_at (t ∷ ss) zero s e =
    let same : t ≡ s = cc in
    let size : stretch_size t ≡ stretch_size s = ap stretch_size same in
    let sum = sum_by-cons stretch_size t ss in omega arith
sum_at (t ∷ ss) (suc i) s e =
    let rest = sum_at ss i s e in
    let sum = sum_by-cons stretch_size t ss in omega arith

pub ends_below : (s : Stretch) (k : ℕ) (x : Placed) → slice_get (placed s) k ≡ Some x → x.at + new_size x.piece ≤ stretch_size s
ends_below s k x e = all_at (EndsBy (stretch_size s)) (placed s) k x (ends_from 0 s.pieces).1 e

-- ---- one block

place_of : (g : Program) (s : Stretch) (spot : Spot) (at : ℕ) (p : Piece) (ahead : Option Ahead) → StandsAt g s spot at p ahead → slice_get s.pieces spot.piece ≡ Some p
place_of g s spot at p ahead is = piece_placed 0 s.pieces spot.piece (record { at = at; piece = p }) is.at_piece

stands_of : (g : Program) (s : Stretch) (spot : Spot) (at : ℕ) (b : CodeBlock) (ahead : Option Ahead) → StandsAt g s spot at (CodePiece b) ahead → Stands g spot.stretch spot.piece s b
stands_of g s spot at b ahead is = record { at_stretch = is.at_stretch; at_piece = place_of g s spot at (CodePiece b) ahead is }

-- where the end of a block is known to go on
abbrev pub GoesOnAs : Program → CodeBlock → Option Ahead → CodeSpot → Type 0
GoesOnAs g b ahead x = (next : Option CodeBlock) → IsAhead g next ahead → x.onward ≡ option_map (λ (c : CodeBlock). reached g (start_of c.id)) (adjacent b next)

pub code_spot_is : (g : Program) (s : Stretch) (spot : Spot) (at : ℕ) (b : CodeBlock) (ahead : Option Ahead) (x : CodeSpot) → StandsAt g s spot at (CodePiece b) ahead
    → x.spot ≡ spot → x.at ≡ at → IsByOffset x.inserted b.inserted → GoesOnAs g b ahead x → IsCodeSpot g b.id b x
code_spot_is g s spot at b ahead x is spot_is at_is inserted onward =
    let stands = stands_of g s spot at b ahead is in
    let i = spot.stretch in
    let j = spot.piece in
    let here : Placed = record { at = at; piece = CodePiece b } in
    let ends : at + new_size (CodePiece b) ≤ stretch_size s = ends_below s j here is.at_piece in
    let sum = sum_at g.stretches i s is.at_stretch in
    let sizes = is.well.sizes in
    let size : at + new_size (CodePiece b) < 2 ^ 62 = omega arith in
    record {
      stretch = s;
      found = code_found g i j s b is.well stands;
      interval = stretch_found g i j s b is.well stands;
      at_stretch = ap (λ (y : Spot). slice_get g.stretches y.stretch) spot_is ∙ is.at_stretch;
      at_piece = ap (λ (y : Spot). slice_get s.pieces y.piece) spot_is ∙ stands.at_piece;
      offset = at_is ∙ sym (ap (λ (o : Option Placed). option_map_or (λ (y : Placed). y.at) o 0) (placed_here 0 s.pieces j b here (apart_in g.stretches i s (apart_ids g is.well) is.at_stretch) is.at_piece refl));
      size = subst (λ n. n + new_size (CodePiece b) < 2 ^ 62) (sym at_is) size;
      inserted = inserted;
      onward = λ p same passed.
          reached_passed g i j s b p is.well stands same passed
          ∙ sym (ap (λ o. unwrap_or o p) (onward (first_code (drop (suc j) s.pieces)) is.next));
    }

-- where the start of a block leads
pub leads_to : (g : Program) (s : Stretch) (spot : Spot) (at : ℕ) (b : CodeBlock) (ahead : Option Ahead) (x : CodeSpot) → StandsAt g s spot at (CodePiece b) ahead → GoesOnAs g b ahead x
    → cond (is_passed b (start_of b.id)) (unwrap_or x.onward (start_of b.id)) (start_of b.id) ≡ reached g (start_of b.id)
leads_to g s spot at b ahead x is onward =
    let stands = stands_of g s spot at b ahead is in
    let i = spot.stretch in
    let j = spot.piece in
    let start = start_of b.id in
    elim (cases_Bool (is_passed b start)) [
      | inl passed ↦
          cond-true (is_passed b start) (unwrap_or x.onward start) start passed
          ∙ ap (λ o. unwrap_or o start) (onward (first_code (drop (suc j) s.pieces)) is.next)
          ∙ sym (reached_passed g i j s b start is.well stands refl passed)
      | inr not ↦
          cond-false (is_passed b start) (unwrap_or x.onward start) start not
          ∙ sym (stays g start (goes_not g b start (code_found g i j s b is.well stands) not))
    ]

pub data_spot_is : (g : Program) (s : Stretch) (spot : Spot) (at : ℕ) (b : DataBlock) (ahead : Option Ahead) → StandsAt g s spot at (DataPiece b) ahead → IsDataSpot g b.id spot
data_spot_is g s spot at b ahead is =
    let there = place_of g s spot at (DataPiece b) ahead is in
    record {
      block = b;
      found = data_found g spot.stretch spot.piece s b is.well is.at_stretch there;
      at_piece = ap (λ (o : Option Stretch). piece_in o) is.at_stretch ∙ there;
    }
  where
    piece_in : Option Stretch → Option Piece
    piece_in None = None
    piece_in (Some t) = slice_get t.pieces spot.piece

-- ---- one more block

-- a map with one more entry
abbrev pub Puts : {V : Type 0} → List ℕ → V → (List ℕ → Option V) → (List ℕ → Option V) → Type 0
Puts id v old new = (q : List ℕ) → new q ≡ cond (bytes_eq id q) (Some v) (old q)

module _ {V : Type 0} (id : List ℕ) (v : V) (old new : List ℕ → Option V) (put : Puts id v old new) where
  pub put_right : (P : List ℕ → V → Type 0) → P id v → ((q : List ℕ) (x : V) → old q ≡ Some x → P q x) → (q : List ℕ) (x : V) → new q ≡ Some x → P q x
  put_right P here before q x e =
      elim (cases_Bool (bytes_eq id q)) [
        | inl same ↦
            let found : Some v ≡ Some x = sym (put q ∙ cond-true (bytes_eq id q) (Some v) (old q) same) ∙ e in
            let one : v ≡ x = cc in
            subst (λ y. P q y) one (subst (λ k. P k v) ((bytes_eq-Decides id q).0 same) here)
        | inr other ↦ before q x (sym (put q ∙ cond-false (bytes_eq id q) (Some v) (old q) other) ∙ e)
      ]

  pub put_here : IsSome (new id)
  put_here = ap is_some (put id ∙ cond-true (bytes_eq id id) (Some v) (old id) (same_id id id refl))

  pub put_keeps : (q : List ℕ) → IsSome (old q) → IsSome (new q)
  put_keeps q some =
      elim (cases_Bool (bytes_eq id q)) [
        | inl same ↦ ap is_some (put q ∙ cond-true (bytes_eq id q) (Some v) (old q) same)
        | inr other ↦ ap is_some (put q ∙ cond-false (bytes_eq id q) (Some v) (old q) other) ∙ some
      ]

-- a code block more
pub code_right : (g : Program) (id : List ℕ) (x : CodeSpot) (old new : Indexes) → Puts id x (get bytes_eq old.code) (get bytes_eq new.code) → new.data ≡ old.data → (block : CodeBlock) × IsCodeSpot g id block x → IsRight g old → IsRight g new
code_right g id x old new put same is right = record {
  codes = put_right id x (get bytes_eq old.code) (get bytes_eq new.code) put (λ q y. (block : CodeBlock) × IsCodeSpot g q block y) is right.codes;
  datas = λ q y e. right.datas q y (ap (λ m. get bytes_eq m q) (sym same) ∙ e);
}

pub code_keeps : (id : List ℕ) (x : CodeSpot) (old new : Indexes) → Puts id x (get bytes_eq old.code) (get bytes_eq new.code) → new.data ≡ old.data → (p : Piece) → IsKept old p → IsKept new p
code_keeps id x old new put same (CodePiece b) kept = put_keeps id x (get bytes_eq old.code) (get bytes_eq new.code) put b.id kept
code_keeps id x old new put same (DataPiece b) kept = ap (λ m. is_some (get bytes_eq m b.id)) same ∙ kept
code_keeps id x old new put same (Gap bytes) kept = tt

-- a data block more
pub data_right : (g : Program) (id : List ℕ) (x : Spot) (old new : Indexes) → Puts id x (get bytes_eq old.data) (get bytes_eq new.data) → new.code ≡ old.code → IsDataSpot g id x → IsRight g old → IsRight g new
data_right g id x old new put same is right = record {
  codes = λ q y e. right.codes q y (ap (λ m. get bytes_eq m q) (sym same) ∙ e);
  datas = put_right id x (get bytes_eq old.data) (get bytes_eq new.data) put (IsDataSpot g) is right.datas;
}

pub data_keeps : (id : List ℕ) (x : Spot) (old new : Indexes) → Puts id x (get bytes_eq old.data) (get bytes_eq new.data) → new.code ≡ old.code → (p : Piece) → IsKept old p → IsKept new p
data_keeps id x old new put same (CodePiece b) kept = ap (λ m. is_some (get bytes_eq m b.id)) same ∙ kept
data_keeps id x old new put same (DataPiece b) kept = put_keeps id x (get bytes_eq old.data) (get bytes_eq new.data) put b.id kept
data_keeps id x old new put same (Gap bytes) kept = tt

-- what follows where a call was Ok
pub on_ok : {T E P Q : Type 0} (r : Result T E) → (P → Q) → OnOk r P → OnOk r Q
on_ok (Ok x) f h = f h
on_ok (Err e) f h = h

pub kept_all : (old new : Indexes) → ((p : Piece) → IsKept old p → IsKept new p) → (ps : List Piece) → AllByRecursion (IsKept old) ps → AllByRecursion (IsKept new) ps
kept_all old new keeps [] all = tt
kept_all old new keeps (p ∷ ps) all = (keeps p all.0, kept_all old new keeps ps all.1)
