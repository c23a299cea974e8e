-- Blocks by their places: where the identifiers are apart, a search for a block's finds it.
use Rattle.std.proofs.Common.{◌≡◌, ◌≢◌, ℕ, zero, suc, ◌+◌, ◌||◌, Bool, true, false, Some, List, [], ◌∷◌, drop, find, refl, ap, subst, ◌∙◌, slice_get}
use Rattle.std.specs.List.{AllByRecursion, filter_map, flat_map, list_any}
use Rattle.std.specs.Str.{bytes_eq}
use Rattle.std.proofs.lemmas.Bool.{cond-true, cond-false, false_from_ne_true}
use Rattle.std.proofs.lemmas.Slice.Eq.{bytes_eq-Decides}
use Rattle.sym_expr.specs.declared.program.CodeBlock.{CodeBlock}
use Rattle.sym_expr.specs.declared.program.DataBlock.{DataBlock}
use Rattle.sym_expr.specs.declared.program.Piece.{Piece}
use Rattle.sym_expr.specs.declared.program.Piece.TheVariants.{Code as CodePiece, Data as DataPiece, Gap}
use Rattle.sym_expr.specs.declared.program.Stretch.{Stretch}
use Rattle.sym_expr.specs.Layouts.{least_from}
use Rattle.sym_expr.specs.Placing.{Placed, placed_from, new_size, step_of}
use Rattle.sym_expr.specs.Points.{behind, code_of, data_of, is_code_piece}
use Rattle.sym_expr.specs.WellMade.{block_id}
use Rattle.indexed_program.proofs.Lists.{Pairs, all_parts, all_through, at_back, at_front, pairs_parts}

pub same_id : (a b : List ℕ) → a ≡ b → bytes_eq a b ≡ true
same_id a b e = (bytes_eq-Decides a b).1 e

pub other_id : (a b : List ℕ) → a ≢ b → bytes_eq a b ≡ false
other_id a b n = false_from_ne_true _ (λ t. n ((bytes_eq-Decides a b).0 t))

-- the identifiers of pieces, and of the pieces of intervals
abbrev pub ids : List Piece → List (List ℕ)
ids ps = flat_map block_id ps

abbrev pub all_ids : List Stretch → List (List ℕ)
all_ids ss = flat_map (λ (s : Stretch). flat_map block_id s.pieces) ss

abbrev pub AreApart : List (List ℕ) → Type 0
AreApart xs = Pairs (λ a later. a ≢ later) xs

-- what all identifiers have, that of a block at an index has
pub has_id : (P : List ℕ → Type 0) (ps : List Piece) (k : ℕ) (p : Piece) (id : List ℕ) → AllByRecursion P (ids ps) → slice_get ps k ≡ Some p → block_id p ≡ id ∷ [] → P id
has_id P [] k p id all e is = cc
has_id P (q ∷ ps) zero p id all e is =
    let parts = all_parts P (block_id q) (ids ps) all in
    let same : q ≡ p = cc in
    (subst (AllByRecursion P) (ap block_id same ∙ is) parts.0).0
has_id P (q ∷ ps) (suc k) p id all e is = has_id P ps k p id (all_parts P (block_id q) (ids ps) all).1 e is

pub has_id_in : (P : List ℕ → Type 0) (ss : List Stretch) (i : ℕ) (s : Stretch) (k : ℕ) (p : Piece) (id : List ℕ) → AllByRecursion P (all_ids ss) → slice_get ss i ≡ Some s
    → slice_get s.pieces k ≡ Some p → block_id p ≡ id ∷ [] → P id
has_id_in P [] i s k p id all e f is = cc
has_id_in P (t ∷ ss) zero s k p id all e f is =
    let parts = all_parts P (ids t.pieces) (all_ids ss) all in
    let same : t ≡ s = cc in
    has_id P s.pieces k p id (subst (λ (u : Stretch). AllByRecursion P (ids u.pieces)) same parts.0) f is
has_id_in P (t ∷ ss) (suc i) s k p id all e f is = has_id_in P ss i s k p id (all_parts P (ids t.pieces) (all_ids ss) all).1 e f is

-- ---- in an interval

pub code_here : (ps : List Piece) (k : ℕ) (b : CodeBlock) → AreApart (ids ps) → slice_get ps k ≡ Some (CodePiece b)
    → find (λ (c : CodeBlock). bytes_eq c.id b.id) (filter_map code_of ps) ≡ Some b
code_here [] k b apart e = cc
code_here (CodePiece c ∷ ps) zero b apart e =
    let same : c ≡ b = cc in
    cond-true (bytes_eq c.id b.id) (Some c) (find (λ (d : CodeBlock). bytes_eq d.id b.id) (filter_map code_of ps)) (same_id c.id b.id (ap (λ (d : CodeBlock). d.id) same)) ∙ ap (λ (d : CodeBlock). Some d) same
code_here (CodePiece c ∷ ps) (suc k) b apart e =
    cond-false (bytes_eq c.id b.id) (Some c) (find (λ (d : CodeBlock). bytes_eq d.id b.id) (filter_map code_of ps)) (other_id c.id b.id (has_id (λ later. c.id ≢ later) ps k (CodePiece b) b.id apart.0 e refl))
    ∙ code_here ps k b apart.1 e
code_here (DataPiece c ∷ ps) zero b apart e = cc
code_here (DataPiece c ∷ ps) (suc k) b apart e = code_here ps k b apart.1 e
code_here (Gap bytes ∷ ps) zero b apart e = cc
code_here (Gap bytes ∷ ps) (suc k) b apart e = code_here ps k b apart e

pub data_here : (ps : List Piece) (k : ℕ) (b : DataBlock) → AreApart (ids ps) → slice_get ps k ≡ Some (DataPiece b)
    → find (λ (c : DataBlock). bytes_eq c.id b.id) (filter_map data_of ps) ≡ Some b
data_here [] k b apart e = cc
data_here (DataPiece c ∷ ps) zero b apart e =
    let same : c ≡ b = cc in
    cond-true (bytes_eq c.id b.id) (Some c) (find (λ (d : DataBlock). bytes_eq d.id b.id) (filter_map data_of ps)) (same_id c.id b.id (ap (λ (d : DataBlock). d.id) same)) ∙ ap (λ (d : DataBlock). Some d) same
data_here (DataPiece c ∷ ps) (suc k) b apart e =
    cond-false (bytes_eq c.id b.id) (Some c) (find (λ (d : DataBlock). bytes_eq d.id b.id) (filter_map data_of ps)) (other_id c.id b.id (has_id (λ later. c.id ≢ later) ps k (DataPiece b) b.id apart.0 e refl))
    ∙ data_here ps k b apart.1 e
data_here (CodePiece c ∷ ps) zero b apart e = cc
data_here (CodePiece c ∷ ps) (suc k) b apart e = data_here ps k b apart.1 e
data_here (Gap bytes ∷ ps) zero b apart e = cc
data_here (Gap bytes ∷ ps) (suc k) b apart e = data_here ps k b apart e

pub behind_here : (ps : List Piece) (k : ℕ) (b : CodeBlock) → AreApart (ids ps) → slice_get ps k ≡ Some (CodePiece b) → behind b.id ps ≡ drop (suc k) ps
behind_here [] k b apart e = cc
behind_here (CodePiece c ∷ ps) zero b apart e =
    let same : c ≡ b = cc in
    cond-true (bytes_eq c.id b.id) ps (behind b.id ps) (same_id c.id b.id (ap (λ (d : CodeBlock). d.id) same))
behind_here (CodePiece c ∷ ps) (suc k) b apart e =
    cond-false (bytes_eq c.id b.id) ps (behind b.id ps) (other_id c.id b.id (has_id (λ later. c.id ≢ later) ps k (CodePiece b) b.id apart.0 e refl)) ∙ behind_here ps k b apart.1 e
behind_here (DataPiece c ∷ ps) zero b apart e = cc
behind_here (DataPiece c ∷ ps) (suc k) b apart e = behind_here ps k b apart.1 e
behind_here (Gap bytes ∷ ps) zero b apart e = cc
behind_here (Gap bytes ∷ ps) (suc k) b apart e = behind_here ps k b apart e

-- the offset behind a piece
abbrev next : ℕ → Piece → ℕ
next at p = least_from at (step_of p) 0 + new_size p

pub piece_placed : (at : ℕ) (ps : List Piece) (k : ℕ) (x : Placed) → slice_get (placed_from at ps) k ≡ Some x → slice_get ps k ≡ Some x.piece
piece_placed at [] k x e = cc
piece_placed at (p ∷ ps) zero x e =
    let same : record { at = least_from at (step_of p) 0; piece = p } ≡ x = cc in ap (λ (y : Placed). Some y.piece) same
piece_placed at (p ∷ ps) (suc k) x e = piece_placed (next at p) ps k x e

pub placed_here : (at : ℕ) (ps : List Piece) (k : ℕ) (b : CodeBlock) (x : Placed) → AreApart (ids ps) → slice_get (placed_from at ps) k ≡ Some x → x.piece ≡ CodePiece b
    → find (λ (y : Placed). is_code_piece b.id y.piece) (placed_from at ps) ≡ Some x
placed_here at [] k b x apart e is = cc
placed_here at (p ∷ ps) zero b x apart e is =
    let first : Placed = record { at = least_from at (step_of p) 0; piece = p } in
    let same : first ≡ x = cc in
    let code : p ≡ CodePiece b = ap (λ (y : Placed). y.piece) same ∙ is in
    cond-true (is_code_piece b.id p) (Some first) (find (λ (y : Placed). is_code_piece b.id y.piece) (placed_from (next at p) ps)) (ap (is_code_piece b.id) code ∙ same_id b.id b.id refl)
    ∙ ap (λ (y : Placed). Some y) same
placed_here at (CodePiece c ∷ ps) (suc k) b x apart e is =
    let p = CodePiece c in
    let there = piece_placed (next at p) ps k x e ∙ ap (λ (q : Piece). Some q) is in
    cond-false (bytes_eq c.id b.id) (Some (record { at = least_from at (step_of p) 0; piece = p })) (find (λ (y : Placed). is_code_piece b.id y.piece) (placed_from (next at p) ps))
    (other_id c.id b.id (has_id (λ later. c.id ≢ later) ps k (CodePiece b) b.id apart.0 there refl))
    ∙ placed_here (next at p) ps k b x apart.1 e is
placed_here at (DataPiece c ∷ ps) (suc k) b x apart e is = placed_here (next at (DataPiece c)) ps k b x apart.1 e is
placed_here at (Gap bytes ∷ ps) (suc k) b x apart e is = placed_here (next at (Gap bytes)) ps k b x apart e is

any_here : (ps : List Piece) (k : ℕ) (b : CodeBlock) → slice_get ps k ≡ Some (CodePiece b) → list_any (is_code_piece b.id) ps ≡ true
any_here [] k b e = cc
any_here (p ∷ ps) zero b e =
    let code : p ≡ CodePiece b = cc in
    ap (λ v. v || list_any (is_code_piece b.id) ps) (ap (is_code_piece b.id) code ∙ same_id b.id b.id refl)
any_here (p ∷ ps) (suc k) b e = ap (λ v. is_code_piece b.id p || v) (any_here ps k b e) ∙ or_true (is_code_piece b.id p)
  where
    or_true : (a : Bool) → (a || true) ≡ true
    or_true true = refl
    or_true false = refl

none_any : (ps : List Piece) (id : List ℕ) → AllByRecursion (λ a. a ≢ id) (ids ps) → list_any (is_code_piece id) ps ≡ false
none_any [] id all = refl
none_any (CodePiece c ∷ ps) id all = ap (λ v. v || list_any (is_code_piece id) ps) (other_id c.id id all.0) ∙ none_any ps id all.1
none_any (DataPiece c ∷ ps) id all = none_any ps id all.1
none_any (Gap bytes ∷ ps) id all = none_any ps id all

-- ---- among intervals

pub stretch_here : (ss : List Stretch) (i : ℕ) (s : Stretch) (k : ℕ) (b : CodeBlock) → AreApart (all_ids ss) → slice_get ss i ≡ Some s → slice_get s.pieces k ≡ Some (CodePiece b)
    → find (λ (t : Stretch). list_any (is_code_piece b.id) t.pieces) ss ≡ Some s
stretch_here [] i s k b apart e f = cc
stretch_here (t ∷ ss) zero s k b apart e f =
    let same : t ≡ s = cc in
    cond-true (list_any (is_code_piece b.id) t.pieces) (Some t) (find (λ (u : Stretch). list_any (is_code_piece b.id) u.pieces) ss)
    (ap (λ (u : Stretch). list_any (is_code_piece b.id) u.pieces) same ∙ any_here s.pieces k b f)
    ∙ ap (λ (u : Stretch). Some u) same
stretch_here (t ∷ ss) (suc i) s k b apart e f =
    let parts = pairs_parts (λ a later. a ≢ later) (ids t.pieces) (all_ids ss) apart in
    let others = all_through (λ a. AllByRecursion (λ later. a ≢ later) (all_ids ss)) (λ a. a ≢ b.id) (λ a all. has_id_in (λ later. a ≢ later) ss i s k (CodePiece b) b.id all e f refl) (ids t.pieces) parts.across in
    cond-false (list_any (is_code_piece b.id) t.pieces) (Some t) (find (λ (u : Stretch). list_any (is_code_piece b.id) u.pieces) ss) (none_any t.pieces b.id others)
    ∙ stretch_here ss i s k b parts.right e f

pub apart_in : (ss : List Stretch) (i : ℕ) (s : Stretch) → AreApart (all_ids ss) → slice_get ss i ≡ Some s → AreApart (ids s.pieces)
apart_in [] i s apart e = cc
apart_in (t ∷ ss) zero s apart e =
    let same : t ≡ s = cc in subst (λ (u : Stretch). AreApart (ids u.pieces)) same (pairs_parts (λ a later. a ≢ later) (ids t.pieces) (all_ids ss) apart).left
apart_in (t ∷ ss) (suc i) s apart e = apart_in ss i s (pairs_parts (λ a later. a ≢ later) (ids t.pieces) (all_ids ss) apart).right e

-- the index of a piece among all pieces
pub index_of : (ss : List Stretch) (i : ℕ) (s : Stretch) (k : ℕ) (p : Piece) → slice_get ss i ≡ Some s → slice_get s.pieces k ≡ Some p
    → (m : ℕ) × (slice_get (flat_map (λ (t : Stretch). t.pieces) ss) m ≡ Some p)
index_of [] i s k p e f = cc
index_of (t ∷ ss) zero s k p e f =
    let same : t ≡ s = cc in
    let there : slice_get t.pieces k ≡ Some p = ap (λ (u : Stretch). slice_get u.pieces k) same ∙ f in
    (k, at_front t.pieces (flat_map (λ (u : Stretch). u.pieces) ss) k p there)
index_of (t ∷ ss) (suc i) s k p e f =
    let rest = index_of ss i s k p e f in at_back t.pieces (flat_map (λ (u : Stretch). u.pieces) ss) rest.0 p rest.1
