-- Steps of the loops over pieces and intervals that keep blocks.
use Rattle.std.proofs.Common.{◌≡◌, ℕ, ◌+◌, ◌<◌, ◌≤◌, Option, List, [], ◌∷◌, ◌++◌, length, get_or, drop, sym, ap, subst, ◌∙◌, append_assoc}
use Rattle.std.specs.List.{flat_map}
use Rattle.std.proofs.lemmas.List.{append-nil, drop_all}
use Rattle.sym_expr.specs.declared.layout.Layout.{Layout}
use Rattle.sym_expr.specs.declared.program.Piece.{Piece}
use Rattle.sym_expr.specs.declared.program.Stretch.{Stretch}
use Rattle.sym_expr.specs.Images.{addressed}
use Rattle.sym_expr.specs.Layouts.{address_of}
use Rattle.sym_expr.specs.Placing.{Placed, new_size, placed, placed_from}
use Rattle.link_image.specs.declared.blocks.BlockAt.{BlockAt}
use Rattle.link_image.specs.Ready.{KeepsAll, shifted}
use Rattle.link_image.proofs.Intervals.{next_at}
use Rattle.link_image.proofs.Lists.{dropped}

-- what is kept behind others of what all are
abbrev pub KeptOf : List Placed → List Placed → List Placed → (List ℕ → Option BlockAt) → Type 0
KeptOf before left all kept = (front : List Placed) × KeepsAll (before ++ front) kept × (front ++ left ≡ all)

pub piece_kept : (start : ℕ) (ps : List Piece) (i end : ℕ) (p : Piece) (at size : ℕ) (before all : List Placed) (old new : List ℕ → Option BlockAt) → i < length ps → p ≡ get_or ps i p
    → at ≡ next_at end p → size ≡ new_size p → ((xs : List Placed) → KeepsAll xs old → KeepsAll (xs ++ record { at = start + at; piece = p } ∷ []) new)
    → KeptOf before (shifted start (placed_from end (drop i ps))) all old → KeptOf before (shifted start (placed_from (at + size) (drop (i + 1) ps))) all new
piece_kept start ps i end p at size before all old new lt is at_is size_is added h =
    let x : Placed = record { at = start + at; piece = p } in
    let here : shifted start (placed_from end (drop i ps)) ≡ x ∷ shifted start (placed_from (at + size) (drop (i + 1) ps)) =
    ap (λ qs. shifted start (placed_from end qs)) (dropped ps i p lt is)
    ∙ ap (λ (a : ℕ). record { at = start + a; piece = p } ∷ shifted start (placed_from (a + new_size p) (drop (i + 1) ps))) (sym at_is)
    ∙ ap (λ n. x ∷ shifted start (placed_from (at + n) (drop (i + 1) ps))) (sym size_is) in (
      h.0 ++ x ∷ [],
      subst (λ xs. KeepsAll xs new) (append_assoc before h.0 (x ∷ [])) (added (before ++ h.0) h.1),
      append_assoc h.0 (x ∷ []) (shifted start (placed_from (at + size) (drop (i + 1) ps))) ∙ ap (λ ys. h.0 ++ ys) (sym here) ∙ h.2,
    )

-- once no piece is left
pub all_kept : (start : ℕ) (ps : List Piece) (i end : ℕ) (before all : List Placed) (kept : List ℕ → Option BlockAt) → length ps ≤ i
    → KeptOf before (shifted start (placed_from end (drop i ps))) all kept → KeepsAll (before ++ all) kept
all_kept start ps i end before all kept done h =
    let none : shifted start (placed_from end (drop i ps)) ≡ [] = ap (λ qs. shifted start (placed_from end qs)) (drop_all i ps done) in
    let whole : h.0 ≡ all = sym (append-nil h.0) ∙ ap (λ xs. h.0 ++ xs) (sym none) ∙ h.2 in
    subst (λ xs. KeepsAll (before ++ xs) kept) whole h.1

-- what is kept of the intervals that are done
abbrev pub DoneOf : List Placed → List Placed → (List ℕ → Option BlockAt) → Type 0
DoneOf left all kept = (front : List Placed) × KeepsAll front kept × (front ++ left ≡ all)

pub stretch_kept : (l : Layout) (ss : List Stretch) (i : ℕ) (s : Stretch) (start : ℕ) (all : List Placed) (old new : List ℕ → Option BlockAt) → i < length ss → s ≡ get_or ss i s → start ≡ address_of l s.id
    → ((xs : List Placed) → KeepsAll xs old → KeepsAll (xs ++ shifted start (placed s)) new)
    → DoneOf (flat_map (addressed l) (drop i ss)) all old → DoneOf (flat_map (addressed l) (drop (i + 1) ss)) all new
stretch_kept l ss i s start all old new lt is at added h =
    let here : flat_map (addressed l) (drop i ss) ≡ shifted start (placed s) ++ flat_map (addressed l) (drop (i + 1) ss) =
    ap (flat_map (addressed l)) (dropped ss i s lt is) ∙ ap (λ a. shifted a (placed s) ++ flat_map (addressed l) (drop (i + 1) ss)) (sym at) in (
      h.0 ++ shifted start (placed s),
      added h.0 h.1,
      append_assoc h.0 (shifted start (placed s)) (flat_map (addressed l) (drop (i + 1) ss)) ∙ ap (λ ys. h.0 ++ ys) (sym here) ∙ h.2,
    )
