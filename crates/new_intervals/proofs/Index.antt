-- Blocks by their identifiers, one spot more in front.
use Rattle.std.proofs.Common.{◌≡◌, ℕ, ◌-◌, ◌<◌, ◌≤◌, Bool, true, false, cond, List, length, get_or, drop, find, refl, sym, ap, ◌∙◌, arith}
use Rattle.std.proofs.lemmas.Option.{slice_get-get_or}
use Rattle.std.proofs.lemmas.Slice.Eq.{bytes_eq-Decides}
use Rattle.std.specs.Prelude.{Option, Some, slice_get}
use Rattle.std.specs.Option.{option_and_then, option_map}
use Rattle.std.specs.Str.{bytes_eq}
use Rattle.new_intervals.specs.Placed.{placed_all, placed_of}
use Rattle.new_intervals.specs.declared.spots.Spot.{Spot}
use Rattle.new_intervals.proofs.Walked.{split_before}
use Rattle.sym_expr.specs.Images.{is_block}
use Rattle.sym_expr.specs.Placing.{Placed}

-- two texts are the same in either order
pub same_back : (a b : List ℕ) → bytes_eq a b ≡ bytes_eq b a
same_back a b = at (bytes_eq a b) (bytes_eq b a) refl refl
  where
    at : (x y : Bool) → bytes_eq a b ≡ x → bytes_eq b a ≡ y → bytes_eq a b ≡ bytes_eq b a
    at true y h k = h ∙ sym ((bytes_eq-Decides b a).1 (sym ((bytes_eq-Decides a b).0 h)))
    at false true h k = (bytes_eq-Decides a b).1 (sym ((bytes_eq-Decides b a).0 k)) ∙ sym k
    at false false h k = h ∙ sym k

either : (t : Bool) (spots : List Spot) (at : ℕ) (x : Spot) (o : Option ℕ) (p : Option Placed) → slice_get spots at ≡ Some x → option_map placed_of (option_and_then (slice_get spots) o) ≡ p
    → option_map placed_of (option_and_then (slice_get spots) (cond t (Some at) o)) ≡ cond t (Some (placed_of x)) p
either true spots at x o p is h = ap (option_map placed_of) is
either false spots at x o p is h = h

pub spot_before : (spots : List Spot) (left : ℕ) (x : Spot) (id : List ℕ) (old new : Option ℕ) → 0 < left → left ≤ length spots → x ≡ get_or spots (left - 1) x
    → new ≡ cond (is_block id x.piece.now) (Some (left - 1)) old
    → option_map placed_of (option_and_then (slice_get spots) old) ≡ find (λ (y : Placed). is_block id y.piece) (placed_all (drop left spots))
    → option_map placed_of (option_and_then (slice_get spots) new) ≡ find (λ (y : Placed). is_block id y.piece) (placed_all (drop (left - 1) spots))
spot_before spots left x id old new some within is added h =
    let there : slice_get spots (left - 1) ≡ Some x = slice_get-get_or spots (left - 1) x (omega arith) ∙ ap Some (sym is) in
    ap (λ o. option_map placed_of (option_and_then (slice_get spots) o)) added
    ∙ either (is_block id x.piece.now) spots (left - 1) x old (find (λ (y : Placed). is_block id y.piece) (placed_all (drop left spots))) there h
    ∙ sym (ap (λ l. find (λ (y : Placed). is_block id y.piece) (placed_all l)) (split_before spots left x some within is))
