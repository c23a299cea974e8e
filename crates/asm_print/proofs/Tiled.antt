-- Where the pieces of an interval end.
use Rattle.std.proofs.Common.{◌≡◌, ℕ, suc, ◌+◌, ◌*◌, ◌%◌, ◌<◌, ◌≤◌, List, [], ◌∷◌, length, get_or, drop, refl, sym, ap, subst, ◌∙◌, arith, drop-cons}
use Rattle.sym_expr.specs.declared.program.Piece.{Piece}
use Rattle.sym_expr.specs.Layouts.{least_from}
use Rattle.sym_expr.specs.Placing.{end_from, new_size, step_of}

pub ends_behind : (at : ℕ) (ps : List Piece) → at ≤ end_from at ps
ends_behind at [] = omega arith
ends_behind at (p ∷ ps) = let rest = ends_behind (least_from at (step_of p) 0 + new_size p) ps in omega arith

-- a piece ends at the end of all or before it
pub ends_before : (at i total : ℕ) (ps items : List Piece) (p : Piece) → items ≡ ps → i < length items → p ≡ get_or items i p → end_from at (drop i ps) ≡ total
    → least_from at (step_of p) 0 + new_size p ≤ total
ends_before at i total ps items p same there found ends =
    let within : i < length ps = subst (λ (xs : List Piece). i < length xs) same there in
    let is : p ≡ get_or ps i p = subst (λ (xs : List Piece). p ≡ get_or xs i p) same found in
    let parts : drop i ps ≡ p ∷ drop (suc i) ps = drop-cons ps i p within ∙ ap (λ q. q ∷ drop (suc i) ps) (sym is) in
    let whole : end_from (least_from at (step_of p) 0 + new_size p) (drop (suc i) ps) ≡ total = sym (ap (end_from at) parts) ∙ ends in
    let rest = ends_behind (least_from at (step_of p) 0 + new_size p) (drop (suc i) ps) in
    omega arith
