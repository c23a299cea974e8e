-- The expression at an offset, found among entries by offset.
use Rattle.std.proofs.Common.{◌≡◌, ℕ, Bool, true, false, cond, nat_eq, List, [], ◌∷◌, map, Option, Some, None, refl, sym, ap, ◌∙◌}
use Rattle.std.specs.Prelude.{find, unwrap_or, ◌==◌}
use Rattle.std.specs.Option.{option_map, option_map_or}
use Rattle.std.specs.Cmp.{nat_eq_equiv}
use Rattle.gt_model.specs.declared.exprs.Expr.{Expr}
use Rattle.gt_model.specs.declared.exprs.ExprValue.{ExprValue}
use Rattle.gt_model.specs.declared.exprs.ExprValue.TheVariants as values
use Rattle.gt_model.specs.declared.intervals.Interval.{Interval}
use Rattle.asm_print.specs.Items.{value_in}
use Rattle.asm_print.specs.Marking.{expr_entry}
use Rattle.asm_print.specs.Names.{value_at}

one_more : (b : Bool) (e : Expr) (found : Option (ℕ × ExprValue)) (there : Option Expr) → unwrap_or (option_map (λ (x : ℕ × ExprValue). x.1) found) values.Nothing ≡ option_map_or (λ (x : Expr). x.value) there values.Nothing
    → unwrap_or (option_map (λ (x : ℕ × ExprValue). x.1) (cond b (Some (expr_entry e)) found)) values.Nothing ≡ option_map_or (λ (x : Expr). x.value) (cond b (Some e) there) values.Nothing
one_more true e found there h = refl
one_more false e found there h = h

among : (at : ℕ) (es : List Expr) → unwrap_or (value_at nat_eq at (map expr_entry es)) values.Nothing ≡ option_map_or (λ (x : Expr). x.value) (find (λ (x : Expr). at == x.at) es) values.Nothing
among at [] = refl
among at (e ∷ es) =
    one_more (nat_eq e.at at) e (find (λ (x : ℕ × ExprValue). nat_eq x.0 at) (map expr_entry es)) (find (λ (x : Expr). at == x.at) es) (among at es)
    ∙ ap (λ b. option_map_or (λ (x : Expr). x.value) (cond b (Some e) (find (λ (x : Expr). at == x.at) es)) values.Nothing) (nat_eq_equiv.symm e.at at)

pub value_found : (i : Interval) (at : ℕ) → unwrap_or (value_at nat_eq at (map expr_entry i.exprs)) values.Nothing ≡ value_in i at
value_found i at = among at i.exprs
