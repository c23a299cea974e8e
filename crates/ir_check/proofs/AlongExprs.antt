-- The check along the expressions of an interval finds what is wrong with each.
use Rattle.std.proofs.Common.{◌≡◌, ℕ, zero, suc, ◌+◌, ◌<◌, ◌≤◌, Bool, true, false, cond, nat_le, ◌&&◌, not, List, [], ◌∷◌, drop, length, get_or, Option, None, Some, refl, sym, ap, ◌∙◌, arith}
use Rattle.std.specs.Option.{option_map, option_map_or, option_or}
use Rattle.std.proofs.lemmas.Bool.{leb-true, ltb-true}
use Rattle.gt_model.specs.declared.exprs.Expr.{Expr}
use Rattle.gt_model.specs.declared.intervals.Block.{Block}
use Rattle.gt_model.specs.declared.intervals.Interval.{Interval}
use Rattle.gt_model.specs.Ordered.{ordered_exprs}
use Rattle.ir_check.specs.Along.{fits_along, fits_data_along, word_along, fault_along, meets_next}
use Rattle.ir_check.specs.Faults.{fault_of, flag_fault, named_fault}
use Rattle.ir_check.specs.declared.profile.Plain.{Plain}
use Rattle.ir_check.proofs.FoundBlocks.{found_holds}
use Rattle.ir_check.proofs.Sharing.{Ascending, Behind, ascending, ascending_from, only_later, shares_next}
use Rattle.sym_expr.specs.declared.aim.Aim.{Aim}
use Rattle.sym_expr.specs.Expressions.{fits_block, fits_code, fits_data, has_data_form, is_shared, home, names_bad, BadOperand, BadTarget}
use Rattle.sym_expr.specs.Modules.{covers, end_of, in_order, is_code}

begins_by : (at : ℕ) (b : Block) → covers at b ≡ true → b.offset ≤ at
begins_by at b e = grind (arith, leb-true, ltb-true)

behind_rest : (es : List Expr) (k : ℕ) (d : Expr) → Ascending es → k < length es → Behind (get_or es k d).at (drop (suc k) es)
behind_rest [] k d up within = absurd (omega arith)
behind_rest (e ∷ es) zero d up within = up.0
behind_rest (e ∷ es) (suc k) d up within = behind_rest es k d up.1 (omega arith)

under : (p q r s : Bool) → (q ≡ true → r ≡ s) → (p && (q && not r)) ≡ (p && (q && not s))
under p true r s e = ap (λ (t : Bool). p && not t) (e refl)
under p false r s e = refl

module _ (size : ℕ → ℕ) (i : Interval) (k : ℕ) (d : Expr) (sorted : ordered_exprs i.exprs) (within : k < length i.exprs) where
  abbrev e : Expr
  e = get_or i.exprs k d

  abbrev rest : List Expr
  rest = drop (suc k) i.exprs

  data_same : (b : Block) → covers e.at b ≡ true → fits_data_along size e rest b ≡ fits_data size i b e
  data_same b has =
      under (has_data_form (size e.at) e.value) (nat_le (e.at + size e.at) (end_of b)) (meets_next size (e.at + size e.at) rest) (is_shared size i b e)
      (λ inside. sym (only_later size b i.exprs k d (ascending i.exprs sorted) within ∙ shares_next size b e rest (begins_by e.at b has) (leb-true (e.at + size e.at) (end_of b) inside) (behind_rest i.exprs k d (ascending i.exprs sorted) within) (ascending_from i.exprs (suc k) (ascending i.exprs sorted))))

  fits_same : (o : Option Block) → home i e.at ≡ o → option_map_or (fits_along size i e rest) o false ≡ option_map_or (fits_block size i e) o false
  fits_same None is = refl
  fits_same (Some b) is = ap (λ (t : Bool). cond (is_code b) (fits_code i e) t) (data_same b (found_holds (covers e.at) (in_order i.blocks) b is))

  pub fault_same : (allowed : Plain) (aim : List ℕ → Aim) → fault_along allowed aim size i e rest (home i e.at) ≡ fault_of allowed aim size i e
  fault_same allowed aim =
      ap (λ (t : Bool). option_or (flag_fault allowed i e) (option_map (named_fault i e) (cond (not t) (Some BadOperand) (cond (names_bad aim (size e.at) (word_along i e (home i e.at)) e.value) (Some BadTarget) None))))
      (fits_same (home i e.at) refl)
