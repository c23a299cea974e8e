-- Each expression of a loaded interval stands in it.
use Rattle.std.proofs.Common.{◌≡◌, ℕ, ◌<◌, ◌≤◌, Bool, true, false, not, List, [], Option, Some, None, refl, ap, subst, arith}
use Rattle.std.specs.Prelude.{if◌then◌else◌, nat_le, nat_lt}
use Rattle.std.specs.List.{flat_map}
use Rattle.std.specs.Option.{option_map, option_map_or}
use Rattle.std.proofs.lemmas.Bool.{and_parts, false_from_ne_true, false≢true, ltb-false, ltb-true}
use Rattle.gt_model.specs.declared.exprs.Expr.{Expr}
use Rattle.gt_model.specs.declared.intervals.Block.{Block}
use Rattle.gt_model.specs.declared.intervals.Interval.{Interval}
use Rattle.gt_model.specs.declared.ir.Ir.{Ir}
use Rattle.gt_model.specs.declared.modules.Module.{Module}
use Rattle.sym_expr.specs.Expressions.{BadOperand, BadTarget, expr_fault, ExprFault, fits_block, home, interval_faults, is_operand, names_bad, symbol_aim, word_or_none}
use Rattle.sym_expr.specs.Linkable.{blocks_outside, formed, passes}
use Rattle.sym_expr.specs.Modules.{covers, end_of, in_order, loaded_intervals}
use Rattle.sym_expr.specs.Tables.{expr_size, Tables}
use Rattle.repaired_images.proofs.Homes.{out_order}
use Rattle.repaired_images.proofs.Lists.{found_in, In, in_filter, in_filter_map, in_flat}

some_home : (o : Option Block) (f : Block → Bool) → option_map_or f o false ≡ true → (b : Block) × (o ≡ Some b)
some_home None f h = absurd (false≢true h)
some_home (Some b) f h = (b, refl)

-- no fault, where the expression may stand
is_good : (x y : Bool) → (if not x then Some BadOperand else if y then Some BadTarget else None) ≡ None → x ≡ true
is_good true y h = refl
is_good false y h = absurd (some_not BadOperand h)
  where
    some_not : (f : ExprFault) → ◌≡◌ {A = Option ExprFault} (Some f) None → ⊥
    some_not f e = cc

none_of : {X : Type 0} (xs : List X) → xs ≡ [] → (x : X) → In x xs → ⊥
none_of xs e x k = subst (In x) e k

fault_none : (o : Option ExprFault) → ((f : ExprFault) → o ≡ Some f → ⊥) → o ≡ None
fault_none None h = refl
fault_none (Some f) h = absurd (h f refl)

module _ (ir : Ir) (m : Module) (t : Tables) (h : formed ir m t) (i : Interval) (k : In i (loaded_intervals m)) where
  no_fault : (e : Expr) → In e i.exprs → expr_fault (symbol_aim m) (expr_size t i.uuid) i e ≡ None
  no_fault e l =
      fault_none (expr_fault (symbol_aim m) (expr_size t i.uuid) i e)
      (λ f q.
      none_of (flat_map (interval_faults m t) (loaded_intervals m)) h.faultless.exprs (e.at, f)
      (in_flat (interval_faults m t) i (e.at, f) (loaded_intervals m) k
      (in_filter_map (λ (e : Expr). option_map (λ fault. (e.at, fault)) (expr_fault (symbol_aim m) (expr_size t i.uuid) i e)) e (e.at, f) i.exprs l (ap (option_map (λ fault. (e.at, fault))) q))))

  block_inside : (b : Block) → In b i.blocks → end_of b ≤ i.size
  block_inside b l =
      ltb-false i.size (end_of b)
      (false_from_ne_true (passes i.size b) (λ e. none_of (flat_map blocks_outside (loaded_intervals m)) h.faultless.inside b (in_flat blocks_outside i b (loaded_intervals m) k (in_filter (passes i.size) b i.blocks e l))))

  pub expr_inside : (e : Expr) → In e i.exprs → e.at < i.size
  expr_inside e l =
      let size : ℕ → ℕ = expr_size t i.uuid in
      let stands : is_operand size i e ≡ true = is_good (is_operand size i e) (names_bad (symbol_aim m) (size e.at) (word_or_none i e) e.value) (no_fault e l) in
      let b = some_home (home i e.at) (fits_block size i e) stands in
      let found = found_in (covers e.at) b.0 (in_order i.blocks) b.1 in
      let most = block_inside b.0 (out_order b.0 i.blocks found.0) in
      let lt : e.at < end_of b.0 = ltb-true e.at (end_of b.0) (and_parts (nat_le b.0.offset e.at) (nat_lt e.at (end_of b.0)) found.1).1 in
      omega (arith, most, lt)
