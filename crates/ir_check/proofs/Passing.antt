-- A module in which the checks find nothing has a program.
use Rattle.std.proofs.Common.{◌≡◌, ℕ, ◌^◌, Bool, true, false, cond, List, [], ◌∷◌, ◌++◌, Option, None, Some, Ok, refl, ap, ◌∙◌}
use Rattle.std.specs.Prelude.{Contains}
use Rattle.std.specs.List.{flat_map, filter_map, cons_option}
use Rattle.std.specs.Option.{option_map}
use Rattle.std.proofs.lemmas.Bool.{ltb-false}
use Rattle.aux_tables.specs.ModuleTables.{tables_of}
use Rattle.gt_model.specs.Linked.{well_linked}
use Rattle.gt_model.specs.Ordered.{ordered}
use Rattle.gt_model.specs.declared.exprs.Expr.{Expr}
use Rattle.gt_model.specs.declared.intervals.Interval.{Interval}
use Rattle.gt_model.specs.declared.ir.Ir.{Ir}
use Rattle.gt_model.specs.declared.modules.Module.{Module}
use Rattle.ir_check.specs.Faults.{first, check_fault, not_a64, thread_local, large, contents_long, block_outside, overlap, code_align, no_entry, aux_faults, bad_places, faults_of_exprs, faults_in, fault_of, flag_fault, named_fault}
use Rattle.ir_check.specs.Report.{checked, unless, report_of}
use Rattle.ir_check.specs.declared.profile.Plain.{Plain}
use Rattle.ir_check.specs.declared.profile.Profile.{Profile}
use Rattle.ir_check.specs.declared.report.CheckReport.{CheckReport}
use Rattle.ir_check.proofs.First.{or_none}
use Rattle.node_arena.specs.declared.fault.CheckFault.{CheckFault}
use Rattle.sym_expr.specs.Expressions.{expr_fault, expr_faults, interval_faults, symbol_aim, ExprFault}
use Rattle.sym_expr.specs.Linkable.{linkable, IsFaultless, total_size, is_entered}
use Rattle.sym_expr.specs.Modules.{loaded_intervals}
use Rattle.sym_expr.specs.Tables.{Tables, expr_size}

nothing_wrong : (report found : CheckReport) (o : Option CheckFault) → unless report o ≡ Ok found → o ≡ None
nothing_wrong report found None e = refl
nothing_wrong report found (Some f) e = absurd cc

empty_first : {A : Type 0} (xs : List A) → first xs ≡ None → xs ≡ []
empty_first [] e = refl
empty_first (x ∷ xs) e = absurd cc

none_mapped : {A B : Type 0} (f : A → B) (o : Option A) → option_map f o ≡ None → o ≡ None
none_mapped f None e = refl
none_mapped f (Some x) e = absurd cc

-- nothing is the first of a list that is made into something
empty_of : {A B : Type 0} (f : A → B) (xs : List A) → option_map f (first xs) ≡ None → xs ≡ []
empty_of f xs e = empty_first xs (none_mapped f (first xs) e)

not_if : {A : Type 0} (b : Bool) (x : A) → cond b (Some x) None ≡ None → b ≡ false
not_if true x e = absurd cc
not_if false x e = refl

true_if : {A : Type 0} (b : Bool) (x : A) → cond b None (Some x) ≡ None → b ≡ true
true_if true x e = refl
true_if false x e = absurd cc

both_empty : {A : Type 0} (xs ys : List A) → xs ++ ys ≡ [] → (xs ≡ []) × (ys ≡ [])
both_empty [] ys e = (refl, e)
both_empty (x ∷ xs) ys e = absurd cc

cons_empty : {A : Type 0} (o : Option A) (xs : List A) → cons_option o xs ≡ [] → (o ≡ None) × (xs ≡ [])
cons_empty None xs e = (refl, e)
cons_empty (Some x) xs e = absurd cc

flat_empty : {X A B : Type 0} (f : X → List A) (h : X → List B) → ((x : X) → f x ≡ [] → h x ≡ []) → (xs : List X) → flat_map f xs ≡ [] → flat_map h xs ≡ []
flat_empty f h each [] e = refl
flat_empty {X} {A} {B} f h each (x ∷ xs) e =
    let parts = both_empty (f x) (flat_map f xs) e in
    ap (λ (ys : List B). ys ++ flat_map h xs) (each x parts.0) ∙ flat_empty f h each xs parts.1

map_empty : {X A B : Type 0} (f : X → Option A) (h : X → Option B) → ((x : X) → f x ≡ None → h x ≡ None) → (xs : List X) → filter_map f xs ≡ [] → filter_map h xs ≡ []
map_empty f h each [] e = refl
map_empty {X} {A} {B} f h each (x ∷ xs) e =
    let parts = cons_empty (f x) (filter_map f xs) e in
    ap (λ (o : Option B). cons_option o (filter_map h xs)) (each x parts.0) ∙ map_empty f h each xs parts.1

fault_none : (allowed : Plain) (m : Module) (t : Tables) (i : Interval) (e : Expr) → fault_of allowed (symbol_aim m) (expr_size t i.uuid) i e ≡ None → option_map {U = ℕ × ExprFault} (λ (fault : ExprFault). (e.at, fault)) (expr_fault (symbol_aim m) (expr_size t i.uuid) i e) ≡ None
fault_none allowed m t i e none =
    let parts = or_none (flag_fault allowed i e) (option_map (named_fault i e) (expr_fault (symbol_aim m) (expr_size t i.uuid) i e)) none in
    ap (option_map {U = ℕ × ExprFault} (λ (fault : ExprFault). (e.at, fault))) (none_mapped (named_fault i e) (expr_fault (symbol_aim m) (expr_size t i.uuid) i e) parts.1)

no_faults : (allowed : Plain) (m : Module) (t : Tables) → faults_of_exprs allowed m t ≡ [] → expr_faults m t ≡ []
no_faults allowed m t e =
    flat_empty (faults_in allowed m t) (interval_faults m t) (λ (i : Interval).
    map_empty (fault_of allowed (symbol_aim m) (expr_size t i.uuid) i) (λ (e : Expr). option_map {U = ℕ × ExprFault} (λ (fault : ExprFault). (e.at, fault)) (expr_fault (symbol_aim m) (expr_size t i.uuid) i e)) (fault_none allowed m t i) i.exprs)
    (loaded_intervals m) e

faultless : (profile : Profile) (m : Module) → check_fault profile m ≡ None → IsFaultless (2 ^ 24) m (tables_of m)
faultless profile m none =
    let a = or_none (not_a64 profile m) _ none in
    let b = or_none (thread_local m) _ a.1 in
    let c = or_none (large m) _ b.1 in
    let d = or_none (contents_long m) _ c.1 in
    let e = or_none (block_outside m) _ d.1 in
    let f = or_none (overlap m) _ e.1 in
    let g = or_none (code_align m) _ f.1 in
    let h = or_none (no_entry m) _ g.1 in
    let i = or_none (first (aux_faults m.aux)) _ h.1 in
    let j = or_none (first (bad_places (loaded_intervals m) m.aux)) (first (faults_of_exprs profile.plain m (tables_of m))) i.1 in
    record {
      no_thread_local = empty_of _ _ b.0;
      small = ltb-false (2 ^ 24) (total_size (loaded_intervals m)) (not_if _ _ c.0);
      no_long = empty_of _ _ d.0;
      inside = empty_of _ _ e.0;
      apart = empty_of _ _ f.0;
      straight = empty_of _ _ g.0;
      entered = true_if (is_entered m) _ h.0;
      exprs = no_faults profile.plain m (tables_of m) (empty_first _ j.1);
    }

pub has_program : (profile : Profile) (ir : Ir) (m : Module) (report : CheckReport) → checked profile ir m ≡ Ok report → well_linked ir → ordered ir → Contains ir.modules m → linkable ir m (tables_of m)
has_program profile ir m report passed links sorted among =
    record { linked = links; in_order = sorted; member = among; faultless = faultless profile m (nothing_wrong (report_of ir m) report (check_fault profile m) passed) }
