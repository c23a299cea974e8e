-- The expressions of each loaded interval rise by their offsets.
use Rattle.std.proofs.Common.{◌≡◌, ℕ, ◌<◌, ◌≤◌, Bool, true, false, List, [], ◌∷◌, map, refl, cond, Less, Equal, Greater, nat_cmp, arith}
use Rattle.std.specs.Prelude.{◌==◌, nat_lt}
use Rattle.std.specs.List.{AllByRecursion as Every}
use Rattle.std.specs.List.Sorted.{IsStrictlySortedBy}
use Rattle.std.proofs.lemmas.Bool.{ltb-true}
use Rattle.gt_model.specs.declared.exprs.Expr.{Expr}
use Rattle.gt_model.specs.declared.intervals.Interval.{Interval}
use Rattle.gt_model.specs.declared.ir.Ir.{Ir}
use Rattle.gt_model.specs.declared.modules.Module.{Module}
use Rattle.gt_model.specs.declared.modules.Section.{Section}
use Rattle.gt_model.specs.Ordered.{ordered_exprs, ordered_interval, ordered_module, ordered_section}
use Rattle.sym_expr.specs.Linkable.{formed}
use Rattle.sym_expr.specs.Modules.{is_loaded, loaded_intervals, loaded_sections}
use Rattle.sym_expr.specs.Tables.{Tables}
use Rattle.repaired_programs.proofs.Covered.{Rises}
use Rattle.repaired_programs.proofs.Lists.{every_contained, every_filter, every_flat, every_unmap, every_weaker}

not_less : (b : Bool) → cond b Equal Greater ≡ Less → ⊥
not_less true e = cc
not_less false e = cc

less_if : (a b : ℕ) (x : Bool) → nat_lt a b ≡ x → cond x Less (cond (a == b) Equal Greater) ≡ Less → a < b
less_if a b true h e = ltb-true a b h
less_if a b false h e = absurd (not_less (a == b) e)

rises_of : (es : List Expr) → ordered_exprs es → Rises es
unfolding IsStrictlySortedBy
rises_of [] h = tt
rises_of (e ∷ es) h = (
  every_weaker (λ (f : Expr). nat_cmp e.at f.at ≡ Less) (λ (f : Expr). e.at ≤ f.at) (λ f q. let lt = less_if e.at f.at (nat_lt e.at f.at) refl q in omega (arith, lt)) es
      (every_unmap (λ (f : Expr). f.at) (λ y. nat_cmp e.at y ≡ Less) es h.0),
  rises_of es h.1,
)

abbrev pub ExprsRise : Interval → Type 0
ExprsRise i = Rises i.exprs

pub all_rise : (ir : Ir) (m : Module) (t : Tables) → formed ir m t → Every ExprsRise (loaded_intervals m)
all_rise ir m t h =
    every_flat (λ (s : Section). s.intervals) ExprsRise (loaded_sections m)
    (every_weaker ordered_section (λ (s : Section). Every ExprsRise s.intervals) (λ s l. every_weaker ordered_interval ExprsRise (λ i k. rises_of i.exprs k.exprs) s.intervals l.intervals) (loaded_sections m)
    (every_filter is_loaded ordered_section m.sections (every_contained ordered_module ir.modules m h.in_order.modules h.member).sections))
