-- The order of expressions and tables: each key is below those after it, so keys are distinct.
use Rattle.std.specs.Prelude.{List, map}
use Rattle.std.specs.Ordering.{nat_cmp}
use Rattle.std.specs.Cmp.Lexicographic.{slice_cmp}
use Rattle.std.specs.List.{AllByRecursion}
use Rattle.std.specs.List.Sorted.{IsStrictlySortedBy}
use Rattle.gt_model.specs.declared.exprs.Expr.{Expr}
use Rattle.gt_model.specs.declared.intervals.Interval.{Interval}
use Rattle.gt_model.specs.declared.ir.Ir.{Ir}
use Rattle.gt_model.specs.declared.modules.Module.{Module}
use Rattle.gt_model.specs.declared.modules.Section.{Section}
use Rattle.gt_model.specs.declared.tables.Aux.{Aux}

-- expressions ascend by their offset
abbrev pub ordered_exprs : List Expr → Type 0
ordered_exprs exprs = IsStrictlySortedBy nat_cmp (map (λ (e : Expr). e.at) exprs)

-- tables ascend by the bytes of their name
abbrev pub ordered_aux : List Aux → Type 0
ordered_aux aux = IsStrictlySortedBy (slice_cmp nat_cmp) (map (λ (a : Aux). a.name) aux)

pub record ordered_interval (i : Interval) : Type 0 where
  pub exprs : ordered_exprs i.exprs

pub record ordered_section (s : Section) : Type 0 where
  pub intervals : AllByRecursion ordered_interval s.intervals

pub record ordered_module (m : Module) : Type 0 where
  pub sections : AllByRecursion ordered_section m.sections
  pub aux : ordered_aux m.aux

pub record ordered (ir : Ir) : Type 0 where
  pub modules : AllByRecursion ordered_module ir.modules
  pub aux : ordered_aux ir.aux
