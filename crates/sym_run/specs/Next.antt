-- What a machine comes to next.
use Rattle.std.specs.Prelude.{ℕ, List, Option, Some, None}
use Rattle.std.specs.Option.{option_and_then, option_map, option_map_or}
use Rattle.sym_expr.specs.declared.point.Point.{Point}
use Rattle.sym_expr.specs.declared.program.Program.{Program}
use Rattle.sym_expr.specs.declared.program.Stretch.{Stretch}
use Rattle.sym_expr.specs.declared.program.Word.{Word}
use Rattle.sym_expr.specs.declared.target.Target.{Target}
use Rattle.sym_expr.specs.declared.target.Target.TheVariants.{Code}
use Rattle.sym_expr.specs.Points.{reached, stretch_of, word_at}
use Rattle.sym_run.specs.declared.report.Next.{Next}

-- the point of code that a target is, if it is one
abbrev pub code_in : Target → Option Point
code_in (Code p) = Some p
code_in _ = None

-- the point of code that the expression of the word at a point names, if it names one
abbrev pub named_at : Program → Point → Option Point
named_at g at = option_and_then (λ (w : Word). option_and_then code_in w.target) (word_at g at)

-- the interval of a code block; one that there is not stands for itself
abbrev pub interval_of : Program → List ℕ → List ℕ
interval_of g block = option_map_or (λ (s : Stretch). s.id) (stretch_of g block) block

-- at the point that has the next word, or the last one reached where there is none
abbrev pub next_in : Program → Point → Next
next_in g at = record {
  point = at;
  word = option_map (λ (w : Word). w.word) (word_at g at);
  from = interval_of g at.block;
  to = option_map (λ (p : Point). interval_of g p.block) (named_at g at);
  target = named_at g at;
}

-- what a machine at a place comes to next
abbrev pub next_at : Program → Point → Next
next_at g place = next_in g (reached g place)
