-- Worked runs of symbolic machines: evaluated, and cited by nothing.
use Rattle.std.proofs.Common.{refl, ◌≡◌}
use Rattle.std.specs.Prelude.{ℕ, List, [], ◌∷◌}
use Rattle.a64_inst.specs.Domain.{exit}
use Rattle.a64_inst.specs.Rows.{table as rows}
use Rattle.a64_inst.specs.Runs.{Standing, over, halted, Run, onward, unbegun}
use Rattle.gt_model.specs.declared.intervals.Body.TheVariants as bodies
use Rattle.gt_model.specs.declared.intervals.Interval.{Interval}
use Rattle.gt_model.specs.declared.modules.Section.{Section}
use Rattle.sym_expr.specs.declared.cause.Cause.{Cause}
use Rattle.sym_expr.specs.declared.cause.Cause.TheVariants as causes
use Rattle.sym_expr.specs.declared.point.Point.{Point}
use Rattle.sym_expr.specs.Patches.{no_patches}
use Rattle.sym_expr.specs.Points.{reached}
use Rattle.sym_expr.specs.declared.program.Program.{Program}
use Rattle.sym_expr.specs.Program.{program}
use Rattle.sym_expr.specs.States.{State, start}
use Rattle.sym_expr.specs.Steps.{step}
use Rattle.sym_expr.specs.Tables.{no_tables}
use Rattle.sym_expr.proofs.WorkedImages.{u, hello, text, table, table_sizes, hints}

-- how a run of a program stands after so many steps
pub record Seen : Type 0 where
  pub done : ℕ
  pub standing : Standing Cause
  pub output : List ℕ
  pub at : Point

abbrev pub seen_of : Program → Run Cause State → Seen
seen_of g r = record { done = r.done; standing = r.standing; output = r.state.output; at = reached g r.state.place }

unfoldable pub seen : Program → ℕ → Seen
unfolding onward
seen g n = seen_of g (onward (step g) n (unbegun (start g 4096 [])))

hello_runs : seen (program hello no_tables no_patches) 9 ≡ record { done = 9; standing = over (exit 0); output = 0x68 ∷ 0x69 ∷ 0x0a ∷ []; at = record { block = u 5; offset = 32; j = 0 } }
unfolding seen onward step rows
hello_runs = refl

-- the first section has another interval
abbrev pub with_text : Interval → List Section → List Section
with_text i [] = []
with_text i (s ∷ rest) = record s { intervals = i ∷ [] } ∷ rest

-- a mask of an address has no meaning
abbrev pub masked : Interval
masked = record text {
  blocks = record { offset = 0; body = bodies.Code (u 5) 40 0 } ∷ [];
  size = 40;
  contents = 0x20 ∷ 0x00 ∷ 0x80 ∷ 0xd2 ∷ 0x01 ∷ 0x00 ∷ 0x00 ∷ 0x90 ∷ 0x21 ∷ 0x00 ∷ 0x00 ∷ 0x91 ∷ 0x21 ∷ 0xec ∷ 0x7c ∷ 0x92 ∷ 0x62 ∷ 0x00 ∷ 0x80 ∷ 0xd2 ∷ 0x08 ∷ 0x08 ∷ 0x80 ∷ 0xd2 ∷ 0x01 ∷ 0x00 ∷ 0x00 ∷ 0xd4 ∷ 0x00 ∷ 0x00 ∷ 0x80 ∷ 0xd2 ∷ 0xa8 ∷ 0x0b ∷ 0x80 ∷ 0xd2 ∷ 0x01 ∷ 0x00 ∷ 0x00 ∷ 0xd4 ∷ [];
}

mask_is_stuck : seen (program (record hello { sections = with_text masked hello.sections }) no_tables no_patches) 9
    ≡ record { done = 3; standing = halted causes.Value; output = []; at = record { block = u 5; offset = 12; j = 0 } }
unfolding seen onward step rows
mask_is_stuck = refl

-- a table of distances is followed, as far as its bytes hold them
narrow_runs : seen (program table table_sizes no_patches) 8 ≡ record { done = 8; standing = over (exit 0); output = []; at = record { block = u 12; offset = 4; j = 0 } }
unfolding seen onward step rows
narrow_runs = refl

narrow_126_runs : seen (program table table_sizes (hints 126)) 8 ≡ record { done = 8; standing = over (exit 0); output = []; at = record { block = u 12; offset = 4; j = 0 } }
unfolding seen onward step rows
narrow_126_runs = refl

narrow_127_is_stuck : seen (program table table_sizes (hints 127)) 8 ≡ record { done = 4; standing = halted causes.Value; output = []; at = record { block = u 5; offset = 16; j = 0 } }
unfolding seen onward step rows
narrow_127_is_stuck = refl
