-- What is found of a place is what a step from there does.
use Rattle.std.proofs.Common.{◌≡◌, ℕ, ◌<◌, Option, Some, List, [], length, get_or, slice_get, ap, subst, ◌∙◌}
use Rattle.std.proofs.lemmas.Option.{get_or_from_slice_get, slice_get_within}
use Rattle.std.specs.Prelude.{All}
use Rattle.a64_inst.specs.declared.inst.Inst.{Inst}
use Rattle.a64_inst.specs.Domain.{exec}
use Rattle.a64_inst.specs.Meaning.{ops}
use Rattle.a64_inst.specs.Table.{row}
use Rattle.sym_expr.specs.declared.point.Point.{Point}
use Rattle.sym_expr.specs.declared.program.Program.{Program}
use Rattle.sym_expr.specs.declared.program.Word.{Word}
use Rattle.sym_expr.specs.Points.{reached, word_at}
use Rattle.sym_expr.specs.States.{State}
use Rattle.sym_expr.specs.Steps.{executed, performed, step}
use Rattle.sym_expr.specs.Symbolic.{symbolic}
use Rattle.sym_step.specs.declared.cache.Found.{Found}
use Rattle.sym_step.specs.Found.{IsFound, IsSlot}

-- the instruction of the word where the place goes on
pub step_is : (g : Program) (s : State) (at : Point) (w : Word) (i : Inst) → reached g s.place ≡ at → word_at g at ≡ Some w → row w.word ≡ Some i
    → step g s ≡ exec (symbolic g) (ops i) [] (record s { place = at; named = w.target })
unfolding step
step_is g s at w i point here decoded =
    ap (λ (p : Point). performed g p (word_at g p) s) point
    ∙ ap (λ (o : Option Word). performed g at o s) here
    ∙ ap (λ (o : Option Inst). executed g o (record s { place = at; named = w.target })) decoded

-- what a slot has
pub kept_is : (g : Program) (slots : List (Option Found)) (i : ℕ) (x : Found) → slice_get slots i ≡ Some (Some x) → All (IsSlot g) slots → IsFound g x
kept_is g slots i x there all =
    let within : i < length slots = slice_get_within slots i (Some x) there in
    let same : get_or slots i (Some x) ≡ Some x = get_or_from_slice_get slots i (Some x) (Some x) there in
    subst (IsSlot g) same (all i (Some x) within)
