-- Words that ask for no value.
use Rattle.std.proofs.Common.{◌≡◌, ℕ, Bool, true, false, refl, sym, subst}
use Rattle.std.specs.Prelude.{Option, Some, None, ◌==◌, not}
use Rattle.a64_inst.specs.declared.inst.Inst.{Inst}
use Rattle.a64_inst.specs.declared.inst.Inst.TheVariants.{AdrAdrp, AddSubImm, AddSubShifted, AddSubExtended, LogicalShifted, LogicalImm, MoveWide, Bitfield, Extr, TwoSources, OneSource, ThreeSources, WithCarry, CondCompare, CondSelect, BBl, BCond, CbzCbnz, TbzTbnz, BrBlrRet, SvcBrk, Udf, Hint, Literal, Scaled, UnscaledPostPre, Register, Pair}
use Rattle.a64_inst.specs.Table.{row}
use Rattle.sym_expr.specs.declared.program.Program.{Program}
use Rattle.sym_expr.specs.declared.program.Word.{Word}
use Rattle.sym_expr.specs.Points.{reached, word_at}
use Rattle.sym_expr.specs.States.{State}
use Rattle.sym_expr.specs.Steps.{executed, performed, step}
use Rattle.plain_steps.specs.Stuck.{asks_nothing, is_stuck}

break_goes_on : (g : Program) (which imm : ℕ) (s : State) (b : Bool) → (which == 0) ≡ b → asks_nothing (Some (SvcBrk which imm)) ≡ true → not (is_stuck (executed g (Some (SvcBrk which imm)) s)) ≡ true
break_goes_on g which imm s true e quiet = let no = rw e at quiet in absurd (cc)
break_goes_on g which imm s false e quiet = rw e refl

quiet_goes_on : (g : Program) (i : Option Inst) (s : State) → asks_nothing i ≡ true → not (is_stuck (executed g i s)) ≡ true
quiet_goes_on g None s quiet = refl
quiet_goes_on g (Some (SvcBrk which imm)) s quiet = break_goes_on g which imm s (which == 0) refl quiet
quiet_goes_on g (Some (Udf imm)) s quiet = refl
quiet_goes_on g (Some (Hint number)) s quiet = refl
quiet_goes_on g (Some (AdrAdrp a b c d)) s quiet = absurd (cc)
quiet_goes_on g (Some (AddSubImm a b c d e f h)) s quiet = absurd (cc)
quiet_goes_on g (Some (AddSubShifted a b c d e f h k)) s quiet = absurd (cc)
quiet_goes_on g (Some (AddSubExtended a b c d e f h k)) s quiet = absurd (cc)
quiet_goes_on g (Some (LogicalShifted a b c d e f h k)) s quiet = absurd (cc)
quiet_goes_on g (Some (LogicalImm a b c d e f h)) s quiet = absurd (cc)
quiet_goes_on g (Some (MoveWide a b c d e)) s quiet = absurd (cc)
quiet_goes_on g (Some (Bitfield a b c d e f h)) s quiet = absurd (cc)
quiet_goes_on g (Some (Extr a b c d e f)) s quiet = absurd (cc)
quiet_goes_on g (Some (TwoSources a b c d e)) s quiet = absurd (cc)
quiet_goes_on g (Some (OneSource a b c d)) s quiet = absurd (cc)
quiet_goes_on g (Some (ThreeSources a b c d e f h)) s quiet = absurd (cc)
quiet_goes_on g (Some (WithCarry a b c d e f)) s quiet = absurd (cc)
quiet_goes_on g (Some (CondCompare a b c d e f h)) s quiet = absurd (cc)
quiet_goes_on g (Some (CondSelect a b c d e f h)) s quiet = absurd (cc)
quiet_goes_on g (Some (BBl a b)) s quiet = absurd (cc)
quiet_goes_on g (Some (BCond a b)) s quiet = absurd (cc)
quiet_goes_on g (Some (CbzCbnz a b c d)) s quiet = absurd (cc)
quiet_goes_on g (Some (TbzTbnz a b c d e)) s quiet = absurd (cc)
quiet_goes_on g (Some (BrBlrRet a b)) s quiet = absurd (cc)
quiet_goes_on g (Some (Literal a b c)) s quiet = absurd (cc)
quiet_goes_on g (Some (Scaled a b c d e)) s quiet = absurd (cc)
quiet_goes_on g (Some (UnscaledPostPre a b c d e f)) s quiet = absurd (cc)
quiet_goes_on g (Some (Register a b c d e f h)) s quiet = absurd (cc)
quiet_goes_on g (Some (Pair a b c d e f h)) s quiet = absurd (cc)

-- a step at such a word
pub step_goes_on : (g : Program) (s : State) (w : Word) → word_at g (reached g s.place) ≡ Some w → asks_nothing (row w.word) ≡ true → not (is_stuck (step g s)) ≡ true
unfolding step
step_goes_on g s w there quiet =
    subst (λ (found : Option Word). not (is_stuck (performed g (reached g s.place) found s)) ≡ true) (sym there)
    (quiet_goes_on g (row w.word) (record s { place = reached g s.place; named = w.target }) quiet)
