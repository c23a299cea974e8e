-- Rows that go to memory, and then each row: what is plain goes on.
use Rattle.std.proofs.Common.{◌≡◌, ℕ, ◌+◌, ◌*◌, ◌^◌, Bool, true, false, cond, List, [], ◌∷◌, ◌++◌, Option, Some, None, refl, sym, ap, ◌∙◌, subst}
use Rattle.std.specs.Prelude.{◌==◌, not, slice_index_or, unwrap_or}
use Rattle.std.proofs.lemmas.Bool.{eqb-true}
use Rattle.a64_inst.specs.declared.inst.Inst.{Inst}
use Rattle.a64_inst.specs.declared.inst.Inst.TheVariants.{AdrAdrp, AddSubImm, AddSubShifted, AddSubExtended, LogicalShifted, LogicalImm, MoveWide, Bitfield, Extr, TwoSources, OneSource, ThreeSources, WithCarry, CondCompare, CondSelect, BBl, BCond, CbzCbnz, TbzTbnz, BrBlrRet, SvcBrk, Udf, Hint, Literal, Scaled, UnscaledPostPre, Register, Pair}
use Rattle.a64_inst.specs.declared.operations.Sum.TheVariants.{Add}
use Rattle.a64_inst.specs.declared.operations.Width.TheVariants.{X}
use Rattle.a64_inst.specs.declared.operations.Unary.TheVariants as unary
use Rattle.a64_inst.specs.declared.operations.Binary.TheVariants as binary
use Rattle.a64_inst.specs.declared.operations.Op.{Op}
use Rattle.a64_inst.specs.declared.operations.Op.TheVariants as op
use Rattle.a64_inst.specs.Domain.{exec, give}
use Rattle.a64_inst.specs.Meaning.{ops, width_of, access, pair_access, pair_load, pair_size, pair_store}
use Rattle.a64_inst.specs.Numbers.{bits_of, is_copy, low, sign_extended, unary_value}
use Rattle.a64_inst.specs.Table.{row}
use Rattle.sym_expr.specs.declared.point.Point.{Point}
use Rattle.sym_expr.specs.declared.program.Program.{Program}
use Rattle.sym_expr.specs.declared.program.Word.{Word}
use Rattle.sym_expr.specs.declared.target.Target.{Target}
use Rattle.sym_expr.specs.declared.value.Value.{Value}
use Rattle.sym_expr.specs.declared.value.Value.TheVariants.{Num}
use Rattle.sym_expr.specs.Points.{reached, word_at}
use Rattle.sym_expr.specs.States.{State, register}
use Rattle.sym_expr.specs.Steps.{executed, performed, step}
use Rattle.sym_expr.specs.Symbolic.{Outcome, sum_of, symbolic}
use Rattle.sym_expr.specs.Values.{number_in}
use Rattle.plain_steps.specs.Plain.{Gives, IsPlain, Reaches, forms_target, number_at, register_offset}
use Rattle.plain_steps.specs.Stuck.{is_stuck}
use Rattle.plain_steps.proofs.Access.{AllGo, access_goes, access_then_goes, either_then_by, picked, pair_loads, pair_stores, sum_gives}
use Rattle.plain_steps.proofs.Going.{Goes, unary_goes}
use Rattle.plain_steps.proofs.Memory.{given_of}
use Rattle.plain_steps.proofs.Parts.{AreNumbers, at_word, either_by, of_one, of_two, where_false}
use Rattle.plain_steps.proofs.Rows.{immediate, shifted, extended, logical, masked, wide, bits, three, carries, compares, selects, calls, jumps}

module _ (g : Program) (s : State) (at : Point) where
  scaled : (size opc imm12 rn rt : ℕ) → IsPlain g s (Scaled size opc imm12 rn rt) → Goes (exec (symbolic g) (ops (Scaled size opc imm12 rn rt)) [] (at_word at s))
  scaled size opc imm12 rn rt plain =
      let t = at_word at s in
      let base = register true rn s in
      let to = given_of (sum_of g base (Num (imm12 * 2 ^ size))) (Reaches s (2 ^ size)) plain.accesses in
      subst (λ (o : Outcome Value). Goes (give o (base ∷ []) t (exec (symbolic g) (access size opc rt 1 2)))) (sym to.1)
      (access_goes g t size opc rt 1 2 (base ∷ to.0 ∷ []) to.0 plain.numbers to.2 refl refl (λ k. refl) (λ k. refl))

  unscaled : (size opc imm9 idx rn rt : ℕ) → IsPlain g s (UnscaledPostPre size opc imm9 idx rn rt) → Goes (exec (symbolic g) (ops (UnscaledPostPre size opc imm9 idx rn rt)) [] (at_word at s))
  unscaled size opc imm9 idx rn rt plain =
      let t = at_word at s in
      let base = register true rn s in
      let offset : ℕ = sign_extended 9 64 imm9 in
      let to = given_of (sum_of g base (Num offset)) (λ moved. Reaches s (2 ^ size) (cond (idx == 1) base moved)) plain.accesses in
      let v = to.0 in
      let vs : List Value = base ∷ Num offset ∷ v ∷ [] in
      sum_gives g (base ∷ Num offset ∷ []) t (exec (symbolic g) (cond (idx == 0) (access size opc rt 2 3) (access size opc rt (cond (idx == 1) 0 2) 3 ++ op.Write true rn 2 ∷ []))) 0 1 base (Num offset) v refl refl to.1
      (either_by g (idx == 0) (access size opc rt 2 3) (access size opc rt (cond (idx == 1) 0 2) 3 ++ op.Write true rn 2 ∷ []) vs t
      (λ zero. access_goes g t size opc rt 2 3 vs v plain.numbers (subst (λ (b : Bool). Reaches s (2 ^ size) (cond b base v)) (ap (λ (i : ℕ). i == 1) (eqb-true idx 0 zero)) to.2) refl refl (λ k. refl) (λ k. refl))
      (λ other. access_then_goes g t size opc rt (cond (idx == 1) 0 2) 3 rn vs (cond (idx == 1) base v) plain.numbers to.2
      (picked (λ i. slice_index_or vs i (Num 0)) (idx == 1)) refl (λ k. refl)
      (λ k. picked (λ i. slice_index_or (base ∷ Num offset ∷ v ∷ register false rt s ∷ Num k ∷ []) i (Num 0)) (idx == 1))))

  by_register : (size opc rm option scale rn rt : ℕ) → IsPlain g s (Register size opc rm option scale rn rt) → Goes (exec (symbolic g) (ops (Register size opc rm option scale rn rt)) [] (at_word at s))
  by_register size opc rm option scale rn rt plain =
      let t = at_word at s in
      let base = register true rn s in
      let m = plain.numbers.0 in
      let f = unary.Extend option (scale * size) in
      let k : ℕ = cond (is_copy f) m.0 (unary_value f 64 m.0) in
      let number : number_at rm s ≡ m.0 = ap (λ (v : Value). unwrap_or (number_in v) 0) m.1 in
      let to = given_of (sum_of g base (Num k)) (Reaches s (2 ^ size))
      (subst (λ (n : ℕ). Gives (sum_of g base (Num (register_offset option (scale * size) n))) (Reaches s (2 ^ size))) number plain.accesses) in
      let v = to.0 in
      let b = register false rm s in
      unary_goes g (base ∷ b ∷ []) t (exec (symbolic g) (op.Sum Add X 0 2 ∷ access size opc rt 3 4)) f X 1 m.0 m.1
      (sum_gives g (base ∷ b ∷ Num k ∷ []) t (exec (symbolic g) (access size opc rt 3 4)) 0 2 base (Num k) v refl refl to.1
      (access_goes g t size opc rt 3 4 (base ∷ b ∷ Num k ∷ v ∷ []) v plain.numbers.1 to.2 refl refl (λ k. refl) (λ k. refl)))

  pair : (opc idx l imm7 rt2 rn rt : ℕ) → IsPlain g s (Pair opc idx l imm7 rt2 rn rt) → Goes (exec (symbolic g) (ops (Pair opc idx l imm7 rt2 rn rt)) [] (at_word at s))
  pair opc idx l imm7 rt2 rn rt plain =
      let t = at_word at s in
      let size : ℕ = 2 ^ pair_size opc in
      let base = register true rn s in
      let offset : ℕ = low 64 (sign_extended 7 64 imm7 * size) in
      let to = given_of (sum_of g base (Num offset)) (λ moved. Reaches s size (cond (idx == 1) base moved) × Gives (sum_of g (cond (idx == 1) base moved) (Num size)) (Reaches s size)) plain.accesses in
      let v = to.0 in
      let a : Value = cond (idx == 1) base v in
      let also = given_of (sum_of g a (Num size)) (Reaches s size) to.2.1 in
      let u = also.0 in
      let numbers : l == 1 ≡ false → AreNumbers s ((false, rt) ∷ (false, rt2) ∷ []) = λ other. where_false s (l == 1) [] ((false, rt) ∷ (false, rt2) ∷ []) other plain.numbers in
      let here : ℕ → List Value → Value = λ at rest. slice_index_or (base ∷ Num offset ∷ v ∷ Num size ∷ rest) at (Num 0) in
      let moved : ℕ = cond (idx == 1) 0 2 in
      let more : List Op = op.Write true rn 2 ∷ [] in
      let all : AllGo g more = λ vs t. refl in
      let none : AllGo g [] = λ vs t. refl in
      let five : List Value = base ∷ Num offset ∷ v ∷ Num size ∷ u ∷ [] in
      sum_gives g (base ∷ Num offset ∷ []) t (exec (symbolic g) (cond (idx == 2) (pair_access opc l rt rt2 2) (pair_access opc l rt rt2 moved ++ more))) 0 1 base (Num offset) v refl refl to.1
      (either_by g (idx == 2) (pair_access opc l rt rt2 2) (pair_access opc l rt rt2 moved ++ more) (base ∷ Num offset ∷ v ∷ []) t
      (λ two. let is : v ≡ a = ap (λ (b : Bool). cond b base v) (sym (ap (λ (i : ℕ). i == 1) (eqb-true idx 2 two))) in
      sum_gives g (base ∷ Num offset ∷ v ∷ Num size ∷ []) t (exec (symbolic g) (cond (l == 1) (pair_load opc rt rt2 2) (pair_store opc rt rt2 2))) 2 3 a (Num size) u is refl also.1
      (either_by g (l == 1) (pair_load opc rt rt2 2) (pair_store opc rt rt2 2) five t
      (λ one. pair_loads g t opc l rt rt2 2 base (Num offset) v a u [] none to.2.0 also.2 (λ rest. is))
      (λ other. pair_stores g t opc l rt rt2 2 base (Num offset) v a u [] none to.2.0 also.2 (λ rest. is) (numbers other))))
      (λ other. sum_gives g (base ∷ Num offset ∷ v ∷ Num size ∷ []) t (exec (symbolic g) (cond (l == 1) (pair_load opc rt rt2 moved) (pair_store opc rt rt2 moved) ++ more)) moved 3 a (Num size) u
      (picked (λ i. here i []) (idx == 1)) refl also.1
      (either_then_by g (l == 1) (pair_load opc rt rt2 moved) (pair_store opc rt rt2 moved) more five t
      (λ one. pair_loads g t opc l rt rt2 moved base (Num offset) v a u more all to.2.0 also.2 (λ rest. picked (λ i. here i (u ∷ rest)) (idx == 1)))
      (λ other2. pair_stores g t opc l rt rt2 moved base (Num offset) v a u more all to.2.0 also.2 (λ rest. picked (λ i. here i (u ∷ rest)) (idx == 1)) (numbers other2)))))

  plain_row : (i : Inst) → forms_target i ≡ false → IsPlain g s i → Goes (exec (symbolic g) (ops i) [] (at_word at s))
  plain_row (AddSubImm a b c d e f h) free plain = immediate g s at a b c d e f h plain
  plain_row (AddSubShifted a b c d e f h k) free plain = shifted g s at a b c d e f h k plain
  plain_row (AddSubExtended a b c d e f h k) free plain = extended g s at a b c d e f h k plain
  plain_row (LogicalShifted a b c d e f h k) free plain = logical g s at a b c d e f h k plain
  plain_row (LogicalImm a b c d e f h) free plain = masked g s at a b c d e f h plain
  plain_row (MoveWide a b c d e) free plain = wide g s at a b c d e plain
  plain_row (Bitfield a b c d e f h) free plain = bits g s at a b c d e f h plain
  plain_row (Extr sf n rm imms rn rd) free plain =
      of_two g (binary.Extract imms) (width_of sf) 0 1 rd plain.numbers.0.0 plain.numbers.1.0.0 (register false rn s) (register false rm s) (at_word at s) plain.numbers.0.1 plain.numbers.1.0.1
  plain_row (TwoSources sf rm opcode rn rd) free plain =
      of_two g (binary.TwoSources opcode) (width_of sf) 0 1 rd plain.numbers.0.0 plain.numbers.1.0.0 (register false rn s) (register false rm s) (at_word at s) plain.numbers.0.1 plain.numbers.1.0.1
  plain_row (OneSource sf opcode rn rd) free plain = of_one g (unary.OneSource opcode) (width_of sf) rd plain.numbers.0.0 (register false rn s) (at_word at s) plain.numbers.0.1
  plain_row (ThreeSources a b c d e f h) free plain = three g s at a b c d e f h plain
  plain_row (WithCarry a b c d e f) free plain = carries g s at a b c d e f plain
  plain_row (CondCompare a b c d e f h) free plain = compares g s at a b c d e f h plain
  plain_row (CondSelect a b c d e f h) free plain = selects g s at a b c d e f h plain
  plain_row (BrBlrRet which rn) free plain = jumps g s at which rn plain
  plain_row (SvcBrk which imm16) free plain = calls g s at which imm16 plain
  plain_row (Udf imm16) free plain = refl
  plain_row (Hint number) free plain = refl
  plain_row (Scaled a b c d e) free plain = scaled a b c d e plain
  plain_row (UnscaledPostPre a b c d e f) free plain = unscaled a b c d e f plain
  plain_row (Register a b c d e f h) free plain = by_register a b c d e f h plain
  plain_row (Pair a b c d e f h) free plain = pair a b c d e f h plain
  plain_row (AdrAdrp a b c d) free plain = absurd (cc)
  plain_row (Literal a b c) free plain = absurd (cc)
  plain_row (BBl a b) free plain = absurd (cc)
  plain_row (BCond a b) free plain = absurd (cc)
  plain_row (CbzCbnz a b c d) free plain = absurd (cc)
  plain_row (TbzTbnz a b c d e) free plain = absurd (cc)

-- a step at such a word
pub plain_step : (g : Program) (s : State) (w : Word) (i : Inst) → word_at g (reached g s.place) ≡ Some w → w.target ≡ None → row w.word ≡ Some i → forms_target i ≡ false → IsPlain g s i
    → not (is_stuck (step g s)) ≡ true
unfolding step
plain_step g s w i there none is free plain =
    let at = reached g s.place in
    subst (λ (found : Option Word). Goes (performed g at found s)) (sym there)
    (subst (λ (r : Option Inst). Goes (executed g r (record s { place = at; named = w.target }))) (sym is)
    (subst (λ (named : Option Target). Goes (exec (symbolic g) (ops i) [] (record s { place = at; named = named }))) (sym none) (plain_row g s at i free plain)))
