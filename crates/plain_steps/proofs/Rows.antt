-- Rows of numbers, jumps and calls of the system: what is plain goes on.
use Rattle.std.proofs.Common.{◌≡◌, ℕ, ◌+◌, ◌*◌, ◌^◌, Bool, true, false, cond, ◌&&◌, ◌||◌, List, [], ◌∷◌, ◌++◌, Option, Some, None, refl, sym, ap, ◌∙◌, subst}
use Rattle.std.specs.Prelude.{◌==◌, not, slice_index_or, unwrap_or}
use Rattle.a64_inst.specs.declared.inst.Inst.{Inst}
use Rattle.a64_inst.specs.declared.inst.Inst.TheVariants.{AdrAdrp, AddSubImm, AddSubShifted, AddSubExtended, LogicalShifted, LogicalImm, MoveWide, Bitfield, Extr, TwoSources, OneSource, ThreeSources, WithCarry, CondCompare, CondSelect, BBl, BCond, CbzCbnz, TbzTbnz, BrBlrRet, SvcBrk, Udf, Hint, Literal, Scaled, UnscaledPostPre, Register, Pair}
use Rattle.a64_inst.specs.declared.operations.Sum.TheVariants.{Add}
use Rattle.a64_inst.specs.declared.operations.Width.TheVariants.{X}
use Rattle.a64_inst.specs.declared.operations.Unary.TheVariants as unary
use Rattle.a64_inst.specs.declared.operations.Binary.TheVariants as binary
use Rattle.a64_inst.specs.declared.operations.Op.{Op}
use Rattle.a64_inst.specs.declared.operations.Op.TheVariants as op
use Rattle.a64_inst.specs.declared.trap.Trap.TheVariants as traps
use Rattle.a64_inst.specs.Domain.{ended, exec, next, stuck, then_do}
use Rattle.a64_inst.specs.Meaning.{ops, width_of, sum_of as sum_named, flagged_sum, flagged_sum_or_stack, carried_sum_to, product_to, access, pair_access, pair_load, pair_size, pair_store}
use Rattle.a64_inst.specs.Numbers.{binary_value, bits_of, bit_mask, is_copy, low, sign_extended, unary_value}
use Rattle.a64_inst.specs.Table.{row}
use Rattle.sym_expr.specs.declared.point.Point.{Point}
use Rattle.sym_expr.specs.declared.program.Program.{Program}
use Rattle.sym_expr.specs.declared.program.Word.{Word}
use Rattle.sym_expr.specs.declared.target.Target.{Target}
use Rattle.sym_expr.specs.declared.value.Value.{Value}
use Rattle.sym_expr.specs.declared.value.Value.TheVariants.{Num}
use Rattle.sym_expr.specs.Points.{reached, word_at}
use Rattle.sym_expr.specs.States.{State, register}
use Rattle.sym_expr.specs.Steps.{executed, performed, step}
use Rattle.sym_expr.specs.Symbolic.{Outcome, called, sum_of, symbolic, with_flags}
use Rattle.sym_expr.specs.Values.{number_in}
use Rattle.plain_steps.specs.Plain.{Gives, IsPlain, Reaches, forms_target, number_at, register_offset}
use Rattle.plain_steps.specs.Stuck.{is_stuck}
use Rattle.plain_steps.proofs.Access.{access_goes, access_then_goes, picked, pair_loads, pair_stores, sum_gives}
use Rattle.plain_steps.proofs.Calls.{called_goes}
use Rattle.plain_steps.proofs.Going.{Goes, either_goes, unary_goes, binary_goes, choose_goes, join_goes, carry_goes, condition_goes, keep_goes, carry_flags_goes, logic_flags_goes, flags_if_goes, known_carry}
use Rattle.plain_steps.proofs.Memory.{given_of}
use Rattle.plain_steps.proofs.Parts.{at_word, carried_goes, either_by, first_by, flagged_goes, flagged_stack_goes, jump_goes, of_one, of_three, of_two, where_false, where_true}

-- behind an end nothing is left to go wrong
then_goes : (o : Outcome State) (go : State → Outcome State) → Goes o → ((s : State) → Goes (go s)) → Goes (then_do o go)
then_goes (next s) go h all = all s
then_goes (ended event s) go h all = h
then_goes (stuck cause) go h all = absurd (cc)

module _ (g : Program) (s : State) (at : Point) where
  -- rows of numbers
  pub immediate : (sf sum flags sh imm12 rn rd : ℕ) → IsPlain g s (AddSubImm sf sum flags sh imm12 rn rd) → Goes (exec (symbolic g) (ops (AddSubImm sf sum flags sh imm12 rn rd)) [] (at_word at s))
  immediate sf sum flags sh imm12 rn rd plain =
      let t = at_word at s in
      let n = plain.numbers.0 in
      let v = register true rn s in
      either_goes g ((sf == 1) && ((sum == 0) && ((flags == 0) && (sh == 0)))) (op.Read true rn ∷ op.JoinLow 1 imm12 0 ∷ op.Write true rd 1 ∷ [])
      (op.Read true rn ∷ op.Number (imm12 * 2 ^ (12 * sh)) ∷ flagged_sum_or_stack (width_of sf) flags (sum_named sum) 1 2 rd) [] t
      (join_goes g (v ∷ []) t (exec (symbolic g) (op.Write true rd 1 ∷ [])) 1 imm12 0 n.0 refl n.1 (λ k. refl))
      (flagged_stack_goes g (v ∷ Num (imm12 * 2 ^ (12 * sh)) ∷ []) t (width_of sf) flags (sum_named sum) 1 2 rd n.0 (imm12 * 2 ^ (12 * sh)) n.1 refl)

  pub shifted : (sf sum flags shift rm imm6 rn rd : ℕ) → IsPlain g s (AddSubShifted sf sum flags shift rm imm6 rn rd) → Goes (exec (symbolic g) (ops (AddSubShifted sf sum flags shift rm imm6 rn rd)) [] (at_word at s))
  shifted sf sum flags shift rm imm6 rn rd plain =
      let t = at_word at s in
      let m = plain.numbers.0 in
      let n = plain.numbers.1.0 in
      let k : ℕ = cond (is_copy (unary.Shift shift imm6)) n.0 (unary_value (unary.Shift shift imm6) (bits_of (width_of sf)) n.0) in
      unary_goes g (register false rn s ∷ register false rm s ∷ []) t (exec (symbolic g) (flagged_sum (width_of sf) flags (sum_named sum) 2 3 rd)) (unary.Shift shift imm6) (width_of sf) 1 n.0 n.1
      (flagged_goes g (register false rn s ∷ register false rm s ∷ Num k ∷ []) t (width_of sf) flags (sum_named sum) 2 3 rd m.0 k m.1 refl)

  pub extended : (sf sum flags rm option imm3 rn rd : ℕ) → IsPlain g s (AddSubExtended sf sum flags rm option imm3 rn rd) → Goes (exec (symbolic g) (ops (AddSubExtended sf sum flags rm option imm3 rn rd)) [] (at_word at s))
  extended sf sum flags rm option imm3 rn rd plain =
      let t = at_word at s in
      let m = plain.numbers.0 in
      let n = plain.numbers.1.0 in
      let k : ℕ = cond (is_copy (unary.Extend option imm3)) n.0 (unary_value (unary.Extend option imm3) (bits_of (width_of sf)) n.0) in
      unary_goes g (register true rn s ∷ register false rm s ∷ []) t (exec (symbolic g) (flagged_sum_or_stack (width_of sf) flags (sum_named sum) 2 3 rd)) (unary.Extend option imm3) (width_of sf) 1 n.0 n.1
      (flagged_stack_goes g (register true rn s ∷ register false rm s ∷ Num k ∷ []) t (width_of sf) flags (sum_named sum) 2 3 rd m.0 k m.1 refl)

  pub logical : (sf opc shift inverted rm imm6 rn rd : ℕ) → IsPlain g s (LogicalShifted sf opc shift inverted rm imm6 rn rd) → Goes (exec (symbolic g) (ops (LogicalShifted sf opc shift inverted rm imm6 rn rd)) [] (at_word at s))
  logical sf opc shift inverted rm imm6 rn rd plain =
      let t = at_word at s in
      let w = width_of sf in
      let m = plain.numbers.0 in
      let n = plain.numbers.1.0 in
      let f = binary.Logic opc (inverted == 1) in
      let value = op.Binary f w 0 2 in
      let flags : List Op = value ∷ op.FlagsOfLogic w 3 ∷ op.Write false rd 3 ∷ [] in
      let none : List Op = op.Keep rd ∷ value ∷ op.Write false rd 3 ∷ [] in
      let k : ℕ = cond (is_copy (unary.Shift shift imm6)) n.0 (unary_value (unary.Shift shift imm6) (bits_of w) n.0) in
      let vs : List Value = register false rn s ∷ register false rm s ∷ Num k ∷ [] in
      either_goes g ((sf == 1) && ((opc == 1) && ((inverted == 0) && ((imm6 == 0) && (rn == 31))))) (op.Read false rm ∷ op.Copy 0 ∷ op.Write false rd 1 ∷ [])
      (op.Read false rn ∷ op.Read false rm ∷ op.Unary (unary.Shift shift imm6) w 1 ∷ cond (opc == 3) flags none) [] t refl
      (unary_goes g (register false rn s ∷ register false rm s ∷ []) t (exec (symbolic g) (cond (opc == 3) flags none)) (unary.Shift shift imm6) w 1 n.0 n.1
      (either_goes g (opc == 3) flags none vs t
      (binary_goes g vs t (exec (symbolic g) (op.FlagsOfLogic w 3 ∷ op.Write false rd 3 ∷ [])) f w 0 2 m.0 k m.1 refl
      (logic_flags_goes g (register false rn s ∷ register false rm s ∷ Num k ∷ Num (binary_value f (bits_of w) m.0 k) ∷ []) t (exec (symbolic g) (op.Write false rd 3 ∷ [])) w 3 (binary_value f (bits_of w) m.0 k) refl (λ f. refl)))
      (keep_goes g vs t (exec (symbolic g) (value ∷ op.Write false rd 3 ∷ [])) rd
      (binary_goes g vs t (exec (symbolic g) (op.Write false rd 3 ∷ [])) f w 0 2 m.0 k m.1 refl refl))))

  pub masked : (sf opc n immr imms rn rd : ℕ) → IsPlain g s (LogicalImm sf opc n immr imms rn rd) → Goes (exec (symbolic g) (ops (LogicalImm sf opc n immr imms rn rd)) [] (at_word at s))
  masked sf opc n immr imms rn rd plain =
      let t = at_word at s in
      let w = width_of sf in
      let m = plain.numbers.0 in
      let mask : ℕ = bit_mask (bits_of w) n immr imms in
      let f = binary.Logic opc false in
      let made : ℕ = binary_value f (bits_of w) m.0 mask in
      let vs : List Value = register false rn s ∷ Num mask ∷ Num made ∷ [] in
      binary_goes g (register false rn s ∷ Num mask ∷ []) t (exec (symbolic g) (cond (opc == 3) (op.FlagsOfLogic w 2 ∷ op.Write false rd 2 ∷ []) (op.Write true rd 2 ∷ []))) f w 0 1 m.0 mask m.1 refl
      (either_goes g (opc == 3) (op.FlagsOfLogic w 2 ∷ op.Write false rd 2 ∷ []) (op.Write true rd 2 ∷ []) vs t
      (logic_flags_goes g vs t (exec (symbolic g) (op.Write false rd 2 ∷ [])) w 2 made refl (λ f. refl)) refl)

  pub wide : (sf opc hw imm16 rd : ℕ) → IsPlain g s (MoveWide sf opc hw imm16 rd) → Goes (exec (symbolic g) (ops (MoveWide sf opc hw imm16 rd)) [] (at_word at s))
  wide sf opc hw imm16 rd plain =
      either_by g (opc == 3) (op.Read false rd ∷ op.Keep rd ∷ op.Unary (unary.Insert imm16 (16 * hw)) (width_of sf) 0 ∷ op.Write false rd 1 ∷ []) _ [] (at_word at s)
      (λ is. let n = (where_true s (opc == 3) ((false, rd) ∷ []) [] is plain.numbers).0 in
      of_one g (unary.Insert imm16 (16 * hw)) (width_of sf) rd n.0 (register false rd s) (at_word at s) n.1) (λ other. refl)

  pub bits : (sf opc n immr imms rn rd : ℕ) → IsPlain g s (Bitfield sf opc n immr imms rn rd) → Goes (exec (symbolic g) (ops (Bitfield sf opc n immr imms rn rd)) [] (at_word at s))
  bits sf opc n immr imms rn rd plain =
      let t = at_word at s in
      either_by g (opc == 1) (op.Read false rn ∷ op.Read false rd ∷ op.Keep rd ∷ op.Binary (binary.BitfieldInto immr imms) (width_of sf) 1 0 ∷ op.Write false rd 2 ∷ [])
      (op.Read false rn ∷ op.Keep rd ∷ op.Unary (unary.Bitfield (opc == 0) immr imms) (width_of sf) 0 ∷ op.Write false rd 1 ∷ []) [] t
      (λ is. let ns = where_true s (opc == 1) ((false, rn) ∷ (false, rd) ∷ []) ((false, rn) ∷ []) is plain.numbers in
      of_two g (binary.BitfieldInto immr imms) (width_of sf) 1 0 rd ns.1.0.0 ns.0.0 (register false rn s) (register false rd s) t ns.1.0.1 ns.0.1)
      (λ other. let n = (where_false s (opc == 1) ((false, rn) ∷ (false, rd) ∷ []) ((false, rn) ∷ []) other plain.numbers).0 in
      of_one g (unary.Bitfield (opc == 0) immr imms) (width_of sf) rd n.0 (register false rn s) t n.1)

  pub three : (sf which rm o0 ra rn rd : ℕ) → IsPlain g s (ThreeSources sf which rm o0 ra rn rd) → Goes (exec (symbolic g) (ops (ThreeSources sf which rm o0 ra rn rd)) [] (at_word at s))
  three sf which rm o0 ra rn rd plain =
      let t = at_word at s in
      let l = plain.numbers.0 in
      let m = plain.numbers.1.0 in
      let n = plain.numbers.1.1.0 in
      let a = register false rn s in
      let b = register false rm s in
      let long : List Op = op.Read false ra ∷ product_to (binary.LongProduct (which == 1)) X (sum_named o0) rd in
      let high : List Op = op.Keep rd ∷ op.Binary (binary.HighProduct (which == 2)) X 0 1 ∷ op.Write false rd 2 ∷ [] in
      either_goes g (which == 0) (op.Read false ra ∷ product_to binary.Product (width_of sf) (sum_named o0) rd) (cond ((which == 1) || (which == 5)) long high) (a ∷ b ∷ []) t
      (of_three g binary.Product (width_of sf) (sum_named o0) rd l.0 m.0 n.0 a b (register false ra s) t l.1 m.1 n.1)
      (either_goes g ((which == 1) || (which == 5)) long high (a ∷ b ∷ []) t
      (of_three g (binary.LongProduct (which == 1)) X (sum_named o0) rd l.0 m.0 n.0 a b (register false ra s) t l.1 m.1 n.1)
      (of_two g (binary.HighProduct (which == 2)) X 0 1 rd l.0 m.0 a b t l.1 m.1))

  pub carries : (sf sum flags rm rn rd : ℕ) → IsPlain g s (WithCarry sf sum flags rm rn rd) → Goes (exec (symbolic g) (ops (WithCarry sf sum flags rm rn rd)) [] (at_word at s))
  carries sf sum flags rm rn rd plain =
      let t = at_word at s in
      let w = width_of sf in
      let m = plain.numbers.0 in
      let n = plain.numbers.1.0 in
      let a = register false rn s in
      let b = register false rm s in
      let rest : List Op = carried_sum_to w (sum_named sum) rd in
      carry_goes g (a ∷ b ∷ []) t (exec (symbolic g) (cond (flags == 1) (op.FlagsOfCarry (sum_named sum) w 0 1 2 ∷ rest) rest)) (known_carry s.flags plain.flags) (λ k.
      either_goes g (flags == 1) (op.FlagsOfCarry (sum_named sum) w 0 1 2 ∷ rest) rest (a ∷ b ∷ Num k ∷ []) t
      (carry_flags_goes g (a ∷ b ∷ Num k ∷ []) t (exec (symbolic g) rest) (sum_named sum) w 0 1 2 m.0 n.0 k m.1 n.1 refl
      (λ f. carried_goes g w (sum_named sum) rd m.0 n.0 k a b (with_flags t f) m.1 n.1))
      (carried_goes g w (sum_named sum) rd m.0 n.0 k a b t m.1 n.1))

  pub compares : (sf sum rm c i rn nzcv : ℕ) → IsPlain g s (CondCompare sf sum rm c i rn nzcv) → Goes (exec (symbolic g) (ops (CondCompare sf sum rm c i rn nzcv)) [] (at_word at s))
  compares sf sum rm c i rn nzcv plain =
      let t = at_word at s in
      let a = register false rn s in
      let rest : List Op = op.Condition c ∷ op.FlagsIf (sum_named sum) (width_of sf) 2 0 1 nzcv ∷ [] in
      let both : (m n : ℕ) (b : Value) → a ≡ Num m → b ≡ Num n → Goes (exec (symbolic g) rest (a ∷ b ∷ []) t) = λ m n b first second.
      condition_goes g (a ∷ b ∷ []) t (exec (symbolic g) (op.FlagsIf (sum_named sum) (width_of sf) 2 0 1 nzcv ∷ [])) c plain.flags
      (λ k. flags_if_goes g (a ∷ b ∷ Num k ∷ []) t (exec (symbolic g) []) (sum_named sum) (width_of sf) 2 0 1 m n nzcv first second (λ f. refl)) in
      first_by g (i == 1) (op.Number rm) (op.Read false rm) rest (a ∷ []) t
      (λ is. let n = (where_true s (i == 1) ((false, rn) ∷ []) ((false, rn) ∷ (false, rm) ∷ []) is plain.numbers).0 in both n.0 rm (Num rm) n.1 refl)
      (λ other. let ns = where_false s (i == 1) ((false, rn) ∷ []) ((false, rn) ∷ (false, rm) ∷ []) other plain.numbers in both ns.0.0 ns.1.0.0 (register false rm s) ns.0.1 ns.1.0.1)

  pub selects : (sf invert rm c o2 rn rd : ℕ) → IsPlain g s (CondSelect sf invert rm c o2 rn rd) → Goes (exec (symbolic g) (ops (CondSelect sf invert rm c o2 rn rd)) [] (at_word at s))
  selects sf invert rm c o2 rn rd plain =
      let t = at_word at s in
      let m = plain.numbers.0 in
      let n = plain.numbers.1.0 in
      let a = register false rn s in
      let b = register false rm s in
      condition_goes g (a ∷ b ∷ []) t (exec (symbolic g) (op.Keep rd ∷ op.Choose (invert == 1) (o2 == 1) (width_of sf) 2 0 1 ∷ op.Write false rd 3 ∷ [])) c plain.flags (λ k.
      keep_goes g (a ∷ b ∷ Num k ∷ []) t (exec (symbolic g) (op.Choose (invert == 1) (o2 == 1) (width_of sf) 2 0 1 ∷ op.Write false rd 3 ∷ [])) rd
      (choose_goes g (a ∷ b ∷ Num k ∷ []) t (exec (symbolic g) (op.Write false rd 3 ∷ [])) (invert == 1) (o2 == 1) (width_of sf) 2 0 1 k m.0 n.0 refl m.1 n.1 (λ j. refl)))

  pub calls : (which imm16 : ℕ) → IsPlain g s (SvcBrk which imm16) → Goes (exec (symbolic g) (ops (SvcBrk which imm16)) [] (at_word at s))
  calls which imm16 plain =
      either_by g (which == 0) (op.Call imm16 ∷ []) (op.Trap (traps.Break imm16) ∷ []) [] (at_word at s)
      (λ is. let ns = where_true s (which == 0) ((false, 8) ∷ (false, 0) ∷ (false, 2) ∷ []) [] is plain.numbers in
      then_goes (called imm16 (at_word at s)) (exec (symbolic g) [] []) (called_goes (at_word at s) imm16 ns.0 ns.1.0 ns.1.1.0 plain.leads) (λ t. refl)) (λ other. refl)

  pub jumps : (which rn : ℕ) → IsPlain g s (BrBlrRet which rn) → Goes (exec (symbolic g) (ops (BrBlrRet which rn)) [] (at_word at s))
  jumps which rn plain =
      either_goes g (which == 1) (op.Link ∷ op.Jump 0 ∷ []) (op.Jump 0 ∷ []) (register false rn s ∷ []) (at_word at s) (jump_goes (register false rn s) _ plain.leads) (jump_goes (register false rn s) _ plain.leads)
