-- One step of both machines.
use Rattle.std.proofs.Common.{◌≡◌, ℕ, zero, suc, ◌%◌, ◌^◌, ◌<◌, Bool, true, false, List, [], length, Option, Some, None, Ok, refl, sym, ap, ◌∙◌, subst, arith}
use Rattle.std.specs.Prelude.{if◌then◌else◌, is_some, map}
use Rattle.std.specs.Option.{option_map, option_map_or}
use Rattle.std.proofs.lemmas.Bool.{eq-eqb}
use Rattle.a64_inst.specs.declared.inst.Inst.{Inst}
use Rattle.a64_inst.specs.declared.kind.Kind.{Kind}
use Rattle.a64_inst.specs.declared.operations.Op.{Op}
use Rattle.a64_inst.specs.Domain.{exec}
use Rattle.a64_inst.specs.Fitting.{fit, operand_value, units_of}
use Rattle.a64_inst.specs.Kinds.{operand, operand_kind}
use Rattle.a64_inst.specs.Meaning.{ops}
use Rattle.a64_inst.specs.Table.{row, is_allowed}
use Rattle.a64_filled.specs.Filled.{with_number}
use Rattle.a64_filled.specs.Taken.{Takes}
use Rattle.a64_filled.specs.Named.{operand_offset, named, part_named}
use Rattle.num_run.specs.Machine.{Machine}
use Rattle.num_run.specs.Numeric.{numeric}
use Rattle.num_run.specs.Run.{fetched, executed as executed_by, performed as performed_by, step as number_step}
use Rattle.paged_memory.specs.Mapping.{Mapping, word_at as number_of_word}
use Rattle.sym_expr.specs.declared.point.Point.{Point}
use Rattle.sym_expr.specs.declared.program.Program.{Program}
use Rattle.sym_expr.specs.declared.program.Word.{Word}
use Rattle.sym_expr.specs.declared.target.Target.{Target}
use Rattle.sym_expr.specs.Points.{code_blocks, goes_on, reached_within, reached, word_at}
use Rattle.sym_expr.specs.States.{State}
use Rattle.sym_expr.specs.Steps.{executed, performed, step}
use Rattle.sym_expr.specs.Symbolic.{symbolic}
use Rattle.sym_expr.specs.WellMade.{IsPoint}
use Rattle.simulation.specs.Placement.{Placement, point_address, target_number}
use Rattle.simulation.specs.Held.{HasFilled, HasOperand, Related}
use Rattle.simulation.specs.Placed.{IsPlaced, IsReached}
use Rattle.simulation.proofs.Context.{During, Ends}
use Rattle.simulation.proofs.Values.{target_small}
use Rattle.simulation.proofs.Operands.{Filling, plain_operand, filled_operand, refilled, IsNamed}
use Rattle.simulation.proofs.Lists.{NameAll, lists_agree}
use Rattle.simulation.proofs.Rows.{rows_fit}
use Rattle.simulation.proofs.Filled.{all_plain, ops_filled, ops_named, none_named}

-- what is known of words and their rows
pub record AreRows : Type 0 where
  pub allowed : (word : ℕ) (i : Inst) → word < 2 ^ 32 → row word ≡ Some i → is_allowed i ≡ true
  pub keeps : (kind : Kind) (place target word filled : ℕ) → operand_kind word ≡ Some kind → fit kind place target word ≡ Ok filled → row filled ≡ option_map (with_number (units_of (operand kind) (operand_value kind place target))) (row word)
  pub names : (kind : Kind) (place target word filled : ℕ) → place < 2 ^ 64 → target < 2 ^ 64 → fit kind place target word ≡ Ok filled → named kind place (units_of (operand kind) (operand_value kind place target)) ≡ part_named kind target
  pub takes : (kind : Kind) (word : ℕ) (i : Inst) → operand_kind word ≡ Some kind → row word ≡ Some i → Takes kind i

module _ (pl : Placement) (g : Program) (memory : Mapping) (placed : IsPlaced pl g memory) where
  -- ---- going on to the next word

  goes_either : (b : Bool) (o : Option Point) (p : Point) (go : Point → Point) → IsPoint g p → ((q : Point) → o ≡ Some q → IsReached pl g p (go q)) → IsReached pl g p (if b then p else option_map_or go o p)
  goes_either true o p go is h = record { is_point = is; same = refl }
  goes_either false None p go is h = record { is_point = is; same = refl }
  goes_either false (Some q) p go is h = h q refl

  then_reached : (p q r : Point) → IsReached pl g p q → IsReached pl g q r → IsReached pl g p r
  then_reached p q r h k = record { is_point = k.is_point; same = k.same ∙ h.same }

  within_reached : (n : ℕ) (p : Point) → IsPoint g p → IsReached pl g p (reached_within n g p)
  within_reached zero p is = record { is_point = is; same = refl }
  within_reached (suc n) p is =
      goes_either (is_some (word_at g p)) (goes_on g p) p (reached_within n g) is
      (λ q e. let first = placed.goes_on p q is e in then_reached p q (reached_within n g q) first (within_reached n q first.is_point))

  pub reached_is : (p : Point) → IsPoint g p → IsReached pl g p (reached g p)
  reached_is p is = within_reached (length (code_blocks g)) p is

  -- ---- the word at a point

  module _ (rows : AreRows) (at : Point) (w : Word) (point : IsPoint g at) (there : word_at g at ≡ Some w) (s : State) (m : Machine) (h : During pl g at w.target s m) where
    place_is : m.place ≡ point_address pl g at
    place_is = h.related.place ∙ ap (point_address pl g) h.place

    place_small : point_address pl g at < 2 ^ 64
    place_small = let a = (placed.points at point).high in omega (arith, a)

    -- the same operations, with operands that name what they have to
    same_ops : (f : Filling) (i : Inst) (os : List Op) → row w.word ≡ Some i → w.word < 2 ^ 32 → IsNamed g w.target → NameAll pl g (point_address pl g at) w.target f (ops i) → os ≡ map (refilled f) (ops i)
        → Ends pl g (exec (symbolic g) (ops i) [] s) (exec numeric os [] m)
    same_ops f i os is small named names e =
        subst (λ (xs : List Op). Ends pl g (exec (symbolic g) (ops i) [] s) (exec numeric xs [] m)) (sym e)
        (lists_agree pl g memory placed at w there named f (ops i) [] (rows_fit i (rows.allowed w.word i small is)) names [] [] s m tt h)

    plain_row : (o : Option Inst) → row w.word ≡ o → w.target ≡ None → w.word < 2 ^ 32 → Ends pl g (executed g o s) (executed_by o m)
    plain_row None is none small = (refl, h.related)
    plain_row (Some i) is none small =
        same_ops plain_operand i (ops i) is small (subst (IsNamed g) (sym none) tt)
        (subst (λ (t : Option Target). NameAll pl g (point_address pl g at) t plain_operand (ops i)) (sym none) (none_named pl g (point_address pl g at) (ops i))) (sym (all_plain (ops i)))

    filled_row : (t : Target) (o : Option Inst) → row w.word ≡ o → w.target ≡ Some t → w.word < 2 ^ 32 → (has : HasFilled pl g m.memory (point_address pl g at) w.word t)
        → Ends pl g (executed g o s) (executed_by (option_map (with_number (units_of (operand has.kind) (operand_value has.kind (point_address pl g at) (target_number pl g t)))) o) m)
    filled_row t None is some small has = (refl, h.related)
    filled_row t (Some i) is some small has =
        let n : ℕ = units_of (operand has.kind) (operand_value has.kind (point_address pl g at) (target_number pl g t)) in
        let takes = rows.takes has.kind w.word i has.has_kind is in
        let names = rows.names has.kind (point_address pl g at) (target_number pl g t) w.word has.filled place_small (target_small pl g memory placed t has.target) has.fits in
        let f : Filling = filled_operand (operand_offset has.kind n) n in
        same_ops f i (ops (with_number n i)) is small (subst (IsNamed g) (sym some) has.target)
        (subst (λ (u : Option Target). NameAll pl g (point_address pl g at) u f (ops i)) (sym some) (ops_named pl g (point_address pl g at) t has.kind i n takes names)) (ops_filled has.kind i n takes)

    fetched_is : (filled : ℕ) → number_of_word m.memory (point_address pl g at) ≡ Some filled → fetched m ≡ Some filled
    fetched_is filled e =
        let aligned : m.place % 4 ≡ 0 = ap (λ (n : ℕ). n % 4) place_is ∙ (placed.points at point).aligned in
        rw (eq-eqb (m.place % 4) 0 aligned) (ap (number_of_word m.memory) place_is ∙ e)

    by_target : (t : Option Target) → w.target ≡ t → w.word < 2 ^ 32 → HasOperand pl g m.memory (point_address pl g at) w.word t → Ends pl g (executed g (row w.word) s) (performed_by (fetched m) m)
    by_target None none small has = rw (fetched_is w.word has) (plain_row (row w.word) refl none small)
    by_target (Some t) some small has =
        rw (fetched_is has.filled has.stands, rows.keeps has.kind (point_address pl g at) (target_number pl g t) w.word has.filled has.has_kind has.fits)
        (filled_row t (row w.word) refl some small has)

    pub word_agrees : Ends pl g (executed g (row w.word) s) (performed_by (fetched m) m)
    word_agrees = let has = h.related.code at w point there in by_target w.target refl has.small has.stands

  -- ---- a step

  at_word : (p q : Point) (t : Option Target) (s : State) (m : Machine) → Related pl g s m → IsReached pl g s.place q → Related pl g (record s { place = q; named = t }) m
  at_word p q t s m h is = record {
    count = h.count;
    registers = h.registers;
    stack_pointer = h.stack_pointer;
    flags = h.flags;
    sizes = h.sizes;
    cells = h.cells;
    code = h.code;
    is_point = is.is_point;
    place = h.place ∙ sym is.same;
    bytes = h.bytes;
    input = h.input;
    output = h.output;
  }

  either_word : (rows : AreRows) (o : Option Word) (q : Point) (s : State) (m : Machine) → word_at g q ≡ o → Related pl g s m → IsReached pl g s.place q → Ends pl g (performed g q o s) (performed_by (fetched m) m)
  either_word rows None q s m e h is = tt
  either_word rows (Some w) q s m e h is =
      word_agrees rows q w is.is_point e (record s { place = q; named = w.target }) m (record { related = at_word s.place q w.target s m h is; place = refl; named = refl })

  pub steps_agree : AreRows → (s : State) (m : Machine) → Related pl g s m → Ends pl g (step g s) (number_step m)
  unfolding step number_step
  steps_agree rows s m h = either_word rows (word_at g (reached g s.place)) (reached g s.place) s m refl h (reached_is s.place h.is_point)
