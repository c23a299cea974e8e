use Rattle.std.proofs.Common.{◌≡◌, Option, List, [], refl, sym, ap, subst, ◌∙◌, IsTrue}
use Rattle.std.specs.Prelude.{IfSome, IsSome}
use Rattle.std.specs.List.{list_all}
use Rattle.a64_inst.specs.declared.operations.Op.{Op}
use Rattle.a64_inst.specs.Domain.{exec}
use Rattle.a64_ops.specs.Sound.{is_sound}
use Rattle.sym_expr.specs.declared.program.Word.{Word}
use Rattle.sym_expr.specs.Points.{reached}
use Rattle.sym_expr.specs.Symbolic.{symbolic}
use Rattle.sym_step.specs.declared.common.Common.{Common}
use Rattle.sym_step.specs.Common.{common_ops}
use Rattle.sym_step.specs.Order.{stores_early}
use Rattle.sym_step.proofs.Finding.{step_is}
use Rattle.sym_step.proofs.cache.Found.new.Goals as goal

pub returns-clause-is : goal.returns-clause-is
returns-clause-is c = λ g point here behind.
    let at = c.args.at.now in
    let word = c.args.word.now in
    let inst = c.args.inst.now in
    let same = sym c.ops-list.ensures in
    record {
      word = subst (λ (w : Option Word). IsSome w) (sym here) refl;
      sound = subst (λ (ops : List Op). IsTrue (list_all is_sound ops)) same (c.operations_are_sound.ensures inst c.requires.allowed);
      onward = behind;
      common = subst (λ (list : List Op). IfSome c.common_of-common.result (λ (common : Common). list ≡ common_ops common)) c.as_slice-slice.ensures c.common_of-common.ensures.ops;
      sound_end = c.common_of-common.ensures.sound;
      early = subst (λ (ops : List Op). IsTrue (stores_early ops)) same (c.stores_come_early.ensures inst);
      does = λ s place.
          step_is g s at word inst (ap (reached g) place ∙ point) here c.requires.row
          ∙ ap (λ (ops : List Op). exec (symbolic g) ops [] (record s { place = at; named = word.target })) same;
    }
