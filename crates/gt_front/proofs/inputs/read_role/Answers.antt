use Rattle.std.proofs.Common.{refl, sym, ap, Err}
use Rattle.gr_base.specs.declared.end.End.{End}
use Rattle.gr_base.specs.declared.whole.ReadEnd.{ReadEnd}
use Rattle.gt_front.proofs.Reading.{refuses}
use Rattle.gt_front.proofs.inputs.read_role.Goals as goal

pub returns-in-Err-clause-unread : goal.returns-in-Err-clause-unread
returns-in-Err-clause-unread g c = record {
  name = c.in-Some.name.now;
  named = sym c.in-Some.ensures;
  same = refl;
  refuses = refuses _ _ _ _ c.in-Err.end (λ e. c.in-Err.ensures.fault (ap (λ (x : End ReadEnd). Err x) e)) (λ e. c.in-Err.ensures.large (ap (λ (x : End ReadEnd). Err x) e))
      (λ e. c.in-Err.ensures.longer (ap (λ (x : End ReadEnd). Err x) e)) (λ sure e. c.in-Err.ensures.missing sure (ap (λ (x : End ReadEnd). Err x) e));
}
