use Rattle.std.proofs.Common.{◌≡◌, length, ap, sym, subst, rules, ◌∙◌}
use Rattle.gt_model.specs.Typed.{AreBytes}
use Rattle.gt_write.proofs.records.put_id.Goals as goal

pub returns-clause-typed : goal.returns-clause-typed
returns-clause-typed c =
    let len : length c.as_bytes.result.now ≡ 16 = search rules in
    record { len = sym (ap length c.as_bytes.ensures) ∙ len; bytes = subst AreBytes c.as_bytes.ensures c.in_ok-put_run.ensures.typed }
