use Rattle.std.proofs.Common.{◌<◌, ◌^◌, rules, sym, ◌∙◌}
use Rattle.patch_table.proofs.Typed.{word_typed}
use Rattle.patch_table.proofs.asm.word_line.Goals as goal

pub returns-then-has_aim-clause-typed : goal.returns-then-has_aim-clause-typed
returns-then-has_aim-clause-typed c =
    let below : c.args.word < 2 ^ 32 = search rules in
    word_typed c.args.word c.args.target c.label_target.result below c.label_target.ensures.value c.label_target.ensures.typed (sym c.has_aim.ensures ∙ c.if-has_aim.true)
