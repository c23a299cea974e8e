use Rattle.std.proofs.Common.{subst, sym, ap, ◌∙◌}
use Rattle.a64_forms.specs.Spelling.{IsShape, Spelled, held}
use Rattle.patch_table.proofs.Sayings.{no_shape, shape_says}
use Rattle.patch_table.specs.PatchLines.{ShapeSays}
use Rattle.patch_table.proofs.asm.read_unfit.Goals as goal

pub returns-in-Some-clause-says : goal.returns-in-Some-clause-says
returns-in-Some-clause-says c =
    subst (ShapeSays c.args.line.now) (sym c.unfit_line.ensures.value)
    (shape_says c.args.line.now c.args.words.now (held c.in-Some.share) c.requires.utf8 c.requires.words
    (subst (λ ts. IsShape ts (held c.in-Some.share)) (c.as_slice.ensures ∙ c.in_ok-texts.ensures) c.in-Some.ensures.some))

pub returns-clause-says : goal.returns-clause-says
returns-clause-says c =
    absurd (no_shape c.one_split.ensures c.args.line.now c.args.words.now c.requires.words c.requires.fault
    (λ s is. c.in-None.ensures.none s (subst (λ ts. IsShape ts s) (sym (c.as_slice.ensures ∙ c.in_ok-texts.ensures)) is)))
