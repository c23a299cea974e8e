use Rattle.std.proofs.Common.{[], ◌∷◌}
use Rattle.std.proofs.lemmas.Bool.Decides.{Decides-eqb}
use Rattle.std.proofs.lemmas.Slice.Eq.{strip_suffix_is}
use Rattle.asm_directives.proofs.difference.before_quarter.Goals as goal

pub returns : goal.returns
returns c = strip_suffix_is Decides-eqb c.args.text.now (41 ∷ 47 ∷ 52 ∷ []) c.strip_suffix.result c.strip_suffix.ensures.cases
