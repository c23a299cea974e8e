use Rattle.std.proofs.Common.{◌≡◌, ◌<◌, length, true, take, [], List, ℕ, below_more, subst, sym, ◌∙◌, arith}
use Rattle.std.proofs.lemmas.List.{get_or_default}
use Rattle.command_words.specs.Words.{is_fine}
use Rattle.command_words.proofs.words.first_bad.Goals as goal

pub loop-index-preserved : goal.loop-index-preserved
loop-index-preserved c =
    let i = c.loop-index.index in
    let inside : i < length c.args.words.now = omega arith in
    let word = c.as_str.ensures ∙ c.index-words-index.is ∙ get_or_default c.args.words.now i c.index-words-index.result [] inside in
    let fine = sym c.is_fine.ensures ∙ c.if-not-is_fine.false in
    below_more _ _ c.loop-index.invariant (subst (λ (w : List ℕ). is_fine (take i c.args.words.now) w ≡ true) word fine)
