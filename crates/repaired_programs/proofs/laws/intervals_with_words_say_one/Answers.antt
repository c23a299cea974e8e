use Rattle.std.specs.List.{AllByRecursion as Every}
use Rattle.gt_model.specs.declared.exprs.Expr.{Expr}
use Rattle.repaired_programs.specs.Intervals.{NamesOne}
use Rattle.repaired_programs.specs.Values.{IsOneMoved, IsOneValue}
use Rattle.repaired_programs.proofs.AllWords.{all_words_one}
use Rattle.repaired_programs.proofs.Fillings.{stretched_says}
use Rattle.repaired_programs.proofs.Known.{all_known}
use Rattle.repaired_programs.proofs.Lists.{every_both, every_weaker}
use Rattle.repaired_programs.proofs.Rising.{all_rise, ExprsRise}
use Rattle.repaired_programs.proofs.Stands.{IsKnown}
use Rattle.repaired_programs.proofs.laws.intervals_with_words_say_one.Goals as goal

pub returns : goal.returns
returns c = λ ir m t p l h few ok free aims.
    let made = c.patched_programs_are_well_made.ensures ir m t p h few ok free in
    let words = all_words_one ir m t p l c.words_are_of_images.ensures c.words_are_counted.ensures h ok.typed made aims in
    every_weaker (λ i. (IsKnown m t p i × ExprsRise i) × _) _
    (λ i k some exprs. stretched_says m t p l i k.0.1 exprs k.0.0 some (k.1 some (every_weaker (IsOneMoved m t p l i) (λ (e : Expr). IsOneValue m t p l e.value) (λ e q. q.value) i.exprs exprs))) _
    (every_both (λ i. IsKnown m t p i × ExprsRise i) _ _ (every_both (IsKnown m t p) ExprsRise _ (all_known ir m t p c.words_are_counted.ensures h made) (all_rise ir m t h)) words)
