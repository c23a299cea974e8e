use Rattle.std.proofs.Common.{◌^◌, List, sym, subst, ◌∙◌, arith}
use Rattle.std.specs.List.{AllByRecursion}
use Rattle.block_parts.specs.declared.words.PatchedWord.{PatchedWord}
use Rattle.moved_modules.proofs.Near.{words_near}
use Rattle.moved_modules.specs.Near.{IsNear}
use Rattle.moved_modules.proofs.intervals.push_code.Goals as goal

pub push_words-requires-clause-near : goal.push_words-requires-clause-near
push_words-requires-clause-near c =
    subst (AllByRecursion (IsNear (2 ^ 62))) (sym (c.as_slice-listed.ensures.value ∙ c.in_ok-words.ensures))
    (words_near (2 ^ 62) c.args.block.now (omega (arith, c.requires.small)))
