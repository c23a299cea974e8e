use Rattle.std.proofs.Common.{lit<, is_some, rules}
use Rattle.std.proofs.lemmas.Iterator.Search.{all_from_yields_List}
use Rattle.std.proofs.lemmas.Iterator.Splits.{YieldsList-from_str_split}
use Rattle.command_words.specs.Numbers.{bounded}
use Rattle.command_words.specs.declared.table.TheConstants.{FLAG}
use Rattle.command_words.proofs.number.are_numbers.Goals as goal

pub returns : goal.returns
returns c =
    all_from_yields_List (λ part. is_some (bounded FLAG part)) _ _ _ c.all.ensures.ran
    (YieldsList-from_str_split 44 c.args.text.now (lit< tt) c.split.ensures.text c.split.ensures.has_more c.split.ensures.pattern)
    (λ x b q k. search rules)
