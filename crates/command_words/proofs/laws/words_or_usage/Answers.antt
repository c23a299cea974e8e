use Rattle.command_words.proofs.Usages.{ok_or_usage, ok_no_usage, one_usage}
use Rattle.command_words.proofs.laws.words_or_usage.Goals as goal

pub returns : goal.returns
returns c = record { some = ok_or_usage; apart = ok_no_usage; one = one_usage }
