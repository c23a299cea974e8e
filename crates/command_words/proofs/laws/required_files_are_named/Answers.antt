use Rattle.command_words.proofs.Requireds.{required_named}
use Rattle.command_words.proofs.laws.required_files_are_named.Goals as goal

pub returns : goal.returns
returns c = record {
  input = λ words asked ok e. (required_named words asked ok e).input;
  output = λ words asked ok e. (required_named words asked ok e).output;
}
