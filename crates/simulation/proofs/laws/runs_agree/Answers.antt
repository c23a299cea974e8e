use Rattle.simulation.proofs.Runs.{runs_agree}
use Rattle.simulation.proofs.laws.runs_agree.Goals as goal

pub returns : goal.returns
returns c = λ pl g memory placed. runs_agree pl g memory placed (record {
  allowed = λ word i small is. (c.read_is_word.ensures word i small is).0;
  keeps = c.filled_word_keeps_its_row.ensures;
  names = c.filled_word_names_its_target.ensures;
  takes = c.operand_is_of_its_row.ensures;
})
