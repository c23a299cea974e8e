use Rattle.simulation.proofs.Each.{sums, flags, tests, choices, loads, stores, calls, functions, unaries, conditions, carries, carry_flags, logic_flags, chosen_flags, reads, writes, jumps}
use Rattle.simulation.proofs.laws.operations_agree.Goals as goal

pub returns-clause-sums : goal.returns-clause-sums
returns-clause-sums c = sums

pub returns-clause-flags : goal.returns-clause-flags
returns-clause-flags c = flags

pub returns-clause-tests : goal.returns-clause-tests
returns-clause-tests c = tests

pub returns-clause-choices : goal.returns-clause-choices
returns-clause-choices c = choices

pub returns-clause-loads : goal.returns-clause-loads
returns-clause-loads c = loads

pub returns-clause-stores : goal.returns-clause-stores
returns-clause-stores c = stores

pub returns-clause-calls : goal.returns-clause-calls
returns-clause-calls c = calls

pub returns-clause-functions : goal.returns-clause-functions
returns-clause-functions c = functions

pub returns-clause-unaries : goal.returns-clause-unaries
returns-clause-unaries c = unaries

pub returns-clause-conditions : goal.returns-clause-conditions
returns-clause-conditions c = conditions

pub returns-clause-carries : goal.returns-clause-carries
returns-clause-carries c = carries

pub returns-clause-carry_flags : goal.returns-clause-carry_flags
returns-clause-carry_flags c = carry_flags

pub returns-clause-logic_flags : goal.returns-clause-logic_flags
returns-clause-logic_flags c = logic_flags

pub returns-clause-chosen_flags : goal.returns-clause-chosen_flags
returns-clause-chosen_flags c = chosen_flags

pub returns-clause-reads : goal.returns-clause-reads
returns-clause-reads c = reads

pub returns-clause-writes : goal.returns-clause-writes
returns-clause-writes c = writes

pub returns-clause-jumps : goal.returns-clause-jumps
returns-clause-jumps c = jumps
