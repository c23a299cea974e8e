use Rattle.std.proofs.Common.{◌<◌}
use Rattle.std.proofs.lemmas.List.Elements.{recursion_from_All}
use Rattle.pb_wire.proofs.Lists.{decided}
use Rattle.pb_wire.proofs.laws.a_list_or_a_fault.Goals as goal

pub returns : goal.returns
returns c = λ bytes base fits. decided bytes base (recursion_from_All (λ b. b < 256) bytes fits)
