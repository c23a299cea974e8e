use Rattle.a64_forms.proofs.Unique.{one_number}
use Rattle.a64_forms.proofs.laws.one_number.Goals as goal

pub returns : goal.returns
returns c = one_number
