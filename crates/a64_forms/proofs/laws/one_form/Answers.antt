use Rattle.a64_forms.proofs.Tables.{one_form}
use Rattle.a64_forms.proofs.laws.one_form.Goals as goal

pub returns : goal.returns
returns c = one_form
