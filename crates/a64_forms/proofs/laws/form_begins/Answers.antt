use Rattle.a64_forms.proofs.Tables.{form_begins}
use Rattle.a64_forms.proofs.laws.form_begins.Goals as goal

pub returns : goal.returns
returns c = form_begins
