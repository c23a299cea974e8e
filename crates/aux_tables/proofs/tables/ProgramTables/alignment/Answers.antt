use Rattle.std.proofs.Common.{ap, ◌∙◌}
use Rattle.std.specs.Str.{bytes_eq}
use Rattle.std.proofs.lemmas.Slice.Eq.{bytes_eq-Decides}
use Rattle.sym_expr.specs.Tables.{Tables, alignment_entry}
use Rattle.aux_tables.proofs.OwnKeys.{lookup_is}
use Rattle.aux_tables.proofs.tables.ProgramTables.alignment.Goals as goal

pub returns : goal.returns
returns c = c.copied.ensures ∙ c.get.ensures.value ∙ lookup_is bytes_eq bytes_eq-Decides c.args.id.now c.self.inside.alignment.entries ∙ ap (λ (t : Tables). alignment_entry t c.args.id.now) c.self.view_is
