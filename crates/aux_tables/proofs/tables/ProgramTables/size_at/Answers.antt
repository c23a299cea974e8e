use Rattle.std.proofs.Common.{ℕ, Option, unwrap_or, ap, ◌∙◌}
use Rattle.sym_expr.specs.Tables.{Tables, expr_size}
use Rattle.aux_tables.proofs.OwnKeys.{place_eq, place_eq-Decides, lookup_is}
use Rattle.aux_tables.proofs.tables.ProgramTables.size_at.Goals as goal

pub returns : goal.returns
returns c =
    c.unwrap_or.ensures ∙ ap (λ (o : Option ℕ). unwrap_or o 8) (c.copied.ensures ∙ c.get.ensures.value ∙ lookup_is place_eq place_eq-Decides (c.args.interval.now, c.args.at) c.self.inside.sizes.entries)
    ∙ ap (λ (t : Tables). expr_size t c.args.interval.now c.args.at) c.self.view_is
