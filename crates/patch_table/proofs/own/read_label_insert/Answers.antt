use Rattle.std.proofs.Common.{inl, inr, refl, sym, subst}
use Rattle.asm_read.specs.Identifier.{identifier_of}
use Rattle.patch_lines.specs.declared.line.Spot.TheVariants as spots
use Rattle.patch_table.specs.OwnLines.{NumberSays, label_name}
use Rattle.patch_table.proofs.Sayings.{no_spot, spot_label}
use Rattle.patch_table.proofs.own.read_label_insert.Goals as goal

pub returns-in-Ok-clause-says : goal.returns-in-Ok-clause-says
returns-in-Ok-clause-says c =
    let place = c.args.place.now in
    inl (
      spots.Symbol (label_name c.in-Ok.label),
      spot_label place (identifier_of place) c.in-Ok.label c.requires c.in-Ok.ensures.found,
      subst (λ n. NumberSays c.args.number.now (spots.Symbol n) c.number_line.result) c.label_name.ensures c.number_line.ensures.says,
    )

pub returns-in-Err-Fault-clause-says : goal.returns-in-Err-Fault-clause-says
returns-in-Err-Fault-clause-says c =
    let place = c.args.place.now in
    inr (no_spot place (identifier_of place) c.in-Err-Fault.field-0 c.in-Err-Fault.field-0-is c.requires c.in-Err-Fault.ensures.only, refl)
