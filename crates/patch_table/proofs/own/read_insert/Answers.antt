use Rattle.std.proofs.Common.{inl, refl, sym}
use Rattle.asm_read.specs.Identifier.{identifier_of}
use Rattle.patch_lines.specs.declared.line.Spot.TheVariants as spots
use Rattle.patch_table.proofs.Sayings.{spot_id}
use Rattle.patch_table.proofs.own.read_insert.Goals as goal

pub returns-in-Some-clause-says : goal.returns-in-Some-clause-says
returns-in-Some-clause-says c =
    let place = c.args.place.now in
    inl (spots.Block c.in-Some.id, spot_id place c.in-Some.id (identifier_of place) c.in-Some.ensures, c.number_line.ensures.says)
