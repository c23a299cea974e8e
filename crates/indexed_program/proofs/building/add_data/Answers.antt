use Rattle.std.proofs.Common.{refl}
use Rattle.std.specs.Str.{bytes_eq}
use Rattle.indexmap.specs.IndexMap.{get}
use Rattle.indexed_program.specs.declared.spot.Indexes.{Indexes}
use Rattle.indexed_program.proofs.Keeping.{data_keeps, data_right, data_spot_is, Puts}
use Rattle.indexed_program.proofs.building.add_data.Goals as goal

pub returns-clause-right : goal.returns-clause-right
returns-clause-right c =
    let b = c.args.block.now in
    let old : Indexes = c.args.indexes.now in
    let new : Indexes = record { code = old.code; «data» = c.insert.new.self } in
    let put : Puts b.id c.args.spot (get bytes_eq old.data) (get bytes_eq new.data) = c.in_ok-insert.ensures.updates.0 in
    λ g s at ahead is right. data_right g b.id c.args.spot old new put refl (data_spot_is g s c.args.spot at b ahead is) right

pub returns-clause-keeps : goal.returns-clause-keeps
returns-clause-keeps c =
    let b = c.args.block.now in
    let old : Indexes = c.args.indexes.now in
    let new : Indexes = record { code = old.code; «data» = c.insert.new.self } in
    let put : Puts b.id c.args.spot (get bytes_eq old.data) (get bytes_eq new.data) = c.in_ok-insert.ensures.updates.0 in
    data_keeps b.id c.args.spot old new put refl
