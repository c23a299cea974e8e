use Rattle.std.proofs.Common.{◌∙◌, refl}
use Rattle.std.specs.Str.{bytes_eq}
use Rattle.indexmap.specs.IndexMap.{get}
use Rattle.indexed_program.specs.declared.spot.CodeSpot.{CodeSpot}
use Rattle.indexed_program.specs.declared.spot.Indexes.{Indexes}
use Rattle.indexed_program.proofs.Keeping.{code_keeps, code_right, code_spot_is, leads_to, GoesOnAs, Puts}
use Rattle.indexed_program.proofs.building.add_code.Goals as goal

pub returns-clause-right : goal.returns-clause-right
returns-clause-right c =
    let b = c.args.block.now in
    let x : CodeSpot = c.in_ok-kept.kept in
    let old : Indexes = c.args.indexes.now in
    let new : Indexes = record { code = c.insert.new.self; «data» = old.data } in
    let put : Puts b.id x (get bytes_eq old.code) (get bytes_eq new.code) = c.in_ok-insert.ensures.updates.0 in
    let place = c.in_ok-kept.ensures.place in
    λ g s is right.
    let goes : GoesOnAs g b c.args.ahead x = λ next h. place.2 ∙ c.onward_of.ensures g next h in
    code_right g b.id x old new put refl (b, code_spot_is g s c.args.spot c.args.at b c.args.ahead x is place.0 place.1 c.in_ok-kept.ensures.inserted goes) right

pub returns-clause-keeps : goal.returns-clause-keeps
returns-clause-keeps c =
    let b = c.args.block.now in
    let x : CodeSpot = c.in_ok-kept.kept in
    let old : Indexes = c.args.indexes.now in
    let new : Indexes = record { code = c.insert.new.self; «data» = old.data } in
    let put : Puts b.id x (get bytes_eq old.code) (get bytes_eq new.code) = c.in_ok-insert.ensures.updates.0 in
    code_keeps b.id x old new put refl

pub returns-clause-next : goal.returns-clause-next
returns-clause-next c =
    let b = c.args.block.now in
    let x : CodeSpot = c.in_ok-kept.kept in
    let place = c.in_ok-kept.ensures.place in
    λ g s is.
    let goes : GoesOnAs g b c.args.ahead x = λ next h. place.2 ∙ c.onward_of.ensures g next h in
    (refl, c.lead_of-leads.ensures ∙ leads_to g s c.args.spot c.args.at b c.args.ahead x is goes)
