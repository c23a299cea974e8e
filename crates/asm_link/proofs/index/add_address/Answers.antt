use Rattle.std.proofs.Common.{Some, rules, sym}
use Rattle.std.proofs.lemmas.Map.Text.{hash_map_updates_text}
use Rattle.asm_link.proofs.Keeping.{address_added, addresses_changed}
use Rattle.asm_link.proofs.index.add_address.Goals as goal

pub returns-in_ok-insert-in-Some : goal.returns-in_ok-insert-in-Some
returns-in_ok-insert-in-Some c =
    let old = c.args.labels.now in
    let name = c.args.name.now in
    let w = c.insert.new.self in
    let new = c.get_mut.follows.lender w in
    addresses_changed old new name w c.args.ordinal c.args.at
    (hash_map_updates_text name old new (Some w) ((c.get_mut.follows.holds w).3 (search rules)))
    (address_added old name c.in-Some.ordinals.now w c.args.ordinal c.args.at (sym c.in-Some.ensures.value) c.in_ok-insert-in-Some.ensures.updates.0)
