use Rattle.gr_base.specs.Desk.{Leaves}
use Rattle.gr_base.specs.Held.{held_in}
use Rattle.gr_base.proofs.Holding.{inserts_leaves, leaves_keeps}
use Rattle.gr_base.proofs.store.replace.Goals as goal
use Rattle.gr_base.proofs.store.replace.Goals.{In_ok-insert}

leaves : (c : In_ok-insert) → Leaves c.args.name.now c.args.bytes.now (held_in c.args.files.now) (held_in c.insert.new.self)
leaves c =
    inserts_leaves c.args.name.now c.args.bytes.now c.args.files.now c.insert.new.self c.in_ok-key.key c.in_ok-content.content c.in_ok-key.ensures.ok c.in_ok-content.ensures.items c.in_ok-insert.ensures.updates

pub returns-clause-ok : goal.returns-clause-ok
returns-clause-ok c = leaves (goal.at.returns-clause-ok c).In_ok-insert

pub returns-clause-kept : goal.returns-clause-kept
returns-clause-kept c = leaves_keeps c.args.name.now c.args.bytes.now (held_in c.args.files.now) (held_in c.insert.new.self) (leaves (goal.at.returns-clause-kept c).In_ok-insert)
