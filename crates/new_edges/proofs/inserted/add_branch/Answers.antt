use Rattle.std.proofs.Common.{sym}
use Rattle.new_edges.proofs.Inserts.{put_first}
use Rattle.new_edges.proofs.inserted.add_branch.Goals as goal

pub returns-in_ok-insert-in-None : goal.returns-in_ok-insert-in-None
returns-in_ok-insert-in-None c =
    put_first c.args.map.now c.get_mut.follows.lender-at-none c.insert.new.self c.args.block c.args.branch c.in_ok-from_slice-in-None.field-0 (sym c.in-None.ensures.value) c.get_mut.follows.holds-at-none c.in_ok-insert-in-None.ensures.updates.0 c.in_ok-from_slice-in-None.ensures
