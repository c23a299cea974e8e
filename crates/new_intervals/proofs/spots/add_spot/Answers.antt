use Rattle.std.proofs.Common.{Bool, List, Some, ap, cond, sym, ◌∙◌, ℕ}
use Rattle.std.specs.Prelude.{Option}
use Rattle.std.specs.Str.{bytes_eq}
use Rattle.indexmap.specs.IndexMap.{get}
use Rattle.new_intervals.specs.Placed.{block_at}
use Rattle.new_intervals.proofs.Index.{same_back}
use Rattle.new_intervals.proofs.spots.add_spot.Goals as goal

pub returns-in_ok-insert : goal.returns-in_ok-insert
returns-in_ok-insert c = λ q.
    c.in_ok-insert.ensures.updates.0 q
    ∙ ap (λ (t : Bool). cond t (Some c.args.position) (get bytes_eq c.args.index.now q))
    (same_back c.in-Some.id q ∙ sym (c.block_id.ensures q ∙ ap (λ (o : Option (List ℕ)). block_at o q) c.in-Some.is))
