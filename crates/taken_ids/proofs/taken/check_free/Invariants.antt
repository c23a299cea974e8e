use Rattle.std.proofs.Common.{◌≡◌, ◌||◌, ℕ, List, None, take}
use Rattle.std.specs.List.{list_any}
use Rattle.std.specs.Str.{bytes_eq}
use Rattle.gt_model.specs.Linked.{repeated}
use Rattle.indexmap.specs.IndexSet.{contains}
use Rattle.taken_ids.proofs.taken.check_free.Given as goal

abbrev pub invariant-loop-id : goal.invariant-loop-id
invariant-loop-id l = record {
  known : (id : List ℕ) → contains bytes_eq l.set id ≡ (list_any (bytes_eq id) (take l.id-index l.derived) || list_any (bytes_eq id) l.taken);
  distinct : repeated l.taken (take l.id-index l.derived) ≡ None;
}
