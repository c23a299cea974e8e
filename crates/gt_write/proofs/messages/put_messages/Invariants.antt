use Rattle.std.proofs.Common.{◌≡◌, ◌++◌, take}
use Rattle.std.specs.List.{AllByRecursion, flat_map}
use Rattle.gt_write.specs.Spelling.{run_record}
use Rattle.gt_write.proofs.messages.put_messages.Given as goal

-- the messages so far are spelled, and their numbers and texts are of their types
abbrev pub invariant-loop-message : goal.invariant-loop-message
invariant-loop-message g l = record {
  spelled : l.out.items ≡ l.initial.out.items ++ flat_map (λ m. run_record l.field (g.M.Spelled.spelled m)) (take l.message-index l.messages);
  typed : AllByRecursion g.M.Spelled.typed (take l.message-index l.messages);
}
