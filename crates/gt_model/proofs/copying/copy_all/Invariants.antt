use Rattle.std.proofs.Common.{◌≡◌, take}
use Rattle.gt_model.proofs.copying.copy_all.Given as goal

-- the elements so far are copied
abbrev pub invariant-loop-item : goal.invariant-loop-item
invariant-loop-item g l = l.copies.items ≡ take l.item-index l.items
