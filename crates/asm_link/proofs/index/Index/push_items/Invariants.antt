use Rattle.std.proofs.Common.{◌≡◌, ◌+◌, ◌++◌, drop, sum_by}
use Rattle.std.specs.List.{filter_map}
use Rattle.asm_modules.specs.Places.{item_size}
use Rattle.sym_expr.specs.Images.{first_fault}
use Rattle.asm_link.specs.Linked.{item_fault, items_at, items_bytes}
use Rattle.asm_link.proofs.index.Index.push_items.Given as goal

abbrev pub invariant-loop-item : goal.invariant-loop-item
invariant-loop-item l = record {
  inside : l.offset + sum_by item_size (drop l.item-index l.items) ≡ sum_by item_size l.items;
  faults : first_fault (filter_map (item_fault l.self.layout.now l.self.asm.now.labels l.interval) (items_at l.offset (drop l.item-index l.items))) ≡ first_fault (filter_map (item_fault l.self.layout.now l.self.asm.now.labels l.interval) (items_at 0 l.items));
  bytes : l.out.items ++ items_bytes l.self.layout.now l.self.asm.now.labels (l.start + l.offset) (drop l.item-index l.items) ≡ l.fn.out.items ++ items_bytes l.self.layout.now l.self.asm.now.labels l.start l.items;
}
