use Rattle.std.proofs.Common.{◌≡◌, ◌+◌, ◌-◌, ◌∙◌, Some, None, List, ℕ, cond, length, take, drop, refl, ap, sym, arith}
use Rattle.std.proofs.lemmas.List.{length-drop, length-take}
use Rattle.cell_memory.specs.Shown.{kept_in}
use Rattle.cell_memory.proofs.Parts.{bytes_read}
use Rattle.cell_memory.proofs.Runs.{length-cells}
use Rattle.cell_memory.proofs.cells.Cells.bytes.Goals as goal

pub overflow_add-end : goal.overflow_add-end
overflow_add-end c = let all = length-cells (kept_in c.args.self.now) 0 c.args.self.now.bytes.items c.args.self.now.marks.items in omega arith

pub slice_bounds-are_bytes-end : goal.slice_bounds-are_bytes-end
slice_bounds-are_bytes-end c = let all = length-cells (kept_in c.args.self.now) 0 c.args.self.now.bytes.items c.args.self.now.marks.items in omega arith

pub slice_bounds-result-end : goal.slice_bounds-result-end
slice_bounds-result-end c = let all = length-cells (kept_in c.args.self.now) 0 c.args.self.now.bytes.items c.args.self.now.marks.items in omega arith

pub returns-then-are_bytes-clause-bytes : goal.returns-then-are_bytes-clause-bytes
returns-then-are_bytes-clause-bytes c =
    let self = c.args.self.now in
    let at = c.args.at in
    let count : at + c.args.count - at ≡ c.args.count = omega arith in
    let xs = c.deref-then-are_bytes.result.now in
    sym (bytes_read (kept_in self) self.bytes.items self.marks.items xs c.deref.result.now at c.args.count (at + c.args.count - at) c.are_bytes.result c.deref-then-are_bytes.ensures.value c.deref.ensures.value count c.requires c.are_bytes.ensures
    ∙ ap (λ t. cond t (Some (take (at + c.args.count - at) (drop at xs))) None) c.if-are_bytes.true)

pub returns-then-are_bytes-clause-count : goal.returns-then-are_bytes-clause-count
returns-then-are_bytes-clause-count c =
    let all = length-cells (kept_in c.args.self.now) 0 c.args.self.now.bytes.items c.args.self.now.marks.items in
    let xs : List ℕ = c.deref-then-are_bytes.result.now in
    let same : length xs ≡ length c.args.self.now.bytes.items = ap length c.deref-then-are_bytes.ensures.value in
    omega (arith, length-take (c.args.at + c.args.count - c.args.at) (drop c.args.at xs), length-drop c.args.at xs)

pub returns-else-are_bytes-clause-bytes : goal.returns-else-are_bytes-clause-bytes
returns-else-are_bytes-clause-bytes c =
    let self = c.args.self.now in
    let at = c.args.at in
    let count : at + c.args.count - at ≡ c.args.count = omega arith in
    sym (bytes_read (kept_in self) self.bytes.items self.marks.items self.bytes.items c.deref.result.now at c.args.count (at + c.args.count - at) c.are_bytes.result refl c.deref.ensures.value count c.requires c.are_bytes.ensures
    ∙ ap (λ t. cond t (Some (take (at + c.args.count - at) (drop at self.bytes.items))) None) c.if-are_bytes.false)
