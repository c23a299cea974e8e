use Rattle.std.proofs.Common.{◌∙◌, ℕ, sym, ap, arith}
use Rattle.std.specs.Option.{option_and_then, option_map}
use Rattle.cell_memory.specs.declared.whole.Span.{Span}
use Rattle.cell_memory.specs.Shown.{kept_in}
use Rattle.cell_memory.proofs.Parts.{part_read}
use Rattle.cell_memory.proofs.Runs.{length-cells}
use Rattle.cell_memory.proofs.cells.Cells.part.Goals as goal

pub index-requires : goal.index-requires
index-requires c = let all = length-cells (kept_in c.args.self.now) 0 c.args.self.now.bytes.items c.args.self.now.marks.items in omega arith

pub index-requires-2 : goal.index-requires-2
index-requires-2 c = let all = length-cells (kept_in c.args.self.now) 0 c.args.self.now.bytes.items c.args.self.now.marks.items in omega arith

pub returns-in-Some : goal.returns-in-Some
returns-in-Some c =
    let self = c.args.self.now in
    c.kept_part.ensures
    ∙ sym (part_read (kept_in self) self.bytes.items self.marks.items c.args.at c.index.result.now c.index-2.result.now c.requires c.index.ensures c.index-2.ensures
    ∙ ap (option_and_then (λ (p : ℕ × Span). option_map (λ w. (p.0, w)) (kept_in self p.1))) (sym c.in-Some.ensures))

pub returns-in-None : goal.returns-in-None
returns-in-None c =
    let self = c.args.self.now in
    sym (part_read (kept_in self) self.bytes.items self.marks.items c.args.at c.index.result.now c.index-2.result.now c.requires c.index.ensures c.index-2.ensures
    ∙ ap (option_and_then (λ (p : ℕ × Span). option_map (λ w. (p.0, w)) (kept_in self p.1))) (sym c.in-None.ensures))
