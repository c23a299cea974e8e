use Rattle.std.proofs.Common.{◌≡◌, ◌∙◌, ◌+◌, ◌&&◌, true, false, get_or, take, drop, sym, ap, arith}
use Rattle.cell_memory.specs.Shown.{kept_in, shown}
use Rattle.cell_memory.specs.Wholes.{are_parts_of, is_part_of}
use Rattle.cell_memory.proofs.Parts.{parts_step}
use Rattle.cell_memory.proofs.Runs.{length-cells}
use Rattle.sym_expr.specs.Values.{Blank}
use Rattle.cell_memory.proofs.cells.Cells.are_parts.Goals as goal

pub overflow_add-at : goal.overflow_add-at
overflow_add-at c = let all = length-cells (kept_in c.args.self.now) 0 c.args.self.now.bytes.items c.args.self.now.marks.items in omega arith

pub returns-then-not-is_part : goal.returns-then-not-is_part
returns-then-not-is_part c =
    let cs = shown c.args.self.now in
    let k = c.loop-place.place in
    let w = c.args.whole.now in
    let known : c.is_part.result ≡ false = grind arith in
    sym (c.loop-place.invariant.same
    ∙ parts_step cs c.args.at c.args.count k c.requires w c.is_part.result c.loop-place-test.true (c.is_part.ensures ∙ ap (λ n. is_part_of k w (get_or cs (c.args.at + n) Blank)) c.from.ensures)
    ∙ ap (λ t. t && are_parts_of (k + 1) w (drop (k + 1) (take c.args.count (drop c.args.at cs)))) known)

pub loop-place-preserved : goal.loop-place-preserved
loop-place-preserved c =
    let cs = shown c.args.self.now in
    let k = c.loop-place.place in
    let w = c.args.whole.now in
    let known : c.is_part.result ≡ true = grind arith in
    record {
      within = omega arith;
      same = c.loop-place.invariant.same
          ∙ parts_step cs c.args.at c.args.count k c.requires w c.is_part.result c.loop-place-test.true (c.is_part.ensures ∙ ap (λ n. is_part_of k w (get_or cs (c.args.at + n) Blank)) c.from.ensures)
          ∙ ap (λ t. t && are_parts_of (k + 1) w (drop (k + 1) (take c.args.count (drop c.args.at cs)))) known;
    }
