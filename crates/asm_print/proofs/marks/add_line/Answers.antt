use Rattle.std.proofs.Common.{ℕ, List, Option, Some, cond, sym, ap, ◌∙◌}
use Rattle.indexmap.specs.IndexMap.{get}
use Rattle.asm_print.specs.Names.{same_place}
use Rattle.asm_print.proofs.Placed.{first_line, one_place}
use Rattle.asm_print.proofs.marks.add_line.Goals as goal

pub returns-in_ok-insert-in-None : goal.returns-in_ok-insert-in-None
returns-in_ok-insert-in-None c = λ q.
    let old = get same_place c.args.lines.now in
    let place = c.args.place in
    let same = ap (λ lines. get same_place lines q) c.get_mut.follows.holds-at-none in
    first_line (old q) (get same_place c.insert.new.self q) (same_place place q) c.args.line.now
    (λ hit. ap old (sym (one_place place q hit)) ∙ sym c.in-None.ensures.value)
    (c.in_ok-insert-in-None.ensures.updates.0 q
    ∙ ap (λ (o : Option (List ℕ)). cond (same_place place q) (Some c.in_ok-from_slice-in-None.field-0) o) same
    ∙ ap (λ (l : List ℕ). cond (same_place place q) (Some l) (old q)) c.in_ok-from_slice-in-None.ensures)
