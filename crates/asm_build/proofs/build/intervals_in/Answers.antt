use Rattle.std.proofs.Common.{◌≡◌, ◌∷◌, length, sym, ap, ◌∙◌, arith}
use Rattle.std.specs.Vec.Iter.{into_iter_items}
use Rattle.asm_modules.specs.Modules.{intervals_in}
use Rattle.asm_build.proofs.Built.{all_joined, joined, joined_line}
use Rattle.asm_build.proofs.build.intervals_in.Goals as goal

pub loop-line-preserved : goal.loop-line-preserved
loop-line-preserved c =
    let at = c.loop-line in
    let line = c.in-Some.line in
    let rest = into_iter_items c.next.new.self in
    let steps : into_iter_items at.line-iterator ≡ line ∷ rest = c.in-Some.ensures.steps.0 in
    record {
      joined =
          joined_line at.intervals.items c.add_line.new.intervals.items line rest c.in_ok-add_line.ensures
          ∙ ap (λ ls. joined at.intervals.items ls) (sym steps)
          ∙ at.invariant.joined;
      rest =
          let was = at.invariant.rest in
          let gone = c.in-Some.ensures.steps.1 in
          let short = ap length steps in
          omega arith;
    }

pub returns : goal.returns
returns c =
    let at = c.loop-line in
    let none = c.in-None.ensures.steps in
    c.from_vec.ensures
    ∙ all_joined at.intervals.items (intervals_in c.args.lines) (into_iter_items at.line-iterator) (sym at.invariant.rest ∙ none.0)
    (at.invariant.joined ∙ ap intervals_in (c.into_iter-line-iterator.ensures.into_iter_gives.0 ∙ c.into_vec-line-items.ensures))
