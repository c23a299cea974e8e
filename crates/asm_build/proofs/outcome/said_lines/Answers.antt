use Rattle.std.proofs.Common.{◌≡◌, ◌∷◌, length, sym, ap, ◌∙◌, arith}
use Rattle.std.specs.Vec.Iter.{into_iter_items}
use Rattle.asm_modules.specs.Outcomes.{lines_in}
use Rattle.asm_build.proofs.Built.{all_said, said_next}
use Rattle.asm_build.proofs.outcome.said_lines.Goals as goal

pub loop-line-preserved : goal.loop-line-preserved
loop-line-preserved c =
    let at = c.loop-line in
    let line = c.in-Some.line in
    let rest = into_iter_items c.next.new.self in
    let steps : into_iter_items at.line-iterator ≡ line ∷ rest = c.in-Some.ensures.steps.0 in
    record {
      said = said_next at.lines c.push_said.new.lines _ (into_iter_items at.line-iterator) line rest steps c.in_ok-push_said.ensures at.invariant.said;
      rest =
          let was = at.invariant.rest in
          let gone = c.in-Some.ensures.steps.1 in
          let short = ap length steps in
          omega arith;
    }

pub returns : goal.returns
returns c =
    let at = c.loop-line in
    let none = c.in-None.ensures.steps in
    all_said at.lines (lines_in c.args.given) (into_iter_items at.line-iterator) (sym at.invariant.rest ∙ none.0)
    (at.invariant.said ∙ ap lines_in (c.into_iter-line-iterator.ensures.into_iter_gives.0 ∙ c.into_vec-line-items.ensures))
