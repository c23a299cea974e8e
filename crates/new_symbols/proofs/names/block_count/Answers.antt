use Rattle.std.proofs.Common.{◌≡◌, ℕ, ◌+◌, List, ◌∷◌, drop, sym, ap, ◌∙◌, arith}
use Rattle.std.proofs.lemmas.List.{at_drop_all, at_drop_more}
use Rattle.new_symbols.specs.declared.names.Begun.{Begun}
use Rattle.new_symbols.specs.Naming.{next_begun}
use Rattle.new_symbols.proofs.Cutting.{blocks_counted, next_counts, next_small}
use Rattle.sym_expr.specs.declared.patches.FunLine.{FunLine}
use Rattle.taken_ids.specs.Functions.{starts_in}
use Rattle.new_symbols.proofs.names.block_count.Goals as goal

pub returns : goal.returns
returns c =
    let all = at_drop_all (λ (ls : List FunLine). starts_in c.loop-line.begun.fresh ls) c.as_slice-line-items.result.now c.loop-line.line-index c.loop-line-test.false in
    omega (arith, all, c.loop-line.invariant.rest, blocks_counted c.args.function.now)

pub loop-line-preserved : goal.loop-line-preserved
loop-line-preserved c =
    let b = c.loop-line.begun in
    let lines = c.as_slice-line-items.result.now in
    let k = c.loop-line.line-index in
    let line = c.line-item.result in
    let yet : Begun → List FunLine → ℕ = λ (n : Begun) (ls : List FunLine). n.count + starts_in n.fresh ls in
    record {
      rest = ap (λ (n : Begun). yet n (drop (k + 1) lines)) c.next-begun.ensures
          ∙ next_counts b line (drop (k + 1) lines)
          ∙ ap (λ (x : FunLine). yet b (x ∷ drop (k + 1) lines)) c.line-item.is
          ∙ sym (at_drop_more (yet b) lines k line c.loop-line-test.true)
          ∙ c.loop-line.invariant.rest;
      room = let same = ap (λ (n : Begun). n.count) c.next-begun.ensures in let most = next_small b line k c.loop-line.invariant.room in omega (arith, same, most);
    }
