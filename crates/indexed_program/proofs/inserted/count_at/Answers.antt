use Rattle.std.proofs.Common.{ℕ, filter, arith}
use Rattle.std.proofs.lemmas.List.{length-map}
use Rattle.sym_expr.specs.declared.program.Word.{Word}
use Rattle.indexed_program.proofs.Words.{count_parts, is_at}
use Rattle.indexed_program.proofs.inserted.count_at.Goals as goal

pub overflow_sub-result : goal.overflow_sub-result
overflow_sub-result c = omega (arith, count_parts c.args.offset c.args.words.now, c.count_up_to.ensures, c.count_below.ensures.value)

pub returns : goal.returns
returns c =
    let same = length-map (filter (is_at c.args.offset) c.args.words.now) (λ (w : ℕ × Word). w.1) in
    omega (arith, same, count_parts c.args.offset c.args.words.now, c.count_up_to.ensures, c.count_below.ensures.value)
