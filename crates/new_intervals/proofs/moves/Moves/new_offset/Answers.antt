use Rattle.std.proofs.Common.{List, sym, subst, ◌∙◌, arith}
use Rattle.std.specs.List.Sorted.{IsNonDecreasingBy}
use Rattle.new_intervals.specs.declared.runs.Run.{Run}
use Rattle.new_intervals.specs.Moving.{ending}
use Rattle.new_intervals.proofs.Moved.{at_end, at_run, ends_rise}
use Rattle.sym_expr.specs.Placing.{placed}
use Rattle.new_intervals.proofs.moves.Moves.new_offset.Goals as goal

pub passed-k-requires : goal.passed-k-requires
passed-k-requires c =
    let m = c.args.self.now in
    subst (λ (l : List Run). IsNonDecreasingBy ending l) (sym c.as_slice.ensures.value) (ends_rise 0 m.runs.items (placed m.stretch.now) c.requires.runs)

pub new_place-requires-clause-behind : goal.new_place-requires-clause-behind
new_place-requires-clause-behind c =
    let has = at_run c.args.self.now c.args.at c.passed-k.result c.requires (rw c.as_slice.ensures.value at c.passed-k.ensures.front) c.index.result.now (omega (arith, c.if-k-len.true, c.len.ensures, c.args.self.now.runs.ok.0)) (rw c.as_slice.ensures.value at c.passed-k.ensures.rest) c.index.ensures in
    has.behind

pub new_place-requires-clause-sorted : goal.new_place-requires-clause-sorted
new_place-requires-clause-sorted c =
    let has = at_run c.args.self.now c.args.at c.passed-k.result c.requires (rw c.as_slice.ensures.value at c.passed-k.ensures.front) c.index.result.now (omega (arith, c.if-k-len.true, c.len.ensures, c.args.self.now.runs.ok.0)) (rw c.as_slice.ensures.value at c.passed-k.ensures.rest) c.index.ensures in
    has.sorted

pub new_place-requires-clause-room : goal.new_place-requires-clause-room
new_place-requires-clause-room c =
    let has = at_run c.args.self.now c.args.at c.passed-k.result c.requires (rw c.as_slice.ensures.value at c.passed-k.ensures.front) c.index.result.now (omega (arith, c.if-k-len.true, c.len.ensures, c.args.self.now.runs.ok.0)) (rw c.as_slice.ensures.value at c.passed-k.ensures.rest) c.index.ensures in
    omega (arith, has.behind, has.goes, has.room)

pub returns-then-k-len : goal.returns-then-k-len
returns-then-k-len c =
    let has = at_run c.args.self.now c.args.at c.passed-k.result c.requires (rw c.as_slice.ensures.value at c.passed-k.ensures.front) c.index.result.now (omega (arith, c.if-k-len.true, c.len.ensures, c.args.self.now.runs.ok.0)) (rw c.as_slice.ensures.value at c.passed-k.ensures.rest) c.index.ensures in
    c.new_place.ensures ∙ has.goes

pub returns-else-k-len : goal.returns-else-k-len
returns-else-k-len c =
    at_end c.args.self.now c.args.at c.passed-k.result c.requires (rw c.as_slice.ensures.value at c.passed-k.ensures.front) (omega (arith, c.if-k-len.false, c.len.ensures, c.args.self.now.runs.ok.0))
