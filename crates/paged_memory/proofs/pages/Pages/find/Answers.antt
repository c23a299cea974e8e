use Rattle.std.proofs.Common.{◌-◌, arith}
use Rattle.paged_memory.proofs.Places.{none_but_last, lacks_read, Shows-read}
use Rattle.paged_memory.proofs.pages.Pages.find.Goals as goal

pub returns-then-begun-eq0 : goal.returns-then-begun-eq0
returns-then-begun-eq0 c =
    let bound = rw c.deref.ensures.value at c.begun-begun.ensures.bound in
    let point = rw c.deref.ensures.value at c.begun-begun.ensures.point in
    none_but_last c.args.self.now.parts.items c.args.at c.begun-begun.result c.requires.apart bound point (λ d some. absurd (omega (arith, c.if-begun-eq0.true)))

pub returns-then-has : goal.returns-then-has
returns-then-has c =
    let bound = rw c.deref.ensures.value at c.begun-begun.ensures.bound in
    (Shows-read c.args.self.now.parts.items _ (c.begun-begun.result - 1) c.index.result.now c.requires (omega arith) c.index.ensures, c.has.ensures.0 c.if-has.true)

pub returns-else-has : goal.returns-else-has
returns-else-has c =
    let parts = c.args.self.now.parts.items in
    let last = c.begun-begun.result - 1 in
    let bound = rw c.deref.ensures.value at c.begun-begun.ensures.bound in
    let point = rw c.deref.ensures.value at c.begun-begun.ensures.point in
    none_but_last parts c.args.at c.begun-begun.result c.requires.apart bound point
    (λ d some. lacks_read parts last c.args.at c.index.result.now c.has.result d (omega arith) (point.0 last d (omega arith) (omega arith)) c.index.ensures c.has.ensures c.if-has.false)
