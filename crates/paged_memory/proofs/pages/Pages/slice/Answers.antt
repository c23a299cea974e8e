use Rattle.std.proofs.Common.{◌≡◌, ℕ, ◌+◌, ◌-◌, List, take, drop, ap, ◌∙◌, arith}
use Rattle.paged_memory.proofs.Stretches.{bytes_shown}
use Rattle.paged_memory.proofs.pages.Pages.slice.Goals as goal

pub returns : goal.returns
returns c =
    let part = c.args.part.now in
    let count : part.start + part.count - part.start ≡ part.count = omega arith in
    ap (λ (n : ℕ). take n (drop part.start c.deref.result.now)) count ∙ ap (λ (xs : List ℕ). take part.count (drop part.start xs)) c.deref.ensures.value
    ∙ bytes_shown c.args.self.now.parts.items c.args.self.now.bytes.items part c.requires
