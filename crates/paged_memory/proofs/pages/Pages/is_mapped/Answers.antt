use Rattle.std.proofs.Common.{◌≡◌, ℕ, ◌+◌, true, ap, subst, sym, ◌∙◌, arith}
use Rattle.std.specs.Prelude.{is_some}
use Rattle.paged_memory.specs.Mapped.{paged, place_of}
use Rattle.paged_memory.proofs.Places.{none_beyond}
use Rattle.paged_memory.proofs.Spans.{is_mapped-each, is_mapped-missing, each-more}
use Rattle.paged_memory.proofs.Stretches.{unmapped, byte_shown}
use Rattle.paged_memory.proofs.pages.Pages.is_mapped.Goals as goal

pub returns-in_default-clause-mapped : goal.returns-in_default-clause-mapped
returns-in_default-clause-mapped c =
    let p = c.args.self.now in
    let here = c.args.at + c.loop-done.done in
    is_mapped-missing (paged p) c.args.at c.args.count c.loop-done.done c.loop-done-test.true (ap is_some (unmapped p.parts.items p.bytes.items here (none_beyond p.parts.items _ here c.requires (omega (arith, c.in_default.ensures)))))

pub returns-in_default-run-clause-mapped : goal.returns-in_default-run-clause-mapped
returns-in_default-run-clause-mapped c =
    let p = c.args.self.now in
    let here = c.args.at + c.loop-done.done in
    is_mapped-missing (paged p) c.args.at c.args.count c.loop-done.done c.loop-done-test.true (ap is_some (unmapped p.parts.items p.bytes.items here (ap (place_of p.parts.items) (sym c.in-Some.ensures.1) ∙ c.in_default-run.ensures.part)))

pub loop-done-preserved : goal.loop-done-preserved
loop-done-preserved c =
    let p = c.args.self.now in
    let part = c.in-Some-run.part in
    let shows = c.in-Some-run.ensures.part in
    let place : part.at ≡ c.args.at + c.loop-done.done = c.in-Some-run.ensures.at ∙ c.in-Some.ensures.1 in
    record {
      few = omega (arith, c.in-Some-run.ensures.most);
      fits = omega (arith, shows.high, place);
      mapped = each-more (paged p) c.args.at c.loop-done.done part.count c.loop-done.invariant.mapped (λ k lt. subst (λ (a : ℕ). is_some (paged p (a + k)) ≡ true) place (ap is_some (byte_shown p.parts.items p.bytes.items part shows k lt)));
    }

pub returns-clause-mapped : goal.returns-clause-mapped
returns-clause-mapped c = sym (is_mapped-each (paged c.args.self.now) c.args.at c.args.count (λ k lt. c.loop-done.invariant.mapped k (omega arith)))
