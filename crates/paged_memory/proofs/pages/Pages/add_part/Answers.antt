use Rattle.paged_memory.proofs.Added.{part_added}
use Rattle.std.proofs.Common.{length, refl, ◌∙◌}
use Rattle.paged_memory.specs.declared.part.Part.{Part}
use Rattle.paged_memory.proofs.pages.Pages.add_part.Goals as goal

pub returns-clause-bytes : goal.returns-clause-bytes
returns-clause-bytes c =
    let old = c.args.self.now in
    let part : Part = record { at = c.args.at; count = length c.args.bytes.now; start = c.len-start.result } in
    rw (c.in_ok-push.ensures.items, c.in_ok-extend_from_slice.ensures.items) (part_added old.parts.items old.bytes.items c.args.at c.args.bytes.now part c.requires.pages c.requires.end refl refl (c.len-start.ensures ∙ old.bytes.ok.0))
