use Rattle.std.proofs.Common.{false, Option, ap, ◌∙◌}
use Rattle.std.specs.Option.{option_map_or}
use Rattle.block_parts.specs.declared.words.PatchedWord.{PatchedWord}
use Rattle.block_parts.specs.Parts.{is_cut}
use Rattle.taken_ids.proofs.Cuts.{cut_by_last}
use Rattle.taken_ids.proofs.cutting.is_cut_behind.Goals as goal

pub returns-in-Some : goal.returns-in-Some
returns-in-Some c =
    let next = c.args.next.now in
    c.is_cut.ensures
    ∙ ap (λ (o : Option PatchedWord). option_map_or (λ (w : PatchedWord). is_cut w next) o false) c.in-Some.ensures.value
    ∙ cut_by_last c.args.words.now next
