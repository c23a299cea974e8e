use Rattle.std.proofs.Common.{◌++◌, ◌∷◌, [], ap, ◌∙◌}
use Rattle.block_parts.specs.Parts.{part}
use Rattle.taken_ids.proofs.Steps.{last_part}
use Rattle.taken_ids.proofs.cutting.Cutting.finished.Goals as goal

pub returns : goal.returns
returns c =
    let whole = c.args.self.whole.items in
    c.from_vec.ensures
    ∙ c.in_ok-push.ensures.items
    ∙ ap (λ ws. whole ++ part c.args.self.start ws ∷ []) c.from_vec-words.ensures
    ∙ last_part whole c.args.self.start c.args.self.own.items c.requires.uncut
