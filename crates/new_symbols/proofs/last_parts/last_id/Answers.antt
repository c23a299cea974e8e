use Rattle.std.proofs.Common.{List, Option, ap, sym, ◌∙◌}
use Rattle.std.specs.Option.{option_map_or}
use Rattle.block_parts.specs.declared.parts.Part.{Part}
use Rattle.rewrite.specs.Identifiers.{last_part, part_id}
use Rattle.new_symbols.proofs.Lasts.{last_is}
use Rattle.new_symbols.proofs.last_parts.last_id.Goals as goal

pub returns-then-is_empty : goal.returns-then-is_empty
returns-then-is_empty c =
    let m = c.args.module.now in
    let b = c.args.block.now in
    sym (ap (λ (l : List Part). part_id m b.id (last_part l)) (c.whole_blocks_are_one_part.ensures b (c.is_empty.ensures.0 c.if-is_empty.true)))

pub returns-in-Some : goal.returns-in-Some
returns-in-Some c =
    let m = c.args.module.now in
    let b = c.args.block.now in
    c.in_ok-id-in-Some.ensures
    ∙ ap (λ (o : Option Part). option_map_or (part_id m b.id) o b.id) c.in-Some.ensures.value
    ∙ last_is m b.id c.as_slice-listed.result.now
    ∙ ap (λ (l : List Part). part_id m b.id (last_part l)) (c.as_slice-listed.ensures ∙ c.in_ok-parts.ensures)
