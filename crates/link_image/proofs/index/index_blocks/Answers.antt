use Rattle.std.proofs.Common.{◌∙◌, ℕ, Option, ◌+◌, ◌^◌, ◌≤◌, ap, sym, subst}
use Rattle.std.specs.Option.{unwrap_or}
use Rattle.std.specs.Str.{bytes_eq}
use Rattle.indexmap.specs.IndexMap.{get}
use Rattle.sym_expr.specs.Placing.{stretch_size}
use Rattle.link_image.specs.Ready.{all_addressed}
use Rattle.link_image.proofs.Lists.{at_item}
use Rattle.link_image.proofs.Parts.{Fits, all_fit}
use Rattle.link_image.proofs.Steps.{stretch_kept}
use Rattle.link_image.proofs.index.index_blocks.Goals as goal

pub add_stretch-requires : goal.add_stretch-requires
add_stretch-requires c =
    let s = c.stretch-item.result in
    subst (λ a. a + stretch_size s ≤ 2 ^ 47) (sym (c.place_of.ensures ∙ ap (λ (o : Option ℕ). unwrap_or o 0) (c.requires.places s.id)))
    (at_item (Fits c.args.layout.now) c.args.program.now.stretches c.loop-stretch.stretch-index s (rw c.as_slice-stretch-items.ensures at c.loop-stretch-test.true) (rw c.as_slice-stretch-items.ensures at c.stretch-item.is) (all_fit c.args.layout.now c.args.program.now c.requires.accepted))

pub loop-stretch-preserved : goal.loop-stretch-preserved
loop-stretch-preserved c =
    let s = c.stretch-item.result in
    stretch_kept c.args.layout.now c.args.program.now.stretches c.loop-stretch.stretch-index s c.place_of.result (all_addressed c.args.layout.now c.args.program.now) (get bytes_eq c.loop-stretch.blocks) (get bytes_eq c.add_stretch.new.blocks)
    (rw c.as_slice-stretch-items.ensures at c.loop-stretch-test.true) (rw c.as_slice-stretch-items.ensures at c.stretch-item.is) (c.place_of.ensures ∙ ap (λ (o : Option ℕ). unwrap_or o 0) (c.requires.places s.id)) c.in_ok-add_stretch.ensures c.loop-stretch.invariant
