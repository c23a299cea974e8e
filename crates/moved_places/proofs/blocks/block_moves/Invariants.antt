use Rattle.std.proofs.Common.{◌≡◌, ◌<◌, ◌^◌, take}
use Rattle.std.specs.List.{AllByRecursion, flat_map}
use Rattle.aux_codec.specs.declared.value.Place.{Place}
use Rattle.moved_places.specs.Blocks.{part_places}
use Rattle.moved_places.proofs.CodeBlocks.{end_of}
use Rattle.moved_places.proofs.blocks.block_moves.Given as goal

abbrev pub invariant-loop-part : goal.invariant-loop-part
invariant-loop-part l = record {
  words : l.words.items ≡ flat_map (part_places l.module l.block.id) (take l.part-index l.part-items);
  near : AllByRecursion (λ (w : Place). w.offset < 2 ^ 62) l.words.items;
  end : l.end ≡ end_of l.module l.block.id (take l.part-index l.part-items);
}
