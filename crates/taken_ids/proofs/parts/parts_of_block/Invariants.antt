use Rattle.std.proofs.Common.{◌≡◌, ◌≤◌, ◌+◌, ◌*◌, drop, length}
use Rattle.taken_ids.specs.Cutting.{all_parts, IsUncut}
use Rattle.block_parts.specs.Parts.{cut_words, parts_from}
use Rattle.taken_ids.proofs.parts.parts_of_block.Given as goal

abbrev pub invariant-loop-word : goal.invariant-loop-word
invariant-loop-word l = record {
  rest : all_parts l.cutting (drop l.word-index l.word-items) ≡ parts_from 0 (cut_words l.word-items);
  uncut : IsUncut l.cutting.own.items;
  room : l.cutting.start + 4 * length l.cutting.own.items ≤ 4 * l.word-index;
}
