use Rattle.std.proofs.Common.{◌≡◌, ◌+◌, ◌*◌, ◌++◌, max, map, drop}
use Rattle.aux_types.specs.Shape.{shape_of, shapes, nesting, nesting_of_parts}
use Rattle.aux_codec.specs.Value.{value_of, entry_of, values, entries}
use Rattle.aux_codec.specs.Spelling.{spelling, spell_each, spell_entries, spell_parts}
use Rattle.aux_codec.proofs.encode.+put_value.Given as goal

abbrev pub decreases-put_value : goal.decreases-put_value
decreases-put_value l = 3 * nesting (shape_of l.of.now) + 2

abbrev pub decreases-put_many : goal.decreases-put_many
decreases-put_many l = 3 * nesting (shape_of l.of.now) + 1

abbrev pub decreases-put_pairs : goal.decreases-put_pairs
decreases-put_pairs l = 3 * nesting (shape_of l.of.now) + 1

abbrev pub decreases-put_parts : goal.decreases-put_parts
decreases-put_parts l = 3 * nesting (shape_of l.of.now) + 1

abbrev pub decreases-put_choice : goal.decreases-put_choice
decreases-put_choice l = 3 * nesting (shape_of l.of.now) + 1

abbrev pub decreases-put_each : goal.decreases-put_each
decreases-put_each l = 3 * nesting (shape_of l.of.now) + 3

abbrev pub decreases-put_entries : goal.decreases-put_entries
decreases-put_entries l = 3 * max (nesting (shape_of l.key_type.now)) (nesting (shape_of l.value_type.now)) + 3

abbrev pub decreases-put_each_part : goal.decreases-put_each_part
decreases-put_each_part l = 3 * nesting_of_parts (shapes (map shape_of l.types.now)) + 3

-- what is written so far, before what is left, is all behind what stood there
abbrev pub invariant-put_each-loop-member : goal.invariant-put_each-loop-member
invariant-put_each-loop-member l =
    l.out.items ++ spell_each (spelling (shape_of l.of)) (values (map value_of (drop l.member-index l.members))) ≡ l.fn.out.items ++ spell_each (spelling (shape_of l.of)) (values (map value_of l.members))

abbrev pub invariant-put_entries-loop-pair : goal.invariant-put_entries-loop-pair
invariant-put_entries-loop-pair l =
    l.out.items ++ spell_entries (spelling (shape_of l.key_type)) (spelling (shape_of l.value_type)) (entries (map entry_of (drop l.pair-index l.pairs)))
    ≡ l.fn.out.items ++ spell_entries (spelling (shape_of l.key_type)) (spelling (shape_of l.value_type)) (entries (map entry_of l.pairs))

abbrev pub invariant-put_each_part-loop-at : goal.invariant-put_each_part-loop-at
invariant-put_each_part-loop-at l =
    l.out.items ++ spell_parts (shapes (map shape_of (drop l.at l.types))) (values (map value_of (drop l.at l.parts))) ≡ l.fn.out.items ++ spell_parts (shapes (map shape_of l.types)) (values (map value_of l.parts))
