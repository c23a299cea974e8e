use Rattle.std.proofs.Common.{◌≡◌, ◌+◌, ◌-◌, ◌*◌, [], max, map, drop}
use Rattle.aux_types.specs.Shape.{shape_of, shapes, nesting, nesting_of_parts}
use Rattle.aux_codec.specs.Value.{value_of, entry_of}
use Rattle.aux_codec.specs.Spelling.{spelling}
use Rattle.aux_codec.specs.Reading.{members, distinct, pairs, parts_at, value_at}
use Rattle.aux_codec.proofs.Loops.{with_front, IsLeft, AreLeft}
use Rattle.aux_codec.proofs.decode.+value_at.Given as goal

abbrev pub decreases-value_at : goal.decreases-value_at
decreases-value_at l = 4 * nesting (shape_of l.of.now)

abbrev pub decreases-sequence_at : goal.decreases-sequence_at
decreases-sequence_at l = 4 * nesting (shape_of l.inner.now) + 3

abbrev pub decreases-set_at : goal.decreases-set_at
decreases-set_at l = 4 * nesting (shape_of l.inner.now) + 3

abbrev pub decreases-mapping_at : goal.decreases-mapping_at
decreases-mapping_at l = 4 * max (nesting (shape_of l.key.now)) (nesting (shape_of l.value.now)) + 3

abbrev pub decreases-tuple_at : goal.decreases-tuple_at
decreases-tuple_at l = 4 * nesting_of_parts (shapes (map shape_of l.types.now)) + 3

abbrev pub decreases-variant_at : goal.decreases-variant_at
decreases-variant_at l = 4 * nesting_of_parts (shapes (map shape_of l.types.now)) + 3

abbrev pub decreases-fresh_at : goal.decreases-fresh_at
decreases-fresh_at l = 4 * nesting (shape_of l.of.now) + 1

abbrev pub decreases-members : goal.decreases-members
decreases-members l = 4 * nesting (shape_of l.of.now) + 2

abbrev pub decreases-distinct : goal.decreases-distinct
decreases-distinct l = 4 * nesting (shape_of l.of.now) + 2

abbrev pub decreases-pairs : goal.decreases-pairs
decreases-pairs l = 4 * max (nesting (shape_of l.key_type.now)) (nesting (shape_of l.value_type.now)) + 2

abbrev pub decreases-parts_at : goal.decreases-parts_at
decreases-parts_at l = 4 * nesting_of_parts (shapes (map shape_of l.types.now)) + 2

-- with the members that are left, those so far are all
abbrev pub invariant-members-loop : goal.invariant-members-loop
invariant-members-loop l =
    with_front (map value_of l.found.items) (members (value_at l.total (shape_of l.of)) (l.count - l.counter) l.rest) ≡ members (value_at l.total (shape_of l.of)) l.count l.bytes

abbrev pub invariant-distinct-loop : goal.invariant-distinct-loop
invariant-distinct-loop l =
    IsLeft l.total (value_at l.total (shape_of l.of)) (spelling (shape_of l.of)) l.seen (map value_of l.found.items) (l.count - l.counter) l.rest (distinct l.total (value_at l.total (shape_of l.of)) (spelling (shape_of l.of)) [] l.count l.bytes)

abbrev pub invariant-pairs-loop : goal.invariant-pairs-loop
invariant-pairs-loop l =
    AreLeft l.total (value_at l.total (shape_of l.key_type)) (spelling (shape_of l.key_type)) (value_at l.total (shape_of l.value_type)) l.seen (map entry_of l.found.items) (l.count - l.counter) l.rest
    (pairs l.total (value_at l.total (shape_of l.key_type)) (spelling (shape_of l.key_type)) (value_at l.total (shape_of l.value_type)) [] l.count l.bytes)

abbrev pub invariant-parts_at-loop-of : goal.invariant-parts_at-loop-of
invariant-parts_at-loop-of l =
    with_front (map value_of l.found.items) (parts_at l.total (shapes (map shape_of (drop l.of-index l.types))) l.rest) ≡ parts_at l.total (shapes (map shape_of l.types)) l.bytes
