use Rattle.std.proofs.Common.{◌≡◌, ◌++◌, length, map, refl, sym, ap, ◌∙◌, append_assoc, arith}
use Rattle.std.specs.Int.{w64, to_le_bytes}
use Rattle.std.proofs.lemmas.Option.{slice_get_read}
use Rattle.std.proofs.lemmas.Result.{on_ok_weaker}
use Rattle.aux_types.specs.Shape.{shape_of, shapes, nesting, Variant}
use Rattle.aux_codec.specs.Value.{value_of, entry_of, values, entries, Choice}
use Rattle.aux_codec.specs.Spelling.{HasType, spelling, spell_each, spell_entries, spell_parts}
use Rattle.aux_codec.proofs.Writing.{count_values, count_pairs, each_at, entry_at, parts_long, part_at, entries_go_on, parts_go_on}
use Rattle.aux_codec.proofs.Chosen.{chosen_has_type, chosen_spelling, chosen_absent, nesting_of_part}
use Rattle.aux_codec.proofs.encode.+put_value.Goals as goal

pub put_each-put_value-requires : goal.put_each-put_value-requires
put_each-put_value-requires t c =
    (omega arith, each_at (HasType (shape_of c.args.of.now)) c.args.members.now c.loop-member.member-index c.member-item.result c.loop-member-test.true c.member-item.is c.requires)

pub put_each_part-bounds-parts-at : goal.put_each_part-bounds-parts-at
put_each_part-bounds-parts-at t c = omega (arith, parts_long c.args.types.now c.args.parts.now c.requires)

pub put_each_part-put_value-requires : goal.put_each_part-put_value-requires
put_each_part-put_value-requires t c =
    let deep = nesting_of_part c.args.types.now c.loop-at.at c.index-types-at.result (slice_get_read c.args.types.now (length c.args.types.now) c.loop-at.at c.index-types-at.result refl c.loop-at-test.true c.index-types-at.is) in
    (omega (arith, deep), part_at c.args.types.now c.args.parts.now c.loop-at.at c.index-types-at.result c.index-parts-at.result c.loop-at-test.true c.index-types-at.is c.index-parts-at.is c.requires)

pub put_each_part-loop-at-preserved : goal.put_each_part-loop-at-preserved
put_each_part-loop-at-preserved t c =
    rw c.in_ok-put_value.ensures (parts_go_on c.args.types.now c.args.parts.now c.loop-at.at c.index-types-at.result c.index-parts-at.result c.loop-at.out.items
    (c.args.out.now.items ++ spell_parts (shapes (map shape_of c.args.types.now)) (values (map value_of c.args.parts.now)))
    c.loop-at-test.true (omega (arith, parts_long c.args.types.now c.args.parts.now c.requires)) c.index-types-at.is c.index-parts-at.is c.loop-at.invariant)

pub put_entries-put_value-requires : goal.put_entries-put_value-requires
put_entries-put_value-requires t c =
    (omega arith, (entry_at (HasType (shape_of c.args.key_type.now)) (HasType (shape_of c.args.value_type.now)) c.args.pairs.now c.loop-pair.pair-index c.pair-item.result c.loop-pair-test.true c.pair-item.is c.requires).0)

pub put_entries-put_value-requires-in-loop-pair : goal.put_entries-put_value-requires-in-loop-pair
put_entries-put_value-requires-in-loop-pair t c =
    (omega arith, (entry_at (HasType (shape_of c.args.key_type.now)) (HasType (shape_of c.args.value_type.now)) c.args.pairs.now c.loop-pair.pair-index c.pair-item.result c.loop-pair-test.true c.pair-item.is c.requires).1)

pub put_entries-loop-pair-preserved : goal.put_entries-loop-pair-preserved
put_entries-loop-pair-preserved t c =
    rw (c.in_ok-put_value-2.ensures, c.in_ok-put_value.ensures) (entries_go_on (spelling (shape_of c.args.key_type.now)) (spelling (shape_of c.args.value_type.now)) c.args.pairs.now c.loop-pair.pair-index c.pair-item.result c.loop-pair.out.items
    (c.args.out.now.items ++ spell_entries (spelling (shape_of c.args.key_type.now)) (spelling (shape_of c.args.value_type.now)) (entries (map entry_of c.args.pairs.now)))
    c.loop-pair-test.true c.pair-item.is c.loop-pair.invariant)

pub put_many-returns-in-Sequence : goal.put_many-returns-in-Sequence
put_many-returns-in-Sequence t c =
    on_ok_weaker c.put_each.result (λ e. e ∙ rw (c.in_ok-put_u64.ensures, c.in-Sequence.ensures, count_values c.args.members.now) (append_assoc c.args.out.now.items (to_le_bytes w64 (length c.args.members.now)) (spell_each (spelling (shape_of c.in-Sequence.inner.now)) (values (map value_of c.args.members.now))))) c.put_each.ensures

pub put_many-returns-in-Set : goal.put_many-returns-in-Set
put_many-returns-in-Set t c =
    on_ok_weaker c.put_each-in-Set.result (λ e. e ∙ rw (c.in_ok-put_u64.ensures, c.in-Set.ensures, count_values c.args.members.now) (append_assoc c.args.out.now.items (to_le_bytes w64 (length c.args.members.now)) (spell_each (spelling (shape_of c.in-Set.inner.now)) (values (map value_of c.args.members.now))))) c.put_each-in-Set.ensures

pub put_pairs-returns : goal.put_pairs-returns
put_pairs-returns t c =
    on_ok_weaker c.put_entries.result (λ e. e ∙ rw (c.in_ok-put_u64.ensures, c.in-Mapping.ensures, count_pairs c.args.pairs.now) (append_assoc c.args.out.now.items (to_le_bytes w64 (length c.args.pairs.now)) (spell_entries (spelling (shape_of c.in-Mapping.key.now)) (spelling (shape_of c.in-Mapping.value.now)) (entries (map entry_of c.args.pairs.now))))) c.put_entries.ensures

pub put_choice-put_value-requires : goal.put_choice-put_value-requires
put_choice-put_value-requires t c =
    let typed : HasType (Variant (shapes (map shape_of c.in-Variant.types.now))) (Choice c.args.index (value_of c.args.chosen.now)) = rw c.in-Variant.ensures at c.requires in
    let deep = nesting_of_part c.in-Variant.types.now c.args.index c.in-Some.part.now (sym c.in-Some.ensures) in
    let whole = ap nesting c.in-Variant.ensures in
    (omega (arith, deep, whole), chosen_has_type c.in-Variant.types.now c.args.index c.in-Some.part.now (value_of c.args.chosen.now) (sym c.in-Some.ensures) typed.1)

pub put_choice-unreachable-requires : goal.put_choice-unreachable-requires
put_choice-unreachable-requires t c =
    let typed : HasType (Variant (shapes (map shape_of c.in-Variant.types.now))) (Choice c.args.index (value_of c.args.chosen.now)) = rw c.in-Variant.ensures at c.requires in
    chosen_absent c.in-Variant.types.now c.args.index (value_of c.args.chosen.now) (sym c.in-None.ensures) typed.1

pub put_choice-returns : goal.put_choice-returns
put_choice-returns t c =
    on_ok_weaker c.put_value.result (λ e. e ∙ rw (c.in_ok-put_u64.ensures, c.in-Variant.ensures, chosen_spelling c.in-Variant.types.now c.args.index c.in-Some.part.now (value_of c.args.chosen.now) (sym c.in-Some.ensures)) (append_assoc c.args.out.now.items (to_le_bytes w64 c.args.index) (spelling (shape_of c.in-Some.part.now) (value_of c.args.chosen.now)))) c.put_value.ensures
