use Rattle.std.proofs.Common.{◌≡◌, ◌-◌, ◌+◌, ◌++◌, ◌∷◌, [], true, false, Some, None, Ok, length, take, drop, map, refl, sym, ap, ◌∙◌, arith}
use Rattle.std.proofs.Math.Nat.{sub-zero}
use Rattle.std.specs.Prelude.{not}
use Rattle.std.specs.List.{list_any}
use Rattle.std.specs.Str.{bytes_eq}
use Rattle.std.proofs.lemmas.Result.{err_from_is_err_and}
use Rattle.std.proofs.lemmas.List.{map_push, length-append}
use Rattle.std.proofs.Math.ListN.{drop_of_length-le}
use Rattle.std.proofs.lemmas.Option.{slice_get_read}
use Rattle.aux_types.specs.Shape.{shape_of, shapes, nesting}
use Rattle.aux_codec.specs.Value.{value_of, entry_of, values}
use Rattle.aux_codec.specs.Spelling.{spelling}
use Rattle.aux_codec.specs.Reading.{place, members, distinct, pairs, parts_at, value_at}
use Rattle.aux_codec.proofs.Chosen.{chosen_is, chosen_none, nesting_of_part, next_is, taken_is}
use Rattle.aux_codec.proofs.Loops.{members_fail, members_go_on, members_done, distinct_starts, distinct_refused, distinct_go_on, distinct_done, pairs_start, pairs_refused, pairs_value_fail, pairs_go_on, pairs_done, parts_fail, parts_go_on, parts_done, fresh_ok, not_false, not_true, fails_on}
use Rattle.aux_codec.proofs.Takes.{value_takes}
use Rattle.aux_codec.proofs.Views.{value_choice}
use Rattle.aux_codec.proofs.decode.+value_at.Goals as goal

pub members-returns-in_err-value : goal.members-returns-in_err-value
members-returns-in_err-value t c =
    let p = err_from_is_err_and c.from_residual.result c.from_residual.ensures.1 in
    rw (p.1, p.2) (members_fail (value_at c.args.total (shape_of c.args.of.now)) (map value_of c.loop.found.items) c.args.count c.loop.counter c.loop.rest.now (members (value_at c.args.total (shape_of c.args.of.now)) c.args.count c.args.bytes.now) c.loop.invariant c.in_err-value.field-0.0 c.loop-test.true c.in_err-value.ensures)

pub members-loop-preserved : goal.members-loop-preserved
members-loop-preserved t c =
    let pushed : map value_of c.push.new.self.items ≡ map value_of c.loop.found.items ++ value_of c.in_ok-value.value ∷ [] = rw c.in_ok-push.ensures.items (map_push value_of c.loop.found.items c.in_ok-value.value) in
    rw pushed (members_go_on (value_at c.args.total (shape_of c.args.of.now)) (map value_of c.loop.found.items) c.args.count c.loop.counter c.loop.rest.now (members (value_at c.args.total (shape_of c.args.of.now)) c.args.count c.args.bytes.now) c.loop.invariant (value_of c.in_ok-value.value) c.in_ok-value.after.now c.loop-test.true c.in_ok-value.ensures)

pub members-returns : goal.members-returns
members-returns t c = members_done (value_at c.args.total (shape_of c.args.of.now)) (map value_of c.loop.found.items) c.args.count c.loop.counter c.loop.rest.now (members (value_at c.args.total (shape_of c.args.of.now)) c.args.count c.args.bytes.now) c.loop.invariant c.loop-test.false

pub distinct-loop-init : goal.distinct-loop-init
distinct-loop-init t c =
    rw (c.new-seen.ensures, c.new-found.ensures.items, sub-zero) (distinct_starts c.args.total (value_at c.args.total (shape_of c.args.of.now)) (spelling (shape_of c.args.of.now)) c.args.count c.args.bytes.now (λ i. omega (arith, c.type_inv.bytes i)))

pub fresh_at-taken-requires : goal.fresh_at-taken-requires
fresh_at-taken-requires t c =
    let p = value_takes c.args.total (shape_of c.args.of.now) c.args.bytes.now (value_of c.in_ok-value.value, c.in_ok-value.after.now) (λ i. omega (arith, c.type_inv.bytes i)) c.in_ok-value.ensures in
    omega (arith, ap length p.0.parts, length-append (spelling (shape_of c.args.of.now) (value_of c.in_ok-value.value)) c.in_ok-value.after.now)

pub fresh_at-returns-then-not-branch-clause-read : goal.fresh_at-returns-then-not-branch-clause-read
fresh_at-returns-then-not-branch-clause-read t c =
    let p = value_takes c.args.total (shape_of c.args.of.now) c.args.bytes.now (value_of c.in_ok-value.value, c.in_ok-value.after.now) (λ i. omega (arith, c.type_inv.bytes i)) c.in_ok-value.ensures in
    let bytes : c.taken.result.now ≡ spelling (shape_of c.args.of.now) (value_of c.in_ok-value.value) = c.taken.ensures ∙ taken_is c.args.bytes.now (spelling (shape_of c.args.of.now) (value_of c.in_ok-value.value)) c.in_ok-value.after.now p.0.parts in
    let there : list_any (bytes_eq (spelling (shape_of c.args.of.now) (value_of c.in_ok-value.value))) c.args.seen.now ≡ true = not_false _ (sym (rw (bytes, c.if-not-branch.true) at c.in_ok-insert.ensures.added)) in
    rw (c.in_ok-value.ensures, there, c.place.ensures) refl

pub fresh_at-returns-clause-read : goal.fresh_at-returns-clause-read
fresh_at-returns-clause-read t c =
    let p = value_takes c.args.total (shape_of c.args.of.now) c.args.bytes.now (value_of c.in_ok-value.value, c.in_ok-value.after.now) (λ i. omega (arith, c.type_inv.bytes i)) c.in_ok-value.ensures in
    let bytes : c.taken.result.now ≡ spelling (shape_of c.args.of.now) (value_of c.in_ok-value.value) = c.taken.ensures ∙ taken_is c.args.bytes.now (spelling (shape_of c.args.of.now) (value_of c.in_ok-value.value)) c.in_ok-value.after.now p.0.parts in
    let new : list_any (bytes_eq (spelling (shape_of c.args.of.now) (value_of c.in_ok-value.value))) c.args.seen.now ≡ false = not_true _ (sym (rw (bytes, c.if-not-branch.false) at c.in_ok-insert.ensures.added)) in
    rw (c.in_ok-value.ensures, new) refl

pub fresh_at-returns-clause-has : goal.fresh_at-returns-clause-has
fresh_at-returns-clause-has t c =
    let p = value_takes c.args.total (shape_of c.args.of.now) c.args.bytes.now (value_of c.in_ok-value.value, c.in_ok-value.after.now) (λ i. omega (arith, c.type_inv.bytes i)) c.in_ok-value.ensures in
    let bytes : c.taken.result.now ≡ spelling (shape_of c.args.of.now) (value_of c.in_ok-value.value) = c.taken.ensures ∙ taken_is c.args.bytes.now (spelling (shape_of c.args.of.now) (value_of c.in_ok-value.value)) c.in_ok-value.after.now p.0.parts in
    rw bytes at c.in_ok-insert.ensures.has

pub distinct-returns-in_err-value : goal.distinct-returns-in_err-value
distinct-returns-in_err-value t c =
    let p = err_from_is_err_and c.from_residual.result c.from_residual.ensures.1 in
    rw (p.1, p.2) (distinct_refused c.args.total (value_at c.args.total (shape_of c.args.of.now)) (spelling (shape_of c.args.of.now)) c.loop.seen (map value_of c.loop.found.items) c.args.count c.loop.counter c.loop.rest.now (distinct c.args.total (value_at c.args.total (shape_of c.args.of.now)) (spelling (shape_of c.args.of.now)) [] c.args.count c.args.bytes.now) c.loop.invariant c.in_err-value.field-0.0 c.loop-test.true c.in_err-value.ensures.read)

pub distinct-loop-preserved : goal.distinct-loop-preserved
distinct-loop-preserved t c =
    let f = fresh_ok c.args.total (value_at c.args.total (shape_of c.args.of.now)) (spelling (shape_of c.args.of.now)) c.loop.seen c.loop.rest.now (value_of c.in_ok-value.value, c.in_ok-value.after.now) c.in_ok-value.ensures.read in
    let p = value_takes c.args.total (shape_of c.args.of.now) c.loop.rest.now (value_of c.in_ok-value.value, c.in_ok-value.after.now) c.loop.invariant.fits f.0 in
    let pushed : map value_of c.push.new.self.items ≡ map value_of c.loop.found.items ++ value_of c.in_ok-value.value ∷ [] = rw c.in_ok-push.ensures.items (map_push value_of c.loop.found.items c.in_ok-value.value) in
    rw pushed (distinct_go_on c.args.total (value_at c.args.total (shape_of c.args.of.now)) (spelling (shape_of c.args.of.now)) c.loop.seen (map value_of c.loop.found.items) c.args.count c.loop.counter c.loop.rest.now (distinct c.args.total (value_at c.args.total (shape_of c.args.of.now)) (spelling (shape_of c.args.of.now)) [] c.args.count c.args.bytes.now) c.loop.invariant (value_of c.in_ok-value.value) c.in_ok-value.after.now c.fresh_at.new.seen c.loop-test.true p.0.left f.0 f.1 c.in_ok-value.ensures.has)

pub distinct-returns : goal.distinct-returns
distinct-returns t c = distinct_done c.args.total (value_at c.args.total (shape_of c.args.of.now)) (spelling (shape_of c.args.of.now)) c.loop.seen (map value_of c.loop.found.items) c.args.count c.loop.counter c.loop.rest.now (distinct c.args.total (value_at c.args.total (shape_of c.args.of.now)) (spelling (shape_of c.args.of.now)) [] c.args.count c.args.bytes.now) c.loop.invariant c.loop-test.false

pub pairs-loop-init : goal.pairs-loop-init
pairs-loop-init t c =
    rw (c.new-seen.ensures, c.new-found.ensures.items, sub-zero) (pairs_start c.args.total (value_at c.args.total (shape_of c.args.key_type.now)) (spelling (shape_of c.args.key_type.now)) (value_at c.args.total (shape_of c.args.value_type.now)) c.args.count c.args.bytes.now (λ i. omega (arith, c.type_inv.bytes i)))

pub pairs-returns-in_err-key : goal.pairs-returns-in_err-key
pairs-returns-in_err-key t c =
    let p = err_from_is_err_and c.from_residual.result c.from_residual.ensures.1 in
    rw (p.1, p.2) (pairs_refused c.args.total (value_at c.args.total (shape_of c.args.key_type.now)) (spelling (shape_of c.args.key_type.now)) (value_at c.args.total (shape_of c.args.value_type.now)) c.loop.seen (map entry_of c.loop.found.items) c.args.count c.loop.counter c.loop.rest.now (pairs c.args.total (value_at c.args.total (shape_of c.args.key_type.now)) (spelling (shape_of c.args.key_type.now)) (value_at c.args.total (shape_of c.args.value_type.now)) [] c.args.count c.args.bytes.now) c.loop.invariant c.in_err-key.field-0.0 c.loop-test.true c.in_err-key.ensures.read)

pub pairs-returns-in_err-value : goal.pairs-returns-in_err-value
pairs-returns-in_err-value t c =
    let f = fresh_ok c.args.total (value_at c.args.total (shape_of c.args.key_type.now)) (spelling (shape_of c.args.key_type.now)) c.loop.seen c.loop.rest.now (value_of c.in_ok-key.key, c.in_ok-key.after.now) c.in_ok-key.ensures.read in
    let q = err_from_is_err_and c.from_residual-in_err-value.result c.from_residual-in_err-value.ensures.1 in
    rw (q.1, q.2) (pairs_value_fail c.args.total (value_at c.args.total (shape_of c.args.key_type.now)) (spelling (shape_of c.args.key_type.now)) (value_at c.args.total (shape_of c.args.value_type.now)) c.loop.seen (map entry_of c.loop.found.items) c.args.count c.loop.counter c.loop.rest.now (pairs c.args.total (value_at c.args.total (shape_of c.args.key_type.now)) (spelling (shape_of c.args.key_type.now)) (value_at c.args.total (shape_of c.args.value_type.now)) [] c.args.count c.args.bytes.now) c.loop.invariant (value_of c.in_ok-key.key) c.in_ok-key.after.now c.in_err-value.field-0.0 c.loop-test.true f.0 f.1 c.in_err-value.ensures)

pub pairs-loop-preserved : goal.pairs-loop-preserved
pairs-loop-preserved t c =
    let f = fresh_ok c.args.total (value_at c.args.total (shape_of c.args.key_type.now)) (spelling (shape_of c.args.key_type.now)) c.loop.seen c.loop.rest.now (value_of c.in_ok-key.key, c.in_ok-key.after.now) c.in_ok-key.ensures.read in
    let p = value_takes c.args.total (shape_of c.args.key_type.now) c.loop.rest.now (value_of c.in_ok-key.key, c.in_ok-key.after.now) c.loop.invariant.fits f.0 in
    let q = value_takes c.args.total (shape_of c.args.value_type.now) c.in_ok-key.after.now (value_of c.in_ok-value.value, c.in_ok-value.after.now) p.0.left c.in_ok-value.ensures in
    let pushed : map entry_of c.push.new.self.items ≡ map entry_of c.loop.found.items ++ entry_of c.pair.result ∷ [] = rw c.in_ok-push.ensures.items (map_push entry_of c.loop.found.items c.pair.result) in
    rw (pushed, c.pair.ensures) (pairs_go_on c.args.total (value_at c.args.total (shape_of c.args.key_type.now)) (spelling (shape_of c.args.key_type.now)) (value_at c.args.total (shape_of c.args.value_type.now)) c.loop.seen (map entry_of c.loop.found.items) c.args.count c.loop.counter c.loop.rest.now (pairs c.args.total (value_at c.args.total (shape_of c.args.key_type.now)) (spelling (shape_of c.args.key_type.now)) (value_at c.args.total (shape_of c.args.value_type.now)) [] c.args.count c.args.bytes.now) c.loop.invariant (value_of c.in_ok-key.key) c.in_ok-key.after.now (value_of c.in_ok-value.value) c.in_ok-value.after.now c.fresh_at.new.seen c.loop-test.true q.0.left f.0 f.1 c.in_ok-value.ensures c.in_ok-key.ensures.has)

pub pairs-returns : goal.pairs-returns
pairs-returns t c =
    pairs_done c.args.total (value_at c.args.total (shape_of c.args.key_type.now)) (spelling (shape_of c.args.key_type.now)) (value_at c.args.total (shape_of c.args.value_type.now)) c.loop.seen (map entry_of c.loop.found.items) c.args.count c.loop.counter c.loop.rest.now (pairs c.args.total (value_at c.args.total (shape_of c.args.key_type.now)) (spelling (shape_of c.args.key_type.now)) (value_at c.args.total (shape_of c.args.value_type.now)) [] c.args.count c.args.bytes.now) c.loop.invariant c.loop-test.false

pub parts_at-value_at-requires : goal.parts_at-value_at-requires
parts_at-value_at-requires t c =
    let deep = nesting_of_part c.args.types.now c.loop-of.of-index c.of-item.result (slice_get_read c.args.types.now (length c.args.types.now) c.loop-of.of-index c.of-item.result refl c.loop-of-test.true c.of-item.is) in
    (omega (arith, deep), tt)

pub parts_at-returns-in_err-value : goal.parts_at-returns-in_err-value
parts_at-returns-in_err-value t c =
    let next = next_is c.args.types.now c.loop-of.of-index c.of-item.result c.loop-of-test.true c.of-item.is in
    let p = err_from_is_err_and c.from_residual.result c.from_residual.ensures.1 in
    rw (p.1, p.2) (parts_fail c.args.total (map value_of c.loop-of.found.items) c.args.types.now c.loop-of.of-index c.loop-of.rest.now (parts_at c.args.total (shapes (map shape_of c.args.types.now)) c.args.bytes.now) c.loop-of.invariant c.of-item.result next c.in_err-value.field-0.0 c.in_err-value.ensures)

pub parts_at-loop-of-preserved : goal.parts_at-loop-of-preserved
parts_at-loop-of-preserved t c =
    let next = next_is c.args.types.now c.loop-of.of-index c.of-item.result c.loop-of-test.true c.of-item.is in
    let pushed : map value_of c.push.new.self.items ≡ map value_of c.loop-of.found.items ++ value_of c.in_ok-value.value ∷ [] = rw c.in_ok-push.ensures.items (map_push value_of c.loop-of.found.items c.in_ok-value.value) in
    rw pushed (parts_go_on c.args.total (map value_of c.loop-of.found.items) c.args.types.now c.loop-of.of-index c.loop-of.rest.now (parts_at c.args.total (shapes (map shape_of c.args.types.now)) c.args.bytes.now) c.loop-of.invariant c.of-item.result next (value_of c.in_ok-value.value) c.in_ok-value.after.now c.in_ok-value.ensures)

pub parts_at-returns : goal.parts_at-returns
parts_at-returns t c =
    parts_done c.args.total (map value_of c.loop-of.found.items) c.args.types.now c.loop-of.of-index c.loop-of.rest.now (parts_at c.args.total (shapes (map shape_of c.args.types.now)) c.args.bytes.now) c.loop-of.invariant (drop_of_length-le c.args.types.now c.loop-of-test.false)

pub variant_at-returns-in_default : goal.variant_at-returns-in_default
variant_at-returns-in_default t c =
    rw (c.in_ok-index.ensures, c.place.ensures, chosen_none c.args.total c.args.types.now c.in_ok-index.index (place c.args.total c.args.bytes.now) c.in_ok-index.rest.now (sym c.in_default.ensures)) refl

pub variant_at-value_at-requires : goal.variant_at-value_at-requires
variant_at-value_at-requires t c =
    let deep = nesting_of_part c.args.types.now c.in_ok-index.index c.in-Some.chosen.now (sym c.in-Some.ensures) in
    (omega (arith, deep), tt)

pub variant_at-returns-in_err-value : goal.variant_at-returns-in_err-value
variant_at-returns-in_err-value t c =
    let p = err_from_is_err_and c.from_residual-in_err-value.result c.from_residual-in_err-value.ensures.1 in
    let chosen = chosen_is c.args.total c.args.types.now c.in_ok-index.index (place c.args.total c.args.bytes.now) c.in_ok-index.rest.now c.in-Some.chosen.now (sym c.in-Some.ensures) in
    rw (p.1, p.2, c.in_ok-index.ensures, chosen) (fails_on c.in_err-value.field-0.0 _ _ c.in_err-value.ensures)

pub variant_at-returns : goal.variant_at-returns
variant_at-returns t c =
    let chosen = chosen_is c.args.total c.args.types.now c.in_ok-index.index (place c.args.total c.args.bytes.now) c.in_ok-index.rest.now c.in-Some.chosen.now (sym c.in-Some.ensures) in
    rw (c.in_ok-index.ensures, chosen, c.in_ok-value.ensures, value_choice, c.in_ok-new.ensures.ok) refl
