use Rattle.std.proofs.Common.{◌≡◌, ◌-◌, ◌++◌, ◌∷◌, [], true, false, Some, None, Ok, length, map, sym, ap, arith}
use Rattle.std.proofs.lemmas.Result.{err_from_is_err_and}
use Rattle.std.proofs.lemmas.List.{map_push}
use Rattle.aux_types.specs.Shape.{shape_of}
use Rattle.aux_types.specs.Names.{scalar_named, container_named}
use Rattle.aux_types.specs.Reading.{word, separator, all_parts, type_at}
use Rattle.aux_types.proofs.Takes.{type_shorter, separator_takes}
use Rattle.aux_types.proofs.Parts.{starts, fails, stops, closes, goes_on}
use Rattle.aux_types.proofs.Names.{at_no_room, at_room, refuses, type_is_scalar, type_is_container, type_is_none}
use Rattle.aux_types.proofs.reading.+type_at.Goals as goal

pub parts-loop-parts-init : goal.parts-loop-parts-init
parts-loop-parts-init t c = rw c.new-parts.ensures (starts (type_at c.args.total c.args.room) c.args.total c.args.text.now)

pub parts-returns-in_err-part : goal.parts-returns-in_err-part
parts-returns-in_err-part t c =
    let p = err_from_is_err_and c.from_residual.result c.from_residual.ensures.1 in
    rw (p.1, p.2) (fails (type_at c.args.total c.args.room) c.args.total (map shape_of c.loop-parts.parts) c.loop-parts.rest.now (all_parts (type_at c.args.total c.args.room) c.args.total c.args.text.now) c.in_err-part.field-0.0 c.loop-parts.invariant c.in_err-part.ensures)

pub parts-returns-in_err-more : goal.parts-returns-in_err-more
parts-returns-in_err-more t c =
    let p = err_from_is_err_and c.from_residual-in_err-more.result c.from_residual-in_err-more.ensures.1 in
    rw (p.1, p.2) (stops (type_at c.args.total c.args.room) c.args.total (map shape_of c.loop-parts.parts) c.loop-parts.rest.now (all_parts (type_at c.args.total c.args.room) c.args.total c.args.text.now) (shape_of c.in_ok-part.part) c.in_ok-part.after.now c.in_ok-part.ensures c.in_err-more.field-0.0 c.loop-parts.invariant c.in_err-more.ensures)

pub parts-returns-then-not-more : goal.parts-returns-then-not-more
parts-returns-then-not-more t c =
    let pushed : map shape_of c.push.new.self ≡ map shape_of c.loop-parts.parts ++ shape_of c.in_ok-part.part ∷ [] = rw c.in_ok-push.ensures.ok (map_push shape_of c.loop-parts.parts c.in_ok-part.part) in
    let last : separator c.args.total c.in_ok-part.after.now ≡ Ok (false, c.in_ok-more.after.now) = rw c.if-not-more.true at c.in_ok-more.ensures in
    rw pushed (closes (type_at c.args.total c.args.room) c.args.total (map shape_of c.loop-parts.parts) c.loop-parts.rest.now (all_parts (type_at c.args.total c.args.room) c.args.total c.args.text.now) (shape_of c.in_ok-part.part) c.in_ok-part.after.now c.in_ok-part.ensures c.in_ok-more.after.now c.loop-parts.invariant last)

pub parts-loop-parts-smaller : goal.parts-loop-parts-smaller
parts-loop-parts-smaller t c =
    let first = type_shorter c.args.total c.args.room c.loop-parts.rest.now (shape_of c.in_ok-part.part, c.in_ok-part.after.now) c.in_ok-part.ensures in
    let second = ap length (separator_takes c.args.total c.in_ok-part.after.now (c.in_ok-more.more, c.in_ok-more.after.now) c.in_ok-more.ensures) in
    omega (arith, first, second)

pub parts-loop-parts-preserved : goal.parts-loop-parts-preserved
parts-loop-parts-preserved t c =
    let pushed : map shape_of c.push.new.self ≡ map shape_of c.loop-parts.parts ++ shape_of c.in_ok-part.part ∷ [] = rw c.in_ok-push.ensures.ok (map_push shape_of c.loop-parts.parts c.in_ok-part.part) in
    let another : separator c.args.total c.in_ok-part.after.now ≡ Ok (true, c.in_ok-more.after.now) = rw c.if-not-more.false at c.in_ok-more.ensures in
    let shorter = type_shorter c.args.total c.args.room c.loop-parts.rest.now (shape_of c.in_ok-part.part, c.in_ok-part.after.now) c.in_ok-part.ensures in
    rw pushed (goes_on (type_at c.args.total c.args.room) c.args.total (map shape_of c.loop-parts.parts) c.loop-parts.rest.now (all_parts (type_at c.args.total c.args.room) c.args.total c.args.text.now) (shape_of c.in_ok-part.part) c.in_ok-part.after.now c.in_ok-part.ensures shorter c.in_ok-more.after.now c.loop-parts.invariant another)

pub container_at-returns-in_err-rest : goal.container_at-returns-in_err-rest
container_at-returns-in_err-rest t c =
    let p = err_from_is_err_and c.from_residual.result c.from_residual.ensures.1 in
    rw (p.1, p.2) (refuses c.args.total c.args.room c.args.container c.args.text.now c.in_err-rest.field-0.0 c.in_err-rest.ensures)

pub container_at-returns-then-room-eq0 : goal.container_at-returns-then-room-eq0
container_at-returns-then-room-eq0 t c =
    rw c.place.ensures (at_no_room c.args.total c.args.room c.args.container c.args.text.now c.in_ok-rest.rest.now c.if-room-eq0.true c.in_ok-rest.ensures)

pub container_at-returns : goal.container_at-returns
container_at-returns t c =
    rw (at_room c.args.total c.args.room (c.args.room - 1) c.args.container c.args.text.now c.in_ok-rest.rest.now (omega arith) c.in_ok-rest.ensures) c.inside.ensures

pub type_at-returns-in-Some : goal.type_at-returns-in-Some
type_at-returns-in-Some t c =
    let named : scalar_named (word c.args.text.now) ≡ Some c.in-Some.scalar = rw c.split_word.ensures.word at (sym c.in-Some.ensures) in
    rw (c.plain.ensures, c.split_word.ensures.rest) (type_is_scalar c.args.total c.args.room c.args.text.now c.in-Some.scalar named)

pub type_at-returns-in-Some-named : goal.type_at-returns-in-Some-named
type_at-returns-in-Some-named t c =
    let no_scalar : scalar_named (word c.args.text.now) ≡ None = rw c.split_word.ensures.word at (sym c.in_default.ensures) in
    let named : container_named (word c.args.text.now) ≡ Some c.in-Some-named.container = rw c.split_word.ensures.word at (sym c.in-Some-named.ensures) in
    rw (type_is_container c.args.total c.args.room c.args.text.now c.in-Some-named.container no_scalar named, ← c.split_word.ensures.rest) c.container_at.ensures

pub type_at-returns-in-None : goal.type_at-returns-in-None
type_at-returns-in-None t c =
    let no_scalar : scalar_named (word c.args.text.now) ≡ None = rw c.split_word.ensures.word at (sym c.in_default.ensures) in
    let no_container : container_named (word c.args.text.now) ≡ None = rw c.split_word.ensures.word at (sym c.in-None.ensures) in
    rw c.place.ensures (type_is_none c.args.total c.args.room c.args.text.now no_scalar no_container)
