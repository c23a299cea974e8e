use Rattle.std.proofs.Common.{◌+◌, ◌*◌, length, map}
use Rattle.aux_types.specs.Shape.{shape_of}
use Rattle.aux_types.specs.Reading.{all_parts, type_at}
use Rattle.aux_types.proofs.Parts.{IsLeft}
use Rattle.aux_types.proofs.reading.+type_at.Given as goal

abbrev pub decreases-type_at : goal.decreases-type_at
decreases-type_at l = 5 * l.room + 1

abbrev pub decreases-container_at : goal.decreases-container_at
decreases-container_at l = 5 * l.room

abbrev pub decreases-one : goal.decreases-one
decreases-one l = 5 * l.room + 2

abbrev pub decreases-two : goal.decreases-two
decreases-two l = 5 * l.room + 3

abbrev pub decreases-parts : goal.decreases-parts
decreases-parts l = 5 * l.room + 2

abbrev pub decreases-inside : goal.decreases-inside
decreases-inside l = 5 * l.room + 4

-- with the parts that are left, those so far are all
abbrev pub invariant-parts-loop-parts : goal.invariant-parts-loop-parts
invariant-parts-loop-parts l = IsLeft (type_at l.total l.room) l.total (map shape_of l.parts) l.rest (all_parts (type_at l.total l.room) l.total l.text)

abbrev pub decreases-parts-loop-parts : goal.decreases-parts-loop-parts
decreases-parts-loop-parts l = length l.rest
