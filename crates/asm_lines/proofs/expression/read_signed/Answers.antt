use Rattle.std.proofs.Common.{refl}
use Rattle.std.specs.Int.{w64}
use Rattle.std.proofs.lemmas.Int.{to_z-of_z}
use mir.Val.{SFits}
use Rattle.asm_lines.proofs.Offsets.{no_some, ok_value}
use Rattle.asm_lines.proofs.expression.read_signed.Goals as goal

pub returns-in-Some-clause-found : goal.returns-in-Some-clause-found
returns-in-Some-clause-found c =
    let is = (c.in-Some.ensures c.in-Some.offset).0 refl in
    let fits : SFits w64 c.in-Some.offset = is.3 in
    simp to_z-of_z is

pub returns-in-Some-clause-only : goal.returns-in-Some-clause-only
returns-in-Some-clause-only c =
    let fits : SFits w64 c.in-Some.offset = ((c.in-Some.ensures c.in-Some.offset).0 refl).3 in
    simp to_z-of_z (λ offset is. ok_value c.in-Some.offset offset ((c.in-Some.ensures offset).1 is))

pub returns-in-None-clause-only : goal.returns-in-None-clause-only
returns-in-None-clause-only c = λ offset is. absurd (no_some offset ((c.in-None.ensures offset).1 is))
