use Rattle.std.proofs.Common.{◌≡◌, ◌+◌, ◌∙◌, IsSome, refl, sym, ap, subst, arith}
use Rattle.std.specs.Str.{bytes_eq}
use Rattle.std.proofs.lemmas.Slice.Eq.{bytes_eq-Decides}
use Rattle.indexmap.specs.IndexMap.{get}
use Rattle.cell_memory.specs.declared.memory.CellMemory.{CellMemory}
use Rattle.cell_memory.proofs.Objects.{written_room}
use Rattle.cell_memory.proofs.memory.CellMemory.put_bytes.Goals as goal

pub returns-in-Some-clause-room : goal.returns-in-Some-clause-room
returns-in-Some-clause-room c = λ other more has.
    let self = c.args.self.now in
    let id = c.in-Block.id in
    let w = c.put_bytes-in-Some.new.self in
    let new : CellMemory = record self { blocks = c.get_mut.follows.lender w } in
    let writes = (c.get_mut.follows.holds w).3 (subst IsSome c.in-Some.ensures.value refl) in
    written_room self new id w c.in-Some.cells.now more 0 (more) other (omega arith) (omega (arith, c.put_bytes-in-Some.ensures.room)) refl
    (λ q hit. ap (get bytes_eq self.blocks) (sym ((bytes_eq-Decides id q).0 hit)) ∙ sym c.in-Some.ensures.value) (λ q. writes.0 q) has
