use Rattle.std.proofs.Common.{◌≡◌, ◌+◌, ◌∙◌, IsSome, refl, sym, ap, subst, arith}
use Rattle.std.proofs.Math.Path.{fun_ext}
use Rattle.std.specs.Str.{bytes_eq}
use Rattle.std.proofs.lemmas.Slice.Eq.{bytes_eq-Decides}
use Rattle.indexmap.specs.IndexMap.{get}
use Rattle.cell_memory.specs.declared.memory.CellMemory.{CellMemory}
use Rattle.cell_memory.proofs.Objects.{absent_room, same_shown, written_room}
use Rattle.cell_memory.specs.Memory.{cells_of, HasRoom}
use Rattle.sym_expr.specs.declared.value.Object.{Object}
use Rattle.sym_expr.specs.declared.value.Object.TheVariants.{Block, Stack}
use Rattle.cell_memory.proofs.memory.CellMemory.reserve.Goals as goal

pub returns-in-Some-clause-cells : goal.returns-in-Some-clause-cells
returns-in-Some-clause-cells c =
    let self = c.args.self.now in
    let id = c.in-Block.id in
    let w = c.reserve-in-Some.new.self in
    let new : CellMemory = record self { blocks = c.get_mut.follows.lender w } in
    let writes = (c.get_mut.follows.holds w).3 (subst IsSome c.in-Some.ensures.value refl) in
    fun_ext (λ (other : Object). elim other as (λ o. cells_of new o ≡ cells_of self o) [
      | Stack ↦ refl
      | Block q ↦ same_shown (bytes_eq id q) w c.in-Some.cells.now (get bytes_eq self.blocks q) (get bytes_eq (c.get_mut.follows.lender w) q) c.reserve-in-Some.ensures.cells
          (λ hit. ap (get bytes_eq self.blocks) (sym ((bytes_eq-Decides id q).0 hit)) ∙ sym c.in-Some.ensures.value) (writes.0 q)
    ])

pub returns-in-Some-clause-room : goal.returns-in-Some-clause-room
returns-in-Some-clause-room c = λ other more has.
    let self = c.args.self.now in
    let id = c.in-Block.id in
    let w = c.reserve-in-Some.new.self in
    let new : CellMemory = record self { blocks = c.get_mut.follows.lender w } in
    let writes = (c.get_mut.follows.holds w).3 (subst IsSome c.in-Some.ensures.value refl) in
    written_room self new id w c.in-Some.cells.now more 0 (more) other (omega arith) (omega (arith, c.reserve-in-Some.ensures.room)) refl
    (λ q hit. ap (get bytes_eq self.blocks) (sym ((bytes_eq-Decides id q).0 hit)) ∙ sym c.in-Some.ensures.value) (λ q. writes.0 q) has

pub returns-in-None-clause-ok : goal.returns-in-None-clause-ok
returns-in-None-clause-ok c =
    let new : CellMemory = record c.args.self.now { blocks = c.get_mut.follows.lender-at-none } in
    let same = c.get_mut.follows.holds-at-none in
    subst (λ (o : Object). HasRoom new c.args.count o) (sym c.in-Block.is)
    (absent_room new c.in-Block.id c.args.count (c.in-None.ensures.value ∙ sym (ap (λ blocks. get bytes_eq blocks c.in-Block.id) same)))
