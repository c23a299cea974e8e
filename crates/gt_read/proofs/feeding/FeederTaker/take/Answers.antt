use Rattle.std.proofs.Common.{sym, ◌∙◌, arith}
use Rattle.gt_read.proofs.GoodPieces.{are_bytes}
use Rattle.gt_read.proofs.feeding.FeederTaker.take.Goals as goal

pub returns-in-Err-Fault : goal.returns-in-Err-Fault
returns-in-Err-Fault c =
    let stays = rw c.in-Err-Fault.field-0-is at c.in-Err-Fault.ensures.stays in
    let fault = rw c.in-Err-Fault.field-0-is at c.in-Err-Fault.ensures.fault in
    record { same = λ rest. stays rest ∙ sym (fault rest); bytes = are_bytes c.args.piece.now (λ i. omega (arith, c.type_inv.piece i)) }
