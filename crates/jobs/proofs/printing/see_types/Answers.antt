use Rattle.std.proofs.Common.{subst}
use Rattle.gt_model.specs.Typed.{AreBytes}
use Rattle.jobs.proofs.printing.see_types.Goals as goal

pub returns : goal.returns
returns c = c.a_file_is_typed.ensures.typed c.in_ok-bytes.bytes c.args.ir.now (subst AreBytes c.as_slice.ensures c.see_bytes.ensures) c.in_ok-bytes.ensures.reads
