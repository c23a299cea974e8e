use Rattle.std.proofs.Common.{refl}
use Rattle.asm_directives.proofs.Marks.{interval_at_found, no_alignment, no_id_at, no_residue}
use Rattle.asm_directives.proofs.interval.read_interval_at.Goals as goal

pub returns-in-None : goal.returns-in-None
returns-in-None c = no_id_at c.args.first.now c.args.second.now c.args.third.now c.in-None.ensures

pub returns-in-None-read_alignment : goal.returns-in-None-read_alignment
returns-in-None-read_alignment c = no_alignment c.args.first.now c.args.second.now c.in-Some.uuid c.in-Some.ensures c.args.third.now c.numbers_reason.result c.in-None-read_alignment.ensures c.numbers_reason.ensures

pub returns-in-Some-read_residue : goal.returns-in-Some-read_residue
returns-in-Some-read_residue c = interval_at_found c.args.first.now c.args.second.now c.in-Some.uuid c.in-Some.ensures c.args.third.now c.in-Some-read_alignment.align c.in-Some-read_residue.residue c.in-Some-read_alignment.ensures c.in-Some-read_residue.ensures

pub returns-in-None-read_residue : goal.returns-in-None-read_residue
returns-in-None-read_residue c = no_residue c.args.first.now c.args.second.now c.in-Some.uuid c.in-Some.ensures c.args.third.now c.in-Some-read_alignment.align c.numbers_reason-in-None-read_residue.result c.in-Some-read_alignment.ensures c.in-None-read_residue.ensures c.numbers_reason-in-None-read_residue.ensures

pub read_residue-requires : goal.read_residue-requires
read_residue-requires c = ((c.in-Some-read_alignment.ensures c.in-Some-read_alignment.align).0 refl).1
