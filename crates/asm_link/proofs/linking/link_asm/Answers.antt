use Rattle.asm_link.proofs.Whole.{ok_from}
use Rattle.asm_link.proofs.linking.link_asm.Goals as goal

pub returns-clause-ok : goal.returns-clause-ok
returns-clause-ok c =
    ok_from c.args.asm.now c.args.layout.now c.linked.result c.requires.ok c.requires.accepted
    c.linked.ensures.image c.linked.ensures.fault c.linked.ensures.small
