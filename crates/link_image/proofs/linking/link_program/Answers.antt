use Rattle.link_image.proofs.Whole.{ok_from}
use Rattle.link_image.proofs.linking.link_program.Goals as goal

pub returns-clause-ok : goal.returns-clause-ok
returns-clause-ok c =
    ok_from c.args.program.now c.args.layout.now c.linked.result (c.images_are_ok.ensures c.args.program.now c.args.layout.now c.requires.well c.requires.accepted)
    c.linked.ensures.image c.linked.ensures.fault c.linked.ensures.small
