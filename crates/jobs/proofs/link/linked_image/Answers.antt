use Rattle.jobs.proofs.link.linked_image.Goals as goal

pub returns-clause-simulated : goal.returns-clause-simulated
returns-clause-simulated c =
    let faultless = c.in-Ok.ensures.fault in
    record {
      faultless = faultless;
      simulates = c.images_simulate.ensures c.args.program.now c.args.layout.now c.requires.well c.requires.typed c.requires.near c.requires.accepted faultless;
    }
