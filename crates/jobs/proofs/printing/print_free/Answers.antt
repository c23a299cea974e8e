use Rattle.node_arena.specs.Arenas.{module_at}
use Rattle.node_arena.specs.Plain.{ir_of, plain_module}
use Rattle.command_words.specs.Picked.{picked_view}
use Rattle.jobs.proofs.Printed.{text_of_repaired}
use Rattle.jobs.proofs.printing.print_free.Goals as goal

pub returns : goal.returns
returns c =
    let g = c.args.loaded.now.graph in
    let m = plain_module g (module_at g c.args.loaded.now.id) in
    let h = c.in_ok-repaired.repaired.graph in
    let found = plain_module h (module_at h c.in_ok-repaired.repaired.id) in
    text_of_repaired (picked_view c.args.asked.now) (ir_of g) c.in_ok-new.new m found c.args.patches.now c.in_ok-print_loaded.field-0
    c.requires.picked c.in_ok-new.ensures.made c.in_ok-repaired.ensures.made c.in_ok-print_loaded.ensures
