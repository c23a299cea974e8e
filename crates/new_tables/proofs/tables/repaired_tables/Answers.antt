use Rattle.node_arena.specs.Arenas.{module_at}
use Rattle.node_arena.specs.Plain.{ir_of, plain_module}
use Rattle.new_tables.proofs.tables.repaired_tables.Goals as goal

pub apart_tables-requires : goal.apart_tables-requires
apart_tables-requires c = record {
  live = c.requires.live;
  program = c.requires.program;
  well = c.requires.well;
  free = c.requires.free;
  apart = λ a there x value. c.places_stay_apart.ensures (ir_of c.args.graph.now) (plain_module c.args.graph.now (module_at c.args.graph.now c.args.module)) c.args.patches.now a x c.requires.formed c.requires.free c.requires.good there value;
}
