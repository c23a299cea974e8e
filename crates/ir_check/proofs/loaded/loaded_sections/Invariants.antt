use Rattle.std.proofs.Common.{◌≡◌, take}
use Rattle.std.specs.Prelude.{filter}
use Rattle.ir_check.specs.AtGraph.{flagged}
use Rattle.ir_check.specs.Spans.{AreSections}
use Rattle.ir_check.proofs.loaded.loaded_sections.Given as goal

abbrev pub invariant-loop-id : goal.invariant-loop-id
invariant-loop-id l = (l.loaded.items ≡ filter (flagged l.graph 4) (take l.id-index l.id-items)) × AreSections l.graph l.loaded.items
