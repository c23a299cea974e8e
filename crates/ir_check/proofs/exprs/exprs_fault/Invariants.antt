use Rattle.std.proofs.Common.{◌≡◌, take, None}
use Rattle.std.specs.Str.{bytes_eq}
use Rattle.indexmap.specs.IndexMap.{get}
use Rattle.ir_check.specs.AtGraph.{faults_at}
use Rattle.ir_check.specs.Sites.{aim_in}
use Rattle.ir_check.specs.Spans.{first_in}
use Rattle.ir_check.proofs.exprs.exprs_fault.Given as goal

abbrev pub invariant-loop-k : goal.invariant-loop-k
invariant-loop-k l = first_in (faults_at l.plain (aim_in (get bytes_eq l.names.aims)) l.names.tables l.graph) (take l.k l.ids) ≡ None
