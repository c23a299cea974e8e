use Rattle.std.proofs.Common.{sym, ◌∙◌, length, get_or, ◌<◌, arith}
use Rattle.std.specs.Str.{bytes_eq}
use Rattle.indexmap.specs.IndexMap.{get}
use Rattle.node_arena.specs.declared.ids.IntervalId.{IntervalId}
use Rattle.ir_check.specs.AtGraph.{faults_at}
use Rattle.ir_check.specs.Sites.{aim_in}
use Rattle.ir_check.proofs.AlongInterval.{span_there, faults_there}
use Rattle.ir_check.proofs.First.{found_at, none_more}
use Rattle.ir_check.proofs.exprs.exprs_fault.Goals as goal

pub returns-in-Some : goal.returns-in-Some
returns-in-Some c =
    let within : c.loop-k.k < length c.args.ids.now = omega arith in
    let none : IntervalId = record { index = 0 } in
    let id : IntervalId = get_or c.args.ids.now c.loop-k.k none in
    found_at (faults_at c.args.plain.now (aim_in (get bytes_eq c.args.names.now.aims)) c.args.names.now.tables c.args.graph.now) c.args.ids.now c.loop-k.k none c.in-Some.fault c.loop-k.invariant within
    (sym (faults_there c.args.plain.now (aim_in (get bytes_eq c.args.names.now.aims)) c.args.names.now.tables c.args.graph.now id c.interval.result.now c.index-spans-k.result c.interval.ensures.value
    (span_there c.args.graph.now c.args.ids.now c.args.spans.now c.loop-k.k none c.index-spans-k.result c.requires.spans within c.index-spans-k.is))
    ∙ sym c.interval_fault.ensures
    ∙ c.in-Some.is)

pub loop-k-preserved : goal.loop-k-preserved
loop-k-preserved c =
    let within : c.loop-k.k < length c.args.ids.now = omega arith in
    let none : IntervalId = record { index = 0 } in
    let id : IntervalId = get_or c.args.ids.now c.loop-k.k none in
    none_more (faults_at c.args.plain.now (aim_in (get bytes_eq c.args.names.now.aims)) c.args.names.now.tables c.args.graph.now) c.args.ids.now c.loop-k.k none c.loop-k.invariant within
    (sym (faults_there c.args.plain.now (aim_in (get bytes_eq c.args.names.now.aims)) c.args.names.now.tables c.args.graph.now id c.interval.result.now c.index-spans-k.result c.interval.ensures.value
    (span_there c.args.graph.now c.args.ids.now c.args.spans.now c.loop-k.k none c.index-spans-k.result c.requires.spans within c.index-spans-k.is))
    ∙ sym c.interval_fault.ensures
    ∙ c.in_default.is)
