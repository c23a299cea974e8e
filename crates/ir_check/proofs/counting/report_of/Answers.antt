use Rattle.std.proofs.Common.{◌≡◌, ◌<◌, List, length, ap, ◌∙◌, arith}
use Rattle.std.specs.Prelude.{sum_by}
use Rattle.std.proofs.lemmas.List.Elements.{All-same}
use Rattle.node_arena.specs.Arenas.{module_at, interval_at}
use Rattle.node_arena.specs.declared.ids.EdgeId.{EdgeId}
use Rattle.node_arena.specs.declared.ids.IntervalId.{IntervalId}
use Rattle.node_arena.specs.declared.ids.SectionId.{SectionId}
use Rattle.node_arena.specs.declared.nodes.ModuleNode.{ModuleNode}
use Rattle.ir_check.specs.AtGraph.{interval_ids}
use Rattle.ir_check.proofs.Live.{live_sections}
use Rattle.ir_check.proofs.Totals.{report_is}
use Rattle.ir_check.proofs.counting.report_of.Goals as goal

pub intervals_of-requires : goal.intervals_of-requires
intervals_of-requires c =
    All-same (λ (id : SectionId). id.index < length c.args.graph.now.sections) c.as_slice.result.now (module_at c.args.graph.now c.args.«module»).sections
    (c.as_slice.ensures ∙ ap (λ (n : ModuleNode). n.sections) c.module-node.ensures.value) (live_sections c.args.graph.now c.args.«module» c.module-node.ensures.sound c.requires.live)

pub returns : goal.returns
returns c =
    let g = c.args.graph.now in
    let is = c.module-node.ensures.value in
    let ids : c.in_ok-intervals.intervals.items ≡ interval_ids g (module_at g c.args.«module»).sections =
    c.in_ok-intervals.ensures.value ∙ ap (interval_ids g) (c.as_slice.ensures ∙ ap (λ (n : ModuleNode). n.sections) is) in
    report_is g c.args.«module» c.in_ok-intervals.intervals.items c.args.all.now c.module-node.ensures.sound ids c.requires.read _
    (c.len.ensures ∙ ap (λ (n : ModuleNode). length n.sections) is)
    (omega (arith, c.in_ok-intervals.intervals.ok.0))
    (c.in_ok-blocks.ensures ∙ ap (sum_by (λ (id : IntervalId). length (interval_at g id).blocks)) c.as_slice-2.ensures.value)
    (c.len-3.ensures ∙ ap (λ (n : ModuleNode). length n.symbols) is)
    (c.in_ok-exprs.ensures ∙ ap (sum_by (λ (id : IntervalId). length (interval_at g id).exprs)) c.as_slice-3.ensures.value)
    (ap (λ (live : List EdgeId). length live) c.edges.ensures.value)
    (c.len-4.ensures ∙ ap (λ (n : ModuleNode). length n.aux) is)
    c.count_opaque.ensures
