use Rattle.std.proofs.Common.{◌≡◌, ◌+◌, ◌++◌, take, get_or, ap, sym, ◌∙◌, List}
use Rattle.node_arena.specs.Arenas.{section_at}
use Rattle.node_arena.specs.declared.ids.IntervalId.{IntervalId}
use Rattle.node_arena.specs.declared.ids.SectionId.{SectionId}
use Rattle.node_arena.specs.declared.nodes.SectionNode.{SectionNode}
use Rattle.ir_check.specs.AtGraph.{interval_ids}
use Rattle.ir_check.proofs.First.{flat_map_more}
use Rattle.ir_check.proofs.Live.{live_intervals, intervals_more}
use Rattle.ir_check.proofs.loaded.intervals_of.Goals as goal

pub loop-id-preserved : goal.loop-id-preserved
loop-id-preserved c =
    let g = c.args.graph.now in
    let here = get_or c.args.sections.now c.loop-id.id-index (record { index = 0 }) in
    let piece : c.as_slice.result.now ≡ (section_at g here).intervals = c.as_slice.ensures ∙ ap (λ (n : SectionNode). n.intervals) c.section.ensures.value in
    let all : c.extend_from_slice.new.self.items ≡ c.loop-id.intervals.items ++ (section_at g here).intervals = c.in_ok-extend_from_slice.ensures.items ∙ ap (λ (ids : List IntervalId). c.loop-id.intervals.items ++ ids) piece in
    let more : interval_ids g (take (c.loop-id.id-index + 1) c.args.sections.now) ≡ interval_ids g (take c.loop-id.id-index c.args.sections.now) ++ (section_at g here).intervals =
    flat_map_more (λ (s : SectionId). (section_at g s).intervals) c.args.sections.now c.loop-id.id-index (record { index = 0 }) c.loop-id-test.true in (
      all ∙ ap (λ (ids : List IntervalId). ids ++ (section_at g here).intervals) c.loop-id.invariant.0 ∙ sym more,
      intervals_more g c.loop-id.intervals.items (section_at g here).intervals c.extend_from_slice.new.self.items all c.loop-id.invariant.1
          (live_intervals g here c.section.ensures.sound (c.requires c.loop-id.id-index (record { index = 0 }) c.loop-id-test.true)),
    )
