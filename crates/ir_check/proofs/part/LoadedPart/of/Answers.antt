use Rattle.std.proofs.Common.{List, map, ap, ◌∙◌}
use Rattle.std.specs.List.{flat_map}
use Rattle.std.specs.Str.{bytes_eq}
use Rattle.ir_check.specs.AtGraph.{interval_ids}
use Rattle.ir_check.specs.Keyed.{value_at}
use Rattle.ir_check.specs.Sites.{sites_in, size_entry}
use Rattle.ir_check.specs.Spans.{span_of}
use Rattle.ir_check.specs.declared.span.Span.{Span}
use Rattle.ir_check.proofs.part.LoadedPart.of.Goals as goal

pub returns-clause-value : goal.returns-clause-value
returns-clause-value c =
    let g = c.args.graph.now in
    let s = c.in_ok-sections.ensures.value in
    let i = c.in_ok-intervals.ensures.value ∙ ap (interval_ids g) (c.as_slice.ensures.value ∙ s) in
    let spans = c.in_ok-spans.ensures ∙ ap (map (span_of g)) (c.as_slice-2.ensures.value ∙ i) in
    record {
      sections = s;
      intervals = i;
      spans = spans;
      sites = λ id. c.in_ok-sites.ensures id ∙ ap (λ (ss : List Span). value_at bytes_eq id (flat_map sites_in ss)) (c.as_slice-3.ensures.value ∙ spans);
      sizes = λ id. c.in_ok-sizes.ensures id ∙ ap (λ (ss : List Span). value_at bytes_eq id (map size_entry ss)) (c.as_slice-4.ensures.value ∙ spans);
    }
