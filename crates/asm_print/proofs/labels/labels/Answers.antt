use Rattle.std.proofs.Common.{ℕ, ◌+◌, suc, List, [], Option, Some, None, cond, take, sym, ap, ◌∙◌}
use Rattle.std.specs.HashMap.{get_by_text}
use Rattle.std.specs.Option.{option_or, unwrap_or}
use Rattle.std.specs.Str.{bytes_eq}
use Rattle.asm_spelling.specs.Labels.{label_text}
use Rattle.asm_print.specs.Names.{labels_behind, named, value_at}
use Rattle.asm_print.proofs.Counted.{label_next, named_next}
use Rattle.asm_print.proofs.labels.labels.Goals as goal

pub loop-symbol-preserved : goal.loop-symbol-preserved
loop-symbol-preserved c =
    let symbols = c.args.symbols.now in
    let k = c.loop-symbol.symbol-index in
    let s = c.symbol-item.result in
    let before = take k symbols in
    let name = c.as_str.result.now in
    let ordinal = c.in_ok-ordinal.ensures.ordinal ∙ ap suc (c.loop-symbol.invariant.counts name ∙ ap (λ (bs : List ℕ). named bs before) c.as_str.ensures) in
    let text = c.as_bytes.ensures.value ∙ c.as_str-in-loop-symbol.ensures in
    let label = c.in_ok-label.ensures ∙ ap (λ (bs : List ℕ). label_text bs c.in_ok-ordinal.ordinal) text ∙ ap (label_text s.name) ordinal in
    record {
      counts = λ q.
          c.in_ok-ordinal.ensures.counts q
          ∙ ap (λ n. n + cond (bytes_eq name q) 1 0) (c.loop-symbol.invariant.counts q)
          ∙ ap (λ (bs : List ℕ). named q before + cond (bytes_eq bs q) 1 0) c.as_str.ensures
          ∙ sym (named_next symbols k s q c.loop-symbol-test.true c.symbol-item.is);
      labels = λ q.
          c.in_ok-add_label.ensures q
          ∙ ap (λ (o : Option (List ℕ)). option_or o (cond (bytes_eq s.uuid q) (Some c.in_ok-label.label) None)) (c.loop-symbol.invariant.labels q)
          ∙ ap (λ (l : List ℕ). option_or (value_at bytes_eq q (labels_behind [] before)) (cond (bytes_eq s.uuid q) (Some l) None)) label
          ∙ sym (label_next symbols k s q c.loop-symbol-test.true c.symbol-item.is);
    }
