use Rattle.std.proofs.Common.{◌++◌, ◌+◌, ℕ, List, drop, sym, ap, ◌∙◌, append-nil}
use Rattle.std.specs.HashMap.{get_by_text}
use Rattle.std.specs.Option.{is_some}
use Rattle.patch_lines.specs.Building.{body_parts}
use Rattle.patch_lines.proofs.Steps.{parts_end, parts_go_on}
use Rattle.patch_lines.proofs.table.body_parts.Goals as goal

pub loop-line-preserved : goal.loop-line-preserved
loop-line-preserved c =
    let m = c.args.index.now.module in
    let f = λ (q : List ℕ). is_some (get_by_text c.args.names.now q) in
    let lines = c.args.lines.now in
    let i = c.loop-line.line-index in
    ap (λ ws. ws ++ body_parts m f (drop (i + 1) lines)) c.in_ok-add_part.ensures
    ∙ parts_go_on m lines i c.line-item.result c.loop-line-test.true c.line-item.is f c.loop-line.parts (sym c.is_end.ensures ∙ c.if-is_end.false)
    ∙ c.loop-line.invariant

pub returns-then-is_end : goal.returns-then-is_end
returns-then-is_end c =
    let m = c.args.index.now.module in
    let f = λ (q : List ℕ). is_some (get_by_text c.args.names.now q) in
    let lines = c.args.lines.now in
    let i = c.loop-line.line-index in
    sym (append-nil c.loop-line.parts)
    ∙ ap (λ ws. c.loop-line.parts ++ ws) (sym (parts_end m lines i c.line-item.result c.loop-line-test.true c.line-item.is f (sym c.is_end.ensures ∙ c.if-is_end.true)))
    ∙ c.loop-line.invariant
