use Rattle.std.proofs.Common.{◌<◌, length, ◌++◌, sym, ap, ◌∙◌, append_assoc, arith}
use Rattle.std.proofs.lemmas.Bool.{eqb-false}
use Rattle.asm_print.specs.Items.{hex_line, hex_lines}
use Rattle.asm_print.proofs.Hexed.{next_line}
use Rattle.asm_print.proofs.lines.push_hex_lines.Goals as goal

pub loop-rest-preserved : goal.loop-rest-preserved
loop-rest-preserved c =
    let rest = c.loop-rest.rest.now in
    let line = c.split_at.result.0.now in
    let behind = c.split_at.result.1.now in
    let full = eqb-false (length rest) 0 (sym c.is_empty.ensures ∙ c.loop-rest-test.true) in
    let some : 0 < length rest = omega (arith, full) in
    let more = next_line rest line behind c.min.result some c.min.ensures c.split_at.ensures.front c.split_at.ensures.back in
    ap (λ out. out ++ hex_lines (length behind) behind) c.in_ok-push_hex.ensures
    ∙ append_assoc c.loop-rest.out (hex_line line) (hex_lines (length behind) behind)
    ∙ ap (λ l. c.loop-rest.out ++ l) (sym more)
    ∙ c.loop-rest.invariant
