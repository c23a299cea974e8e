use Rattle.std.proofs.Common.{◌∙◌, sym}
use Rattle.asm_read.proofs.Quoting.{bare_found, quoted_found, from_second}
use Rattle.asm_read.proofs.Splitting.{holds, fails}
use Rattle.asm_read.proofs.words.split_piece.Goals as goal

pub returns-then-not-begins_quoted-clause-found : goal.returns-then-not-begins_quoted-clause-found
returns-then-not-begins_quoted-clause-found c =
    bare_found c.args.text.now c.split_at.result.0.now c.split_at.result.1.now c.requires (fails c.begins_quoted.result c.begins_quoted.ensures c.if-not-begins_quoted.true) c.split_at.ensures.front c.split_at.ensures.back

pub returns-clause-found : goal.returns-clause-found
returns-clause-found c =
    quoted_found c.args.text.now c.in_ok-inside.inside.now c.in_ok-inside.field-0-1.now c.split_at-2.result.0.now c.split_at-2.result.1.now (holds c.begins_quoted.result c.begins_quoted.ensures c.if-not-begins_quoted.false) c.in_ok-inside.ensures.found.0 (sym (from_second c.args.text.now) ∙ c.in_ok-inside.ensures.found.1)
    c.split_at-2.ensures.front c.split_at-2.ensures.back
