use Rattle.std.proofs.Common.{ℕ, List, length, filter, ltb, ap, ◌∙◌}
use Rattle.new_intervals.proofs.Deep.{deep}
use Rattle.sym_expr.specs.declared.program.Word.{Word}
use Rattle.new_intervals.proofs.runs.inserted_in.Goals as goal

pub returns : goal.returns
returns c =
    deep c.args.piece.now c.in_ok-offsets.offsets c.in_ok-offsets.ensures.sorted
    (λ bound. c.in_ok-offsets.ensures.counts bound ∙ ap (λ (ws : List (ℕ × Word)). length (filter (λ (w : ℕ × Word). ltb w.0 bound) ws)) c.inserted_words-words.ensures)
