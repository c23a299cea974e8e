use Rattle.std.proofs.Common.{◌≡◌, ◌∙◌, Some, None, ap, refl, sym, ◌-◌, take, drop, length, slice_get}
use Rattle.std.proofs.Math.Seq.{take-length}
use Rattle.std.proofs.lemmas.List.{length-drop}
use Rattle.std.proofs.lemmas.Option.{slice_get_past, slice_get_read}
use Rattle.std.specs.Option.{option_and_then}
use Rattle.indexed_program.proofs.Words.{found_behind, here, lt_from, rises_from}
use Rattle.indexed_program.proofs.inserted.inserted_word.Goals as goal

pub returns-in-Some : goal.returns-in-Some
returns-in-Some c =
    let ws = c.args.words.now in
    let o = c.args.offset in
    let part = take (length ws - c.count_below-first.result) (drop c.count_below-first.result ws) in
    let whole : take (length ws - c.count_below-first.result) (drop c.count_below-first.result ws) ≡ drop c.count_below-first.result ws = ap (λ m. take m (drop c.count_below-first.result ws)) (sym (length-drop c.count_below-first.result ws)) ∙ take-length (drop c.count_below-first.result ws) in
    let got : slice_get (drop c.count_below-first.result ws) c.args.j ≡ Some c.in-Some.pair.now = ap (λ l. slice_get l c.args.j) (sym whole) ∙ slice_get_read part (length part) c.args.j c.in-Some.pair.now refl (lt_from c.args.j (length part) (sym c.in-Some.ensures.lookup.0)) c.in-Some.ensures.lookup.1 in
    c.word_at.ensures
    ∙ sym (found_behind o ws c.args.j (rises_from ws c.requires)
    ∙ ap (λ n. option_and_then (here o) (slice_get (drop n ws) c.args.j)) (sym c.count_below-first.ensures.value)
    ∙ ap (option_and_then (here o)) got)

pub returns-in-None : goal.returns-in-None
returns-in-None c =
    let ws = c.args.words.now in
    let o = c.args.offset in
    let part = take (length ws - c.count_below-first.result) (drop c.count_below-first.result ws) in
    let whole : take (length ws - c.count_below-first.result) (drop c.count_below-first.result ws) ≡ drop c.count_below-first.result ws = ap (λ m. take m (drop c.count_below-first.result ws)) (sym (length-drop c.count_below-first.result ws)) ∙ take-length (drop c.count_below-first.result ws) in
    let got : slice_get (drop c.count_below-first.result ws) c.args.j ≡ None = ap (λ l. slice_get l c.args.j) (sym whole) ∙ slice_get_past part c.args.j c.in-None.ensures.lookup.3 in
    sym (found_behind o ws c.args.j (rises_from ws c.requires)
    ∙ ap (λ n. option_and_then (here o) (slice_get (drop n ws) c.args.j)) (sym c.count_below-first.ensures.value)
    ∙ ap (option_and_then (here o)) got)
