use Rattle.std.proofs.Common.{◌≡◌, ◌||◌, ◌+◌, cond, Option, Some, None, ℕ, List, [], ◌∷◌, take, drop, sym, ap, ◌∙◌, arith}
use Rattle.std.specs.HashMap.{get_by_text}
use Rattle.std.specs.Option.{is_some}
use Rattle.std.proofs.lemmas.List.{take_all}
use Rattle.asm_read.specs.declared.fault.TextReason.TheVariants as texts
use Rattle.patch_lines.specs.declared.fault.PatchFault.{PatchFault}
use Rattle.patch_lines.specs.declared.fault.PatchReason.TheVariants as reasons
use Rattle.patch_lines.specs.declared.place.Place.TheVariants as places
use Rattle.patch_lines.specs.Faults.{is_name_in, is_word, next_fault, place_at, words_in}
use Rattle.patch_lines.specs.Places.{after}
use Rattle.patch_lines.proofs.Steps.{as_next, first_ends, first_goes_on, first_stops, length_taken, name-push, place-push, taken, words-push, words_most}
use Rattle.patch_lines.proofs.first.check_lines.Goals as goal

pub loop-line-preserved : goal.loop-line-preserved
loop-line-preserved c =
    let m = c.args.index.now.module in
    let lines = c.args.lines.now in
    let i = c.loop-line.line-index in
    let line = c.line-item.result in
    let before = take i lines in
    let f = λ (q : List ℕ). is_some (get_by_text c.loop-line.names q) in
    let push = taken lines i line c.loop-line-test.true c.line-item.is in
    let none : next_fault m before line ≡ None =
    sym (as_next m before line c.loop-line.place f c.loop-line.words c.loop-line.invariant.place c.loop-line.invariant.kept c.loop-line.invariant.words) ∙ c.in_default.ensures in
    record {
      kept = λ q.
          c.in_ok-add_names.ensures q
          ∙ ap (λ b. b || is_name_in (line ∷ []) q) (c.loop-line.invariant.kept q)
          ∙ sym (name-push before line q) ∙ ap (λ b. is_name_in b q) (sym push);
      place =
          c.after-place.ensures
          ∙ ap (λ p. after p line) c.loop-line.invariant.place
          ∙ sym (place-push places.Outside before line) ∙ ap place_at (sym push);
      words =
          c.words_with-words.ensures
          ∙ ap (λ n. n + cond (is_word line) 1 0) c.loop-line.invariant.words
          ∙ sym (words-push before line) ∙ ap words_in (sym push);
      few = words_most c.loop-line.words c.words_with-words.result i line c.words_with-words.ensures c.loop-line.invariant.few;
      within = omega arith;
      number = ap (λ n. n + 1) c.loop-line.invariant.number;
      rest = first_goes_on m lines i line c.loop-line-test.true c.line-item.is none ∙ c.loop-line.invariant.rest;
    }

pub returns-in-Err-clause-fault : goal.returns-in-Err-clause-fault
returns-in-Err-clause-fault c =
    let m = c.args.index.now.module in
    let lines = c.args.lines.now in
    let i = c.loop-line.line-index in
    let line = c.line-item.result in
    let f = λ (q : List ℕ). is_some (get_by_text c.loop-line.names q) in
    sym c.loop-line.invariant.rest
    ∙ first_stops m lines i line c.loop-line-test.true c.line-item.is c.in-Err.reason
    (sym (as_next m (take i lines) line c.loop-line.place f c.loop-line.words c.loop-line.invariant.place c.loop-line.invariant.kept c.loop-line.invariant.words) ∙ c.in-Err.ensures)
    ∙ ap (λ n. let fault : Option PatchFault = Some (record { line = n + 1; reason = c.in-Err.reason }) in fault) (sym c.loop-line.invariant.number)

pub returns-then-not-is_outside-clause-fault : goal.returns-then-not-is_outside-clause-fault
returns-then-not-is_outside-clause-fault c =
    let m = c.args.index.now.module in
    let lines = c.args.lines.now in
    let i = c.loop-line.line-index in
    let all = take_all i lines c.loop-line-test.false in
    sym c.loop-line.invariant.rest
    ∙ first_ends m lines i c.loop-line.place _ all c.loop-line.invariant.place (sym c.is_outside.ensures ∙ c.if-not-is_outside.true)
    ∙ ap (λ n. let fault : Option PatchFault = Some (record { line = n + 1; reason = reasons.Text texts.Syntax }) in fault) (length_taken lines i c.loop-line.number all c.loop-line-test.false c.loop-line.invariant.within c.loop-line.invariant.number)

pub returns-clause-fault : goal.returns-clause-fault
returns-clause-fault c =
    let m = c.args.index.now.module in
    let lines = c.args.lines.now in
    let i = c.loop-line.line-index in
    sym c.loop-line.invariant.rest
    ∙ first_ends m lines i c.loop-line.place _ (take_all i lines c.loop-line-test.false) c.loop-line.invariant.place (sym c.is_outside.ensures ∙ c.if-not-is_outside.false)

pub returns-clause-names : goal.returns-clause-names
returns-clause-names c = λ q. c.loop-line.invariant.kept q ∙ ap (λ b. is_name_in b q) (take_all c.loop-line.line-index c.args.lines.now c.loop-line-test.false)
