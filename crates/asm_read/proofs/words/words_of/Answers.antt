use Rattle.std.proofs.Common.{◌≡◌, ◌∙◌, ◌++◌, List, ℕ, Bool, true, ap, sym}
use Rattle.asm_read.specs.Words.{begins_white, bytes_of, is_gap}
use Rattle.asm_read.proofs.Splitting.{starts, end_only, no_words, goes_on_behind_gap, goes_on_behind_piece, begins_as_gap, holds, fails}
use Rattle.asm_read.proofs.words.words_of.Goals as goal

pub loop-rest-init : goal.loop-rest-init
loop-rest-init c = rw (c.new-words.ensures, c.new-word.ensures) (starts c.args.line.now)

pub returns-in_default-clause-only : goal.returns-in_default-clause-only
returns-in_default-clause-only c words has =
    absurd (no_words c.args.line.now c.loop-rest.words c.loop-rest.word c.loop-rest.rest.now c.loop-rest.invariant (fails c.at_end.result c.at_end.ensures c.loop-rest-test.true) c.in_default.ensures.none words has)

pub loop-rest-preserved-in_ok-end_word : goal.loop-rest-preserved-in_ok-end_word
loop-rest-preserved-in_ok-end_word c =
    let p = c.in-Some.ensures.found in
    let parts : c.loop-rest.rest.now ≡ bytes_of p.0 ++ c.in-Some.after.now = p.3 ∙ ap (λ (b : List ℕ). b ++ c.in-Some.after.now) p.2 in
    let gap : is_gap p.0 ≡ true = sym (begins_as_gap p.0) ∙ ap begins_white (sym p.2) ∙ sym c.begins_white.ensures ∙ c.if-begins_white.true in
    rw c.replace.ensures.after (rw c.new.ensures (goes_on_behind_gap c.args.line.now c.loop-rest.words c.loop-rest.word c.loop-rest.rest.now c.loop-rest.invariant p.0 c.in-Some.after.now p.1 parts (fails c.at_end.result c.at_end.ensures c.loop-rest-test.true) gap c.end_word.new.words (rw c.replace.ensures.value at c.in_ok-end_word.ensures)))

pub loop-rest-preserved : goal.loop-rest-preserved
loop-rest-preserved c =
    let p = c.in-Some.ensures.found in
    let parts : c.loop-rest.rest.now ≡ bytes_of p.0 ++ c.in-Some.after.now = p.3 ∙ ap (λ (b : List ℕ). b ++ c.in-Some.after.now) p.2 in
    let gap = sym (begins_as_gap p.0) ∙ ap begins_white (sym p.2) ∙ sym c.begins_white.ensures ∙ c.if-begins_white.false in
    goes_on_behind_piece c.args.line.now c.loop-rest.words c.loop-rest.word c.loop-rest.rest.now c.loop-rest.invariant p.0 c.in-Some.after.now p.1 parts (fails c.at_end.result c.at_end.ensures c.loop-rest-test.true) gap c.extend_from_slice.new.self (c.in_ok-extend_from_slice.ensures.ok ∙ ap (λ (b : List ℕ). c.loop-rest.word ++ b) p.2)

pub returns-clause-only : goal.returns-clause-only
returns-clause-only c words has =
    c.in_ok-end_word-2.ensures ∙ end_only c.args.line.now c.loop-rest.words c.loop-rest.word c.loop-rest.rest.now c.loop-rest.invariant (holds c.at_end.result c.at_end.ensures c.loop-rest-test.false) words has
