use Rattle.std.proofs.Common.{◌≡◌, sym, ◌∙◌, arith}
use Rattle.a64_decode.proofs.Groups.{group-0, group-4, group-5, group-8, group-9, group-10, group-11, group-12, group-13, none}
use Rattle.a64_decode.proofs.decoding.shape.Goals as goal

pub returns-in-0 : goal.returns-in-0
returns-in-0 c = c.udf.ensures ∙ sym (group-0 c.args.word (sym c.bits.ensures ∙ c.in-0.is))

pub returns-in-4 : goal.returns-in-4
returns-in-4 c = c.pair.ensures ∙ sym (group-4 c.args.word (sym c.bits.ensures ∙ c.in-4.is))

pub returns-in-5 : goal.returns-in-5
returns-in-5 c = c.shifted_and_extended.ensures ∙ sym (group-5 c.args.word (sym c.bits.ensures ∙ c.in-5.is))

pub returns-in-8 : goal.returns-in-8
returns-in-8 c = c.places_and_sums.ensures ∙ sym (group-8 c.args.word (sym c.bits.ensures ∙ c.in-8.is))

pub returns-in-9 : goal.returns-in-9
returns-in-9 c = c.bits_of_immediates.ensures ∙ sym (group-9 c.args.word (sym c.bits.ensures ∙ c.in-9.is))

pub returns-in-10 : goal.returns-in-10
returns-in-10 c = c.conditional_and_system.ensures ∙ sym (group-10 c.args.word (sym c.bits.ensures ∙ c.in-10.is))

pub returns-in-11 : goal.returns-in-11
returns-in-11 c = c.bit_tests_and_registers.ensures ∙ sym (group-11 c.args.word (sym c.bits.ensures ∙ c.in-11.is))

pub returns-in-12 : goal.returns-in-12
returns-in-12 c = c.single_accesses.ensures ∙ sym (group-12 c.args.word (sym c.bits.ensures ∙ c.in-12.is))

pub returns-in-13 : goal.returns-in-13
returns-in-13 c = c.sources.ensures ∙ sym (group-13 c.args.word (sym c.bits.ensures ∙ c.in-13.is))

pub returns-in_default : goal.returns-in_default
returns-in_default c =
    sym (none c.args.word (λ e. let at : c.bits.result ≡ 0 = c.bits.ensures ∙ e in omega arith) (λ e. let at : c.bits.result ≡ 4 = c.bits.ensures ∙ e in omega arith) (λ e. let at : c.bits.result ≡ 5 = c.bits.ensures ∙ e in omega arith) (λ e. let at : c.bits.result ≡ 8 = c.bits.ensures ∙ e in omega arith) (λ e. let at : c.bits.result ≡ 9 = c.bits.ensures ∙ e in omega arith) (λ e. let at : c.bits.result ≡ 10 = c.bits.ensures ∙ e in omega arith) (λ e. let at : c.bits.result ≡ 11 = c.bits.ensures ∙ e in omega arith) (λ e. let at : c.bits.result ≡ 12 = c.bits.ensures ∙ e in omega arith) (λ e. let at : c.bits.result ≡ 13 = c.bits.ensures ∙ e in omega arith))
