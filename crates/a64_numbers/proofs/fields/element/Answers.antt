use Rattle.std.proofs.Common.{◌≡◌, ◌-◌, ◌*◌, ◌%◌, ◌^◌, ◌<◌, ◌≤◌, ◌∙◌, sym, ap, arith}
use Rattle.std.proofs.lemmas.Nat.{pow_pos, mod_below, shl_whole}
use Rattle.std.proofs.Math.Pow.{pow_mono}
use Rattle.a64_numbers.proofs.Powers.{ones_below, ones_stay, ones_turn, turned_below}
use Rattle.a64_numbers.proofs.fields.element.Goals as goal

raised : (c : goal.After-low_bits) → c.low_bits.result * 2 ^ (c.args.size - c.args.by) % 2 ^ 64 ≡ c.ones-ones.result % 2 ^ c.args.by * 2 ^ (c.args.size - c.args.by)
raised c =
    let by = c.args.by in
    let small : c.low_bits.result < 2 ^ by = rw c.low_bits.ensures (mod_below c.ones-ones.result (2 ^ by) (pow_pos by)) in
    shl_whole c.low_bits.result by (c.args.size - by) 64 small (omega arith) ∙ ap (λ x. x * 2 ^ (c.args.size - by)) c.low_bits.ensures

pub overflow_add-result : goal.overflow_add-result
overflow_add-result c =
    let up = raised c in
    let below : c.ones-ones.result < 2 ^ c.args.size = rw c.ones-ones.ensures (ones_below c.args.size c.args.count c.requires.count) in
    let fits = turned_below c.args.size c.args.by c.ones-ones.result (omega arith) below in
    let most : 2 ^ c.args.size ≤ 2 ^ 64 = pow_mono c.requires.size in
    omega (arith, up, fits, most)

pub returns-then-by-eq0 : goal.returns-then-by-eq0
returns-then-by-eq0 c = record {
  value = c.ones-ones.ensures ∙ rw c.if-by-eq0.true (sym (ones_stay c.args.size c.args.count c.requires.count));
  most = rw c.ones-ones.ensures (ones_below c.args.size c.args.count c.requires.count);
}

pub returns-else-by-eq0 : goal.returns-else-by-eq0
returns-else-by-eq0 c =
    let up = raised c in
    let below : c.ones-ones.result < 2 ^ c.args.size = rw c.ones-ones.ensures (ones_below c.args.size c.args.count c.requires.count) in
    record {
      value = rw (up, c.ones-ones.ensures) (ones_turn c.args.size c.args.count c.args.by c.requires.count (omega arith));
      most = rw up (turned_below c.args.size c.args.by c.ones-ones.result (omega arith) below);
    }
