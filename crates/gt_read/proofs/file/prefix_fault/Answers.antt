use Rattle.std.proofs.Common.{◌<◌, length, sym, ◌∙◌, arith}
use Rattle.std.proofs.lemmas.Bool.{eq-eqb, ne_eqb}
use Rattle.gt_read.specs.File.{letters}
use Rattle.gt_read.proofs.Prefixes.{cut, other, further, ended, found, short, sound}
use Rattle.gt_read.proofs.file.prefix_fault.Goals as goal
use Rattle.gt_read.proofs.file.prefix_fault.Goals.{then-at-bytes-via-then-at-bytes, then-at-bytes-via-else-at-bytes+then-bytes-at}

pub returns-then-at-bytes : goal.returns-then-at-bytes
returns-then-at-bytes c = elim c.then-at-bytes.branch [
  | then-at-bytes-via-then-at-bytes w ↦
      found c.args.bytes.now c.letters.at (sym c.letters.invariant.same ∙ cut letters c.args.bytes.now c.letters.at c.letters-test.true w.if-at-bytes.true)
  | then-at-bytes-via-else-at-bytes+then-bytes-at w ↦
      let no = w.if-at-bytes.false in
      let within = c.letters.invariant.within in
      let there : c.letters.at < length c.args.bytes.now = omega arith in
      found c.args.bytes.now c.letters.at (sym c.letters.invariant.same ∙ other letters c.args.bytes.now c.letters.at c.letters-test.true there (ne_eqb _ _ w.if-bytes-at.true))
]

pub letters-preserved : goal.letters-preserved
letters-preserved c =
    let no = c.if-at-bytes.false in
    let within = c.letters.invariant.within in
    let there : c.letters.at < length c.args.bytes.now = omega arith in
    let more = c.letters-test.true in
    record {
      same = further letters c.args.bytes.now c.letters.at more there (eq-eqb _ _ c.if-bytes-at.false) ∙ c.letters.invariant.same;
      within = omega arith;
      few = omega arith;
    }

pub returns-then-bytes-lt-BODY : goal.returns-then-bytes-lt-BODY
returns-then-bytes-lt-BODY c =
    let no = c.letters-test.false in
    short c.args.bytes.now (sym c.letters.invariant.same ∙ ended letters c.args.bytes.now c.letters.at (omega arith)) c.if-bytes-lt-BODY.true

pub returns : goal.returns
returns c =
    let no = c.letters-test.false in
    let long = c.if-bytes-lt-BODY.false in
    sound c.args.bytes.now (sym c.letters.invariant.same ∙ ended letters c.args.bytes.now c.letters.at (omega arith)) (omega arith)
