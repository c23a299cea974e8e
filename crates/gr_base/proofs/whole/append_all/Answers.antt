use Rattle.std.proofs.Common.{rules, ◌∙◌, arith}
use Rattle.gr_base.proofs.Appending.{goes_on_behind, refused}
use Rattle.gr_base.proofs.whole.append_all.Goals as goal

pub returns-in_err-count-clause-err : goal.returns-in_err-count-clause-err
returns-in_err-count-clause-err g c =
    let part = refused c.args.name.now c.args.bytes.now c.loop-rest.rest.now (g.D.Desk.files c.args.desk.now) (g.D.Desk.files c.loop-rest.desk) (g.D.Desk.files c.append.new.self) c.loop-rest.invariant.appending c.in_err-count.ensures.err in
    search rules

pub loop-rest-preserved : goal.loop-rest-preserved
loop-rest-preserved g c = record {
  appending = goes_on_behind c.args.name.now c.args.bytes.now c.loop-rest.rest.now (g.D.Desk.files c.args.desk.now) (g.D.Desk.files c.loop-rest.desk) (g.D.Desk.files c.append.new.self) c.in_ok-count.count c.loop-rest.invariant.appending c.in_ok-count.ensures.adds;
  made = c.append.ensures.made ∙ c.loop-rest.invariant.made;
  taken = c.append.ensures.taken ∙ c.loop-rest.invariant.taken;
  steady = c.append.ensures.steady ∙ c.loop-rest.invariant.steady;
  read_later = omega (arith, c.append.ensures.read_later, c.loop-rest.invariant.read_later);
  write_later = omega (arith, c.append.ensures.write_cause.later, c.loop-rest.invariant.write_later);
}
