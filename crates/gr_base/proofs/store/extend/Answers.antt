use Rattle.std.proofs.Common.{rules}
use Rattle.gr_base.proofs.Holding.{extends_ok, extends_err, extends_keeps}
use Rattle.gr_base.proofs.store.extend.Goals as goal

pub returns-in-Some-clause-ok : goal.returns-in-Some-clause-ok
returns-in-Some-clause-ok c =
    extends_ok c.args.name.now c.args.more.now c.args.files.now (c.get_mut.follows.lender c.extend_from_slice.new.self) c.in-Some.bytes.now c.extend_from_slice.new.self c.in-Some.ensures.value ((c.get_mut.follows.holds c.extend_from_slice.new.self).3 (search rules))
    c.extend_from_slice.result c.extend_from_slice.ensures.items

pub returns-in-Some-clause-err : goal.returns-in-Some-clause-err
returns-in-Some-clause-err c =
    extends_err c.args.name.now c.args.more.now c.args.files.now (c.get_mut.follows.lender c.extend_from_slice.new.self) c.in-Some.bytes.now c.extend_from_slice.new.self c.in-Some.ensures.value ((c.get_mut.follows.holds c.extend_from_slice.new.self).3 (search rules))
    c.extend_from_slice.result c.extend_from_slice.ensures.items

pub returns-in-Some-clause-kept : goal.returns-in-Some-clause-kept
returns-in-Some-clause-kept c =
    extends_keeps c.args.name.now c.args.more.now c.args.files.now (c.get_mut.follows.lender c.extend_from_slice.new.self) c.in-Some.bytes.now c.extend_from_slice.new.self c.in-Some.ensures.value ((c.get_mut.follows.holds c.extend_from_slice.new.self).3 (search rules))
