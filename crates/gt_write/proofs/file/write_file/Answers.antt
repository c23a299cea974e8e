use Rattle.std.proofs.Common.{◌≡◌, ◌^◌, ◌<◌, length, refl, sym, subst, rules}
use Rattle.gt_read.specs.File.{file}
use Rattle.gt_write.specs.Canonical.{canonical}
use Rattle.gt_write.proofs.file.write_file.Goals as goal

pub returns-clause-canonical : goal.returns-clause-canonical
unfolding canonical
returns-clause-canonical c = rw (c.from_vec.ensures, c.in_ok-put.ensures.records, c.in_ok-push.ensures.items, c.in_ok-extend_from_slice.ensures.items, c.new-out.ensures.items) refl

pub returns-clause-lengths : goal.returns-clause-lengths
returns-clause-lengths c =
    let same : c.from_vec.result ≡ canonical c.args.ir.now = returns-clause-canonical c in
    let short : length c.from_vec.result < 2 ^ 64 = search rules in
    c.reads_back.ensures.fits c.args.ir.now (subst (λ bytes. length bytes < 2 ^ 64) same short)

pub returns-clause-reads : goal.returns-clause-reads
returns-clause-reads c =
    let same : c.from_vec.result ≡ canonical c.args.ir.now = returns-clause-canonical c in
    subst (λ bytes. file bytes c.args.ir.now) (sym same) (c.reads_back.ensures.means c.args.ir.now c.in_ok-put.ensures.typed c.requires.order (returns-clause-lengths c))
