use Rattle.std.proofs.Common.{rules}
use Rattle.gr_base.specs.Store.{files_of}
use Rattle.gr_base.proofs.Holding.{same_prefix}
use Rattle.gr_base.proofs.honest_desk.HonestDeskDesk.append.Goals as goal

pub returns-in_err-append-clause-prefix : goal.returns-in_err-append-clause-prefix
returns-in_err-append-clause-prefix c =
    let part = same_prefix c.args.name.now c.args.piece.now (files_of c.args.self.now.store) (files_of c.append.new.self) (c.args.self.now.store.made_is_held c.args.name.now c.requires.made) c.in_err-append.ensures.err in
    search rules
