use Rattle.std.proofs.Common.{rules, ◌≡◌, ◌∙◌, ap}
use Rattle.gr_base.specs.declared.store.Store.{Store}
use Rattle.gr_base.specs.Desk.{SameFiles}
use Rattle.gr_base.specs.Store.{files_of}
use Rattle.gr_base.proofs.Holding.{same_prefix}
use Rattle.gr_base.proofs.mem_desk.MemDeskDesk.append.Goals as goal

same_store : (old new : Store) → new ≡ old → SameFiles (files_of old) (files_of new)
same_store old new same other = ap (λ (s : Store). files_of s other) same

pub returns-then-is_refused-clause-prefix : goal.returns-then-is_refused-clause-prefix
returns-then-is_refused-clause-prefix c =
    same_prefix c.args.name.now c.args.piece.now (files_of c.args.self.now.store) (files_of c.is_refused.new.self.store) (c.args.self.now.store.made_is_held c.args.name.now c.requires.made)
    (same_store c.args.self.now.store c.is_refused.new.self.store c.is_refused.ensures.store)

pub returns-in_err-append-clause-prefix : goal.returns-in_err-append-clause-prefix
returns-in_err-append-clause-prefix c =
    let part = same_prefix c.args.name.now c.args.piece.now (files_of c.args.self.now.store) (files_of c.append.new.self) (c.args.self.now.store.made_is_held c.args.name.now c.requires.made)
    (λ other. c.in_err-append.ensures.err other ∙ same_store c.args.self.now.store c.is_refused.new.self.store c.is_refused.ensures.store other) in
    search rules
