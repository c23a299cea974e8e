use Rattle.node_arena.proofs.Assembled.{before, holds-joined, value-joined}
use Rattle.node_arena.proofs.building.joined.Goals as goal

pub linked-requires-clause-edges : goal.linked-requires-clause-edges
linked-requires-clause-edges c = (before _ _ c.args.draft.arena c.args.index.now c.requires.draft c.requires.entries c.requires.linked).0

pub linked-requires-clause-vertices : goal.linked-requires-clause-vertices
linked-requires-clause-vertices c = (before _ _ c.args.draft.arena c.args.index.now c.requires.draft c.requires.entries c.requires.linked).1

pub returns-clause-holds : goal.returns-clause-holds
returns-clause-holds c = holds-joined c.args.ir.now c.args.draft.payloads.items c.args.draft.arena c.args.index.now c.requires.draft c.requires.entries c.requires.linked c.requires.order c.linked.result c.linked.ensures

pub returns-clause-value : goal.returns-clause-value
returns-clause-value c = value-joined c.args.ir.now c.args.draft.payloads.items c.args.draft.arena c.args.index.now c.requires.draft c.requires.entries c.requires.linked c.requires.order c.linked.result c.linked.ensures
