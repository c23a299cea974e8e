use Rattle.node_arena.proofs.PartsLive.{blocks-live, intervals-live, sections-live, symbols-live, proxies-live}
use Rattle.node_arena.proofs.laws.parts_are_live.Goals as goal

pub returns-clause-sections : goal.returns-clause-sections
returns-clause-sections c = λ g id s w. sections-live g s id.index w

pub returns-clause-symbols : goal.returns-clause-symbols
returns-clause-symbols c = λ g id s w. symbols-live g s id.index w

pub returns-clause-proxies : goal.returns-clause-proxies
returns-clause-proxies c = λ g id s w. proxies-live g s id.index w

pub returns-clause-intervals : goal.returns-clause-intervals
returns-clause-intervals c = λ g id s w. intervals-live g s id w

pub returns-clause-blocks : goal.returns-clause-blocks
returns-clause-blocks c = λ g id s w. blocks-live g s id w
