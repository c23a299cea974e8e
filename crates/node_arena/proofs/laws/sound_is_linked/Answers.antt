use Rattle.node_arena.proofs.SoundLinked.{sound-linked, sound-ordered}
use Rattle.node_arena.proofs.laws.sound_is_linked.Goals as goal

pub returns-clause-linked : goal.returns-clause-linked
returns-clause-linked c = sound-linked

pub returns-clause-ordered : goal.returns-clause-ordered
returns-clause-ordered c = sound-ordered
