use Rattle.cell_memory.proofs.Objects.{less_room}
use Rattle.cell_memory.proofs.laws.room_for_more_is_room.Goals as goal

pub returns : goal.returns
returns c = less_room
