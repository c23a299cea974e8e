use Rattle.sym_values.specs.Kept.{kept_room}
use Rattle.sym_values.proofs.laws.room_for_more_is_room.Goals as goal

pub returns : goal.returns
unfolding kept_room
returns c = λ kept o fewer more le has. c.room_for_more_is_room.ensures kept.memory o fewer more le has
