use Rattle.rewrite.proofs.Rooms.{rooms}
use Rattle.rewrite.proofs.laws.intervals_have_the_rooms_of_programs.Goals as goal

pub returns : goal.returns
returns c = rooms
