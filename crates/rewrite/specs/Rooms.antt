-- What intervals and sections keep.
use Rattle.std.specs.Prelude.{ℕ, if◌then◌else◌, List, [], sum_by, Option, None, Some}
use Rattle.gt_model.specs.declared.intervals.Interval.{Interval}
use Rattle.gt_model.specs.declared.modules.Section.{Section}
use Rattle.rewrite.specs.Offsets.{old_size}
use Rattle.sym_expr.specs.declared.program.Stretch.{Stretch}
use Rattle.sym_expr.specs.Placing.{stretch_size}

-- the room of an interval: whose it is, where it stood, and how many bytes it has
pub record Room : Type 0 where
  pub id : List ℕ
  pub address : Option ℕ
  pub size : ℕ

abbrev pub interval_room : Interval → Room
interval_room i = record { id = i.uuid; address = if i.has_address then Some i.address else None; size = i.size }

-- the room that an interval of a program needs once words are inserted
abbrev pub stretch_room : Stretch → Room
stretch_room s = record { id = s.id; address = s.address; size = stretch_size s }

-- how many bytes it had before
abbrev pub old_length : Stretch → ℕ
old_length s = sum_by old_size s.pieces

-- a section without its intervals
abbrev pub section_head : Section → Section
section_head s = record s { intervals = [] }
