-- What an honest desk holds.
use Rattle.std.specs.Prelude.{◌≡◌, ℕ, List, Option, None}
use Rattle.gr_base.specs.Desk.{Files, counted}
use Rattle.gr_base.specs.Store.{files_of, made_of}
use Rattle.gr_base.specs.declared.honest_desk.HonestDesk.{HonestDesk}

-- what each name holds
abbrev pub honest_files : HonestDesk → Files
honest_files desk = files_of desk.store

-- the file that may be appended to
abbrev pub honest_made : HonestDesk → Option (List ℕ)
honest_made desk = made_of desk.store

-- how often a read was refused
abbrev pub honest_read_faults : HonestDesk → ℕ
honest_read_faults desk = desk.counts.read_faults

-- how often a write was refused
abbrev pub honest_write_faults : HonestDesk → ℕ
honest_write_faults desk = desk.counts.write_faults

-- how many bytes were fetched
abbrev pub honest_taken : HonestDesk → ℕ
honest_taken desk = counted desk.counts.taken 0

-- no file is held or may be appended to, and nothing is counted yet
pub record IsNewHonestDesk (desk : HonestDesk) : Type 0 where
  pub files : (name : List ℕ) → honest_files desk name ≡ None
  pub made : honest_made desk ≡ None
  pub counts : desk.counts ≡ record { read_faults = 0; write_faults = 0; taken = 0 }

-- only files differ
pub record KeepsCounts (old new : HonestDesk) : Type 0 where
  pub made : honest_made new ≡ honest_made old
  pub counts : new.counts ≡ old.counts
