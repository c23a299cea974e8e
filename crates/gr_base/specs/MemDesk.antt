-- What a desk in memory holds, and how it answers.
use Rattle.std.specs.Prelude.{◌≡◌, ◌==◌, ℕ, Bool, if◌then◌else◌, List, Option, None, Result, Err}
use Rattle.std.specs.List.{list_any}
use Rattle.gr_base.specs.Desk.{Files, counted}
use Rattle.gr_base.specs.Held.{read_of}
use Rattle.gr_base.specs.Store.{files_of, made_of}
use Rattle.gr_base.specs.declared.desk.DeskFault.{DeskFault}
use Rattle.gr_base.specs.declared.desk.DeskFault.TheVariants.{Failed}
use Rattle.gr_base.specs.declared.mem_desk.MemDesk.{MemDesk}

-- what each name holds
abbrev pub mem_files : MemDesk → Files
mem_files desk = files_of desk.store

-- the file that may be appended to
abbrev pub mem_made : MemDesk → Option (List ℕ)
mem_made desk = made_of desk.store

-- how often a read was refused
abbrev pub mem_read_faults : MemDesk → ℕ
mem_read_faults desk = desk.counts.read_faults

-- how often a write was refused
abbrev pub mem_write_faults : MemDesk → ℕ
mem_write_faults desk = desk.counts.write_faults

-- how many bytes were fetched
abbrev pub mem_taken : MemDesk → ℕ
mem_taken desk = counted desk.counts.taken 0

-- the most bytes of one call
abbrev pub mem_grain : MemDesk → ℕ
mem_grain desk = desk.grain

-- the number of the next call
abbrev pub next_call : MemDesk → ℕ
next_call desk = counted desk.calls 1

-- whether the next call is among those that fail
abbrev pub refuses_next : MemDesk → Bool
refuses_next desk = list_any (λ call. call == next_call desk) desk.fails.items

-- the answer to a fetch
abbrev pub fetched : MemDesk → List ℕ → ℕ → ℕ → Result ℕ DeskFault
fetched desk name at room = if refuses_next desk then Err Failed else read_of (mem_files desk name) at desk.grain room

-- no file is held or may be appended to, nothing is counted yet, and these calls will fail
pub record IsNewMemDesk (most : ℕ) (refused : List ℕ) (desk : MemDesk) : Type 0 where
  pub files : (name : List ℕ) → mem_files desk name ≡ None
  pub made : mem_made desk ≡ None
  pub counts : desk.counts ≡ record { read_faults = 0; write_faults = 0; taken = 0 }
  pub calls : desk.calls ≡ 0
  pub grain : desk.grain ≡ most
  pub fails : desk.fails.items ≡ refused

-- one call more was made, and what a call depends on stays
pub record CountsCall (old new : MemDesk) : Type 0 where
  pub calls : new.calls ≡ next_call old
  pub grain : new.grain ≡ old.grain
  pub fails : new.fails.items ≡ old.fails.items

-- only files differ
pub record KeepsCalls (old new : MemDesk) : Type 0 where
  pub made : mem_made new ≡ mem_made old
  pub counts : new.counts ≡ old.counts
  pub calls : new.calls ≡ old.calls
  pub grain : new.grain ≡ old.grain
  pub fails : new.fails.items ≡ old.fails.items
