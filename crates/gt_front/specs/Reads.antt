-- What a job learns from the reads of its inputs and from its write; the proofs alone need it.
use Rattle.std.specs.Prelude.{◌≡◌, ℕ, ◌+◌, ◌^◌, Bool, cond, IsTrue, List, ◌∷◌, ◌++◌, Option, Some, None, IsSome, Result, Ok, Err}
use Rattle.std.specs.List.{list_any}
use Rattle.gr_base.specs.Desk.{Files, Told, ToldBoth, Rose, Took}
use Rattle.gr_base.specs.declared.end.End.{End}
use Rattle.gr_base.specs.declared.end.End.TheVariants as ends
use Rattle.gr_base.specs.declared.whole.ReadEnd.{ReadEnd}
use Rattle.gr_base.specs.declared.whole.ReadEnd.TheVariants as reads
use Rattle.gr_base.specs.declared.whole.WriteFault.{WriteFault}
use Rattle.command_words.specs.declared.role.Role.{Role}
use Rattle.jobs.specs.declared.contents.Contents as declared
use Rattle.gt_front.specs.declared.inputs.Unread.{Unread}
use Rattle.jobs.specs.declared.verdict.Finished.{Finished}
use Rattle.gt_front.specs.Causes.{Wrote, WrotePart}
use Rattle.jobs.specs.Contents.{contents_view, same_role}
use Rattle.jobs.specs.Inputs.{InputFile, contents_of, AllReadable, IsTooLarge}
use Rattle.command_words.specs.Picked.{Picked}

-- is a role among these
abbrev pub among : List Role → Role → Bool
among roles role = list_any (λ r. same_role r role) roles

-- of these roles there is what the files hold, and of others nothing
abbrev pub HoldsAmong : Picked → List Role → declared.Contents → Files → Type 0
HoldsAmong asked roles c held = (role : Role) → contents_view c role ≡ cond (among roles role) (contents_of asked held role) None

-- there is what the files hold
abbrev pub HoldsAll : Picked → declared.Contents → Files → Type 0
HoldsAll asked c held = (role : Role) → contents_view c role ≡ contents_of asked held role

-- the counts of a desk around a call
pub record Counts : Type 0 where
  pub read_before : ℕ
  pub read_now : ℕ
  pub taken_before : ℕ
  pub taken_now : ℕ

-- why a file wasn't read
abbrev pub Refuses : List ℕ → Option Files → Bool → Counts → End ReadEnd → Type 0
Refuses name files steady counts (ends.Fault reads.Fault) =
    Rose counts.read_before counts.read_now × (IsTrue steady → Told files (λ held. held name ≡ None))
Refuses name files steady counts (ends.Fault reads.TooLarge) =
    Took (2 ^ 26 + 1) counts.taken_before counts.taken_now × Told files (λ held. IsTooLarge held name)
Refuses name files steady counts ends.Memory = Unit {0}

-- the input of a role wasn't read
pub record IsUnreadAs (asked : Picked) (role : Role) (files : Option Files) (steady : Bool) (counts : Counts) (unread : Unread) : Type 0 where
  pub name : List ℕ
  pub named : asked.file role ≡ Some name
  pub same : unread.role ≡ role
  pub refuses : Refuses name files steady counts unread.end

-- an input wasn't read, and all before it could be
pub record IsUnread (inputs : List InputFile) (files : Option Files) (steady : Bool) (counts : Counts) (unread : Unread) : Type 0 where
  pub before : List InputFile
  pub name : List ℕ
  pub after : List InputFile
  pub listed : inputs ≡ before ++ (unread.role, name) ∷ after
  pub readable : Told files (AllReadable before)
  pub refuses : Refuses name files steady counts unread.end

-- how the write of what a job has made ends
abbrev pub Writes : Option (List ℕ) → Finished → Bool → ℕ → ℕ → Option Files → Option Files → Result (List ℕ) (End WriteFault) → Type 0
Writes name finished steady before now old new (Ok text) = (text ≡ finished.text) × ToldBoth old new (Wrote name finished.out)
Writes name finished steady before now old new (Err (ends.Fault fault)) =
    Rose before now × (IsTrue steady → ⊥) × IsSome name × ToldBoth old new (WrotePart name finished.out)
Writes name finished steady before now old new (Err ends.Memory) = ToldBoth old new (WrotePart name finished.out)
