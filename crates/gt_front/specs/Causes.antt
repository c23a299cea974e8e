-- When each answer of a job comes, and what it leaves in the files.
use Rattle.std.specs.Prelude.{◌≡◌, ◌≢◌, ◌⊎◌, ℕ, ◌+◌, ◌^◌, Bool, IsTrue, List, Option, Some, None, IsSome, Ok, Err}
use Rattle.gr_base.specs.Desk.{Files, Told, SameFiles, Leaves, LeavesPart, Rose, Took}
use Rattle.command_words.specs.declared.role.Role.{Role}
use Rattle.gt_front.specs.declared.answer.Answer.{Answer}
use Rattle.gt_front.specs.declared.answer.Answer.TheVariants.{Done, ReadFault, WriteFault, Memory, TooLarge}
use Rattle.jobs.specs.declared.verdict.Finished.{Finished}
use Rattle.jobs.specs.declared.verdict.Refusal.{Refusal}
use Rattle.gt_front.specs.Answer.{answer_of}
use Rattle.jobs.specs.Inputs.{InputFile, Names, Reaches, IsTooLarge, AllReadable}
use Rattle.jobs.specs.Outcome.{Outcomes, Verdict}

-- a refused read: the count of faults rose, and every input before the one of this role could be read;
-- on a steady desk exactly where that input isn't held
pub record ReadFaultCause (inputs : List InputFile) (files : Option Files) (steady : Bool) (before now : ℕ) (result : Answer) : Type 0 where
  pub rose : (role : Role) → result ≡ ReadFault role → Rose before now
  pub named : (role : Role) → result ≡ ReadFault role → Names inputs role
  pub reached : (role : Role) → result ≡ ReadFault role → Told files (λ held. (name : List ℕ) × Reaches inputs role name held)
  pub missing : IsTrue steady → (role : Role) → result ≡ ReadFault role →
      Told files (λ held. (name : List ℕ) × Reaches inputs role name held × (held name ≡ None))
  pub always : IsTrue steady → Told files (λ held. (role : Role) (name : List ℕ) →
      Reaches inputs role name held → held name ≡ None → (result ≡ ReadFault role) ⊎ (result ≡ Memory))

-- an input of more than 2 ^ 26 bytes: one more than these were taken, and every input before it could be
-- read; on a steady desk exactly there
pub record TooLargeCause (inputs : List InputFile) (files : Option Files) (steady : Bool) (before now : ℕ) (result : Answer) : Type 0 where
  pub took : (role : Role) → result ≡ TooLarge role → Took (2 ^ 26 + 1) before now
  pub named : (role : Role) → result ≡ TooLarge role → Names inputs role
  pub larger : (role : Role) → result ≡ TooLarge role →
      Told files (λ held. (name : List ℕ) × Reaches inputs role name held × IsTooLarge held name)
  pub always : IsTrue steady → Told files (λ held. (role : Role) (name : List ℕ) →
      Reaches inputs role name held → IsTooLarge held name → (result ≡ TooLarge role) ⊎ (result ≡ Memory))

-- a refused write: the words name an output, the count of faults rose, and the job was done; never on a
-- steady desk
pub record WriteFaultCause (own : Outcomes) (out : Option (List ℕ)) (files : Option Files) (steady : Bool) (before now : ℕ) (result : Answer) : Type 0 where
  pub rose : result ≡ WriteFault → Rose before now
  pub named : result ≡ WriteFault → IsSome out
  pub done : result ≡ WriteFault → Told files (λ held. (finished : Finished) × own held (Ok finished))
  pub never : IsTrue steady → result ≢ WriteFault

-- an input wasn't read, or memory ran out
abbrev pub IsStopped : Answer → Type 0
IsStopped result = ((role : Role) × (result ≡ ReadFault role)) ⊎ ((role : Role) × (result ≡ TooLarge role)) ⊎ (result ≡ Memory)

-- the answer of a verdict
abbrev pub verdict_answer : Verdict → Answer
verdict_answer (Ok finished) = Done finished.text
verdict_answer (Err refusal) = answer_of refusal

-- the answer is that of the verdict, or one that a desk or want of memory puts in its place
abbrev pub Settles : Verdict → Answer → Type 0
Settles (Ok finished) result = (result ≡ Done finished.text) ⊎ (result ≡ WriteFault) ⊎ IsStopped result
Settles (Err refusal) result = (result ≡ answer_of refusal) ⊎ IsStopped result

-- the job's own answer comes, and no other but one that a desk or want of memory puts in its place
pub record IsOwn (own : Outcomes) (files : Option Files) (result : Answer) : Type 0 where
  pub done : (text : List ℕ) → result ≡ Done text →
      Told files (λ held. (out : Option (List ℕ)) × own held (Ok (record { text = text; out = out })))
  pub refused : (refusal : Refusal) → result ≡ answer_of refusal → Told files (λ held. own held (Err refusal))
  pub settles : Told files (λ held. (verdict : Verdict) → own held verdict → Settles verdict result)

-- where every input can be read and no count of faults rose, or the desk is steady, the job's own answer comes
abbrev pub IsComplete : List InputFile → Outcomes → Option Files → Bool → Type 0 → Answer → Type 0
IsComplete inputs own files steady rose result =
    (IsTrue steady ⊎ (rose → ⊥)) → Told files (λ held. AllReadable inputs held →
    (verdict : Verdict) → own held verdict → (result ≡ verdict_answer verdict) ⊎ (result ≡ Memory))

-- the output holds what was to be written, and no other file differs; where there is no output or nothing
-- to be written, no file does
abbrev pub Wrote : Option (List ℕ) → Option (List ℕ) → Files → Files → Type 0
Wrote (Some name) (Some out) old new = Leaves name out old new
Wrote (Some name) None old new = SameFiles old new
Wrote None out old new = SameFiles old new

-- the output is as before or holds a prefix of what was to be written, and no other file differs
abbrev pub WrotePart : Option (List ℕ) → Option (List ℕ) → Files → Files → Type 0
WrotePart (Some name) (Some out) old new = LeavesPart name out old new
WrotePart (Some name) None old new = SameFiles old new
WrotePart None out old new = SameFiles old new

-- the files after a job: its output where it is done, a part of it where it was writing when the desk
-- refused or memory ran out, and else as before
pub record Kept (own : Outcomes) (name : Option (List ℕ)) (result : Answer) (old new : Files) : Type 0 where
  pub done : (text : List ℕ) → result ≡ Done text →
      (out : Option (List ℕ)) × own old (Ok (record { text = text; out = out })) × Wrote name out old new
  pub other : ((text : List ℕ) → result ≢ Done text) → SameFiles old new
      ⊎ (((result ≡ WriteFault) ⊎ (result ≡ Memory)) × (finished : Finished) × own old (Ok finished) × WrotePart name finished.out old new)

-- a job without an output answers no write fault, and no file differs
pub record WritesNothing (result : Answer) (old new : Files) : Type 0 where
  pub same : SameFiles old new
  pub quiet : result ≢ WriteFault
