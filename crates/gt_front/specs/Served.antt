-- All that the top call says of a job that was asked for, in one.
use Rattle.std.specs.Prelude.{◌≡◌, ◌⊎◌, ℕ, Bool, List, Option, None}
use Rattle.gr_base.specs.Desk.{Files, Told, ToldBoth, Rose}
use Rattle.gt_front.specs.declared.answer.Answer.{Answer}
use Rattle.gt_front.specs.declared.answer.Answer.TheVariants.{Done, Usage}
use Rattle.gt_front.specs.Causes.{ReadFaultCause, TooLargeCause, WriteFaultCause, IsOwn, IsComplete, Kept, WritesNothing}
use Rattle.jobs.specs.Inputs.{inputs_of}
use Rattle.jobs.specs.Outcome.{Pass, Outcome, Promised, out_of}
use Rattle.command_words.specs.Picked.{Picked}

-- a desk around a call: its files, whether it is steady, and its counts
pub record Around : Type 0 where
  pub old : Option Files
  pub new : Option Files
  pub steady : Bool
  pub read_before : ℕ
  pub read_now : ℕ
  pub write_before : ℕ
  pub write_now : ℕ
  pub taken_before : ℕ
  pub taken_now : ℕ

-- what is said of the answer to what was asked for
pub record Served (asked : Option Picked) (passes : List Pass) (desk : Around) (result : Answer) : Type 0 where
  pub served : (index : ℕ) → result ≡ Usage index → ⊥
  pub read_fault : ReadFaultCause (inputs_of asked) desk.old desk.steady desk.read_before desk.read_now result
  pub too_large : TooLargeCause (inputs_of asked) desk.old desk.steady desk.taken_before desk.taken_now result
  pub write_fault : WriteFaultCause (Outcome asked passes) (out_of asked) desk.old desk.steady desk.write_before desk.write_now result
  pub own : IsOwn (Outcome asked passes) desk.old result
  pub complete : IsComplete (inputs_of asked) (Outcome asked passes) desk.old desk.steady
      (Rose desk.read_before desk.read_now ⊎ Rose desk.write_before desk.write_now) result
  pub promised : (text : List ℕ) → result ≡ Done text → Told desk.old (Promised asked)
  pub kept : ToldBoth desk.old desk.new (Kept (Outcome asked passes) (out_of asked) result)
  pub nothing : out_of asked ≡ None → ToldBoth desk.old desk.new (WritesNothing result)
