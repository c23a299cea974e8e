-- The outcome of a job over the files, a desk's faults and want of memory aside.
use Rattle.std.specs.Prelude.{ℕ, List, Option, Some, None, Result}
use Rattle.gr_base.specs.Desk.{Files}
use Rattle.command_words.specs.declared.role.TheConstants.{ROLES}
use Rattle.command_words.specs.declared.table.Job.{Job}
use Rattle.command_words.specs.declared.table.Job.TheVariants.{Recode, Check, Rewrite, Layout, Print, Link, Run, Sim, Demo}
use Rattle.jobs.specs.declared.verdict.Finished.{Finished}
use Rattle.jobs.specs.declared.verdict.Refusal.{Refusal}
use Rattle.jobs.specs.Inputs.{Contents, AllHeld, files_as, contents_of}
use Rattle.command_words.specs.Picked.{Picked}
use Rattle.jobs.specs.Stages.{Stage}
use Rattle.jobs.specs.Recode.{Recodes, ReadsBack}
use Rattle.jobs.specs.Run.{Runs}
use Rattle.jobs.specs.Modules.{Checks}
use Rattle.jobs.specs.Linking.{Lays, Links}
use Rattle.jobs.specs.Printing.{Prints}
use Rattle.jobs.specs.Rewriting.{Rewrites, RewritesFile}
use Rattle.jobs.specs.Simulated.{SimulatesFile}
use Rattle.jobs.specs.Sim.{Sims}
use Rattle.jobs.specs.Demo.{Demos}

-- a pass that is handed in; no job takes one yet
abbrev pub Pass : Type 0
Pass = ⊥

-- what a job has made, or why it refused
abbrev pub Verdict : Type 0
Verdict = Result Finished Refusal

-- what each job makes of the values of its words, the passes and the contents of its inputs
abbrev pub makes_as : Job → Picked → List Pass → Contents → Stage Finished
makes_as Recode asked passes contents = Recodes contents
makes_as Check asked passes contents = Checks asked contents
makes_as Rewrite asked passes contents = Rewrites asked contents
makes_as Layout asked passes contents = Lays asked contents
makes_as Print asked passes contents = Prints asked contents
makes_as Link asked passes contents = Links asked contents
makes_as Run asked passes contents = Runs asked.settings contents
makes_as Sim asked passes contents = Sims asked contents
makes_as Demo asked passes contents = Demos asked.settings

-- what the job that is asked for makes
abbrev pub makes : Picked → List Pass → Contents → Stage Finished
makes asked passes contents = makes_as asked.job asked passes contents

-- what each job promises beside that, where it is done with these contents
abbrev pub PromisesAs : Job → Picked → Contents → Type 0
PromisesAs Recode asked contents = ReadsBack contents
PromisesAs Rewrite asked contents = RewritesFile asked contents
PromisesAs Link asked contents = SimulatesFile asked contents
PromisesAs _ asked contents = Unit {0}

-- what the job that is asked for promises
abbrev pub Promises : Picked → Contents → Type 0
Promises asked contents = PromisesAs asked.job asked contents

-- a verdict over some files
abbrev pub Outcomes : Type 1
Outcomes = Files → Verdict → Type 0

-- what a job that was asked for makes of the files
pub record OutcomeOf (asked : Picked) (passes : List Pass) (files : Files) (verdict : Verdict) : Type 0 where
  pub held : AllHeld (files_as asked ROLES) files
  pub makes : makes asked passes (contents_of asked files) verdict

-- the outcome of what the words ask for
abbrev pub Outcome : Option Picked → List Pass → Outcomes
Outcome None passes files verdict = ⊥
Outcome (Some asked) passes files verdict = OutcomeOf asked passes files verdict

-- what the job that is asked for promises, where it is done
abbrev pub Promised : Option Picked → Files → Type 0
Promised None files = Unit {0}
Promised (Some asked) files = Promises asked (contents_of asked files)

-- the name of the file that a job writes, if the words give one
abbrev pub out_of : Option Picked → Option (List ℕ)
out_of None = None
out_of (Some asked) = asked.out
