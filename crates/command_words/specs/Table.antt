-- The words of each job, from the table that the program reads too.
use Rattle.std.specs.Prelude.{ℕ, Bool, true, false, ◌||◌, List, [], Option, map, unwrap_or}
use Rattle.std.specs.List.{find, list_any}
use Rattle.std.specs.Option.{option_map}
use Rattle.std.specs.Str.{bytes_eq}
use Rattle.command_words.specs.declared.role.Role.{Role}
use Rattle.command_words.specs.declared.role.Role.TheVariants as roles
use Rattle.command_words.specs.declared.table.TheConstants.{JOBS, NAMES}
use Rattle.command_words.specs.declared.table.Job.{Job}
use Rattle.command_words.specs.declared.table.Job.TheVariants.{Recode, Check, Rewrite, Print, Run, Sim, Demo}
use Rattle.command_words.specs.declared.table.Job.TheVariants.{Layout as LayoutJob, Link as LinkJob}
use Rattle.command_words.specs.declared.table.Kind.{Kind}
use Rattle.command_words.specs.declared.table.WordName.{WordName}
use Rattle.command_words.specs.declared.table.WordName.TheVariants.{In, Patch, Layout, Input, Out, Module, Plain, Isa, Steps, Seed, Blocks}

-- a job: its word, the names that it requires, and those that it may have
pub record JobWords : Type 0 where
  pub job : Job
  pub text : List ℕ
  pub required : List WordName
  pub optional : List WordName

abbrev pub job_words : Job → List ℕ → List WordName → List WordName → JobWords
job_words job text required optional = record { job = job; text = text; required = required; optional = optional }

-- a name: its text, and what stands behind its `=`
pub record NameWords : Type 0 where
  pub name : WordName
  pub text : List ℕ
  pub kind : Kind

abbrev pub name_words : WordName → List ℕ → Kind → NameWords
name_words name text kind = record { name = name; text = text; kind = kind }

-- the jobs
abbrev pub jobs : List JobWords
jobs = map (λ row. job_words row.0 row.1.now row.2.now row.3.now) JOBS

-- the names
abbrev pub names : List NameWords
names = map (λ row. name_words row.0 row.1.now row.2) NAMES

-- the job that a word names
abbrev pub job_named : List ℕ → Option Job
job_named word = option_map (λ row. row.job) (find (λ row. bytes_eq row.text word) jobs)

-- are two jobs one
abbrev pub same_job : Job → Job → Bool
same_job Recode Recode = true
same_job Check Check = true
same_job Rewrite Rewrite = true
same_job LayoutJob LayoutJob = true
same_job Print Print = true
same_job LinkJob LinkJob = true
same_job Run Run = true
same_job Sim Sim = true
same_job Demo Demo = true
same_job _ _ = false

-- the names that a job requires
abbrev pub required_of : Job → List WordName
required_of job = unwrap_or (option_map (λ row. row.required) (find (λ row. same_job row.job job) jobs)) []

-- the names that a job may have besides
abbrev pub optional_of : Job → List WordName
optional_of job = unwrap_or (option_map (λ row. row.optional) (find (λ row. same_job row.job job) jobs)) []

-- the name that a text is
abbrev pub name_named : List ℕ → Option NameWords
name_named text = find (λ row. bytes_eq row.text text) names

-- are two names one
abbrev pub same_name : WordName → WordName → Bool
same_name In In = true
same_name Patch Patch = true
same_name Layout Layout = true
same_name Input Input = true
same_name Out Out = true
same_name Module Module = true
same_name Plain Plain = true
same_name Isa Isa = true
same_name Steps Steps = true
same_name Seed Seed = true
same_name Blocks Blocks = true
same_name _ _ = false

-- does a job require a word of this name
abbrev pub requires : Job → WordName → Bool
requires job name = list_any (λ given. same_name given name) (required_of job)

-- does a job have words of this name
abbrev pub takes : Job → WordName → Bool
takes job name = requires job name || list_any (λ given. same_name given name) (optional_of job)

-- the name whose word gives the file of this role
abbrev pub role_word : Role → WordName
role_word roles.In = In
role_word roles.Patch = Patch
role_word roles.Layout = Layout
role_word roles.Input = Input
