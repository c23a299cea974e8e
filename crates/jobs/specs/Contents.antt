-- The contents of the inputs of a job, as the program keeps them.
use Rattle.std.specs.Prelude.{◌≡◌, ℕ, Bool, true, false, cond, List, Option}
use Rattle.command_words.specs.declared.role.Role.{Role}
use Rattle.command_words.specs.declared.role.Role.TheVariants.{In, Patch, Layout, Input}
use Rattle.jobs.specs.declared.contents.Contents as declared
use Rattle.jobs.specs.Inputs.{Contents}

-- the contents that the program's own value has
abbrev pub contents_view : declared.Contents → Contents
contents_view c In = c.main
contents_view c Patch = c.patch
contents_view c Layout = c.layout
contents_view c Input = c.input

-- are two roles one
abbrev pub same_role : Role → Role → Bool
same_role In In = true
same_role Patch Patch = true
same_role Layout Layout = true
same_role Input Input = true
same_role _ _ = false

-- the contents of one role more
abbrev pub Puts : Role → Option (List ℕ) → declared.Contents → declared.Contents → Type 0
Puts role found old new = (other : Role) → contents_view new other ≡ cond (same_role role other) found (contents_view old other)
