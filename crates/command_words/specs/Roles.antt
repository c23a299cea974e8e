-- The names of the inputs in a note.
use Rattle.std.specs.Prelude.{ℕ, List, codes}
use Rattle.command_words.specs.declared.role.Role.{Role}
use Rattle.command_words.specs.declared.role.Role.TheVariants.{In, Patch, Layout, Input}

-- a role in a note
abbrev pub role_name : Role → List ℕ
role_name In = codes "in"
role_name Patch = codes "patch"
role_name Layout = codes "layout"
role_name Input = codes "input"
