-- What an index of inserted words knows of its module and patches, and which intervals can be rewritten.
use Rattle.std.specs.Prelude.{◌≡◌, ℕ, List, map, Contains}
use Rattle.new_intervals.specs.Bringing.{word_value}
use Rattle.new_intervals.specs.Inserting.{values_in}
use Rattle.new_intervals.specs.declared.inserts.Inserts.{Inserts}
use Rattle.rewrite.specs.Exprs.{news_of}
use Rattle.sym_expr.specs.declared.program.Program.{Program}
use Rattle.sym_expr.specs.declared.program.Stretch.{Stretch}
use Rattle.sym_expr.specs.WellMade.{well_made}

-- the index has what the words bring that are inserted in each block, in the order of the patches
abbrev pub Knows : Inserts → Type 0
Knows n = (id : List ℕ) → values_in n id ≡ map (word_value n.module.now) (news_of n.patches.now id)

-- an interval of a program that can be laid out
abbrev pub IsOfProgram : Stretch → Type 0
IsOfProgram s = (g : Program) × well_made g × Contains g.stretches s
