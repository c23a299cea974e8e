-- What `link` promises beside its outcome: the image does what the symbolic machine of the module does.
use Rattle.std.specs.Prelude.{◌≡◌, ℕ, List, Option, None, Ok}
use Rattle.gt_model.specs.declared.ir.Ir.{Ir}
use Rattle.gt_read.specs.File.{file}
use Rattle.placed_images.specs.Simulates.{Simulates}
use Rattle.sym_expr.specs.declared.layout.Layout.{Layout as ALayout}
use Rattle.sym_expr.specs.declared.program.Program.{Program}
use Rattle.sym_expr.specs.Images.{link_fault}
use Rattle.sym_expr.specs.Placing.{shape_of}
use Rattle.command_words.specs.declared.role.Role.TheVariants as roles
use Rattle.jobs.specs.Inputs.{Contents, bytes_in}
use Rattle.jobs.specs.Linking.{laid}
use Rattle.jobs.specs.Programs.{Programs}
use Rattle.command_words.specs.Picked.{Picked}
use Rattle.jobs.specs.Stages.{Stage}

-- the program has no fault under the layout, and its image does what its symbolic machine does
pub record IsSimulated (g : Program) (layout : ALayout) : Type 0 where
  pub faultless : link_fault g layout ≡ None
  pub simulates : Simulates g layout

-- so under the layout of a text, or under the default one where there is none
pub record SimulatesProgram (text : Option (List ℕ)) (g : Program) : Type 0 where
  pub layout : ALayout
  pub laid : laid text (shape_of g) (Ok layout)
  pub simulated : IsSimulated g layout

-- so the program of the module that is asked for and of its patches
pub record SimulatesIr (asked : Picked) (contents : Contents) (ir : Ir) : Type 0 where
  pub g : Program
  pub loads : Programs asked (contents roles.Patch) ir (Ok g)
  pub program : SimulatesProgram (contents roles.Layout) g

-- so that of the IR that the file means
pub record SimulatesFile (asked : Picked) (contents : Contents) : Type 0 where
  pub ir : Ir
  pub means : file (bytes_in contents roles.In) ir
  pub of_ir : SimulatesIr asked contents ir
