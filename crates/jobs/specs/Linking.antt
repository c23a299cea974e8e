-- What `layout` and `link` make of a module, its patches and a layout.
use Rattle.std.specs.Prelude.{◌≡◌, ℕ, List, Option, None, Some, Result, Ok, Err}
use Rattle.aux_types.specs.Gives.{◌>>=◌}
use Rattle.bare_image.specs.Spelling as images
use Rattle.gt_model.specs.declared.ir.Ir.{Ir}
use Rattle.layout_plan.specs.declared.fault.LayoutFault.TheVariants.{Line}
use Rattle.layout_plan.specs.Faults.{layout_fault}
use Rattle.layout_plan.specs.Text.{layout_text, text_fault, spelling}
use Rattle.sym_expr.specs.declared.layout.Layout.{Layout as ALayout}
use Rattle.sym_expr.specs.declared.program.Program.{Program}
use Rattle.sym_expr.specs.declared.shape.Shape.{Shape}
use Rattle.sym_expr.specs.Images.{image, link_fault}
use Rattle.sym_expr.specs.Layouts.{default_of}
use Rattle.sym_expr.specs.Placing.{shape_of}
use Rattle.command_words.specs.declared.role.Role.TheVariants as roles
use Rattle.command_words.specs.Picked.{Picked}
use Rattle.jobs.specs.declared.verdict.Finished.{Finished}
use Rattle.jobs.specs.declared.verdict.Refusal.{Refusal}
use Rattle.jobs.specs.declared.verdict.Refusal.TheVariants.{Layout, Link}
use Rattle.jobs.specs.Inputs.{Contents, bytes_in}
use Rattle.jobs.specs.Modules.{unless}
use Rattle.jobs.specs.Programs.{Programs}
use Rattle.jobs.specs.Recode.{written}
use Rattle.jobs.specs.Stages.{Stage, chain, exactly, just, meant}

-- the default layout of a program, as it is written
abbrev pub laid_out : Program → Finished
laid_out g = written (spelling (default_of (shape_of g)))

abbrev pub LaysIr : Picked → Contents → Ir → Stage Finished
LaysIr asked contents ir = chain (Programs asked (contents roles.Patch) ir) (λ g. just (laid_out g))

-- `layout`: the default layout of the program of the module and its patches
abbrev pub Lays : Picked → Contents → Stage Finished
Lays asked contents = chain (meant (bytes_in contents roles.In)) (λ ir. LaysIr asked contents ir)

-- the layout that a text gives, or its first line at fault
abbrev pub laid_text : List ℕ → Stage ALayout
laid_text text (Ok layout) = layout_text text layout
laid_text text (Err refusal) = (line : ℕ) × (refusal ≡ Layout (Line line)) × text_fault text line

-- the layout of a text, or the default one where there is none
abbrev pub laid : Option (List ℕ) → Shape → Stage ALayout
laid None shape = exactly (Ok (default_of shape))
laid (Some text) shape = laid_text text

-- the layout, where it is accepted
abbrev pub accepted_layout : ALayout → Shape → Result ALayout Refusal
accepted_layout layout shape = unless Layout (layout_fault layout shape) layout

-- the image of the program under the layout, where it can be linked, as it is written
abbrev pub linked_image : Program → ALayout → Result Finished Refusal
linked_image g layout = unless Link (link_fault g layout) (written (images.spelling (image g layout)))

abbrev pub link_made : Program → ALayout → Result Finished Refusal
link_made g layout = accepted_layout layout (shape_of g) >>= (λ x. linked_image g x)

-- a program is linked under the layout of a text, or under the default one where there is none
abbrev pub LinksProgram : Option (List ℕ) → Program → Stage Finished
LinksProgram text g = chain (laid text (shape_of g)) (λ layout. exactly (link_made g layout))

-- the same of the program that is asked for
abbrev pub LinksIr : Picked → Contents → Ir → Stage Finished
LinksIr asked contents ir = chain (Programs asked (contents roles.Patch) ir) (λ g. LinksProgram (contents roles.Layout) g)

-- `link`: the image of the program of the module and its patches under a layout
abbrev pub Links : Picked → Contents → Stage Finished
Links asked contents = chain (meant (bytes_in contents roles.In)) (λ ir. LinksIr asked contents ir)
