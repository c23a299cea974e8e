-- What an interval and a function say in the program of a repaired module, beside what they say in that of the module and its patches.
use Rattle.std.specs.Prelude.{IfSome}
use Rattle.std.specs.List.{AllZip}
use Rattle.edge_repair.specs.Repaired.{repaired_module}
use Rattle.gt_model.specs.declared.intervals.Interval.{Interval}
use Rattle.gt_model.specs.declared.modules.Module.{Module}
use Rattle.repaired_programs.specs.Named.{IsOneStretch, IsOneTarget, IsOneWord, words_of}
use Rattle.repaired_programs.specs.Programs.{repaired_program}
use Rattle.rewrite.specs.Functions.{function_interval}
use Rattle.rewrite.specs.Identifiers.{symbol_id}
use Rattle.rewrite.specs.Places.{moved_tables}
use Rattle.rewrite.specs.Rewritten.{new_interval}
use Rattle.sym_expr.specs.declared.layout.Layout.{Layout}
use Rattle.sym_expr.specs.declared.patches.Function.{Function}
use Rattle.sym_expr.specs.declared.patches.PatchTable.{PatchTable}
use Rattle.sym_expr.specs.declared.patches.PatchTarget.{PatchTarget}
use Rattle.sym_expr.specs.declared.patches.PatchWord.{PatchWord}
use Rattle.sym_expr.specs.Patches.{no_patches}
use Rattle.sym_expr.specs.Program.{function_stretch, program, stretch}
use Rattle.sym_expr.specs.Tables.{Tables}
use Rattle.sym_expr.specs.Targets.{old_target, patch_target}

-- the words and the data of an interval of the module name one thing each under a layout
abbrev pub SaysOne : Module → Tables → PatchTable → Layout → Interval → Type 0
SaysOne m t p l i = IsOneStretch l (repaired_program m t p) (program m t p) (stretch (repaired_module m t p) (moved_tables m t p) no_patches (new_interval m t p i)) (stretch m t p i)

-- those of a function do
abbrev pub BringsOne : Module → Tables → PatchTable → Layout → Function → Type 0
BringsOne m t p l f = IsOneStretch l (repaired_program m t p) (program m t p) (stretch (repaired_module m t p) (moved_tables m t p) no_patches (function_interval m f)) (function_stretch m p f)

-- what a word of the patches names is one in both programs: in the repaired module it is a symbol
abbrev pub AimsOne : Module → Tables → PatchTable → Layout → PatchWord → Type 0
AimsOne m t p l w =
    IfSome w.target (λ (x : PatchTarget). IsOneTarget l (repaired_program m t p) (program m t p) (old_target (repaired_module m t p) no_patches (symbol_id m x.symbol) x.offset) (patch_target m p x))

-- the words of an interval name one thing each
abbrev pub NamesOne : Module → Tables → PatchTable → Layout → Interval → Type 0
NamesOne m t p l i =
    AllZip (IsOneWord l (repaired_program m t p) (program m t p)) (words_of (stretch (repaired_module m t p) (moved_tables m t p) no_patches (new_interval m t p i))) (words_of (stretch m t p i))
