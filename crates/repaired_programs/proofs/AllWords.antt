-- The words of all loaded intervals where words are inserted name one thing each in both programs.
use Rattle.std.proofs.Common.{◌≡◌, true}
use Rattle.std.specs.Prelude.{IfSome}
use Rattle.std.specs.List.{AllByRecursion as Every, list_any}
use Rattle.gt_model.specs.declared.exprs.Expr.{Expr}
use Rattle.gt_model.specs.declared.intervals.Interval.{Interval}
use Rattle.gt_model.specs.declared.ir.Ir.{Ir}
use Rattle.gt_model.specs.declared.modules.Module.{Module}
use Rattle.repaired_programs.specs.Intervals.{AimsOne, NamesOne}
use Rattle.repaired_programs.specs.Values.{IsOneValue}
use Rattle.rewrite.specs.Rewritten.{has_words}
use Rattle.sym_expr.specs.declared.layout.Layout.{Layout}
use Rattle.sym_expr.specs.declared.patches.Insert.{Insert}
use Rattle.sym_expr.specs.declared.patches.PatchTable.{PatchTable}
use Rattle.sym_expr.specs.declared.program.CodeBlock.{CodeBlock}
use Rattle.sym_expr.specs.declared.program.Piece.{Piece}
use Rattle.sym_expr.specs.declared.program.Program.{Program}
use Rattle.sym_expr.specs.declared.program.Stretch.{Stretch}
use Rattle.sym_expr.specs.Linkable.{formed}
use Rattle.sym_expr.specs.Modules.{in_order, loaded_intervals}
use Rattle.sym_expr.specs.Points.{code_of, pieces_of}
use Rattle.sym_expr.specs.Program.{program, stretch}
use Rattle.sym_expr.specs.TableOk.{typed_patches}
use Rattle.sym_expr.specs.Tables.{Tables}
use Rattle.sym_expr.specs.WellMade.{IsCode, well_made}
use Rattle.repaired_programs.proofs.Bare.{AreNamed}
use Rattle.repaired_programs.proofs.Known.{all_known, IsCounted, of_intervals, pieces_back}
use Rattle.repaired_programs.proofs.Lists.{every_both, every_kept, every_part, every_weaker}
use Rattle.repaired_programs.proofs.Small.{all_bytes, HasBytes}
use Rattle.repaired_programs.proofs.Stands.{IsKnown}
use Rattle.repaired_programs.proofs.Stretched.{stretched_words}

module _ (ir : Ir) (m : Module) (t : Tables) (p : PatchTable) (l : Layout) (named : (b : CodeBlock) → AreNamed b) (count : (g : Program) (b : CodeBlock) → IsCode g b → IsCounted b) (h : formed ir m t) (typed : typed_patches p) (made : well_made (program m t p)) where
  abbrev g : Program
  g = program m t p

  abbrev IsCoded : Piece → Type 0
  IsCoded x = IfSome (code_of x) (IsCode (program m t p))

  all_coded : Every (λ (i : Interval). Every IsCoded (stretch m t p i).pieces) (loaded_intervals m)
  all_coded = of_intervals (λ (s : Stretch). Every IsCoded s.pieces) m t p (every_part (λ (s : Stretch). s.pieces) IsCoded g.stretches (every_kept code_of (IsCode g) (pieces_of g) made.codes))

  pub all_words_one : Every (λ (x : Insert). Every (AimsOne m t p l) x.body) p.inserts
      → Every (λ (i : Interval). list_any (has_words p) i.blocks ≡ true → Every (λ (e : Expr). IsOneValue m t p l e.value) i.exprs → NamesOne m t p l i) (loaded_intervals m)
  all_words_one aims =
      every_weaker (λ (i : Interval). (IsKnown m t p i × HasBytes i) × Every IsCoded (stretch m t p i).pieces) (λ (i : Interval). list_any (has_words p) i.blocks ≡ true → Every (λ (e : Expr). IsOneValue m t p l e.value) i.exprs → NamesOne m t p l i)
      (λ i k some values. stretched_words m t p l i values aims named typed k.0.0 k.0.1 (pieces_back IsCoded m t p i 0 (in_order i.blocks) k.1) some) (loaded_intervals m)
      (every_both (λ (i : Interval). IsKnown m t p i × HasBytes i) (λ (i : Interval). Every IsCoded (stretch m t p i).pieces) (loaded_intervals m)
      (every_both (IsKnown m t p) HasBytes (loaded_intervals m) (all_known ir m t p count h made) (all_bytes ir m t h)) all_coded)
