use Rattle.std.proofs.Common.{◌≡◌, List, [], length, map, take, drop, sym, ap, subst, ◌∙◌}
use Rattle.std.specs.Prelude.{if◌then◌else◌}
use Rattle.std.proofs.lemmas.List.{length-map}
use Rattle.aux_tables.specs.ModuleTables.{tables_of}
use Rattle.gt_model.specs.declared.intervals.Interval.{Interval}
use Rattle.new_modules.proofs.Shares.{front_here}
use Rattle.sym_expr.specs.declared.program.Stretch.{Stretch}
use Rattle.sym_expr.specs.Program.{function_stretch, has_entry, stretch}
use Rattle.new_modules.proofs.sections.new_intervals.Goals as goal

pub old_intervals-requires-clause-here : goal.old_intervals-requires-clause-here
old_intervals-requires-clause-here c =
    let m = c.args.inserts.now.module.now in
    let p = c.args.inserts.now.patches.now in
    let s = c.args.section.now in
    let f = stretch m (tables_of m) p in
    let all = c.args.program.now.stretches in
    let functions : List Stretch = if has_entry m s then map (function_stretch m p) p.functions else [] in
    subst (λ (l : List Interval). take (length l) (drop c.args.at all) ≡ map f l) (sym c.as_slice-old.ensures)
    (ap (λ n. take n (drop c.args.at all)) (sym (length-map s.intervals f)) ∙ front_here (map f s.intervals) functions all c.args.at c.requires.here)
