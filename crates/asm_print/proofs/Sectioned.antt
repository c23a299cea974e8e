-- The intervals of a program without patches are those of the loaded sections, in order.
use Rattle.std.proofs.Common.{◌≡◌, ℕ, ◌+◌, ◌^◌, ◌<◌, ◌≤◌, Bool, true, false, cond, length, map, take, drop, sum_by, List, [], ◌∷◌, ◌++◌, refl, sym, ap, subst, ◌∙◌, append-nil, arith}
use Rattle.std.specs.Prelude.{filter}
use Rattle.std.specs.List.{flat_map}
use Rattle.std.proofs.lemmas.List.{map-append}
use Rattle.gt_model.specs.declared.intervals.Interval.{Interval}
use Rattle.gt_model.specs.declared.modules.Module.{Module}
use Rattle.gt_model.specs.declared.modules.Section.{Section}
use Rattle.sym_expr.specs.declared.program.Stretch.{Stretch}
use Rattle.sym_expr.specs.Modules.{intervals_of, loaded_intervals, loaded_sections}
use Rattle.sym_expr.specs.Patches.{no_patches}
use Rattle.sym_expr.specs.Program.{has_entry, program, section_stretches, stretch}
use Rattle.sym_expr.specs.Tables.{Tables}

none_more : (b : Bool) (xs : List Stretch) → xs ++ cond b [] [] ≡ xs
none_more true xs = append-nil xs
none_more false xs = append-nil xs

sections_are : (m : Module) (t : Tables) (ss : List Section) → flat_map (section_stretches m t no_patches) ss ≡ map (stretch m t no_patches) (intervals_of ss)
sections_are m t [] = refl
sections_are m t (s ∷ ss) =
    ap (λ front. front ++ flat_map (section_stretches m t no_patches) ss) (none_more (has_entry m s) (map (stretch m t no_patches) s.intervals))
    ∙ ap (λ rest. map (stretch m t no_patches) s.intervals ++ rest) (sections_are m t ss)
    ∙ sym (map-append (stretch m t no_patches) s.intervals (intervals_of ss))

pub stretches_are : (m : Module) (t : Tables) → (program m t no_patches).stretches ≡ map (stretch m t no_patches) (loaded_intervals m)
stretches_are m t = sections_are m t (loaded_sections m)
