-- What sections keep.
use Rattle.std.proofs.Common.{◌≡◌, Bool, true, false, List, [], ◌∷◌, map, refl, ap, ◌∙◌}
use Rattle.std.specs.Prelude.{if◌then◌else◌}
use Rattle.gt_model.specs.declared.intervals.Interval.{Interval}
use Rattle.gt_model.specs.declared.modules.Module.{Module}
use Rattle.gt_model.specs.declared.modules.Section.{Section}
use Rattle.rewrite.specs.Rewritten.{new_intervals, new_section, rewritten_module}
use Rattle.rewrite.specs.Rooms.{section_head}
use Rattle.sym_expr.specs.declared.patches.PatchTable.{PatchTable}
use Rattle.sym_expr.specs.Modules.{is_loaded}
use Rattle.sym_expr.specs.Tables.{Tables}

either_head : (s : Section) (is : List Interval) (b : Bool) → section_head (if b then record s { intervals = is } else s) ≡ section_head s
either_head s is true = refl
either_head s is false = refl

heads_of : (m : Module) (t : Tables) (p : PatchTable) (ss : List Section) → map section_head (map (new_section m t p) ss) ≡ map section_head ss
heads_of m t p [] = refl
heads_of m t p (s ∷ ss) =
    ap (λ x. x ∷ map section_head (map (new_section m t p) ss)) (either_head s (new_intervals m t p s) (is_loaded s))
    ∙ ap (λ l. section_head s ∷ l) (heads_of m t p ss)

pub heads : (m : Module) (t : Tables) (p : PatchTable) → map section_head (rewritten_module m t p).sections ≡ map section_head m.sections
heads m t p = heads_of m t p m.sections
