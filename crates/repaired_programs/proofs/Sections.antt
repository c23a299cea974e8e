-- What is the same of each rewritten interval and each function is the same of the programs.
use Rattle.std.proofs.Common.{◌≡◌, Bool, true, false, List, [], ◌∷◌, ◌++◌, map, refl, sym, ap, ◌∙◌, arith}
use Rattle.std.specs.Prelude.{filter, if◌then◌else◌}
use Rattle.std.specs.List.{AllByRecursion as Every, flat_map}
use Rattle.std.proofs.lemmas.List.{map-append}
use Rattle.gt_model.specs.declared.intervals.Interval.{Interval}
use Rattle.gt_model.specs.declared.modules.Module.{Module}
use Rattle.gt_model.specs.declared.modules.Section.{Section}
use Rattle.rewrite.specs.Functions.{function_interval}
use Rattle.rewrite.specs.Rewritten.{new_interval, new_intervals, new_section}
use Rattle.sym_expr.specs.declared.patches.Function.{Function}
use Rattle.sym_expr.specs.declared.patches.PatchTable.{PatchTable}
use Rattle.sym_expr.specs.declared.program.Stretch.{Stretch}
use Rattle.sym_expr.specs.Modules.{intervals_of, is_loaded}
use Rattle.sym_expr.specs.Patches.{no_patches}
use Rattle.sym_expr.specs.Program.{function_stretch, has_entry, section_stretches, stretch}
use Rattle.sym_expr.specs.Tables.{Tables}
use Rattle.repaired_programs.proofs.Lists.{every_back, every_front}

nothing_more : {X : Type 0} (xs : List X) (b : Bool) → xs ++ (if b then [] else []) ≡ xs
nothing_more [] true = refl
nothing_more [] false = refl
nothing_more (x ∷ xs) b = ap (λ l. x ∷ l) (nothing_more xs b)

-- what F says of the new intervals, G says of the old ones
module _ {X : Type 0} (F G : Stretch → X) (K : Interval → Type 0) (Q : Function → Type 0) (m : Module) (t : Tables) (p : PatchTable) (n : Module) (u : Tables) (own : (i : Interval) → K i → F (stretch n u no_patches (new_interval m t p i)) ≡ G (stretch m t p i)) (brought : (f : Function) → Q f → F (stretch n u no_patches (function_interval m f)) ≡ G (function_stretch m p f)) (all_brought : Every Q p.functions) where
  own_same : (is : List Interval) → Every K is → map F (map (stretch n u no_patches) (map (new_interval m t p) is)) ≡ map G (map (stretch m t p) is)
  own_same [] h = refl
  own_same (i ∷ is) h =
      ap (λ x. x ∷ map F (map (stretch n u no_patches) (map (new_interval m t p) is))) (own i h.0)
      ∙ ap (λ l. G (stretch m t p i) ∷ l) (own_same is h.1)

  functions_same : (fs : List Function) → Every Q fs → map F (map (stretch n u no_patches) (map (function_interval m) fs)) ≡ map G (map (function_stretch m p) fs)
  functions_same [] h = refl
  functions_same (f ∷ fs) h =
      ap (λ x. x ∷ map F (map (stretch n u no_patches) (map (function_interval m) fs))) (brought f h.0)
      ∙ ap (λ l. G (function_stretch m p f) ∷ l) (functions_same fs h.1)

  more_same : (x : Bool) → map F (map (stretch n u no_patches) (if x then map (function_interval m) p.functions else [])) ≡ map G (if x then map (function_stretch m p) p.functions else [])
  more_same true = functions_same p.functions all_brought
  more_same false = refl

  abbrev news : Section → List Interval
  news s = if has_entry m s then map (function_interval m) p.functions else []

  section_same : (s : Section) → Every K s.intervals → map F (section_stretches n u no_patches (record s { intervals = new_intervals m t p s })) ≡ map G (section_stretches m t p s)
  section_same s h =
      let kept : List Interval = map (new_interval m t p) s.intervals in
      let f = λ (i : Interval). stretch n u no_patches i in
      ap (map F) (nothing_more (map f (kept ++ news s)) (has_entry n (record s { intervals = kept ++ news s })))
      ∙ ap (map F) (map-append f kept (news s))
      ∙ map-append F (map f kept) (map f (news s))
      ∙ ap (λ l. l ++ map F (map f (news s))) (own_same s.intervals h)
      ∙ ap (λ l. map G (map (stretch m t p) s.intervals) ++ l) (more_same (has_entry m s))
      ∙ sym (map-append G (map (stretch m t p) s.intervals) (if has_entry m s then map (function_stretch m p) p.functions else []))

  abbrev new_seen : List Section → List X
  new_seen ss = map F (flat_map (section_stretches n u no_patches) (filter is_loaded ss))

  abbrev old_seen : List Section → List X
  old_seen ss = map G (flat_map (section_stretches m t p) (filter is_loaded ss))

  new_first : (s : Section) (rest : List Section) → is_loaded s ≡ true → new_seen (s ∷ rest) ≡ map F (section_stretches n u no_patches s) ++ new_seen rest
  new_first s rest e =
      ap (λ x. map F (flat_map (section_stretches n u no_patches) (if x then s ∷ filter is_loaded rest else filter is_loaded rest))) e
      ∙ map-append F (section_stretches n u no_patches s) (flat_map (section_stretches n u no_patches) (filter is_loaded rest))

  old_first : (s : Section) (rest : List Section) → is_loaded s ≡ true → old_seen (s ∷ rest) ≡ map G (section_stretches m t p s) ++ old_seen rest
  old_first s rest e =
      ap (λ x. map G (flat_map (section_stretches m t p) (if x then s ∷ filter is_loaded rest else filter is_loaded rest))) e
      ∙ map-append G (section_stretches m t p s) (flat_map (section_stretches m t p) (filter is_loaded rest))

  known_first : (s : Section) (ss : List Section) (x : Bool) → Every K (intervals_of (if x then s ∷ ss else ss)) → (x ≡ true → Every K s.intervals) × Every K (intervals_of ss)
  known_first s ss true h = (λ e. every_front K s.intervals (intervals_of ss) h, every_back K s.intervals (intervals_of ss) h)
  known_first s ss false h = (λ e. absurd (grind (arith, e)), h)

  either_section : (s : Section) (ss : List Section) (x : Bool) → is_loaded s ≡ x → (x ≡ true → Every K s.intervals) → new_seen (map (new_section m t p) ss) ≡ old_seen ss
      → new_seen ((if x then record s { intervals = new_intervals m t p s } else s) ∷ map (new_section m t p) ss) ≡ old_seen (s ∷ ss)
  either_section s ss true e h rest =
      new_first (record s { intervals = new_intervals m t p s }) (map (new_section m t p) ss) e
      ∙ ap (λ l. l ++ new_seen (map (new_section m t p) ss)) (section_same s (h refl))
      ∙ ap (λ l. map G (section_stretches m t p s) ++ l) rest
      ∙ sym (old_first s ss e)
  either_section s ss false e h rest =
      ap (λ x. map F (flat_map (section_stretches n u no_patches) (if x then s ∷ filter is_loaded (map (new_section m t p) ss) else filter is_loaded (map (new_section m t p) ss)))) e
      ∙ rest
      ∙ sym (ap (λ x. map G (flat_map (section_stretches m t p) (if x then s ∷ filter is_loaded ss else filter is_loaded ss))) e)

  pub sections_same : (ss : List Section) → Every K (intervals_of (filter is_loaded ss)) → new_seen (map (new_section m t p) ss) ≡ old_seen ss
  sections_same [] h = refl
  sections_same (s ∷ ss) h =
      let both = known_first s (filter is_loaded ss) (is_loaded s) h in
      either_section s ss (is_loaded s) refl both.0 (sections_same ss both.1)
