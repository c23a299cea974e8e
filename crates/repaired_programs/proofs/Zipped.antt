-- What stands between each rewritten interval and its old one, and between functions, stands between the intervals of both programs.
use Rattle.std.proofs.Common.{◌≡◌, Bool, true, false, List, [], ◌∷◌, ◌++◌, map, refl, sym, ap, ◌∙◌, subst}
use Rattle.std.specs.Prelude.{filter, if◌then◌else◌}
use Rattle.std.specs.List.{AllByRecursion as Every, AllZip, flat_map}
use Rattle.std.proofs.lemmas.List.{map-append}
use Rattle.gt_model.specs.declared.intervals.Interval.{Interval}
use Rattle.gt_model.specs.declared.modules.Module.{Module}
use Rattle.gt_model.specs.declared.modules.Section.{Section}
use Rattle.rewrite.specs.Functions.{function_interval}
use Rattle.rewrite.specs.Rewritten.{new_interval, new_intervals, new_section}
use Rattle.sym_expr.specs.declared.patches.Function.{Function}
use Rattle.sym_expr.specs.declared.patches.PatchTable.{PatchTable}
use Rattle.sym_expr.specs.declared.program.Stretch.{Stretch}
use Rattle.sym_expr.specs.Modules.{intervals_of, is_loaded}
use Rattle.sym_expr.specs.Patches.{no_patches}
use Rattle.sym_expr.specs.Program.{function_stretch, has_entry, section_stretches, stretch}
use Rattle.sym_expr.specs.Tables.{Tables}
use Rattle.repaired_programs.proofs.Lists.{every_back, every_front}

nothing_more : {X : Type 0} (xs : List X) (b : Bool) → xs ++ (if b then [] else []) ≡ xs
nothing_more [] true = refl
nothing_more [] false = refl
nothing_more (x ∷ xs) b = ap (λ l. x ∷ l) (nothing_more xs b)

pub zip_append : {A B : Type 0} (R : A → B → Type 0) (xs xs2 : List A) (ys ys2 : List B) → AllZip R xs ys → AllZip R xs2 ys2 → AllZip R (xs ++ xs2) (ys ++ ys2)
zip_append R [] xs2 [] ys2 h k = k
zip_append R [] xs2 (y ∷ ys) ys2 h k = absurd h
zip_append R (x ∷ xs) xs2 [] ys2 h k = absurd h
zip_append R (x ∷ xs) xs2 (y ∷ ys) ys2 h k = (h.0, zip_append R xs xs2 ys ys2 h.1 k)

module _ (R : Stretch → Stretch → Type 0) (m : Module) (t : Tables) (p : PatchTable) (n : Module) (u : Tables) where
  abbrev pub OwnZip : Interval → Type 0
  OwnZip i = R (stretch n u no_patches (new_interval m t p i)) (stretch m t p i)

  abbrev pub NewZip : Function → Type 0
  NewZip f = R (stretch n u no_patches (function_interval m f)) (function_stretch m p f)

  own_zip : (is : List Interval) → Every OwnZip is → AllZip R (map (stretch n u no_patches) (map (new_interval m t p) is)) (map (stretch m t p) is)
  own_zip [] h = tt
  own_zip (i ∷ is) h = (h.0, own_zip is h.1)

  new_zip : (fs : List Function) → Every NewZip fs → AllZip R (map (stretch n u no_patches) (map (function_interval m) fs)) (map (function_stretch m p) fs)
  new_zip [] h = tt
  new_zip (f ∷ fs) h = (h.0, new_zip fs h.1)

  more_zip : (x : Bool) → Every NewZip p.functions → AllZip R (map (stretch n u no_patches) (if x then map (function_interval m) p.functions else [])) (if x then map (function_stretch m p) p.functions else [])
  more_zip true h = new_zip p.functions h
  more_zip false h = tt

  abbrev news : Section → List Interval
  news s = if has_entry m s then map (function_interval m) p.functions else []

  section_zip : (s : Section) → Every OwnZip s.intervals → Every NewZip p.functions → AllZip R (section_stretches n u no_patches (record s { intervals = new_intervals m t p s })) (section_stretches m t p s)
  section_zip s h k =
      let kept : List Interval = map (new_interval m t p) s.intervals in
      let f = λ (i : Interval). stretch n u no_patches i in
      let same : section_stretches n u no_patches (record s { intervals = new_intervals m t p s }) ≡ map f kept ++ map f (news s) =
      nothing_more (map f (kept ++ news s)) (has_entry n (record s { intervals = kept ++ news s })) ∙ map-append f kept (news s) in
      let old : List Stretch = section_stretches m t p s in
      subst (λ l. AllZip R l old) (sym same)
      (zip_append R (map f kept) (map f (news s)) (map (stretch m t p) s.intervals) (if has_entry m s then map (function_stretch m p) p.functions else []) (own_zip s.intervals h) (more_zip (has_entry m s) k))

  abbrev AreZipped : List Section → List Section → Type 0
  AreZipped ns ss = AllZip R (flat_map (section_stretches n u no_patches) ns) (flat_map (section_stretches m t p) ss)

  either_zip : (s : Section) (ss : List Section) (x : Bool) → is_loaded s ≡ x → Every OwnZip (intervals_of (if x then s ∷ filter is_loaded ss else filter is_loaded ss)) → Every NewZip p.functions
      → (Every OwnZip (intervals_of (filter is_loaded ss)) → AreZipped (filter is_loaded (map (new_section m t p) ss)) (filter is_loaded ss))
      → AreZipped (filter is_loaded ((if x then record s { intervals = new_intervals m t p s } else s) ∷ map (new_section m t p) ss)) (filter is_loaded (s ∷ ss))
  either_zip s ss true e h k rest =
      let s2 : Section = record s { intervals = new_intervals m t p s } in
      let others : List Section = filter is_loaded (map (new_section m t p) ss) in
      let olds : List Section = filter is_loaded ss in
      subst (λ x. AreZipped (if x then s2 ∷ others else others) (if x then s ∷ olds else olds)) (sym e)
      (zip_append R (section_stretches n u no_patches s2) (flat_map (section_stretches n u no_patches) others) (section_stretches m t p s) (flat_map (section_stretches m t p) olds)
      (section_zip s (every_front OwnZip s.intervals (intervals_of olds) h) k) (rest (every_back OwnZip s.intervals (intervals_of olds) h)))
  either_zip s ss false e h k rest =
      let others : List Section = filter is_loaded (map (new_section m t p) ss) in
      let olds : List Section = filter is_loaded ss in
      subst (λ x. AreZipped (if x then s ∷ others else others) (if x then s ∷ olds else olds)) (sym e) (rest h)

  pub sections_zip : (ss : List Section) → Every OwnZip (intervals_of (filter is_loaded ss)) → Every NewZip p.functions → AreZipped (filter is_loaded (map (new_section m t p) ss)) (filter is_loaded ss)
  sections_zip [] h k = tt
  sections_zip (s ∷ ss) h k = either_zip s ss (is_loaded s) refl h k (λ r. sections_zip ss r k)
