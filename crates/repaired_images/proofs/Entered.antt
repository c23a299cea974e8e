-- The section that has the entry.
use Rattle.std.proofs.Common.{◌≡◌, ℕ, inl, inr, Bool, true, false, ◌||◌, List, [], ◌∷◌, Option, Some, None, refl, sym, ap, ◌∙◌}
use Rattle.std.specs.Prelude.{unwrap_or}
use Rattle.std.specs.List.{list_any}
use Rattle.std.specs.Option.{option_map_or}
use Rattle.std.proofs.lemmas.Bool.{false≢true, or_left, or_right}
use Rattle.gt_model.specs.declared.intervals.Interval.{Interval}
use Rattle.gt_model.specs.declared.ir.Ir.{Ir}
use Rattle.gt_model.specs.declared.modules.Module.{Module}
use Rattle.gt_model.specs.declared.modules.Section.{Section}
use Rattle.sym_expr.specs.Linkable.{formed, have_block}
use Rattle.sym_expr.specs.Modules.{blocks_of, has_id, is_loaded, loaded_intervals, loaded_sections}
use Rattle.sym_expr.specs.Program.{entry_of, has_entry}
use Rattle.sym_expr.specs.Tables.{Tables}
use Rattle.repaired_images.proofs.Lists.{In, out_filter, out_flat}

-- ---- the section that has the entry

one_passes : {A : Type 0} (test : A → Bool) (y : A) (b c : Bool) (ys : List A) → test y ≡ b → (b || c) ≡ true → (c ≡ true → (x : A) × In x ys × (test x ≡ true)) → (x : A) × In x (y ∷ ys) × (test x ≡ true)
one_passes test y true c ys e h f = (y, inl refl, e)
one_passes test y false c ys e h f = let rest = f h in (rest.0, inr rest.1, rest.2)

pub any_out : {A : Type 0} (test : A → Bool) (xs : List A) → list_any test xs ≡ true → (x : A) × In x xs × (test x ≡ true)
any_out test [] h = absurd (false≢true h)
any_out test (y ∷ ys) h = one_passes test y (test y) (list_any test ys) ys refl h (any_out test ys)

pub any_in : {A : Type 0} (test : A → Bool) (x : A) (xs : List A) → In x xs → test x ≡ true → list_any test xs ≡ true
any_in test x [] h e = absurd h
any_in test x (y ∷ ys) (inl d) e = or_left (test y) (list_any test ys) (ap test (sym d) ∙ e)
any_in test x (y ∷ ys) (inr h) e = or_right (test y) (list_any test ys) (any_in test x ys h e)

-- a loaded section that has the entry
pub record HasEntry (m : Module) : Type 0 where
  pub section : Section
  pub among : In section m.sections
  pub loaded : is_loaded section ≡ true
  pub entry : has_entry m section ≡ true

entered_at : (m : Module) (o : Option (List ℕ)) → m.entry ≡ o → option_map_or (have_block (loaded_intervals m)) o false ≡ true → HasEntry m
entered_at m None e h = absurd (false≢true h)
entered_at m (Some id) e h =
    let b = any_out (has_id id) (blocks_of (loaded_intervals m)) h in
    let i = out_flat (λ (x : Interval). x.blocks) b.0 (loaded_intervals m) b.1 in
    let s = out_flat (λ (x : Section). x.intervals) i.0 (loaded_sections m) i.1 in
    let kept = out_filter is_loaded s.0 m.sections s.1 in
    let same : entry_of m ≡ id = ap (λ o. unwrap_or o []) e in
    let has : has_id (entry_of m) b.0 ≡ true = ap (λ x. has_id x b.0) same ∙ b.2 in
    record {
      section = s.0;
      among = kept.0;
      loaded = kept.1;
      entry = any_in (λ (x : Interval). list_any (has_id (entry_of m)) x.blocks) i.0 s.0.intervals s.2 (any_in (has_id (entry_of m)) b.0 i.0.blocks i.2 has);
    }

pub has_entry_section : (ir : Ir) (m : Module) (t : Tables) → formed ir m t → HasEntry m
has_entry_section ir m t h = entered_at m m.entry refl h.faultless.entered
