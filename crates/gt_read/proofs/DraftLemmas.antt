-- The readers' drafts as drafts of messages.
use Rattle.std.proofs.Common.{◌≡◌, ℕ, List, [], ◌∷◌, ◌++◌, map, Option, Some, None, refl, sym, ap, ◌∙◌}
use Rattle.std.specs.List.{fold}
use Rattle.std.specs.Option.{option_map}
use Rattle.std.proofs.lemmas.List.{map-append}
use Rattle.gt_model.specs.Schema.{Rows}
use Rattle.gt_model.specs.Values.{Fields, Plain}
use Rattle.gt_read.specs.declared.ids.IdFault.{IdFault}
use Rattle.gt_read.specs.Pieces.{Piece, Carried, Number, Bytes, Fixed, pieces}
use Rattle.gt_read.specs.Kinds.{Run}
use Rattle.gt_read.specs.Meaning.{meaning}
use Rattle.gt_read.specs.Identifiers.{bad, earlier, least}
use Rattle.gt_read.specs.Faults.{in_run}
use Rattle.gt_read.specs.Drafts.Draft.{DFields, done, drafted, lean, empty, opened, entered, added, step, finished, worst, fault_if}
use Rattle.gt_read.specs.Drafts.Answers.{Starts, Steps, Finishes, Folds, WasRead, Entered, EntersRun, AddsRun, FinishesIf}
use Rattle.gt_read.specs.declared.fault.FormatFault.{FormatFault}
use Rattle.gt_read.proofs.Steps.{stepped_all}
use Rattle.gt_read.proofs.Finishing.{all_worst}

-- a number's records are never at fault
pub silent : (place : ℕ) (c : Carried) → ◌≡◌ {A = List FormatFault} (in_run (λ place start bytes. []) place c ++ []) []
silent place (Number n) = refl
silent place (Bytes start bytes) = refl
silent place Fixed = refl

pub earlier-none : (a : Option IdFault) → earlier a None ≡ a
earlier-none None = refl
earlier-none (Some f) = refl

module _ {D : Type 0} (rows : Rows) (view : D → DFields rows) where
  pub folds_view : (ps : List Piece) (a b : D) → Folds (Steps rows view) a ps b → view b ≡ fold (step rows) (view a) ps
  folds_view [] a b f = ap view f
  folds_view (p ∷ ps) a b f = folds_view ps f.0 b f.2 ∙ ap (λ d. fold (step rows) d ps) f.1

  pub entered_view : (old : Option D) (place : ℕ) (ps : List Piece) (new : D) → Entered (Starts rows view) (Steps rows view) old place ps new → view new ≡ fold (step rows) (opened (empty rows) place (option_map view old)) ps
  entered_view None place ps new e = folds_view ps e.0 new e.2 ∙ ap (λ d. fold (step rows) d ps) e.1
  entered_view (Some d) place ps new e = folds_view ps d new e

  pub enters_view : (old : Option D) (r : Option Run) (new : Option D) → EntersRun (Starts rows view) (Steps rows view) old r new → option_map view new ≡ entered (empty rows) (step rows) (option_map view old) r
  enters_view old None new e = ap (option_map view) e
  enters_view old (Some r) new e = ap (option_map view) e.1 ∙ ap (λ d. Some d) (entered_view old r.place (pieces r.bytes r.start) e.0 e.2)

  module _ {A : Type 0} (value : A → Fields Plain rows) where
    -- what was read whole is what the meaning's draft comes to
    pub was_read : (place : ℕ) (ps : List Piece) (made : A) (fault : Option IdFault) → WasRead (Starts rows view) (Steps rows view) (Finishes rows view value) place ps made fault
        → (value made ≡ finished rows (drafted rows (meaning rows place ps))) × (fault ≡ least (bad rows (meaning rows place ps)))
    was_read place ps made fault w =
        let last : view w.last ≡ drafted rows (meaning rows place ps) =
        folds_view ps w.first w.last w.folded ∙ ap (λ d. fold (step rows) d ps) w.begun ∙ sym (stepped_all rows place [] ps) in
        (w.ended.0 ∙ ap (finished rows) last, w.ended.1 ∙ ap (worst rows) last ∙ all_worst rows (meaning rows place ps))

    lean-map : (items : List A) (fault : Option IdFault)
        → ◌≡◌ {A = List (Fields Plain rows) × Option IdFault} (map value (lean items fault).0, (lean items fault).1) (lean (map value items) fault)
    lean-map items None = refl
    lean-map items (Some f) = refl

    pub adds_view : (items : List A) (fault : Option IdFault) (r : Option Run) (items' : List A) (fault' : Option IdFault)
        → AddsRun (Starts rows view) (Steps rows view) (Finishes rows view value) items fault r items' fault'
        → ◌≡◌ {A = List (Fields Plain rows) × Option IdFault} (map value items', fault') (added (map value items, fault) (option_map (λ (r : Run). done rows (meaning rows r.place (pieces r.bytes r.start))) r))
    adds_view items fault None items' fault' e = λ i. (map value (e.0 i), e.1 i)
    adds_view items fault (Some r) items' fault' e =
        let made = was_read r.place (pieces r.bytes r.start) e.0 e.1 e.2 in
        let all : map value (items ++ e.0 ∷ []) ≡ map value items ++ finished rows (drafted rows (meaning rows r.place (pieces r.bytes r.start))) ∷ [] =
        map-append value items (e.0 ∷ []) ∙ ap (λ (v : Fields Plain rows). map value items ++ v ∷ []) made.0 in
        ap (λ (x : List A × Option IdFault). (map value x.0, x.1)) e.3
        ∙ lean-map (items ++ e.0 ∷ []) (earlier fault e.1)
        ∙ (λ i. lean (all i) (earlier fault (made.1 i)))

    pub finishes_if : (slot : Option D) (made : Option A) (fault : Option IdFault) → FinishesIf (Finishes rows view value) slot made fault
        → (option_map value made ≡ option_map (finished rows) (option_map view slot)) × (fault ≡ fault_if (worst rows) (option_map view slot))
    finishes_if None made fault f = (ap (option_map value) f.0, f.1)
    finishes_if (Some d) made fault f = (ap (option_map value) f.1 ∙ ap (λ v. Some v) f.2.0, f.2.1)

    -- the value of an entry that is there, and of one that isn't
    pub entry_some : (slot : Option D) (made : Option A) (fault : Option IdFault) (a : A) (place : ℕ) → FinishesIf (Finishes rows view value) slot made fault → made ≡ Some a
        → (value a ≡ finished rows (opened (empty rows) place (option_map view slot))) × (fault ≡ worst rows (opened (empty rows) place (option_map view slot)))
    entry_some None made fault a place f e = let no : ◌≡◌ {A = Option A} None (Some a) = sym f.0 ∙ e in absurd cc
    entry_some (Some d) made fault a place f e =
        let one : ◌≡◌ {A = Option A} (Some f.0) (Some a) = sym f.1 ∙ e in
        let same : f.0 ≡ a = cc in
        (ap value (sym same) ∙ f.2.0, f.2.1)

    pub entry_none : (slot : Option D) (made : Option A) (fault : Option IdFault) → FinishesIf (Finishes rows view value) slot made fault → made ≡ None
        → (option_map view slot ≡ None) × (fault ≡ None)
    entry_none None made fault f e = (refl, f.1)
    entry_none (Some d) made fault f e = let no : ◌≡◌ {A = Option A} (Some f.0) None = sym f.1 ∙ e in absurd cc
