-- What a file comes to, of which some bytes were read.
use Rattle.std.proofs.Common.{◌≡◌, ℕ, ◌+◌, cond, List, [], ◌++◌, drop, Option, Some, None, Ok, Err, refl, sym, ap, subst, ◌∙◌, append_assoc}
use Rattle.std.specs.List.{fold, flat_map}
use Rattle.std.proofs.lemmas.Bool.{eq-eqb, ne_eqb}
use Rattle.std.proofs.lemmas.Grind.{fold-append}
use Rattle.std.proofs.lemmas.List.{append-nil}
use Rattle.gr_base.specs.declared.end.End.{End}
use Rattle.gr_base.specs.declared.end.End.TheVariants as ends
use Rattle.gt_model.specs.declared.ir.Ir.{Ir}
use Rattle.gt_model.specs.Schema.{ir_rows}
use Rattle.gt_model.specs.Views.{ir_value}
use Rattle.gt_read.specs.declared.fault.FormatFault.{FormatFault}
use Rattle.gt_read.specs.declared.fault.FormatFault.TheVariants.{Version, UuidLength}
use Rattle.gt_read.specs.declared.ids.IdFault.{IdFault}
use Rattle.gt_read.specs.declared.module_drafts.IrDraft.{IrDraft}
use Rattle.gt_read.specs.Drafts.Answers.{Steps, Finishes, Folds, IsFirst}
use Rattle.gt_read.specs.Drafts.Draft.{DFields, step, finished, worst}
use Rattle.gt_read.specs.Drafts.Taken.{TakesFront, behind}
use Rattle.gt_read.specs.Drafts.Views.{ir_draft}
use Rattle.gt_read.specs.Faults.{faults, piece_faults, first_of}
use Rattle.gt_read.specs.Feeding.{draft_version, draft_fault, length_fault, draft_ends, body_ends, Comes}
use Rattle.gt_read.specs.File.{or_else, version_fault}
use Rattle.gt_read.specs.Outcome.{Outcome, or_fault}
use Rattle.gt_read.specs.Pieces.{Piece, Walk, pieces, walk}
use Rattle.gt_read.proofs.DraftLemmas.{folds_view}
use Rattle.gt_read.proofs.Merging.{walked, walked_behind}

-- a fault among those of the records is what the body comes to
pub fault_comes : (byte : ℕ) (d : DFields ir_rows) (place : ℕ) (bytes : List ℕ) (end : End FormatFault) → IsFirst (faults ir_rows bytes place) end → Comes end (body_ends byte d place bytes)
unfolding body_ends
fault_comes byte d place bytes (ends.Fault f) h =
    let last = fold (step ir_rows) d (pieces bytes place) in
    ap (λ o. or_fault (or_else o (draft_fault byte last)) (finished ir_rows last)) h
fault_comes byte d place bytes ends.Memory h = tt

-- records that are taken make no difference
pub taken_ends : (byte : ℕ) (bytes : List ℕ) (base at : ℕ) (old new : IrDraft) → TakesFront (Steps ir_rows ir_draft) (piece_faults ir_rows) bytes base old at new
    → (rest : List ℕ) → body_ends byte (ir_draft new) (base + at) (drop at bytes ++ rest) ≡ body_ends byte (ir_draft old) base (bytes ++ rest)
unfolding body_ends walked
taken_ends byte bytes base at old new t rest =
    let w = walk (drop at bytes ++ rest) (base + at) in
    let same_faults : faults ir_rows (bytes ++ rest) base ≡ faults ir_rows (drop at bytes ++ rest) (base + at) =
    ap (walked (piece_faults ir_rows)) (t.walks rest) ∙ walked_behind (piece_faults ir_rows) t.done w t.sound in
    let so_far : ir_draft new ≡ fold (step ir_rows) (ir_draft old) t.done = folds_view ir_rows ir_draft t.done old new t.folded in
    let same_draft : fold (step ir_rows) (ir_draft old) (pieces (bytes ++ rest) base) ≡ fold (step ir_rows) (ir_draft new) w.pieces =
    ap (λ (v : Walk). fold (step ir_rows) (ir_draft old) v.pieces) (t.walks rest)
    ∙ fold-append (step ir_rows) (ir_draft old) t.done w.pieces ∙ ap (λ d. fold (step ir_rows) d w.pieces) (sym so_far) in
    λ i. draft_ends byte (sym same_faults i) (sym same_draft i)

-- ---- the end of a body

module _ (byte place : ℕ) (pending : List ℕ) (old new : IrDraft) (folded : Folds (Steps ir_rows ir_draft) old (pieces pending place) new) (sound : faults ir_rows pending place ≡ []) where
  at_end : body_ends byte (ir_draft old) place (pending ++ []) ≡ or_fault (draft_fault byte (ir_draft new)) (finished ir_rows (ir_draft new))
  unfolding body_ends
  at_end =
      let last : fold (step ir_rows) (ir_draft old) (pieces pending place) ≡ ir_draft new = sym (folds_view ir_rows ir_draft (pieces pending place) old new folded) in
      ap (body_ends byte (ir_draft old) place) (append-nil pending) ∙ (λ i. draft_ends byte (sound i) (last i))

  pub other_version_ends : ¬ (byte ≡ new.version) → body_ends byte (ir_draft old) place (pending ++ []) ≡ Err (ends.Fault (Version byte new.version))
  unfolding version_fault draft_version ir_rows ir_draft
  other_version_ends differs =
      at_end ∙ ap (λ t. or_fault (or_else (cond t None (Some (Version byte new.version))) (length_fault (worst ir_rows (ir_draft new)))) (finished ir_rows (ir_draft new))) (ne_eqb _ _ differs)

  module _ (same : byte ≡ new.version) (made : Ir) (fault : Option IdFault) (ended : Finishes ir_rows ir_draft ir_value new made fault) where
    version_ends : body_ends byte (ir_draft old) place (pending ++ []) ≡ or_fault (length_fault fault) (ir_value made)
    unfolding version_fault draft_version ir_rows ir_draft
    version_ends =
        at_end ∙ ap (λ t. or_fault (or_else (cond t None (Some (Version byte new.version))) (length_fault (worst ir_rows (ir_draft new)))) (finished ir_rows (ir_draft new))) (eq-eqb _ _ same)
        ∙ (λ i. or_fault (length_fault (sym ended.1 i)) (sym ended.0 i))

    pub bad_id_ends : (f : IdFault) → fault ≡ Some f → body_ends byte (ir_draft old) place (pending ++ []) ≡ Err (ends.Fault (UuidLength f.place f.len))
    bad_id_ends f is = version_ends ∙ ap (λ o. or_fault (length_fault o) (ir_value made)) is

    pub good_ends : fault ≡ None → body_ends byte (ir_draft old) place (pending ++ []) ≡ Ok (ir_value made)
    good_ends is = version_ends ∙ ap (λ o. or_fault (length_fault o) (ir_value made)) is

-- ---- a piece of a body

module _ (byte place at : ℕ) (bytes kept : List ℕ) (old new : IrDraft) (t : TakesFront (Steps ir_rows ir_draft) (piece_faults ir_rows) bytes place old at new) (kept_is : kept ≡ drop at bytes) where
  kept_ends : (rest : List ℕ) → body_ends byte (ir_draft new) (place + at) (kept ++ rest) ≡ body_ends byte (ir_draft old) place (bytes ++ rest)
  kept_ends rest = ap (λ (l : List ℕ). body_ends byte (ir_draft new) (place + at) (l ++ rest)) kept_is ∙ taken_ends byte bytes place at old new t rest

  pub begun_ends : (d : DFields ir_rows) → ir_draft old ≡ d → (rest : List ℕ) → body_ends byte (ir_draft new) (place + at) (kept ++ rest) ≡ body_ends byte d place (bytes ++ rest)
  begun_ends d begun rest = kept_ends rest ∙ ap (λ d. body_ends byte d place (bytes ++ rest)) begun

  pub fed_ends : (pending piece : List ℕ) → bytes ≡ pending ++ piece → (rest : List ℕ) → body_ends byte (ir_draft new) (place + at) (kept ++ rest) ≡ body_ends byte (ir_draft old) place (pending ++ (piece ++ rest))
  fed_ends pending piece longer rest = kept_ends rest ∙ ap (λ (l : List ℕ). body_ends byte (ir_draft old) place (l ++ rest)) longer ∙ ap (body_ends byte (ir_draft old) place) (append_assoc pending piece rest)

pub fed_comes : (byte : ℕ) (d : DFields ir_rows) (place : ℕ) (bytes pending piece : List ℕ) (end : End FormatFault) → bytes ≡ pending ++ piece
    → ((rest : List ℕ) → IsFirst (faults ir_rows (bytes ++ rest) place) end) → (rest : List ℕ) → Comes end (body_ends byte d place (pending ++ (piece ++ rest)))
fed_comes byte d place bytes pending piece end longer h rest =
    let same : bytes ++ rest ≡ pending ++ (piece ++ rest) = ap (λ (l : List ℕ). l ++ rest) longer ∙ append_assoc pending piece rest in
    fault_comes byte d place (pending ++ (piece ++ rest)) end (subst (λ b. IsFirst (faults ir_rows b place) end) same (h rest))

-- ---- a stage that is stopped

pub stays : (end : End FormatFault) → Comes end (Err end)
stays (ends.Fault fault) = refl
stays ends.Memory = tt
