-- Taking the records of a message one after another.
use Rattle.std.proofs.Common.{◌≡◌, ℕ, ◌+◌, ◌-◌, ◌≤◌, List, [], ◌∷◌, ◌++◌, length, take, drop, Option, Some, None, refl, sym, ap, subst, ◌∙◌, append_assoc, arith}
use Rattle.std.specs.Prelude.{IfSome}
use Rattle.std.specs.List.{flat_map}
use Rattle.std.proofs.lemmas.List.{append-nil, drop_at, drop-drop}
use Rattle.std.proofs.lemmas.List.Concat.{flat_map-append}
use Rattle.gr_base.specs.declared.end.End.{End}
use Rattle.gr_base.specs.declared.end.End.TheVariants as ends
use Rattle.pb_wire.specs.declared.fault.WireFault.{WireFault}
use Rattle.pb_wire.specs.declared.records.Load.{Load}
use Rattle.pb_wire.specs.declared.records.Load.TheVariants as loads
use Rattle.pb_wire.specs.declared.records.Record.{Record}
use Rattle.pb_wire.specs.declared.records.Span.{Span}
use Rattle.pb_wire.specs.Ahead.{Ahead}
use Rattle.pb_wire.specs.Records.{Takes, RunLies, LiesBetween, content_of}
use Rattle.pb_wire.specs.Faults.{wire_fault}
use Rattle.gt_read.specs.declared.fault.FormatFault.{FormatFault}
use Rattle.gt_read.specs.declared.fault.FormatFault.TheVariants.{Wire}
use Rattle.gt_read.specs.Pieces.{Bytes, Piece, piece_of, Walk, put_first, walk, pieces}
use Rattle.gt_read.specs.Faults.{first_of, message_faults, broken_faults}
use Rattle.gt_read.specs.Drafts.Answers.{RunWithin, IsFirst, Folds}
use Rattle.gt_read.specs.Drafts.Taken.{behind}
use Rattle.gt_read.proofs.Walks.{OneRecord, walk_takes, walk_fails, walk-nil}

-- a cursor over the bytes of a message
pub record Stands (bytes : List ℕ) (base : ℕ) (ahead : Ahead) : Type 0 where
  pub after : base ≤ ahead.place
  pub rest : ahead.bytes ≡ drop (ahead.place - base) bytes
  pub together : ahead.place + length ahead.bytes ≡ base + length bytes

pub stands_first : (bytes : List ℕ) (base : ℕ) → Stands bytes base (record { place = base; bytes = bytes })
stands_first bytes base = record { after = omega arith; rest = ap (λ n. drop n bytes) (let e : 0 ≡ base - base = omega arith in e); together = refl }

pub stands_next : (bytes : List ℕ) (base : ℕ) (r : Record) (old new : Ahead) → Stands bytes base old → Takes r old new → new.place + length new.bytes ≡ old.place + length old.bytes → Stands bytes base new
stands_next bytes base r old new s t same = record {
  after = omega (arith, s.after, t.behind);
  rest =
      let back : new.bytes ≡ drop (length t.text) old.bytes = sym (rw t.split (drop_at t.text new.bytes (length t.text) refl)) in
      let far : new.place - base ≡ (old.place - base) + length t.text = omega (arith, s.after, t.behind) in
      back ∙ ap (drop (length t.text)) s.rest ∙ drop-drop (length t.text) (old.place - base) bytes ∙ ap (λ n. drop n bytes) (sym far);
  together = same ∙ s.together;
}

-- the run of the next record lies within the message, and its bytes are those that the message has there
run_within : (bytes : List ℕ) (base : ℕ) (load : Load) (old new : Ahead) → Stands bytes base old → RunLies load old new → RunWithin load bytes base
run_within bytes base (loads.Varint n) old new s l = tt
run_within bytes base (loads.Eight n) old new s l = tt
run_within bytes base (loads.Run span) old new s l = (omega (arith, s.after, l.from), omega (arith, s.after, l.from, l.within, s.together))
run_within bytes base (loads.Four n) old new s l = tt

pub within : (bytes : List ℕ) (base : ℕ) (r : Record) (old new : Ahead) → Stands bytes base old → RunLies r.load old new → RunWithin r.load bytes base
within bytes base r old new s l = run_within bytes base r.load old new s l

content_there : (bytes : List ℕ) (base : ℕ) (span : Span) (old new : Ahead) → Stands bytes base old → LiesBetween old new span → content_of bytes base span ≡ content_of old.bytes old.place span
content_there bytes base span old new s l =
    let far : (old.place - base) + (span.start - old.place) ≡ span.start - base = omega (arith, s.after, l.from) in
    ap (take span.len) (sym (ap (drop (span.start - old.place)) s.rest ∙ drop-drop (span.start - old.place) (old.place - base) bytes ∙ ap (λ n. drop n bytes) far))

piece_there : (bytes : List ℕ) (base : ℕ) (r : Record) (load : Load) (old new : Ahead) → Stands bytes base old → RunLies load old new
    → piece_of bytes base (record r { load = load }) ≡ piece_of old.bytes old.place (record r { load = load })
piece_there bytes base r (loads.Varint n) old new s l = refl
piece_there bytes base r (loads.Eight n) old new s l = refl
piece_there bytes base r (loads.Run span) old new s l =
    ap (λ (c : List ℕ). record { place = r.place; number = r.field; carried = Bytes span.start c }) (content_there bytes base span old new s l)
piece_there bytes base r (loads.Four n) old new s l = refl

-- ---- what has been taken

pub record Merging {D : Type 0} (steps : D → Piece → D → Type 0) (faults : Piece → List FormatFault) (bytes : List ℕ) (base : ℕ) (first : D) (ahead : Ahead) (draft : D) : Type 0 where
  pub done : List Piece
  pub whole : walk bytes base ≡ behind done (walk ahead.bytes ahead.place)
  pub folded : Folds steps first done draft
  pub sound : flat_map faults done ≡ []
  pub stands : Stands bytes base ahead

pub folds_more : {D : Type 0} (steps : D → Piece → D → Type 0) (ps : List Piece) (p : Piece) (a b c : D) → Folds steps a ps b → steps b p c → Folds steps a (ps ++ p ∷ []) c
folds_more steps [] p a b c f s = (c, subst (λ x. steps x p c) f s, refl)
folds_more steps (q ∷ qs) p a b c f s = (f.0, f.1, folds_more steps qs p f.0 b c f.2 s)

pub flat_none : (faults : Piece → List FormatFault) (ps : List Piece) (p : Piece) → flat_map faults ps ≡ [] → faults p ≡ [] → flat_map faults (ps ++ p ∷ []) ≡ []
flat_none faults ps p e f = flat_map-append faults ps (p ∷ []) ∙ rw (e, f) refl

pub merging_first : {D : Type 0} (steps : D → Piece → D → Type 0) (faults : Piece → List FormatFault) (bytes : List ℕ) (base : ℕ) (first : D)
    → Merging steps faults bytes base first (record { place = base; bytes = bytes }) first
merging_first steps faults bytes base first = record { done = []; whole = refl; folded = refl; sound = refl; stands = stands_first bytes base }

pub walk_there : (one : OneRecord) (bytes : List ℕ) (base : ℕ) (r : Record) (old new : Ahead) → Stands bytes base old → RunLies r.load old new → Takes r old new
    → walk old.bytes old.place ≡ put_first (piece_of bytes base r) (walk new.bytes new.place)
walk_there one bytes base r old new s l t = walk_takes one r old new t ∙ ap (λ p. put_first p (walk new.bytes new.place)) (sym (piece_there bytes base r r.load old new s l))

pub merging_next : (one : OneRecord) {D : Type 0} (steps : D → Piece → D → Type 0) (faults : Piece → List FormatFault) (bytes : List ℕ) (base : ℕ) (first : D) (old new : Ahead) (draft draft' : D) (r : Record)
    → Merging steps faults bytes base first old draft → Takes r old new → RunLies r.load old new → new.place + length new.bytes ≡ old.place + length old.bytes
    → steps draft (piece_of bytes base r) draft' → faults (piece_of bytes base r) ≡ [] → Merging steps faults bytes base first new draft'
merging_next one steps faults bytes base first old new draft draft' r m t l same s f =
    let p = piece_of bytes base r in
    let w = walk new.bytes new.place in
    record {
      done = m.done ++ p ∷ [];
      whole =
          let next : behind m.done (put_first p w) ≡ behind (m.done ++ p ∷ []) w = ap (λ (ps : List Piece). record { pieces = ps; broken = w.broken }) (sym (append_assoc m.done (p ∷ []) w.pieces)) in
          m.whole ∙ ap (behind m.done) (walk_there one bytes base r old new m.stands l t) ∙ next;
      folded = folds_more steps m.done p first draft draft' m.folded s;
      sound = flat_none faults m.done p m.sound f;
      stands = stands_next bytes base r old new m.stands t same;
    }

-- ---- the answers

unfoldable pub walked : (faults : Piece → List FormatFault) (w : Walk) → List FormatFault
walked faults w = flat_map faults w.pieces ++ broken_faults w.broken

pub walked_behind : (faults : Piece → List FormatFault) (ps : List Piece) (w : Walk) → flat_map faults ps ≡ [] → walked faults (behind ps w) ≡ walked faults w
unfolding walked
walked_behind faults ps w e = ap (λ (l : List FormatFault). l ++ broken_faults w.broken) (flat_map-append faults ps w.pieces ∙ rw e refl)

pub merged : {D : Type 0} (steps : D → Piece → D → Type 0) (faults : Piece → List FormatFault) (bytes : List ℕ) (base : ℕ) (first : D) (ahead : Ahead) (draft : D)
    → Merging steps faults bytes base first ahead draft → ahead.bytes ≡ [] → Folds steps first (pieces bytes base) draft × (message_faults faults bytes base ≡ [])
unfolding walked
merged steps faults bytes base first ahead draft m e =
    let end : walk ahead.bytes ahead.place ≡ record { pieces = []; broken = None } = ap (λ b. walk b ahead.place) e ∙ walk-nil ahead.place in
    let whole : walk bytes base ≡ record { pieces = m.done ++ []; broken = None } = m.whole ∙ ap (behind m.done) end in (
      subst (λ ps. Folds steps first ps draft) (sym (ap (λ (w : Walk). w.pieces) whole ∙ append-nil m.done)) m.folded,
      ap (walked faults) m.whole ∙ walked_behind faults m.done (walk ahead.bytes ahead.place) m.sound ∙ ap (walked faults) end,
    )

pub broke : (one : OneRecord) {D : Type 0} (steps : D → Piece → D → Type 0) (faults : Piece → List FormatFault) (bytes : List ℕ) (base : ℕ) (first : D) (ahead : Ahead) (draft : D) (fault : WireFault)
    → Merging steps faults bytes base first ahead draft → wire_fault ahead.bytes ahead.place fault → fault.place ≡ ahead.place → IsFirst (message_faults faults bytes base) (ends.Fault (Wire fault))
unfolding walked
broke one steps faults bytes base first ahead draft fault m w here =
    ap first_of (ap (walked faults) m.whole ∙ walked_behind faults m.done (walk ahead.bytes ahead.place) m.sound ∙ ap (walked faults) (walk_fails one ahead.bytes ahead.place fault w here))

pub first_more : (fs gs : List FormatFault) (e : End FormatFault) → IsFirst fs e → IsFirst (fs ++ gs) e
first_more fs gs ends.Memory h = tt
first_more [] gs (ends.Fault f) h = absurd cc
first_more (g ∷ fs) gs (ends.Fault f) h = h

pub refused : (one : OneRecord) {D : Type 0} (steps : D → Piece → D → Type 0) (faults : Piece → List FormatFault) (bytes : List ℕ) (base : ℕ) (first : D) (old new : Ahead) (draft : D) (r : Record) (e : End FormatFault)
    → Merging steps faults bytes base first old draft → Takes r old new → RunLies r.load old new → IsFirst (faults (piece_of bytes base r)) e → IsFirst (message_faults faults bytes base) e
unfolding walked
refused one steps faults bytes base first old new draft r e m t l h =
    let p = piece_of bytes base r in
    let w = walk new.bytes new.place in
    let all : message_faults faults bytes base ≡ (faults p ++ flat_map faults w.pieces) ++ broken_faults w.broken =
    ap (walked faults) m.whole ∙ walked_behind faults m.done (walk old.bytes old.place) m.sound ∙ ap (walked faults) (walk_there one bytes base r old new m.stands l t) in
    rw all (first_more (faults p ++ flat_map faults w.pieces) (broken_faults w.broken) e (first_more (faults p) (flat_map faults w.pieces) e h))

-- what a call says of the record that it found
pub found : {A : Type 0} (P : A → Type 0) (o : Option A) (a : A) → o ≡ Some a → IfSome o P → P a
found P o a e h = subst (λ x. IfSome x P) e h
