-- Taking the whole records at the front of bytes to which more may come.
use Rattle.std.proofs.Common.{◌≡◌, ℕ, ◌+◌, ◌-◌, ◌≤◌, List, [], ◌∷◌, ◌++◌, length, take, drop, Some, None, refl, sym, ap, subst, ◌∙◌, append_assoc, arith}
use Rattle.std.specs.List.{flat_map}
use Rattle.std.proofs.lemmas.List.{drop-drop, drop-append-le, take-append-le, take-append-drop, length-append, length-drop, length-take-le}
use Rattle.gr_base.specs.declared.end.End.{End}
use Rattle.gr_base.specs.declared.end.End.TheVariants as ends
use Rattle.pb_wire.specs.declared.fault.WireFault.{WireFault}
use Rattle.pb_wire.specs.declared.records.Load.{Load}
use Rattle.pb_wire.specs.declared.records.Load.TheVariants as loads
use Rattle.pb_wire.specs.declared.records.Record.{Record}
use Rattle.pb_wire.specs.Ahead.{Ahead}
use Rattle.pb_wire.specs.Records.{Takes, IsPayload}
use Rattle.pb_wire.specs.Faults.{wire_fault}
use Rattle.pb_wire.specs.Scanning.{IsFront}
use Rattle.gt_read.specs.declared.fault.FormatFault.{FormatFault}
use Rattle.gt_read.specs.declared.fault.FormatFault.TheVariants.{Wire}
use Rattle.gt_read.specs.Pieces.{Bytes, Piece, piece_of, put_first, walk}
use Rattle.gt_read.specs.Faults.{first_of, message_faults, broken_faults}
use Rattle.gt_read.specs.Drafts.Answers.{RunWithin, IsFirst}
use Rattle.gt_read.specs.Drafts.Taken.{TakesFront, behind}
use Rattle.gt_read.proofs.Walks.{OneRecord, walk_takes, walk_fails}
use Rattle.gt_read.proofs.Merging.{folds_more, flat_none, walked, walked_behind, first_more}

-- ---- the run of a record at the front

run_there : (load : Load) (left : List ℕ) (place key : ℕ) (payload : List ℕ) → IsPayload load payload (place + key) → key + length payload ≤ length left → RunWithin load left place
run_there (loads.Varint n) left place key payload p within = tt
run_there (loads.Eight n) left place key payload p within = tt
run_there (loads.Run span) left place key payload p within =
    let long : length payload ≡ length p.size + length p.content = ap length p.whole ∙ length-append p.size p.content in
    (omega (arith, p.start), omega (arith, p.start, p.len, long, within))
run_there (loads.Four n) left place key payload p within = tt

pub front_run : (left : List ℕ) (place : ℕ) (r : Record) (size : ℕ) → IsFront left place r size → RunWithin r.load left place
front_run left place r size f =
    let s = f.spelled in
    let long : length s.key + length s.payload ≡ size = sym (length-append s.key s.payload) ∙ sym (ap length s.whole) ∙ length-take-le size left f.within in
    run_there r.load left place (length s.key) s.payload (subst (λ (p : ℕ). IsPayload r.load s.payload (p + length s.key)) f.here s.payload_is) (omega (arith, long, f.within))

-- a record's bytes are the same where more follow
same_piece : (left rest : List ℕ) (place : ℕ) (r : Record) (load : Load) → RunWithin load left place → piece_of (left ++ rest) place (record r { load = load }) ≡ piece_of left place (record r { load = load })
same_piece left rest place r (loads.Varint n) h = refl
same_piece left rest place r (loads.Eight n) h = refl
same_piece left rest place r (loads.Run span) h =
    let from = span.start - place in
    let room : span.len ≤ length (drop from left) = omega (arith, h.1, length-drop from left) in
    let content : take span.len (drop from (left ++ rest)) ≡ take span.len (drop from left) =
    ap (take span.len) (drop-append-le from left rest (omega (arith, h.1))) ∙ take-append-le span.len (drop from left) rest room in
    ap (λ (c : List ℕ). record { place = r.place; number = r.field; carried = Bytes span.start c }) content
same_piece left rest place r (loads.Four n) h = refl

module _ (one : OneRecord) where
  -- the walk over bytes with a record at the front
  walk_front : (left rest : List ℕ) (place : ℕ) (r : Record) (size : ℕ) → IsFront left place r size → walk (left ++ rest) place ≡ put_first (piece_of left place r) (walk (drop size left ++ rest) (place + size))
  walk_front left rest place r size f =
      let old : Ahead = record { place = place; bytes = left ++ rest } in
      let new : Ahead = record { place = place + size; bytes = drop size left ++ rest } in
      let t : Takes r old new = record {
        text = take size left;
        spelled = f.spelled;
        here = f.here;
        split = ap (λ (l : List ℕ). l ++ rest) (sym (take-append-drop size left)) ∙ append_assoc (take size left) (drop size left) rest;
        behind = omega (arith, length-take-le size left f.within);
      } in
      walk_takes one r old new t ∙ ap (λ p. put_first p (walk new.bytes new.place)) (same_piece left rest place r r.load (front_run left place r size f))

  module _ {D : Type 0} (steps : D → Piece → D → Type 0) (faults : Piece → List FormatFault) (bytes : List ℕ) (base : ℕ) (first : D) where
    pub front_first : TakesFront steps faults bytes base first 0 first
    front_first = record { done = []; within = omega arith; folded = refl; sound = refl; walks = λ rest. ap (walk (bytes ++ rest)) (let e : base ≡ base + 0 = omega arith in e) }

    module _ (at : ℕ) (draft : D) (m : TakesFront steps faults bytes base first at draft) (left : List ℕ) (left_is : left ≡ drop at bytes) where
      left_walk : (rest : List ℕ) → walk (bytes ++ rest) base ≡ behind m.done (walk (left ++ rest) (base + at))
      left_walk rest = m.walks rest ∙ ap (λ (l : List ℕ). behind m.done (walk (l ++ rest) (base + at))) (sym left_is)

      module _ (r : Record) (size : ℕ) (f : IsFront left (base + at) r size) where
        abbrev p : Piece
        p = piece_of left (base + at) r

        next_walk : (rest : List ℕ) → walk (bytes ++ rest) base ≡ behind m.done (put_first p (walk (drop (at + size) bytes ++ rest) (base + (at + size))))
        next_walk rest =
            let far : base + at + size ≡ base + (at + size) = omega arith in
            let gone : drop size left ≡ drop (at + size) bytes = ap (drop size) left_is ∙ drop-drop size at bytes in
            left_walk rest ∙ ap (behind m.done) (walk_front left rest (base + at) r size f)
            ∙ (λ i. behind m.done (put_first p (walk (gone i ++ rest) (far i))))

        pub front_next : (draft' : D) → steps draft p draft' → faults p ≡ [] → TakesFront steps faults bytes base first (at + size) draft'
        front_next draft' s n = record {
          done = m.done ++ p ∷ [];
          within = omega (arith, m.within, f.within, ap length left_is, length-drop at bytes);
          folded = folds_more steps m.done p first draft draft' m.folded s;
          sound = flat_none faults m.done p m.sound n;
          walks =
              λ rest.
              let w = walk (drop (at + size) bytes ++ rest) (base + (at + size)) in
              let joined : behind m.done (put_first p w) ≡ behind (m.done ++ p ∷ []) w = ap (λ (ps : List Piece). record { pieces = ps; broken = w.broken }) (sym (append_assoc m.done (p ∷ []) w.pieces)) in
              next_walk rest ∙ joined;
        }

        pub front_refused : (e : End FormatFault) → IsFirst (faults p) e → (rest : List ℕ) → IsFirst (message_faults faults (bytes ++ rest) base) e
        unfolding walked
        front_refused e h rest =
            let w = walk (drop (at + size) bytes ++ rest) (base + (at + size)) in
            let all : message_faults faults (bytes ++ rest) base ≡ (faults p ++ flat_map faults w.pieces) ++ broken_faults w.broken =
            ap (walked faults) (next_walk rest) ∙ walked_behind faults m.done (put_first p w) m.sound in
            rw all (first_more (faults p ++ flat_map faults w.pieces) (broken_faults w.broken) e (first_more (faults p) (flat_map faults w.pieces) e h))

      pub front_broke : (fault : WireFault) → fault.place ≡ base + at → ((rest : List ℕ) → wire_fault (left ++ rest) (base + at) fault) → (rest : List ℕ) → IsFirst (message_faults faults (bytes ++ rest) base) (ends.Fault (Wire fault))
      unfolding walked
      front_broke fault here lasts rest =
          ap first_of (
          ap (walked faults) (left_walk rest) ∙ walked_behind faults m.done (walk (left ++ rest) (base + at)) m.sound
          ∙ ap (walked faults) (walk_fails one (left ++ rest) (base + at) fault (lasts rest) here))

-- a record at the front has a byte at least
pub front_long : OneRecord → (left : List ℕ) (place : ℕ) (r : Record) (size : ℕ) → IsFront left place r size → 1 ≤ size
front_long one left place r size f =
    omega (arith, one.some (take size left ++ []) r.place r (length (take size left)) (one.found r (take size left) [] f.spelled), length-take-le size left f.within)
