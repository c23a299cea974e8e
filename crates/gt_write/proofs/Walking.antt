-- The records of spelled bytes.
use Rattle.std.proofs.Common.{◌≡◌, ℕ, ◌+◌, ◌-◌, ◌*◌, ◌^◌, ◌<◌, ◌≤◌, List, [], ◌∷◌, ◌++◌, length, take, drop, None, refl, sym, ap, subst, ◌∙◌, append_assoc, arith}
use Rattle.std.proofs.lemmas.List.{append-nil, drop_at, take_at, length-append}
use Rattle.pb_wire.specs.Ahead.{Ahead}
use Rattle.pb_wire.specs.Varint.{shortest}
use Rattle.pb_wire.specs.declared.records.Load.TheVariants as loads
use Rattle.pb_wire.specs.declared.records.Record.{Record}
use Rattle.pb_wire.specs.Records.{Spells, Takes}
use Rattle.gt_read.specs.Pieces.{Piece, Number, Bytes, piece_of, Walk, walk, walk_within}
use Rattle.gt_write.specs.Spelling.{varint_record, run_record}
use Rattle.gt_write.proofs.ReadingLaws.{ReadingLaws}

-- the pieces before, and those of the walk
abbrev pub behind : List Piece → Walk → Walk
behind ps w = record { pieces = ps ++ w.pieces; broken = w.broken }

-- these are the records of the bytes, whatever follows
pub record Walks (text : List ℕ) (base : ℕ) (ps : List Piece) : Type 0 where
  pub goes : (rest : List ℕ) → walk (text ++ rest) base ≡ behind ps (walk rest (base + length text))

behind_twice : (ps qs : List Piece) (w : Walk) → behind ps (behind qs w) ≡ behind (ps ++ qs) w
behind_twice ps qs w = ap (λ (l : List Piece). record { pieces = l; broken = w.broken }) (sym (append_assoc ps qs w.pieces))

pub walks_nil : (base : ℕ) → Walks [] base []
walks_nil base = record { goes = λ rest. ap (λ n. walk rest n) (let e : base ≡ base + 0 = omega arith in e) }

pub walks_append : (a b : List ℕ) (base : ℕ) (ps qs : List Piece) → Walks a base ps → Walks b (base + length a) qs → Walks (a ++ b) base (ps ++ qs)
walks_append a b base ps qs v w = record {
  goes = λ rest.
      let far : base + length a + length b ≡ base + length (a ++ b) = omega (arith, length-append a b) in
      ap (λ t. walk t base) (append_assoc a b rest) ∙ v.goes (b ++ rest) ∙ ap (behind ps) (w.goes rest) ∙ behind_twice ps qs (walk rest (base + length a + length b))
      ∙ ap (λ n. behind (ps ++ qs) (walk rest n)) far;
}

walks_one : (laws : ReadingLaws) (r : Record) (text : List ℕ) (p : Piece) → Spells r text → ((rest : List ℕ) → piece_of (text ++ rest) r.place r ≡ p) → Walks text r.place (p ∷ [])
walks_one laws r text p s same = record {
  goes = λ rest.
      let old : Ahead = record { place = r.place; bytes = text ++ rest } in
      let new : Ahead = record { place = r.place + length text; bytes = rest } in
      let t : Takes r old new = record { text = text; spelled = s; here = refl; split = refl; behind = refl } in
      laws.taken r old new t ∙ ap (λ (q : Piece). behind (q ∷ []) (walk rest (r.place + length text))) (same rest);
}

-- a record of a varint
abbrev pub number_piece : ℕ → ℕ → ℕ → Piece
number_piece place number value = record { place = place; number = number; carried = Number value }

pub varint_walks : (laws : ReadingLaws) (base number value : ℕ) → 1 ≤ number → number < 2 ^ 29 → value < 2 ^ 64 → Walks (varint_record number value) base (number_piece base number value ∷ [])
varint_walks laws base number value some fits value_fits =
    walks_one laws (record { place = base; field = number; load = loads.Varint value }) (varint_record number value) (number_piece base number value)
    (laws.varint base number value some (omega arith) value_fits) (λ rest. refl)

-- a record of a run
abbrev pub run_start : ℕ → ℕ → List ℕ → ℕ
run_start place number bytes = place + length (shortest (8 * number + 2)) + length (shortest (length bytes))

abbrev pub run_piece : ℕ → ℕ → List ℕ → Piece
run_piece place number bytes = record { place = place; number = number; carried = Bytes (run_start place number bytes) bytes }

content : (place : ℕ) (k s c rest : List ℕ) → take (length c) (drop (place + length k + length s - place) ((k ++ (s ++ c)) ++ rest)) ≡ c
content place k s c rest =
    let far : place + length k + length s - place ≡ length (k ++ s) = omega (arith, length-append k s) in
    let whole : (k ++ (s ++ c)) ++ rest ≡ (k ++ s) ++ (c ++ rest) = simp append_assoc in
    (λ i. take (length c) (drop (far i) (whole i))) ∙ ap (take (length c)) (drop_at (k ++ s) (c ++ rest) (length (k ++ s)) refl) ∙ take_at c rest (length c) refl

abbrev run_there : ℕ → ℕ → ℕ → List ℕ → List ℕ → Piece
run_there base number start bytes text = record { place = base; number = number; carried = Bytes start (take (length bytes) (drop (start - base) text)) }

pub run_walks : (laws : ReadingLaws) (base number : ℕ) (bytes : List ℕ) → 1 ≤ number → number < 2 ^ 29 → length bytes < 2 ^ 64 → Walks (run_record number bytes) base (run_piece base number bytes ∷ [])
run_walks laws base number bytes some fits short =
    let key = shortest (8 * number + 2) in
    let size = shortest (length bytes) in
    let start = run_start base number bytes in
    walks_one laws (record { place = base; field = number; load = loads.Run (record { start = start; len = length bytes }) }) (run_record number bytes) (run_piece base number bytes)
    (subst (Spells (record { place = base; field = number; load = loads.Run (record { start = start; len = length bytes }) })) (sym (append_assoc key size bytes)) (laws.run base number bytes some (omega arith) short))
    (λ rest.
    ap (λ (t : List ℕ). run_there base number start bytes (t ++ rest)) (append_assoc key size bytes)
    ∙ ap (λ (c : List ℕ). record { place = base; number = number; carried = Bytes start c }) (content base key size bytes rest))

-- whole bytes
pub walked : (text : List ℕ) (base : ℕ) (ps : List Piece) → Walks text base ps → walk text base ≡ record { pieces = ps; broken = None }
unfolding walk_within
walked text base ps w =
    ap (λ t. walk t base) (sym (append-nil text)) ∙ w.goes [] ∙ ap (λ (l : List Piece). record { pieces = l; broken = None }) (append-nil ps)
