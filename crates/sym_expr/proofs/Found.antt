-- Where the identifiers of blocks are apart, each is found by its own.
use Rattle.std.proofs.Common.{◌≡◌, ℕ, ◌≤◌, false, List, [], ◌∷◌, Some, refl}
use Rattle.std.specs.Prelude.{find, IfSome}
use Rattle.std.specs.List.{AllByRecursion as Every, IsDistinct, flat_map, filter_map}
use Rattle.std.specs.Str.{bytes_eq}
use Rattle.sym_expr.specs.declared.program.CodeBlock.{CodeBlock}
use Rattle.sym_expr.specs.declared.program.DataBlock.{DataBlock}
use Rattle.sym_expr.specs.declared.program.Piece.{Piece}
use Rattle.sym_expr.specs.declared.program.Piece.TheVariants.{Code as CodePiece, Data as DataPiece, Gap}
use Rattle.sym_expr.specs.Points.{code_of, data_of}
use Rattle.sym_expr.specs.WellMade.{block_id}
use Rattle.sym_expr.proofs.Counts.{id_same, distinct_of_once, times}
use Rattle.sym_expr.proofs.Lists.{every_front, every_back}

-- the block is found among pieces
abbrev pub IsFoundIn : List Piece → Piece → Type 0
IsFoundIn ps q =
    IfSome (code_of q) (λ (b : CodeBlock). find (λ (c : CodeBlock). bytes_eq c.id b.id) (filter_map code_of ps) ≡ Some b)
    × IfSome (data_of q) (λ (b : DataBlock). find (λ (c : DataBlock). bytes_eq c.id b.id) (filter_map data_of ps) ≡ Some b)

found_here : (q : Piece) (ps : List Piece) → IsFoundIn (q ∷ ps) q
found_here (CodePiece b) ps = (rw (id_same b.id) refl, tt)
found_here (DataPiece b) ps = (tt, rw (id_same b.id) refl)
found_here (Gap bytes) ps = (tt, tt)

abbrev IsNotIn : List ℕ → Piece → Type 0
IsNotIn id q = Every (λ x. bytes_eq id x ≡ false) (block_id q)

-- another block before them is passed
found_past : (q : Piece) (ps : List Piece) (r : Piece) → Every (λ x. IsNotIn x r) (block_id q) → IsFoundIn ps r → IsFoundIn (q ∷ ps) r
found_past (CodePiece b) ps (CodePiece c) differ h = (rw differ.0.0 h.0, tt)
found_past (CodePiece b) ps (DataPiece c) differ h = h
found_past (CodePiece b) ps (Gap bytes) differ h = h
found_past (DataPiece b) ps (CodePiece c) differ h = h
found_past (DataPiece b) ps (DataPiece c) differ h = (tt, rw differ.0.0 h.1)
found_past (DataPiece b) ps (Gap bytes) differ h = h
found_past (Gap bytes) ps (CodePiece c) differ h = h
found_past (Gap bytes) ps (DataPiece c) differ h = h
found_past (Gap bytes) ps (Gap more) differ h = h

all_past : (q : Piece) (ps rs : List Piece) → Every (λ r. Every (λ x. IsNotIn x r) (block_id q)) rs → Every (IsFoundIn ps) rs → Every (IsFoundIn (q ∷ ps)) rs
all_past q ps [] differ h = tt
all_past q ps (r ∷ rs) differ h = (found_past q ps r differ.0 h.0, all_past q ps rs differ.1 h.1)

-- an identifier that differs from all later ones
abbrev apart_from : List ℕ → List Piece → Type 0
apart_from id rs = Every (λ x. bytes_eq id x ≡ false) (flat_map block_id rs)

each_apart : (id : List ℕ) (rs : List Piece) → apart_from id rs → Every (IsNotIn id) rs
each_apart id [] h = tt
each_apart id (r ∷ rs) h = (every_front (λ x. bytes_eq id x ≡ false) (block_id r) (flat_map block_id rs) h, each_apart id rs (every_back (λ x. bytes_eq id x ≡ false) (block_id r) (flat_map block_id rs) h))

one_apart : (id : List ℕ) (rs : List Piece) → Every (IsNotIn id) rs → Every (λ r. Every (λ x. IsNotIn x r) (id ∷ [])) rs
one_apart id [] h = tt
one_apart id (r ∷ rs) h = ((h.0, tt), one_apart id rs h.1)

none_apart : (rs : List Piece) → Every (λ r. Every (λ x. IsNotIn x r) []) rs
none_apart [] = tt
none_apart (r ∷ rs) = (tt, none_apart rs)

all_found : (ps : List Piece) → IsDistinct bytes_eq (flat_map block_id ps) → Every (IsFoundIn ps) ps
unfolding IsDistinct
all_found [] d = tt
all_found (CodePiece b ∷ ps) d = (found_here (CodePiece b) ps, all_past (CodePiece b) ps ps (one_apart b.id ps (each_apart b.id ps d.0)) (all_found ps d.1))
all_found (DataPiece b ∷ ps) d = (found_here (DataPiece b) ps, all_past (DataPiece b) ps ps (one_apart b.id ps (each_apart b.id ps d.0)) (all_found ps d.1))
all_found (Gap bytes ∷ ps) d = (found_here (Gap bytes) ps, all_past (Gap bytes) ps ps (none_apart ps) (all_found ps d))

pub pieces_found : (ps : List Piece) → ((id : List ℕ) → times id (flat_map block_id ps) ≤ 1) → Every (IsFoundIn ps) ps
pieces_found ps h = all_found ps (distinct_of_once (flat_map block_id ps) h)
