-- The blocks of a program, by their identifiers, among its pieces under a layout.
use Rattle.std.proofs.Common.{◌≡◌, ◌≢◌, ℕ, ◌+◌, Bool, true, false, Option, Some, List, [], ◌∷◌, ◌++◌, map, refl, sym, ap, subst, ◌∙◌}
use Rattle.std.specs.Prelude.{find, if◌then◌else◌}
use Rattle.std.specs.List.{AllByRecursion as Every, flat_map, filter_map}
use Rattle.std.specs.Str.{bytes_eq}
use Rattle.std.proofs.lemmas.Bool.{false_from_ne_true, cond-true, cond-false, false≢true}
use Rattle.std.proofs.lemmas.List.{map-append}
use Rattle.std.proofs.lemmas.Slice.Eq.{bytes_eq-Decides}
use Rattle.std.proofs.lemmas.Option.{none-some}
use Rattle.sym_expr.specs.declared.layout.Layout.{Layout}
use Rattle.sym_expr.specs.declared.program.CodeBlock.{CodeBlock}
use Rattle.sym_expr.specs.declared.program.DataBlock.{DataBlock}
use Rattle.sym_expr.specs.declared.program.Piece.{Piece}
use Rattle.sym_expr.specs.declared.program.Piece.TheVariants.{Code as CodePiece, Data as DataPiece, Gap}
use Rattle.sym_expr.specs.declared.program.Program.{Program}
use Rattle.sym_expr.specs.declared.program.Stretch.{Stretch}
use Rattle.sym_expr.specs.Images.{addressed, is_block}
use Rattle.sym_expr.specs.Layouts.{address_of, least_from}
use Rattle.sym_expr.specs.Placing.{Placed, placed_from, new_size, step_of}
use Rattle.sym_expr.specs.Points.{code_at, data_at, code_of, data_of, pieces_of}
use Rattle.sym_expr.specs.WellMade.{block_id, block_ids, well_made}
use Rattle.placed_images.proofs.Lists.{some_is, Pairs, pairs_from, every_back, found_mapped, flat_flat}

-- pieces at their addresses, where their interval lies at a start
abbrev pub shifted : ℕ → List Placed → List Placed
shifted start xs = map (λ (x : Placed). record x { at = start + x.at }) xs

-- all pieces at their addresses
abbrev pub all_addressed : Layout → Program → List Placed
all_addressed l g = flat_map (addressed l) g.stretches

-- ---- identifiers

pub same_ids : (a b : List ℕ) → bytes_eq a b ≡ true → a ≡ b
same_ids a b e = (bytes_eq-Decides a b).0 e

pub ids_same : (a b : List ℕ) → a ≡ b → bytes_eq a b ≡ true
ids_same a b e = (bytes_eq-Decides a b).1 e

pub ids_differ : (a b : List ℕ) → (a ≡ b → ⊥) → bytes_eq a b ≡ false
ids_differ a b h = false_from_ne_true (bytes_eq a b) (λ t. h (same_ids a b t))

turned : (a b : List ℕ) → bytes_eq a b ≡ true → bytes_eq b a ≡ true
turned a b e = ids_same b a (sym (same_ids a b e))

-- ---- blocks among pieces

-- the code block of an identifier, and the data block
abbrev pub IsCodeOf : List ℕ → CodeBlock → Bool
IsCodeOf id c = bytes_eq c.id id

abbrev IsDataOf : List ℕ → DataBlock → Bool
IsDataOf id c = bytes_eq c.id id

not_first : (id : List ℕ) (p : Piece) (ps : List Piece) → is_block id p ≡ false → find (is_block id) (p ∷ ps) ≡ find (is_block id) ps
not_first id p ps e = cond-false (is_block id p) (Some p) (find (is_block id) ps) e

first : (id : List ℕ) (p : Piece) (ps : List Piece) → is_block id p ≡ true → find (is_block id) (p ∷ ps) ≡ Some p
first id p ps e = cond-true (is_block id p) (Some p) (find (is_block id) ps) e

-- what is found first, or among the rest
pub found_or : {B : Type 0} {G : Type 0} (c b : B) (o : Option B) (x : Bool) → (x ≡ true → c ≡ b → G) → (x ≡ false → o ≡ Some b → G) → (if x then Some c else o) ≡ Some b → G
found_or c b o true here rest e = here refl (some_is c b e)
found_or c b o false here rest e = rest refl e

-- what the identifiers of all pieces have has that of a code block that is found, and of a data block
code_id : (P : List ℕ → Type 0) (id : List ℕ) (ps : List Piece) (b : CodeBlock) → Every P (flat_map block_id ps) → find (IsCodeOf id) (filter_map code_of ps) ≡ Some b → P id
code_id P id [] b h e = absurd (none-some b e)
code_id P id (CodePiece c ∷ ps) b h e =
    found_or c b (find (IsCodeOf id) (filter_map code_of ps)) (bytes_eq c.id id) (λ is same. subst P (same_ids c.id id is) h.0) (λ is rest. code_id P id ps b h.1 rest) e
code_id P id (DataPiece c ∷ ps) b h e = code_id P id ps b h.1 e
code_id P id (Gap bytes ∷ ps) b h e = code_id P id ps b h e

data_id : (P : List ℕ → Type 0) (id : List ℕ) (ps : List Piece) (b : DataBlock) → Every P (flat_map block_id ps) → find (IsDataOf id) (filter_map data_of ps) ≡ Some b → P id
data_id P id [] b h e = absurd (none-some b e)
data_id P id (DataPiece c ∷ ps) b h e =
    found_or c b (find (IsDataOf id) (filter_map data_of ps)) (bytes_eq c.id id) (λ is same. subst P (same_ids c.id id is) h.0) (λ is rest. data_id P id ps b h.1 rest) e
data_id P id (CodePiece c ∷ ps) b h e = data_id P id ps b h.1 e
data_id P id (Gap bytes ∷ ps) b h e = data_id P id ps b h e

-- identifiers that differ as bytes differ either way
differ : (a b : List ℕ) → bytes_eq a b ≡ false → bytes_eq b a ≡ false
differ a b e = ids_differ b a (λ s. absurd (false≢true (sym e ∙ ids_same a b (sym s))))

-- where identifiers are apart, a code block that is found is the block of its identifier, and a data block
code_piece : (id : List ℕ) (ps : List Piece) (b : CodeBlock) → Pairs (λ a later. a ≢ later) (flat_map block_id ps) → find (IsCodeOf id) (filter_map code_of ps) ≡ Some b → find (is_block id) ps ≡ Some (CodePiece b)
code_piece id [] b apart e = absurd (none-some b e)
code_piece id (CodePiece c ∷ ps) b apart e =
    found_or c b (find (IsCodeOf id) (filter_map code_of ps)) (bytes_eq c.id id)
    (λ is same. first id (CodePiece c) ps (turned c.id id is) ∙ ap (λ (d : CodeBlock). Some (CodePiece d)) same)
    (λ is rest. not_first id (CodePiece c) ps (differ c.id id is) ∙ code_piece id ps b apart.1 rest) e
code_piece id (DataPiece c ∷ ps) b apart e = not_first id (DataPiece c) ps (ids_differ id c.id (λ s. code_id (λ later. c.id ≢ later) id ps b apart.0 e (sym s))) ∙ code_piece id ps b apart.1 e
code_piece id (Gap bytes ∷ ps) b apart e = code_piece id ps b apart e

data_piece : (id : List ℕ) (ps : List Piece) (b : DataBlock) → Pairs (λ a later. a ≢ later) (flat_map block_id ps) → find (IsDataOf id) (filter_map data_of ps) ≡ Some b → find (is_block id) ps ≡ Some (DataPiece b)
data_piece id [] b apart e = absurd (none-some b e)
data_piece id (DataPiece c ∷ ps) b apart e =
    found_or c b (find (IsDataOf id) (filter_map data_of ps)) (bytes_eq c.id id)
    (λ is same. first id (DataPiece c) ps (turned c.id id is) ∙ ap (λ (d : DataBlock). Some (DataPiece d)) same)
    (λ is rest. not_first id (DataPiece c) ps (differ c.id id is) ∙ data_piece id ps b apart.1 rest) e
data_piece id (CodePiece c ∷ ps) b apart e = not_first id (CodePiece c) ps (ids_differ id c.id (λ s. data_id (λ later. c.id ≢ later) id ps b apart.0 e (sym s))) ∙ data_piece id ps b apart.1 e
data_piece id (Gap bytes ∷ ps) b apart e = data_piece id ps b apart e

code_same : (a b : CodeBlock) → CodePiece a ≡ CodePiece b → ◌≡◌ {A = Option CodeBlock} (Some a) (Some b)
code_same a b e = cc

not_code : (a : DataBlock) (b : CodeBlock) → DataPiece a ≡ CodePiece b → ⊥
not_code a b e = cc

-- a code block that has an identifier is found as code
pub piece_code : (id : List ℕ) (ps : List Piece) (b : CodeBlock) → find (is_block id) ps ≡ Some (CodePiece b) → find (IsCodeOf id) (filter_map code_of ps) ≡ Some b
piece_code id [] b e = absurd (none-some (CodePiece b) e)
piece_code id (CodePiece c ∷ ps) b e =
    found_or (CodePiece c) (CodePiece b) (find (is_block id) ps) (bytes_eq id c.id)
    (λ is same. cond-true (bytes_eq c.id id) (Some c) (find (IsCodeOf id) (filter_map code_of ps)) (turned id c.id is) ∙ code_same c b same)
    (λ is rest. cond-false (bytes_eq c.id id) (Some c) (find (IsCodeOf id) (filter_map code_of ps)) (differ id c.id is) ∙ piece_code id ps b rest) e
piece_code id (DataPiece c ∷ ps) b e =
    found_or (DataPiece c) (CodePiece b) (find (is_block id) ps) (bytes_eq id c.id) (λ is same. absurd (not_code c b same)) (λ is rest. piece_code id ps b rest) e
piece_code id (Gap bytes ∷ ps) b e = piece_code id ps b e

-- ---- at addresses

shifted_pieces : (start at : ℕ) (ps : List Piece) → map (λ (x : Placed). x.piece) (shifted start (placed_from at ps)) ≡ ps
shifted_pieces start at [] = refl
shifted_pieces start at (p ∷ ps) = ap (λ l. p ∷ l) (shifted_pieces start (least_from at (step_of p) 0 + new_size p) ps)

pub addressed_pieces : (l : Layout) (ss : List Stretch) → map (λ (x : Placed). x.piece) (flat_map (addressed l) ss) ≡ flat_map (λ (s : Stretch). s.pieces) ss
addressed_pieces l [] = refl
addressed_pieces l (s ∷ ss) =
    map-append (λ (x : Placed). x.piece) (addressed l s) (flat_map (addressed l) ss)
    ∙ ap (λ ps. ps ++ map (λ (x : Placed). x.piece) (flat_map (addressed l) ss)) (shifted_pieces (address_of l s.id) 0 s.pieces)
    ∙ ap (λ ps. s.pieces ++ ps) (addressed_pieces l ss)

-- a piece is the first that has its identifier, if it has one
abbrev pub IsOnly : List Placed → Placed → Type 0
IsOnly xs x = (id : List ℕ) → is_block id x.piece ≡ true → find (λ (y : Placed). is_block id y.piece) xs ≡ Some x

abbrev pub ids_of : List Placed → List (List ℕ)
ids_of xs = flat_map block_id (map (λ (x : Placed). x.piece) xs)

-- what the identifiers of a piece have has that by which it is found
id_has : (P : List ℕ → Type 0) (id : List ℕ) (p : Piece) (more : List (List ℕ)) → is_block id p ≡ true → Every P (block_id p ++ more) → P id
id_has P id (CodePiece b) more e h = subst P (sym (same_ids id b.id e)) h.0
id_has P id (DataPiece b) more e h = subst P (sym (same_ids id b.id e)) h.0
id_has P id (Gap bytes) more e h = absurd (false≢true e)

-- a piece whose identifier those behind it do not have
later_ids : (p : Piece) (ids : List (List ℕ)) → Pairs (λ a later. a ≢ later) (block_id p ++ ids) → (id : List ℕ) → is_block id p ≡ true → Every (λ later. id ≢ later) ids
later_ids (CodePiece b) ids h id e = let P : List ℕ → Type 0 = λ a. Every (λ later. a ≢ later) ids in subst P (sym (same_ids id b.id e)) h.0
later_ids (DataPiece b) ids h id e = let P : List ℕ → Type 0 = λ a. Every (λ later. a ≢ later) ids in subst P (sym (same_ids id b.id e)) h.0
later_ids (Gap bytes) ids h id e = absurd (false≢true e)

rest_apart : (p : Piece) (ids : List (List ℕ)) → Pairs (λ a later. a ≢ later) (block_id p ++ ids) → Pairs (λ a later. a ≢ later) ids
rest_apart (CodePiece b) ids h = h.1
rest_apart (DataPiece b) ids h = h.1
rest_apart (Gap bytes) ids h = h

-- the identifiers of a piece are not those of a first one
abbrev IsBehind : Placed → Placed → Type 0
IsBehind x y = (id : List ℕ) → is_block id y.piece ≡ true → is_block id x.piece ≡ false

behind_first : (x : Placed) (ys : List Placed) → ((id : List ℕ) → is_block id x.piece ≡ true → Every (λ later. id ≢ later) (ids_of ys)) → Every (IsBehind x) ys
behind_first x [] h = tt
behind_first x (y ∷ ys) h = (
  (λ id here. false_from_ne_true (is_block id x.piece) (λ there. id_has (λ later. id ≢ later) id y.piece (ids_of ys) here (h id there) refl)),
  behind_first x ys (λ id there. every_back (λ later. id ≢ later) (block_id y.piece) (ids_of ys) (h id there)),
)

with_first : (x : Placed) (all ys : List Placed) → Every (IsBehind x) ys → Every (IsOnly all) ys → Every (IsOnly (x ∷ all)) ys
with_first x all [] h k = tt
with_first x all (y ∷ ys) h k = (
  (λ id here. cond-false (is_block id x.piece) (Some x) (find (λ (z : Placed). is_block id z.piece) all) (h.0 id here) ∙ k.0 id here),
  with_first x all ys h.1 k.1,
)

each_only : (xs : List Placed) → Pairs (λ a later. a ≢ later) (ids_of xs) → Every (IsOnly xs) xs
each_only [] h = tt
each_only (x ∷ xs) h = (
  (λ id here. cond-true (is_block id x.piece) (Some x) (find (λ (z : Placed). is_block id z.piece) xs) here),
  with_first x xs xs (behind_first x xs (later_ids x.piece (ids_of xs) h)) (each_only xs (rest_apart x.piece (ids_of xs) h)),
)

module _ (l : Layout) (g : Program) (well : well_made g) where
  pub ids_apart : Pairs (λ a later. a ≢ later) (flat_map block_id (pieces_of g))
  ids_apart =
      let P : List (List ℕ) → Type 0 = λ ids. Pairs (λ a later. a ≢ later) ids in
      subst P (sym (flat_flat (λ (s : Stretch). s.pieces) block_id g.stretches)) (pairs_from (λ a later. a ≢ later) (block_ids g) well.apart)

  -- the piece of a block at its address
  pub record At (id : List ℕ) (p : Piece) : Type 0 where
    pub place : Placed
    pub found : find (λ (x : Placed). is_block id x.piece) (all_addressed l g) ≡ Some place
    pub piece : place.piece ≡ p

  at_piece : (id : List ℕ) (p : Piece) → find (is_block id) (pieces_of g) ≡ Some p → At id p
  at_piece id p e =
      let x = found_mapped (λ (x : Placed). x.piece) (is_block id) (all_addressed l g) p (ap (find (is_block id)) (addressed_pieces l g.stretches) ∙ e) in
      record { place = x.0; found = x.1; piece = x.2 }

  pub at_code : (id : List ℕ) (b : CodeBlock) → code_at g id ≡ Some b → At id (CodePiece b)
  at_code id b e = at_piece id (CodePiece b) (code_piece id (pieces_of g) b ids_apart e)

  pub at_data : (id : List ℕ) (b : DataBlock) → data_at g id ≡ Some b → At id (DataPiece b)
  at_data id b e = at_piece id (DataPiece b) (data_piece id (pieces_of g) b ids_apart e)

  -- each piece is the one that its identifier finds
  pub all_only : Every (IsOnly (all_addressed l g)) (all_addressed l g)
  all_only =
      let P : List Piece → Type 0 = λ ps. Pairs (λ a later. a ≢ later) (flat_map block_id ps) in
      each_only (all_addressed l g) (subst P (sym (addressed_pieces l g.stretches)) ids_apart)
