-- What is read of pieces and of the pieces once more is one, where their words and data are.
use Rattle.std.proofs.Common.{◌≡◌, ℕ, suc, ◌+◌, ◌-◌, ◌*◌, ◌%◌, Bool, true, false, List, [], ◌∷◌, ◌++◌, length, map, replicate, None, refl, sym, ap, ◌∙◌, subst, arith}
use Rattle.std.specs.Prelude.{◌==◌, if◌then◌else◌}
use Rattle.std.specs.List.{AllByRecursion as Every, AllZip, flat_map}
use Rattle.std.proofs.lemmas.Bool.{eqb-true}
use Rattle.std.proofs.lemmas.List.{append_assoc, length-append, length-map}
use Rattle.block_parts.specs.declared.words.PatchedWord.{PatchedWord}
use Rattle.block_parts.specs.Parts.{parts_from}
use Rattle.gt_model.specs.declared.modules.Module.{Module}
use Rattle.repaired_programs.specs.Named.{piece_fillings, piece_words}
use Rattle.repaired_programs.specs.Pieces.{bare_piece, bare_word, gap_of, part_piece, plain_word}
use Rattle.sym_expr.specs.declared.program.CodeBlock.{CodeBlock}
use Rattle.sym_expr.specs.declared.program.DataBlock.{DataBlock}
use Rattle.sym_expr.specs.declared.program.Piece.{Piece}
use Rattle.sym_expr.specs.declared.program.Piece.TheVariants.{Code as CodePiece, Data as DataPiece, Gap}
use Rattle.sym_expr.specs.declared.program.Word.{Word}
use Rattle.sym_expr.specs.Images.{all_words, words_from}
use Rattle.sym_expr.specs.Patches.{inserted_at}
use Rattle.sym_expr.specs.Layouts.{least_from}
use Rattle.sym_expr.specs.Placing.{Placed, new_size, placed_from}
use Rattle.sym_expr.specs.Points.{data_size, object_alignment}
use Rattle.repaired_programs.proofs.Becomes.{count}
use Rattle.repaired_programs.proofs.Spots.{no_padding}
use Rattle.repaired_programs.proofs.Walks.{step_divides}

-- ---- lists cut in two

cons_rest : {X : Type 0} (x y : X) (xs ys : List X) → x ∷ xs ≡ y ∷ ys → xs ≡ ys
cons_rest x y xs ys e = cc

cons_first : {X : Type 0} (x y : X) (xs ys : List X) → x ∷ xs ≡ y ∷ ys → x ≡ y
cons_first x y xs ys e = cc

no_more : {X : Type 0} (x : X) (xs : List X) → [] ≡ x ∷ xs → ⊥
no_more x xs e = let none : 0 ≡ suc (length xs) = ap length e in omega (arith, none)

pub nil_of : {X : Type 0} (xs : List X) → length xs ≡ 0 → xs ≡ []
nil_of [] e = refl
nil_of (x ∷ xs) e = absurd (omega (arith, e))

pub zip_front : {A B : Type 0} (R : A → B → Type 0) (xs xs2 : List A) (ys ys2 : List B) → length xs ≡ length ys → AllZip R (xs ++ xs2) (ys ++ ys2) → AllZip R xs ys
zip_front R [] xs2 [] ys2 e h = tt
zip_front R [] xs2 (y ∷ ys) ys2 e h = absurd (omega (arith, e))
zip_front R (x ∷ xs) xs2 [] ys2 e h = absurd (omega (arith, e))
zip_front R (x ∷ xs) xs2 (y ∷ ys) ys2 e h = (h.0, zip_front R xs xs2 ys ys2 (omega (arith, e)) h.1)

pub zip_back : {A B : Type 0} (R : A → B → Type 0) (xs xs2 : List A) (ys ys2 : List B) → length xs ≡ length ys → AllZip R (xs ++ xs2) (ys ++ ys2) → AllZip R xs2 ys2
zip_back R [] xs2 [] ys2 e h = h
zip_back R [] xs2 (y ∷ ys) ys2 e h = absurd (omega (arith, e))
zip_back R (x ∷ xs) xs2 [] ys2 e h = absurd (omega (arith, e))
zip_back R (x ∷ xs) xs2 (y ∷ ys) ys2 e h = zip_back R xs xs2 ys ys2 (omega (arith, e)) h.1

-- ---- the kinds of pieces

abbrev kind : Piece → ℕ
kind (CodePiece b) = 0
kind (DataPiece b) = 1
kind (Gap bytes) = 2

same_kind : (p q : Piece) → p ≡ q → kind p ≡ kind q
same_kind p q e = ap kind e

-- a gap and what is behind it
pub record IsGapCut (bytes : List ℕ) (ps : List Piece) (ys : List Piece) : Type 0 where
  pub back : List Piece
  pub whole : ps ≡ gap_of bytes ++ back
  pub rest : map bare_piece back ≡ ys

own_gap : (p : Piece) (bytes : List ℕ) → bare_piece p ≡ Gap bytes → p ≡ Gap bytes
own_gap (CodePiece b) bytes e = let k = ap kind e in absurd (omega (arith, k))
own_gap (DataPiece b) bytes e = let k = ap kind e in absurd (omega (arith, k))
own_gap (Gap other) bytes e = e

gap_cut_in : (bytes : List ℕ) (x : Bool) (ps ys : List Piece) → map bare_piece ps ≡ (if x then [] else Gap bytes ∷ []) ++ ys → (back : List Piece) × (ps ≡ (if x then [] else Gap bytes ∷ []) ++ back) × (map bare_piece back ≡ ys)
gap_cut_in bytes true ps ys e = (ps, refl, e)
gap_cut_in bytes false [] ys e = absurd (no_more (Gap bytes) ys e)
gap_cut_in bytes false (p ∷ ps) ys e = (ps, ap (λ q. q ∷ ps) (own_gap p bytes (cons_first (bare_piece p) (Gap bytes) (map bare_piece ps) ys e)), cons_rest (bare_piece p) (Gap bytes) (map bare_piece ps) ys e)

pub gap_cut : (bytes : List ℕ) (ps ys : List Piece) → map bare_piece ps ≡ gap_of bytes ++ ys → IsGapCut bytes ps ys
gap_cut bytes ps ys e = let x = gap_cut_in bytes (length bytes == 0) ps ys e in record { back = x.0; whole = x.1; rest = x.2 }

-- code without patches
abbrev pub IsQuietCode : Piece → Type 0
IsQuietCode (CodePiece b) = b.inserted ≡ []
IsQuietCode (DataPiece b) = ⊥
IsQuietCode (Gap bytes) = ⊥

abbrev own_count : Piece → ℕ
own_count (CodePiece b) = length b.own
own_count (DataPiece b) = 0
own_count (Gap bytes) = 0

abbrev more_count : Piece → ℕ
more_count (CodePiece b) = length b.inserted
more_count (DataPiece b) = 0
more_count (Gap bytes) = 0

own_kept : (p : Piece) → own_count (bare_piece p) ≡ own_count p
own_kept (CodePiece b) = length-map b.own bare_word
own_kept (DataPiece b) = refl
own_kept (Gap bytes) = refl

more_kept : (p : Piece) → more_count (bare_piece p) ≡ more_count p
more_kept (CodePiece b) = length-map b.inserted (λ (w : ℕ × Word). let v : ℕ × Word = (w.0, bare_word w.1) in v)
more_kept (DataPiece b) = refl
more_kept (Gap bytes) = refl

kind_kept : (p : Piece) → kind (bare_piece p) ≡ kind p
kind_kept (CodePiece b) = refl
kind_kept (DataPiece b) = refl
kind_kept (Gap bytes) = refl

quiet_of : (p : Piece) → kind p ≡ 0 → more_count p ≡ 0 → IsQuietCode p
quiet_of (CodePiece b) k e = nil_of b.inserted e
quiet_of (DataPiece b) k e = absurd (omega (arith, k))
quiet_of (Gap bytes) k e = absurd (omega (arith, k))

pub quiet_from : (b : CodeBlock) (offset : ℕ) (ws : List Word) → b.inserted ≡ [] → words_from b offset ws ≡ ws
quiet_from b offset [] e = ap (λ (l : List (ℕ × Word)). inserted_at offset l) e
quiet_from b offset (w ∷ ws) e = ap (λ (l : List (ℕ × Word)). inserted_at offset l ++ w ∷ words_from b (offset + 4) ws) e ∙ ap (λ l. w ∷ l) (quiet_from b (offset + 4) ws e)

piece_count : (p : Piece) → IsQuietCode p → length (piece_words p) ≡ own_count p
piece_count (CodePiece b) h = ap length (quiet_from b 0 b.own h)
piece_count (DataPiece b) h = absurd h
piece_count (Gap bytes) h = absurd h

-- parts and what is behind them
pub record IsPartCut (n : ℕ) (ps : List Piece) (ys : List Piece) : Type 0 where
  pub front : List Piece
  pub back : List Piece
  pub whole : ps ≡ front ++ back
  pub quiet : Every IsQuietCode front
  pub size : length (flat_map piece_words front) ≡ n
  pub rest : map bare_piece back ≡ ys

part_ahead : (p : Piece) (words n : ℕ) (ps ys : List Piece) → IsQuietCode p → own_count p ≡ words → IsPartCut n ps ys → IsPartCut (words + n) (p ∷ ps) ys
part_ahead p words n ps ys quiet e c =
    let own = piece_count p quiet in
    let all = length-append (piece_words p) (flat_map piece_words c.front) in
    let size = c.size in
    record {
      front = p ∷ c.front;
      back = c.back;
      whole = ap (λ l. p ∷ l) c.whole;
      quiet = (quiet, c.quiet);
      size = omega (arith, own, all, size, e);
      rest = c.rest;
    }

pub part_cut : (m : Module) (block : List ℕ) (place start : ℕ) (pss : List (List PatchedWord)) (ps ys : List Piece) → map bare_piece ps ≡ map (part_piece m block place) (parts_from start pss) ++ ys → IsPartCut (count pss) ps ys
part_cut m block place start [] ps ys e = record { front = []; back = ps; whole = refl; quiet = tt; size = refl; rest = e }
part_cut m block place start (words ∷ pss) [] ys e =
    absurd (no_more (part_piece m block place (record { start = start; words = words })) (map (part_piece m block place) (parts_from (start + 4 * length words) pss) ++ ys) e)
part_cut m block place start (words ∷ pss) (p ∷ ps) ys e =
    let q : Piece = part_piece m block place (record { start = start; words = words }) in
    let tail : List Piece = map (part_piece m block place) (parts_from (start + 4 * length words) pss) ++ ys in
    let first : bare_piece p ≡ q = cons_first (bare_piece p) q (map bare_piece ps) tail e in
    let its_kind : kind p ≡ 0 = sym (kind_kept p) ∙ ap kind first in
    let its_more : more_count p ≡ 0 = sym (more_kept p) ∙ ap more_count first in
    let its_own : own_count p ≡ length words = sym (own_kept p) ∙ ap own_count first ∙ length-map words plain_word in
    part_ahead p (length words) (count pss) ps ys (quiet_of p its_kind its_more) its_own (part_cut m block place (start + 4 * length words) pss ps ys (cons_rest (bare_piece p) q (map bare_piece ps) tail e))

-- data and what is behind it
abbrev no_data : DataBlock
no_data = record { id = []; offset = 0; bytes = []; fillings = []; alignment = None }

abbrev data_in : Piece → DataBlock
data_in (CodePiece b) = no_data
data_in (DataPiece b) = b
data_in (Gap bytes) = no_data

pub record IsDataCut (place : ℕ) (b : DataBlock) (ps ys : List Piece) : Type 0 where
  pub own : DataBlock
  pub back : List Piece
  pub whole : ps ≡ DataPiece own ∷ back
  pub offset : own.offset ≡ place
  pub bytes : own.bytes ≡ b.bytes
  pub rest : map bare_piece back ≡ ys

own_data : (place : ℕ) (b : DataBlock) (p : Piece) (ps ys : List Piece) → bare_piece p ≡ DataPiece (record b { offset = place; fillings = [] }) → map bare_piece ps ≡ ys → IsDataCut place b (p ∷ ps) ys
own_data place b (CodePiece c) ps ys e h = let k = ap kind e in absurd (omega (arith, k))
own_data place b (DataPiece c) ps ys e h =
    record { own = c; back = ps; whole = refl; offset = ap (λ (q : Piece). (data_in q).offset) e; bytes = ap (λ (q : Piece). (data_in q).bytes) e; rest = h }
own_data place b (Gap bytes) ps ys e h = let k = ap kind e in absurd (omega (arith, k))

pub data_cut : (place : ℕ) (b : DataBlock) (ps ys : List Piece) → map bare_piece ps ≡ DataPiece (record b { offset = place; fillings = [] }) ∷ ys → IsDataCut place b ps ys
data_cut place b [] ys e = absurd (no_more (DataPiece (record b { offset = place; fillings = [] })) ys e)
data_cut place b (p ∷ ps) ys e =
    let d : Piece = DataPiece (record b { offset = place; fillings = [] }) in
    own_data place b p ps ys (cons_first (bare_piece p) d (map bare_piece ps) ys e) (cons_rest (bare_piece p) d (map bare_piece ps) ys e)

-- ---- what words and data say that aren't there

pub gap_words : (bytes : List ℕ) (x : Bool) (ps : List Piece) → flat_map piece_words ((if x then [] else Gap bytes ∷ []) ++ ps) ≡ flat_map piece_words ps
gap_words bytes true ps = refl
gap_words bytes false ps = refl

pub gap_fillings : (bytes : List ℕ) (x : Bool) (ps : List Piece) → flat_map piece_fillings ((if x then [] else Gap bytes ∷ []) ++ ps) ≡ flat_map piece_fillings ps
gap_fillings bytes true ps = refl
gap_fillings bytes false ps = refl

pub quiet_fillings : (front ps : List Piece) → Every IsQuietCode front → flat_map piece_fillings (front ++ ps) ≡ flat_map piece_fillings ps
quiet_fillings [] ps h = refl
quiet_fillings (CodePiece b ∷ front) ps h = quiet_fillings front ps h.1
quiet_fillings (DataPiece b ∷ front) ps h = absurd h.0
quiet_fillings (Gap bytes ∷ front) ps h = absurd h.0

-- ---- what is read

-- of words one behind the other, and of placed pieces
abbrev pub read_words : {X : Type 0} → (ℕ → Word → List X) → ℕ → List Word → List X
read_words W at [] = []
read_words W at (w ∷ ws) = W at w ++ read_words W (at + 4) ws

abbrev pub read_piece : {X : Type 0} → (List ℕ → List X) → (ℕ → Word → List X) → (ℕ → DataBlock → List X) → ℕ → Piece → List X
read_piece G W D at (CodePiece b) = read_words W at (all_words b)
read_piece G W D at (DataPiece b) = D at b
read_piece G W D at (Gap bytes) = G bytes

abbrev pub read : {X : Type 0} → (List ℕ → List X) → (ℕ → Word → List X) → (ℕ → DataBlock → List X) → ℕ → List Placed → List X
read G W D at [] = []
read G W D at (x ∷ xs) = G (replicate (x.at - at) 0) ++ (read_piece G W D x.at x.piece ++ read G W D (x.at + new_size x.piece) xs)

read_both : {X : Type 0} (W : ℕ → Word → List X) (at : ℕ) (ws vs : List Word) → read_words W at (ws ++ vs) ≡ read_words W at ws ++ read_words W (at + 4 * length ws) vs
read_both W at [] vs = ap (λ k. read_words W k vs) (omega arith)
read_both W at (w ∷ ws) vs =
    let next : at + 4 + 4 * length ws ≡ at + 4 * suc (length ws) = omega arith in
    ap (λ l. W at w ++ l) (read_both W (at + 4) ws vs ∙ ap (λ k. read_words W (at + 4) ws ++ read_words W k vs) next)
    ∙ sym (append_assoc (W at w) (read_words W (at + 4) ws) (read_words W (at + 4 * suc (length ws)) vs))

pub same_words : {X : Type 0} (V W : ℕ → Word → List X) (R : Word → Word → Type 0) → ((at : ℕ) (v w : Word) → R v w → V at v ≡ W at w) → (at : ℕ) (vs ws : List Word) → AllZip R vs ws → read_words V at vs ≡ read_words W at ws
same_words V W R same at [] [] h = refl
same_words V W R same at [] (w ∷ ws) h = absurd h
same_words V W R same at (v ∷ vs) [] h = absurd h
same_words V W R same at (v ∷ vs) (w ∷ ws) h = ap (λ l. l ++ read_words V (at + 4) vs) (same at v w h.0) ∙ ap (λ l. W at w ++ l) (same_words V W R same (at + 4) vs ws h.1)

module _ (X : Type 0) (G : List ℕ → List X) (W : ℕ → Word → List X) (D : ℕ → DataBlock → List X) (nil : G [] ≡ []) where
  abbrev pub from : ℕ → List Piece → List X
  from at ps = read G W D at (placed_from at ps)

  no_zeros : (k : ℕ) → k ≡ 0 → G (replicate k 0) ≡ []
  no_zeros k e = ap (λ n. G (replicate n 0)) e ∙ nil

  pub gap_from : (at : ℕ) (bytes : List ℕ) (x : Bool) (ps : List Piece) → (length bytes == 0) ≡ x → from at ((if x then [] else Gap bytes ∷ []) ++ ps) ≡ G bytes ++ from (at + length bytes) ps
  gap_from at bytes true ps e =
      let none = eqb-true (length bytes) 0 e in
      let same : at ≡ at + length bytes = omega (arith, none) in
      ap (λ k. from k ps) same ∙ sym (ap (λ l. l ++ from (at + length bytes) ps) (ap G (nil_of bytes none) ∙ nil))
  gap_from at bytes false ps e =
      let still = no_padding at 1 (omega arith) in
      ap (λ l. l ++ (G bytes ++ read G W D (least_from at 1 0 + length bytes) (placed_from (least_from at 1 0 + length bytes) ps))) (no_zeros (least_from at 1 0 - at) (omega (arith, still)))
      ∙ ap (λ k. G bytes ++ from (k + length bytes) ps) still

  code_from : (at : ℕ) (b : CodeBlock) (ps : List Piece) → from at (CodePiece b ∷ ps) ≡ read_words W at (all_words b) ++ from (at + 4 * (length b.own + length b.inserted)) ps
  code_from at b ps =
      let still = no_padding at 1 (omega arith) in
      let next : ℕ = 4 * (length b.own + length b.inserted) in
      ap (λ l. l ++ (read_words W (least_from at 1 0) (all_words b) ++ from (least_from at 1 0 + next) ps)) (no_zeros (least_from at 1 0 - at) (omega (arith, still)))
      ∙ ap (λ k. read_words W k (all_words b) ++ from (k + next) ps) still

  pub parts_from_here : (at : ℕ) (front ps : List Piece) → Every IsQuietCode front
      → from at (front ++ ps) ≡ read_words W at (flat_map piece_words front) ++ from (at + 4 * length (flat_map piece_words front)) ps
  parts_from_here at [] ps h = ap (λ k. from k ps) (omega arith)
  parts_from_here at (CodePiece b ∷ front) ps h =
      let own : List Word = all_words b in
      let more : List Word = flat_map piece_words front in
      let size : length own ≡ length b.own = piece_count (CodePiece b) h.0 in
      let none : length b.inserted ≡ 0 = ap length h.0 in
      let next : at + 4 * (length b.own + length b.inserted) ≡ at + 4 * length own = omega (arith, size, none) in
      let all = length-append own more in
      let end : at + 4 * length own + 4 * length more ≡ at + 4 * length (own ++ more) = omega (arith, all) in
      code_from at b (front ++ ps)
      ∙ ap (λ k. read_words W at own ++ from k (front ++ ps)) next
      ∙ ap (λ l. read_words W at own ++ l) (parts_from_here (at + 4 * length own) front ps h.1)
      ∙ sym (append_assoc (read_words W at own) (read_words W (at + 4 * length own) more) (from (at + 4 * length own + 4 * length more) ps))
      ∙ ap (λ k. (read_words W at own ++ read_words W (at + 4 * length own) more) ++ from k ps) end
      ∙ ap (λ l. l ++ from (at + 4 * length (own ++ more)) ps) (sym (read_both W at own more))
  parts_from_here at (DataPiece b ∷ front) ps h = absurd h.0
  parts_from_here at (Gap bytes ∷ front) ps h = absurd h.0

  -- data at its own offset needs no padding
  pub data_from : (at : ℕ) (b : DataBlock) (ps : List Piece) → b.offset ≡ at → from at (DataPiece b ∷ ps) ≡ D at b ++ from (at + length b.bytes) ps
  data_from at b ps e =
      let step : ℕ = object_alignment b in
      let still : least_from at step 0 ≡ at = no_padding at step (subst (λ k. k % object_alignment b ≡ 0) e (step_divides b.alignment (data_size b) b.offset)) in
      ap (λ l. l ++ (D (least_from at step 0) b ++ from (least_from at step 0 + length b.bytes) ps)) (no_zeros (least_from at step 0 - at) (omega (arith, still)))
      ∙ ap (λ k. D k b ++ from (k + length b.bytes) ps) still
