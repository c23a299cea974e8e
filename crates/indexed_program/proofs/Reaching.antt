-- Where points go on: how long a chain of blocks without words is, and where it ends.
use Rattle.std.proofs.Common.{◌≡◌, ◌≢◌, ℕ, zero, suc, ◌+◌, ◌/◌, ◌%◌, ◌<◌, ◌≤◌, ◌&&◌, Bool, true, false, cond, eqb, leb, Option, Some, None, List, [], ◌∷◌, ◌++◌, length, drop, refl, sym, ap, subst, ◌∙◌, inl, inr, arith, slice_get}
use Rattle.std.specs.List.{filter_map, flat_map}
use Rattle.std.specs.Option.{is_some, option_and_then, option_map, option_map_or, option_or, unwrap_or}
use Rattle.std.proofs.lemmas.Bool.{cond-true, cond-false, cases_Bool}
use Rattle.std.proofs.lemmas.Bool.Decides.{nat_tests}
use Rattle.std.proofs.lemmas.Grind.{flat_map-append}
use Rattle.std.proofs.lemmas.Option.{slice_get_past}
use Rattle.sym_expr.specs.declared.point.Point.{Point}
use Rattle.sym_expr.specs.declared.program.CodeBlock.{CodeBlock}
use Rattle.sym_expr.specs.declared.program.DataBlock.{DataBlock}
use Rattle.sym_expr.specs.declared.program.Piece.{Piece}
use Rattle.sym_expr.specs.declared.program.Piece.TheVariants.{Code as CodePiece, Data as DataPiece, Gap}
use Rattle.sym_expr.specs.declared.program.Program.{Program}
use Rattle.sym_expr.specs.declared.program.Stretch.{Stretch}
use Rattle.sym_expr.specs.declared.program.Word.{Word}
use Rattle.sym_expr.specs.Points.{behind, code_at, code_blocks, code_of, code_size, data_at, data_size, first_code, follower, goes_on, ins, is_passed, own_at, pieces_of, reached, reached_within, stretch_of, word_at, word_in}
use Rattle.sym_expr.specs.Targets.{start_of}
use Rattle.sym_expr.specs.WellMade.{block_id, well_made}
use Rattle.indexed_program.specs.Building.{adjacent}
use Rattle.indexed_program.proofs.Apart.{all_ids, apart_in, AreApart, behind_here, code_here, data_here, ids, index_of, stretch_here}
use Rattle.indexed_program.proofs.Lists.{pairs_from}

-- ---- options

same_on : {A B : Type 0} (f h : A → B) (o : Option A) (d : B) → ((p : A) → o ≡ Some p → f p ≡ h p) → option_map_or f o d ≡ option_map_or h o d
same_on f h None d e = refl
same_on f h (Some p) d e = e p refl

unmapped : (o : Option CodeBlock) (p : Point) → option_map (λ (c : CodeBlock). start_of c.id) o ≡ Some p → (c : CodeBlock) × (o ≡ Some c) × (p ≡ start_of c.id)
unmapped None p e = cc
unmapped (Some c) p e = let same : start_of c.id ≡ p = cc in (c, refl, sym same)

unmatched : (b : CodeBlock) (o : Option CodeBlock) (c : CodeBlock) → adjacent b o ≡ Some c → o ≡ Some c
unmatched b None c e = cc
unmatched b (Some d) c e =
    elim (cases_Bool (eqb d.offset (b.offset + code_size b))) [
      | inl fits ↦ sym (cond-true (eqb d.offset (b.offset + code_size b)) (Some d) None fits) ∙ e
      | inr off ↦ let clash = sym (cond-false (eqb d.offset (b.offset + code_size b)) (Some d) None off) ∙ e in cc
    ]

chosen : (f : Point → Point) (o : Option CodeBlock) (at : Point) → option_map_or f (option_map (λ (c : CodeBlock). start_of c.id) o) at ≡ unwrap_or (option_map (λ (c : CodeBlock). f (start_of c.id)) o) at
chosen f None at = refl
chosen f (Some c) at = refl

-- ---- code blocks that are left

abbrev pub codes_in : List Piece → ℕ
codes_in ps = length (filter_map code_of ps)

next_code : (ps : List Piece) (c : CodeBlock) → first_code ps ≡ Some c → (k : ℕ) × (slice_get ps k ≡ Some (CodePiece c))
next_code [] c e = cc
next_code (CodePiece b ∷ ps) c e = let same : b ≡ c = cc in (0, ap (λ (d : CodeBlock). Some (CodePiece d)) same)
next_code (DataPiece d ∷ ps) c e =
    elim (cases_Bool (eqb (data_size d) 0)) [
      | inl empty ↦ let rest = next_code ps c (sym (cond-true (eqb (data_size d) 0) (first_code ps) None empty) ∙ e) in (suc rest.0, rest.1)
      | inr some ↦ let clash = sym (cond-false (eqb (data_size d) 0) (first_code ps) None some) ∙ e in cc
    ]
next_code (Gap bytes ∷ ps) c e = let rest = next_code ps c e in (suc rest.0, rest.1)

fewer_behind : (p : Piece) (ps : List Piece) → codes_in ps ≤ codes_in (p ∷ ps)
fewer_behind (CodePiece b) ps = omega arith
fewer_behind (DataPiece b) ps = omega arith
fewer_behind (Gap bytes) ps = omega arith

fewer : (ps : List Piece) (k : ℕ) (c : CodeBlock) → slice_get ps k ≡ Some (CodePiece c) → codes_in (drop (suc k) ps) < codes_in ps
fewer [] k c e = cc
fewer (CodePiece b ∷ ps) zero c e = omega arith
fewer (DataPiece b ∷ ps) zero c e = cc
fewer (Gap bytes ∷ ps) zero c e = cc
fewer (p ∷ ps) (suc k) c e = let rest = fewer ps k c e in let more = fewer_behind p ps in omega arith

fewer_front : (ps qs : List Piece) → codes_in ps ≤ codes_in (ps ++ qs)
fewer_front [] qs = omega arith
fewer_front (CodePiece b ∷ ps) qs = let rest = fewer_front ps qs in omega arith
fewer_front (DataPiece b ∷ ps) qs = fewer_front ps qs
fewer_front (Gap bytes ∷ ps) qs = fewer_front ps qs

fewer_back : (ps qs : List Piece) → codes_in qs ≤ codes_in (ps ++ qs)
fewer_back [] qs = omega arith
fewer_back (p ∷ ps) qs = let rest = fewer_back ps qs in let more = fewer_behind p (ps ++ qs) in omega arith

fewer_than_all : (ss : List Stretch) (i : ℕ) (s : Stretch) → slice_get ss i ≡ Some s → codes_in s.pieces ≤ codes_in (flat_map (λ (t : Stretch). t.pieces) ss)
fewer_than_all [] i s e = cc
fewer_than_all (t ∷ ss) zero s e =
    let same : t ≡ s = cc in
    let front = fewer_front t.pieces (flat_map (λ (u : Stretch). u.pieces) ss) in
    let size : codes_in t.pieces ≡ codes_in s.pieces = ap (λ (u : Stretch). codes_in u.pieces) same in omega arith
fewer_than_all (t ∷ ss) (suc i) s e =
    let rest = fewer_than_all ss i s e in
    let back = fewer_back t.pieces (flat_map (λ (u : Stretch). u.pieces) ss) in omega arith

-- the index of what stands behind others
behind_drop : {X : Type 0} (xs : List X) (n k : ℕ) (x : X) → slice_get (drop n xs) k ≡ Some x → (m : ℕ) × (slice_get xs m ≡ Some x) × (drop (suc m) xs ≡ drop (suc k) (drop n xs))
behind_drop xs zero k x e = (k, e, refl)
behind_drop [] (suc n) k x e = cc
behind_drop (y ∷ ys) (suc n) k x e = let rest = behind_drop ys n k x e in (suc rest.0, rest.1, rest.2)

-- ---- blocks of a program by their places

-- a code block stands at a place
pub record Stands (g : Program) (i j : ℕ) (s : Stretch) (b : CodeBlock) : Type 0 where
  pub at_stretch : slice_get g.stretches i ≡ Some s
  pub at_piece : slice_get s.pieces j ≡ Some (CodePiece b)

flat_map-flat_map : {A B C : Type 0} (f : B → List C) (h : A → List B) (xs : List A) → flat_map f (flat_map h xs) ≡ flat_map (λ x. flat_map f (h x)) xs
flat_map-flat_map f h [] = refl
flat_map-flat_map f h (x ∷ xs) = flat_map-append f (h x) (flat_map h xs) ∙ ap (λ l. flat_map f (h x) ++ l) (flat_map-flat_map f h xs)

pub apart_ids : (g : Program) → well_made g → AreApart (all_ids g.stretches)
apart_ids g well = pairs_from (λ a later. a ≢ later) (all_ids g.stretches) well.apart

apart_pieces : (g : Program) → well_made g → AreApart (ids (pieces_of g))
apart_pieces g well = subst AreApart (sym (flat_map-flat_map block_id (λ (s : Stretch). s.pieces) g.stretches)) (apart_ids g well)

pub code_found : (g : Program) (i j : ℕ) (s : Stretch) (b : CodeBlock) → well_made g → Stands g i j s b → code_at g b.id ≡ Some b
code_found g i j s b well stands =
    let index = index_of g.stretches i s j (CodePiece b) stands.at_stretch stands.at_piece in
    code_here (pieces_of g) index.0 b (apart_pieces g well) index.1

pub data_found : (g : Program) (i j : ℕ) (s : Stretch) (b : DataBlock) → well_made g → slice_get g.stretches i ≡ Some s → slice_get s.pieces j ≡ Some (DataPiece b) → data_at g b.id ≡ Some b
data_found g i j s b well e f =
    let index = index_of g.stretches i s j (DataPiece b) e f in
    data_here (pieces_of g) index.0 b (apart_pieces g well) index.1

pub stretch_found : (g : Program) (i j : ℕ) (s : Stretch) (b : CodeBlock) → well_made g → Stands g i j s b → stretch_of g b.id ≡ Some s
stretch_found g i j s b well stands = stretch_here g.stretches i s j b (apart_ids g well) stands.at_stretch stands.at_piece

follows : (g : Program) (i j : ℕ) (s : Stretch) (b : CodeBlock) → well_made g → Stands g i j s b → follower g b ≡ adjacent b (first_code (drop (suc j) s.pieces))
follows g i j s b well stands =
    ap (λ (o : Option Stretch). adjacent b (option_and_then (λ (t : Stretch). first_code (behind b.id t.pieces)) o)) (stretch_found g i j s b well stands)
    ∙ ap (λ ps. adjacent b (first_code ps)) (behind_here s.pieces j b (apart_in g.stretches i s (apart_ids g well) stands.at_stretch) stands.at_piece)

-- ---- points without a word

size_of_passed : (b : CodeBlock) (at : Point) → is_passed b at ≡ true → (at.offset ≡ code_size b) × (length (ins b at.offset) ≤ at.j)
size_of_passed b at h = split (at.offset) (code_size b) (length (ins b at.offset)) at.j h
  where
    split : (m n k j : ℕ) → (eqb m n && leb k j) ≡ true → (m ≡ n) × (k ≤ j)
    split m n k j h = (first m n k j h, second m n k j h)
      where
        first : (m n k j : ℕ) → (eqb m n && leb k j) ≡ true → m ≡ n
        first m n k j h = grind (arith, nat_tests)

        second : (m n k j : ℕ) → (eqb m n && leb k j) ≡ true → k ≤ j
        second m n k j h = grind (arith, nat_tests)

no_own : (b : CodeBlock) (o : ℕ) → o ≡ code_size b → own_at b o ≡ None
no_own b o e =
    let past : length b.own ≤ o / 4 = omega arith in
    ap (λ (w : Option Word). cond (eqb (o % 4) 0) w None) (slice_get_past b.own (o / 4) past) ∙ either (eqb (o % 4) 0)
  where
    either : (v : Bool) → cond {A = Option Word} v None None ≡ None
    either true = refl
    either false = refl

no_word : (b : CodeBlock) (at : Point) → is_passed b at ≡ true → word_in b at ≡ None
no_word b at h =
    let parts = size_of_passed b at h in
    ap (λ (w : Option Word). option_or w (own_at b at.offset)) (slice_get_past (ins b at.offset) at.j parts.1) ∙ no_own b at.offset parts.0

pub passed_none : (g : Program) (b : CodeBlock) (at : Point) → code_at g at.block ≡ Some b → is_passed b at ≡ true → is_some (word_at g at) ≡ false
passed_none g b at found h = ap (λ (o : Option CodeBlock). is_some (option_and_then (λ (c : CodeBlock). word_in c at) o)) found ∙ ap is_some (no_word b at h)

abbrev onward_in : Program → Point → CodeBlock → Option Point
onward_in g at b = cond (is_passed b at) (option_map (λ (c : CodeBlock). start_of c.id) (follower g b)) None

goes_passed : (g : Program) (b : CodeBlock) (at : Point) → code_at g at.block ≡ Some b → is_passed b at ≡ true → goes_on g at ≡ option_map (λ (c : CodeBlock). start_of c.id) (follower g b)
goes_passed g b at found h = ap (option_and_then (onward_in g at)) found ∙ cond-true (is_passed b at) (option_map (λ (c : CodeBlock). start_of c.id) (follower g b)) None h

pub goes_not : (g : Program) (b : CodeBlock) (at : Point) → code_at g at.block ≡ Some b → is_passed b at ≡ false → goes_on g at ≡ None
goes_not g b at found h = ap (option_and_then (onward_in g at)) found ∙ cond-false (is_passed b at) (option_map (λ (c : CodeBlock). start_of c.id) (follower g b)) None h

pub goes_nowhere : (g : Program) (at : Point) → code_at g at.block ≡ None → goes_on g at ≡ None
goes_nowhere g at none = ap (option_and_then (onward_in g at)) none

goes_to : (g : Program) (b : CodeBlock) (at p : Point) → code_at g at.block ≡ Some b → goes_on g at ≡ Some p → (c : CodeBlock) × (follower g b ≡ Some c) × (p ≡ start_of c.id)
goes_to g b at p found e =
    elim (cases_Bool (is_passed b at)) [
      | inl passed ↦ unmapped (follower g b) p (sym (goes_passed g b at found passed) ∙ e)
      | inr not ↦ let clash = sym (goes_not g b at found not) ∙ e in cc
    ]

-- a point that doesn't go on is reached itself
stays_within : (n : ℕ) (g : Program) (at : Point) → goes_on g at ≡ None → reached_within n g at ≡ at
stays_within zero g at none = refl
stays_within (suc n) g at none =
    elim (cases_Bool (is_some (word_at g at))) [
      | inl some ↦ cond-true (is_some (word_at g at)) at (option_map_or (reached_within n g) (goes_on g at) at) some
      | inr without ↦
          cond-false (is_some (word_at g at)) at (option_map_or (reached_within n g) (goes_on g at) at) without
          ∙ ap (λ (o : Option Point). option_map_or (reached_within n g) o at) none
    ]

pub stays : (g : Program) (at : Point) → goes_on g at ≡ None → reached g at ≡ at
stays g at none = stays_within (length (code_blocks g)) g at none

-- ---- a chain ends within the number of the code blocks

-- where a point goes on there is a code block with fewer behind it
pub record GoesTo (g : Program) (i j : ℕ) (s : Stretch) (p : Point) : Type 0 where
  pub k : ℕ
  pub block : CodeBlock
  pub stands : Stands g i k s block
  pub is : p ≡ start_of block.id
  pub less : codes_in (drop (suc k) s.pieces) < codes_in (drop (suc j) s.pieces)

next_stands : (g : Program) (i j : ℕ) (s : Stretch) (b : CodeBlock) (at p : Point) → well_made g → Stands g i j s b → at.block ≡ b.id → goes_on g at ≡ Some p → GoesTo g i j s p
next_stands g i j s b at p well stands same e =
    let rest = drop (suc j) s.pieces in
    let to = goes_to g b at p (ap (code_at g) same ∙ code_found g i j s b well stands) e in
    let next = next_code rest to.0 (unmatched b (first_code rest) to.0 (sym (follows g i j s b well stands) ∙ to.1)) in
    let index = behind_drop s.pieces (suc j) next.0 (CodePiece to.0) next.1 in
    record {
      k = index.0;
      block = to.0;
      stands = record { at_stretch = stands.at_stretch; at_piece = index.1 };
      is = to.2;
      less = subst (λ ps. codes_in ps < codes_in rest) (sym index.2) (fewer rest next.0 to.0 next.1);
    }

-- one step more changes nothing where few enough blocks are left
settled : (n : ℕ) (g : Program) (i j : ℕ) (s : Stretch) (b : CodeBlock) (at : Point) → well_made g → Stands g i j s b → at.block ≡ b.id → codes_in (drop (suc j) s.pieces) < n
    → reached_within n g at ≡ reached_within (suc n) g at
settled zero g i j s b at well stands same lt = absurd (omega arith)
settled (suc n) g i j s b at well stands same lt =
    let onward = same_on (reached_within n g) (reached_within (suc n) g) (goes_on g at) at (λ p e.
    let to = next_stands g i j s b at p well stands same e in
    let less = to.less in
    ap (reached_within n g) to.is
    ∙ settled n g i to.k s to.block (start_of to.block.id) well to.stands refl (omega arith)
    ∙ ap (reached_within (suc n) g) (sym to.is)) in
    ap (λ (p : Point). cond (is_some (word_at g at)) at p) onward

-- a point without a word reaches what the point reaches where it goes on
steps_within : (n : ℕ) (g : Program) (i j : ℕ) (s : Stretch) (b : CodeBlock) (at : Point) → well_made g → Stands g i j s b → at.block ≡ b.id → codes_in (drop (suc j) s.pieces) < n → is_some (word_at g at) ≡ false
    → reached_within n g at ≡ option_map_or (reached_within n g) (goes_on g at) at
steps_within zero g i j s b at well stands same lt without = absurd (omega arith)
steps_within (suc n) g i j s b at well stands same lt without =
    cond-false (is_some (word_at g at)) at (option_map_or (reached_within n g) (goes_on g at) at) without
    ∙ same_on (reached_within n g) (reached_within (suc n) g) (goes_on g at) at (λ p e.
    let to = next_stands g i j s b at p well stands same e in
    let less = to.less in
    ap (reached_within n g) to.is
    ∙ settled n g i to.k s to.block (start_of to.block.id) well to.stands refl (omega arith)
    ∙ ap (reached_within (suc n) g) (sym to.is))

enough : (g : Program) (i j : ℕ) (s : Stretch) (b : CodeBlock) → Stands g i j s b → codes_in (drop (suc j) s.pieces) < length (code_blocks g)
enough g i j s b stands =
    let here = fewer s.pieces j b stands.at_piece in
    let all = fewer_than_all g.stretches i s stands.at_stretch in omega arith

-- the end of a block reaches what the start of the block reaches that begins there
pub reached_passed : (g : Program) (i j : ℕ) (s : Stretch) (b : CodeBlock) (at : Point) → well_made g → Stands g i j s b → at.block ≡ b.id → is_passed b at ≡ true
    → reached g at ≡ unwrap_or (option_map (λ (c : CodeBlock). reached g (start_of c.id)) (adjacent b (first_code (drop (suc j) s.pieces)))) at
reached_passed g i j s b at well stands same passed =
    let found = ap (code_at g) same ∙ code_found g i j s b well stands in
    steps_within (length (code_blocks g)) g i j s b at well stands same (enough g i j s b stands) (passed_none g b at found passed)
    ∙ ap (λ (o : Option Point). option_map_or (reached g) o at) (goes_passed g b at found passed ∙ ap (option_map (λ (c : CodeBlock). start_of c.id)) (follows g i j s b well stands))
    ∙ chosen (reached g) (adjacent b (first_code (drop (suc j) s.pieces))) at
