-- The words of a line, as a loop finds them.
use Rattle.std.proofs.Common.{◌≡◌, ◌↔◌, IsTrue, ℕ, Bool, true, false, cond, List, [], ◌∷◌, ◌++◌, filter, refl, sym, ap, subst, ◌∙◌, append_assoc, ◌⊎◌, inl, inr}
use Rattle.std.proofs.lemmas.List.{append-nil}
use Rattle.std.specs.List.{flat_map}
use Rattle.asm_read.specs.Words.{Piece, Bare, Quoted, IsPiece, bytes_of, is_gap, is_white, begins_white, before_first, runs, is_some_bytes, words_in, IsComment, ArePieces, HasWords}
use Rattle.asm_read.proofs.Quoting.{one_piece}

-- ---- runs

front_of_front : (a b : List ℕ) (rs : List (List ℕ)) → before_first a (before_first b rs) ≡ before_first (a ++ b) rs
front_of_front a b [] = refl
front_of_front a b (r ∷ rs) = ap (λ (x : List ℕ). x ∷ rs) (sym (append_assoc a b r))

no_front_of : (g : Bool) (b : List ℕ) (rs : List (List ℕ)) → before_first [] (cond g ([] ∷ rs) (before_first b rs)) ≡ cond g ([] ∷ rs) (before_first b rs)
no_front_of true b rs = refl
no_front_of false b rs = front_of_front [] b rs

no_front : (ps : List Piece) → before_first [] (runs ps) ≡ runs ps
no_front [] = refl
no_front (p ∷ ps) = no_front_of (is_gap p) (bytes_of p) (runs ps)

-- ---- the words of what is left, with a word begun before

pub record HasWordsFrom (word rest : List ℕ) (words : List (List ℕ)) : Type 0 where
  pub pieces : List Piece
  pub comment : List ℕ
  pub parts : rest ≡ flat_map bytes_of pieces ++ comment
  pub each : ArePieces pieces comment
  pub ends : (comment ≡ []) ⊎ IsComment comment
  pub are : words ≡ filter is_some_bytes (before_first word (runs pieces))

-- the words of the line are those found and those of what is left
pub record IsSplitting (line : List ℕ) (words : List (List ℕ)) (word rest : List ℕ) : Type 0 where
  pub sound : (others : List (List ℕ)) → HasWordsFrom word rest others → HasWords line (words ++ others)
  pub whole : (all : List (List ℕ)) → HasWords line all → (others : List (List ℕ)) × (all ≡ words ++ others) × HasWordsFrom word rest others

pub starts : (line : List ℕ) → IsSplitting line [] [] line
starts line = record {
  sound = λ others h. record { pieces = h.pieces; comment = h.comment; parts = h.parts; each = h.each; ends = h.ends; are = h.are ∙ ap (filter is_some_bytes) (no_front h.pieces) };
  whole = λ all h. (all, refl, record { pieces = h.pieces; comment = h.comment; parts = h.parts; each = h.each; ends = h.ends; are = h.are ∙ ap (filter is_some_bytes) (sym (no_front h.pieces)) });
}

no_bytes : (p : Piece) (x : List ℕ) → bytes_of p ++ x ≡ [] → ⊥
no_bytes (Bare b) x e = cc
no_bytes (Quoted i) x e = cc

-- at the end of the line or before a comment no piece is left
no_pieces : (ps : List Piece) (rest comment : List ℕ) → ((rest ≡ []) ⊎ IsComment rest) → rest ≡ flat_map bytes_of ps ++ comment → ArePieces ps comment → ps ≡ []
no_pieces [] rest comment ends parts each = refl
no_pieces (p ∷ ps) rest comment (inl none) parts each = absurd (no_bytes p (flat_map bytes_of ps ++ comment) (sym (append_assoc (bytes_of p) (flat_map bytes_of ps) comment) ∙ sym parts ∙ none))
no_pieces (p ∷ ps) rest comment (inr begins) parts each = absurd (each.1 (begins.0, sym parts ∙ begins.1))

last_words : (word : List ℕ) → filter is_some_bytes (word ∷ []) ≡ filter is_some_bytes (before_first word (runs []))
last_words word = ap (λ (w : List ℕ). filter is_some_bytes (w ∷ [])) (sym (append-nil word))

module _ (line : List ℕ) (words : List (List ℕ)) (word rest : List ℕ) (h : IsSplitting line words word rest) where
  module _ (ends : (rest ≡ []) ⊎ IsComment rest) where
    pub end_only : (all : List (List ℕ)) → HasWords line all → words ++ filter is_some_bytes (word ∷ []) ≡ all
    end_only all has =
        let w = h.whole all has in
        let none = no_pieces w.2.pieces rest w.2.comment ends w.2.parts w.2.each in
        let is : w.0 ≡ filter is_some_bytes (word ∷ []) = w.2.are ∙ ap (λ (ps : List Piece). filter is_some_bytes (before_first word (runs ps))) none ∙ sym (last_words word) in
        sym (w.1 ∙ ap (λ (o : List (List ℕ)). words ++ o) is)

  -- a quote that isn't closed
  module _ (more : ((rest ≡ []) ⊎ IsComment rest) → ⊥) (no_piece : (p : Piece) (behind : List ℕ) → IsPiece p → rest ≡ bytes_of p ++ behind → ⊥) where
    left_from : (ps : List Piece) (comment : List ℕ) → rest ≡ flat_map bytes_of ps ++ comment → ArePieces ps comment → ((comment ≡ []) ⊎ IsComment comment) → ⊥
    left_from [] comment parts each ends = more (subst (λ (r : List ℕ). (r ≡ []) ⊎ IsComment r) (sym parts) ends)
    left_from (p ∷ ps) comment parts each ends = no_piece p (flat_map bytes_of ps ++ comment) each.0 (parts ∙ append_assoc (bytes_of p) (flat_map bytes_of ps) comment)

    pub no_words : (all : List (List ℕ)) → HasWords line all → ⊥
    no_words all has = let w = h.whole all has in left_from w.2.pieces w.2.comment w.2.parts w.2.each w.2.ends

-- what a test says
pub holds : {P : Type 0} (b : Bool) → (IsTrue b ↔ P) → b ≡ true → P
holds b h e = h.0 e

pub fails : {P : Type 0} (b : Bool) → (IsTrue b ↔ P) → b ≡ false → P → ⊥
fails b h e p = let yes : b ≡ true = h.1 p in cc

-- ---- a piece more

module _ (line : List ℕ) (words : List (List ℕ)) (word rest : List ℕ) (h : IsSplitting line words word rest) (p : Piece) (after : List ℕ) (is_piece : IsPiece p) (parts : rest ≡ bytes_of p ++ after) (more : ((rest ≡ []) ⊎ IsComment rest) → ⊥) where
  -- with this piece at its front
  joined : (others : List (List ℕ)) (begun : List ℕ) → (f : HasWordsFrom begun after others) → ArePieces (p ∷ f.pieces) f.comment
  joined others begun f =
      let whole : flat_map bytes_of (p ∷ f.pieces) ++ f.comment ≡ rest = append_assoc (bytes_of p) (flat_map bytes_of f.pieces) f.comment ∙ ap (λ (b : List ℕ). bytes_of p ++ b) (sym f.parts) ∙ sym parts in
      (is_piece, λ begins. more (inr (subst IsComment whole begins)), f.each)

  joined_parts : (others : List (List ℕ)) (begun : List ℕ) → (f : HasWordsFrom begun after others) → rest ≡ flat_map bytes_of (p ∷ f.pieces) ++ f.comment
  joined_parts others begun f = parts ∙ ap (λ (b : List ℕ). bytes_of p ++ b) f.parts ∙ sym (append_assoc (bytes_of p) (flat_map bytes_of f.pieces) f.comment)

  -- what has words from here has this piece at its front
  record Behind (others : List (List ℕ)) : Type 0 where
    pieces : List Piece
    comment : List ℕ
    split : after ≡ flat_map bytes_of pieces ++ comment
    each : ArePieces pieces comment
    ends : (comment ≡ []) ⊎ IsComment comment
    are : others ≡ filter is_some_bytes (before_first word (runs (p ∷ pieces)))

  behind_from : (others : List (List ℕ)) (ps : List Piece) (comment : List ℕ) → rest ≡ flat_map bytes_of ps ++ comment → ArePieces ps comment → (comment ≡ []) ⊎ IsComment comment → others ≡ filter is_some_bytes (before_first word (runs ps)) → Behind others
  behind_from others [] comment e each (inl none) are = absurd (no_bytes p after (sym parts ∙ e ∙ none))
  behind_from others [] comment e each (inr begins) are = absurd (more (inr (begins.0, e ∙ begins.1)))
  behind_from others (q ∷ ps) comment e each ends are =
      let one = one_piece p q after (flat_map bytes_of ps ++ comment) is_piece each.0 (sym parts ∙ e ∙ append_assoc (bytes_of q) (flat_map bytes_of ps) comment) in
      record { pieces = ps; comment = comment; split = one.1; each = each.2; ends = ends; are = are ∙ ap (λ (r : Piece). filter is_some_bytes (before_first word (runs (r ∷ ps)))) (sym one.0) }

  behind : (others : List (List ℕ)) → HasWordsFrom word rest others → Behind others
  behind others f = behind_from others f.pieces f.comment f.parts f.each f.ends f.are

  -- white space ends a word
  module _ (gap : is_gap p ≡ true) where
    ended : (ps : List Piece) → filter is_some_bytes (before_first word (runs (p ∷ ps))) ≡ filter is_some_bytes (word ∷ []) ++ filter is_some_bytes (before_first [] (runs ps))
    ended ps = rw gap (ap (λ (w : List ℕ). filter is_some_bytes (w ∷ runs ps)) (append-nil word) ∙ filter_cons word (runs ps) ∙ ap (λ (rs : List (List ℕ)). filter is_some_bytes (word ∷ []) ++ filter is_some_bytes rs) (sym (no_front ps)))
      where
        filter_cons : (w : List ℕ) (rs : List (List ℕ)) → filter is_some_bytes (w ∷ rs) ≡ filter is_some_bytes (w ∷ []) ++ filter is_some_bytes rs
        filter_cons [] rs = refl
        filter_cons (b ∷ w) rs = refl

    pub goes_on_behind_gap : (all : List (List ℕ)) → all ≡ words ++ filter is_some_bytes (word ∷ []) → IsSplitting line all [] after
    goes_on_behind_gap all is = record {
      sound = λ others f.
          let last = filter is_some_bytes (word ∷ []) in
          let whole : words ++ (last ++ others) ≡ all ++ others = sym (append_assoc words last others) ∙ ap (λ (w : List (List ℕ)). w ++ others) (sym is) in
          subst (HasWords line) whole (h.sound (last ++ others) (record { pieces = p ∷ f.pieces; comment = f.comment; parts = joined_parts others [] f; each = joined others [] f; ends = f.ends; are = ap (λ (o : List (List ℕ)). last ++ o) f.are ∙ sym (ended f.pieces) }));
      whole = λ every has.
          let w = h.whole every has in
          let b = behind w.0 w.2 in
          let others = filter is_some_bytes (before_first [] (runs b.pieces)) in
          let last = filter is_some_bytes (word ∷ []) in
          (others, w.1 ∙ ap (λ (o : List (List ℕ)). words ++ o) (b.are ∙ ended b.pieces) ∙ sym (append_assoc words last others) ∙ ap (λ (v : List (List ℕ)). v ++ others) (sym is), record { pieces = b.pieces; comment = b.comment; parts = b.split; each = b.each; ends = b.ends; are = refl });
    }

  -- another piece goes on with it
  module _ (gap : is_gap p ≡ false) where
    continued : (ps : List Piece) → before_first word (runs (p ∷ ps)) ≡ before_first (word ++ bytes_of p) (runs ps)
    continued ps = rw gap (front_of_front word (bytes_of p) (runs ps))

    pub goes_on_behind_piece : (longer : List ℕ) → longer ≡ word ++ bytes_of p → IsSplitting line words longer after
    goes_on_behind_piece longer is = record {
      sound = λ others f.
          h.sound others (record { pieces = p ∷ f.pieces; comment = f.comment; parts = joined_parts others longer f; each = joined others longer f; ends = f.ends; are = f.are ∙ ap (λ (w : List ℕ). filter is_some_bytes (before_first w (runs f.pieces))) is ∙ ap (filter is_some_bytes) (sym (continued f.pieces)) });
      whole = λ every has.
          let w = h.whole every has in
          let b = behind w.0 w.2 in
          (w.0, w.1, record { pieces = b.pieces; comment = b.comment; parts = b.split; each = b.each; ends = b.ends; are = b.are ∙ ap (filter is_some_bytes) (continued b.pieces) ∙ ap (λ (w : List ℕ). filter is_some_bytes (before_first w (runs b.pieces))) (sym is) });
    }

pub begins_as_gap : (p : Piece) → begins_white (bytes_of p) ≡ is_gap p
begins_as_gap (Bare b) = refl
begins_as_gap (Quoted inside) = refl

-- ---- a line has one list of words

same_pieces : (ps qs : List Piece) (x y : List ℕ) → ArePieces ps x → ArePieces qs y → ((x ≡ []) ⊎ IsComment x) → ((y ≡ []) ⊎ IsComment y) → flat_map bytes_of ps ++ x ≡ flat_map bytes_of qs ++ y → ps ≡ qs
same_pieces [] qs x y h k ends_x ends_y e = sym (no_pieces qs x y ends_x e k)
same_pieces (p ∷ ps) [] x y h k ends_x ends_y e = no_pieces (p ∷ ps) y x ends_y (sym e) h
same_pieces (p ∷ ps) (q ∷ qs) x y h k ends_x ends_y e =
    let left = append_assoc (bytes_of p) (flat_map bytes_of ps) x in
    let right = append_assoc (bytes_of q) (flat_map bytes_of qs) y in
    let one = one_piece p q (flat_map bytes_of ps ++ x) (flat_map bytes_of qs ++ y) h.0 k.0 (sym left ∙ e ∙ right) in
    ap (λ (r : Piece). r ∷ ps) one.0 ∙ ap (λ (rs : List Piece). q ∷ rs) (same_pieces ps qs x y h.2 k.2 ends_x ends_y one.1)

pub one_list : (line : List ℕ) (a b : List (List ℕ)) → HasWords line a → HasWords line b → a ≡ b
one_list line a b h k =
    let same = same_pieces h.pieces k.pieces h.comment k.comment h.each k.each h.ends k.ends (sym h.parts ∙ k.parts) in
    h.are ∙ ap words_in same ∙ sym k.are
