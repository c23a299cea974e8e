-- The parts of a block: their identifiers, and where the block's own words stand in them.
use Rattle.std.proofs.Common.{◌≡◌, ℕ, zero, suc, ◌+◌, ◌-◌, ◌*◌, ◌/◌, ◌%◌, ◌<◌, ◌≤◌, ◌⊎◌, inl, inr, Bool, true, false, ◌||◌, List, [], ◌∷◌, length, map, drop, Option, Some, None, refl, sym, ap, subst, ◌∙◌, arith}
use Rattle.std.specs.Prelude.{◌==◌, if◌then◌else◌}
use Rattle.std.specs.List.{flat_map, list_any}
use Rattle.std.specs.Option.{option_map, option_or}
use Rattle.std.proofs.lemmas.Bool.{cases_lt, eq-eqb, eqb-true, false≢true, ne_eqb, or_left, or_right}
use Rattle.std.proofs.lemmas.List.Folds.{list_any-append}
use Rattle.std.proofs.lemmas.Option.{none-some, same_Some}
use Rattle.aux_codec.specs.declared.value.Place.{Place}
use Rattle.block_parts.specs.declared.parts.Part.{Part}
use Rattle.block_parts.specs.declared.words.Origin.{Origin}
use Rattle.block_parts.specs.declared.words.Origin.TheVariants.{Own, Inserted}
use Rattle.block_parts.specs.declared.words.PatchedWord.{PatchedWord}
use Rattle.block_parts.specs.Parts.{cut_words, is_cut, part, parts, parts_from, put_first}
use Rattle.block_parts.specs.Words.{numbered, own, patched_words, words_from}
use Rattle.gt_model.specs.declared.modules.Module.{Module}
use Rattle.rewrite.specs.Blocks.{part_size}
use Rattle.rewrite.specs.Identifiers.{last_part, part_id}
use Rattle.rewrite.specs.Places.{code_place, depth_of, end_place, is_own, place_among, place_in}
use Rattle.sym_expr.specs.declared.program.CodeBlock.{CodeBlock}
use Rattle.sym_expr.specs.declared.program.Word.{Word}
use Rattle.sym_expr.specs.Derived.{derived, part_text}
use Rattle.sym_expr.specs.Patches.{inserted_at}
use Rattle.sym_expr.specs.Points.{code_size}
use Rattle.taken_ids.specs.Identifiers.{part_id as later_id, part_ids}
use Rattle.rewritten_links.proofs.Apart.{Apart, one_of_key}
use Rattle.rewritten_links.proofs.Lists.{In}

-- ---- each part but the first begins behind a word

-- there is a first part, and where others follow it has a word
pub record HasFirst (cuts : List (List PatchedWord)) : Type 0 where
  pub first : List PatchedWord
  pub rest : List (List PatchedWord)
  pub both : cuts ≡ first ∷ rest
  pub some : (rest ≡ []) ⊎ (1 ≤ length first)

put_shape : (w : PatchedWord) (cuts : List (List PatchedWord)) → HasFirst cuts → HasFirst (put_first w cuts)
put_shape w cuts h = record { first = w ∷ h.first; rest = h.rest; both = ap (put_first w) h.both; some = inr (omega arith) }

either_shape : (w : PatchedWord) (b : Bool) (cuts : List (List PatchedWord)) → HasFirst cuts → HasFirst (if b then (w ∷ []) ∷ cuts else put_first w cuts)
either_shape w true cuts h = record { first = w ∷ []; rest = cuts; both = refl; some = inr (omega arith) }
either_shape w false cuts h = put_shape w cuts h

pub shape : (ws : List PatchedWord) → HasFirst (cut_words ws)
shape [] = record { first = []; rest = []; both = refl; some = inl refl }
shape (w ∷ []) = record { first = w ∷ []; rest = []; both = refl; some = inl refl }
shape (w ∷ next ∷ rest) = either_shape w (is_cut w next) (cut_words (next ∷ rest)) (shape (next ∷ rest))

later_each : (m : Module) (block : List ℕ) (start : ℕ) (cuts : List (List PatchedWord)) → 1 ≤ start → map (part_id m block) (parts_from start cuts) ≡ map (later_id m.uuid block) (parts_from start cuts)
later_each m block start [] h = refl
later_each m block start (words ∷ rest) h =
    ap (λ b. (if b then block else derived m.uuid (part_text block start)) ∷ map (part_id m block) (parts_from (start + 4 * length words) rest)) (ne_eqb start 0 (λ e. omega (arith, e, h)))
    ∙ ap (λ l. derived m.uuid (part_text block start) ∷ l) (later_each m block (start + 4 * length words) rest (omega (arith, h)))

later_parts : (m : Module) (block : List ℕ) (first : List PatchedWord) (rest : List (List PatchedWord)) → (rest ≡ []) ⊎ (1 ≤ length first)
    → map (part_id m block) (parts_from (0 + 4 * length first) rest) ≡ map (later_id m.uuid block) (parts_from (0 + 4 * length first) rest)
later_parts m block first rest (inl none) =
    let P : List (List PatchedWord) → Type 0 = λ l. map (part_id m block) (parts_from (0 + 4 * length first) l) ≡ map (later_id m.uuid block) (parts_from (0 + 4 * length first) l) in
    subst P (sym none) refl
later_parts m block first rest (inr some) = later_each m block (0 + 4 * length first) rest (omega (arith, some))

-- the first part keeps the identifier, and the others have those that are derived
pub ids_of_parts : (m : Module) (b : CodeBlock) → map (part_id m b.id) (parts b) ≡ b.id ∷ part_ids m.uuid b
ids_of_parts m b =
    let h = shape (patched_words b) in
    let P : List (List PatchedWord) → Type 0 = λ l. map (part_id m b.id) (parts_from 0 l) ≡ b.id ∷ map (later_id m.uuid b.id) (drop 1 (parts_from 0 l)) in
    subst P (sym h.both) (ap (λ l. b.id ∷ l) (later_parts m b.id h.first h.rest h.some))

last_in : (q : Part) (qs : List Part) → In (last_part (q ∷ qs)) (q ∷ qs)
last_in q [] = inl refl
last_in q (next ∷ rest) = inr (last_in next rest)

pub last_is_part : (b : CodeBlock) → In (last_part (parts b)) (parts b)
last_is_part b =
    let h = shape (patched_words b) in
    let P : List (List PatchedWord) → Type 0 = λ l. In (last_part (parts_from 0 l)) (parts_from 0 l) in
    subst P (sym h.both) (last_in (part 0 h.first) (parts_from (0 + 4 * length h.first) h.rest))

-- ---- how deep a word stands in a part

one_own : (a b : ℕ) (x : Origin) → is_own a x ≡ true → is_own b x ≡ true → a ≡ b
one_own a b (Own at) h k = eqb-true a at h ∙ sym (eqb-true b at k)
one_own a b (Inserted n) h k = absurd (false≢true h)

here_or_later : (b : Bool) (o : Option ℕ) (d : ℕ) → (if b then Some 0 else option_map (λ k. k + 4) o) ≡ Some d → ((b ≡ true) × (d ≡ 0)) ⊎ ((k : ℕ) × (o ≡ Some k) × (d ≡ k + 4))
here_or_later true o d e = inl (refl, sym (same_Some 0 d e))
here_or_later false None d e = absurd (none-some d e)
here_or_later false (Some k) d e = inr (k, refl, sym (same_Some (k + 4) d e))

pub depth_of_one : (a b d : ℕ) (ws : List PatchedWord) → depth_of a ws ≡ Some d → depth_of b ws ≡ Some d → a ≡ b
depth_of_one a b d [] h k = absurd (none-some d h)
depth_of_one a b d (w ∷ ws) h k = at (λ n. depth_of_one a b n ws) (here_or_later (is_own a w.origin) (depth_of a ws) d h) (here_or_later (is_own b w.origin) (depth_of b ws) d k)
  where
    at : ((n : ℕ) → depth_of a ws ≡ Some n → depth_of b ws ≡ Some n → a ≡ b) → ((is_own a w.origin ≡ true) × (d ≡ 0)) ⊎ ((n : ℕ) × (depth_of a ws ≡ Some n) × (d ≡ n + 4)) → ((is_own b w.origin ≡ true) × (d ≡ 0)) ⊎ ((n : ℕ) × (depth_of b ws ≡ Some n) × (d ≡ n + 4)) → a ≡ b
    at rest (inl x) (inl y) = one_own a b w.origin x.0 y.0
    at rest (inl x) (inr y) = absurd (let e = x.1 in let f = y.2 in omega (arith, e, f))
    at rest (inr x) (inl y) = absurd (let e = x.2 in let f = y.1 in omega (arith, e, f))
    at rest (inr x) (inr y) =
        let same : y.0 ≡ x.0 = (let e = x.2 in let f = y.2 in omega (arith, e, f)) in
        rest x.0 x.1 (y.1 ∙ ap (λ n. Some n) same)

pub depth_whole : (a d : ℕ) (ws : List PatchedWord) → depth_of a ws ≡ Some d → (d % 4 ≡ 0) × (d + 4 ≤ 4 * length ws)
depth_whole a d [] h = absurd (none-some d h)
depth_whole a d (w ∷ ws) h = at (λ n. depth_whole a n ws) (here_or_later (is_own a w.origin) (depth_of a ws) d h)
  where
    at : ((n : ℕ) → depth_of a ws ≡ Some n → (n % 4 ≡ 0) × (n + 4 ≤ 4 * length ws)) → ((is_own a w.origin ≡ true) × (d ≡ 0)) ⊎ ((n : ℕ) × (depth_of a ws ≡ Some n) × (d ≡ n + 4)) → (d % 4 ≡ 0) × (d + 4 ≤ 4 * length (w ∷ ws))
    at more (inl x) = let e = x.1 in (omega (arith, e), omega (arith, e))
    at more (inr x) = let rest = more x.0 x.1 in let e = x.2 in (omega (arith, e, rest.0), omega (arith, e, rest.1))

-- a word of its own is among them
abbrev has : ℕ → List PatchedWord → Bool
has o ws = list_any (λ (w : PatchedWord). is_own o w.origin) ws

either_depth : (b c : Bool) (o : Option ℕ) → (b || c) ≡ true → (c ≡ true → (d : ℕ) × (o ≡ Some d)) → (d : ℕ) × ((if b then Some 0 else option_map (λ k. k + 4) o) ≡ Some d)
either_depth true c o h f = (0, refl)
either_depth false c o h f = let rest = f h in (rest.0 + 4, ap (option_map (λ k. k + 4)) rest.1)

depth_some : (o : ℕ) (ws : List PatchedWord) → has o ws ≡ true → (d : ℕ) × (depth_of o ws ≡ Some d)
depth_some o [] h = absurd (false≢true h)
depth_some o (w ∷ ws) h = either_depth (is_own o w.origin) (has o ws) (depth_of o ws) h (depth_some o ws)

place_here : (m : Module) (block : List ℕ) (o behind : ℕ) (q : Part) (rest : Option Place) → has o q.words ≡ true → (to : Place) × (option_or (place_in m block o behind q) rest ≡ Some to)
place_here m block o behind q rest h =
    let d = depth_some o q.words h in
    (record { id = part_id m block q; offset = d.0 + behind }, ap (λ (x : Option ℕ). option_or (option_map (λ depth. record { id = part_id m block q; offset = depth + behind }) x) rest) d.1)

place_next : (first rest : Option Place) → ((to : Place) × (rest ≡ Some to)) → (to : Place) × (option_or first rest ≡ Some to)
place_next None rest h = h
place_next (Some at) rest h = (at, refl)

place_some : (m : Module) (block : List ℕ) (o behind : ℕ) (qs : List Part) → has o (flat_map (λ (q : Part). q.words) qs) ≡ true → (to : Place) × (place_among m block o behind qs ≡ Some to)
place_some m block o behind [] h = absurd (false≢true h)
place_some m block o behind (q ∷ qs) h = at (place_some m block o behind qs) (has o q.words) refl (sym (list_any-append (λ (w : PatchedWord). is_own o w.origin) q.words (flat_map (λ (r : Part). r.words) qs)) ∙ h)
  where
    at : (has o (flat_map (λ (r : Part). r.words) qs) ≡ true → (to : Place) × (place_among m block o behind qs ≡ Some to)) → (b : Bool) → has o q.words ≡ b → (b || has o (flat_map (λ (r : Part). r.words) qs)) ≡ true → (to : Place) × (place_among m block o behind (q ∷ qs) ≡ Some to)
    at rest true e k = place_here m block o behind q (place_among m block o behind qs) e
    at rest false e k = place_next (place_in m block o behind q) (place_among m block o behind qs) (rest k)

own_there : (news : List (ℕ × PatchedWord)) (from k o : ℕ) (ws : List Word) → o ≡ from + 4 * k → k < length ws → has o (words_from news from ws) ≡ true
own_there news from k o [] e l = absurd (omega (arith, l))
own_there news from zero o (w ∷ ws) e l =
    let here : is_own o (own from w).origin ≡ true = eq-eqb o from (omega (arith, e)) in
    list_any-append (λ (v : PatchedWord). is_own o v.origin) (inserted_at from news) (own from w ∷ words_from news (from + 4) ws)
    ∙ or_right (has o (inserted_at from news)) (has o (own from w ∷ words_from news (from + 4) ws)) (or_left (is_own o (own from w).origin) (has o (words_from news (from + 4) ws)) here)
own_there news from (suc k) o (w ∷ ws) e l =
    let rest = own_there news (from + 4) k o ws (omega (arith, e)) (omega (arith, l)) in
    list_any-append (λ (v : PatchedWord). is_own o v.origin) (inserted_at from news) (own from w ∷ words_from news (from + 4) ws)
    ∙ or_right (has o (inserted_at from news)) (has o (own from w ∷ words_from news (from + 4) ws)) (or_right (is_own o (own from w).origin) (has o (words_from news (from + 4) ws)) rest)

-- ---- where a place in a block goes

-- to a word of a part, or to the end of the last
pub record GoesTo (m : Module) (b : CodeBlock) (offset : ℕ) (to : Place) : Type 0 where
  pub part : Part
  pub among : In part (parts b)
  pub id : to.id ≡ part_id m b.id part
  pub spot : ((d : ℕ) × (depth_of (offset - offset % 4) part.words ≡ Some d) × (to.offset ≡ d + offset % 4)) ⊎ ((part ≡ last_part (parts b)) × (to.offset ≡ part_size part) × (offset ≡ code_size b))

either_place : (m : Module) (block : List ℕ) (o behind : ℕ) (q : Part) (found : Option ℕ) (rest : Option Place) (to : Place)
    → option_or (option_map (λ depth. let at : Place = record { id = part_id m block q; offset = depth + behind } in at) found) rest ≡ Some to
    → ((d : ℕ) × (found ≡ Some d) × (to ≡ record { id = part_id m block q; offset = d + behind })) ⊎ (rest ≡ Some to)
either_place m block o behind q None rest to e = inr e
either_place m block o behind q (Some d) rest to e = inl (d, refl, sym (same_Some (record { id = part_id m block q; offset = d + behind }) to e))

abbrev Held : Module → List ℕ → ℕ → ℕ → List Part → Place → Type 0
Held m block o behind qs to = (q : Part) × In q qs × ((d : ℕ) × (depth_of o q.words ≡ Some d) × (to ≡ record { id = part_id m block q; offset = d + behind }))

place_held : (m : Module) (block : List ℕ) (o behind : ℕ) (qs : List Part) (to : Place) → place_among m block o behind qs ≡ Some to → Held m block o behind qs to
place_held m block o behind [] to e = absurd (none-some to e)
place_held m block o behind (q ∷ qs) to e = at (place_held m block o behind qs to) (either_place m block o behind q (depth_of o q.words) (place_among m block o behind qs) to e)
  where
    at : (place_among m block o behind qs ≡ Some to → Held m block o behind qs to) → ((d : ℕ) × (depth_of o q.words ≡ Some d) × (to ≡ record { id = part_id m block q; offset = d + behind })) ⊎ (place_among m block o behind qs ≡ Some to) → Held m block o behind (q ∷ qs) to
    at more (inl h) = (q, inl refl, h)
    at more (inr h) = let rest = more h in (rest.0, inr rest.1, rest.2)

-- parts have all words of their block
abbrev pub HaveWords : Type 0
HaveWords = (b : CodeBlock) → flat_map (λ (q : Part). q.words) (parts b) ≡ patched_words b

held_goes : (m : Module) (b : CodeBlock) (offset : ℕ) (to : Place) → Held m b.id (offset - offset % 4) (offset % 4) (parts b) to → GoesTo m b offset to
held_goes m b offset to h = record {
  part = h.0;
  among = h.1;
  id = ap (λ (x : Place). x.id) h.2.2;
  spot = inl (h.2.0, h.2.1, ap (λ (x : Place). x.offset) h.2.2);
}

word_goes : HaveWords → (m : Module) (b : CodeBlock) (offset : ℕ) → offset < code_size b → (to : Place) × (place_among m b.id (offset - offset % 4) (offset % 4) (parts b) ≡ Some to) × GoesTo m b offset to
word_goes whole m b offset l =
    let there = own_there (numbered 0 b.inserted) 0 (offset / 4) (offset - offset % 4) b.own (omega arith) (omega (arith, l)) in
    let to = place_some m b.id (offset - offset % 4) (offset % 4) (parts b) (ap (has (offset - offset % 4)) (whole b) ∙ there) in
    (to.0, to.1, held_goes m b offset to.0 (place_held m b.id (offset - offset % 4) (offset % 4) (parts b) to.0 to.1))

end_goes : (m : Module) (b : CodeBlock) (offset : ℕ) → offset ≡ code_size b → GoesTo m b offset (end_place m b)
end_goes m b offset e = record { part = last_part (parts b); among = last_is_part b; id = refl; spot = inr (refl, refl, e) }

pub code_goes : HaveWords → (m : Module) (b : CodeBlock) (offset : ℕ) → offset ≤ code_size b → (to : Place) × (code_place m b offset ≡ Some to) × GoesTo m b offset to
code_goes whole m b offset l = at (offset == code_size b) refl
  where
    at : (x : Bool) → (offset == code_size b) ≡ x → (to : Place) × (code_place m b offset ≡ Some to) × GoesTo m b offset to
    at true e = (end_place m b, ap (λ y. if y then Some (end_place m b) else place_among m b.id (offset - offset % 4) (offset % 4) (parts b)) e, end_goes m b offset (eqb-true offset (code_size b) e))
    at false e =
        let h = word_goes whole m b offset (below (cases_lt offset (code_size b))) in
        (h.0, ap (λ y. if y then Some (end_place m b) else place_among m b.id (offset - offset % 4) (offset % 4) (parts b)) e ∙ h.1, h.2)
      where
        below : (offset < code_size b) ⊎ (code_size b ≤ offset) → offset < code_size b
        below (inl lt) = lt
        below (inr le) = absurd (false≢true (sym e ∙ eq-eqb offset (code_size b) (omega (arith, l, le))))

-- ---- two places in a block

same_spot : (m : Module) (b : CodeBlock) (a c : ℕ) (to : Place) (h : GoesTo m b a to) (k : GoesTo m b c to) → h.part ≡ k.part → a ≡ c
same_spot m b a c to h k same = at h.spot k.spot
  where
    at : ((d : ℕ) × (depth_of (a - a % 4) h.part.words ≡ Some d) × (to.offset ≡ d + a % 4)) ⊎ ((h.part ≡ last_part (parts b)) × (to.offset ≡ part_size h.part) × (a ≡ code_size b))
        → ((d : ℕ) × (depth_of (c - c % 4) k.part.words ≡ Some d) × (to.offset ≡ d + c % 4)) ⊎ ((k.part ≡ last_part (parts b)) × (to.offset ≡ part_size k.part) × (c ≡ code_size b)) → a ≡ c
    at (inl x) (inl y) =
        let whole_x = depth_whole (a - a % 4) x.0 h.part.words x.1 in
        let whole_y = depth_whole (c - c % 4) y.0 k.part.words y.1 in
        let e = x.2 in
        let f = y.2 in
        let depths : y.0 ≡ x.0 = omega (arith, whole_x.0, whole_y.0, e, f) in
        let behind : a % 4 ≡ c % 4 = omega (arith, whole_x.0, whole_y.0, e, f) in
        let there : depth_of (c - c % 4) h.part.words ≡ Some x.0 = ap (λ (q : Part). depth_of (c - c % 4) q.words) same ∙ (y.1 ∙ ap (λ n. Some n) depths) in
        let words = depth_of_one (a - a % 4) (c - c % 4) x.0 h.part.words x.1 there in
        omega (arith, behind, words)
    at (inl x) (inr y) =
        let whole = depth_whole (a - a % 4) x.0 h.part.words x.1 in
        let e = x.2 in
        let f = y.1 in
        let sizes : part_size h.part ≡ part_size k.part = ap part_size same in
        absurd (omega (arith, whole.0, whole.1, e, f, sizes))
    at (inr x) (inl y) =
        let whole = depth_whole (c - c % 4) y.0 k.part.words y.1 in
        let e = x.1 in
        let f = y.2 in
        let sizes : part_size h.part ≡ part_size k.part = ap part_size same in
        absurd (omega (arith, whole.0, whole.1, e, f, sizes))
    at (inr x) (inr y) = x.2 ∙ sym y.2

pub one_spot : (m : Module) (b : CodeBlock) (a c : ℕ) (to : Place) → Apart (map (part_id m b.id) (parts b)) → GoesTo m b a to → GoesTo m b c to → a ≡ c
one_spot m b a c to apart h k = same_spot m b a c to h k (one_of_key (part_id m b.id) h.part k.part (parts b) apart h.among k.among (sym h.id ∙ k.id))
