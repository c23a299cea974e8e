-- The meaning of one more record: the draft of the whole list is a step from that of the list before.
use Rattle.std.proofs.Common.{◌≡◌, ℕ, Bool, true, false, cond, eqb, leb, List, [], ◌∷◌, ◌++◌, map, Option, Some, None, refl, ap, ◌∙◌}
use Rattle.std.specs.Prelude.{unwrap_or}
use Rattle.std.specs.declared.cmp.Ordering.{Ordering}
use Rattle.std.specs.declared.cmp.Ordering.TheVariants.{Less, Equal, Greater}
use Rattle.std.specs.Ordering.{match_ordering}
use Rattle.std.specs.BTreeMap.{insert_entry}
use Rattle.std.specs.List.{filter, filter_map, flat_map, fold}
use Rattle.std.specs.Option.{option_map}
use Rattle.std.proofs.lemmas.List.{append-nil, map-append}
use Rattle.std.proofs.lemmas.List.Sums.{fold-append}
use Rattle.std.proofs.lemmas.List.Concat.{flat_map-append}
use Rattle.gt_model.specs.Schema.{Kind, Key, key_kind, Row, field, repeated, message, messages, member, member_message, entries, Rows, none, ◌&◌}
use Rattle.gt_model.specs.Values.{Fields, Plain}
use Rattle.gt_read.specs.declared.ids.IdFault.{IdFault}
use Rattle.gt_read.specs.Pieces.{Piece, pieces}
use Rattle.gt_read.specs.Kinds.{Read, value_of, values_of, absent, of_number, Run, run_of}
use Rattle.gt_read.specs.Meaning.{last, last_value, joined, joined_message, alone, meaning, field_meaning, key_cmp, is_member, trailing, map_of, entry_of}
use Rattle.gt_read.specs.Identifiers.{plain_bad, plain_of, bad, earlier, least}
use Rattle.gt_read.proofs.Lists.{filter-push, push_option, filter_map-push, or_new, last-push_option, trailing-push, fold-over}
use Rattle.gt_read.proofs.Least.{least-append}
use Rattle.gt_read.specs.Drafts.Draft.{drafted_plain, done, drafted_field, drafted, finished, lean, kept, entered, added, added_all, entered_map, step_field, step}

-- ---- a plain field

kept_last : {A B : Type 0} (f : A → B) (start : A) (old new : Option A) → f (unwrap_or (or_new old new) start) ≡ kept f (f (unwrap_or old start)) new
kept_last f start old None = refl
kept_last f start old (Some v) = refl

plain_step : {A B : Type 0} (f : A → B) (read : Piece → Option A) (start : A) (b : Bool) (xs : List Piece) (p : Piece)
    → f (unwrap_or (last (filter_map read (cond b (xs ++ p ∷ []) xs))) start) ≡ cond b (kept f (f (unwrap_or (last (filter_map read xs)) start)) (read p)) (f (unwrap_or (last (filter_map read xs)) start))
plain_step f read start false xs p = refl
plain_step f read start true xs p =
    ap (λ l. f (unwrap_or (last l) start)) (filter_map-push read xs p)
    ∙ ap (λ o. f (unwrap_or o start)) (last-push_option (filter_map read xs) (read p))
    ∙ kept_last f start (last (filter_map read xs)) (read p)

-- ---- a member of a oneof

kept_member : {A B : Type 0} (f : A → B) (old new : Option A) → option_map f (or_new old new) ≡ kept (λ v. Some (f v)) (option_map f old) new
kept_member f old None = refl
kept_member f old (Some v) = refl

member_step : {A B : Type 0} (f : A → B) (read : Piece → Option A) (test : Piece → Bool) (a : Bool) (xs : List Piece) (p : Piece)
    → option_map f (last (filter_map read (trailing test (cond a (xs ++ p ∷ []) xs))))
    ≡ cond a (cond (test p) (kept (λ v. Some (f v)) (option_map f (last (filter_map read (trailing test xs)))) (read p)) None) (option_map f (last (filter_map read (trailing test xs))))
member_step f read test false xs p = refl
member_step f read test true xs p = ap (λ t. option_map f (last (filter_map read t))) (trailing-push test xs p) ∙ by (test p)
  where
    by : (b : Bool) → option_map f (last (filter_map read (cond b (trailing test xs ++ p ∷ []) []))) ≡ cond b (kept (λ v. Some (f v)) (option_map f (last (filter_map read (trailing test xs)))) (read p)) None
    by false = refl
    by true =
        ap (λ l. option_map f (last l)) (filter_map-push read (trailing test xs) p)
        ∙ ap (option_map f) (last-push_option (filter_map read (trailing test xs)) (read p))
        ∙ kept_member f (last (filter_map read (trailing test xs))) (read p)

-- ---- a repeated plain field

-- what is kept of values and of more behind them
lean-append : {A : Type 0} (xs ys : List A) (a b : Option IdFault) → lean (xs ++ ys) (earlier a b) ≡ lean ((lean xs a).0 ++ ys) (earlier (lean xs a).1 b)
lean-append xs ys None b = refl
lean-append xs ys (Some f) None = refl
lean-append {A} xs ys (Some f) (Some g) = by (leb f.place g.place)
  where
    by : (t : Bool) → lean (xs ++ ys) (cond t (Some f) (Some g)) ≡ lean ys (cond t (Some f) (Some g))
    by true = refl
    by false = refl

added_all-step : (k : Kind) (vs ws : List (Read k)) → lean (map (plain_of k) (vs ++ ws)) (least (flat_map (plain_bad k) (vs ++ ws))) ≡ added_all k (lean (map (plain_of k) vs) (least (flat_map (plain_bad k) vs))) ws
added_all-step k vs [] = ap (λ (l : List (Read k)). lean (map (plain_of k) l) (least (flat_map (plain_bad k) l))) (append-nil vs)
added_all-step k vs (w ∷ ws) =
    let all = w ∷ ws in
    ap (λ (l : List (Plain k)). lean l (least (flat_map (plain_bad k) (vs ++ all)))) (map-append (plain_of k) vs all)
    ∙ ap (λ (o : Option IdFault). lean (map (plain_of k) vs ++ map (plain_of k) all) o) (ap least (flat_map-append (plain_bad k) vs all) ∙ least-append (flat_map (plain_bad k) vs) (flat_map (plain_bad k) all))
    ∙ lean-append (map (plain_of k) vs) (map (plain_of k) all) (least (flat_map (plain_bad k) vs)) (least (flat_map (plain_bad k) all))

repeated_step : (k : Kind) (b : Bool) (xs : List Piece) (p : Piece)
    → lean (map (plain_of k) (flat_map (values_of k) (cond b (xs ++ p ∷ []) xs))) (least (flat_map (plain_bad k) (flat_map (values_of k) (cond b (xs ++ p ∷ []) xs))))
    ≡ cond b (added_all k (lean (map (plain_of k) (flat_map (values_of k) xs)) (least (flat_map (plain_bad k) (flat_map (values_of k) xs)))) (values_of k p)) (lean (map (plain_of k) (flat_map (values_of k) xs)) (least (flat_map (plain_bad k) (flat_map (values_of k) xs))))
repeated_step k false xs p = refl
repeated_step k true xs p =
    ap (λ (vs : List (Read k)). lean (map (plain_of k) vs) (least (flat_map (plain_bad k) vs))) (flat_map-append (values_of k) xs (p ∷ []) ∙ ap (λ (ws : List (Read k)). flat_map (values_of k) xs ++ ws) (append-nil (values_of k p)))
    ∙ added_all-step k (flat_map (values_of k) xs) (values_of k p)

-- ---- messages

inner : Run → List Piece
inner r = pieces r.bytes r.start

joined-push : {A D : Type 0} (M : ℕ → List Piece → A) (view : A → D) (next : D → Piece → D) → ((first : ℕ) (ps : List Piece) (p : Piece) → view (M first (ps ++ p ∷ [])) ≡ next (view (M first ps)) p)
    → (rs : List Run) (o : Option Run) → option_map view (joined M (push_option rs o)) ≡ entered (λ place. view (M place [])) next (option_map view (joined M rs)) o
joined-push M view next law rs None = refl
joined-push {D = D} M view next law [] (Some r) =
    let new = pieces r.bytes r.start in
    ap (λ (d : D). Some d) (ap (λ ps. view (M r.place ps)) (append-nil new) ∙ fold-over (λ ps. view (M r.place ps)) next (law r.place) [] new)
joined-push {D = D} M view next law (q ∷ qs) (Some r) =
    let new = pieces r.bytes r.start in
    let old = flat_map (λ (s : Run). pieces s.bytes s.start) (q ∷ qs) in
    ap (λ (d : D). Some d) (
    ap (λ ps. view (M q.place ps)) (flat_map-append (λ (s : Run). pieces s.bytes s.start) (q ∷ qs) (r ∷ []) ∙ ap (λ (ps : List Piece). old ++ ps) (append-nil new))
    ∙ fold-over (λ ps. view (M q.place ps)) next (law q.place) old new)

message_step : {A D : Type 0} (M : ℕ → List Piece → A) (view : A → D) (next : D → Piece → D) → ((first : ℕ) (ps : List Piece) (p : Piece) → view (M first (ps ++ p ∷ [])) ≡ next (view (M first ps)) p)
    → (b : Bool) (xs : List Piece) (p : Piece) → option_map view (joined_message M (cond b (xs ++ p ∷ []) xs))
    ≡ cond b (entered (λ place. view (M place [])) next (option_map view (joined_message M xs)) (run_of p)) (option_map view (joined_message M xs))
message_step M view next law false xs p = refl
message_step M view next law true xs p = ap (λ rs. option_map view (joined M rs)) (filter_map-push run_of xs p) ∙ joined-push M view next law (filter_map run_of xs) (run_of p)

member_message_step : {A D : Type 0} (M : ℕ → List Piece → A) (view : A → D) (next : D → Piece → D) → ((first : ℕ) (ps : List Piece) (p : Piece) → view (M first (ps ++ p ∷ [])) ≡ next (view (M first ps)) p)
    → (test : Piece → Bool) (a : Bool) (xs : List Piece) (p : Piece) → option_map view (joined_message M (trailing test (cond a (xs ++ p ∷ []) xs)))
    ≡ cond a (cond (test p) (entered (λ place. view (M place [])) next (option_map view (joined_message M (trailing test xs))) (run_of p)) None) (option_map view (joined_message M (trailing test xs)))
member_message_step M view next law test false xs p = refl
member_message_step M view next law test true xs p = ap (λ t. option_map view (joined_message M t)) (trailing-push test xs p) ∙ by (test p)
  where
    by : (b : Bool) → option_map view (joined_message M (cond b (trailing test xs ++ p ∷ []) [])) ≡ cond b (entered (λ place. view (M place [])) next (option_map view (joined_message M (trailing test xs))) (run_of p)) None
    by false = refl
    by true = message_step M view next law true (trailing test xs) p

-- ---- repeated messages

added_step : {A B C : Type 0} (M : A → B) (f : B → C) (g : B → List IdFault) (rs : List A) (o : Option A)
    → lean (map f (map M (push_option rs o))) (least (flat_map g (map M (push_option rs o)))) ≡ added (lean (map f (map M rs)) (least (flat_map g (map M rs)))) (option_map (λ r. (f (M r), least (g (M r)))) o)
added_step M f g rs None = refl
added_step {B = B} {C = C} M f g rs (Some r) =
    ap (λ (ws : List B). lean (map f ws) (least (flat_map g ws))) (map-append M rs (r ∷ []))
    ∙ ap (λ (cs : List C). lean cs (least (flat_map g (map M rs ++ M r ∷ [])))) (map-append f (map M rs) (M r ∷ []))
    ∙ ap (λ (o : Option IdFault). lean (map f (map M rs) ++ f (M r) ∷ []) o) (ap least (flat_map-append g (map M rs) (M r ∷ []) ∙ ap (λ (fs : List IdFault). flat_map g (map M rs) ++ fs) (append-nil (g (M r)))) ∙ least-append (flat_map g (map M rs)) (g (M r)))
    ∙ lean-append (map f (map M rs)) (f (M r) ∷ []) (least (flat_map g (map M rs))) (least (g (M r)))

messages_step : {A B C : Type 0} (read : Piece → Option A) (M : A → B) (f : B → C) (g : B → List IdFault) (b : Bool) (xs : List Piece) (p : Piece)
    → lean (map f (map M (filter_map read (cond b (xs ++ p ∷ []) xs)))) (least (flat_map g (map M (filter_map read (cond b (xs ++ p ∷ []) xs)))))
    ≡ cond b (added (lean (map f (map M (filter_map read xs))) (least (flat_map g (map M (filter_map read xs))))) (option_map (λ r. (f (M r), least (g (M r)))) (read p))) (lean (map f (map M (filter_map read xs))) (least (flat_map g (map M (filter_map read xs)))))
messages_step read M f g false xs p = refl
messages_step {A = A} read M f g true xs p =
    ap (λ (rs : List A). lean (map f (map M rs)) (least (flat_map g (map M rs)))) (filter_map-push read xs p) ∙ added_step M f g (filter_map read xs) (read p)

-- ---- maps

pub insert-map : {K V W : Type 0} (cmp : K → K → Ordering) (f : V → W) (m : List (K × V)) (k : K) (v : V)
    → map (λ (e : K × V). (e.0, f e.1)) (insert_entry cmp m k v) ≡ insert_entry cmp (map (λ (e : K × V). (e.0, f e.1)) m) k (f v)
insert-map cmp f [] k v = refl
insert-map {K = K} {V = V} {W = W} cmp f (e ∷ es) k v = by (cmp k e.0) (insert-map cmp f es k v)
  where
    by : (o : Ordering) → map (λ (e : K × V). (e.0, f e.1)) (insert_entry cmp es k v) ≡ insert_entry cmp (map (λ (e : K × V). (e.0, f e.1)) es) k (f v)
        → map (λ (e : K × V). (e.0, f e.1)) (match_ordering o ((k, v) ∷ e ∷ es) ((e.0, v) ∷ es) (e ∷ insert_entry cmp es k v))
        ≡ match_ordering o ((k, f v) ∷ (e.0, f e.1) ∷ map (λ (e : K × V). (e.0, f e.1)) es) ((e.0, f v) ∷ map (λ (e : K × V). (e.0, f e.1)) es) ((e.0, f e.1) ∷ insert_entry cmp (map (λ (e : K × V). (e.0, f e.1)) es) k (f v))
    by Less h = refl
    by Equal h = refl
    by Greater h = ap (λ (r : List (K × W)). (e.0, f e.1) ∷ r) h

map_of-push : {K V : Type 0} (cmp : K → K → Ordering) (es : List (K × V)) (e : K × V) → map_of cmp (es ++ e ∷ []) ≡ insert_entry cmp (map_of cmp es) e.0 e.1
map_of-push cmp es e = fold-append (λ m e. insert_entry cmp m e.0 e.1) [] es (e ∷ [])

entries_push : (k : Key) (rows : Rows) (rs : List Run) (o : Option Run)
    → map (λ (e : Read (key_kind k) × Fields Read rows). (e.0, done rows e.1)) (map_of (key_cmp k) (map (entry_of k (λ place qs. meaning rows place qs)) (push_option rs o)))
    ≡ entered_map k rows (map (λ (e : Read (key_kind k) × Fields Read rows). (e.0, done rows e.1)) (map_of (key_cmp k) (map (entry_of k (λ place qs. meaning rows place qs)) rs))) o
entries_push k rows rs None = refl
entries_push k rows rs (Some r) =
    let M = entry_of k (λ place qs. meaning rows place qs) in
    let view : Read (key_kind k) × Fields Read rows → Read (key_kind k) × (Fields Plain rows × Option IdFault) = λ e. (e.0, done rows e.1) in
    ap (λ (es : List (Read (key_kind k) × Fields Read rows)). map view (map_of (key_cmp k) es)) (map-append M rs (r ∷ []))
    ∙ ap (map view) (map_of-push (key_cmp k) (map M rs) (M r))
    ∙ insert-map (key_cmp k) (done rows) (map_of (key_cmp k) (map M rs)) (M r).0 (M r).1

entries_step : (k : Key) (rows : Rows) (b : Bool) (xs : List Piece) (p : Piece)
    → map (λ (e : Read (key_kind k) × Fields Read rows). (e.0, done rows e.1)) (map_of (key_cmp k) (map (entry_of k (λ place qs. meaning rows place qs)) (filter_map run_of (cond b (xs ++ p ∷ []) xs))))
    ≡ cond b (entered_map k rows (map (λ (e : Read (key_kind k) × Fields Read rows). (e.0, done rows e.1)) (map_of (key_cmp k) (map (entry_of k (λ place qs. meaning rows place qs)) (filter_map run_of xs)))) (run_of p))
    (map (λ (e : Read (key_kind k) × Fields Read rows). (e.0, done rows e.1)) (map_of (key_cmp k) (map (entry_of k (λ place qs. meaning rows place qs)) (filter_map run_of xs))))
entries_step k rows false xs p = refl
entries_step k rows true xs p =
    ap (λ (rs : List Run). map (λ (e : Read (key_kind k) × Fields Read rows). (e.0, done rows e.1)) (map_of (key_cmp k) (map (entry_of k (λ place qs. meaning rows place qs)) rs))) (filter_map-push run_of xs p)
    ∙ entries_push k rows (filter_map run_of xs) (run_of p)

-- ---- every field

abbrev is_of : ℕ → Piece → Bool
is_of number p = eqb p.number number

mutual
  unfolding drafted step meaning

  pub stepped_field : (row : Row) (first : ℕ) (ps : List Piece) (p : Piece) → drafted_field row (field_meaning row first (ps ++ p ∷ [])) ≡ step_field row (drafted_field row (field_meaning row first ps)) p
  stepped_field (field number k) first ps p =
      ap (λ xs. drafted_plain k (unwrap_or (last_value k xs) (absent k first))) (filter-push (is_of number) ps p)
      ∙ plain_step (drafted_plain k) (value_of k) (absent k first) (is_of number p) (of_number number ps) p
  stepped_field (repeated number k) first ps p =
      ap (λ xs. drafted_field (repeated number k) (flat_map (values_of k) xs)) (filter-push (is_of number) ps p)
      ∙ repeated_step k (is_of number p) (of_number number ps) p
  stepped_field (message number rows) first ps p =
      ap (λ xs. drafted_field (message number rows) (joined_message (λ place qs. meaning rows place qs) xs)) (filter-push (is_of number) ps p)
      ∙ message_step (λ place qs. meaning rows place qs) (λ w. drafted rows w) (λ e q. step rows e q) (λ place qs q. stepped rows place qs q) (is_of number p) (of_number number ps) p
  stepped_field (messages number rows) first ps p =
      ap (λ xs. drafted_field (messages number rows) (map (alone (λ place qs. meaning rows place qs)) (filter_map run_of xs))) (filter-push (is_of number) ps p)
      ∙ messages_step run_of (alone (λ place qs. meaning rows place qs)) (λ w. finished rows (drafted rows w)) (λ w. bad rows w) (is_of number p) (of_number number ps) p
  stepped_field (member members number k) first ps p =
      ap (λ xs. drafted_field (member members number k) (last_value k (trailing (is_of number) xs))) (filter-push (is_member members) ps p)
      ∙ member_step (drafted_plain k) (value_of k) (is_of number) (is_member members p) (filter (is_member members) ps) p
  stepped_field (member_message members number rows) first ps p =
      ap (λ xs. drafted_field (member_message members number rows) (joined_message (λ place qs. meaning rows place qs) (trailing (is_of number) xs))) (filter-push (is_member members) ps p)
      ∙ member_message_step (λ place qs. meaning rows place qs) (λ w. drafted rows w) (λ e q. step rows e q) (λ place qs q. stepped rows place qs q) (is_of number) (is_member members p) (filter (is_member members) ps) p
  stepped_field (entries number k rows) first ps p =
      ap (λ xs. drafted_field (entries number k rows) (map_of (key_cmp k) (map (entry_of k (λ place qs. meaning rows place qs)) (filter_map run_of xs)))) (filter-push (is_of number) ps p)
      ∙ entries_step k rows (is_of number p) (of_number number ps) p

  pub stepped : (rows : Rows) (first : ℕ) (ps : List Piece) (p : Piece) → drafted rows (meaning rows first (ps ++ p ∷ [])) ≡ step rows (drafted rows (meaning rows first ps)) p
  stepped none first ps p = refl
  stepped (row & rows) first ps p = λ i. (stepped_field row first ps p i, stepped rows first ps p i)

-- many records
pub stepped_all : (rows : Rows) (first : ℕ) (ps qs : List Piece) → drafted rows (meaning rows first (ps ++ qs)) ≡ fold (step rows) (drafted rows (meaning rows first ps)) qs
stepped_all rows first ps qs = fold-over (λ xs. drafted rows (meaning rows first xs)) (step rows) (stepped rows first) ps qs
