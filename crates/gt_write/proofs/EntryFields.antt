-- Maps read back, by what is so of the messages in their entries.
use Rattle.std.proofs.Common.{◌≡◌, ℕ, ◌+◌, List, [], ◌∷◌, ◌++◌, map, length, Some, refl, sym, ap, subst, ◌∙◌, arith}
use Rattle.std.specs.Prelude.{unwrap_or}
use Rattle.std.specs.declared.cmp.Ordering.{Ordering}
use Rattle.std.specs.Ordering.{nat_cmp}
use Rattle.std.specs.Cmp.Lexicographic.{slice_cmp}
use Rattle.std.specs.List.{AllByRecursion, flat_map, filter_map}
use Rattle.std.specs.List.Sorted.{IsStrictlySortedBy}
use Rattle.std.proofs.lemmas.Cmp.{nat_cmp_total, nat_list_cmp_total}
use Rattle.gt_model.specs.Schema.{Key, TextKey, NumberKey, key_kind, Rows, entries}
use Rattle.gt_model.specs.Values.{Fields, Plain}
use Rattle.gt_read.specs.declared.fault.FormatFault.{FormatFault}
use Rattle.gt_read.specs.Pieces.{Piece, pieces, Walk}
use Rattle.gt_read.specs.Kinds.{Read, Run, run_of, of_number, absent}
use Rattle.gt_read.specs.Meaning.{meaning, joined_message, last_value, key_cmp, map_of, entry_of}
use Rattle.gt_read.specs.Identifiers.{plain, plain_of, bad}
use Rattle.gt_read.specs.Faults.{field_faults, piece_faults, message_faults, broken_faults, entry_faults, in_run}
use Rattle.gt_write.specs.Spelling.{spelling, plain_record, run_record}
use Rattle.gt_write.specs.Lengths.{LengthFits, plain_length}
use Rattle.gt_write.proofs.ReadingLaws.{ReadingLaws}
use Rattle.gt_write.proofs.Walking.{Walks, walks_append, walked, run_piece, run_start, run_walks}
use Rattle.gt_write.proofs.KindsBack.{Fits, IsNumber, PlainBack, plain_back}
use Rattle.gt_write.proofs.Sorted.{map_kept}
use Rattle.gt_write.proofs.Each.{Pairs, OneBack, each_back, all_of_number, pairs_weaker, pairs_read, pairs_mapped, pairs_map, pairs_none, pairs_all}
use Rattle.gt_write.proofs.Backs.{FieldBack, MessageBack, at_own}
use Rattle.gt_write.proofs.PlainFields.{last_one}
use Rattle.gt_write.proofs.MessageFields.{RunBack, run_back, run_walks_back, joined_one}

-- the order of keys that are written
abbrev pub plain_cmp : (k : Key) → Plain (key_kind k) → Plain (key_kind k) → Ordering
plain_cmp TextKey = slice_cmp nat_cmp
plain_cmp NumberKey = nat_cmp

same_keys : {K A B : Type 0} (xs : List (K × A)) (ys : List (K × B)) → Pairs (λ x y. y.0 ≡ x.0) xs ys → map (λ (y : K × B). y.0) ys ≡ map (λ (x : K × A). x.0) xs
same_keys [] [] h = refl
same_keys [] (y ∷ ys) h = absurd h
same_keys (x ∷ xs) [] h = absurd h
same_keys (x ∷ xs) (y ∷ ys) h = λ i. h.0 i ∷ same_keys xs ys h.1 i

-- entries whose keys come in order are the map
kept : {A B : Type 0} (k : Key) (xs : List (Plain (key_kind k) × A)) (ys : List (Read (key_kind k) × B)) → Pairs (λ x y. plain_of (key_kind k) y.0 ≡ x.0) xs ys
    → IsStrictlySortedBy (plain_cmp k) (map (λ (x : Plain (key_kind k) × A). x.0) xs) → map_of (key_cmp k) ys ≡ ys
kept TextKey xs ys h s = map_kept (slice_cmp nat_cmp) nat_list_cmp_total ys (subst (IsStrictlySortedBy (slice_cmp nat_cmp)) (sym (same_keys xs ys h)) s)
kept NumberKey xs ys h s = map_kept nat_cmp nat_cmp_total ys (subst (IsStrictlySortedBy nat_cmp) (sym (same_keys xs ys h)) s)

module _ (k : Key) (rows : Rows) where
  abbrev Entry : Type 0
  Entry = Plain (key_kind k) × Fields Plain rows

  abbrev inside : ℕ → List Piece → Fields Read rows
  inside place ps = meaning rows place ps

  abbrev inner_faults : List ℕ → ℕ → List FormatFault
  inner_faults bytes start = message_faults (λ q. piece_faults rows q) bytes start

  abbrev run_faults : ℕ → ℕ → List ℕ → List FormatFault
  run_faults place start bytes = message_faults (entry_faults k (λ inner base. message_faults (λ q. piece_faults rows q) inner base)) bytes start

  -- the two records of an entry
  abbrev entry_text : Entry → List ℕ
  entry_text e = plain_record 1 (key_kind k) e.0 ++ run_record 2 (spelling rows e.1)

  -- a run that means the entry
  record IsEntryOf (e : Entry) (r : Run) : Type 0 where
    key : plain_of (key_kind k) (entry_of k inside r).0 ≡ e.0
    value : plain rows (entry_of k inside r).1 ≡ e.1
    clean : bad rows (entry_of k inside r).1 ≡ []

  record EntryBack (e : Entry) (p : Piece) : Type 0 where
    run : Run
    run_is : run_of p ≡ Some run
    means : IsEntryOf e run
    sound : in_run run_faults p.place p.carried ≡ []

  -- what an entry's records say, whatever bytes they are of
  abbrev entry_at : ℕ → List Piece → Read (key_kind k) × Fields Read rows
  entry_at place ps = (
    unwrap_or (last_value (key_kind k) (of_number 1 ps)) (absent (key_kind k) place),
    unwrap_or (joined_message inside (of_number 2 ps)) (inside place []),
  )

  one_number : IsNumber 1
  one_number = record { first = omega arith; last = omega arith }

  two_number : IsNumber 2
  two_number = record { first = omega arith; last = omega arith }

  module _ (laws : ReadingLaws) (P : Fields Plain rows → Type 0) (short : (w : Fields Plain rows) → P w → LengthFits (spelling rows w)) (inner : (w : Fields Plain rows) (base : ℕ) → P w → MessageBack rows w base) where
    module _ (e : Entry) (start : ℕ) (fits : Fits (key_kind k) e.0) (key_fits : plain_length (key_kind k) e.0) (good : P e.1) where
      abbrev first_text : List ℕ
      first_text = plain_record 1 (key_kind k) e.0

      abbrev second_text : List ℕ
      second_text = run_record 2 (spelling rows e.1)

      key_back : PlainBack (key_kind k) 1 e.0 start
      key_back = plain_back laws 1 start one_number (key_kind k) e.0 fits key_fits

      abbrev key_piece : Piece
      key_piece = record { place = start; number = 1; carried = key_back.carried }

      abbrev value_piece : Piece
      value_piece = run_piece (start + length first_text) 2 (spelling rows e.1)

      value_back : RunBack rows e.1 value_piece
      value_back = run_back rows laws P short inner 2 two_number e.1 (start + length first_text) good

      whole : Walks (entry_text e) start (key_piece ∷ value_piece ∷ [])
      whole = walks_append first_text second_text start (key_piece ∷ []) (value_piece ∷ []) key_back.walks (run_walks_back rows laws P short inner 2 two_number e.1 (start + length first_text) good)

      key_read : (place : ℕ) → (entry_at place (key_piece ∷ value_piece ∷ [])).0 ≡ key_back.read
      key_read place = ap (λ o. unwrap_or o (absent (key_kind k) place)) (last_one (key_kind k) key_piece key_back.read key_back.value)

      value_read : (place : ℕ) → (entry_at place (key_piece ∷ value_piece ∷ [])).1 ≡ inside value_back.run.place (pieces value_back.run.bytes value_back.run.start)
      value_read place = ap (λ o. unwrap_or o (inside place [])) (joined_one rows value_piece value_back.run value_back.run_is)

      entry_means : (place : ℕ) → IsEntryOf e (record { place = place; start = start; bytes = entry_text e })
      entry_means place =
          let all = walked (entry_text e) start (key_piece ∷ value_piece ∷ []) whole in
          record {
            key = ap (λ (x : Walk). plain_of (key_kind k) (entry_at place x.pieces).0) all ∙ ap (plain_of (key_kind k)) (key_read place) ∙ key_back.plain;
            value = ap (λ (x : Walk). plain rows (entry_at place x.pieces).1) all ∙ ap (plain rows) (value_read place) ∙ value_back.means.value;
            clean = ap (λ (x : Walk). bad rows (entry_at place x.pieces).1) all ∙ ap (bad rows) (value_read place) ∙ value_back.means.clean;
          }

      entry_sound : message_faults (entry_faults k inner_faults) (entry_text e) start ≡ []
      entry_sound =
          let all = walked (entry_text e) start (key_piece ∷ value_piece ∷ []) whole in
          ap (λ (x : Walk). flat_map (entry_faults k inner_faults) x.pieces ++ broken_faults x.broken) all
          ∙ (λ i. (((key_back.sound i ++ []) ++ (([] ++ value_back.sound i) ++ [])) ++ []))

    module _ (n : ℕ) (num : IsNumber n) where
      abbrev spell : Entry → List ℕ
      spell e = run_record n (entry_text e)

      abbrev Good : Entry → Type 0
      Good e = Fits (key_kind k) e.0 × P e.1 × LengthFits (entry_text e) × plain_length (key_kind k) e.0

      one_entry : (e : Entry) (base : ℕ) → Good e → OneBack spell n EntryBack e base
      one_entry e base good =
          let start = run_start base n (entry_text e) in
          record {
            piece = run_piece base n (entry_text e);
            walks = run_walks laws base n (entry_text e) num.first num.last good.2;
            number_is = refl;
            means = record {
              run = record { place = base; start = start; bytes = entry_text e };
              run_is = refl;
              means = entry_means e start good.0 good.3 good.1 base;
              sound = entry_sound e start good.0 good.3 good.1;
            };
          }

      pub entries_back : (es : List Entry) (base : ℕ) → AllByRecursion Good es → IsStrictlySortedBy (plain_cmp k) (map (λ (e : Entry). e.0) es) → FieldBack (entries n k rows) es base
      unfolding spelling meaning plain bad piece_faults
      entries_back es base good sorted =
          let b = each_back Good spell n EntryBack one_entry es base good in
          let own : of_number n b.ps ≡ b.ps = all_of_number n b.ps b.numbers in
          let runs : Pairs IsEntryOf es (filter_map run_of b.ps) =
          pairs_read run_of IsEntryOf es b.ps (pairs_weaker EntryBack _ (λ e p (b : EntryBack e p). (b.run, b.run_is, b.means)) es b.ps b.pairs) in
          let read = map (entry_of k inside) (filter_map run_of b.ps) in
          let same : map_of (key_cmp k) (map (entry_of k inside) (filter_map run_of (of_number n b.ps))) ≡ read =
          ap (λ ps. map_of (key_cmp k) (map (entry_of k inside) (filter_map run_of ps))) own
          ∙ kept k es read (pairs_mapped (entry_of k inside) (λ (e : Entry) (x : Read (key_kind k) × Fields Read rows). plain_of (key_kind k) x.0 ≡ e.0) es _ (pairs_weaker IsEntryOf _ (λ e r (i : IsEntryOf e r). i.key) es _ runs)) sorted in
          record {
            ps = b.ps;
            walks = b.walks;
            numbers = b.numbers;
            unset = λ no. absurd cc;
            value = λ first.
                ap (map (λ (x : Read (key_kind k) × Fields Read rows). (plain_of (key_kind k) x.0, plain rows x.1))) same
                ∙ pairs_map (λ (x : Read (key_kind k) × Fields Read rows). (plain_of (key_kind k) x.0, plain rows x.1)) es read (
                pairs_mapped (entry_of k inside) (λ (e : Entry) (x : Read (key_kind k) × Fields Read rows). ◌≡◌ {A = Entry} (plain_of (key_kind k) x.0, plain rows x.1) e) es _ (
                pairs_weaker IsEntryOf _ (λ e r (i : IsEntryOf e r). λ j. (i.key j, i.value j)) es _ runs));
            clean = λ first.
                ap (flat_map (λ (x : Read (key_kind k) × Fields Read rows). bad rows x.1)) same
                ∙ pairs_none (λ (x : Read (key_kind k) × Fields Read rows). bad rows x.1) es read (
                pairs_mapped (entry_of k inside) (λ (e : Entry) (x : Read (key_kind k) × Fields Read rows). bad rows x.1 ≡ []) es _ (pairs_weaker IsEntryOf _ (λ e r (i : IsEntryOf e r). i.clean) es _ runs));
            sound = own_sound b.ps b.numbers (pairs_all (λ p. in_run run_faults p.place p.carried ≡ []) es b.ps (pairs_weaker EntryBack _ (λ e p (b : EntryBack e p). b.sound) es b.ps b.pairs));
          }
        where
          own_sound : (ps : List Piece) → AllByRecursion (λ p. p.number ≡ n) ps → AllByRecursion (λ p. in_run run_faults p.place p.carried ≡ []) ps → AllByRecursion (λ p. field_faults (entries n k rows) p ≡ []) ps
          own_sound [] numbers all = tt
          own_sound (p ∷ ps) numbers all = (at_own n run_faults p numbers.0 all.0, own_sound ps numbers.1 all.1)
