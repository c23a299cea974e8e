-- Repeated plain fields read back: numbers from a packed run, the others from a record each.
use Rattle.std.proofs.Common.{◌≡◌, ℕ, ◌^◌, ◌<◌, Bool, true, false, cond, eqb, List, [], ◌∷◌, ◌++◌, map, length, Option, Some, refl, sym, ap, subst, ◌∙◌, arith}
use Rattle.std.specs.List.{AllByRecursion, flat_map, filter_map, cons_option}
use Rattle.std.specs.Int.{w32, w64, cast_signed, from_bool}
use Rattle.std.proofs.lemmas.Bool.{eqb-true}
use Rattle.std.proofs.lemmas.List.{append-nil, nil_from_length}
use Rattle.pb_wire.specs.Varint.{shortest}
use Rattle.gt_model.specs.Schema.{Kind, Id, OptionalId, Text, Blob, Unsigned64, Signed64, Unsigned32, Signed32, Flag, repeated}
use Rattle.gt_model.specs.Values.{Plain}
use Rattle.gt_read.specs.declared.fault.FormatFault.{FormatFault}
use Rattle.gt_read.specs.Pieces.{Piece, Carried, Number, Bytes, Fixed}
use Rattle.gt_read.specs.Kinds.{Read, Packed, packed, from_varint, from_bytes, from_carried, is_varint_kind, low32, of_number, values_in, values_of}
use Rattle.gt_read.specs.Meaning.{meaning}
use Rattle.gt_read.specs.Identifiers.{plain, plain_of, plain_bad, bad}
use Rattle.gt_read.specs.Faults.{field_faults, piece_faults, packed_faults, failed_at, in_run, text_faults}
use Rattle.gt_write.specs.Spelling.{spelling, signed_varint, plain_record, run_record, run_unless_empty, repeated_records}
use Rattle.gt_write.specs.Lengths.{LengthFits, plain_length, repeated_lengths}
use Rattle.gt_write.proofs.ReadingLaws.{ReadingLaws}
use Rattle.gt_write.proofs.Walking.{Walks, walks_nil, run_piece, run_walks}
use Rattle.gt_write.proofs.KindsBack.{Fits, IsNumber, plain_back, signed_fits, signed32_fits, signed64_back, signed32_back}
use Rattle.gt_write.proofs.PackedBack.{packed_back}
use Rattle.gt_write.proofs.Each.{Pairs, OneBack, each_back, all_of_number, pairs_weaker, pairs_read, pairs_map, pairs_none, pairs_all}
use Rattle.gt_write.proofs.Backs.{FieldBack, at_own, all_two}

-- a value that was read is the one that was written
pub record IsReadOf (k : Kind) (v : Plain k) (r : Read k) : Type 0 where
  pub value : plain_of k r ≡ v
  pub clean : plain_bad k r ≡ []

abbrev run_faults : Kind → ℕ → ℕ → List ℕ → List FormatFault
run_faults k place start bytes = packed_faults k place bytes

-- the records of the field give its values
record ValuesBack (n : ℕ) (k : Kind) (vs : List (Plain k)) (text : List ℕ) (base : ℕ) : Type 0 where
  ps : List Piece
  walks : Walks text base ps
  numbers : AllByRecursion (λ p. p.number ≡ n) ps
  pairs : Pairs (IsReadOf k) vs (flat_map (values_of k) ps)
  sound : AllByRecursion (λ p. in_run (run_faults k) p.place p.carried ≡ []) ps

field_of_values : (n : ℕ) (k : Kind) (vs : List (Plain k)) (base : ℕ) → ValuesBack n k vs (repeated_records n k vs) base → FieldBack (repeated n k) vs base
unfolding spelling meaning plain bad piece_faults
field_of_values n k vs base b = record {
  ps = b.ps;
  walks = b.walks;
  numbers = b.numbers;
  unset = λ no. absurd cc;
  value = λ first.
      ap (λ ps. map (plain_of k) (flat_map (values_of k) ps)) own ∙ pairs_map (plain_of k) vs _ (pairs_weaker (IsReadOf k) _ (λ v r (i : IsReadOf k v r). i.value) vs _ b.pairs);
  clean = λ first.
      ap (λ ps. flat_map (plain_bad k) (flat_map (values_of k) ps)) own ∙ pairs_none (plain_bad k) vs _ (pairs_weaker (IsReadOf k) _ (λ v r (i : IsReadOf k v r). i.clean) vs _ b.pairs);
  sound = own_sound b.ps b.numbers b.sound;
}
  where
    own : of_number n b.ps ≡ b.ps
    own = all_of_number n b.ps b.numbers

    own_sound : (ps : List Piece) → AllByRecursion (λ p. p.number ≡ n) ps → AllByRecursion (λ p. in_run (run_faults k) p.place p.carried ≡ []) ps → AllByRecursion (λ p. field_faults (repeated n k) p ≡ []) ps
    own_sound [] numbers all = tt
    own_sound (p ∷ ps) numbers all = (at_own n (run_faults k) p numbers.0 all.0, own_sound ps numbers.1 all.1)

-- ---- a record for each value

values_of_run : (k : Kind) → is_varint_kind k ≡ false → (place : ℕ) (c : Carried) → values_in k place c ≡ cons_option (from_carried k place c) []
values_of_run k is place (Number m) = refl
values_of_run k is place (Bytes start bytes) = ap (λ t. cond t (filter_map (from_varint k) (packed bytes).numbers) (cons_option (from_bytes k place bytes) [])) is
values_of_run k is place Fixed = refl

faults_of_run : (k : Kind) → is_varint_kind k ≡ false → (place : ℕ) (c : Carried) → in_run (λ place start bytes. text_faults k place bytes) place c ≡ [] → in_run (run_faults k) place c ≡ []
faults_of_run k is place (Number m) e = refl
faults_of_run k is place (Bytes start bytes) e = ap (λ t. cond t (failed_at place (packed bytes).failed) (text_faults k place bytes)) is ∙ e
faults_of_run k is place Fixed e = refl

module _ (k : Kind) where
  record OneValue (v : Plain k) (p : Piece) : Type 0 where
    read : Read k
    values_are : values_of k p ≡ read ∷ []
    means : IsReadOf k v read
    sound : in_run (run_faults k) p.place p.carried ≡ []

  pairs_values : (vs : List (Plain k)) (ps : List Piece) → Pairs OneValue vs ps → Pairs (IsReadOf k) vs (flat_map (values_of k) ps)
  pairs_values [] [] h = tt
  pairs_values [] (p ∷ ps) h = absurd h
  pairs_values (v ∷ vs) [] h = absurd h
  pairs_values (v ∷ vs) (p ∷ ps) h = subst (λ (l : List (Read k)). Pairs (IsReadOf k) (v ∷ vs) (l ++ flat_map (values_of k) ps)) (sym h.0.values_are) (h.0.means, pairs_values vs ps h.1)

  module _ (laws : ReadingLaws) (is : is_varint_kind k ≡ false) (n : ℕ) (num : IsNumber n) where
    one_value : (v : Plain k) (base : ℕ) → Fits k v × plain_length k v → OneBack (plain_record n k) n OneValue v base
    one_value v base fits =
        let b = plain_back laws n base num k v fits.0 fits.1 in
        record {
          piece = record { place = base; number = n; carried = b.carried };
          walks = b.walks;
          number_is = refl;
          means = record {
            read = b.read;
            values_are = values_of_run k is base b.carried ∙ ap (λ (o : Option (Read k)). cons_option o []) b.value;
            means = record { value = b.plain; clean = b.bad };
            sound = faults_of_run k is base b.carried b.sound;
          };
        }

    runs_back : (vs : List (Plain k)) (base : ℕ) → AllByRecursion (Fits k) vs → AllByRecursion (plain_length k) vs → ValuesBack n k vs (flat_map (plain_record n k) vs) base
    runs_back vs base fits short =
        let e = each_back (λ v. Fits k v × plain_length k v) (plain_record n k) n OneValue one_value vs base (all_two (Fits k) (plain_length k) vs fits short) in
        record {
          ps = e.ps;
          walks = e.walks;
          numbers = e.numbers;
          pairs = pairs_values vs e.ps e.pairs;
          sound = pairs_all (λ p. in_run (run_faults k) p.place p.carried ≡ []) vs e.ps (pairs_weaker OneValue _ (λ v p (o : OneValue v p). o.sound) vs e.ps e.pairs);
        }

  -- ---- numbers in one packed run

  record CodeBack (code : Plain k → ℕ) (v : Plain k) : Type 0 where
    small : code v < 2 ^ 64
    read : Read k
    read_is : from_varint k (code v) ≡ Some read
    means : IsReadOf k v read

  module _ (laws : ReadingLaws) (is : is_varint_kind k ≡ true) (n : ℕ) (num : IsNumber n) (code : Plain k → ℕ) (back : (v : Plain k) → Fits k v → CodeBack code v) where
    abbrev packed_text : List (Plain k) → List ℕ
    packed_text vs = flat_map (λ v. shortest (code v)) vs

    all_small : (vs : List (Plain k)) → AllByRecursion (Fits k) vs → AllByRecursion (λ v. code v < 2 ^ 64) vs
    all_small [] fits = tt
    all_small (v ∷ vs) fits = ((back v fits.0).small, all_small vs fits.1)

    code_pairs : (vs : List (Plain k)) → AllByRecursion (Fits k) vs → Pairs (λ v c. (r : Read k) × (from_varint k c ≡ Some r) × IsReadOf k v r) vs (map code vs)
    code_pairs [] fits = tt
    code_pairs (v ∷ vs) fits = let b = back v fits.0 in ((b.read, b.read_is, b.means), code_pairs vs fits.1)

    module _ (vs : List (Plain k)) (fits : AllByRecursion (Fits k) vs) where
      read_pairs : Pairs (IsReadOf k) vs (filter_map (from_varint k) (packed (packed_text vs)).numbers)
      read_pairs =
          subst (λ (x : Packed). Pairs (IsReadOf k) vs (filter_map (from_varint k) x.numbers)) (sym (packed_back laws code vs (all_small vs fits)))
          (pairs_read (from_varint k) (IsReadOf k) vs (map code vs) (code_pairs vs fits))

      no_numbers : (base : ℕ) → eqb (length (packed_text vs)) 0 ≡ true → ValuesBack n k vs (run_unless_empty n (packed_text vs)) base
      no_numbers base e =
          let text : run_unless_empty n (packed_text vs) ≡ [] = ap (λ b. cond b [] (run_record n (packed_text vs))) e in
          let nothing : packed_text vs ≡ [] = nil_from_length (packed_text vs) (eqb-true _ _ e) in
          let pairs = subst (λ (x : Packed). Pairs (IsReadOf k) vs (filter_map (from_varint k) x.numbers)) (ap packed nothing ∙ laws.unpacked [] [] refl) read_pairs in
          record { ps = []; walks = subst (λ t. Walks t base []) (sym text) (walks_nil base); numbers = tt; pairs = pairs; sound = tt }

      some_numbers : (base : ℕ) → eqb (length (packed_text vs)) 0 ≡ false → LengthFits (packed_text vs) → ValuesBack n k vs (run_unless_empty n (packed_text vs)) base
      some_numbers base e short =
          let text : run_unless_empty n (packed_text vs) ≡ run_record n (packed_text vs) = ap (λ b. cond b [] (run_record n (packed_text vs))) e in
          let p = run_piece base n (packed_text vs) in
          let values_are : flat_map (values_of k) (p ∷ []) ≡ filter_map (from_varint k) (packed (packed_text vs)).numbers =
          append-nil (values_of k p) ∙ ap (λ t. cond t (filter_map (from_varint k) (packed (packed_text vs)).numbers) (filter_map (from_bytes k base) (packed_text vs ∷ []))) is in
          record {
            ps = p ∷ [];
            walks = subst (λ t. Walks t base (p ∷ [])) (sym text) (run_walks laws base n (packed_text vs) num.first num.last short);
            numbers = (refl, tt);
            pairs = subst (Pairs (IsReadOf k) vs) (sym values_are) read_pairs;
            sound = (
              ap (λ t. cond t (failed_at base (packed (packed_text vs)).failed) (text_faults k base (packed_text vs))) is
                  ∙ ap (λ (x : Packed). failed_at base x.failed) (packed_back laws code vs (all_small vs fits)),
              tt,
            );
          }

      numbers_back : (base : ℕ) → LengthFits (packed_text vs) → ValuesBack n k vs (run_unless_empty n (packed_text vs)) base
      numbers_back base short = by (eqb (length (packed_text vs)) 0) refl
        where
          by : (b : Bool) → eqb (length (packed_text vs)) 0 ≡ b → ValuesBack n k vs (run_unless_empty n (packed_text vs)) base
          by true e = no_numbers base e
          by false e = some_numbers base e short

flag_code : (b : Bool) → CodeBack Flag (λ b. from_bool b) b
flag_code true = record { small = omega arith; read = true; read_is = refl; means = record { value = refl; clean = refl } }
flag_code false = record { small = omega arith; read = false; read_is = refl; means = record { value = refl; clean = refl } }

values_back : (laws : ReadingLaws) (n : ℕ) (num : IsNumber n) (k : Kind) (vs : List (Plain k)) (base : ℕ) → AllByRecursion (Fits k) vs → repeated_lengths k vs → ValuesBack n k vs (repeated_records n k vs) base
values_back laws n num Id vs base fits short = runs_back Id laws refl n num vs base fits short
values_back laws n num OptionalId vs base fits short = runs_back OptionalId laws refl n num vs base fits short
values_back laws n num Text vs base fits short = runs_back Text laws refl n num vs base fits short
values_back laws n num Blob vs base fits short = runs_back Blob laws refl n num vs base fits short
values_back laws n num Unsigned64 vs base fits short =
    numbers_back Unsigned64 laws refl n num (λ m. m) (λ m h. record { small = h; read = m; read_is = refl; means = record { value = refl; clean = refl } }) vs fits base short
values_back laws n num Signed64 vs base fits short =
    numbers_back Signed64 laws refl n num (λ z. signed_varint z)
    (λ z h. record { small = signed_fits z h; read = cast_signed w64 (signed_varint z); read_is = refl; means = record { value = signed64_back z h; clean = refl } }) vs fits base short
values_back laws n num Unsigned32 vs base fits short =
    numbers_back Unsigned32 laws refl n num (λ m. m) (λ m h. record { small = omega (arith, h); read = low32 m; read_is = refl; means = record { value = omega (arith, h); clean = refl } }) vs fits base short
values_back laws n num Signed32 vs base fits short =
    numbers_back Signed32 laws refl n num (λ z. signed_varint z)
    (λ z h. record { small = signed_fits z (signed32_fits z h); read = cast_signed w32 (low32 (signed_varint z)); read_is = refl; means = record { value = signed32_back z h; clean = refl } }) vs fits base short
values_back laws n num Flag vs base fits short = numbers_back Flag laws refl n num (λ b. from_bool b) (λ b h. flag_code b) vs fits base short

pub repeated_back : (laws : ReadingLaws) (n : ℕ) (num : IsNumber n) (k : Kind) (vs : List (Plain k)) (base : ℕ) → AllByRecursion (Fits k) vs → repeated_lengths k vs → FieldBack (repeated n k) vs base
repeated_back laws n num k vs base fits short = field_of_values n k vs base (values_back laws n num k vs base fits short)
