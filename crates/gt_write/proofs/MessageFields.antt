-- Embedded messages read back, by what is so of the messages in them.
use Rattle.std.proofs.Common.{◌≡◌, ℕ, true, List, [], ◌∷◌, ◌++◌, map, Option, Some, None, refl, ap, ◌∙◌}
use Rattle.std.specs.Prelude.{IfSome}
use Rattle.std.specs.List.{AllByRecursion, flat_map, filter_map, cons_option}
use Rattle.std.specs.Option.{option_map}
use Rattle.std.proofs.lemmas.List.{append-nil}
use Rattle.gt_model.specs.Schema.{Members, Rows, message, messages, member_message, run}
use Rattle.gt_model.specs.Values.{Fields, Plain}
use Rattle.gt_read.specs.declared.fault.FormatFault.{FormatFault}
use Rattle.gt_read.specs.Pieces.{Piece, pieces, Walk}
use Rattle.gt_read.specs.Kinds.{Read, Run, run_of, of_number}
use Rattle.gt_read.specs.Meaning.{meaning, joined, joined_message, alone, last_turn}
use Rattle.gt_read.specs.Identifiers.{plain, bad, if_some}
use Rattle.gt_read.specs.Faults.{field_faults, piece_faults, message_faults, broken_faults, in_run}
use Rattle.gt_write.specs.Spelling.{spelling, run_record}
use Rattle.gt_write.specs.Lengths.{LengthFits}
use Rattle.gt_write.proofs.ReadingLaws.{ReadingLaws}
use Rattle.gt_write.proofs.Walking.{Walks, walks_nil, walked, run_piece, run_start, run_walks}
use Rattle.gt_write.proofs.KindsBack.{IsNumber}
use Rattle.gt_write.proofs.Each.{Pairs, OneBack, each_back, all_of_number, pairs_weaker, pairs_read, pairs_mapped, pairs_map, pairs_none, pairs_all}
use Rattle.gt_write.proofs.Backs.{FieldBack, MessageBack, all_none, at_own, is_listed, turn_one}

module _ (rows : Rows) where
  abbrev pub inside : ℕ → List Piece → Fields Read rows
  inside place ps = meaning rows place ps

  abbrev pub run_faults : ℕ → ℕ → List ℕ → List FormatFault
  run_faults place start bytes = message_faults (λ q. piece_faults rows q) bytes start

  -- a run that means the message
  pub record IsRunOf (w : Fields Plain rows) (r : Run) : Type 0 where
    pub value : plain rows (alone inside r) ≡ w
    pub clean : bad rows (alone inside r) ≡ []

  -- a record whose run means the message, with nothing wrong in it
  pub record RunBack (w : Fields Plain rows) (p : Piece) : Type 0 where
    pub run : Run
    pub run_is : run_of p ≡ Some run
    pub means : IsRunOf w run
    pub sound : in_run run_faults p.place p.carried ≡ []

  pub joined_one : (p : Piece) (r : Run) → run_of p ≡ Some r → joined_message inside (p ∷ []) ≡ Some (alone inside r)
  joined_one p r e =
      ap (λ (o : Option Run). joined inside (cons_option o [])) e ∙ ap (λ (ps : List Piece). Some (inside r.place ps)) (append-nil (pieces r.bytes r.start))

  module _ (laws : ReadingLaws) (P : Fields Plain rows → Type 0) (short : (w : Fields Plain rows) → P w → LengthFits (spelling rows w)) (inner : (w : Fields Plain rows) (base : ℕ) → P w → MessageBack rows w base) (n : ℕ) (num : IsNumber n) where
    -- the record of a message
    pub run_back : (w : Fields Plain rows) (base : ℕ) → P w → RunBack w (run_piece base n (spelling rows w))
    run_back w base fits =
        let bytes = spelling rows w in
        let start = run_start base n bytes in
        let m = inner w start fits in
        let whole = walked bytes start m.ps m.walks in
        record {
          run = record { place = base; start = start; bytes = bytes };
          run_is = refl;
          means = record {
            value = ap (λ (x : Walk). plain rows (meaning rows base x.pieces)) whole ∙ m.value base;
            clean = ap (λ (x : Walk). bad rows (meaning rows base x.pieces)) whole ∙ m.clean base;
          };
          sound =
              ap (λ (x : Walk). flat_map (piece_faults rows) x.pieces ++ broken_faults x.broken) whole
              ∙ ap (λ (l : List FormatFault). l ++ []) (all_none (piece_faults rows) m.ps m.sound);
        }

    pub run_walks_back : (w : Fields Plain rows) (base : ℕ) → P w → Walks (run_record n (spelling rows w)) base (run_piece base n (spelling rows w) ∷ [])
    run_walks_back w base fits = run_walks laws base n (spelling rows w) num.first num.last (short w fits)

    -- ---- one message

    set_message : (w : Fields Plain rows) (base : ℕ) → P w → FieldBack (message n rows) (Some w) base
    unfolding spelling meaning plain bad piece_faults
    set_message w base fits =
        let p = run_piece base n (spelling rows w) in
        let b = run_back w base fits in
        let read : joined_message inside (of_number n (p ∷ [])) ≡ Some (alone inside b.run) = ap (joined_message inside) (all_of_number n (p ∷ []) (refl, tt)) ∙ joined_one p b.run b.run_is in
        record {
          ps = p ∷ [];
          walks = run_walks_back w base fits;
          numbers = (refl, tt);
          unset = λ no. absurd cc;
          value = λ first. ap (option_map (plain rows)) read ∙ ap (λ (x : Fields Plain rows). Some x) b.means.value;
          clean = λ first. ap (if_some (bad rows)) read ∙ b.means.clean;
          sound = (at_own n run_faults p refl b.sound, tt);
        }

    no_message : (base : ℕ) → FieldBack (message n rows) None base
    unfolding spelling meaning plain bad piece_faults
    no_message base = record { ps = []; walks = walks_nil base; numbers = tt; unset = λ no. refl; value = λ first. refl; clean = λ first. refl; sound = tt }

    pub message_back : (v : Option (Fields Plain rows)) (base : ℕ) → IfSome v P → FieldBack (message n rows) v base
    message_back None base fits = no_message base
    message_back (Some w) base fits = set_message w base fits

    -- ---- a member of a oneof

    set_member : (members : Members) → is_listed members n run ≡ true → (w : Fields Plain rows) (base : ℕ) → P w → FieldBack (member_message members n rows) (Some w) base
    unfolding spelling meaning plain bad piece_faults
    set_member members listed w base fits =
        let p = run_piece base n (spelling rows w) in
        let b = run_back w base fits in
        let read : joined_message inside (last_turn members n (p ∷ [])) ≡ Some (alone inside b.run) = ap (joined_message inside) (turn_one members n run p listed refl refl) ∙ joined_one p b.run b.run_is in
        record {
          ps = p ∷ [];
          walks = run_walks_back w base fits;
          numbers = (refl, tt);
          unset = λ no. absurd cc;
          value = λ first. ap (option_map (plain rows)) read ∙ ap (λ (x : Fields Plain rows). Some x) b.means.value;
          clean = λ first. ap (if_some (bad rows)) read ∙ b.means.clean;
          sound = (at_own n run_faults p refl b.sound, tt);
        }

    no_member : (members : Members) (base : ℕ) → FieldBack (member_message members n rows) None base
    unfolding spelling meaning plain bad piece_faults
    no_member members base = record { ps = []; walks = walks_nil base; numbers = tt; unset = λ no. refl; value = λ first. refl; clean = λ first. refl; sound = tt }

    pub member_message_back : (members : Members) → is_listed members n run ≡ true → (v : Option (Fields Plain rows)) (base : ℕ) → IfSome v P
        → FieldBack (member_message members n rows) v base
    member_message_back members listed None base fits = no_member members base
    member_message_back members listed (Some w) base fits = set_member members listed w base fits

    -- ---- any number of messages

    one_message : (w : Fields Plain rows) (base : ℕ) → P w → OneBack (λ w. run_record n (spelling rows w)) n RunBack w base
    one_message w base fits = record { piece = run_piece base n (spelling rows w); walks = run_walks_back w base fits; number_is = refl; means = run_back w base fits }

    pub messages_back : (ws : List (Fields Plain rows)) (base : ℕ) → AllByRecursion P ws → FieldBack (messages n rows) ws base
    unfolding spelling meaning plain bad piece_faults
    messages_back ws base fits =
        let e = each_back P (λ w. run_record n (spelling rows w)) n RunBack one_message ws base fits in
        let own : of_number n e.ps ≡ e.ps = all_of_number n e.ps e.numbers in
        let runs : Pairs IsRunOf ws (filter_map run_of e.ps) =
        pairs_read run_of IsRunOf ws e.ps (pairs_weaker RunBack _ (λ w p (b : RunBack w p). (b.run, b.run_is, b.means)) ws e.ps e.pairs) in
        record {
          ps = e.ps;
          walks = e.walks;
          numbers = e.numbers;
          unset = λ no. absurd cc;
          value = λ first.
              ap (λ ps. map (plain rows) (map (alone inside) (filter_map run_of ps))) own
              ∙ pairs_map (plain rows) ws _ (pairs_mapped (alone inside) (λ w x. plain rows x ≡ w) ws _ (pairs_weaker IsRunOf _ (λ w r (b : IsRunOf w r). b.value) ws _ runs));
          clean = λ first.
              ap (λ ps. flat_map (bad rows) (map (alone inside) (filter_map run_of ps))) own
              ∙ pairs_none (bad rows) ws _ (pairs_mapped (alone inside) (λ w x. bad rows x ≡ []) ws _ (pairs_weaker IsRunOf _ (λ w r (b : IsRunOf w r). b.clean) ws _ runs));
          sound = own_sound e.ps e.numbers (pairs_all (λ p. in_run run_faults p.place p.carried ≡ []) ws e.ps (pairs_weaker RunBack _ (λ w p (b : RunBack w p). b.sound) ws e.ps e.pairs));
        }
      where
        own_sound : (ps : List Piece) → AllByRecursion (λ p. p.number ≡ n) ps → AllByRecursion (λ p. in_run run_faults p.place p.carried ≡ []) ps → AllByRecursion (λ p. field_faults (messages n rows) p ≡ []) ps
        own_sound [] numbers all = tt
        own_sound (p ∷ ps) numbers all = (at_own n run_faults p numbers.0 all.0, own_sound ps numbers.1 all.1)
