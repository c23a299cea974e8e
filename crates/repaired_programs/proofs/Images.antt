-- Programs whose words and data name one thing each have one image and one fault.
use Rattle.std.proofs.Common.{◌≡◌, ℕ, ◌+◌, ◌-◌, List, [], ◌∷◌, ◌++◌, map, replicate, Option, Some, None, refl, sym, ap, ◌∙◌, arith}
use Rattle.std.specs.Prelude.{pos, ◌-ℤ◌, Ok}
use Rattle.std.specs.List.{AllByRecursion as Every, AllZip, cons_option, flat_map, filter_map}
use Rattle.std.specs.Option.{option_and_then, option_map_or, option_or, option_to_list}
use Rattle.std.proofs.lemmas.List.{append_assoc}
use Rattle.a64_inst.specs.Fitting.{fit}
use Rattle.a64_inst.specs.Kinds.{operand_kind}
use Rattle.gt_model.specs.declared.modules.Module.{Module}
use Rattle.repaired_programs.specs.Named.{FillOne, IsOneFilling, IsOneStretch, IsOneWord, NameOne}
use Rattle.repaired_programs.specs.Pieces.{bare_stretch, new_stretch}
use Rattle.sym_expr.specs.declared.layout.Layout.{Layout}
use Rattle.sym_expr.specs.declared.link_fault.LinkFault.{LinkFault}
use Rattle.sym_expr.specs.declared.program.CodeBlock.{CodeBlock}
use Rattle.sym_expr.specs.declared.program.DataBlock.{DataBlock}
use Rattle.sym_expr.specs.declared.program.Filling.{Filling}
use Rattle.sym_expr.specs.declared.program.Filling.TheVariants.{Pointer, Difference, Entry}
use Rattle.sym_expr.specs.declared.program.Piece.{Piece}
use Rattle.sym_expr.specs.declared.program.Piece.TheVariants.{Code as CodePiece, Data as DataPiece, Gap}
use Rattle.sym_expr.specs.declared.program.Program.{Program}
use Rattle.sym_expr.specs.declared.program.Stretch.{Stretch}
use Rattle.sym_expr.specs.declared.program.Word.{Word}
use Rattle.sym_expr.specs.declared.target.Target.{Target}
use Rattle.sym_expr.specs.Differences.{diff_fit}
use Rattle.sym_expr.specs.Images.{all_words, bytes_from, bytes_of, fault_of, filled_word, filling_fault, filling_size, filling_value, fit_or, misfit, operand_of, overlaid, piece_bytes, piece_faults, stretch_bytes, stretch_faults, target_value, undefined_in, undefined_of, with_fillings, word_fault, words_at}
use Rattle.sym_expr.specs.Layouts.{address_of}
use Rattle.sym_expr.specs.Placing.{Placed, new_size, placed}
use Rattle.repaired_programs.proofs.Again.{again}
use Rattle.repaired_programs.proofs.Bare.{AreNamed}
use Rattle.repaired_programs.proofs.Known.{IsCountedPiece}
use Rattle.repaired_programs.proofs.Readings.{read, read_piece, read_words}

-- ---- a program's bytes and faults, as they are read

module _ (l : Layout) (g : Program) (base : ℕ) where
  abbrev pub word_out : ℕ → Word → List ℕ
  word_out at w = bytes_of 4 (fit_or w.word (filled_word l g (base + at) w))

  abbrev pub data_out : ℕ → DataBlock → List ℕ
  data_out at b = with_fillings l g b.fillings b.bytes

  abbrev itself : List ℕ → List ℕ
  itself bytes = bytes

  words_read : (at : ℕ) (ws : List Word) → flat_map (λ (w : ℕ × Word). bytes_of 4 (fit_or w.1.word (filled_word l g w.0 w.1))) (words_at (base + at) ws) ≡ read_words word_out at ws
  words_read at [] = refl
  words_read at (w ∷ ws) =
      let next : base + at + 4 ≡ base + (at + 4) = omega arith in
      ap (λ k. word_out at w ++ flat_map (λ (v : ℕ × Word). bytes_of 4 (fit_or v.1.word (filled_word l g v.0 v.1))) (words_at k ws)) next
      ∙ ap (λ x. word_out at w ++ x) (words_read (at + 4) ws)

  piece_read : (at : ℕ) (p : Piece) → piece_bytes l g (base + at) p ≡ read_piece itself word_out data_out at p
  piece_read at (CodePiece b) = words_read at (all_words b)
  piece_read at (DataPiece b) = refl
  piece_read at (Gap bytes) = refl

  pub bytes_read : (at : ℕ) (xs : List Placed) → bytes_from l g (base + at) (map (λ (x : Placed). record x { at = base + x.at }) xs) ≡ read itself word_out data_out at xs
  bytes_read at [] = refl
  bytes_read at (x ∷ xs) =
      let zeros : base + x.at - (base + at) ≡ x.at - at = omega arith in
      let next : base + x.at + new_size x.piece ≡ base + (x.at + new_size x.piece) = omega arith in
      let padding : List ℕ = replicate (x.at - at) 0 in
      let shifted : List Placed = map (λ (y : Placed). record y { at = base + y.at }) xs in
      ap (λ k. replicate k 0 ++ piece_bytes l g (base + x.at) x.piece ++ bytes_from l g (base + x.at + new_size x.piece) shifted) zeros
      ∙ ap (λ p. replicate (x.at - at) 0 ++ p ++ bytes_from l g (base + x.at + new_size x.piece) shifted) (piece_read x.at x.piece)
      ∙ ap (λ k. replicate (x.at - at) 0 ++ read_piece itself word_out data_out x.at x.piece ++ bytes_from l g k shifted) next
      ∙ ap (λ r. replicate (x.at - at) 0 ++ read_piece itself word_out data_out x.at x.piece ++ r) (bytes_read (x.at + new_size x.piece) xs)
      ∙ append_assoc padding (read_piece itself word_out data_out x.at x.piece) (read itself word_out data_out (x.at + new_size x.piece) xs)

optional : {X : Type 0} (o : Option X) (xs : List X) → cons_option o xs ≡ option_to_list o ++ xs
optional None xs = refl
optional (Some x) xs = refl

module _ (l : Layout) (g : Program) (s : Stretch) where
  abbrev pub word_faults : ℕ → Word → List LinkFault
  word_faults at w = option_to_list (word_fault l g s (at, w))

  abbrev pub data_faults : ℕ → DataBlock → List LinkFault
  data_faults at b = filter_map (filling_fault l g s at) b.fillings

  abbrev nothing : List ℕ → List LinkFault
  nothing bytes = []

  words_faulty : (at : ℕ) (ws : List Word) → filter_map (word_fault l g s) (words_at at ws) ≡ read_words word_faults at ws
  words_faulty at [] = refl
  words_faulty at (w ∷ ws) = optional (word_fault l g s (at, w)) (filter_map (word_fault l g s) (words_at (at + 4) ws)) ∙ ap (λ x. word_faults at w ++ x) (words_faulty (at + 4) ws)

  piece_faulty : (at : ℕ) (p : Piece) → piece_faults l g s at p ≡ read_piece nothing word_faults data_faults at p
  piece_faulty at (CodePiece b) = words_faulty at (all_words b)
  piece_faulty at (DataPiece b) = refl
  piece_faulty at (Gap bytes) = refl

  pub faults_read : (at : ℕ) (xs : List Placed) → flat_map (λ (x : Placed). piece_faults l g s x.at x.piece) xs ≡ read nothing word_faults data_faults at xs
  faults_read at [] = refl
  faults_read at (x ∷ xs) =
      ap (λ p. p ++ flat_map (λ (y : Placed). piece_faults l g s y.at y.piece) xs) (piece_faulty x.at x.piece)
      ∙ ap (λ r. read_piece nothing word_faults data_faults x.at x.piece ++ r) (faults_read (x.at + new_size x.piece) xs)

-- ---- what names one thing is one

module _ (l : Layout) (new g : Program) where
  targets_filled : (at word : ℕ) (a b : Option Target) → NameOne l new g a b → option_map_or (operand_of l new at word) a (Ok word) ≡ option_map_or (operand_of l g at word) b (Ok word)
  targets_filled at word None None h = refl
  targets_filled at word None (Some b) h = absurd h
  targets_filled at word (Some a) None h = absurd h
  targets_filled at word (Some a) (Some b) h = ap (λ v. option_map_or (λ kind. fit kind at v word) (operand_kind word) (Ok word)) h.value

  pub same_filled : (at : ℕ) (a b : Word) → IsOneWord l new g a b → filled_word l new at a ≡ filled_word l g at b
  same_filled at a b h = ap (λ k. option_map_or (operand_of l new at k) a.target (Ok k)) h.word ∙ targets_filled at b.word a.target b.target h.target

  pub same_undefined : (a b : Option Target) → NameOne l new g a b → option_and_then undefined_in a ≡ option_and_then undefined_in b
  same_undefined None None h = refl
  same_undefined None (Some b) h = absurd h
  same_undefined (Some a) None h = absurd h
  same_undefined (Some a) (Some b) h = h.undefined

  fill_size : (a b : Filling) → FillOne l new g a b → filling_size a ≡ filling_size b
  fill_size (Pointer a) (Pointer b) h = refl
  fill_size (Pointer a) (Difference n p q) h = absurd h
  fill_size (Pointer a) (Entry n k p q) h = absurd h
  fill_size (Difference n p q) (Pointer b) h = absurd h
  fill_size (Difference n p q) (Difference k r s) h = h.0
  fill_size (Difference n p q) (Entry k j r s) h = absurd h
  fill_size (Entry n i p q) (Pointer b) h = absurd h
  fill_size (Entry n i p q) (Difference k r s) h = absurd h
  fill_size (Entry n i p q) (Entry k j r s) h = h.0

  fill_value : (a b : Filling) → FillOne l new g a b → filling_value l new a ≡ filling_value l g b
  fill_value (Pointer a) (Pointer b) h = ap (λ v. Ok v) h.value
  fill_value (Pointer a) (Difference n p q) h = absurd h
  fill_value (Pointer a) (Entry n k p q) h = absurd h
  fill_value (Difference n p q) (Pointer b) h = absurd h
  fill_value (Difference n p q) (Difference k r s) h =
      ap (λ x. diff_fit x 1 (pos (target_value l new p) -ℤ pos (target_value l new q))) h.0
      ∙ ap (λ x. diff_fit k 1 (pos x -ℤ pos (target_value l new q))) h.1.value
      ∙ ap (λ x. diff_fit k 1 (pos (target_value l g r) -ℤ pos x)) h.2.value
  fill_value (Difference n p q) (Entry k j r s) h = absurd h
  fill_value (Entry n i p q) (Pointer b) h = absurd h
  fill_value (Entry n i p q) (Difference k r s) h = absurd h
  fill_value (Entry n i p q) (Entry k j r s) h =
      ap (λ x. diff_fit x i (pos (target_value l new p) -ℤ pos (target_value l new q))) h.0
      ∙ ap (λ x. diff_fit k x (pos (target_value l new p) -ℤ pos (target_value l new q))) h.1
      ∙ ap (λ x. diff_fit k j (pos x -ℤ pos (target_value l new q))) h.2.value
      ∙ ap (λ x. diff_fit k j (pos (target_value l g r) -ℤ pos x)) h.3.value

  fill_undefined : (a b : Filling) → FillOne l new g a b → undefined_of a ≡ undefined_of b
  fill_undefined (Pointer a) (Pointer b) h = h.undefined
  fill_undefined (Pointer a) (Difference n p q) h = absurd h
  fill_undefined (Pointer a) (Entry n k p q) h = absurd h
  fill_undefined (Difference n p q) (Pointer b) h = absurd h
  fill_undefined (Difference n p q) (Difference k r s) h = ap (λ x. option_or x (undefined_in q)) h.1.undefined ∙ ap (λ x. option_or (undefined_in r) x) h.2.undefined
  fill_undefined (Difference n p q) (Entry k j r s) h = absurd h
  fill_undefined (Entry n i p q) (Pointer b) h = absurd h
  fill_undefined (Entry n i p q) (Difference k r s) h = absurd h
  fill_undefined (Entry n i p q) (Entry k j r s) h = ap (λ x. option_or x (undefined_in q)) h.2.undefined ∙ ap (λ x. option_or (undefined_in r) x) h.3.undefined

  pub same_data : (xs ys : List (ℕ × Filling)) (old bytes : List ℕ) → old ≡ bytes → AllZip (IsOneFilling l new g) xs ys → with_fillings l new xs old ≡ with_fillings l g ys bytes
  same_data [] [] old bytes e h = e
  same_data [] (b ∷ ys) old bytes e h = absurd h
  same_data (a ∷ xs) [] old bytes e h = absurd h
  same_data (a ∷ xs) (b ∷ ys) old bytes e h =
      ap (λ k. overlaid k (bytes_of (filling_size a.1) (fit_or 0 (filling_value l new a.1))) (with_fillings l new xs old)) h.0.at
      ∙ ap (λ k. overlaid b.0 (bytes_of k (fit_or 0 (filling_value l new a.1))) (with_fillings l new xs old)) (fill_size a.1 b.1 h.0.filling)
      ∙ ap (λ v. overlaid b.0 (bytes_of (filling_size b.1) (fit_or 0 v)) (with_fillings l new xs old)) (fill_value a.1 b.1 h.0.filling)
      ∙ ap (overlaid b.0 (bytes_of (filling_size b.1) (fit_or 0 (filling_value l g b.1)))) (same_data xs ys old bytes e h.1)

  pub same_faults : (s t : Stretch) (at : ℕ) (xs ys : List (ℕ × Filling)) → s.id ≡ t.id → AllZip (IsOneFilling l new g) xs ys → filter_map (filling_fault l new s at) xs ≡ filter_map (filling_fault l g t at) ys
  same_faults s t at [] [] e h = refl
  same_faults s t at [] (b ∷ ys) e h = absurd h
  same_faults s t at (a ∷ xs) [] e h = absurd h
  same_faults s t at (a ∷ xs) (b ∷ ys) e h =
      ap (λ u. cons_option (fault_of u (misfit s.id (at + a.0) (filling_value l new a.1))) (filter_map (filling_fault l new s at) xs)) (fill_undefined a.1 b.1 h.0.filling)
      ∙ ap (λ i. cons_option (fault_of (undefined_of b.1) (misfit i (at + a.0) (filling_value l new a.1))) (filter_map (filling_fault l new s at) xs)) e
      ∙ ap (λ k. cons_option (fault_of (undefined_of b.1) (misfit t.id (at + k) (filling_value l new a.1))) (filter_map (filling_fault l new s at) xs)) h.0.at
      ∙ ap (λ v. cons_option (fault_of (undefined_of b.1) (misfit t.id (at + b.0) v)) (filter_map (filling_fault l new s at) xs)) (fill_value a.1 b.1 h.0.filling)
      ∙ ap (cons_option (filling_fault l g t at b)) (same_faults s t at xs ys e h.1)

  pub same_word_fault : (s t : Stretch) (at : ℕ) (a b : Word) → s.id ≡ t.id → IsOneWord l new g a b → word_fault l new s (at, a) ≡ word_fault l g t (at, b)
  same_word_fault s t at a b e h =
      ap (λ u. fault_of u (misfit s.id at (filled_word l new (address_of l s.id + at) a))) (same_undefined a.target b.target h.target)
      ∙ ap (λ v. fault_of (option_and_then undefined_in b.target) (misfit s.id at v)) (same_filled (address_of l s.id + at) a b h)
      ∙ ap (λ i. fault_of (option_and_then undefined_in b.target) (misfit i at (filled_word l g (address_of l i + at) b))) e

  -- ---- intervals

  module _ (named : (b : CodeBlock) → AreNamed b) (m : Module) where
    abbrev IsRelated : Stretch → Stretch → Type 0
    IsRelated s t = IsOneStretch l new g s t

    pub same_bytes : (s t : Stretch) → bare_stretch s ≡ new_stretch m t → Every IsCountedPiece t.pieces → IsOneStretch l new g s t → stretch_bytes l new s ≡ stretch_bytes l g t
    same_bytes s t e counted h =
        let base : ℕ = address_of l s.id in
        let id : s.id ≡ t.id = ap (λ (x : Stretch). x.id) e in
        let start : (a : ℕ) → a ≡ a + 0 = λ a. omega arith in
        ap (λ k. bytes_from l new k (map (λ (x : Placed). record x { at = base + x.at }) (placed s))) (start base)
        ∙ bytes_read l new base 0 (placed s)
        ∙ again ℕ (λ bytes. bytes) refl (λ a b. refl) (word_out l new base) (word_out l g base) (data_out l new base) (data_out l g base) (IsOneWord l new g) (AllZip (IsOneFilling l new g))
        (λ at v w k. ap (λ o. bytes_of 4 (fit_or v.word o)) (same_filled (base + at) v w k) ∙ ap (λ o. bytes_of 4 (fit_or o (filled_word l g (base + at) w))) k.word)
        (λ at c d same k. same_data c.fillings d.fillings c.bytes d.bytes same k)
        named m [] 0 0 t.pieces s.pieces refl counted (ap (λ (x : Stretch). x.pieces) e) h.words h.fillings
        ∙ sym (bytes_read l g base 0 (placed t))
        ∙ sym (ap (λ k. bytes_from l g k (map (λ (x : Placed). record x { at = base + x.at }) (placed t))) (start base))
        ∙ ap (λ i. bytes_from l g (address_of l i) (map (λ (x : Placed). record x { at = address_of l i + x.at }) (placed t))) id

    pub same_stretch_faults : (s t : Stretch) → bare_stretch s ≡ new_stretch m t → Every IsCountedPiece t.pieces → IsOneStretch l new g s t → stretch_faults l new s ≡ stretch_faults l g t
    same_stretch_faults s t e counted h =
        let id : s.id ≡ t.id = ap (λ (x : Stretch). x.id) e in
        faults_read l new s 0 (placed s)
        ∙ again LinkFault (λ bytes. []) refl (λ a b. refl) (word_faults l new s) (word_faults l g t) (data_faults l new s) (data_faults l g t) (IsOneWord l new g) (AllZip (IsOneFilling l new g))
        (λ at v w k. ap option_to_list (same_word_fault s t at v w id k))
        (λ at c d same k. same_faults s t at c.fillings d.fillings id k)
        named m [] 0 0 t.pieces s.pieces refl counted (ap (λ (x : Stretch). x.pieces) e) h.words h.fillings
        ∙ sym (faults_read l g t 0 (placed t))
