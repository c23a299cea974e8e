-- Pieces once more say what the pieces say, where their words and data do.
use Rattle.std.proofs.Common.{◌≡◌, ℕ, ◌+◌, ◌-◌, ◌*◌, ◌≤◌, List, [], ◌∷◌, ◌++◌, length, map, replicate, refl, sym, ap, ◌∙◌, subst, arith}
use Rattle.std.specs.Prelude.{◌==◌}
use Rattle.std.specs.List.{AllByRecursion as Every, AllZip, flat_map}
use Rattle.std.proofs.lemmas.List.{append-nil, append_assoc, length-append, length-map, length-replicate}
use Rattle.std.proofs.lemmas.List.Concat.{flat_map-append}
use Rattle.block_parts.specs.declared.words.PatchedWord.{PatchedWord}
use Rattle.block_parts.specs.Parts.{cut_words, parts}
use Rattle.block_parts.specs.Words.{patched_words}
use Rattle.gt_model.specs.declared.modules.Module.{Module}
use Rattle.repaired_programs.specs.Named.{piece_fillings, piece_words}
use Rattle.repaired_programs.specs.Pieces.{bare_piece, gap_of, new_pieces, part_piece}
use Rattle.sym_expr.specs.declared.program.CodeBlock.{CodeBlock}
use Rattle.sym_expr.specs.declared.program.DataBlock.{DataBlock}
use Rattle.sym_expr.specs.declared.program.Filling.{Filling}
use Rattle.sym_expr.specs.declared.program.Piece.{Piece}
use Rattle.sym_expr.specs.declared.program.Piece.TheVariants.{Code as CodePiece, Data as DataPiece, Gap}
use Rattle.sym_expr.specs.declared.program.Word.{Word}
use Rattle.sym_expr.specs.Images.{all_words}
use Rattle.sym_expr.specs.Layouts.{least_from}
use Rattle.sym_expr.specs.Placing.{placed_from}
use Rattle.sym_expr.specs.Points.{data_size, object_alignment}
use Rattle.repaired_programs.proofs.Bare.{AreNamed}
use Rattle.repaired_programs.proofs.Becomes.{cut_count}
use Rattle.repaired_programs.proofs.Known.{IsCounted, IsCountedPiece}
use Rattle.repaired_programs.proofs.Readings.{data_cut, data_from, gap_cut, gap_fillings, gap_from, gap_words, part_cut, parts_from_here, quiet_fillings, read, read_words, same_words, zip_back, zip_front}
use Rattle.repaired_programs.proofs.Spots.{no_padding}

all_count : (b : CodeBlock) → AreNamed b → length (all_words b) ≡ length (patched_words b)
all_count b named =
    sym (length-map (all_words b) (λ (w : Word). w.word)) ∙ sym (ap length named) ∙ length-map (patched_words b) (λ (w : PatchedWord). w.word)

nothing_behind : {X : Type 0} (f : List Piece → List X) (ps : List Piece) → f [] ≡ [] → map bare_piece ps ≡ [] → f ps ≡ []
nothing_behind f [] e h = e
nothing_behind f (p ∷ ps) e h = let n = ap length h in absurd (omega (arith, n))

module _
    (X : Type 0) (G : List ℕ → List X) (nil : G [] ≡ []) (add : (a b : List ℕ) → G (a ++ b) ≡ G a ++ G b) (V W : ℕ → Word → List X) (C D : ℕ → DataBlock → List X)
    (R : Word → Word → Type 0) (Q : List (ℕ × Filling) → List (ℕ × Filling) → Type 0) (same_word : (at : ℕ) (v w : Word) → R v w → V at v ≡ W at w)
    (same_data : (at : ℕ) (c d : DataBlock) → c.bytes ≡ d.bytes → Q c.fillings d.fillings → C at c ≡ D at d) (named : (b : CodeBlock) → AreNamed b) (m : Module) where
  abbrev now : ℕ → List Piece → List X
  now at ps = read G V C at (placed_from at ps)

  abbrev before : ℕ → List Piece → List X
  before at ps = read G W D at (placed_from at ps)

  -- the pieces say one thing behind a gap
  abbrev IsAgain : List ℕ → ℕ → ℕ → List Piece → List Piece → Type 0
  IsAgain gap start end qs ps =
      start + length gap ≡ end → Every IsCountedPiece qs → map bare_piece ps ≡ new_pieces m gap end (placed_from end qs)
      → AllZip R (flat_map piece_words ps) (flat_map piece_words qs) → AllZip Q (flat_map piece_fillings ps) (flat_map piece_fillings qs)
      → now start ps ≡ G gap ++ before end qs

  padded : (gap : List ℕ) (k : ℕ) (rest : List X) → G (gap ++ replicate k 0) ++ rest ≡ G gap ++ (G (replicate k 0) ++ rest)
  padded gap k rest = ap (λ l. l ++ rest) (add gap (replicate k 0)) ∙ append_assoc (G gap) (G (replicate k 0)) rest

  no_gap : (rest : List X) → G [] ++ rest ≡ rest
  no_gap rest = ap (λ l. l ++ rest) nil

  place_behind : (start end place : ℕ) (gap : List ℕ) → start + length gap ≡ end → end ≤ place → start + length (gap ++ replicate (place - end) 0) ≡ place
  place_behind start end place gap e le =
      let zeros : List ℕ = replicate (place - end) 0 in
      let all = length-append gap zeros in
      let padding : length zeros ≡ place - end = length-replicate (place - end) 0 in
      omega (arith, all, padding, e, le)

  last_again : (gap : List ℕ) (start end : ℕ) (ps : List Piece) → IsAgain gap start end [] ps
  last_again gap start end ps e counted same words fillings =
      let c = gap_cut gap ps [] (same ∙ sym (append-nil (gap_of gap))) in
      ap (now start) c.whole
      ∙ gap_from X G V C nil start gap (length gap == 0) c.back refl
      ∙ ap (λ l. G gap ++ l) (nothing_behind (now (start + length gap)) c.back refl c.rest)

  gap_again : (gap bytes : List ℕ) (start end : ℕ) (qs ps : List Piece)
      → ((next : ℕ) → IsAgain (gap ++ bytes) start next qs ps) → IsAgain gap start end (Gap bytes ∷ qs) ps
  gap_again gap bytes start end qs ps rest e counted same words fillings =
      let still = no_padding end 1 (omega arith) in
      let place : ℕ = least_from end 1 0 in
      let next : ℕ = place + length bytes in
      let none : place - end ≡ 0 = omega (arith, still) in
      let size = length-append gap bytes in
      rest next (omega (arith, size, still, e)) counted.1 same words fillings
      ∙ ap (λ l. l ++ before next qs) (add gap bytes)
      ∙ append_assoc (G gap) (G bytes) (before next qs)
      ∙ ap (λ l. G gap ++ l) (sym (no_gap (G bytes ++ before next qs)) ∙ ap (λ k. G (replicate k 0) ++ (G bytes ++ before next qs)) (sym none))

  data_again : (gap : List ℕ) (start end : ℕ) (b : DataBlock) (qs ps : List Piece)
      → ((next : ℕ) (back : List Piece) → IsAgain [] next next qs back) → IsAgain gap start end (DataPiece b ∷ qs) ps
  data_again gap start end b qs ps rest e counted same words fillings =
      let place : ℕ = least_from end (object_alignment b) 0 in
      let next : ℕ = place + data_size b in
      let bytes : List ℕ = gap ++ replicate (place - end) 0 in
      let behind : List Piece = new_pieces m [] next (placed_from next qs) in
      let c = gap_cut bytes ps (DataPiece (record b { offset = place; fillings = [] }) ∷ behind) same in
      let d = data_cut place b c.back behind c.rest in
      let tail : List Piece = DataPiece d.own ∷ d.back in
      let whole : ps ≡ gap_of bytes ++ tail = c.whole ∙ ap (λ l. gap_of bytes ++ l) d.whole in
      let there : start + length bytes ≡ place = place_behind start end place gap e (omega arith) in
      let zip_words : AllZip R (flat_map piece_words d.back) (flat_map piece_words qs) =
      subst (λ l. AllZip R l (flat_map piece_words qs)) (ap (flat_map piece_words) whole ∙ gap_words bytes (length bytes == 0) tail) words in
      let zip_fillings : AllZip Q (d.own.fillings ∷ flat_map piece_fillings d.back) (b.fillings ∷ flat_map piece_fillings qs) =
      subst (λ l. AllZip Q l (b.fillings ∷ flat_map piece_fillings qs)) (ap (flat_map piece_fillings) whole ∙ gap_fillings bytes (length bytes == 0) tail) fillings in
      let size : place + length d.own.bytes ≡ next = ap (λ (l : List ℕ). place + length l) d.bytes in
      ap (now start) whole
      ∙ gap_from X G V C nil start bytes (length bytes == 0) tail refl
      ∙ ap (λ k. G bytes ++ now k tail) there
      ∙ ap (λ l. G bytes ++ l) (data_from X G V C nil place d.own d.back d.offset
      ∙ ap (λ l. l ++ now (place + length d.own.bytes) d.back) (same_data place d.own b d.bytes zip_fillings.0)
      ∙ ap (λ k. D place b ++ now k d.back) size
      ∙ ap (λ l. D place b ++ l) (rest next d.back (omega arith) counted.1 d.rest zip_words zip_fillings.1 ∙ no_gap (before next qs)))
      ∙ padded gap (place - end) (D place b ++ before next qs)

  code_again : (gap : List ℕ) (start end : ℕ) (b : CodeBlock) (qs ps : List Piece)
      → ((next : ℕ) (back : List Piece) → IsAgain [] next next qs back) → IsAgain gap start end (CodePiece b ∷ qs) ps
  code_again gap start end b qs ps rest e counted same words fillings =
      let place : ℕ = least_from end 1 0 in
      let next : ℕ = place + 4 * (length b.own + length b.inserted) in
      let bytes : List ℕ = gap ++ replicate (place - end) 0 in
      let behind : List Piece = new_pieces m [] next (placed_from next qs) in
      let c = gap_cut bytes ps (map (part_piece m b.id place) (parts b) ++ behind) same in
      let d = part_cut m b.id place 0 (cut_words (patched_words b)) c.back behind c.rest in
      let its : List Word = flat_map piece_words d.front in
      let tail : List Piece = d.front ++ d.back in
      let whole : ps ≡ gap_of bytes ++ tail = c.whole ∙ ap (λ l. gap_of bytes ++ l) d.whole in
      let there : start + length bytes ≡ place = place_behind start end place gap e (omega arith) in
      let one : IsCounted b = counted.0 in
      let cut = cut_count (patched_words b) in
      let all = all_count b (named b) in
      let its_size = d.size in
      let level : length its ≡ length (all_words b) = omega (arith, cut, all, its_size) in
      let last : place + 4 * length its ≡ next = omega (arith, cut, its_size, one) in
      let zip_words : AllZip R (its ++ flat_map piece_words d.back) (all_words b ++ flat_map piece_words qs) =
      subst (λ l. AllZip R l (all_words b ++ flat_map piece_words qs)) (ap (flat_map piece_words) whole ∙ gap_words bytes (length bytes == 0) tail ∙ flat_map-append piece_words d.front d.back) words in
      let zip_fillings : AllZip Q (flat_map piece_fillings d.back) (flat_map piece_fillings qs) =
      subst (λ l. AllZip Q l (flat_map piece_fillings qs)) (ap (flat_map piece_fillings) whole ∙ gap_fillings bytes (length bytes == 0) tail ∙ quiet_fillings d.front d.back d.quiet) fillings in
      let own_zip = zip_front R its (flat_map piece_words d.back) (all_words b) (flat_map piece_words qs) level zip_words in
      let back_zip = zip_back R its (flat_map piece_words d.back) (all_words b) (flat_map piece_words qs) level zip_words in
      ap (now start) whole
      ∙ gap_from X G V C nil start bytes (length bytes == 0) tail refl
      ∙ ap (λ k. G bytes ++ now k tail) there
      ∙ ap (λ l. G bytes ++ l) (parts_from_here X G V C nil place d.front d.back d.quiet
      ∙ ap (λ l. l ++ now (place + 4 * length its) d.back) (same_words V W R same_word place its (all_words b) own_zip)
      ∙ ap (λ k. read_words W place (all_words b) ++ now k d.back) last
      ∙ ap (λ l. read_words W place (all_words b) ++ l) (rest next d.back (omega arith) counted.1 d.rest back_zip zip_fillings ∙ no_gap (before next qs)))
      ∙ padded gap (place - end) (read_words W place (all_words b) ++ before next qs)

  pub again : (gap : List ℕ) (start end : ℕ) (qs ps : List Piece) → IsAgain gap start end qs ps
  again gap start end [] ps = last_again gap start end ps
  again gap start end (CodePiece b ∷ qs) ps = code_again gap start end b qs ps (λ next back. again [] next next qs back)
  again gap start end (DataPiece b ∷ qs) ps = data_again gap start end b qs ps (λ next back. again [] next next qs back)
  again gap start end (Gap bytes ∷ qs) ps = gap_again gap bytes start end qs ps (λ next. again (gap ++ bytes) start next qs ps)
