-- Memory has the word of each point, its operand filled for its target.
use Rattle.std.proofs.Common.{◌≡◌, ℕ, ◌+◌, ◌*◌, ◌^◌, ◌<◌, Option, Some, None, IfSome, IsSome, Result, Ok, List, [], ◌∷◌, length, pos, refl, sym, ap, subst, ◌∙◌, arith}
use Rattle.std.specs.Int.{int_div_euclid}
use Rattle.std.specs.Option.{option_and_then, option_map_or}
use Rattle.std.specs.List.{AllByRecursion as Every}
use Rattle.std.specs.Str.{bytes_eq}
use Rattle.std.proofs.lemmas.Bool.{false≢true}
use Rattle.std.proofs.lemmas.Nat.{pow_pos}
use Rattle.std.proofs.lemmas.Option.{none-some}
use Rattle.a64_inst.specs.declared.filling.FitFault.{FitFault}
use Rattle.a64_inst.specs.declared.filling.FitFault.TheVariants.{Range, Unaligned}
use Rattle.a64_inst.specs.declared.kind.Kind.{Kind}
use Rattle.a64_inst.specs.declared.kind.Kind.TheVariants.{Rel26, Rel19, Rel14, Adr, Page, Low12}
use Rattle.a64_inst.specs.declared.kind.Operand.{Operand}
use Rattle.a64_inst.specs.Fitting.{fit, is_aligned, is_in_range, operand_value, units_of, with_operand}
use Rattle.a64_inst.specs.Kinds.{operand, operand_kind}
use Rattle.paged_memory.specs.Mapping.{Mapping, word_at as number_of_word}
use Rattle.sym_expr.specs.declared.layout.Layout.{Layout}
use Rattle.sym_expr.specs.declared.point.Point.{Point}
use Rattle.sym_expr.specs.declared.program.CodeBlock.{CodeBlock}
use Rattle.sym_expr.specs.declared.program.Piece.{Piece}
use Rattle.sym_expr.specs.declared.program.Program.{Program}
use Rattle.sym_expr.specs.declared.program.Word.{Word}
use Rattle.sym_expr.specs.declared.target.Target.{Target}
use Rattle.sym_expr.specs.declared.target.Target.TheVariants.{Number, Address, Code, Undefined}
use Rattle.sym_expr.specs.Images.{all_words, bytes_of, filled_word, fit_or, fitted, inserted_below, is_block, link_fault, operand_of, target_value, undefined_in, words_at}
use Rattle.sym_expr.specs.Layouts.{accepted}
use Rattle.sym_expr.specs.Placing.{Placed, shape_of}
use Rattle.sym_expr.specs.Points.{code_at, code_blocks, word_at, word_in}
use Rattle.sym_expr.specs.WellMade.{IsCode, IsInserted, IsPoint, IsThere, IsWord, well_made}
use Rattle.simulation.specs.Placement.{placement_of, target_number}
use Rattle.simulation.specs.Meant.{IsTarget}
use Rattle.simulation.specs.Held.{HasCode, HasFilled, HasOperand, HasWord}
use Rattle.placed_images.specs.Typed.{IsTyped, IsTypedCode, IsTypedTarget, IsTypedWord}
use Rattle.placed_images.proofs.Differences.{fitted_in}
use Rattle.placed_images.proofs.Faults.{Fits, HasFit, WordFits, all_fit}
use Rattle.placed_images.proofs.Found.{all_addressed}
use Rattle.placed_images.proofs.Lengths.{HasPiece, length-bytes_of, words_bytes}
use Rattle.placed_images.proofs.Lists.{every_both, every_weaker, found_one}
use Rattle.placed_images.proofs.Loaded.{memory_of, pieces_loaded}
use Rattle.placed_images.proofs.Memory.{Holds, holds_at, holds_back, holds_front}
use Rattle.placed_images.proofs.Numbers.{holds_number, number_of_bytes, rest_small}
use Rattle.placed_images.proofs.Points.{address, code_good, place}
use Rattle.placed_images.proofs.Words.{at_point, every_placed, every_word}

-- ---- filled words

filled_small : (kind : Kind) (n word : ℕ) → n < 2 ^ ((operand kind).low.width + (operand kind).high.width) → word < 2 ^ 32 → with_operand (operand kind) n word < 2 ^ 32
filled_small Rel26 n word lt small = omega arith
filled_small Rel19 n word lt small = omega arith
filled_small Rel14 n word lt small = omega arith
filled_small Adr n word lt small = omega arith
filled_small Page n word lt small = omega arith
filled_small (Low12 unit) n word lt small = omega arith

units_small : (o : Operand) (value : _) → units_of o value < 2 ^ (o.low.width + o.high.width)
units_small o value = rest_small (int_div_euclid value (pos o.unit)) (2 ^ (o.low.width + o.high.width)) (pow_pos (o.low.width + o.high.width))

fit_small : (kind : Kind) (at target word filled : ℕ) → word < 2 ^ 32 → fit kind at target word ≡ Ok filled → filled < 2 ^ 32
fit_small kind at target word filled small e =
    let o = operand kind in
    let value = operand_value kind at target in
    let same = (fitted_in (is_in_range o value) (is_aligned o value) (Range value) (Unaligned value) (with_operand o (units_of o value) word) filled e).1 in
    let P : ℕ → Type 0 = λ n. n < 2 ^ 32 in
    subst P same (filled_small kind (units_of o value) word (units_small o value) small)

-- ---- targets

pub target_same : (l : Layout) (g : Program) (t : Target) → target_number (placement_of l g) g t ≡ target_value l g t
target_same l g (Number n) = refl
target_same l g (Address block offset) = refl
target_same l g (Code p) = refl
target_same l g (Undefined symbol) = refl

pub is_target : (g : Program) (t : Target) → IsThere g t → IsTypedTarget t → undefined_in t ≡ None → IsTarget g t
is_target g (Number n) there typed defined = typed
is_target g (Address block offset) there typed defined = (there, typed)
is_target g (Code p) there typed defined = there
is_target g (Undefined symbol) there typed defined = absurd (none-some symbol (sym defined))

-- ---- one word

-- memory has the number of a word
has_number : (m : Mapping) (at n : ℕ) → n < 2 ^ 32 → Holds m at (bytes_of 4 n) → number_of_word m at ≡ Some n
has_number m at n small h = holds_number m (bytes_of 4 n) at h ∙ ap Some (number_of_bytes 4 n small)

some_kind : (o : Option Kind) → IsSome o → (kind : Kind) × (o ≡ Some kind)
some_kind None some = absurd (false≢true some)
some_kind (Some kind) some = (kind, refl)

module _ (l : Layout) (g : Program) (m : Mapping) (at : ℕ) where
  -- a word with a target
  has_filled : (word : ℕ) (t : Target) (kind : Kind) (n : ℕ) → word < 2 ^ 32 → operand_kind word ≡ Some kind → IsTarget g t → operand_of l g at word t ≡ Ok n → Holds m at (bytes_of 4 n) → HasFilled (placement_of l g) g m at word t
  has_filled word t kind n small is target fits h =
      let here : operand_of l g at word t ≡ fit kind at (target_value l g t) word = ap (λ (o : Option Kind). option_map_or (fitted l g at word t) o (Ok word)) is in
      let value : fit kind at (target_value l g t) word ≡ Ok n = sym here ∙ fits in
      record {
        target = target;
        kind = kind;
        has_kind = is;
        filled = n;
        fits = ap (λ v. fit kind at v word) (target_same l g t) ∙ value;
        stands = has_number m at n (fit_small kind at (target_value l g t) word n small value) h;
      }

  has_operand : (word : ℕ) (t : Option Target) → word < 2 ^ 32 → IfSome t IsTypedTarget → IfSome t (λ u. IsSome (operand_kind word) × IsThere g u) → option_and_then undefined_in t ≡ None → Fits (filled_word l g at (record { word = word; target = t }))
      → Holds m at (bytes_of 4 (fit_or word (filled_word l g at (record { word = word; target = t })))) → HasOperand (placement_of l g) g m at word t
  has_operand word None small typed there defined fits h = has_number m at word small h
  has_operand word (Some t) small typed there defined fits h =
      let kind = some_kind (operand_kind word) there.0 in
      let P : Result ℕ FitFault → Type 0 = λ r. Holds m at (bytes_of 4 (fit_or word r)) in
      has_filled word t kind.0 fits.0 small kind.1 (is_target g t there.1 typed defined) fits.1 (subst P fits.1 h)

  -- what is known of a word at an address
  abbrev pub Stood : Word → Type 0
  Stood w = (Holds m at (bytes_of 4 (fit_or w.word (filled_word l g at w))) × WordFits l g at w) × (IsWord g w × IsTypedWord w)

  has_word : (w : Word) → Stood w → HasWord (placement_of l g) g m at w
  has_word w h = record { small = h.1.1.0; stands = has_operand w.word w.target h.1.1.0 h.1.1.1 h.1.0 h.0.1.0 h.0.1.1 h.0.0 }

-- ---- all words

module _ (l : Layout) (g : Program) where
  abbrev HeldWord : Mapping → ℕ → Word → Type 0
  HeldWord m at w = Holds m at (bytes_of 4 (fit_or w.word (filled_word l g at w)))

  words_held : (m : Mapping) (at : ℕ) (ws : List Word) → Holds m at (words_bytes l g at ws) → Every (λ (w : ℕ × Word). HeldWord m w.0 w.1) (words_at at ws)
  words_held m at [] h = tt
  words_held m at (w ∷ ws) h =
      let here = bytes_of 4 (fit_or w.word (filled_word l g at w)) in
      let size = length-bytes_of 4 (fit_or w.word (filled_word l g at w)) in (
        holds_front m here (words_bytes l g (at + 4) ws) at h,
        words_held m (at + 4) ws (holds_at m (at + length here) (at + 4) (words_bytes l g (at + 4) ws) (omega arith) (holds_back m here (words_bytes l g (at + 4) ws) at h)),
      )

  module _ (well : well_made g) (typed : IsTyped g) (laid : accepted l (shape_of g)) (none : link_fault g l ≡ None) where
    code_typed : (id : List ℕ) (b : CodeBlock) → code_at g id ≡ Some b → IsTypedCode b
    code_typed id b e = (found_one (λ (c : CodeBlock). bytes_eq c.id id) IsTypedCode (code_blocks g) b typed.codes e).1

    -- what is known of all words of a block
    abbrev IsFine : Word → Type 0
    IsFine w = IsWord g w × IsTypedWord w

    all_fine : (b : CodeBlock) → IsCode g b → IsTypedCode b → Every IsFine (all_words b)
    all_fine b is t =
        every_word IsFine b 0 b.own
        (every_both (λ (w : ℕ × Word). IsWord g w.1) (λ (w : ℕ × Word). IsTypedWord w.1) b.inserted (every_weaker (IsInserted g b) (λ (w : ℕ × Word). IsWord g w.1) (λ w h. h.2) b.inserted is.inserted) t.inserted)
        (every_both (IsWord g) IsTypedWord b.own is.own t.own)

    -- what is known of the piece of a point's block
    piece_known : (p : Point) (is : IsPoint g p) → HasPiece l g (memory_of l g) (place l g well p is).place × HasFit l g (place l g well p is).place
    piece_known p is =
        (found_one (λ (x : Placed). is_block p.block x.piece) (λ x. HasPiece l g (memory_of l g) x × HasFit l g x) (all_addressed l g) (place l g well p is).place
        (every_both (HasPiece l g (memory_of l g)) (HasFit l g) (all_addressed l g) (pieces_loaded l g well laid) (all_fit l g none)) (place l g well p is).found).1

    all_stood : (p : Point) (is : IsPoint g p) → Every (λ (w : ℕ × Word). Stood l g (memory_of l g) w.0 w.1) (words_at (place l g well p is).place.at (all_words is.block))
    all_stood p is =
        let at = (place l g well p is).place.at in
        let P : Piece → Type 0 = λ q. HasPiece l g (memory_of l g) (record { at = at; piece = q }) × HasFit l g (record { at = at; piece = q }) in
        let known = subst P (place l g well p is).piece (piece_known p is) in
        every_both (λ (w : ℕ × Word). HeldWord (memory_of l g) w.0 w.1 × WordFits l g w.0 w.1) (λ (w : ℕ × Word). IsFine w.1) (words_at at (all_words is.block))
        (every_both (λ (w : ℕ × Word). HeldWord (memory_of l g) w.0 w.1) (λ (w : ℕ × Word). WordFits l g w.0 w.1) (words_at at (all_words is.block)) (words_held (memory_of l g) at (all_words is.block) known.0) known.1)
        (every_placed IsFine at (all_words is.block) (all_fine is.block (code_good l g well p.block is.block is.found) (code_typed p.block is.block is.found)))

    pub has_code : HasCode (placement_of l g) g (memory_of l g)
    has_code p w is e =
        let here : word_at g p ≡ word_in is.block p = ap (λ (o : Option CodeBlock). option_and_then (λ b. word_in b p) o) is.found in
        let stood = at_point (λ a v. Stood l g (memory_of l g) a v) g is.block (code_good l g well p.block is.block is.found) (place l g well p is).place.at p w is.whole is.inside is.passed (all_stood p is) (sym here ∙ e) in
        let P : ℕ → Type 0 = λ a. HasWord (placement_of l g) g (memory_of l g) a w in
        subst P (sym (address l g well p is)) (has_word l g (memory_of l g) ((place l g well p is).place.at + (p.offset + (4 * inserted_below p.offset is.block + 4 * p.j))) w stood)
