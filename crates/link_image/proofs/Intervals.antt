-- The pieces of an interval, one after the other.
use Rattle.std.proofs.Common.{◌≡◌, ℕ, ◌+◌, ◌-◌, ◌<◌, ◌≤◌, Option, None, List, ◌++◌, length, get_or, drop, replicate, sym, ap, subst, ◌∙◌, append_assoc, arith}
use Rattle.std.specs.Option.{option_or}
use Rattle.std.specs.List.{flat_map}
use Rattle.sym_expr.specs.declared.layout.Layout.{Layout}
use Rattle.sym_expr.specs.declared.link_fault.LinkFault.{LinkFault}
use Rattle.sym_expr.specs.declared.program.Piece.{Piece}
use Rattle.sym_expr.specs.declared.program.Program.{Program}
use Rattle.sym_expr.specs.declared.program.Stretch.{Stretch}
use Rattle.sym_expr.specs.Images.{bytes_from, first_fault, piece_bytes, piece_faults, stretch_bytes, stretch_faults}
use Rattle.sym_expr.specs.Layouts.{address_of, least_from}
use Rattle.sym_expr.specs.Placing.{Placed, end_from, new_size, placed, placed_from, step_of, stretch_size}
use Rattle.link_image.specs.Ready.{shifted}
use Rattle.link_image.proofs.DataBytes.{first_fault-append}
use Rattle.link_image.proofs.Lists.{dropped}
use Rattle.link_image.proofs.Lookup.{ends_from}

abbrev pub next_at : ℕ → Piece → ℕ
next_at end p = least_from end (step_of p) 0

module _ (ps : List Piece) (i end : ℕ) (p : Piece) (lt : i < length ps) (is : p ≡ get_or ps i p) where
  -- where the interval ends is where it ended
  pub end_same : end_from (next_at end p + new_size p) (drop (i + 1) ps) ≡ end_from end (drop i ps)
  end_same = sym (ap (end_from end) (dropped ps i p lt is))

  -- the piece ends before
  pub end_most : next_at end p + new_size p ≤ end_from end (drop i ps)
  end_most = let rest = ends_from (next_at end p + new_size p) (drop (i + 1) ps) in let le = rest.0 in let same = end_same in omega arith

  -- its faults, and those behind it
  pub faults_split : (l : Layout) (g : Program) (s : Stretch)
      → first_fault (flat_map (λ (x : Placed). piece_faults l g s x.at x.piece) (placed_from end (drop i ps)))
      ≡ option_or (first_fault (piece_faults l g s (next_at end p) p)) (first_fault (flat_map (λ (x : Placed). piece_faults l g s x.at x.piece) (placed_from (next_at end p + new_size p) (drop (i + 1) ps))))
  faults_split l g s =
      ap (λ qs. first_fault (flat_map (λ (x : Placed). piece_faults l g s x.at x.piece) (placed_from end qs))) (dropped ps i p lt is)
      ∙ first_fault-append (piece_faults l g s (next_at end p) p) (flat_map (λ (x : Placed). piece_faults l g s x.at x.piece) (placed_from (next_at end p + new_size p) (drop (i + 1) ps)))

  regroup : (a b c d : List ℕ) → ((a ++ b) ++ c) ++ d ≡ a ++ ((b ++ c) ++ d)
  regroup a b c d = simp append_assoc

  -- its bytes behind those of the pieces before it, and padding between the two
  pub bytes_more : (l : Layout) (g : Program) (start : ℕ) (out : List ℕ)
      → ((out ++ replicate (next_at end p - end) 0) ++ piece_bytes l g (start + next_at end p) p) ++ bytes_from l g (start + (next_at end p + new_size p)) (shifted start (placed_from (next_at end p + new_size p) (drop (i + 1) ps)))
      ≡ out ++ bytes_from l g (start + end) (shifted start (placed_from end (drop i ps)))
  bytes_more l g start out =
      let at = next_at end p in
      let rest = shifted start (placed_from (at + new_size p) (drop (i + 1) ps)) in
      let sum : start + (at + new_size p) ≡ start + at + new_size p = omega arith in
      let gap : at - end ≡ start + at - (start + end) = omega arith in
      ap (λ a. ((out ++ replicate (at - end) 0) ++ piece_bytes l g (start + at) p) ++ bytes_from l g a rest) sum
      ∙ regroup out (replicate (at - end) 0) (piece_bytes l g (start + at) p) (bytes_from l g (start + at + new_size p) rest)
      ∙ ap (λ n. out ++ ((replicate n 0 ++ piece_bytes l g (start + at) p) ++ bytes_from l g (start + at + new_size p) rest)) gap
      ∙ sym (ap (λ qs. out ++ bytes_from l g (start + end) (shifted start (placed_from end qs))) (dropped ps i p lt is))

-- at first all pieces are left
pub bytes_first : (l : Layout) (g : Program) (s : Stretch) (start : ℕ) → start ≡ address_of l s.id
    → bytes_from l g (start + 0) (shifted start (placed_from 0 s.pieces)) ≡ stretch_bytes l g s
bytes_first l g s start is =
    let same : start + 0 ≡ start = omega arith in
    ap (λ a. bytes_from l g a (shifted start (placed s))) same ∙ ap (λ a. bytes_from l g a (shifted a (placed s))) is

-- a fault that is none, before others
pub none_before : (o : Option LinkFault) (rest all : Option LinkFault) → o ≡ None → all ≡ option_or o rest → rest ≡ all
none_before o rest all none e = sym (e ∙ ap (λ x. option_or x rest) none)

-- what is filled and what is left of an interval
pub record Filled (l : Layout) (g : Program) (s : Stretch) (start i end : ℕ) (out : List ℕ) : Type 0 where
  pub inside : end_from end (drop i s.pieces) ≡ stretch_size s
  pub faults : first_fault (flat_map (λ (x : Placed). piece_faults l g s x.at x.piece) (placed_from end (drop i s.pieces))) ≡ first_fault (stretch_faults l g s)
  pub bytes : out ++ bytes_from l g (start + end) (shifted start (placed_from end (drop i s.pieces))) ≡ stretch_bytes l g s

-- one more piece
pub filled_more : (l : Layout) (g : Program) (s : Stretch) (start i end : ℕ) (p : Piece) (at size : ℕ) (out zeros new : List ℕ) → i < length s.pieces → p ≡ get_or s.pieces i p
    → at ≡ next_at end p → size ≡ new_size p → first_fault (piece_faults l g s at p) ≡ None
    → zeros ≡ out ++ replicate (at - end) 0 → new ≡ zeros ++ piece_bytes l g (start + at) p
    → Filled l g s start i end out → Filled l g s start (i + 1) (at + size) new
filled_more l g s start i end p at size out zeros new lt is at_is size_is none padded filled h =
    let P : ℕ → ℕ → Type 0 = λ a n. first_fault (piece_faults l g s a p) ≡ None → Filled l g s start (i + 1) (a + n) ((out ++ replicate (a - end) 0) ++ piece_bytes l g (start + a) p) in
    let core : P (next_at end p) (new_size p) = λ free. record {
      inside = end_same s.pieces i end p lt is ∙ h.inside;
      faults = none_before _ _ _ free (faults_split s.pieces i end p lt is l g s) ∙ h.faults;
      bytes = bytes_more s.pieces i end p lt is l g start out ∙ h.bytes;
    } in
    subst (Filled l g s start (i + 1) (at + size)) (sym (filled ∙ ap (λ z. z ++ piece_bytes l g (start + at) p) padded))
    (subst (λ n. P at n) (sym size_is) (subst (λ a. P a (new_size p)) (sym at_is) core) none)
