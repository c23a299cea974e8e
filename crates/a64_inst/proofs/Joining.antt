-- Pieces joined one after the other, as a loop does.
use Rattle.std.proofs.Common.{◌≡◌, ℕ, suc, ◌+◌, ◌-◌, ◌*◌, ◌%◌, ◌^◌, ◌<◌, ◌≤◌, IsTrue, nat_lt, nat_le, ◌&&◌, List, ◌∷◌, length, get_or, drop, drop-cons, add-one, sym, ap, subst, ◌∙◌, arith}
use Rattle.std.specs.List.{list_all}
use Rattle.std.proofs.lemmas.Bool.{and_parts, ltb-true, leb-true}
use Rattle.std.proofs.Math.Nat.{mod-eq_of_lt}
use Rattle.std.proofs.lemmas.Nat.{pow-add, pow_pos, mul-le}
use Rattle.a64_inst.specs.Pieces.{fits_piece, has_room, joined_pieces}

-- what holds of the pieces that are left and of the word so far
pub record Joins (place : ℕ) (pieces : List (ℕ × ℕ)) (word total : ℕ) : Type 0 where
  pub room : IsTrue (has_room place pieces)
  pub value : IsTrue (list_all fits_piece pieces)
  pub whole : word + joined_pieces place pieces ≡ total
  pub below : word + 2 ^ place ≤ 2 ^ 32

-- a piece more
pub Joins-next : (place width value : ℕ) (pieces : List (ℕ × ℕ)) (word total : ℕ) → Joins place ((width, value) ∷ pieces) word total → Joins (place - width) pieces (word + value * 2 ^ (place - width) % 4294967296) total
Joins-next place width value pieces word total h =
    let room = and_parts (nat_le width place) (nat_lt (place - width) 32 && has_room (place - width) pieces) h.room in
    let rest = and_parts (nat_lt (place - width) 32) (has_room (place - width) pieces) room.1 in
    let values = and_parts (fits_piece (width, value)) (list_all fits_piece pieces) h.value in
    let fits = and_parts (nat_lt width 32) (nat_lt value (2 ^ width)) values.0 in
    let within : width ≤ place = leb-true _ _ room.0 in
    let small : value < 2 ^ width = ltb-true _ _ fits.1 in
    let end = place - width in
    let split : end + width ≡ place = omega arith in
    let powers : 2 ^ end * 2 ^ width ≡ 2 ^ place = sym (pow-add 2 end width) ∙ ap (λ (k : ℕ). 2 ^ k) split in
    let much : (value + 1) * 2 ^ end ≤ 2 ^ width * 2 ^ end = mul-le (value + 1) (2 ^ end) (2 ^ width) (2 ^ end) (omega arith) (omega arith) in
    let room_left : value * 2 ^ end + 2 ^ end ≤ 2 ^ place = omega (arith, powers, much) in
    let kept : value * 2 ^ end % 4294967296 ≡ value * 2 ^ end = mod-eq_of_lt (omega (arith, pow_pos end, h.below, room_left)) in
    record {
      room = rest.1;
      value = values.1;
      whole = rw kept (omega (arith, h.whole));
      below = rw kept (omega (arith, h.below, room_left));
    }

-- the same at a place of a list of pieces
pub Joins-at : (pieces : List (ℕ × ℕ)) (i place word total : ℕ) → i < length pieces → Joins place (drop i pieces) word total
    → Joins (place - (get_or pieces i (0, 0)).0) (drop (i + 1) pieces) (word + (get_or pieces i (0, 0)).1 * 2 ^ (place - (get_or pieces i (0, 0)).0) % 4294967296) total
Joins-at pieces i place word total lt h =
    rw add-one (Joins-next place (get_or pieces i (0, 0)).0 (get_or pieces i (0, 0)).1 (drop (suc i) pieces) word total (subst (λ (ps : List (ℕ × ℕ)). Joins place ps word total) (drop-cons pieces i (0, 0) lt) h))

-- the word stays in 32 bits
pub Joins-fits : (place word total : ℕ) (pieces : List (ℕ × ℕ)) → Joins place pieces word total → word < 2 ^ 32
Joins-fits place word total pieces h = omega (arith, pow_pos place, h.below)
