-- The block that an expression stands in, as it is found along blocks in order.
use Rattle.std.proofs.Common.{◌≡◌, ℕ, suc, ◌+◌, ◌*◌, ◌<◌, ◌≤◌, Bool, true, false, cond, nat_lt, nat_le, ◌&&◌, List, [], ◌∷◌, length, drop, None, Some, refl, sym, ap, ◌∙◌, arith, inl, inr}
use Rattle.std.specs.Prelude.{find}
use Rattle.std.specs.List.{prefix_len}
use Rattle.std.proofs.lemmas.Bool.{cases_Bool, ltb-true, ltb-false, leb-true, leb-false, cond-false}
use Rattle.gt_model.specs.declared.intervals.Block.{Block}
use Rattle.ir_check.specs.Along.{ends_by, after, covering}
use Rattle.ir_check.specs.Spans.{rank}
use Rattle.ir_check.proofs.Sorting.{Above, Up, up_sorted, in_order_is}
use Rattle.sym_expr.specs.Modules.{covers, end_of, in_order, is_empty}

one_plus : (n : ℕ) → 1 + n ≡ suc n
one_plus n = omega arith

-- one that ends by the offset is passed over, and one that does not is the first
pub after_ended : (at : ℕ) (b : Block) (bs : List Block) → ends_by at b ≡ true → after at (b ∷ bs) ≡ after at bs
after_ended at b bs e = ap (λ (t : Bool). drop (cond t (1 + prefix_len (ends_by at) bs) 0) (b ∷ bs)) e ∙ ap (λ (n : ℕ). drop n (b ∷ bs)) (one_plus (prefix_len (ends_by at) bs))

pub after_open : (at : ℕ) (b : Block) (bs : List Block) → ends_by at b ≡ false → after at (b ∷ bs) ≡ b ∷ bs
after_open at b bs e = ap (λ (t : Bool). drop (cond t (1 + prefix_len (ends_by at) bs) 0) (b ∷ bs)) e

ended_later : (at later : ℕ) (b : Block) → at ≤ later → ends_by at b ≡ true → ends_by later b ≡ true
ended_later at later b le e = grind (arith, leb-true, leb-false)

-- blocks that were passed over are passed over later too
pub after_after : (at later : ℕ) (bs : List Block) → at ≤ later → after later (after at bs) ≡ after later bs
after_after at later [] le = refl
after_after at later (b ∷ bs) le = elim (cases_Bool (ends_by at b)) [
  | inl ended ↦ ap (after later) (after_ended at b bs ended) ∙ after_after at later bs le ∙ sym (after_ended later b bs (ended_later at later b le ended))
  | inr still ↦ ap (after later) (after_open at b bs still)
]

no_cover_ended : (at : ℕ) (b : Block) → ends_by at b ≡ true → covers at b ≡ false
no_cover_ended at b e = grind (arith, leb-true, leb-false, ltb-true, ltb-false)

cover_begun : (at : ℕ) (b : Block) → ends_by at b ≡ false → nat_le b.offset at ≡ covers at b
cover_begun at b e = grind (arith, leb-true, leb-false, ltb-true, ltb-false)

rank_bound : (b c : Block) → rank b ≤ rank c → b.offset ≤ c.offset
rank_bound b c le = by (is_empty b) (is_empty c) le
  where
    by : (p q : Bool) → (2 * b.offset + cond p 0 1) ≤ (2 * c.offset + cond q 0 1) → b.offset ≤ c.offset
    by true true h = omega arith
    by true false h = omega arith
    by false true h = omega arith
    by false false h = omega arith

not_begun : (at m : ℕ) (c : Block) → at < m → m ≤ c.offset → covers at c ≡ false
not_begun at m c less le = elim (cases_Bool (nat_le c.offset at)) [
  | inl h ↦ absurd (omega (arith, leb-true c.offset at h))
  | inr h ↦ ap (λ (t : Bool). t && nat_lt at (end_of c)) h
]

none_begun : (at : ℕ) (b : Block) (bs : List Block) → at < b.offset → Above rank (rank b) bs → find (covers at) bs ≡ None
none_begun at b [] behind above = refl
none_begun at b (c ∷ cs) behind above =
    cond-false (covers at c) (Some c) (find (covers at) cs) (not_begun at b.offset c behind (rank_bound b c above.0)) ∙ none_begun at b cs behind above.1

pub home_along : (at : ℕ) (bs : List Block) → Up rank bs → covering at (after at bs) ≡ find (covers at) bs
home_along at [] up = refl
home_along at (b ∷ bs) up = elim (cases_Bool (ends_by at b)) [
  | inl ended ↦
      ap (covering at) (after_ended at b bs ended) ∙ home_along at bs up.1 ∙ sym (cond-false (covers at b) (Some b) (find (covers at) bs) (no_cover_ended at b ended))
  | inr still ↦
      ap (covering at) (after_open at b bs still) ∙ ap (λ (t : Bool). cond t (Some b) None) (cover_begun at b still)
      ∙ elim (cases_Bool (covers at b)) [
        | inl has ↦ ap (λ (t : Bool). cond t (Some b) None) has ∙ sym (ap (λ (t : Bool). cond t (Some b) (find (covers at) bs)) has)
        | inr lacks ↦
            ap (λ (t : Bool). cond t (Some b) None) lacks
            ∙ sym (none_begun at b bs (begins_behind at b still lacks) up.0)
            ∙ sym (ap (λ (t : Bool). cond t (Some b) (find (covers at) bs)) lacks)
      ]
]
  where
    begins_behind : (at : ℕ) (b : Block) → ends_by at b ≡ false → covers at b ≡ false → at < b.offset
    begins_behind at b still lacks = grind (arith, leb-true, leb-false, ltb-true, ltb-false)

pub up_in_order : (blocks : List Block) → Up rank (in_order blocks)
up_in_order blocks = rw in_order_is (up_sorted rank blocks)

prefix_cond : (b : Bool) (n m : ℕ) → n ≤ m → cond b (1 + n) 0 ≤ suc m
prefix_cond true n m le = omega arith
prefix_cond false n m le = omega arith

pub prefix_within : (p : Block → Bool) (bs : List Block) → prefix_len p bs ≤ length bs
prefix_within p [] = omega arith
prefix_within p (b ∷ bs) = prefix_cond (p b) (prefix_len p bs) (length bs) (prefix_within p bs)
