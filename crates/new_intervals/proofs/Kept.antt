-- What is kept of the pieces of an interval.
use Rattle.std.proofs.Common.{◌≡◌, ℕ, Bool, List, [], ◌∷◌, find, refl, sym, ap, subst, ◌∙◌, inl, inr}
use Rattle.std.specs.Prelude.{IfSome, Option, Some, None}
use Rattle.std.specs.List.{AllByRecursion as Every, flat_map}
use Rattle.std.proofs.lemmas.Bool.{cases_Bool, cond-true, cond-false}
use Rattle.gt_model.specs.declared.intervals.Block.{Block}
use Rattle.gt_model.specs.declared.intervals.Body.{Body}
use Rattle.gt_model.specs.declared.intervals.Body.TheVariants as bodies
use Rattle.gt_model.specs.declared.modules.Module.{Module}
use Rattle.new_intervals.specs.Blocks.{block_where, parts_where, start_where}
use Rattle.new_intervals.specs.Placed.{AreRoomy, IsRoomy}
use Rattle.new_intervals.proofs.Lists.{flat_same}
use Rattle.sym_expr.specs.Placing.{Placed}

-- what a search finds has what all have
found_has : {X : Type 0} (P : X → Type 0) (test : X → Bool) (xs : List X) (x : X) → Every P xs → find test xs ≡ Some x → P x
found_has P test [] x all e = cc
found_has P test (y ∷ ys) x all e =
    elim (cases_Bool (test y)) [
      | inl passes ↦ let same = sym (cond-true (test y) (Some y) (find test ys) passes) ∙ e in let one : y ≡ x = cc in subst P one all.0
      | inr fails ↦ found_has P test ys x all.1 (sym (cond-false (test y) (Some y) (find test ys) fails) ∙ e)
    ]

pub found_roomy : (o : Option Placed) (test : Placed → Bool) (xs : List Placed) → AreRoomy xs → o ≡ find test xs → IfSome o IsRoomy
found_roomy None test xs roomy e = tt
found_roomy (Some x) test xs roomy e = found_has IsRoomy test xs x roomy (sym e)

-- ---- blocks are the same where the pieces of identifiers are

one_same : (m : Module) (f g : List ℕ → Option Placed) → ((id : List ℕ) → f id ≡ g id) → (offset : ℕ) (body : Body) → let b : Block = record { offset = offset; body = body } in block_where m f b ≡ block_where m g b
one_same m f g h offset bodies.Bare = refl
one_same m f g h offset (bodies.Code uuid size decode_mode) = ap (parts_where m uuid decode_mode) (h uuid)
one_same m f g h offset (bodies.Data uuid size) = ap (λ (o : Option Placed). record { offset = start_where o; body = bodies.Data uuid size } ∷ []) (h uuid)

all_same : (m : Module) (f g : List ℕ → Option Placed) → ((id : List ℕ) → f id ≡ g id) → (bs : List Block) → Every (λ b. block_where m f b ≡ block_where m g b) bs
all_same m f g h [] = tt
all_same m f g h (b ∷ bs) = (one_same m f g h b.offset b.body, all_same m f g h bs)

pub blocks_same : (m : Module) (f g : List ℕ → Option Placed) → ((id : List ℕ) → f id ≡ g id) → (bs : List Block) → flat_map (block_where m f) bs ≡ flat_map (block_where m g) bs
blocks_same m f g h bs = flat_same (block_where m f) (block_where m g) bs (all_same m f g h bs)
