-- The first input that can't be read is one input.
use Rattle.std.proofs.Common.{◌≡◌, List, [], ◌∷◌, ◌++◌, ℕ, ◌<◌, ◌≤◌, ◌^◌, length, None, subst, arith}
use Rattle.std.specs.List.{AllByRecursion}
use Rattle.gr_base.specs.Desk.{Files}
use Rattle.jobs.specs.Inputs.{IsReadable, IsTooLarge}

module _ {X : Type 0} (P : X → Type 0) where
  -- where P fails first, it fails once
  pub first_one : (before1 before2 : List X) (x1 x2 : X) (after1 after2 : List X)
      → before1 ++ x1 ∷ after1 ≡ before2 ++ x2 ∷ after2
      → AllByRecursion P before1 → AllByRecursion P before2 → (P x1 → ⊥) → (P x2 → ⊥) → x1 ≡ x2
  first_one [] [] x1 x2 after1 after2 e all1 all2 bad1 bad2 = cc
  first_one [] (y ∷ ys) x1 x2 after1 after2 e all1 all2 bad1 bad2 =
      let same : y ≡ x1 = cc in absurd (bad1 (subst P same all2.0))
  first_one (y ∷ ys) [] x1 x2 after1 after2 e all1 all2 bad1 bad2 =
      let same : y ≡ x2 = cc in absurd (bad2 (subst P same all1.0))
  first_one (y ∷ ys) (z ∷ zs) x1 x2 after1 after2 e all1 all2 bad1 bad2 =
      let rest : ys ++ x1 ∷ after1 ≡ zs ++ x2 ∷ after2 = cc in
      first_one ys zs x1 x2 after1 after2 rest all1.1 all2.1 bad1 bad2

  -- what holds of all holds of one among them
  pub all_at : (before : List X) (x : X) (after : List X) → AllByRecursion P (before ++ x ∷ after) → P x
  all_at [] x after all = all.0
  all_at (y ∷ ys) x after all = all_at ys x after all.1

-- a file that isn't held can't be read
pub missing_unreadable : (files : Files) (name : List ℕ) → files name ≡ None → IsReadable files name → ⊥
missing_unreadable files name none readable = let some = readable.1 in cc

-- nor can one that is too large
pub large_unreadable : (files : Files) (name : List ℕ) → IsTooLarge files name → IsReadable files name → ⊥
large_unreadable files name large readable =
    let held1 = large.1 in
    let held2 = readable.1 in
    let same : large.0 ≡ readable.0 = cc in
    let more : 2 ^ 26 < length large.0 = large.2 in
    let less : length readable.0 ≤ 2 ^ 26 = readable.2 in
    let less' : length large.0 ≤ 2 ^ 26 = rw same less in
    omega arith

-- a file isn't both held and not held
pub missing_not_large : (files : Files) (name : List ℕ) → files name ≡ None → IsTooLarge files name → ⊥
missing_not_large files name none large = let some = large.1 in cc
