-- Facts about what a desk tells, over several calls.
use Rattle.std.proofs.Common.{◌≡◌, ℕ, ◌+◌, ◌≤◌, ◌^◌, ◌-◌, Option, Some, None, arith, refl, ◌∙◌}
use Rattle.gr_base.specs.Desk.{Files, Told, ToldBoth, SameFiles, counted}

-- two calls in a row
pub told_both : (old mid new : Option Files) (P Q R : Files → Files → Type 0) → ((a b c : Files) → P a b → Q b c → R a c) → ToldBoth old mid P → ToldBoth mid new Q → ToldBoth old new R
told_both None None None P Q R join p q = tt
told_both None None (Some c) P Q R join p q = q
told_both None (Some b) new P Q R join p q = absurd p
told_both (Some a) None new P Q R join p q = absurd p
told_both (Some a) (Some b) None P Q R join p q = q
told_both (Some a) (Some b) (Some c) P Q R join p q = join a b c p q

-- no call yet
pub told_none : (files : Option Files) (P : Files → Type 0) (Q : Files → Files → Type 0) → ((a : Files) → P a → Q a a) → Told files P → ToldBoth files files Q
told_none None P Q turn p = tt
told_none (Some a) P Q turn p = turn a p

pub told_same : (files : Option Files) → ToldBoth files files SameFiles
told_same None = tt
told_same (Some a) = λ other. refl

pub same_more : (a b c : Files) → SameFiles a b → SameFiles b c → SameFiles a c
same_more a b c ab bc = λ other. bc other ∙ ab other

-- facts before a call that leaves the files, of facts before and after it
pub told_back : (old now : Option Files) (P Q R : Files → Type 0) → ((a b : Files) → SameFiles a b → P a → Q b → R a) → ToldBoth old now SameFiles → Told old P → Told now Q → Told old R
told_back None None P Q R join same p q = tt
told_back None (Some b) P Q R join same p q = absurd same
told_back (Some a) None P Q R join same p q = absurd same
told_back (Some a) (Some b) P Q R join same p q = join a b same p q

-- a fact that follows from another
pub told_as : (files : Option Files) (P Q : Files → Type 0) → ((a : Files) → P a → Q a) → Told files P → Told files Q
told_as None P Q turn p = tt
told_as (Some a) P Q turn p = turn a p

-- a fact that always holds
pub told_each : (files : Option Files) (P : Files → Type 0) → ((a : Files) → P a) → Told files P
told_each None P each = tt
told_each (Some a) P each = each a

-- a count after so many, and so many more
pub counted_more : (count first more : ℕ) → counted (counted count first) more ≡ counted count (first + more)
counted_more count first more = omega arith

pub counted_none : (count : ℕ) → count ≤ 2 ^ 64 - 1 → count ≡ counted count 0
counted_none count fits = omega arith
