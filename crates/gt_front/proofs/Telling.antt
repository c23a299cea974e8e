-- Facts about files that a desk may tell.
use Rattle.std.proofs.Common.{◌≡◌, List, ℕ, Option, None, Some, subst}
use Rattle.gr_base.specs.Desk.{Files, Told, ToldBoth, SameFiles}

-- a fact about any files, where they are told
pub told_always : (files : Option Files) (P : Files → Type 0) → ((held : Files) → P held) → Told files P
told_always None P f = tt
told_always (Some held) P f = f held

-- a fact about told files, from another
pub told_map : (files : Option Files) (P Q : Files → Type 0) → ((held : Files) → P held → Q held) → Told files P → Told files Q
told_map None P Q f h = tt
told_map (Some held) P Q f h = f held h

-- and from two
pub told_map2 : (files : Option Files) (P Q R : Files → Type 0) → ((held : Files) → P held → Q held → R held)
    → Told files P → Told files Q → Told files R
told_map2 None P Q R f h k = tt
told_map2 (Some held) P Q R f h k = f held h k

-- a fact about the files before a call, from one about those after it
pub told_back : (o m : Option Files) (P Q : Files → Type 0) (R : Files → Files → Type 0) → ((a b : Files) → R a b → P b → Q a)
    → ToldBoth o m R → Told m P → Told o Q
told_back None None P Q R f same h = tt
told_back None (Some b) P Q R f same h = absurd same
told_back (Some a) None P Q R f same h = absurd same
told_back (Some a) (Some b) P Q R f same h = f a b same h

-- a fact about the files around two calls, from one about each
pub both_after : (o m n : Option Files) (P Q R : Files → Files → Type 0) → ((a b c : Files) → P a b → Q b c → R a c)
    → ToldBoth o m P → ToldBoth m n Q → ToldBoth o n R
both_after None None None P Q R f h k = tt
both_after None None (Some c) P Q R f h k = absurd k
both_after None (Some b) n P Q R f h k = absurd h
both_after (Some a) None n P Q R f h k = absurd h
both_after (Some a) (Some b) None P Q R f h k = absurd k
both_after (Some a) (Some b) (Some c) P Q R f h k = f a b c h k

-- a fact about the files around a call, from one about the files before it
pub both_map : (o n : Option Files) (P : Files → Type 0) (Q R : Files → Files → Type 0) → ((a c : Files) → P a → Q a c → R a c)
    → Told o P → ToldBoth o n Q → ToldBoth o n R
both_map None None P Q R f h k = tt
both_map None (Some c) P Q R f h k = absurd k
both_map (Some a) None P Q R f h k = absurd k
both_map (Some a) (Some c) P Q R f h k = f a c h k

-- a fact about the files around a call, from another
pub both_weaken : (o n : Option Files) (Q R : Files → Files → Type 0) → ((a c : Files) → Q a c → R a c) → ToldBoth o n Q → ToldBoth o n R
both_weaken o n Q R f k = both_map o n (λ held. Unit {0}) Q R (λ a c u q. f a c q) (told_always o (λ held. Unit {0}) (λ held. tt)) k

-- files that stayed over two calls
pub same_both : (o m n : Option Files) → ToldBoth o m SameFiles → ToldBoth m n SameFiles → ToldBoth o n SameFiles
same_both o m n = both_after o m n SameFiles SameFiles SameFiles (λ a b c f g other. subst (λ (x : Option (List ℕ)). c other ≡ x) (f other) (g other))

-- a fact about files that nothing touched
pub both_same : (files : Option Files) (R : Files → Files → Type 0) → ((held : Files) → R held held) → ToldBoth files files R
both_same None R f = tt
both_same (Some held) R f = f held
