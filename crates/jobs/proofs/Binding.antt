-- Steps one after another, each of which may stop.
use Rattle.std.proofs.Common.{◌≡◌, Result, Ok, Err, refl, inr, sym, ap, subst}
use Rattle.std.specs.Result.{IsErrAnd}
use Rattle.aux_types.specs.Gives.{◌>>=◌, Gives, Fails}
use Rattle.gr_base.specs.declared.end.End.{End}
use Rattle.gr_base.specs.declared.end.End.TheVariants as ends
use Rattle.jobs.specs.declared.verdict.Refusal.{Refusal}
use Rattle.jobs.specs.Stages.{Stage, GivesOne, GivesSome, Answers, chain, exactly}

-- where the first step gives a value, there follows what the next makes of it
pub bind_ok : {A B F : Type 0} (known : Result A F) (f : A → Result B F) (x : A) → known ≡ Ok x → (known >>= f) ≡ f x
bind_ok known f x e = ap (λ (r : Result _ _). r >>= f) e

-- where it stops, all stops
pub bind_stops : {A B F : Type 0} (known : Result A F) (f : A → Result B F) (e : End F) → Fails e known → Fails e (known >>= f)
bind_stops known f ends.Memory h = tt
bind_stops known f (ends.Fault x) h = ap (λ (r : Result _ _). r >>= f) h

pub exactly_one : {T : Type 0} (given : Result T Refusal) → GivesOne (exactly given)
exactly_one given a b x y = cc

pub exactly_some : {T : Type 0} (given : Result T Refusal) → GivesSome (exactly given)
exactly_some given = (given, refl)

-- a call that gives what is known answers exactly that
pub exactly_gives : {T : Type 0} (made : Result T Refusal) (r : Result T (End Refusal)) → Gives (λ (x : T). x) r made → Answers (exactly made) r
exactly_gives made (Ok value) g = sym g
exactly_gives made (Err (ends.Fault refusal)) g = sym g
exactly_gives made (Err ends.Memory) g = tt

-- a job of known steps stops where its first step does
pub exactly_stops : {S T : Type 0} (known : Result S Refusal) (f : S → Result T Refusal) (end : End Refusal) (r : Result T (End Refusal))
    → Fails end known → IsErrAnd r (λ e. e ≡ end) → Answers (exactly (known >>= f)) r
exactly_stops known f end (Ok value) h w = absurd w
exactly_stops known f (ends.Fault refusal) (Err e) h w =
    subst (λ (x : End Refusal). Answers (exactly (known >>= f)) (Err x)) (sym w) (sym (bind_stops known f (ends.Fault refusal) h))
exactly_stops known f ends.Memory (Err e) h w = subst (λ (x : End Refusal). Answers (exactly (known >>= f)) (Err x)) (sym w) tt

-- a stage, and then a call that gives what is known of its result
pub chain_gives : {S T : Type 0} (first : Stage S) (made : S → Result T Refusal) (mid : S) (r : Result T (End Refusal)) → first (Ok mid)
    → Gives (λ (x : T). x) r (made mid) → Answers (chain first (λ x. exactly (made x))) r
chain_gives first made mid (Ok value) h g = (mid, h, sym g)
chain_gives first made mid (Err (ends.Fault refusal)) h g = inr (mid, h, sym g)
chain_gives first made mid (Err ends.Memory) h g = tt
