-- Members of sets, and entries, one further.
use Rattle.std.proofs.Common.{◌≡◌, ℕ, zero, suc, ◌+◌, ◌<◌, List, [], ◌∷◌, ◌++◌, length, get_or, map, take, drop, refl, sym, ap, subst, ◌∙◌, arith}
use Rattle.aux_types.specs.Shape.{Plain, Set}
use Rattle.aux_types.specs.declared.name.Scalar.TheVariants as s
use Rattle.aux_codec.specs.Spelling.{Each, EachEntry, HasType}
use Rattle.aux_codec.specs.Value.{Value, Str, Truth, Id, Number, Signed, At, Four, Eight, Many, Pairs, Parts, Choice, Values, none, more, Entries, no_entry, entry, values, entries, count, count_entries}
use Rattle.edge_repair.specs.Sets.{before, with_parts, sets_with_parts, with_functions, function_id}
use Rattle.gt_model.specs.declared.modules.Module.{Module}
use Rattle.function_tables.specs.Functions.{HasFewParts}
use Rattle.sym_expr.specs.declared.patches.Function.{Function}

-- members before others
abbrev pub members_before : List Value → Values → Values
members_before [] xs = xs
members_before (v ∷ vs) xs = more v (members_before vs xs)

pub before_ids : (ids : List (List ℕ)) (xs : Values) → members_before (map Id ids) xs ≡ before ids xs
before_ids [] xs = refl
before_ids (id ∷ ids) xs = ap (more (Id id)) (before_ids ids xs)

pub all_before : (vs : List Value) → members_before vs none ≡ values vs
all_before [] = refl
all_before (v ∷ vs) = ap (more v) (all_before vs)

pub before_both : (vs ws : List Value) (xs : Values) → members_before (vs ++ ws) xs ≡ members_before vs (members_before ws xs)
before_both [] ws xs = refl
before_both (v ∷ vs) ws xs = ap (more v) (before_both vs ws xs)

-- one identifier with what comes directly behind it
pub one_more : (later : List ℕ → List (List ℕ)) (made : List Value) (x : Value) (id : List ℕ) (rest : Values) → x ≡ Id id
    → members_before ((made ++ Id id ∷ []) ++ map Id (later id)) (with_parts later rest) ≡ members_before made (with_parts later (more x rest))
one_more later made x id rest is =
    before_both (made ++ Id id ∷ []) (map Id (later id)) (with_parts later rest)
    ∙ before_both made (Id id ∷ []) (members_before (map Id (later id)) (with_parts later rest))
    ∙ ap (λ l. members_before made (more (Id id) l)) (before_ids (later id) (with_parts later rest))
    ∙ ap (λ y. members_before made (with_parts later (more y rest))) (sym is)

-- ---- entries of functions

pub entries_behind : (m : Module) (value : Function → Value) (fs : List Function) (es : List (Value × Value))
    → with_functions m value fs (entries es) ≡ entries (es ++ map (λ (f : Function). (Id (function_id m f), value f)) fs)
entries_behind m value [] [] = refl
entries_behind m value (f ∷ fs) [] = ap (entry (Id (function_id m f)) (value f)) (entries_behind m value fs [])
entries_behind m value [] (e ∷ es) = ap (entry e.0 e.1) (entries_behind m value [] es)
entries_behind m value (f ∷ fs) (e ∷ es) = ap (entry e.0 e.1) (entries_behind m value (f ∷ fs) es)

-- ---- entries one further

-- entries before others
abbrev pub entries_before : List (Value × Value) → Entries → Entries
entries_before [] es = es
entries_before (x ∷ xs) es = entry x.0 x.1 (entries_before xs es)

pub all_entries_before : (xs : List (Value × Value)) → entries_before xs no_entry ≡ entries xs
all_entries_before [] = refl
all_entries_before (x ∷ xs) = ap (entry x.0 x.1) (all_entries_before xs)

pub entries_before_both : (xs ys : List (Value × Value)) (es : Entries) → entries_before (xs ++ ys) es ≡ entries_before xs (entries_before ys es)
entries_before_both [] ys es = refl
entries_before_both (x ∷ xs) ys es = ap (entry x.0 x.1) (entries_before_both xs ys es)

-- what one entry becomes is what it becomes before others
split_first : (later : List ℕ → List (List ℕ)) (key value new_key new_value : Value) (rest : Entries) → entry new_key new_value no_entry ≡ sets_with_parts later (entry key value no_entry)
    → entry new_key new_value (sets_with_parts later rest) ≡ sets_with_parts later (entry key value rest)
split_first later key (Many xs) new_key new_value rest e = let k : new_key ≡ key = cc in let v : new_value ≡ Many (with_parts later xs) = cc in cc
split_first later key (Str x) new_key new_value rest e = let k : new_key ≡ key = cc in let v : new_value ≡ Str x = cc in cc
split_first later key (Truth x) new_key new_value rest e = let k : new_key ≡ key = cc in let v : new_value ≡ Truth x = cc in cc
split_first later key (Id x) new_key new_value rest e = let k : new_key ≡ key = cc in let v : new_value ≡ Id x = cc in cc
split_first later key (Number x) new_key new_value rest e = let k : new_key ≡ key = cc in let v : new_value ≡ Number x = cc in cc
split_first later key (Signed x) new_key new_value rest e = let k : new_key ≡ key = cc in let v : new_value ≡ Signed x = cc in cc
split_first later key (At x) new_key new_value rest e = let k : new_key ≡ key = cc in let v : new_value ≡ At x = cc in cc
split_first later key (Four x) new_key new_value rest e = let k : new_key ≡ key = cc in let v : new_value ≡ Four x = cc in cc
split_first later key (Eight x) new_key new_value rest e = let k : new_key ≡ key = cc in let v : new_value ≡ Eight x = cc in cc
split_first later key (Pairs x) new_key new_value rest e = let k : new_key ≡ key = cc in let v : new_value ≡ Pairs x = cc in cc
split_first later key (Parts x) new_key new_value rest e = let k : new_key ≡ key = cc in let v : new_value ≡ Parts x = cc in cc
split_first later key (Choice n x) new_key new_value rest e = let k : new_key ≡ key = cc in let v : new_value ≡ Choice n x = cc in cc

pub one_entry_more : (later : List ℕ → List (List ℕ)) (made : List (Value × Value)) (old new : Value × Value) (rest : Entries) → entry new.0 new.1 no_entry ≡ sets_with_parts later (entry old.0 old.1 no_entry)
    → entries_before (made ++ new ∷ []) (sets_with_parts later rest) ≡ entries_before made (sets_with_parts later (entry old.0 old.1 rest))
one_entry_more later made old new rest e =
    entries_before_both made (new ∷ []) (sets_with_parts later rest)
    ∙ ap (entries_before made) (split_first later old.0 old.1 new.0 new.1 rest e)

-- ---- types of members and entries

pub member_at : (P : Value → Type 0) (vs : List Value) (i : ℕ) (v : Value) → i < length vs → v ≡ get_or vs i v → Each P (values vs) → P v
member_at P [] i v lt is all = absurd (omega arith)
member_at P (w ∷ ws) zero v lt is all = subst P (sym is) all.0
member_at P (w ∷ ws) (suc i) v lt is all = member_at P ws i v (omega arith) is all.1

pub entry_at : (P Q : Value → Type 0) (es : List (Value × Value)) (i : ℕ) (e : Value × Value) → i < length es → e ≡ get_or es i e → EachEntry P Q (entries es) → P e.0 × Q e.1
entry_at P Q [] i e lt is all = absurd (omega arith)
entry_at P Q (x ∷ xs) zero e lt is all = subst (λ (y : Value × Value). P y.0 × Q y.1) (sym is) (all.0, all.1)
entry_at P Q (x ∷ xs) (suc i) e lt is all = entry_at P Q xs i e (omega arith) is all.2

pub get_mapped : {X Y : Type 0} (f : X → Y) (xs : List X) (i : ℕ) (x : X) → i < length xs → x ≡ get_or xs i x → f x ≡ get_or (map f xs) i (f x)
get_mapped f [] i x lt is = absurd (omega arith)
get_mapped f (y ∷ ys) zero x lt is = ap f is
get_mapped f (y ∷ ys) (suc i) x lt is = get_mapped f ys i x (omega arith) is

-- ---- counts

few_first : (later : List ℕ → List (List ℕ)) (k x : Value) (es fs : Entries) → HasFewParts later (entry k x es) → (HasFewParts later es → HasFewParts later fs) → HasFewParts later (entry k x fs)
few_first later k (Many xs) es fs h go = (h.0, go h.1)
few_first later k (Str y) es fs h go = go h
few_first later k (Truth y) es fs h go = go h
few_first later k (Id y) es fs h go = go h
few_first later k (Number y) es fs h go = go h
few_first later k (Signed y) es fs h go = go h
few_first later k (At y) es fs h go = go h
few_first later k (Four y) es fs h go = go h
few_first later k (Eight y) es fs h go = go h
few_first later k (Pairs y) es fs h go = go h
few_first later k (Parts y) es fs h go = go h
few_first later k (Choice n y) es fs h go = go h

-- one entry more
pub few_more : (later : List ℕ → List (List ℕ)) (es : List (Value × Value)) (e : Value × Value) → HasFewParts later (entries es) → HasFewParts later (entry e.0 e.1 no_entry) → HasFewParts later (entries (es ++ e ∷ []))
few_more later [] e h one = one
few_more later (x ∷ xs) e h one = few_first later x.0 x.1 (entries xs) (entries (xs ++ e ∷ [])) h (λ k. few_more later xs e k one)

pub count_of : (vs : List Value) → count (values vs) ≡ length vs
count_of [] = refl
count_of (v ∷ vs) = ap suc (count_of vs)

pub count_entries_of : (es : List (Value × Value)) → count_entries (entries es) ≡ length es
count_entries_of [] = refl
count_entries_of (e ∷ es) = ap suc (count_entries_of es)

-- a set is its members
pub set_of : (x : Value) → HasType (Set (Plain s.Id)) x → (xs : Values) × (x ≡ Many xs)
set_of (Many xs) typed = (xs, refl)
set_of (Str y) typed = absurd typed
set_of (Truth y) typed = absurd typed
set_of (Id y) typed = absurd typed
set_of (Number y) typed = absurd typed
set_of (Signed y) typed = absurd typed
set_of (At y) typed = absurd typed
set_of (Four y) typed = absurd typed
set_of (Eight y) typed = absurd typed
set_of (Pairs y) typed = absurd typed
set_of (Parts y) typed = absurd typed
set_of (Choice n y) typed = absurd typed
