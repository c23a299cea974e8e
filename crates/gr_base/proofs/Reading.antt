-- How far a whole read has come.
use Rattle.std.proofs.Common.{◌≡◌, ℕ, ◌+◌, ◌-◌, ◌≤◌, ◌<◌, ◌^◌, List, [], ◌∷◌, ◌++◌, length, take, drop, Option, Some, None, IsSome, arith, refl, sym, ◌∙◌, ap, subst, take-append-drop, append_assoc, length-append}
use Rattle.std.proofs.lemmas.List.{append-nil, drop_at, length-take-le, take-append-le}
use Rattle.gr_base.specs.Desk.{Files, Told, ToldBoth, SameFiles, Fetches, counted}
use Rattle.gr_base.proofs.Telling.{told_both, told_back, told_as, told_each, told_same, same_more, counted_more, counted_none}

-- these are the first bytes of what a name holds, and none where it holds nothing
abbrev pub Begins : Option (List ℕ) → List ℕ → Type 0
Begins None bytes = bytes ≡ []
Begins (Some all) bytes = (rest : List ℕ) × (all ≡ bytes ++ rest)

-- these bytes were read
pub record IsReading (name bytes : List ℕ) (old now : Option Files) (taken_old taken_now : ℕ) : Type 0 where
  pub same : ToldBoth old now SameFiles
  pub front : Told old (λ held. Begins (held name) bytes)
  pub taken : taken_now ≡ counted taken_old (length bytes)
  pub bound : length bytes ≤ 2 ^ 26 + 1

begins_none : (held : Option (List ℕ)) → Begins held []
begins_none None = refl
begins_none (Some all) = (all, refl)

pub starts : (name : List ℕ) (files : Option Files) (taken : ℕ) → taken ≤ 2 ^ 64 - 1 → IsReading name [] files files taken taken
starts name files taken fits = record {
  same = told_same files;
  front = told_each files (λ held. Begins (held name) []) (λ held. begins_none (held name));
  taken = counted_none taken fits;
  bound = omega arith;
}

begins_held : (held : Option (List ℕ)) (bytes all : List ℕ) → Begins held bytes → held ≡ Some all → (rest : List ℕ) × (all ≡ bytes ++ rest)
begins_held None bytes all front is = absurd (cc is)
begins_held (Some found) bytes all front is = let same : all ≡ found = cc is in (front.0, same ∙ front.1)

begins_more : (held : Option (List ℕ)) (bytes all buffer : List ℕ) (count : ℕ) → Begins held bytes → held ≡ Some all → take count buffer ≡ take count (drop (length bytes) all) → Begins held (bytes ++ take count buffer)
begins_more held bytes all buffer count front is read =
    let split = begins_held held bytes all front is in
    let behind : drop (length bytes) all ≡ split.0 = ap (λ (l : List ℕ). drop (length bytes) l) split.1 ∙ drop_at bytes split.0 (length bytes) refl in
    let piece : take count buffer ≡ take count split.0 = read ∙ ap (λ (l : List ℕ). take count l) behind in
    let parts : all ≡ (bytes ++ take count split.0) ++ drop count split.0 =
    split.1 ∙ ap (λ (l : List ℕ). bytes ++ l) (sym (take-append-drop count split.0)) ∙ sym (append_assoc bytes (take count split.0) (drop count split.0)) in
    let whole : all ≡ (bytes ++ take count buffer) ++ drop count split.0 = parts ∙ ap (λ (l : List ℕ). (bytes ++ l) ++ drop count split.0) (sym piece) in
    subst (λ h. Begins h (bytes ++ take count buffer)) (sym is) (drop count split.0, whole)

begins_all : (held : Option (List ℕ)) (bytes all : List ℕ) → Begins held bytes → held ≡ Some all → length all ≤ length bytes → held ≡ Some bytes
begins_all held bytes all front is short =
    let split = begins_held held bytes all front is in
    let none : length split.0 ≡ 0 = omega (arith, ap length split.1, length-append bytes split.0) in
    let nothing : split.0 ≡ [] = empty_of split.0 none in
    is ∙ ap Some (split.1 ∙ ap (λ (l : List ℕ). bytes ++ l) nothing ∙ append-nil bytes)
  where
    empty_of : (l : List ℕ) → length l ≡ 0 → l ≡ []
    empty_of [] e = refl
    empty_of (x ∷ l) e = absurd (omega arith)

begins_some : (held : Option (List ℕ)) (bytes : List ℕ) → Begins held bytes → 2 ^ 26 < length bytes → (all : List ℕ) × (held ≡ Some all) × (2 ^ 26 < length all)
begins_some None bytes front long = absurd (omega (arith, ap length front))
begins_some (Some all) bytes front long = (all, refl, omega (arith, ap length front.1, length-append bytes front.0))

none_of : (held : Option (List ℕ)) → (IsSome held → ⊥) → held ≡ None
none_of None absent = refl
none_of (Some all) absent = absurd (absent refl)

-- a fetch read a piece
pub goes_on : (name bytes buffer : List ℕ) (old now next : Option Files) (taken_old taken_now taken_next count : ℕ) → IsReading name bytes old now taken_old taken_now → Told now (Fetches name (length bytes) buffer count) → ToldBoth now next SameFiles → taken_next ≡ counted taken_now count
    → count ≤ length buffer → length bytes + count ≤ 2 ^ 26 + 1 → IsReading name (bytes ++ take count buffer) old next taken_old taken_next
goes_on name bytes buffer old now next taken_old taken_now taken_next count so_far fetches same taken within fits =
    let size : length (bytes ++ take count buffer) ≡ length bytes + count = omega (arith, length-append bytes (take count buffer), length-take-le count buffer within) in record {
      same = told_both old now next SameFiles SameFiles SameFiles same_more so_far.same same;
      front = told_back old now (λ held. Begins (held name) bytes) (Fetches name (length bytes) buffer count) (λ held. Begins (held name) (bytes ++ take count buffer))
          (λ a b same_ab front fetch. begins_more (a name) bytes fetch.bytes buffer count front (sym (same_ab name) ∙ fetch.held) fetch.read) so_far.same so_far.front fetches;
      taken = taken ∙ ap (λ (n : ℕ). counted n count) so_far.taken ∙ counted_more taken_old (length bytes) count ∙ ap (λ (n : ℕ). counted taken_old n) (sym size);
      bound = omega (arith, size, fits);
    }

-- a fetch read nothing
pub ends : (name bytes buffer : List ℕ) (old now : Option Files) (taken_old taken_now count : ℕ) → IsReading name bytes old now taken_old taken_now → Told now (Fetches name (length bytes) buffer count) → count ≡ 0 → Told old (λ held. held name ≡ Some bytes)
ends name bytes buffer old now taken_old taken_now count so_far fetches none =
    told_back old now (λ held. Begins (held name) bytes) (Fetches name (length bytes) buffer count) (λ held. held name ≡ Some bytes)
    (λ a b same_ab front fetch. begins_all (a name) bytes fetch.bytes front (sym (same_ab name) ∙ fetch.held) (fetch.ends.0 none)) so_far.same so_far.front fetches

pub longer : (name bytes : List ℕ) (old now : Option Files) (taken_old taken_now : ℕ) → IsReading name bytes old now taken_old taken_now → 2 ^ 26 < length bytes → Told old (λ held. (all : List ℕ) × (held name ≡ Some all) × (2 ^ 26 < length all))
longer name bytes old now taken_old taken_now so_far long =
    told_as old (λ held. Begins (held name) bytes) (λ held. (all : List ℕ) × (held name ≡ Some all) × (2 ^ 26 < length all)) (λ a front. begins_some (a name) bytes front long) so_far.front

-- a desk that would have read a held file has refused
pub missing : (name : List ℕ) (old now : Option Files) → ToldBoth old now SameFiles → Told now (λ held. IsSome (held name) → ⊥) → Told old (λ held. held name ≡ None)
missing name old now same refused =
    told_back old now (λ held. Unit {0}) (λ held. IsSome (held name) → ⊥) (λ held. held name ≡ None) (λ a b same_ab u absent. sym (same_ab name) ∙ none_of (b name) absent) same (told_each old (λ held. Unit {0}) (λ held. tt)) refused

-- the same where the piece is the front of a longer buffer, which the place and the new bytes are told of
pub goes_on_in : (name bytes piece spare longer_bytes : List ℕ) (old now next : Option Files) (taken_old taken_now taken_next count at : ℕ) → IsReading name bytes old now taken_old taken_now → at ≡ length bytes → Told now (Fetches name at piece count) → ToldBoth now next SameFiles → taken_next ≡ counted taken_now count
    → count ≤ length piece → length bytes + count ≤ 2 ^ 26 + 1 → longer_bytes ≡ bytes ++ take count (piece ++ spare) → IsReading name longer_bytes old next taken_old taken_next
goes_on_in name bytes piece spare longer_bytes old now next taken_old taken_now taken_next count at so_far place fetches same taken within fits is =
    let front : bytes ++ take count piece ≡ longer_bytes = ap (λ (l : List ℕ). bytes ++ l) (sym (take-append-le count piece spare within)) ∙ sym is in
    let here : Told now (Fetches name (length bytes) piece count) = subst (λ (n : ℕ). Told now (Fetches name n piece count)) place fetches in
    subst (λ l. IsReading name l old next taken_old taken_next) front (goes_on name bytes piece old now next taken_old taken_now taken_next count so_far here same taken within fits)

-- what was taken where there is no room for the piece
pub spent : (name bytes : List ℕ) (old now : Option Files) (taken_old taken_now taken_next count : ℕ) → IsReading name bytes old now taken_old taken_now → taken_next ≡ counted taken_now count → length bytes + count ≤ 2 ^ 26 + 1 → (all : ℕ) × (all ≤ 2 ^ 26 + 1) × (taken_next ≡ counted taken_old all)
spent name bytes old now taken_old taken_now taken_next count so_far taken fits =
    (length bytes + count, fits, taken ∙ ap (λ (n : ℕ). counted n count) so_far.taken ∙ counted_more taken_old (length bytes) count)
