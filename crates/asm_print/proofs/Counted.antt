-- Labels, with one symbol more.
use Rattle.std.proofs.Common.{◌≡◌, ℕ, suc, ◌+◌, ◌<◌, ◌≤◌, length, take, get_or, Bool, true, false, cond, Option, Some, None, List, [], ◌∷◌, ◌++◌, refl, sym, ap, subst, ◌∙◌, append-nil, append_assoc, add-one, take-suc, arith, length-take}
use Rattle.std.specs.Prelude.{filter}
use Rattle.std.specs.List.{find}
use Rattle.std.specs.Option.{option_map, option_or}
use Rattle.std.specs.Str.{bytes_eq}
use Rattle.gt_model.specs.declared.symbols.Symbol.{Symbol}
use Rattle.asm_spelling.specs.Labels.{label_text}
use Rattle.asm_print.specs.Names.{labels_behind, named, value_at}

-- a list up to the next item
pub taken : {A : Type 0} (xs : List A) (i : ℕ) (x : A) → i < length xs → x ≡ get_or xs i x → take (i + 1) xs ≡ take i xs ++ x ∷ []
taken xs i x lt is = rw add-one (take-suc xs i x lt ∙ ap (λ y. take i xs ++ y ∷ []) (sym is))

counted : (b : Bool) (s : Symbol) (ss : List Symbol) → length (cond b (s ∷ ss) ss) ≡ cond b 1 0 + length ss
counted true s ss = omega arith
counted false s ss = omega arith

pub named_more : (q : List ℕ) (ss : List Symbol) (s : Symbol) → named q (ss ++ s ∷ []) ≡ named q ss + cond (bytes_eq s.name q) 1 0
named_more q [] s = let e = counted (bytes_eq s.name q) s [] in omega (arith, e)
named_more q (x ∷ ss) s =
    let more = named_more q ss s in
    let a = counted (bytes_eq x.name q) x (filter (λ (y : Symbol). bytes_eq y.name q) (ss ++ s ∷ [])) in
    let b = counted (bytes_eq x.name q) x (filter (λ (y : Symbol). bytes_eq y.name q) ss) in
    omega (arith, more, a, b)

pub named_few : (q : List ℕ) (ss : List Symbol) → named q ss ≤ length ss
named_few q [] = omega arith
named_few q (x ∷ ss) = few (bytes_eq x.name q) (named_few q ss)
  where
    few : (b : Bool) → named q ss ≤ length ss → length (cond b (x ∷ filter (λ (y : Symbol). bytes_eq y.name q) ss) (filter (λ (y : Symbol). bytes_eq y.name q) ss)) ≤ suc (length ss)
    few true h = omega arith
    few false h = omega arith

abbrev entry : Symbol → List Symbol → List ℕ × List ℕ
entry s before = (s.uuid, label_text s.name (suc (named s.name before)))

pub labels_more : (before ss : List Symbol) (s : Symbol) → labels_behind before (ss ++ s ∷ []) ≡ labels_behind before ss ++ entry s (before ++ ss) ∷ []
labels_more before [] s = ap (λ b. entry s b ∷ []) (sym (append-nil before))
labels_more before (x ∷ ss) s =
    ap (λ r. entry x before ∷ r)
    (labels_more (before ++ x ∷ []) ss s ∙ ap (λ b. labels_behind (before ++ x ∷ []) ss ++ entry s b ∷ []) (append_assoc before (x ∷ []) ss))

pub value_last : {V : Type 0} (eq : List ℕ → List ℕ → Bool) (key : List ℕ) (es : List (List ℕ × V)) (e : List ℕ × V) → value_at eq key (es ++ e ∷ []) ≡ option_or (value_at eq key es) (cond (eq e.0 key) (Some e.1) None)
value_last {V} eq key [] e = last (eq e.0 key)
  where
    last : (b : Bool) → option_map (λ (x : List ℕ × V). x.1) (cond b (Some e) None) ≡ cond b (Some e.1) None
    last true = refl
    last false = refl
value_last {V} eq key (x ∷ es) e = first (eq x.0 key) (value_last eq key es e)
  where
    first : (b : Bool) → value_at eq key (es ++ e ∷ []) ≡ option_or (value_at eq key es) (cond (eq e.0 key) (Some e.1) None)
        → option_map (λ (y : List ℕ × V). y.1) (cond b (Some x) (find (λ (y : List ℕ × V). eq y.0 key) (es ++ e ∷ [])))
        ≡ option_or (option_map (λ (y : List ℕ × V). y.1) (cond b (Some x) (find (λ (y : List ℕ × V). eq y.0 key) es))) (cond (eq e.0 key) (Some e.1) None)
    first true h = refl
    first false h = h

-- the labels of one symbol more
pub label_next : (symbols : List Symbol) (i : ℕ) (s : Symbol) (q : List ℕ) → i < length symbols → s ≡ get_or symbols i s
    → value_at bytes_eq q (labels_behind [] (take (i + 1) symbols))
    ≡ option_or (value_at bytes_eq q (labels_behind [] (take i symbols))) (cond (bytes_eq s.uuid q) (Some (label_text s.name (suc (named s.name (take i symbols))))) None)
label_next symbols i s q lt is =
    ap (λ ss. value_at bytes_eq q (labels_behind [] ss)) (taken symbols i s lt is)
    ∙ ap (value_at bytes_eq q) (labels_more [] (take i symbols) s)
    ∙ value_last bytes_eq q (labels_behind [] (take i symbols)) (entry s (take i symbols))

pub named_next : (symbols : List Symbol) (i : ℕ) (s : Symbol) (q : List ℕ) → i < length symbols → s ≡ get_or symbols i s → named q (take (i + 1) symbols) ≡ named q (take i symbols) + cond (bytes_eq s.name q) 1 0
named_next symbols i s q lt is = ap (named q) (taken symbols i s lt is) ∙ named_more q (take i symbols) s

-- fewer of them have a name than there are symbols
pub few_so_far : (q : List ℕ) (symbols : List Symbol) (i : ℕ) → named q (take i symbols) ≤ length symbols
few_so_far q symbols i =
    let few = named_few q (take i symbols) in
    let part = length-take i symbols in
    omega (arith, few, part)
