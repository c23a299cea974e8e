-- The fault of the least place in two lists, one after the other.
use Rattle.std.proofs.Common.{◌≡◌, Bool, true, false, cond, leb, List, [], ◌∷◌, ◌++◌, Option, Some, None, refl, sym, ap, ◌∙◌, arith}
use Rattle.std.proofs.lemmas.Bool.{leb-true, leb-false, le-leb, lt-leb}
use Rattle.gt_read.specs.declared.ids.IdFault.{IdFault}
use Rattle.gt_read.specs.Identifiers.{earlier, least}

earlier-none : (a : Option IdFault) → earlier a None ≡ a
earlier-none None = refl
earlier-none (Some f) = refl

-- the tests of three places are those of an order
three : (f g h : IdFault) (a b c : Bool) → leb f.place g.place ≡ a → leb g.place h.place ≡ b → leb f.place h.place ≡ c
    → earlier (cond a (Some f) (Some g)) (Some h) ≡ earlier (Some f) (cond b (Some g) (Some h))
three f g h true true c ea eb ec =
    let le = leb-true _ _ ea in let le' = leb-true _ _ eb in
    let all = le-leb f.place h.place (omega arith) in
    ap (λ t. cond t (Some f) (Some h)) all ∙ sym (ap (λ t. cond t (Some f) (Some g)) ea)
three f g h true false c ea eb ec = refl
three f g h false true c ea eb ec = ap (λ t. cond t (Some g) (Some h)) eb ∙ sym (ap (λ t. cond t (Some f) (Some g)) ea)
three f g h false false c ea eb ec =
    let lt = leb-false _ _ ea in let lt' = leb-false _ _ eb in
    let all = lt-leb f.place h.place (omega arith) in
    ap (λ t. cond t (Some g) (Some h)) eb ∙ sym (ap (λ t. cond t (Some f) (Some h)) all)

pub earlier-assoc : (a b c : Option IdFault) → earlier (earlier a b) c ≡ earlier a (earlier b c)
earlier-assoc None b c = refl
earlier-assoc (Some f) None c = refl
earlier-assoc (Some f) (Some g) None = earlier-none (earlier (Some f) (Some g))
earlier-assoc (Some f) (Some g) (Some h) = three f g h _ _ _ refl refl refl

pub least-append : (xs ys : List IdFault) → least (xs ++ ys) ≡ earlier (least xs) (least ys)
least-append [] ys = refl
least-append (f ∷ xs) ys = ap (earlier (Some f)) (least-append xs ys) ∙ sym (earlier-assoc (Some f) (least xs) (least ys))
