-- How far a whole write has come.
use Rattle.std.proofs.Common.{◌≡◌, ℕ, ◌+◌, ◌-◌, List, [], ◌++◌, length, take, drop, Option, Some, refl, sym, ◌∙◌, ap, subst, take-append-drop}
use Rattle.std.proofs.lemmas.List.{append-nil, drop-drop, take_rest}
use Rattle.std.proofs.Math.Seq.{take-add}
use Rattle.gr_base.specs.Desk.{Files, Told, ToldBoth, Leaves, LeavesPrefix, Adds}
use Rattle.gr_base.specs.Whole.{LeavesFront}
use Rattle.gr_base.proofs.Telling.{told_both, told_none}

-- this many of the bytes stand in the file, and the rest are left
pub record IsAppending (name bytes rest : List ℕ) (old now : Option Files) : Type 0 where
  pub count : ℕ
  pub rest_is : rest ≡ drop count bytes
  pub leaves : ToldBoth old now (Leaves name (take count bytes))

some_is : {a b : List ℕ} → Some a ≡ Some b → a ≡ b
some_is e = cc

pub unchanged : (name : List ℕ) (a : Files) → a name ≡ Some [] → Leaves name [] a a
unchanged name a empty = record { there = empty; others = λ other ne. refl }

pub starts : (name bytes : List ℕ) (files : Option Files) → Told files (λ held. held name ≡ Some []) → IsAppending name bytes bytes files files
starts name bytes files empty = record {
  count = 0;
  rest_is = refl;
  leaves = told_none files (λ held. held name ≡ Some []) (Leaves name []) (unchanged name) empty;
}

-- the file that holds the front gets so many bytes more
more_there : (name bytes : List ℕ) (count more : ℕ) (a b c : Files) → Leaves name (take count bytes) a b → (held : List ℕ) → b name ≡ Some held → Leaves name (held ++ take more (drop count bytes)) b c → Leaves name (take (count + more) bytes) a c
more_there name bytes count more a b c before held was after =
    let front : held ≡ take count bytes = some_is (sym was ∙ before.there) in record {
      there = after.there ∙ ap Some (ap (λ (l : List ℕ). l ++ take more (drop count bytes)) front ∙ sym (take-add count more bytes));
      others = λ other ne. after.others other ne ∙ before.others other ne;
    }

pub goes_on : (name bytes rest : List ℕ) (old now next : Option Files) (more : ℕ) → IsAppending name bytes rest old now → ToldBoth now next (Adds name (take more rest)) → IsAppending name bytes (drop more rest) old next
goes_on name bytes rest old now next more so_far adds =
    let count = so_far.count in
    let adds_of : ToldBoth now next (Adds name (take more (drop count bytes))) = subst (λ r. ToldBoth now next (Adds name (take more r))) so_far.rest_is adds in record {
      count = count + more;
      rest_is = ap (λ (l : List ℕ). drop more l) so_far.rest_is ∙ drop-drop more count bytes;
      leaves = told_both old now next (Leaves name (take count bytes)) (Adds name (take more (drop count bytes))) (Leaves name (take (count + more) bytes))
          (λ a b c before after. more_there name bytes count more a b c before after.held after.was after.leaves) so_far.leaves adds_of;
    }

pub ends : (name bytes rest : List ℕ) (old now : Option Files) → IsAppending name bytes rest old now → rest ≡ [] → ToldBoth old now (Leaves name bytes)
ends name bytes rest old now so_far none =
    let whole : take so_far.count bytes ≡ bytes =
    sym (append-nil (take so_far.count bytes)) ∙ ap (λ (l : List ℕ). take so_far.count bytes ++ l) (sym none ∙ so_far.rest_is) ∙ take-append-drop so_far.count bytes in
    subst (λ l. ToldBoth old now (Leaves name l)) whole so_far.leaves

pub refused : (name bytes rest : List ℕ) (old now next : Option Files) → IsAppending name bytes rest old now → ToldBoth now next (LeavesPrefix name rest) → ToldBoth old next (LeavesFront name bytes)
refused name bytes rest old now next so_far part =
    let count = so_far.count in
    let part_of : ToldBoth now next (LeavesPrefix name (drop count bytes)) = subst (λ r. ToldBoth now next (LeavesPrefix name r)) so_far.rest_is part in
    told_both old now next (Leaves name (take count bytes)) (LeavesPrefix name (drop count bytes)) (LeavesFront name bytes)
    (λ a b c before after. (count + after.count, more_there name bytes count after.count a b c before after.held after.was after.leaves)) so_far.leaves part_of

-- the same where the rest is the slice behind what was added
pub goes_on_behind : (name bytes rest : List ℕ) (old now next : Option Files) (more : ℕ) → IsAppending name bytes rest old now → ToldBoth now next (Adds name (take more rest)) → IsAppending name bytes (take (length rest - more) (drop more rest)) old next
goes_on_behind name bytes rest old now next more so_far adds =
    subst (λ r. IsAppending name bytes r old next) (sym (take_rest rest more)) (goes_on name bytes rest old now next more so_far adds)
