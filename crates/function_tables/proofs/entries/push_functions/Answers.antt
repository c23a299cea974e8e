use Rattle.std.proofs.Common.{◌≡◌, ℕ, List, ◌++◌, ◌∷◌, [], map, take, sym, ap, ◌∙◌, append_assoc, subst}
use Rattle.std.specs.List.{AllByRecursion}
use Rattle.std.proofs.lemmas.List.{map_push, map-append}
use Rattle.aux_codec.specs.Value.{Value, entry_of}
use Rattle.function_tables.specs.Functions.{entry_in, IsFew}
use Rattle.function_tables.proofs.Lists.{all_append, taken}
use Rattle.function_tables.proofs.entries.push_functions.Goals as goal

pub loop-function-preserved : goal.loop-function-preserved
loop-function-preserved c =
    let fs = c.args.functions.now in
    let i = c.loop-function.function-index in
    let x = c.function-item.result in
    let f = entry_in c.args.kind c.args.module.now in
    let old = map entry_of c.args.pairs.now.items in
    record {
      entries =
          rw c.in_ok-push.ensures.items (map_push entry_of c.loop-function.pairs.items c.in_ok-entry.entry
          ∙ ap (λ (l : List (Value × Value)). l ++ entry_of c.in_ok-entry.entry ∷ []) c.loop-function.invariant.entries
          ∙ ap (λ (e : Value × Value). (old ++ map f (take i fs)) ++ e ∷ []) c.in_ok-entry.ensures.entry
          ∙ append_assoc old (map f (take i fs)) (f x ∷ [])
          ∙ ap (λ l. old ++ l) (sym (ap (map f) (taken fs i x c.loop-function-test.true c.function-item.is) ∙ map-append f (take i fs) (x ∷ []))));
      few = subst (AllByRecursion (IsFew c.args.kind)) (sym (taken fs i x c.loop-function-test.true c.function-item.is)) (all_append (IsFew c.args.kind) (take i fs) (x ∷ []) c.loop-function.invariant.few (c.in_ok-entry.ensures.few, tt));
    }
