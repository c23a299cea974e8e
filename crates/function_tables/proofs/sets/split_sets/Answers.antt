use Rattle.std.proofs.Common.{◌≡◌, ℕ, List, ◌+◌, ◌++◌, ◌∷◌, [], map, drop, take, length, sym, ap, ◌∙◌, subst}
use Rattle.std.proofs.lemmas.List.{length-map, map_push, take_all}
use Rattle.aux_types.specs.Shape.{Plain, Set}
use Rattle.aux_types.specs.declared.name.Scalar.TheVariants as Scalar
use Rattle.aux_codec.specs.declared.value.AuxPair.{AuxPair}
use Rattle.aux_codec.specs.Spelling.{HasType}
use Rattle.aux_codec.specs.Value.{Value, entry, entry_of, entries, no_entry, value_of}
use Rattle.edge_repair.specs.Sets.{sets_with_parts}
use Rattle.function_tables.specs.Functions.{HasFewParts}
use Rattle.function_tables.specs.Later.{later_of}
use Rattle.function_tables.proofs.Lists.{dropped, dropped_all, taken}
use Rattle.function_tables.proofs.Members.{all_entries_before, entries_before, entry_at, few_more, get_mapped, one_entry_more}
use Rattle.function_tables.proofs.Views.{entry_parts}
use Rattle.function_tables.proofs.sets.split_sets.Goals as goal

pub split_entry-requires : goal.split_entry-requires
split_entry-requires c =
    let xs = c.args.pairs.now in
    let i = c.loop-pair.pair-index in
    let x = c.pair-item.result in
    let P = HasType (Plain Scalar.Id) in
    let Q = HasType (Set (Plain Scalar.Id)) in
    let typed : P (entry_of x).0 × Q (entry_of x).1 = entry_at P Q (map entry_of xs) i (entry_of x) (rw (length-map xs entry_of) c.loop-pair-test.true) (get_mapped entry_of xs i x c.loop-pair-test.true c.pair-item.is) c.requires in
    let both : P (value_of x.key) × Q (value_of x.value) = subst (λ (e : Value × Value). P e.0 × Q e.1) (entry_parts x) typed in
    record { key = both.0; set = both.1 }

pub loop-pair-preserved : goal.loop-pair-preserved
loop-pair-preserved c =
    let xs = c.args.pairs.now in
    let i = c.loop-pair.pair-index in
    let x = c.pair-item.result in
    let later = later_of c.args.later.now in
    let made = map entry_of c.loop-pair.made.items in
    let rest = entries (map entry_of (drop (i + 1) xs)) in
    let new = entry_of c.in_ok-entry.entry in
    let pushed : map entry_of c.push.new.self.items ≡ made ++ new ∷ [] = rw c.in_ok-push.ensures.items (map_push entry_of c.loop-pair.made.items c.in_ok-entry.entry) in
    let split : entry new.0 new.1 no_entry ≡ sets_with_parts later (entry (entry_of x).0 (entry_of x).1 no_entry) =
    c.in_ok-entry.ensures.entry ∙ ap (λ (e : Value × Value). sets_with_parts later (entry e.0 e.1 no_entry)) (sym (entry_parts x)) in
    record {
      made =
          ap (λ (l : List (Value × Value)). entries_before l (sets_with_parts later rest)) pushed
          ∙ one_entry_more later made (entry_of x) new rest split
          ∙ ap (λ (l : List AuxPair). entries_before made (sets_with_parts later (entries (map entry_of l)))) (sym (dropped xs i x c.loop-pair-test.true c.pair-item.is))
          ∙ c.loop-pair.invariant.made;
      few = subst (HasFewParts later) (sym (ap entries (ap (map entry_of) (taken xs i x c.loop-pair-test.true c.pair-item.is) ∙ map_push entry_of (take i xs) x))) (few_more later (map entry_of (take i xs)) (entry_of x) c.loop-pair.invariant.few (subst (λ (e : Value × Value). HasFewParts later (entry e.0 e.1 no_entry)) (sym (entry_parts x)) c.in_ok-entry.ensures.few));
    }

pub returns-clause-entries : goal.returns-clause-entries
returns-clause-entries c =
    let xs = c.args.pairs.now in
    let made = map entry_of c.loop-pair.made.items in
    sym (all_entries_before made)
    ∙ sym (ap (λ (l : List AuxPair). entries_before made (sets_with_parts (later_of c.args.later.now) (entries (map entry_of l)))) (dropped_all xs c.loop-pair.pair-index c.loop-pair-test.false))
    ∙ c.loop-pair.invariant.made

pub returns-clause-few : goal.returns-clause-few
returns-clause-few c = subst (λ (l : List AuxPair). HasFewParts (later_of c.args.later.now) (entries (map entry_of l))) (take_all c.loop-pair.pair-index c.args.pairs.now c.loop-pair-test.false) c.loop-pair.invariant.few
