use Rattle.std.proofs.Common.{◌≡◌, ℕ, List, ◌+◌, ◌++◌, ◌∷◌, [], map, drop, length, sym, ap, ◌∙◌, arith}
use Rattle.std.proofs.lemmas.List.{length-map, map_push}
use Rattle.aux_types.specs.Shape.{Plain}
use Rattle.aux_types.specs.declared.name.Scalar.TheVariants as Scalar
use Rattle.aux_codec.specs.declared.value.AuxValue.{AuxValue}
use Rattle.aux_codec.specs.declared.value.AuxValue.TheVariants as a
use Rattle.aux_codec.specs.Spelling.{HasType}
use Rattle.aux_codec.specs.Value.{Value, Id, value_of, values}
use Rattle.edge_repair.specs.Sets.{with_parts}
use Rattle.function_tables.specs.Later.{later_of}
use Rattle.function_tables.proofs.Lists.{dropped, dropped_all}
use Rattle.function_tables.proofs.Members.{all_before, get_mapped, member_at, members_before, one_more}
use Rattle.function_tables.proofs.Views.{value_id}
use Rattle.function_tables.proofs.sets.with_parts.Goals as goal

pub id_in-id-requires : goal.id_in-id-requires
id_in-id-requires c =
    let xs = c.args.members.now in
    let i = c.loop-member.member-index in
    let x = c.member-item.result in
    member_at (HasType (Plain Scalar.Id)) (map value_of xs) i (value_of x) (rw (length-map xs value_of) c.loop-member-test.true) (get_mapped value_of xs i x c.loop-member-test.true c.member-item.is) c.requires

pub loop-member-preserved : goal.loop-member-preserved
loop-member-preserved c =
    let xs = c.args.members.now in
    let i = c.loop-member.member-index in
    let x = c.member-item.result in
    let later = later_of c.args.later.now in
    let id : List ℕ = c.id_in-id.result in
    let made = map value_of c.loop-member.made.items in
    let rest = values (map value_of (drop (i + 1) xs)) in
    let pushed : map value_of c.push.new.self.items ≡ made ++ Id id ∷ [] =
    rw c.in_ok-push.ensures.items (map_push value_of c.loop-member.made.items (a.Id id) ∙ ap (λ (v : Value). made ++ v ∷ []) (value_id id)) in
    ap (λ (l : List Value). members_before l (with_parts later rest)) c.in_ok-push_ids.ensures
    ∙ ap (λ (l : List (List ℕ)). members_before (map value_of c.push.new.self.items ++ map Id l) (with_parts later rest)) c.of.ensures
    ∙ ap (λ (l : List Value). members_before (l ++ map Id (later id)) (with_parts later rest)) pushed
    ∙ one_more later made (value_of x) id rest c.id_in-id.ensures
    ∙ ap (λ (l : List AuxValue). members_before made (with_parts later (values (map value_of l)))) (sym (dropped xs i x c.loop-member-test.true c.member-item.is))
    ∙ c.loop-member.invariant

pub returns-clause-members : goal.returns-clause-members
returns-clause-members c =
    let xs = c.args.members.now in
    let made = map value_of c.loop-member.made.items in
    sym (all_before made)
    ∙ sym (ap (λ (l : List AuxValue). members_before made (with_parts (later_of c.args.later.now) (values (map value_of l)))) (dropped_all xs c.loop-member.member-index c.loop-member-test.false))
    ∙ c.loop-member.invariant

pub returns-clause-few : goal.returns-clause-few
returns-clause-few c = omega (arith, c.loop-member.made.ok.0, c.loop-member.made.ok.1, c.loop-member.made.small)
