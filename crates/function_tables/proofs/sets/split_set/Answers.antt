use Rattle.std.proofs.Common.{◌≡◌, ◌<◌, ◌^◌, ℕ, List, map, length, ap, sym, subst, ◌∙◌, arith}
use Rattle.std.proofs.lemmas.List.{length-map}
use Rattle.aux_types.specs.Shape.{Plain, Set}
use Rattle.aux_types.specs.declared.name.Scalar.TheVariants as Scalar
use Rattle.aux_codec.specs.declared.value.AuxValue.{AuxValue}
use Rattle.aux_codec.specs.Spelling.{HasType}
use Rattle.aux_codec.specs.Value.{Many, Values, count, value_of, values}
use Rattle.edge_repair.specs.Sets.{with_parts}
use Rattle.function_tables.specs.Later.{later_of}
use Rattle.function_tables.proofs.Members.{count_of}
use Rattle.function_tables.proofs.Views.{value_many}
use Rattle.function_tables.proofs.sets.split_set.Goals as goal

pub with_parts-requires : goal.with_parts-requires
with_parts-requires c =
    let all : value_of c.args.set.now ≡ Many (values (map value_of c.in-Many.members.items)) = ap value_of c.in-Many.is ∙ value_many c.in-Many.members in
    rw c.as_slice.ensures.value (subst (HasType (Set (Plain Scalar.Id))) all c.requires).1

pub returns-clause-few : goal.returns-clause-few
returns-clause-few c = λ xs e.
    let later = later_of c.args.later.now in
    let made = c.in_ok-made-in-Many.made in
    let all : value_of c.args.set.now ≡ Many (values (map value_of c.in-Many.members.items)) = ap value_of c.in-Many.is ∙ value_many c.in-Many.members in
    let both : Many (values (map value_of c.in-Many.members.items)) ≡ Many xs = sym all ∙ e in
    let inner : values (map value_of c.in-Many.members.items) ≡ xs = cc in
    let same : values (map value_of made.items) ≡ with_parts later xs =
    c.in_ok-made-in-Many.ensures.members
    ∙ ap (λ (l : List AuxValue). with_parts later (values (map value_of l))) c.as_slice.ensures.value
    ∙ ap (with_parts later) inner in
    let size : count (values (map value_of made.items)) ≡ length made.items = count_of (map value_of made.items) ∙ length-map made.items value_of in
    let few : count (values (map value_of made.items)) < 2 ^ 64 = omega (arith, size, c.in_ok-made-in-Many.ensures.few) in
    subst (λ (ys : Values). count ys < 2 ^ 64) same few
