use Rattle.std.proofs.Common.{◌≡◌, Some, ap, sym, subst, ◌∙◌}
use Rattle.aux_codec.specs.Spelling.{spelling, HasType}
use Rattle.aux_codec.specs.Value.{value_of}
use Rattle.aux_types.specs.Shape.{Shape, shape_of}
use Rattle.new_tables.proofs.table.bytes_of.Goals as goal

pub new_value-requires : goal.new_value-requires
new_value-requires c =
    let shape = shape_of c.args.of.now in
    record {
      ready = c.requires.ready;
      there = c.requires.there;
      held = c.requires.held;
      typed = λ other is.
          let both : Some shape ≡ Some other = sym c.requires.shape ∙ is in
          let same : shape ≡ other = cc in
          subst (λ (s : Shape). HasType s (value_of c.args.value)) same c.requires.typed;
      apart = c.requires.apart;
    }

pub encode_aux-requires : goal.encode_aux-requires
encode_aux-requires c = record { named = c.requires.named; typed = c.in_ok-made.ensures.typed (shape_of c.args.of.now) c.requires.shape }

pub returns : goal.returns
returns c = c.in_ok-bytes.ensures.spelled ∙ ap (spelling (shape_of c.args.of.now)) c.in_ok-made.ensures.value
