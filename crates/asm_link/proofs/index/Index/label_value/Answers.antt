use Rattle.std.proofs.Common.{◌∙◌, ℕ, Option, ap, unwrap_or}
use Rattle.asm_modules.specs.Faults.{ordinal_of}
use Rattle.asm_link.proofs.Indexing.{label_is}
use Rattle.asm_link.proofs.index.Index.label_value.Goals as goal

pub returns : goal.returns
returns c =
    let name = c.args.name.now in
    c.kept_address.ensures
    ∙ ap (λ (o : Option ℕ). unwrap_or o 0) (c.requires.labels name.name (ordinal_of name))
    ∙ label_is c.args.self.now.layout.now c.args.self.now.asm.now.labels name
