use Rattle.std.proofs.Common.{◌∙◌}
use Rattle.a64_numbers.proofs.Widths.{product_low}
use Rattle.a64_numbers.proofs.products.product.Goals as goal

pub returns : goal.returns
returns c = c.low.ensures ∙ product_low c.args.width c.args.a c.args.b
