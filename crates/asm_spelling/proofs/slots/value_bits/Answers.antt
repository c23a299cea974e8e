use Rattle.asm_spelling.proofs.Fields.{bits_are}
use Rattle.asm_spelling.proofs.slots.value_bits.Goals as goal

pub returns : goal.returns
returns c = bits_are c.args.sf c.args.value c.mask_bits.result c.mask_bits.ensures.some c.mask_bits.ensures.none
