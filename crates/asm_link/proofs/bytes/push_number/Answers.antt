use Rattle.std.proofs.Common.{◌∙◌, ap, take}
use Rattle.asm_link.proofs.ItemBytes.{added, low_bytes}
use Rattle.asm_link.proofs.bytes.push_number.Goals as goal

pub returns : goal.returns
returns c =
    added c.extend_from_slice.result c.extend_from_slice.new.self.items c.args.out.now.items _ _ c.extend_from_slice.ensures.items
    (ap (take c.args.size) c.to_le_bytes.ensures ∙ low_bytes c.args.size c.args.value c.requires)
