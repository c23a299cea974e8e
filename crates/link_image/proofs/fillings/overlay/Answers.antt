use Rattle.std.proofs.Common.{◌∙◌, ap, take}
use Rattle.link_image.proofs.DataBytes.{low_bytes, overlaid-put}
use Rattle.link_image.proofs.fillings.overlay.Goals as goal

pub returns : goal.returns
returns c =
    overlaid-put c.args.at c.args.size c.args.n c.args.bytes.now c.copy_from_slice.new.self
    (c.copy_from_slice.ensures.after ∙ ap (take c.args.size) c.to_le_bytes.ensures ∙ low_bytes c.args.size c.args.n c.requires.size)
