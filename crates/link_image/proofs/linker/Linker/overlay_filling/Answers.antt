use Rattle.std.proofs.Common.{◌≤◌, subst, sym}
use Rattle.link_image.proofs.DataBytes.{filling_most}
use Rattle.link_image.proofs.linker.Linker.overlay_filling.Goals as goal

pub overlay-requires-clause-size : goal.overlay-requires-clause-size
overlay-requires-clause-size c = subst (λ n. n ≤ 8) (sym c.filling_size.ensures) (filling_most c.args.self.now.program.now c.args.filling.now c.requires.filling)
