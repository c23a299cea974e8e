use Rattle.std.proofs.Common.{◌≡◌, ℕ, ◌+◌, Option, ◌∙◌, ap, arith}
use Rattle.std.specs.Prelude.{unwrap_or}
use Rattle.paged_memory.specs.Mapped.{paged}
use Rattle.paged_memory.proofs.Loads.{eight-more}
use Rattle.paged_memory.proofs.pages.Pages.eight_bytes.Goals as goal

pub loop-i-preserved : goal.loop-i-preserved
loop-i-preserved c =
    let m = paged c.args.self.now in
    let read : c.unwrap_or.result ≡ unwrap_or (m (c.args.at + c.loop-i.i)) 0 = c.unwrap_or.ensures ∙ ap (λ (o : Option ℕ). unwrap_or o 0) c.byte.ensures in
    eight-more m c.args.at c.loop-i.i c.unwrap_or.result c.loop-i.bytes (omega arith) c.loop-i.invariant read
