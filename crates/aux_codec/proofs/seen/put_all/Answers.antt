use Rattle.std.proofs.Common.{[]}
use Rattle.std.specs.List.{list_any}
use Rattle.std.specs.Str.{bytes_eq}
use Rattle.aux_codec.proofs.Index.{texts, has_after_more}
use Rattle.aux_codec.proofs.seen.put_all.Goals as goal

pub loop-key-preserved : goal.loop-key-preserved
loop-key-preserved c = λ q. has_after_more c.args.keys.now c.loop-key.key-index (record { ref_ptr = (0, 0); now = [] }) q (list_any (bytes_eq q) (texts c.args.set.now.keys)) c.loop-key.set.keys c.insert.new.self.keys
    c.loop-key-test.true c.in_ok-insert.ensures.keys (c.loop-key.invariant q)
