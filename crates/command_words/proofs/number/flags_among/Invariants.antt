use Rattle.std.proofs.Common.{◌≡◌, ◌++◌, drop, map}
use Rattle.command_words.specs.Numbers.{flags_among}
use Rattle.command_words.proofs.number.flags_among.Given as goal

-- the flags so far, and then those that are left
abbrev pub invariant-loop-part : goal.invariant-loop-part
invariant-loop-part l = l.flags ++ flags_among (map (λ part. part.now) (drop l.part-index l.parts)) ≡ flags_among (map (λ part. part.now) l.parts)
