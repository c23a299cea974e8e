use Rattle.std.proofs.Common.{◌≡◌, ◌++◌, length, take}
use Rattle.std.specs.List.{flat_map}
use Rattle.bare_image.specs.Spelling.{magic, word, segment}
use Rattle.bare_image.proofs.writing.write_image.Given as goal

abbrev pub invariant-loop-s : goal.invariant-loop-s
invariant-loop-s l = l.out ≡ magic ++ (word l.image.entry ++ (word l.image.stack_at ++ (word l.image.stack_size ++ (word (length l.image.segments) ++ flat_map segment (take l.s-index l.image.segments)))))
