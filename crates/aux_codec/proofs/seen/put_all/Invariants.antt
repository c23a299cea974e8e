use Rattle.std.proofs.Common.{◌≡◌, ◌||◌, ℕ, List, map, take}
use Rattle.std.specs.List.{list_any}
use Rattle.std.specs.Str.{bytes_eq}
use Rattle.aux_codec.proofs.seen.put_all.Given as goal

-- the set has the keys so far, and what it had
abbrev pub invariant-loop-key : goal.invariant-loop-key
invariant-loop-key l =
    (q : List ℕ) → list_any (bytes_eq q) (map (λ k. k.now) l.set.keys) ≡ (list_any (bytes_eq q) (map (λ k. k.now) (take l.key-index l.keys)) || list_any (bytes_eq q) (map (λ k. k.now) l.initial.set.keys))
