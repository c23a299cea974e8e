use Rattle.std.proofs.Common.{◌≡◌, ◌==◌, ◌&&◌, ◌||◌, ℕ, List, None, Some, sym, subst}
use Rattle.std.specs.HashMap.{get_by_text}
use Rattle.std.specs.Str.{bytes_eq}
use Rattle.std.specs.String.{string_bytes}
use Rattle.std.proofs.lemmas.Map.Text.{hash_map_updates_text}
use Rattle.asm_build.specs.Kept.{has_ordinal}
use Rattle.asm_build.proofs.Keeping.{ordinal_first, ordinals_changed}
use Rattle.asm_build.proofs.seen.insert_label.Goals as goal

pub returns : goal.returns
returns c =
    let old = c.args.labels.now in
    let new = c.insert.new.self in
    let key = string_bytes c.in_ok-key.key in
    let w = c.in_ok-ordinals.ordinals in
    let o = c.args.ordinal in
    let none : get_by_text old key ≡ None = subst (λ (bs : List ℕ). get_by_text old bs ≡ None) (sym c.in_ok-key.ensures.ok) c.requires in
    subst (λ (bs : List ℕ). (q : List ℕ) (k : ℕ) → has_ordinal new q k ≡ (has_ordinal old q k || (bytes_eq q bs && (k == o)))) c.in_ok-key.ensures.ok
    (ordinals_changed old new key w o (hash_map_updates_text key old new (Some w) c.in_ok-insert.ensures.updates) (ordinal_first old key w o none c.in_ok-ordinals.ensures))
