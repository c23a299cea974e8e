use Rattle.std.proofs.Common.{◌≡◌, ◌&&◌, cond, ℕ, List, None, Some, nat_eq, sym, subst}
use Rattle.std.specs.HashMap.{get_by_text}
use Rattle.std.specs.Str.{bytes_eq}
use Rattle.std.specs.String.{string_bytes}
use Rattle.std.proofs.lemmas.Map.Text.{hash_map_updates_text}
use Rattle.asm_link.specs.Kept.{kept_at}
use Rattle.asm_link.proofs.Keeping.{address_first, addresses_changed}
use Rattle.asm_link.proofs.index.insert_address.Goals as goal

pub returns : goal.returns
returns c =
    let old = c.args.labels.now in
    let new = c.insert.new.self in
    let key = string_bytes c.in_ok-key.key in
    let w = c.in_ok-ordinals.ordinals in
    let o = c.args.ordinal in
    let at = c.args.at in
    let none : get_by_text old key ≡ None = subst (λ (bs : List ℕ). get_by_text old bs ≡ None) (sym c.in_ok-key.ensures.ok) c.requires in
    subst (λ (bs : List ℕ). (q : List ℕ) (k : ℕ) → kept_at new q k ≡ cond (bytes_eq q bs && nat_eq k o) (Some at) (kept_at old q k)) c.in_ok-key.ensures.ok
    (addresses_changed old new key w o at (hash_map_updates_text key old new (Some w) c.in_ok-insert.ensures.updates) (address_first old key w o at none c.in_ok-ordinals.ensures))
