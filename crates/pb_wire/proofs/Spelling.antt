-- Records that are spelled as short as can be, for what writes them.
use Rattle.std.proofs.Common.{◌≡◌, ℕ, ◌+◌, ◌*◌, ◌^◌, ◌<◌, ◌≤◌, List, [], ◌∷◌, ◌++◌, length, refl, sym, ap, subst, ◌∙◌, append_assoc, arith}
use Rattle.std.proofs.lemmas.List.{append-nil, length-append}
use Rattle.pb_wire.specs.declared.records.Load.TheVariants.{Varint, Run}
use Rattle.pb_wire.specs.declared.records.Record.{Record}
use Rattle.pb_wire.specs.Varint.{shortest}
use Rattle.pb_wire.specs.Records.{records, Spells}
use Rattle.pb_wire.proofs.Shortest.{shortest_is}

pub spells_varint : (place field value : ℕ) → 1 ≤ field → field < 2 ^ 61 → value < 2 ^ 64
    → Spells (record { place = place; field = field; load = Varint value }) (shortest (8 * field + 0) ++ shortest value)
spells_varint place field value some fits value_fits =
    record { key = shortest (8 * field + 0); payload = shortest value; whole = refl; key_is = shortest_is (8 * field + 0) (omega arith); field = some; payload_is = shortest_is value value_fits }

pub spells_run : (place field : ℕ) (content : List ℕ) → 1 ≤ field → field < 2 ^ 61 → length content < 2 ^ 64
    → Spells (record { place = place; field = field; load = Run (record { start = place + length (shortest (8 * field + 2)) + length (shortest (length content)); len = length content }) })
    (shortest (8 * field + 2) ++ (shortest (length content) ++ content))
spells_run place field content some fits content_fits =
    record {
      key = shortest (8 * field + 2);
      payload = shortest (length content) ++ content;
      whole = refl;
      key_is = shortest_is (8 * field + 2) (omega arith);
      field = some;
      payload_is = record { size = shortest (length content); content = content; whole = refl; size_is = shortest_is (length content) content_fits; len = refl; start = refl };
    }

-- one record is a list
pub records_one : (r : Record) (text : List ℕ) → Spells r text → records text r.place (r ∷ [])
records_one r text s = (text, [], sym (append-nil text), s, refl, refl)

-- lists behind one another are a list
pub records_append : (a b : List ℕ) (base : ℕ) (xs ys : List Record) → records a base xs → records b (base + length a) ys → records (a ++ b) base (xs ++ ys)
records_append a b base [] ys h k =
    let nothing : a ≡ [] = h in
    let there : records b base ys = subst (λ (n : ℕ). records b n ys) (omega (arith, ap length nothing)) k in
    subst (λ (l : List ℕ). records (l ++ b) base ys) (sym nothing) there
records_append a b base (x ∷ xs) ys h k =
    let next = h.1 in
    let joined : a ++ b ≡ h.0 ++ (next ++ b) = ap (λ (l : List ℕ). l ++ b) h.2 ∙ append_assoc h.0 next b in
    let behind : records b (base + length h.0 + length next) ys = subst (λ (n : ℕ). records b n ys) (omega (arith, ap length h.2, length-append h.0 next)) k in
    (h.0, next ++ b, joined, h.3, h.4, records_append next b (base + length h.0) xs ys h.5 behind)
