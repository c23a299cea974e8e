-- The meaning of two lists of an IR's records, one behind the other.
use Rattle.std.proofs.Common.{◌≡◌, ℕ, cond, eqb, List, [], ◌∷◌, ◌++◌, map, Option, Some, None, refl, ap, ◌∙◌}
use Rattle.std.specs.Prelude.{unwrap_or, is_some}
use Rattle.std.specs.List.{filter_map, flat_map}
use Rattle.std.proofs.lemmas.Cmp.{nat_list_cmp_total}
use Rattle.std.specs.Ordering.{nat_cmp}
use Rattle.std.specs.Cmp.Lexicographic.{slice_cmp}
use Rattle.std.proofs.lemmas.List.{append-nil, map-append}
use Rattle.std.proofs.lemmas.List.Concat.{flat_map-append}
use Rattle.std.proofs.lemmas.List.Elements.{filter-append, filter_map-append}
use Rattle.gt_model.specs.Schema.{Kind, Id, Unsigned32, TextKey, cfg_rows, ir_rows, edge_rows, module_rows, table_rows}
use Rattle.gt_read.specs.Pieces.{Piece, pieces}
use Rattle.gt_read.specs.Kinds.{Read, value_of, values_of, of_number, Run, run_of}
use Rattle.gt_read.specs.Meaning.{last, last_value, joined, joined_message, alone, map_of, key_cmp, entry_of, meaning}
use Rattle.gt_read.specs.Joining.{plain_join, map_join, option_join, cfg_join, ir_join}
use Rattle.gt_read.proofs.Entered.{map_of-append}

number-append : (n : ℕ) (ps qs : List Piece) → of_number n (ps ++ qs) ≡ of_number n ps ++ of_number n qs
number-append n ps qs = filter-append (λ (p : Piece). eqb p.number n) ps qs

-- ---- a plain field

abbrev second_of : {A : Type 0} → Option A → Option A → Option A
second_of a None = a
second_of a (Some b) = Some b

last-append : {A : Type 0} (us vs : List A) → last (us ++ vs) ≡ second_of (last us) (last vs)
last-append [] vs = by (last vs)
  where
    by : {A : Type 0} (o : Option A) → o ≡ second_of None o
    by None = refl
    by (Some b) = refl
last-append {A = A} (u ∷ us) vs = ap (λ (o : Option A). Some (unwrap_or o u)) (last-append us vs) ∙ by (last vs)
  where
    by : (o : Option A) → Some (unwrap_or (second_of (last us) o) u) ≡ second_of (Some (unwrap_or (last us) u)) o
    by None = refl
    by (Some b) = refl

plain_joined : (k : Kind) (n : ℕ) (ps qs : List Piece) (d : Read k)
    → unwrap_or (last_value k (of_number n (ps ++ qs))) d ≡ plain_join k n qs (unwrap_or (last_value k (of_number n ps)) d) (unwrap_or (last_value k (of_number n qs)) d)
plain_joined k n ps qs d =
    ap (λ xs. unwrap_or (last_value k xs) d) (number-append n ps qs)
    ∙ ap (λ vs. unwrap_or (last vs) d) (filter_map-append (value_of k) (of_number n ps) (of_number n qs))
    ∙ ap (λ o. unwrap_or o d) (last-append (filter_map (value_of k) (of_number n ps)) (filter_map (value_of k) (of_number n qs)))
    ∙ by (last_value k (of_number n ps)) (last_value k (of_number n qs))
  where
    by : (a b : Option (Read k)) → unwrap_or (second_of a b) d ≡ cond (is_some b) (unwrap_or b d) (unwrap_or a d)
    by a None = refl
    by a (Some b) = refl

-- ---- messages

runs-append : (n : ℕ) (ps qs : List Piece) → filter_map run_of (of_number n (ps ++ qs)) ≡ filter_map run_of (of_number n ps) ++ filter_map run_of (of_number n qs)
runs-append n ps qs = ap (filter_map run_of) (number-append n ps qs) ∙ filter_map-append run_of (of_number n ps) (of_number n qs)

each_joined : {B : Type 0} (f : Run → B) (n : ℕ) (ps qs : List Piece) → map f (filter_map run_of (of_number n (ps ++ qs))) ≡ map f (filter_map run_of (of_number n ps)) ++ map f (filter_map run_of (of_number n qs))
each_joined f n ps qs = ap (map f) (runs-append n ps qs) ∙ map-append f (filter_map run_of (of_number n ps)) (filter_map run_of (of_number n qs))

module _ {A : Type 0} (M : ℕ → List Piece → A) (join : A → A → A) (law : (p q : ℕ) (xs ys : List Piece) → M p (xs ++ ys) ≡ join (M p xs) (M q ys)) where
  runs_joined : (rs ss : List Run) → joined M (rs ++ ss) ≡ option_join join (joined M rs) (joined M ss)
  runs_joined [] ss = refl
  runs_joined (r ∷ rs) [] = ap (joined M) (append-nil (r ∷ rs))
  runs_joined (r ∷ rs) (s ∷ ss) =
      ap (λ (a : A). Some a) (
      ap (M r.place) (flat_map-append (λ (t : Run). pieces t.bytes t.start) (r ∷ rs) (s ∷ ss))
      ∙ law r.place s.place (flat_map (λ (t : Run). pieces t.bytes t.start) (r ∷ rs)) (flat_map (λ (t : Run). pieces t.bytes t.start) (s ∷ ss)))

  message_joined : (n : ℕ) (ps qs : List Piece) → joined_message M (of_number n (ps ++ qs)) ≡ option_join join (joined_message M (of_number n ps)) (joined_message M (of_number n qs))
  message_joined n ps qs = ap (joined M) (runs-append n ps qs) ∙ runs_joined (filter_map run_of (of_number n ps)) (filter_map run_of (of_number n qs))

-- ---- the cfg, and the IR

cfg_joined : (p q : ℕ) (xs ys : List Piece) → meaning cfg_rows p (xs ++ ys) ≡ cfg_join (meaning cfg_rows p xs) (meaning cfg_rows q ys)
unfolding meaning cfg_rows cfg_join
cfg_joined p q xs ys =
    let edges = each_joined (alone (λ place qs. meaning edge_rows place qs)) 2 xs ys in
    let vertices = ap (flat_map (values_of Id)) (number-append 3 xs ys) ∙ flat_map-append (values_of Id) (of_number 3 xs) (of_number 3 ys) in
    λ i. (edges i, (vertices i, tt))

tables_joined : (ps qs : List Piece) → map_of (key_cmp TextKey) (map (entry_of TextKey (λ place qs. meaning table_rows place qs)) (filter_map run_of (of_number 5 (ps ++ qs))))
    ≡ map_join (key_cmp TextKey) (map_of (key_cmp TextKey) (map (entry_of TextKey (λ place qs. meaning table_rows place qs)) (filter_map run_of (of_number 5 ps)))) (map_of (key_cmp TextKey) (map (entry_of TextKey (λ place qs. meaning table_rows place qs)) (filter_map run_of (of_number 5 qs))))
tables_joined ps qs =
    ap (map_of (slice_cmp nat_cmp)) (each_joined (entry_of TextKey (λ place qs. meaning table_rows place qs)) 5 ps qs)
    ∙ map_of-append (slice_cmp nat_cmp) nat_list_cmp_total (map (entry_of TextKey (λ place qs. meaning table_rows place qs)) (filter_map run_of (of_number 5 ps))) (map (entry_of TextKey (λ place qs. meaning table_rows place qs)) (filter_map run_of (of_number 5 qs)))

pub ir_joined : (ps qs : List Piece) → meaning ir_rows 0 (ps ++ qs) ≡ ir_join qs (meaning ir_rows 0 ps) (meaning ir_rows 0 qs)
unfolding meaning ir_rows ir_join
ir_joined ps qs =
    let id = plain_joined Id 1 ps qs (record { place = 0; bytes = [] }) in
    let modules = each_joined (alone (λ place qs. meaning module_rows place qs)) 3 ps qs in
    let tables = tables_joined ps qs in
    let version = plain_joined Unsigned32 6 ps qs 0 in
    let cfg = message_joined (λ place qs. meaning cfg_rows place qs) cfg_join cfg_joined 7 ps qs in
    λ i. (id i, (modules i, (tables i, (version i, (cfg i, tt)))))
