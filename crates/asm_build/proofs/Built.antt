-- Intervals and labels, one line after another.
use Rattle.std.proofs.Common.{◌≡◌, ℕ, zero, suc, ◌+◌, ◌-◌, ◌<◌, ◌≤◌, Option, Result, List, [], ◌∷◌, ◌++◌, length, get_or, set, drop, append_assoc, append-nil, refl, sym, ap, ◌∙◌, arith}
use Rattle.std.proofs.lemmas.List.{drop_all, drop_more}
use Rattle.asm_read.specs.declared.fault.TextReason.{TextReason}
use Rattle.asm_lines.specs.declared.line.AsmItem.{AsmItem}
use Rattle.asm_lines.specs.declared.line.AsmLine.{AsmLine}
use Rattle.asm_lines.specs.declared.line.AsmLine.TheVariants as lines
use Rattle.asm_modules.specs.declared.module.AsmInterval.{AsmInterval}
use Rattle.asm_modules.specs.declared.module.AsmLabel.{AsmLabel}
use Rattle.asm_modules.specs.declared.place.Place.{Place}
use Rattle.asm_modules.specs.declared.place.Place.TheVariants as places
use Rattle.asm_modules.specs.Modules.{intervals_in, items_ahead, labels_at, labels_behind}
use Rattle.asm_modules.specs.Outcomes.{lines_in, said}
use Rattle.asm_modules.specs.Places.{after}
use Rattle.asm_build.specs.Kept.{with_item, with_items, with_line}

-- ---- labels

-- the labels of the first lines, and the place behind them
abbrev pub AreLabels : List AsmLine → List AsmLabel → Place → ℕ → Type 0
AreLabels ls labels place i = labels ++ labels_behind place (drop i ls) ≡ labels_behind places.Ahead ls

pub labels_next : (ls : List AsmLine) (labels more : List AsmLabel) (place behind : Place) (i : ℕ) (l : AsmLine) → i < length ls → l ≡ get_or ls i l → AreLabels ls labels place i
    → more ≡ labels ++ labels_at place l → behind ≡ after place l → AreLabels ls more behind (i + 1)
labels_next ls labels more place behind i l within is so_far more_is behind_is =
    ap (λ m. m ++ labels_behind behind (drop (i + 1) ls)) more_is
    ∙ ap (λ p. (labels ++ labels_at place l) ++ labels_behind p (drop (i + 1) ls)) behind_is
    ∙ append_assoc labels (labels_at place l) (labels_behind (after place l) (drop (i + 1) ls))
    ∙ ap (λ rest. labels ++ labels_behind place rest) (ap (λ k. k ∷ drop (i + 1) ls) is ∙ sym (drop_more ls i l within))
    ∙ so_far

pub all_labels : (ls : List AsmLine) (labels : List AsmLabel) (place : Place) (i : ℕ) → length ls ≤ i → AreLabels ls labels place i → labels ≡ labels_behind places.Ahead ls
all_labels ls labels place i ended so_far = sym (append-nil labels) ∙ ap (λ rest. labels ++ labels_behind place rest) (sym (drop_all i ls ended)) ∙ so_far

-- ---- intervals

with_none : (intervals : List AsmInterval) → with_items intervals [] ≡ intervals
with_none [] = refl
with_none (i ∷ []) = ap (λ (items : List AsmItem). record { uuid = i.uuid; align = i.align; residue = i.residue; items = items } ∷ []) (append-nil i.items)
with_none (i ∷ j ∷ intervals) = ap (λ is. i ∷ is) (with_none (j ∷ intervals))

with_both : (intervals : List AsmInterval) (a b : List AsmItem) → with_items (with_items intervals a) b ≡ with_items intervals (a ++ b)
with_both [] a b = refl
with_both (i ∷ []) a b = ap (λ (items : List AsmItem). record { uuid = i.uuid; align = i.align; residue = i.residue; items = items } ∷ []) (append_assoc i.items a b)
with_both (i ∷ j ∷ []) a b = ap (λ is. i ∷ is) (with_both (j ∷ []) a b)
with_both (i ∷ j ∷ k ∷ intervals) a b = ap (λ is. i ∷ is) (with_both (j ∷ k ∷ intervals) a b)

with_last : (intervals : List AsmInterval) (i : AsmInterval) (a : List AsmItem)
    → with_items (intervals ++ i ∷ []) a ≡ intervals ++ record { uuid = i.uuid; align = i.align; residue = i.residue; items = i.items ++ a } ∷ []
with_last [] i a = refl
with_last (j ∷ []) i a = refl
with_last (j ∷ k ∷ intervals) i a = ap (λ is. j ∷ is) (with_last (k ∷ intervals) i a)

-- the intervals, where these were built and those lines are left
abbrev pub joined : List AsmInterval → List AsmLine → List AsmInterval
joined intervals ls = with_items intervals (items_ahead ls) ++ intervals_in ls

pub joined_none : (ls : List AsmLine) → joined [] ls ≡ intervals_in ls
joined_none ls = refl

joined_item : (intervals more : List AsmInterval) (item : AsmItem) (ls : List AsmLine) → more ≡ with_item intervals item → joined more ls ≡ joined intervals (lines.Item item ∷ ls)
joined_item intervals more item ls is =
    ap (λ m. joined m ls) is ∙ ap (λ m. m ++ intervals_in ls) (with_both intervals (item ∷ []) (items_ahead ls))

joined_interval : (intervals more : List AsmInterval) (uuid : List ℕ) (align : ℕ) (residue : Option ℕ) (ls : List AsmLine)
    → more ≡ intervals ++ record { uuid = uuid; align = align; residue = residue; items = [] } ∷ [] → joined more ls ≡ joined intervals (lines.Interval uuid align residue ∷ ls)
joined_interval intervals more uuid align residue ls is =
    ap (λ m. joined m ls) is
    ∙ ap (λ m. m ++ intervals_in ls) (with_last intervals (record { uuid = uuid; align = align; residue = residue; items = [] }) (items_ahead ls))
    ∙ append_assoc intervals (record { uuid = uuid; align = align; residue = residue; items = items_ahead ls } ∷ []) (intervals_in ls)
    ∙ ap (λ m. m ++ intervals_in (lines.Interval uuid align residue ∷ ls)) (sym (with_none intervals))

pub joined_line : (intervals more : List AsmInterval) (l : AsmLine) (ls : List AsmLine) → more ≡ with_line intervals l → joined more ls ≡ joined intervals (l ∷ ls)
joined_line intervals more lines.Blank ls is = ap (λ m. joined m ls) is
joined_line intervals more (lines.Set name value) ls is = ap (λ m. joined m ls) is
joined_line intervals more (lines.Section name) ls is = ap (λ m. joined m ls) is
joined_line intervals more (lines.Interval uuid align residue) ls is = joined_interval intervals more uuid align residue ls is
joined_line intervals more (lines.Label name) ls is = ap (λ m. joined m ls) is
joined_line intervals more lines.Entry ls is = ap (λ m. joined m ls) is
joined_line intervals more (lines.Item item) ls is = joined_item intervals more item ls is

pub joined_end : (intervals : List AsmInterval) → joined intervals [] ≡ intervals
joined_end intervals = append-nil (with_items intervals []) ∙ with_none intervals

set_at : (intervals : List AsmInterval) (k : ℕ) (i : AsmInterval) (item : AsmItem) → suc k ≡ length intervals → i ≡ get_or intervals k i
    → set intervals k (record { uuid = i.uuid; align = i.align; residue = i.residue; items = i.items ++ item ∷ [] }) ≡ with_item intervals item
set_at [] k i item count is = absurd (omega arith)
set_at (x ∷ []) zero i item count is = ap (λ (j : AsmInterval). record { uuid = j.uuid; align = j.align; residue = j.residue; items = j.items ++ item ∷ [] } ∷ []) is
set_at (x ∷ []) (suc k) i item count is = absurd (omega arith)
set_at (x ∷ y ∷ intervals) zero i item count is = absurd (omega arith)
set_at (x ∷ y ∷ intervals) (suc k) i item count is = ap (λ is. x ∷ is) (set_at (y ∷ intervals) k i item (omega arith) is)

-- the last interval takes one item more
pub set_last : (intervals : List AsmInterval) (n : ℕ) (i : AsmInterval) (items : List AsmItem) (item : AsmItem) → n ≡ length intervals → 0 < n → i ≡ get_or intervals (n - 1) i
    → items ≡ i.items ++ item ∷ []
    → set intervals (n - 1) (record { uuid = i.uuid; align = i.align; residue = i.residue; items = items }) ≡ with_item intervals item
set_last intervals n i items item count some is items_is =
    ap (λ (more : List AsmItem). set intervals (n - 1) (record { uuid = i.uuid; align = i.align; residue = i.residue; items = more })) items_is
    ∙ set_at intervals (n - 1) i item (omega arith) is

none_left : {X : Type 0} (xs : List X) → length xs ≡ 0 → xs ≡ []
none_left [] h = refl
none_left (x ∷ xs) h = absurd (omega arith)

pub all_joined : (intervals all : List AsmInterval) (rest : List AsmLine) → length rest ≡ 0 → joined intervals rest ≡ all → intervals ≡ all
all_joined intervals all rest ended so_far = sym (joined_end intervals) ∙ ap (λ ls. joined intervals ls) (sym (none_left rest ended)) ∙ so_far

-- ---- lines that say something

pub said_next : (ls more : List AsmLine) (all : List AsmLine) (given : List (Result AsmLine TextReason)) (x : Result AsmLine TextReason) (rest : List (Result AsmLine TextReason))
    → given ≡ x ∷ rest → more ≡ ls ++ said x → ls ++ lines_in given ≡ all → more ++ lines_in rest ≡ all
said_next ls more all given x rest split is so_far =
    ap (λ m. m ++ lines_in rest) is ∙ append_assoc ls (said x) (lines_in rest) ∙ ap (λ g. ls ++ lines_in g) (sym split) ∙ so_far

pub all_said : (ls all : List AsmLine) (rest : List (Result AsmLine TextReason)) → length rest ≡ 0 → ls ++ lines_in rest ≡ all → ls ≡ all
all_said ls all rest ended so_far = sym (append-nil ls) ∙ ap (λ g. ls ++ lines_in g) (sym (none_left rest ended)) ∙ so_far
