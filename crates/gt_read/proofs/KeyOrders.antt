-- What the maps of a meaning have at a key, for both kinds of keys.
use Rattle.std.proofs.Common.{◌≡◌, List, ◌∷◌, ◌++◌, Some, None, ap}
use Rattle.std.specs.BTreeMap.{is_at}
use Rattle.std.specs.Cmp.{tied_itself}
use Rattle.std.specs.Cmp.Lexicographic.{slice_cmp}
use Rattle.std.specs.Map.{lookup}
use Rattle.std.specs.Ordering.{nat_cmp, is_eq}
use Rattle.std.proofs.lemmas.Cmp.{nat_cmp_total, nat_list_cmp_total}
use Rattle.gt_model.specs.Schema.{Key, TextKey, NumberKey, key_kind, Rows}
use Rattle.gt_read.specs.Joining.{Entry, HasNone}
use Rattle.gt_read.specs.Kinds.{Read}
use Rattle.gt_read.specs.Meaning.{key_cmp, map_of}
use Rattle.gt_read.proofs.Entered.{last_counts, others_absent}

pub last_entry : (k : Key) (rows : Rows) (before after : List (Entry k rows)) (e : Entry k rows) → HasNone k rows e.0 after → lookup (is_at (key_cmp k e.0)) (map_of (key_cmp k) (before ++ e ∷ after)) ≡ Some e.1
last_entry TextKey rows before after e none = last_counts (slice_cmp nat_cmp) nat_list_cmp_total before after e.0 e.1 (ap is_eq (tied_itself nat_list_cmp_total e.0)) none
last_entry NumberKey rows before after e none = last_counts nat_cmp nat_cmp_total before after e.0 e.1 (ap is_eq (tied_itself nat_cmp_total e.0)) none

pub no_entry : (k : Key) (rows : Rows) (es : List (Entry k rows)) (key : Read (key_kind k)) → HasNone k rows key es → lookup (is_at (key_cmp k key)) (map_of (key_cmp k) es) ≡ None
no_entry TextKey rows es key none = others_absent (slice_cmp nat_cmp) nat_list_cmp_total es key none
no_entry NumberKey rows es key none = others_absent nat_cmp nat_cmp_total es key none
