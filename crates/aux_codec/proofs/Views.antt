-- What a value is seen as, by its variant.
use Rattle.std.proofs.Common.{◌≡◌, ℕ, ℤ, Bool, List, map, sym, ap, ◌∙◌}
use Rattle.std.specs.Global.{Vec, Box}
use Rattle.aux_codec.specs.declared.value.Place.{Place}
use Rattle.aux_codec.specs.declared.value.AuxValue.{AuxValue, roll-AuxValue, map-AuxValue, fold-roll-AuxValue}
use Rattle.aux_codec.specs.declared.value.AuxValue.TheOpen.{AuxValue-F}
use Rattle.aux_codec.specs.declared.value.AuxValue.TheVariants as a
use Rattle.aux_codec.specs.declared.value.AuxPair.{AuxPair, fold_out-AuxPair}
use Rattle.aux_codec.specs.Value.{Value, Str, Truth, Id, Number, Signed, At, Four, Eight, Many, Pairs, Parts, Choice, values, entries, value_layer, entry_layer, value_of, entry_of}

seen : (x : AuxValue-F AuxValue AuxPair) → value_of (roll-AuxValue x) ≡ value_layer (map-AuxValue AuxValue AuxPair Value (Value × Value) value_of entry_of x)
seen x = fold-roll-AuxValue Value (Value × Value) value_layer entry_layer x

pub value_str : (text : List ℕ) → value_of (a.Str text) ≡ Str text
value_str text = ap value_of (sym (a.rolls-Str text)) ∙ seen (AuxValue-F.Str text)

pub value_choice : (n : ℕ) (x : Box AuxValue) → value_of (a.Choice n x) ≡ Choice n (value_of x.value)
value_choice n x = ap value_of (sym (a.rolls-Choice n x)) ∙ seen (AuxValue-F.Choice n x)

pub entry_parts : (e : AuxPair) → entry_of e ≡ (value_of e.key, value_of e.value)
entry_parts e = fold_out-AuxPair Value (Value × Value) value_layer entry_layer e
