-- What values are seen as.
use Rattle.std.proofs.Common.{◌≡◌, ℕ, List, map, sym, ap, ◌∙◌}
use Rattle.std.specs.Global.{Vec}
use Rattle.aux_codec.specs.declared.value.AuxValue.{AuxValue, roll-AuxValue, map-AuxValue, fold-roll-AuxValue}
use Rattle.aux_codec.specs.declared.value.AuxValue.TheOpen.{AuxValue-F}
use Rattle.aux_codec.specs.declared.value.AuxValue.TheVariants as a
use Rattle.aux_codec.specs.declared.value.AuxPair.{AuxPair, fold_out-AuxPair}
use Rattle.aux_codec.specs.Value.{Value, Id, Many, Pairs, values, entries, value_layer, entry_layer, value_of, entry_of}

seen : (x : AuxValue-F AuxValue AuxPair) → value_of (roll-AuxValue x) ≡ value_layer (map-AuxValue AuxValue AuxPair Value (Value × Value) value_of entry_of x)
seen x = fold-roll-AuxValue Value (Value × Value) value_layer entry_layer x

pub value_id : (id : List ℕ) → value_of (a.Id id) ≡ Id id
value_id id = ap value_of (sym (a.rolls-Id id)) ∙ seen (AuxValue-F.Id id)

pub value_many : (vs : Vec AuxValue) → value_of (a.Many vs) ≡ Many (values (map value_of vs.items))
value_many vs = ap value_of (sym (a.rolls-Many vs)) ∙ seen (AuxValue-F.Many vs)

pub value_pairs : (es : Vec AuxPair) → value_of (a.Pairs es) ≡ Pairs (entries (map entry_of es.items))
value_pairs es = ap value_of (sym (a.rolls-Pairs es)) ∙ seen (AuxValue-F.Pairs es)

pub entry_parts : (e : AuxPair) → entry_of e ≡ (value_of e.key, value_of e.value)
entry_parts e = fold_out-AuxPair Value (Value × Value) value_layer entry_layer e
