-- The words of a fault.
use Rattle.std.specs.Prelude.{ℕ, List, ◌++◌, codes}
use Rattle.std.specs.Fmt.{decimal}
use Rattle.pb_wire.specs.declared.fault.WireReason.{WireReason}
use Rattle.pb_wire.specs.declared.fault.WireReason.TheVariants.{Varint, Truncated, WireType, FieldZero}
use Rattle.gt_read.specs.declared.fault.FormatFault.{FormatFault}
use Rattle.gt_read.specs.declared.fault.FormatFault.TheVariants.{Prefix, Wire, Utf8, Version, UuidLength}

-- why a record can't be completed
abbrev pub reason_text : WireReason → List ℕ
reason_text Varint = codes "varint"
reason_text Truncated = codes "truncated"
reason_text WireType = codes "wire type"
reason_text FieldZero = codes "field zero"

-- what is wrong with a file, and its numbers
abbrev pub fault_text : FormatFault → List ℕ
fault_text (Prefix place) = codes "prefix at " ++ decimal place
fault_text (Wire fault) = reason_text fault.reason ++ (codes " at " ++ decimal fault.place)
fault_text (Utf8 place) = codes "not UTF-8 at " ++ decimal place
fault_text (Version byte field) = codes "version " ++ (decimal byte ++ (codes " and " ++ decimal field))
fault_text (UuidLength place length) = codes "UUID of " ++ (decimal length ++ (codes " bytes at " ++ decimal place))
