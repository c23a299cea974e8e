-- The place of a fault.
use Rattle.std.specs.Prelude.{ℕ}
use Rattle.gt_read.specs.declared.fault.FormatFault.{FormatFault}
use Rattle.gt_read.specs.declared.fault.FormatFault.TheVariants.{Prefix, Wire, Utf8, Version, UuidLength}

-- where a fault is; that of a version is the version's byte
abbrev pub place_of : FormatFault → ℕ
place_of (Prefix place) = place
place_of (Wire fault) = fault.place
place_of (Utf8 place) = place
place_of (Version byte field) = 7
place_of (UuidLength place length) = place
