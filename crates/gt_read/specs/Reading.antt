-- What reading answers where there is a fault.
use Rattle.std.specs.Prelude.{◌≡◌, Option, Some}
use Rattle.gr_base.specs.declared.end.End.{End}
use Rattle.gr_base.specs.declared.end.End.TheVariants as ends
use Rattle.gt_read.specs.declared.fault.FormatFault.{FormatFault}

-- a fault that is answered is this one
abbrev pub IsFault : End FormatFault → Option FormatFault → Type 0
IsFault (ends.Fault f) fault = fault ≡ Some f
IsFault ends.Memory fault = Unit {0}
