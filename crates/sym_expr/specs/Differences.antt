-- Differences of two targets in data: their forms, and their bytes.
use Rattle.std.specs.Prelude.{ℕ, ◌*◌, ◌^◌, ℤ, pos, negsuc, Bool, ◌==◌, ◌&&◌, not, int_le, unsigned_abs, List, find, if◌then◌else◌, Option, None, Result, Ok, Err}
use Rattle.std.specs.Int.{int_div_euclid, int_rem_euclid}
use Rattle.std.specs.Option.{option_map_or}
use Rattle.a64_inst.specs.declared.filling.FitFault.{FitFault}
use Rattle.a64_inst.specs.declared.filling.FitFault.TheVariants.{Range, Unaligned}
use Rattle.sym_expr.specs.declared.difference.TheConstants.{DIFFERENCE_FORMS}
use Rattle.sym_expr.specs.declared.difference.DifferenceForm.{DifferenceForm}

-- the form is of so many bytes and this scale
abbrev pub has : ℕ → ℕ → DifferenceForm → Bool
has size scale f = (f.size == size) && (f.scale == scale)

-- the first of these forms that is
abbrev pub form_among : List DifferenceForm → ℕ → ℕ → Option DifferenceForm
form_among forms size scale = find (has size scale) forms

-- the form of so many bytes and this scale, if there is one (the rule is ours)
abbrev pub difference_form : ℕ → ℕ → Option DifferenceForm
difference_form size scale = form_among DIFFERENCE_FORMS size scale

-- the same for any whole number as the scale
abbrev pub form_of : ℕ → ℤ → Option DifferenceForm
form_of size (pos scale) = difference_form size scale
form_of size (negsuc n) = None

-- the form takes the difference
abbrev pub is_in_range : DifferenceForm → ℤ → Bool
is_in_range f diff = int_le f.least diff && int_le diff f.most

-- the difference is a multiple of the scale
abbrev pub is_aligned : DifferenceForm → ℤ → Bool
is_aligned f diff = unsigned_abs (int_rem_euclid diff (pos f.scale)) == 0

-- how many units the difference has, modulo what the bytes hold
abbrev pub units_of : DifferenceForm → ℤ → ℕ
units_of f diff = unsigned_abs (int_rem_euclid (int_div_euclid diff (pos f.scale)) (pos (2 ^ (8 * f.size))))

-- the bytes of a difference in a form, as a number
abbrev pub fit_form : ℤ → DifferenceForm → Result ℕ FitFault
fit_form diff f =
    if not (is_in_range f diff) then Err (Range diff)
    else if not (is_aligned f diff) then Err (Unaligned diff)
    else Ok (units_of f diff)

-- the bytes of a difference of so many bytes and this scale; no form takes no difference
abbrev pub diff_fit : ℕ → ℕ → ℤ → Result ℕ FitFault
diff_fit size scale diff = option_map_or (fit_form diff) (difference_form size scale) (Err (Range diff))
