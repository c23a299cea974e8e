use Rattle.std.proofs.Common.{◌≡◌, ◌++◌, map, drop}
use Rattle.std.specs.String.{string_bytes}
use Rattle.aux_types.specs.Shape.{shape_of, shapes, names, names_behind}
use Rattle.aux_types.proofs.writing.+put_type.Given as goal

-- what is written so far, before what is left, is all names behind those that stood there
abbrev pub invariant-put_names-loop-part : goal.invariant-put_names-loop-part
invariant-put_names-loop-part l =
    string_bytes l.out ++ names_behind (shapes (map shape_of (drop l.part-index l.others))) ≡ string_bytes l.fn.out ++ names (shapes (map shape_of l.parts))
