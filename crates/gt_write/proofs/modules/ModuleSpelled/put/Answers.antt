use Rattle.std.proofs.Common.{◌≡◌, ℕ, List, [], ◌++◌, refl, rules, append_assoc}
use Rattle.std.proofs.lemmas.List.{append-nil}
use Rattle.std.proofs.lemmas.List.Folds.{flat_map-map}
use Rattle.std.proofs.lemmas.Int.{to_z-of_z}
use mir.Syntax.{w32, w64}
use mir.Val.{SFits}
use Rattle.gt_model.specs.Schema.{module_rows}
use Rattle.gt_model.specs.Views.{module_value}
use Rattle.gt_write.specs.Spelling.{spelling}
use Rattle.gt_write.proofs.modules.ModuleSpelled.put.Goals as goal

-- thirteen pieces one after another
regrouped : (o a b c d e f g h i j k l m : List ℕ) → ((((((((((((o ++ a) ++ b) ++ c) ++ d) ++ e) ++ f) ++ g) ++ h) ++ i) ++ j) ++ k) ++ l) ++ m ≡ o ++ (a ++ (b ++ (c ++ (d ++ (e ++ (f ++ (g ++ (h ++ (i ++ (j ++ (k ++ (l ++ (m ++ [])))))))))))))
regrouped o a b c d e f g h i j k l m = simp (append_assoc, append-nil)

pub returns-clause-records : goal.returns-clause-records
unfolding spelling module_rows module_value
returns-clause-records c =
    let fits-rebase_delta : SFits w64 c.args.self.now.rebase_delta = search rules in
    let fits-file_format : SFits w32 c.args.self.now.file_format = search rules in
    let fits-isa : SFits w32 c.args.self.now.isa = search rules in
    let fits-byte_order : SFits w32 c.args.self.now.byte_order = search rules in
    rw (c.in_ok-put_signed32-3.ensures, c.in_ok-put_optional_id.ensures.plain, c.in_ok-put_messages-4.ensures.records, c.in_ok-put_messages-3.ensures.records, c.in_ok-put_messages-2.ensures.records, c.in_ok-put_messages.ensures.records, c.in_ok-put_bytes_field-2.ensures.records, c.in_ok-put_signed32-2.ensures, c.in_ok-put_signed32.ensures, c.in_ok-put_signed.ensures, c.in_ok-put_unsigned.ensures, c.in_ok-put_bytes_field.ensures.records, c.in_ok-put_id.ensures.records, c.as_bytes.ensures.value, c.as_str.ensures, c.as_bytes-2.ensures.value, c.as_str-2.ensures, to_z-of_z, to_z-of_z, to_z-of_z, to_z-of_z) (simp flat_map-map (rw regrouped refl))
