-- What a word does to the place where control goes on.
use Rattle.std.specs.Prelude.{ℕ, pos, Bool, true, false, ◌==◌, not, if◌then◌else◌}
use Rattle.std.specs.Option.{option_map_or}
use Rattle.a64_inst.specs.declared.inst.Inst.{Inst}
use Rattle.a64_inst.specs.declared.inst.Inst.TheVariants as rows
use Rattle.a64_inst.specs.Table.{row}
use Rattle.gt_model.specs.declared.edges.Label.{Label}

-- the word is in a row of which it is so
abbrev pub has_row : (Inst → Bool) → ℕ → Bool
has_row test word = option_map_or test (row word) false

-- BL
abbrev pub is_call : Inst → Bool
is_call (rows.BBl op imm26) = op == 1
is_call _ = false

-- B.cond, CBZ, CBNZ, TBZ, TBNZ
abbrev pub is_conditional : Inst → Bool
is_conditional (rows.BCond imm19 cond) = true
is_conditional (rows.CbzCbnz sf op imm19 rt) = true
is_conditional (rows.TbzTbnz b5 op b40 imm14 rt) = true
is_conditional _ = false

-- B, BR, RET: control never goes on behind them
abbrev pub is_last : Inst → Bool
is_last (rows.BBl op imm26) = op == 0
is_last (rows.BrBlrRet which rn) = not (which == 1)
is_last _ = false

-- GTIRB's kinds of edges: Branch is 0, Call 1, Fallthrough 2
abbrev pub branch_label : ℕ → Label
branch_label word = record { conditional = has_row is_conditional word; direct = true; kind = if has_row is_call word then pos 1 else pos 0 }

abbrev pub fallthrough_label : Label
fallthrough_label = record { conditional = false; direct = true; kind = pos 2 }
