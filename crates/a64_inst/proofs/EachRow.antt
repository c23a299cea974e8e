-- The word of an instruction is read as it, and what is read has its word: row by row.
use Rattle.std.proofs.Common.{◌≡◌, zero, suc, ◌<◌, true, [], ◌∷◌, take, drop, Some, refl, arith}
use Rattle.std.proofs.lemmas.Bool.{ltb-true}
use Rattle.a64_inst.specs.declared.inst.Inst.{Inst}
use Rattle.a64_inst.specs.declared.inst.Inst.TheVariants.{AdrAdrp, AddSubImm, AddSubShifted, AddSubExtended, LogicalShifted, LogicalImm, MoveWide, Bitfield, Extr, TwoSources, OneSource, ThreeSources, WithCarry, CondCompare, CondSelect, BBl, BCond, CbzCbnz, TbzTbnz, BrBlrRet, SvcBrk, Udf, Hint, Literal, Scaled, UnscaledPostPre, Register, Pair}
use Rattle.a64_inst.specs.Rows.{table, adr_adrp, add_sub_imm, add_sub_shifted, add_sub_extended, logical_shifted, logical_imm, move_wide, bitfield, extr, two_sources, one_source, three_sources, with_carry, cond_compare, cond_select, b_bl, b_cond, cbz_cbnz, tbz_tbnz, br, blr, ret, svc, brk, udf, hint, literal, scaled, unscaled_post_pre, register, pair}
use Rattle.a64_inst.specs.Reserved.{names_word}
use Rattle.a64_inst.specs.Table.{read_rows, word_of, fields_fit}
use Rattle.a64_inst.proofs.Rows.{AreFaithful, read_again}

pub found : (i : Inst) → fields_fit i ≡ true → names_word i ≡ true → read_rows table (word_of i) ≡ Some i
unfolding table
found (AdrAdrp a b c d) fit named = read_again (take 0 table) adr_adrp (drop 1 table) (a ∷ b ∷ c ∷ d ∷ []) refl refl fit
found (AddSubImm a b c d e f g) fit named = read_again (take 1 table) add_sub_imm (drop 2 table) (a ∷ b ∷ c ∷ d ∷ e ∷ f ∷ g ∷ []) refl refl fit
found (AddSubShifted a b c d e f g h) fit named = read_again (take 2 table) add_sub_shifted (drop 3 table) (a ∷ b ∷ c ∷ d ∷ e ∷ f ∷ g ∷ h ∷ []) refl refl fit
found (AddSubExtended a b c d e f g h) fit named = read_again (take 3 table) add_sub_extended (drop 4 table) (a ∷ b ∷ c ∷ d ∷ e ∷ f ∷ g ∷ h ∷ []) refl refl fit
found (LogicalShifted a b c d e f g h) fit named = read_again (take 4 table) logical_shifted (drop 5 table) (a ∷ b ∷ c ∷ d ∷ e ∷ f ∷ g ∷ h ∷ []) refl refl fit
found (LogicalImm a b c d e f g) fit named = read_again (take 5 table) logical_imm (drop 6 table) (a ∷ b ∷ c ∷ d ∷ e ∷ f ∷ g ∷ []) refl refl fit
found (MoveWide a b c d e) fit named = read_again (take 6 table) move_wide (drop 7 table) (a ∷ b ∷ c ∷ d ∷ e ∷ []) refl refl fit
found (Bitfield a b c d e f g) fit named = read_again (take 7 table) bitfield (drop 8 table) (a ∷ b ∷ c ∷ d ∷ e ∷ f ∷ g ∷ []) refl refl fit
found (Extr a b c d e f) fit named = read_again (take 8 table) extr (drop 9 table) (a ∷ b ∷ c ∷ d ∷ e ∷ f ∷ []) refl refl fit
found (TwoSources a b c d e) fit named = read_again (take 9 table) two_sources (drop 10 table) (a ∷ b ∷ c ∷ d ∷ e ∷ []) refl refl fit
found (OneSource a b c d) fit named = read_again (take 10 table) one_source (drop 11 table) (a ∷ b ∷ c ∷ d ∷ []) refl refl fit
found (ThreeSources a b c d e f g) fit named = read_again (take 11 table) three_sources (drop 12 table) (a ∷ b ∷ c ∷ d ∷ e ∷ f ∷ g ∷ []) refl refl fit
found (WithCarry a b c d e f) fit named = read_again (take 12 table) with_carry (drop 13 table) (a ∷ b ∷ c ∷ d ∷ e ∷ f ∷ []) refl refl fit
found (CondCompare a b c d e f g) fit named = read_again (take 13 table) cond_compare (drop 14 table) (a ∷ b ∷ c ∷ d ∷ e ∷ f ∷ g ∷ []) refl refl fit
found (CondSelect a b c d e f g) fit named = read_again (take 14 table) cond_select (drop 15 table) (a ∷ b ∷ c ∷ d ∷ e ∷ f ∷ g ∷ []) refl refl fit
found (BBl a b) fit named = read_again (take 15 table) b_bl (drop 16 table) (a ∷ b ∷ []) refl refl fit
found (BCond a b) fit named = read_again (take 16 table) b_cond (drop 17 table) (a ∷ b ∷ []) refl refl fit
found (CbzCbnz a b c d) fit named = read_again (take 17 table) cbz_cbnz (drop 18 table) (a ∷ b ∷ c ∷ d ∷ []) refl refl fit
found (TbzTbnz a b c d e) fit named = read_again (take 18 table) tbz_tbnz (drop 19 table) (a ∷ b ∷ c ∷ d ∷ e ∷ []) refl refl fit
found (BrBlrRet zero a) fit named = read_again (take 19 table) br (drop 20 table) (a ∷ []) refl refl fit
found (BrBlrRet (suc zero) a) fit named = read_again (take 20 table) blr (drop 21 table) (a ∷ []) refl refl fit
found (BrBlrRet (suc (suc zero)) a) fit named = read_again (take 21 table) ret (drop 22 table) (a ∷ []) refl refl fit
found (BrBlrRet (suc (suc (suc n))) a) fit named = let below : suc (suc (suc n)) < 3 = ltb-true (suc (suc (suc n))) 3 named in absurd (omega arith)
found (SvcBrk zero a) fit named = read_again (take 22 table) svc (drop 23 table) (a ∷ []) refl refl fit
found (SvcBrk (suc zero) a) fit named = read_again (take 23 table) brk (drop 24 table) (a ∷ []) refl refl fit
found (SvcBrk (suc (suc n)) a) fit named = let below : suc (suc n) < 2 = ltb-true (suc (suc n)) 2 named in absurd (omega arith)
found (Udf a) fit named = read_again (take 24 table) udf (drop 25 table) (a ∷ []) refl refl fit
found (Hint a) fit named = read_again (take 25 table) hint (drop 26 table) (a ∷ []) refl refl fit
found (Literal a b c) fit named = read_again (take 26 table) literal (drop 27 table) (a ∷ b ∷ c ∷ []) refl refl fit
found (Scaled a b c d e) fit named = read_again (take 27 table) scaled (drop 28 table) (a ∷ b ∷ c ∷ d ∷ e ∷ []) refl refl fit
found (UnscaledPostPre a b c d e f) fit named = read_again (take 28 table) unscaled_post_pre (drop 29 table) (a ∷ b ∷ c ∷ d ∷ e ∷ f ∷ []) refl refl fit
found (Register a b c d e f g) fit named = read_again (take 29 table) register (drop 30 table) (a ∷ b ∷ c ∷ d ∷ e ∷ f ∷ g ∷ []) refl refl fit
found (Pair a b c d e f g) fit named = read_again (take 30 table) pair (drop 31 table) (a ∷ b ∷ c ∷ d ∷ e ∷ f ∷ g ∷ []) refl refl fit

pub faithful : AreFaithful table
unfolding table
faithful = (
  record { sound = refl; word = λ w. refl; fit = λ w. refl; named = λ w. refl },
  (
    record { sound = refl; word = λ w. refl; fit = λ w. refl; named = λ w. refl },
    (
      record { sound = refl; word = λ w. refl; fit = λ w. refl; named = λ w. refl },
      (
        record { sound = refl; word = λ w. refl; fit = λ w. refl; named = λ w. refl },
        (
          record { sound = refl; word = λ w. refl; fit = λ w. refl; named = λ w. refl },
          (
            record { sound = refl; word = λ w. refl; fit = λ w. refl; named = λ w. refl },
            (
              record { sound = refl; word = λ w. refl; fit = λ w. refl; named = λ w. refl },
              (
                record { sound = refl; word = λ w. refl; fit = λ w. refl; named = λ w. refl },
                (
                  record { sound = refl; word = λ w. refl; fit = λ w. refl; named = λ w. refl },
                  (
                    record { sound = refl; word = λ w. refl; fit = λ w. refl; named = λ w. refl },
                    (
                      record { sound = refl; word = λ w. refl; fit = λ w. refl; named = λ w. refl },
                      (
                        record { sound = refl; word = λ w. refl; fit = λ w. refl; named = λ w. refl },
                        (
                          record { sound = refl; word = λ w. refl; fit = λ w. refl; named = λ w. refl },
                          (
                            record { sound = refl; word = λ w. refl; fit = λ w. refl; named = λ w. refl },
                            (
                              record { sound = refl; word = λ w. refl; fit = λ w. refl; named = λ w. refl },
                              (
                                record { sound = refl; word = λ w. refl; fit = λ w. refl; named = λ w. refl },
                                (
                                  record { sound = refl; word = λ w. refl; fit = λ w. refl; named = λ w. refl },
                                  (
                                    record { sound = refl; word = λ w. refl; fit = λ w. refl; named = λ w. refl },
                                    (
                                      record { sound = refl; word = λ w. refl; fit = λ w. refl; named = λ w. refl },
                                      (
                                        record { sound = refl; word = λ w. refl; fit = λ w. refl; named = λ w. refl },
                                        (
                                          record { sound = refl; word = λ w. refl; fit = λ w. refl; named = λ w. refl },
                                          (
                                            record { sound = refl; word = λ w. refl; fit = λ w. refl; named = λ w. refl },
                                            (
                                              record { sound = refl; word = λ w. refl; fit = λ w. refl; named = λ w. refl },
                                              (
                                                record { sound = refl; word = λ w. refl; fit = λ w. refl; named = λ w. refl },
                                                (
                                                  record { sound = refl; word = λ w. refl; fit = λ w. refl; named = λ w. refl },
                                                  (
                                                    record { sound = refl; word = λ w. refl; fit = λ w. refl; named = λ w. refl },
                                                    (
                                                      record { sound = refl; word = λ w. refl; fit = λ w. refl; named = λ w. refl },
                                                      (
                                                        record { sound = refl; word = λ w. refl; fit = λ w. refl; named = λ w. refl },
                                                        (
                                                          record { sound = refl; word = λ w. refl; fit = λ w. refl; named = λ w. refl },
                                                          (
                                                            record { sound = refl; word = λ w. refl; fit = λ w. refl; named = λ w. refl },
                                                            (
                                                              record { sound = refl; word = λ w. refl; fit = λ w. refl; named = λ w. refl },
                                                              tt,
                                                            ),
                                                          ),
                                                        ),
                                                      ),
                                                    ),
                                                  ),
                                                ),
                                              ),
                                            ),
                                          ),
                                        ),
                                      ),
                                    ),
                                  ),
                                ),
                              ),
                            ),
                          ),
                        ),
                      ),
                    ),
                  ),
                ),
              ),
            ),
          ),
        ),
      ),
    ),
  ),
)
