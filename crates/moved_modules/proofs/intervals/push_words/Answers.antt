use Rattle.std.proofs.Common.{◌≡◌, ◌^◌, ◌+◌, ◌*◌, ◌++◌, ◌∷◌, List, drop, sym, ap, subst, ◌∙◌, append_assoc, append-nil, arith}
use Rattle.std.proofs.lemmas.List.{at_drop_all, at_drop_more}
use Rattle.block_parts.specs.declared.words.PatchedWord.{PatchedWord}
use Rattle.moved_modules.proofs.Near.{near_at}
use Rattle.moved_modules.specs.declared.moved.Piece.{Piece}
use Rattle.moved_modules.specs.Moved.{origin_pieces, word_pieces}
use Rattle.moved_modules.specs.Near.{IsNear}
use Rattle.moved_modules.proofs.intervals.push_words.Goals as goal

pub push_word-requires-clause-near : goal.push_word-requires-clause-near
push_word-requires-clause-near c = near_at (2 ^ 62) c.args.words.now c.loop-word.word-index _ c.requires.near c.loop-word-test.true
