-- What is wrong with the records of a message is never the prefix, the version or an identifier.
use Rattle.std.proofs.Common.{◌≡◌, ℕ, Bool, true, false, cond, eqb, List, [], ◌∷◌, ◌++◌, Option, Some, None, subst}
use Rattle.std.specs.List.{AllByRecursion, flat_map}
use Rattle.std.specs.Str.{is_utf8}
use Rattle.gr_base.specs.declared.end.End.{End}
use Rattle.gr_base.specs.declared.end.End.TheVariants as ends
use Rattle.pb_wire.specs.declared.fault.WireFault.{WireFault}
use Rattle.pb_wire.specs.declared.fault.WireReason.{WireReason}
use Rattle.gt_model.specs.Schema.{Kind, Id, OptionalId, Text, Blob, Unsigned64, Signed64, Unsigned32, Signed32, Flag, Key, key_kind, Row, field, repeated, message, messages, member, member_message, entries, Rows, none, ◌&◌, ir_rows}
use Rattle.gt_read.specs.declared.fault.FormatFault.{FormatFault}
use Rattle.gt_read.specs.declared.fault.FormatFault.TheVariants.{Utf8}
use Rattle.gt_read.specs.Drafts.Answers.{IsFirst}
use Rattle.gt_read.specs.Faults.{text_faults, failed_at, packed_faults, broken_faults, in_run, at_number, message_faults, entry_faults, field_faults, piece_faults, faults, first_of}
use Rattle.gt_read.specs.Feeding.{EarlyFault, IsEarly}
use Rattle.gt_read.specs.Kinds.{is_varint_kind, packed}
use Rattle.gt_read.specs.Pieces.{Carried, Number, Bytes, Fixed, Piece, pieces, broken}

abbrev AllEarly : List FormatFault → Type 0
AllEarly fs = AllByRecursion EarlyFault fs

both : (fs gs : List FormatFault) → AllEarly fs → AllEarly gs → AllEarly (fs ++ gs)
both [] gs a b = b
both (f ∷ fs) gs a b = (a.0, both fs gs a.1 b)

text_early : (k : Kind) (place : ℕ) (bytes : List ℕ) → AllEarly (text_faults k place bytes)
text_early Text place bytes = by (is_utf8 bytes)
  where
    by : (t : Bool) → AllEarly (cond t [] (Utf8 place ∷ []))
    by true = tt
    by false = (tt, tt)
text_early Id place bytes = tt
text_early OptionalId place bytes = tt
text_early Blob place bytes = tt
text_early Unsigned64 place bytes = tt
text_early Signed64 place bytes = tt
text_early Unsigned32 place bytes = tt
text_early Signed32 place bytes = tt
text_early Flag place bytes = tt

failed_early : (place : ℕ) (o : Option WireReason) → AllEarly (failed_at place o)
failed_early place None = tt
failed_early place (Some reason) = (tt, tt)

packed_early : (k : Kind) (place : ℕ) (bytes : List ℕ) → AllEarly (packed_faults k place bytes)
packed_early k place bytes = by (is_varint_kind k)
  where
    by : (t : Bool) → AllEarly (cond t (failed_at place (packed bytes).failed) (text_faults k place bytes))
    by true = failed_early place (packed bytes).failed
    by false = text_early k place bytes

broken_early : (o : Option WireFault) → AllEarly (broken_faults o)
broken_early None = tt
broken_early (Some fault) = (tt, tt)

run_early : (fs : ℕ → ℕ → List ℕ → List FormatFault) → ((place start : ℕ) (bytes : List ℕ) → AllEarly (fs place start bytes)) → (place : ℕ) (c : Carried) → AllEarly (in_run fs place c)
run_early fs h place (Number n) = tt
run_early fs h place (Bytes start bytes) = h place start bytes
run_early fs h place Fixed = tt

number_early : (n : ℕ) (fs : ℕ → ℕ → List ℕ → List FormatFault) → ((place start : ℕ) (bytes : List ℕ) → AllEarly (fs place start bytes)) → (p : Piece) → AllEarly (at_number n fs p)
number_early n fs h p = by (eqb p.number n)
  where
    by : (t : Bool) → AllEarly (cond t (in_run fs p.place p.carried) [])
    by true = run_early fs h p.place p.carried
    by false = tt

pieces_early : (fs : Piece → List FormatFault) → ((p : Piece) → AllEarly (fs p)) → (ps : List Piece) → AllEarly (flat_map fs ps)
pieces_early fs h [] = tt
pieces_early fs h (p ∷ ps) = both (fs p) (flat_map fs ps) (h p) (pieces_early fs h ps)

message_early : (fs : Piece → List FormatFault) → ((p : Piece) → AllEarly (fs p)) → (bytes : List ℕ) (base : ℕ) → AllEarly (message_faults fs bytes base)
message_early fs h bytes base = both (flat_map fs (pieces bytes base)) (broken_faults (broken bytes base)) (pieces_early fs h (pieces bytes base)) (broken_early (broken bytes base))

entry_early : (k : Key) (fs : List ℕ → ℕ → List FormatFault) → ((bytes : List ℕ) (base : ℕ) → AllEarly (fs bytes base)) → (p : Piece) → AllEarly (entry_faults k fs p)
entry_early k fs h p =
    both (at_number 1 (λ place start bytes. text_faults (key_kind k) place bytes) p) (at_number 2 (λ place start bytes. fs bytes start) p)
    (number_early 1 (λ place start bytes. text_faults (key_kind k) place bytes) (λ place start bytes. text_early (key_kind k) place bytes) p)
    (number_early 2 (λ place start bytes. fs bytes start) (λ place start bytes. h bytes start) p)

mutual
  unfolding piece_faults

  field_early : (row : Row) (p : Piece) → AllEarly (field_faults row p)
  field_early (field n k) p = number_early n (λ place start bytes. text_faults k place bytes) (λ place start bytes. text_early k place bytes) p
  field_early (repeated n k) p = number_early n (λ place start bytes. packed_faults k place bytes) (λ place start bytes. packed_early k place bytes) p
  field_early (message n rows) p = number_early n (λ place start bytes. message_faults (λ q. piece_faults rows q) bytes start) (λ place start bytes. message_early (λ q. piece_faults rows q) (λ q. rows_early rows q) bytes start) p
  field_early (messages n rows) p = number_early n (λ place start bytes. message_faults (λ q. piece_faults rows q) bytes start) (λ place start bytes. message_early (λ q. piece_faults rows q) (λ q. rows_early rows q) bytes start) p
  field_early (member members n k) p = number_early n (λ place start bytes. text_faults k place bytes) (λ place start bytes. text_early k place bytes) p
  field_early (member_message members n rows) p = number_early n (λ place start bytes. message_faults (λ q. piece_faults rows q) bytes start) (λ place start bytes. message_early (λ q. piece_faults rows q) (λ q. rows_early rows q) bytes start) p
  field_early (entries n k rows) p =
      number_early n (λ place start bytes. message_faults (entry_faults k (λ inner base. message_faults (λ q. piece_faults rows q) inner base)) bytes start)
      (λ place start bytes. message_early (entry_faults k (λ inner base. message_faults (λ q. piece_faults rows q) inner base)) (entry_early k (λ inner base. message_faults (λ q. piece_faults rows q) inner base) (λ inner base. message_early (λ q. piece_faults rows q) (λ q. rows_early rows q) inner base)) bytes start) p

  rows_early : (rows : Rows) (p : Piece) → AllEarly (piece_faults rows p)
  rows_early none p = tt
  rows_early (row & rows) p = both (field_faults row p) (piece_faults rows p) (field_early row p) (rows_early rows p)

first_early : (fs : List FormatFault) (end : End FormatFault) → AllEarly fs → IsFirst fs end → IsEarly end
first_early [] (ends.Fault f) a h = absurd cc
first_early (g ∷ gs) (ends.Fault f) a h = let same : g ≡ f = cc in subst EarlyFault same a.0
first_early fs ends.Memory a h = tt

pub body_early : (bytes : List ℕ) (place : ℕ) (end : End FormatFault) → IsFirst (faults ir_rows bytes place) end → IsEarly end
body_early bytes place end h = first_early (faults ir_rows bytes place) end (message_early (piece_faults ir_rows) (rows_early ir_rows) bytes place) h
