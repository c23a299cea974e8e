use Rattle.std.proofs.Common.{◌≡◌, ◌||◌, Bool, map, sym, ap, ◌∙◌}
use Rattle.std.specs.Prelude.{not}
use Rattle.std.specs.List.{list_any}
use Rattle.std.specs.Str.{bytes_eq}
use Rattle.aux_codec.specs.Order.{Ascend}
use Rattle.aux_codec.proofs.Ascending.{in_both, new_in_both, none_ascend}
use Rattle.aux_codec.proofs.Index.{texts, found_by_bytes, has_after_insert}
use Rattle.aux_codec.proofs.seen.Seen.insert.Goals as goal

pub returns-then-is_behind-clause-added : goal.returns-then-is_behind-clause-added
returns-then-is_behind-clause-added c =
    rw (← c.self.view_is) (new_in_both c.self.inside.ascending.items c.self.inside.others.keys c.args.bytes.now (c.is_empty.ensures.0 c.if-is_empty.true)
    (rw c.as_slice.ensures.value at c.if-is_behind.ensures))

pub invariant_of-self-inside-2 : goal.invariant_of-self-inside-2
invariant_of-self-inside-2 c = let h : Ascend (map (λ k. k.now) c.clear.new.self.items) = rw c.clear.ensures.items none_ascend in (h, tt)

pub returns-clause-added : goal.returns-clause-added
returns-clause-added c =
    let had = in_both c.self.inside.ascending.items c.self.inside.others.keys c.args.bytes.now in
    let put : list_any (bytes_eq c.args.bytes.now) (texts c.put_all.new.set.keys) ≡ list_any (bytes_eq c.args.bytes.now) (texts (c.self.inside.ascending.items)) || list_any (bytes_eq c.args.bytes.now) (texts c.self.inside.others.keys) =
    rw (← c.as_slice-2.ensures.value) (c.in_ok-put_all.ensures c.args.bytes.now) in
    rw (← c.self.view_is) (c.in_ok-insert.ensures.added ∙ ap not (found_by_bytes c.args.bytes c.put_all.new.set.keys ∙ put ∙ sym had))

pub returns-clause-has : goal.returns-clause-has
returns-clause-has c = λ q.
    let had = in_both c.self.inside.ascending.items c.self.inside.others.keys q in
    let put : list_any (bytes_eq q) (texts c.put_all.new.set.keys) ≡ list_any (bytes_eq q) (texts (c.self.inside.ascending.items)) || list_any (bytes_eq q) (texts c.self.inside.others.keys) =
    rw (← c.as_slice-2.ensures.value) (c.in_ok-put_all.ensures q) in
    rw (← c.self.view_is, c.clear.ensures.items, c.in_ok-insert.ensures.keys) (has_after_insert c.args.bytes q c.put_all.new.set.keys ∙ ap (λ (b : Bool). bytes_eq q c.args.bytes.now || b) (put ∙ sym had))
