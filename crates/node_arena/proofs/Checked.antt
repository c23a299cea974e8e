-- The first fault of an IR, by what the checks of its draft answer.
use Rattle.std.proofs.Common.{◌≡◌, ℕ, List, [], map, Option, Some, None, refl, sym, ap, ◌∙◌}
use Rattle.std.specs.Map.{lookup}
use Rattle.std.specs.Option.{option_map, option_or}
use Rattle.std.specs.Str.{bytes_eq}
use Rattle.gt_model.specs.declared.intervals.Interval.{Interval}
use Rattle.gt_model.specs.declared.ir.Ir.{Ir}
use Rattle.gt_model.specs.declared.symbols.Payload.{Payload}
use Rattle.gt_model.specs.Linked.{LinkFault, DupUuid, BareBlock, repeated, repeat_fault, bare_fault, first_reference_fault, intervals, link_fault, kind_at}
use Rattle.gt_model.specs.Nodes.{nodes}
use Rattle.gt_model.specs.References.{references}
use Rattle.node_arena.specs.declared.arena.Arena.{Arena}
use Rattle.node_arena.specs.declared.fault.CheckFault.{CheckFault}
use Rattle.node_arena.specs.declared.fault.CheckFault.TheVariants as faults
use Rattle.node_arena.specs.Checking.{Linkable, check_fault, kind_found, bare_id}
use Rattle.node_arena.specs.Placing.{Drafted, full_tree}
use Rattle.node_arena.specs.Refs.{all_refs, ref_kind}
use Rattle.node_arena.specs.Sound.{Live, ref_id}
use Rattle.node_arena.specs.Stored.{Index, arenas_of, entry_of}
use Rattle.node_arena.proofs.Members.{All-In}
use Rattle.node_arena.proofs.RefLaws.{live_refs}
use Rattle.node_arena.proofs.RefMembers.{held-at}
use Rattle.node_arena.proofs.RefNodes.{Formed, formed-nodes, formed-ids, kind-found}

pub formed-draft : (ir : Ir) (ps : List Payload) (a : Arena) → Drafted ir ir.modules ps (arenas_of a) → Formed ir ps (arenas_of a)
formed-draft ir ps a d = record { root = d.root; plain = d.plain; tree = d.tree }

-- what the index of a draft finds is of the draft
pub linkable : (a : Arena) (index : Index) → full_tree (arenas_of a) → index.entries ≡ map (entry_of (arenas_of a)) (all_refs (arenas_of a)) → Linkable a index
linkable a index t entries = record {
  tree = t;
  live = λ id r e.
      All-In (Live (arenas_of a)) (all_refs (arenas_of a)) r (live_refs (arenas_of a) t)
      (held-at (arenas_of a) (all_refs (arenas_of a)) id r (sym (ap (lookup (bytes_eq id)) entries) ∙ e)).0;
}

-- a fault of the first, the second and the third kind
first-or : (a b : Option LinkFault) (x : LinkFault) → a ≡ Some x → option_or a b ≡ Some x
first-or a b x e = ap (λ o. option_or o b) e

second-or : (a b : Option LinkFault) → a ≡ None → option_or a b ≡ b
second-or a b e = ap (λ o. option_or o b) e

bare-some : (o : Option Interval) (id : List ℕ) → option_map (λ (i : Interval). i.uuid) o ≡ Some id → option_map (λ (i : Interval). BareBlock i.uuid) o ≡ Some (BareBlock id)
bare-some None id e = absurd (cc)
bare-some (Some i) id e = let same : i.uuid ≡ id = cc in ap (λ x. Some (BareBlock x)) same

bare-none : (o : Option Interval) → option_map (λ (i : Interval). i.uuid) o ≡ None → option_map (λ (i : Interval). BareBlock i.uuid) o ≡ None
bare-none None e = refl
bare-none (Some i) e = absurd (cc)

abbrev third : Ir → Option LinkFault
third ir = first_reference_fault (kind_at (nodes ir)) (references ir)

abbrev later : Ir → Option LinkFault
later ir = option_or (bare_fault (intervals ir)) (third ir)

module _ (ir : Ir) (ps : List Payload) (a : Arena) (d : Drafted ir ir.modules ps (arenas_of a)) where
  pub repeat-answered : (f : CheckFault) (id : List ℕ) → f ≡ faults.DupUuid id → repeated [] (map (ref_id (arenas_of a)) (all_refs (arenas_of a))) ≡ Some id
      → option_map check_fault (link_fault ir) ≡ Some f
  repeat-answered f id e h =
      let found : repeat_fault [] (nodes ir) ≡ Some (DupUuid id) =
      ap (λ l. option_map DupUuid (repeated [] l)) (sym (formed-ids ir ps (arenas_of a) (formed-draft ir ps a d))) ∙ ap (option_map DupUuid) h in
      ap (option_map check_fault) (first-or (repeat_fault [] (nodes ir)) (later ir) (DupUuid id) found) ∙ ap (λ x. Some x) (sym e)

  module _ (distinct : repeated [] (map (ref_id (arenas_of a)) (all_refs (arenas_of a))) ≡ None) where
    no-repeat : repeat_fault [] (nodes ir) ≡ None
    no-repeat = ap (λ l. option_map DupUuid (repeated [] l)) (sym (formed-ids ir ps (arenas_of a) (formed-draft ir ps a d))) ∙ ap (option_map DupUuid) distinct

    pub bare-answered : (id : List ℕ) → bare_id (intervals ir) ≡ Some id → option_map check_fault (link_fault ir) ≡ Some (faults.BareBlock id)
    bare-answered id h =
        ap (option_map check_fault) (second-or (repeat_fault [] (nodes ir)) (later ir) no-repeat ∙ first-or (bare_fault (intervals ir)) (third ir) (BareBlock id) (bare-some _ id h))

    module _ (index : Index) (entries : index.entries ≡ map (entry_of (arenas_of a)) (all_refs (arenas_of a))) (solid : bare_id (intervals ir) ≡ None) where
      kinds : kind_at (nodes ir) ≡ kind_found a index
      kinds = λ i id. at id i
        where
          at : (id : List ℕ) → kind_at (nodes ir) id ≡ kind_found a index id
          at id =
              ap (λ ns. kind_at ns id) (sym (formed-nodes ir ps (arenas_of a) (formed-draft ir ps a d))) ∙ kind-found (arenas_of a) (all_refs (arenas_of a)) id
              ∙ ap (λ es. option_map (ref_kind (arenas_of a)) (lookup (bytes_eq id) es)) (sym entries)

      last-fault : link_fault ir ≡ first_reference_fault (kind_found a index) (references ir)
      last-fault =
          second-or (repeat_fault [] (nodes ir)) (later ir) no-repeat ∙ second-or (bare_fault (intervals ir)) (third ir) (bare-none _ solid)
          ∙ ap (λ k. first_reference_fault k (references ir)) kinds

      pub reference-answered : (f : CheckFault) → option_map check_fault (first_reference_fault (kind_found a index) (references ir)) ≡ Some f → option_map check_fault (link_fault ir) ≡ Some f
      reference-answered f h = ap (option_map check_fault) last-fault ∙ h

      pub nothing-answered : first_reference_fault (kind_found a index) (references ir) ≡ None → link_fault ir ≡ None
      nothing-answered h = last-fault ∙ h
