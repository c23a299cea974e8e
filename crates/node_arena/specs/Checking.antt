-- What the checks of references answer, by what the index finds.
use Rattle.std.specs.Prelude.{◌≡◌, ℕ, Option, Some, None, List, Result, MatchResult, find}
use Rattle.std.specs.List.{list_any}
use Rattle.std.specs.Option.{option_map}
use Rattle.std.specs.Str.{bytes_eq}
use Rattle.indexmap.specs.IndexMap.{get}
use Rattle.gt_model.specs.declared.intervals.Interval.{Interval}
use Rattle.gt_model.specs.Linked.{is_bare, LinkFault, DupUuid, BareBlock, Dangling, WrongKind, first_reference_fault}
use Rattle.gt_model.specs.Nodes.{Kind}
use Rattle.gt_model.specs.References.{Reference}
use Rattle.gt_model.specs.References as wants
use Rattle.node_arena.specs.declared.arena.Arena.{Arena}
use Rattle.node_arena.specs.declared.fault.CheckFault.{CheckFault}
use Rattle.node_arena.specs.declared.fault.CheckFault.TheVariants as faults
use Rattle.node_arena.specs.declared.ids.NodeRef.{NodeRef}
use Rattle.node_arena.specs.declared.landing.Wanted.{Wanted}
use Rattle.node_arena.specs.declared.landing.Wanted.TheVariants as wanted
use Rattle.node_arena.specs.Refs.{ref_kind}
use Rattle.node_arena.specs.Sound.{Live}
use Rattle.node_arena.specs.Stored.{Index, arenas_of}
use Rattle.node_arena.specs.Placing.{full_tree}

-- the fault of an IR as the graph answers it
abbrev pub check_fault : LinkFault → CheckFault
check_fault (DupUuid id) = faults.DupUuid id
check_fault (BareBlock id) = faults.BareBlock id
check_fault (Dangling from to) = faults.Dangling from to
check_fault (WrongKind from to) = faults.WrongKind from to

abbrev pub wanted_of : Wanted → wants.Wanted
wanted_of (wanted.EntryOf id) = wants.EntryOf id.index
wanted_of (wanted.ReferentOf id) = wants.ReferentOf id.index
wanted_of (wanted.SymbolOf id) = wants.SymbolOf id.index
wanted_of wanted.Vertex = wants.Vertex

-- what an identifier stands for, by the index
abbrev pub kind_found : Arena → Index → List ℕ → Option Kind
kind_found a index id = option_map (ref_kind (arenas_of a)) (get bytes_eq index id)

-- the trees stand, and what the index finds is of the graph
pub record Linkable (a : Arena) (index : Index) : Type 0 where
  pub tree : full_tree (arenas_of a)
  pub live : (id : List ℕ) (r : NodeRef) → get bytes_eq index id ≡ Some r → Live (arenas_of a) r

-- the references are right, or the first wrong one is answered
abbrev pub ChecksAll : Arena → Index → List Reference → Result (Unit {0}) CheckFault → Type 0
ChecksAll a index rs result = MatchResult result
    (λ _. first_reference_fault (kind_found a index) rs ≡ None)
    (λ fault. option_map check_fault (first_reference_fault (kind_found a index) rs) ≡ Some fault)

-- the identifier of the first interval with a bare block
abbrev pub bare_id : List Interval → Option (List ℕ)
bare_id is = option_map (λ (i : Interval). i.uuid) (find (λ (i : Interval). list_any is_bare i.blocks) is)
