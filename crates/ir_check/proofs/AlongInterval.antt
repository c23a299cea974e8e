-- One step of the check along the expressions of an interval, and of that along the intervals.
use Rattle.std.proofs.Common.{◌≡◌, ℕ, zero, suc, ◌+◌, ◌<◌, ◌≤◌, List, [], ◌∷◌, map, take, drop, length, length-drop, ◌-◌, get_or, Option, sym, ap, ◌∙◌, subst, add-one, arith}
use Rattle.std.proofs.lemmas.List.{get_or-map}
use Rattle.gt_model.specs.declared.exprs.Expr.{Expr}
use Rattle.gt_model.specs.declared.intervals.Block.{Block}
use Rattle.gt_model.specs.Ordered.{ordered_exprs}
use Rattle.node_arena.specs.Arenas.{Arenas, interval_at}
use Rattle.node_arena.specs.declared.fault.CheckFault.{CheckFault}
use Rattle.node_arena.specs.declared.ids.IntervalId.{IntervalId}
use Rattle.node_arena.specs.declared.nodes.IntervalNode.{IntervalNode}
use Rattle.ir_check.specs.AtGraph.{faults_at}
use Rattle.ir_check.specs.Along.{after, covering, fault_along, interval_with}
use Rattle.ir_check.specs.Faults.{fault_of}
use Rattle.ir_check.specs.Spans.{first_in, span_of}
use Rattle.ir_check.specs.declared.span.Span.{Span}
use Rattle.ir_check.specs.declared.profile.Plain.{Plain}
use Rattle.ir_check.proofs.AlongExprs.{fault_same}
use Rattle.ir_check.proofs.FirstLists.{take_whole}
use Rattle.ir_check.proofs.Homes.{after_after, home_along, up_in_order}
use Rattle.ir_check.proofs.Sharing.{Ascending, ascending, behind_at}
use Rattle.sym_expr.specs.declared.aim.Aim.{Aim}
use Rattle.sym_expr.specs.Expressions.{home}
use Rattle.sym_expr.specs.Modules.{in_order}
use Rattle.sym_expr.specs.Tables.{Tables, expr_size}

offsets_rise : (es : List Expr) (k j : ℕ) (d e : Expr) → Ascending es → k ≤ j → j < length es → (get_or es k d).at ≤ (get_or es j e).at
offsets_rise [] k j d e up le within = absurd (omega arith)
offsets_rise (x ∷ es) zero zero d e up le within = omega arith
offsets_rise (x ∷ es) zero (suc j) d e up le within = let less : x.at < (get_or es j e).at = behind_at x.at es j e up.0 (omega arith) in omega arith
offsets_rise (x ∷ es) (suc k) zero d e up le within = absurd (omega arith)
offsets_rise (x ∷ es) (suc k) (suc j) d e up le within = offsets_rise es k j d e up.1 (omega arith) (omega arith)

-- of the blocks, those left find the same for the expressions from a place on
abbrev pub Finds : List Expr → ℕ → List Block → List Block → Type 0
Finds es k left ordered = (j : ℕ) (d : Expr) → k ≤ j → j < length es → after (get_or es j d).at left ≡ after (get_or es j d).at ordered

pub finds_more : (es : List Expr) (k : ℕ) (e : Expr) (left ordered : List Block) → ordered_exprs es → e ≡ get_or es k e → Finds es k left ordered → Finds es (k + 1) (after e.at left) ordered
finds_more es k e left ordered sorted is finds =
    λ j d later within.
    let le : e.at ≤ (get_or es j d).at = subst (λ (x : Expr). x.at ≤ (get_or es j d).at) (sym is) (offsets_rise es k j e d (ascending es sorted) (omega arith) within) in
    after_after e.at (get_or es j d).at left le ∙ finds j d (omega arith) within

-- what is found along the blocks in order is what is wrong with the expression
pub fault_is : (allowed : Plain) (aim : List ℕ → Aim) (size : ℕ → ℕ) (n : IntervalNode) (blocks left ordered : List Block) (k : ℕ) (e : Expr) → ordered_exprs n.exprs → ordered ≡ in_order blocks → k < length n.exprs → e ≡ get_or n.exprs k e
    → Finds n.exprs k left ordered → fault_along allowed aim size (interval_with n []) e (drop (k + 1) n.exprs) (covering e.at (after e.at left)) ≡ fault_of allowed aim size (interval_with n blocks) e
fault_is allowed aim size n blocks left ordered k e sorted order within is finds =
    let i = interval_with n blocks in
    let here = get_or n.exprs k e in
    let there : covering here.at (after here.at left) ≡ home i here.at = ap (covering here.at) (finds k e (omega arith) within ∙ ap (after here.at) order) ∙ home_along here.at (in_order blocks) (up_in_order blocks) in
    let found : covering e.at (after e.at left) ≡ home i e.at = subst (λ (x : Expr). covering x.at (after x.at left) ≡ home i x.at) (sym is) there in
    ap (fault_along allowed aim size i e (drop (k + 1) n.exprs)) found
    ∙ subst (λ (x : Expr). fault_along allowed aim size i x (drop (k + 1) n.exprs) (home i x.at) ≡ fault_of allowed aim size i x) (sym is) (rw (add-one k) (fault_same size i k e sorted within allowed aim))

-- an element of a list that is the same
pub item_is : (es all : List Expr) (k : ℕ) (e : Expr) → es ≡ all → e ≡ get_or es k e → e ≡ get_or all k e
item_is es all k e same is = is ∙ ap (λ (xs : List Expr). get_or xs k e) same

-- what a step has computed is what is wrong with its expression
pub fault_found : (allowed : Plain) (aim : List ℕ → Aim) (size : ℕ → ℕ) (n : IntervalNode) (blocks left passed ordered : List Block) (es : List Expr) (k : ℕ) (e : Expr) (stands : Option Block) (o : Option CheckFault) → ordered_exprs n.exprs → ordered ≡ in_order blocks → es ≡ n.exprs → k < length es → e ≡ get_or es k e
    → Finds n.exprs k left ordered → passed ≡ after e.at left → stands ≡ covering e.at passed → o ≡ fault_along allowed aim size (interval_with n []) e (take (length es - (k + 1)) (drop (k + 1) es)) stands → o ≡ fault_of allowed aim size (interval_with n blocks) e
fault_found allowed aim size n blocks left passed ordered es k e stands o sorted order same within is finds pass stand fault =
    fault
    ∙ ap (λ (xs : List Expr). fault_along allowed aim size (interval_with n []) e xs stands) (take_whole (drop (k + 1) es) (length es - (k + 1)) (omega (arith, length-drop (k + 1) es)))
    ∙ ap (λ (xs : List Expr). fault_along allowed aim size (interval_with n []) e (drop (k + 1) xs) stands) same
    ∙ ap (fault_along allowed aim size (interval_with n []) e (drop (k + 1) n.exprs)) (stand ∙ ap (covering e.at) pass)
    ∙ fault_is allowed aim size n blocks left ordered k e sorted order (omega (arith, ap length same)) (item_is es n.exprs k e same is) finds

-- the span at a place is that of the interval there
pub span_there : (g : Arenas) (ids : List IntervalId) (spans : List Span) (k : ℕ) (d : IntervalId) (s : Span) → spans ≡ map (span_of g) ids → k < length ids → s ≡ get_or spans k s → s ≡ span_of g (get_or ids k d)
span_there g ids spans k d s same within at = at ∙ ap (λ (all : List Span). get_or all k s) same ∙ get_or-map (span_of g) ids k d s within

-- what is wrong in an interval, by its node and its span
pub faults_there : (allowed : Plain) (aim : List ℕ → Aim) (t : Tables) (g : Arenas) (id : IntervalId) (n : IntervalNode) (s : Span) → n ≡ interval_at g id → s ≡ span_of g id
    → first_in (fault_of allowed aim (expr_size t n.uuid) (interval_with n s.blocks)) n.exprs ≡ faults_at allowed aim t g id
faults_there allowed aim t g id n s node span =
    ap (λ (m : IntervalNode). first_in (fault_of allowed aim (expr_size t m.uuid) (interval_with m s.blocks)) m.exprs) node
    ∙ ap (λ (p : Span). first_in (fault_of allowed aim (expr_size t (interval_at g id).uuid) (interval_with (interval_at g id) p.blocks)) (interval_at g id).exprs) span
