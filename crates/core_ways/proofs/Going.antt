-- Going through one method after another towards a record.
use Rattle.std.proofs.Common.{◌≡◌, ℕ, ◌<◌, Bool, true, cond, List, [], ◌∷◌, ◌++◌}
use Rattle.std.proofs.Common.{Option, None, Some, is_some, option_map}
use Rattle.std.proofs.Common.{refl, sym, ap, subst, ◌∙◌, append_assoc}
use Rattle.std.proofs.lemmas.List.{append-nil}
use Rattle.std.specs.Prelude.{Result, Ok, Err, IfOk}
use Rattle.racer_base.specs.declared.ids.MethodId.{MethodId}
use Rattle.core_code.specs.declared.code.Op.{Op as CoreOp}
use Rattle.core_code.specs.Calls.{rank_of, known_below}
use Rattle.core_code.specs.CallFacts.{has_ranks}
use Rattle.core_code.specs.Core.{Core}
use Rattle.core_code.specs.Tree.{Tree, Operation, op_at}
use Rattle.core_code.proofs.ByRank.{known_below-lower}
use Rattle.access_domain.specs.declared.access.Access.{Access}
use Rattle.access_domain.specs.OutcomeRecords.{record_at}
use Rattle.core_ways.specs.declared.part.WayPart.{WayPart}
use Rattle.core_ways.specs.declared.part.WayPart.TheVariants.{Step}
use Rattle.core_ways.specs.Ways.{code_at, has_site, entered, entered_op, reached}
use Rattle.core_ways.specs.Ways.{towards_record}
use Rattle.core_ways.specs.Ways.{way_given, way_parts}
use Rattle.core_ways.specs.Going.{IsEntered, GoesOn}
use Rattle.core_ways.specs.Paths.{op_there, reached_where}
use Rattle.core_ways.proofs.Callees.{lower-site}
use Rattle.core_ways.proofs.SitePaths.{has-found, reached-not}

-- ---- one method after another

abbrev Ways : Type 0
Ways = MethodId → ℕ → List WayPart

abbrev inner_ways : Core → MethodId → Ways
inner_ways core m = known_below (λ i. []) (way_given core) core (rank_of core m)

abbrev from_code : Ways → Option Access → Option Tree → List WayPart
from_code ways r code = elim code [ None ↦ [] | Some c ↦ towards_record ways r c ]

abbrev from_site : Ways → Access → Tree → Option Operation → List WayPart
from_site ways r code o = elim o [ None ↦ [] | Some x ↦ reached 0 r.site code ++ entered ways r.below x.op ]

pub no-code : (core : Core) (m : MethodId) (i : ℕ) → code_at core m ≡ None → way_parts core m i ≡ []
no-code core m i none = ap (from_code (inner_ways core m) (record_at core m i)) none

with-code : (core : Core) (m : MethodId) (i : ℕ) (code : Tree) → code_at core m ≡ Some code →
    way_parts core m i ≡ towards_record (inner_ways core m) (record_at core m i) code
with-code core m i code is = ap (from_code (inner_ways core m) (record_at core m i)) is

pub no-record : (core : Core) (m : MethodId) (i : ℕ) (code : Tree) → code_at core m ≡ Some code →
    record_at core m i ≡ None → way_parts core m i ≡ []
no-record core m i code is none =
    with-code core m i code is ∙ ap (λ (r : Option Access). towards_record (inner_ways core m) r code) none

with-record : (core : Core) (m : MethodId) (i : ℕ) (code : Tree) (r : Access) → code_at core m ≡ Some code →
    record_at core m i ≡ Some r → way_parts core m i ≡ from_site (inner_ways core m) r code (op_at code r.site)
with-record core m i code r is at =
    with-code core m i code is ∙ ap (λ (x : Option Access). towards_record (inner_ways core m) x code) at

pub no-site : (core : Core) (m : MethodId) (i : ℕ) (code : Tree) (r : Access) → code_at core m ≡ Some code →
    record_at core m i ≡ Some r → op_at code r.site ≡ None → way_parts core m i ≡ []
no-site core m i code r is at none =
    with-record core m i code r is at ∙ ap (from_site (inner_ways core m) r code) none

pub with-site : (core : Core) (m : MethodId) (i : ℕ) (code : Tree) (r : Access) (o : Operation) →
    code_at core m ≡ Some code → record_at core m i ≡ Some r → op_at code r.site ≡ Some o →
    way_parts core m i ≡ reached 0 r.site code ++ entered (inner_ways core m) r.below o.op
with-site core m i code r o is at there =
    with-record core m i code r is at ∙ ap (from_site (inner_ways core m) r code) there

-- behind the code up to a site, what its operation enters is entered
pub goes-on : (core : Core) (m : MethodId) (i : ℕ) (code : Tree) (r : Access) (o : Operation)
    (old middle new : List WayPart) (next : Option (MethodId × ℕ)) → has_ranks core ≡ true →
    code_at core m ≡ Some code → record_at core m i ≡ Some r → op_at code r.site ≡ Some o →
    middle ≡ old ++ reached 0 r.site code → IsEntered o.op r.below middle new next → GoesOn core m i old new next
goes-on core m i code r o old middle new None ranks is at there grown enters =
    let T = inner_ways core m in
    enters.0 ∙ grown
    ∙ sym (append-nil (old ++ reached 0 r.site code))
    ∙ ap (λ (ps : List WayPart). (old ++ reached 0 r.site code) ++ ps) (sym (enters.1 T))
    ∙ append_assoc old (reached 0 r.site code) (entered T r.below o.op)
    ∙ ap (λ (ps : List WayPart). old ++ ps) (sym (with-site core m i code r o is at there))
goes-on core m i code r o old middle new (Some (n, j)) ranks is at there grown enters =
    let T = inner_ways core m in
    let low : rank_of core n < rank_of core m =
    lower-site core m code r.site o n enters.count ranks is there enters.calls in
    let here : entered T r.below o.op ≡ Step ∷ T n j =
    ap (λ (b : Option ℕ). entered T b o.op) enters.below ∙ ap (λ (op : CoreOp). entered_op T j op) enters.calls in
    let inside : T n j ≡ way_parts core n j =
    ap (λ (ways : ℕ → List WayPart). ways j)
    (known_below-lower (λ i. []) (way_given core) core (rank_of core m) n low) in
    let rest : List WayPart = way_parts core n j in (
      ap (λ (ps : List WayPart). ps ++ rest) (enters.step ∙ ap (λ (ps : List WayPart). ps ++ Step ∷ []) grown)
          ∙ append_assoc (old ++ reached 0 r.site code) (Step ∷ []) rest
          ∙ append_assoc old (reached 0 r.site code) (Step ∷ rest)
          ∙ ap (λ (ps : List WayPart). old ++ (reached 0 r.site code ++ ps))
          (ap (λ (ps : List WayPart). Step ∷ ps) (sym inside) ∙ sym here)
          ∙ ap (λ (ps : List WayPart). old ++ ps) (sym (with-site core m i code r o is at there)),
      low,
    )

no-op : (o : Option Operation) → option_map (λ (x : Operation). x.op) o ≡ None → o ≡ None
no-op None e = refl
no-op (Some x) e = absurd cc

some-op : (o : Option Operation) (op : CoreOp) → option_map (λ (x : Operation). x.op) o ≡ Some op →
    (x : Operation) × (o ≡ Some x) × (x.op ≡ op)
some-op None op e = absurd cc
some-op (Some x) op e = (x, refl, cc)

-- nothing was passed where there is no way
pub stays : (core : Core) (m : MethodId) (i : ℕ) (old : List WayPart) → way_parts core m i ≡ [] →
    old ≡ old ++ way_parts core m i
stays core m i old none = sym (append-nil old) ∙ ap (λ (ps : List WayPart). old ++ ps) (sym none)

-- the record's code has no such site
pub stays-before : (core : Core) (m : MethodId) (i : ℕ) (code : Tree) (r : Access) (old new : List WayPart)
    (found : Option CoreOp) → code_at core m ≡ Some code → record_at core m i ≡ Some r →
    found ≡ op_there code r.site → found ≡ None → new ≡ old ++ reached_where r.site code →
    new ≡ old ++ way_parts core m i
stays-before core m i code r old new found is at there none grown =
    grown
    ∙ ap (λ (ps : List WayPart). old ++ ps) (reached-not code r.site found there (ap is_some none))
    ∙ ap (λ (ps : List WayPart). old ++ ps)
    (sym (no-site core m i code r is at (no-op (op_at code r.site) (sym there ∙ none))))

pub goes-through : (core : Core) (m : MethodId) (i : ℕ) (code : Tree) (r : Access) (op : CoreOp)
    (old middle new : List WayPart) (found : Option CoreOp) (next : Option (MethodId × ℕ)) → has_ranks core ≡ true →
    code_at core m ≡ Some code → record_at core m i ≡ Some r → found ≡ op_there code r.site → found ≡ Some op →
    middle ≡ old ++ reached_where r.site code → IsEntered op r.below middle new next → GoesOn core m i old new next
goes-through core m i code r op old middle new found next ranks is at there some grown enters =
    let o = some-op (op_at code r.site) op (sym there ∙ some) in
    let has : has_site code r.site ≡ true = has-found code r.site found true there (ap is_some some) in
    goes-on core m i code r o.0 old middle new next ranks is at o.1
    (grown ∙ ap (λ (b : Bool). old ++ cond b (reached 0 r.site code) []) has)
    (subst (λ (x : CoreOp). IsEntered x r.below middle new next) (sym o.2) enters)

pub ok-then : {X E : Type 0} {P Q : X → Type 0} (r : Result X E) → ((x : X) → P x → Q x) → IfOk r P → IfOk r Q
ok-then (Ok x) f p = f x p
ok-then (Err e) f p = p
