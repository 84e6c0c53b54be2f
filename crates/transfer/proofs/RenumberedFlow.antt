-- The flow of code of one form, and its outcome, with other numbers for classes and fields.
use Rattle.std.proofs.Common.{◌≡◌, ℕ, ◌+◌, Bool, true, false, cond, ◌&&◌, ◌||◌, List, [], ◌∷◌, ◌++◌, Option, None, Some}
use Rattle.std.proofs.Common.{arith, length, map, nat_eq, nat_lt, option_map, unwrap_or, refl, sym, ap, subst, ◌∙◌}
use Rattle.std.proofs.lemmas.Bool.{and_parts, eqb-true, false≢true}
use Rattle.std.proofs.lemmas.List.{append-nil, length-append, length-map}
use Rattle.std.proofs.lemmas.List.Concat.{flat_map-append}
use Rattle.std.specs.Cmp.Lexicographic.{pointwise}
use Rattle.std.specs.FinSet as set
use Rattle.std.specs.List.{list_any}
use Rattle.std.specs.Ordering.{eq_by_cmp}
use Rattle.racer_base.specs.declared.ids.MethodId.{MethodId}
use Rattle.racer_base.specs.declared.ids.SiteId.{SiteId}
use Rattle.racer_base.specs.declared.limits.TheConstants.{MAX_SUMMARY_KEYS}
use Rattle.access_paths.specs.declared.path.Path.{Path}
use Rattle.access_paths.specs.Order.{PathSet, path_cmp}
use Rattle.owner_domain.specs.declared.value.Value.{Value}
use Rattle.owner_domain.specs.declared.value.Value.TheVariants.{Unnamed}
use Rattle.owner_domain.specs.declared.value.State.{State}
use Rattle.core_code.specs.declared.code.Op.{Op as CoreOp}
use Rattle.core_code.specs.declared.code.Op.TheVariants.{Push, PushClass, PushPrim, PushNull, New, Dup, Drop, Get, Put}
use Rattle.core_code.specs.declared.code.Op.TheVariants.{Set, Prim, Outside, Call, Unread, Ret, Throw}
use Rattle.core_code.specs.Calls.{called_by, calls_in}
use Rattle.core_code.specs.Core.{Core}
use Rattle.core_code.specs.Tree.{Tree, Op, Skip, Seq, Choice, Loop, Sync, Operation, steps_of}
use Rattle.access_domain.specs.declared.summary.Summary.{Summary}
use Rattle.access_domain.specs.declared.summary.Outcome.{Outcome}
use Rattle.access_domain.specs.declared.summary.Outcome.TheVariants as code
use Rattle.access_domain.specs.Records.{different_paths, first_of_keys}
use Rattle.access_domain.specs.Findings.{Findings, Known, Large, Whole, Table, outcome_from}
use Rattle.access_domain.specs.FlowContext.{given_of}
use Rattle.access_domain.specs.Operations.{Effects, op_effects, popped}
use Rattle.access_domain.specs.Flow.{flow}
use Rattle.access_domain.specs.Summaries.{findings_from, is_large, known_from}
use Rattle.call_subst.proofs.SameSets.{any-same_set, from_list-items}
use Rattle.transfer_steps.proofs.Adding.{same_members}
use Rattle.transfer_ties.specs.Forms.{same_code, same_lock, same_op}
use Rattle.transfer.proofs.Renumbering.{Renumbering, path_by, state_by, value_by}
use Rattle.transfer.proofs.RenumberedCalls.{access_by, different_paths-by, findings_by, first_of_keys-by, known_by}
use Rattle.transfer.proofs.RenumberedParts.{AgreeBy, after-agree-by, chosen-agree-by, effects_by, looped-agree-by}
use Rattle.transfer.proofs.RenumberedSteps.{AreAlike, goes_on-agree, op-agree-by, popped-by}
use Rattle.transfer.proofs.Tables.{outcome-alike}

-- ---- calls of code of one form, pair by pair

called-long : (p q : Core) (op more : CoreOp) → same_op p q op more ≡ true →
    length (called_by op) ≡ length (called_by more)
called-long p q (Call m k) (Call n l) e = refl
called-long p q (Push v) (Push w) e = refl
called-long p q (PushClass c) (PushClass d) e = refl
called-long p q PushPrim PushPrim e = refl
called-long p q PushNull PushNull e = refl
called-long p q (New c) (New d) e = refl
called-long p q Dup Dup e = refl
called-long p q Drop Drop e = refl
called-long p q (Get f) (Get g) e = refl
called-long p q (Put f) (Put g) e = refl
called-long p q (Set v) (Set w) e = refl
called-long p q (Prim k) (Prim l) e = refl
called-long p q (Outside k) (Outside l) e = refl
called-long p q (Unread m k) (Unread n l) e = refl
called-long p q Ret Ret e = refl
called-long p q Throw Throw e = refl
called-long p q _ _ e = absurd (false≢true e)

calls-append : (first rest : Tree) → calls_in (Seq first rest) ≡ calls_in first ++ calls_in rest
calls-append first rest = flat_map-append (λ (o : Operation). called_by o.op) (steps_of first) (steps_of rest)

both-long : {X Y : Type 0} (xs ys : List X) (zs ws : List Y) → length xs ≡ length zs → length ys ≡ length ws →
    length (xs ++ ys) ≡ length (zs ++ ws)
both-long xs ys zs ws e h = length-append xs ys ∙ (λ i. e i + h i) ∙ sym (length-append zs ws)

two-long : (a b c d : Tree) → length (calls_in a) ≡ length (calls_in c) → length (calls_in b) ≡ length (calls_in d) →
    length (calls_in (Seq a b)) ≡ length (calls_in (Seq c d))
two-long a b c d e h =
    ap length (calls-append a b) ∙ both-long (calls_in a) (calls_in b) (calls_in c) (calls_in d) e h
    ∙ ap length (sym (calls-append c d))

calls-long : (p q : Core) (c d : Tree) → same_code p q c d ≡ true → length (calls_in c) ≡ length (calls_in d)
calls-long p q (Op site place op) (Op other elsewhere more) e =
    both-long (called_by op) [] (called_by more) []
    (called-long p q op more (and_parts (nat_eq site.0 other.0) (same_op p q op more) e).1) refl
calls-long p q Skip Skip e = refl
calls-long p q (Seq a b) (Seq c d) e =
    let parts = and_parts (same_code p q a c) (same_code p q b d) e in
    two-long a b c d (calls-long p q a c parts.0) (calls-long p q b d parts.1)
calls-long p q (Choice a b) (Choice c d) e =
    let parts = and_parts (same_code p q a c) (same_code p q b d) e in
    two-long a b c d (calls-long p q a c parts.0) (calls-long p q b d parts.1)
calls-long p q (Loop a) (Loop c) e = calls-long p q a c e
calls-long p q (Sync lock a) (Sync held c) e =
    calls-long p q a c (and_parts (same_lock lock.kind held.kind) (same_code p q a c) e).1
calls-long p q _ _ e = absurd (false≢true e)

and_regrouped : (a b c : Bool) → (a && (b && c)) ≡ ((a && b) && c)
and_regrouped true b c = refl
and_regrouped false b c = refl

pointwise-append : {X Y : Type 0} (R : X → Y → Bool) (xs ys : List X) (zs ws : List Y) → length xs ≡ length zs →
    pointwise R (xs ++ ys) (zs ++ ws) ≡ (pointwise R xs zs && pointwise R ys ws)
pointwise-append R [] ys [] ws e = refl
pointwise-append R [] ys (z ∷ zs) ws e = absurd (omega (arith, e))
pointwise-append R (x ∷ xs) ys [] ws e = absurd (omega (arith, e))
pointwise-append R (x ∷ xs) ys (z ∷ zs) ws e =
    ap (λ (b : Bool). R x z && b) (pointwise-append R xs ys zs ws (omega (arith, e)))
    ∙ and_regrouped (R x z) (pointwise R xs zs) (pointwise R ys ws)

-- the calls of each of two parts
calls-parts : (p q : Core) (R : MethodId → MethodId → Bool) (a b c d : Tree) → same_code p q a c ≡ true →
    pointwise R (calls_in (Seq a b)) (calls_in (Seq c d)) ≡ true →
    (pointwise R (calls_in a) (calls_in c) ≡ true) × (pointwise R (calls_in b) (calls_in d) ≡ true)
calls-parts p q R a b c d same called =
    let joined : pointwise R (calls_in a ++ calls_in b) (calls_in c ++ calls_in d) ≡ true =
    (λ i. pointwise R (sym (calls-append a b) i) (sym (calls-append c d) i)) ∙ called in
    and_parts (pointwise R (calls_in a) (calls_in c)) (pointwise R (calls_in b) (calls_in d))
    (sym (pointwise-append R (calls_in a) (calls_in b) (calls_in c) (calls_in d) (calls-long p q a c same)) ∙ joined)

-- ---- code

abbrev site_of : ℕ → SiteId
site_of n = record { 0 = n }

same_site : (site other : SiteId) → nat_eq site.0 other.0 ≡ true → site ≡ other
same_site site other e = ap site_of (eqb-true site.0 other.0 e)

module _ (r : Renumbering) (p q : Core) (t u : Table) (main : Bool) (R : MethodId → MethodId → Bool)
    (a : AreAlike r p q t u main R) where
  pub flow-agree-by : (c d : Tree) (locked : Bool) (s : State) → same_code p q c d ≡ true →
      pointwise R (calls_in c) (calls_in d) ≡ true →
      AgreeBy r (flow (given_of q u main) d locked (state_by r s)) (flow (given_of p t main) c locked s)
  flow-agree-by (Op site place op) (Op other elsewhere more) locked s e called =
      let parts = and_parts (nat_eq site.0 other.0) (same_op p q op more) e in
      subst (λ (x : SiteId). AgreeBy r (op_effects (given_of q u main) locked x more (state_by r s))
      (op_effects (given_of p t main) locked site op s)) (same_site site other parts.0)
      (op-agree-by r p q t u main R a op more locked site s parts.1
      ((λ i. pointwise R (sym (append-nil (called_by op)) i) (sym (append-nil (called_by more)) i)) ∙ called))
  flow-agree-by Skip Skip locked s e called = goes_on-agree r (state_by r s) s refl
  flow-agree-by (Seq first rest) (Seq other others) locked s e called =
      let parts = and_parts (same_code p q first other) (same_code p q rest others) e in
      let calls = calls-parts p q R first rest other others parts.0 called in
      after-agree-by r (flow (given_of q u main) other locked (state_by r s))
      (flow (given_of p t main) first locked s) (flow (given_of q u main) others locked)
      (flow (given_of p t main) rest locked) (flow-agree-by first other locked s parts.0 calls.0)
      (λ end. flow-agree-by rest others locked end parts.1 calls.1)
  flow-agree-by (Choice left right) (Choice other others) locked s e called =
      let parts = and_parts (same_code p q left other) (same_code p q right others) e in
      let calls = calls-parts p q R left right other others parts.0 called in
      chosen-agree-by r (flow (given_of q u main) other locked (state_by r s))
      (flow (given_of p t main) left locked s) (flow (given_of q u main) others locked (state_by r s))
      (flow (given_of p t main) right locked s) (flow-agree-by left other locked s parts.0 calls.0)
      (flow-agree-by right others locked s parts.1 calls.1)
  flow-agree-by (Loop body) (Loop other) locked s e called =
      looped-agree-by r (flow (given_of q u main) other locked) (flow (given_of p t main) body locked) s
      (λ here. flow-agree-by body other locked here e called)
  flow-agree-by (Sync lock body) (Sync held other) locked s e called =
      let parts = and_parts (same_lock lock.kind held.kind) (same_code p q body other) e in
      subst (λ (x : State). AgreeBy r (flow (given_of q u main) other true x)
      (flow (given_of p t main) body true (popped s 1))) (sym (popped-by r s 1))
      (flow-agree-by body other true (popped s 1) parts.1 called)
  flow-agree-by _ _ locked s e called = absurd (false≢true e)

-- ---- outcomes

abbrev pub paths_by : Renumbering → PathSet → PathSet
paths_by r paths = set.from_list {R = path_cmp} (map (path_by r) (set.items paths))

abbrev pub summary_by : Renumbering → Summary → Summary
summary_by r s =
    record {
      accesses = map (access_by r) s.accesses;
      wobbly = paths_by r s.wobbly;
      result = value_by r s.result;
    }

abbrev pub outcome_by : Renumbering → Outcome → Outcome
outcome_by r code.Large = code.Large
outcome_by r (code.Summary s) = code.Summary (summary_by r s)

pub any-by : (r : Renumbering) (test : Path → Bool) (paths : List Path) →
    list_any test (map (path_by r) paths) ≡ list_any (λ p. test (path_by r p)) paths
any-by r test [] = refl
any-by r test (p ∷ paths) = ap (λ (b : Bool). test (path_by r p) || b) (any-by r test paths)

-- lists with one set have one set with these numbers too
pub map-same_set : (r : Renumbering) (ps qs : List Path) →
    set.from_list {R = path_cmp} ps ≡ set.from_list qs →
    set.from_list {R = path_cmp} (map (path_by r) ps) ≡ set.from_list (map (path_by r) qs)
map-same_set r ps qs same =
    same_members (map (path_by r) ps) (map (path_by r) qs)
    (λ x.
    let test = eq_by_cmp path_cmp x in
    any-by r test ps ∙ any-same_set (λ p. test (path_by r p)) ps qs same ∙ sym (any-by r test qs))

pub outcome_from-by : (r : Renumbering) (known : Known) →
    outcome_from (known_by r known) ≡ outcome_by r (outcome_from known)
outcome_from-by r Large = refl
outcome_from-by r (Whole f) =
    let paths : set.from_list {R = path_cmp} (map (path_by r) f.wobbly) ≡ paths_by r (set.from_list f.wobbly) =
    map-same_set r f.wobbly (set.items (set.from_list {R = path_cmp} f.wobbly))
    (sym (from_list-items (set.from_list {R = path_cmp} f.wobbly))) in
    (λ i. code.Summary (record {
      accesses = map (access_by r) f.records;
      wobbly = paths i;
      result = value_by r f.result;
    }))

result-by : (r : Renumbering) (o : Option Value) →
    unwrap_or (option_map (value_by r) o) Unnamed ≡ value_by r (unwrap_or o Unnamed)
result-by r None = refl
result-by r (Some v) = refl

findings_from-by : (r : Renumbering) (e : Effects) → findings_from (effects_by r e) ≡ findings_by r (findings_from e)
findings_from-by r e =
    (λ i. record {
      records = first_of_keys-by r e.records i;
      wobbly = different_paths-by r e.wobbly i;
      result = result-by r e.result i;
    })

is_large-by : (r : Renumbering) (e : Effects) → is_large (effects_by r e) ≡ is_large e
is_large-by r e =
    let keys = ap length (first_of_keys-by r e.records) ∙ length-map (first_of_keys e.records) (access_by r) in
    let paths = ap length (different_paths-by r e.wobbly) ∙ length-map (different_paths e.wobbly) (path_by r) in
    (λ i. (e.large || nat_lt MAX_SUMMARY_KEYS (keys i)) || nat_lt MAX_SUMMARY_KEYS (paths i))

large_or : (r : Renumbering) (large : Bool) (f : Findings) →
    cond large Large (Whole (findings_by r f)) ≡ known_by r (cond large Large (Whole f))
large_or r true f = refl
large_or r false f = refl

known_from-by : (r : Renumbering) (e : Effects) → known_from (effects_by r e) ≡ known_by r (known_from e)
known_from-by r e =
    (λ i. cond (is_large-by r e i) Large (Whole (findings_from-by r e i))) ∙ large_or r (is_large e) (findings_from e)

-- effects that agree with others by these numbers have their outcome
pub outcome-agree-by : (r : Renumbering) (e f : Effects) → AgreeBy r e f →
    outcome_from (known_from e) ≡ outcome_by r (outcome_from (known_from f))
outcome-agree-by r e f a =
    outcome-alike e (effects_by r f) a.alike
    ∙ ap outcome_from (known_from-by r f)
    ∙ outcome_from-by r (known_from f)
