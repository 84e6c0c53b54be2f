-- The path of each record has at most as many fields as a path may have.
use Rattle.std.proofs.Common.{◌≡◌, ℕ, ◌+◌, ◌≤◌, false, ⊎_elim, [], ◌∷◌, Some, length, subst, ap, ◌∙◌, arith}
use Rattle.std.proofs.lemmas.List.{length-append}
use Rattle.racer_base.specs.declared.ids.FieldId.{FieldId}
use Rattle.racer_base.specs.declared.ids.MethodId.{MethodId}
use Rattle.racer_base.specs.declared.limits.TheConstants.{MAX_PATH_FIELDS}
use Rattle.access_paths.specs.declared.path.Path.{Path}
use Rattle.access_paths.specs.Paths.{front_of, some_path}
use Rattle.owner_domain.specs.declared.value.Value.{Value}
use Rattle.owner_domain.specs.Values.{along}
use Rattle.access_domain.specs.declared.access.Access.{Access}
use Rattle.access_domain.specs.Findings.{Findings, Whole}
use Rattle.access_domain.specs.FlowContext.{FlowContext, given_of}
use Rattle.access_domain.specs.Origins.{IsOfCallee, IsOwn}
use Rattle.access_domain.specs.OutcomeRecords.{record_at}
use Rattle.access_domain.specs.Substitution.{Actuals, root_value, substituted_path, touched}
use Rattle.access_domain.specs.Summaries.{effects_given, known_of, known_of_callees, start_of}
use Rattle.access_domain.proofs.KnownMethods.{FoundAt, each_known, found_at}
use Rattle.access_domain.proofs.Members.{in_at}
use Rattle.access_domain.proofs.RecordOrigins.{origin_in}
use Rattle.access_domain.proofs.TouchedPaths.{IsPutIn, substituted_cases, touched_cases}
use Rattle.core_code.specs.Calls.{method_at}
use Rattle.core_code.specs.Core.{Core, Method}
use Rattle.core_code.proofs.Membership.{In}

record IsShort (p : Path) : Type 0 where
  limit : length p.fields ≤ MAX_PATH_FIELDS

touched-short : (g : FlowContext) (v : Value) (f : FieldId) (p : Path) → touched g v f ≡ Some p → IsShort p
touched-short g v f p e =
    ⊎_elim
    (λ some.
    let one : length (some_path (g.class_of f) f).fields ≤ MAX_PATH_FIELDS = omega arith in
    subst IsShort some (record { limit = one }))
    (λ of.
    let room = of.2.room in
    let long : length p.fields ≡ length of.0.fields + 1 =
    ap (λ (x : Path). length x.fields) of.2.is ∙ length-append of.0.fields (f ∷ []) in
    record { limit = omega arith })
    (touched_cases g v f p e)

substituted-short : (g : FlowContext) (actuals : Actuals) (p q : Path) → IsShort p →
    substituted_path g actuals p ≡ Some q →
    IsShort q
substituted-short g actuals p q short e =
    ⊎_elim
    (λ kept. subst IsShort kept.1 short)
    (λ (put : IsPutIn g actuals p q).
    touched-short g (along (root_value actuals p.root) (front_of p.fields)) put.field q put.path)
    (substituted_cases g actuals p q e)

-- a record's path is short where those of callees are
short-origin : (core : Core) (m : MethodId) (method : Method) (a : Access) → method_at core m ≡ Some method →
    ((callee : MethodId) (found : Findings) → known_of_callees core m callee ≡ Some (Whole found) → (x : Access) →
    In found.records x → IsShort x.path) →
    In (effects_given core (known_of_callees core m) method).records a → IsShort a.path
short-origin core m method a there callees h =
    let g : FlowContext = given_of core (known_of_callees core m) method.main in
    ⊎_elim
    (λ (own : IsOwn g method.code a). touched-short g own.base own.field a.path own.path)
    (λ (of : IsOfCallee g method.code a).
    substituted-short g of.actuals of.inner.path a.path
    (callees of.callee of.found of.known of.inner (in_at of.found.records of.index of.inner of.has)) of.path)
    (origin_in g method.code false (start_of method) a h)

-- each record that is known of a method
pub short-record : (core : Core) (m : MethodId) (found : Findings) (a : Access) →
    known_of core m ≡ Some (Whole found) → In found.records a → length a.path.fields ≤ MAX_PATH_FIELDS
short-record core m found a known h =
    (each_known core (λ (x : Access). IsShort x.path) (short-origin core) m found a known h).limit

-- each record of a method
pub short-path : (core : Core) (m : MethodId) (i : ℕ) (a : Access) → record_at core m i ≡ Some a →
    length a.path.fields ≤ MAX_PATH_FIELDS
short-path core m i a at =
    let f : FoundAt core m i a = found_at core m i a at in
    short-record core m f.found a f.known (in_at f.found.records i a f.has)
