-- What a call finds that was noted before is found again without effect.
use Rattle.std.proofs.Common.{◌≡◌, ℕ, Bool, true, false, cond, ◌&&◌, ◌||◌, List, [], ◌∷◌, ◌++◌, Option, None, Some}
use Rattle.std.proofs.Common.{refl, sym, ap, subst, ◌∙◌}
use Rattle.std.specs.FinSet as set
use Rattle.std.specs.List.{list_any, enumerate_from, flat_map}
use Rattle.std.specs.Ordering.{eq_by_cmp}
use Rattle.std.specs.Prelude.{Result, Ok, Err, OnOk}
use Rattle.std.proofs.Math.Bool.{or-true}
use Rattle.indexmap.specs.IndexSet.{insert_key}
use Rattle.racer_base.specs.declared.ids.SiteId.{SiteId}
use Rattle.access_paths.specs.declared.path.Path.{Path}
use Rattle.access_paths.specs.Order.{PathSet, path_cmp}
use Rattle.access_paths.specs.Same.{path_cmp-total, path_cmp-IsAntisymmetric, same_path-itself}
use Rattle.owner_domain.specs.declared.value.Value.{Value}
use Rattle.owner_domain.specs.declared.value.State.{State}
use Rattle.access_domain.specs.declared.access.Access.{Access}
use Rattle.access_domain.specs.Additions.{key_added, keys_added, paths_added}
use Rattle.access_domain.specs.declared.summary.Summary.{Summary}
use Rattle.access_domain.specs.Findings.{Findings, Whole, summary_from}
use Rattle.access_domain.specs.Flow.{both, lost_result}
use Rattle.access_domain.specs.FlowContext.{FlowContext}
use Rattle.access_domain.specs.Operations.{Effects, call_effects, found_effects, passed_from}
use Rattle.access_domain.specs.Records.{same_key, first_of_keys, different_paths}
use Rattle.core_code.specs.Touches.{is_write}
use Rattle.access_domain.specs.Substitution.{Actuals, actuals_from, substituted, substituted_path, substituted_record}
use Rattle.access_domain.proofs.AdditionLemmas.{any-push, keys_added-nil, keys_added-append, contains_added, alike_keys}
use Rattle.access_domain.proofs.Different.{from_list-different}
use Rattle.transfer_steps.specs.declared.found.Found.{Found}
use Rattle.transfer_steps.specs.declared.found.Stop.{Stop}
use Rattle.transfer_steps.specs.declared.found.Stop.TheVariants.{Large, Memory}
use Rattle.transfer_steps.specs.declared.noted_calls.NotedCall.{NotedCall}
use Rattle.call_subst.proofs.SameSets.{from_list-items}
use Rattle.transfer_steps.specs.Known.{findings_in}
use Rattle.transfer_steps.specs.Marks.{marks, added, paths_after, IsNoted, IsStopped, IsMarked}
use Rattle.transfer_steps.specs.NotedCalls.{flag-itself, same_call, equal_of_same_call, call_records, call_names}
use Rattle.transfer_steps.specs.NotedCalls.{passed_by, ArePresent, IsFound}
use Rattle.transfer_steps.specs.NotedCalls.{AreFound, PassingCall}
use Rattle.transfer_steps.specs.Numbered.{read_call, read_calls}
use Rattle.transfer_steps.specs.Walks.{IsFlow, call_marks}
use Rattle.transfer_steps.proofs.Adding.{paths-same}
use Rattle.transfer_steps.proofs.Adding.{added_again}
use Rattle.transfer_steps.proofs.Flows.{parts-alike, marked-flow}
use Rattle.transfer_steps.proofs.JoinedResults.{joined_result-none, lost_result-none}
use Rattle.transfer_steps.proofs.Marking.{marked-then, marked-alike, stopped-first, stopped-alike}

-- ---- keys

key-itself : (x : Access) → same_key x x ≡ true
key-itself x =
    (λ i. same_path-itself x.path i && flag-itself
    (is_write x.kind) i && flag-itself x.locked i && flag-itself x.main i)

any-alike : (x y : Access) (old : List Access) → same_key x y ≡ true →
    list_any (λ e. same_key e x) old ≡ list_any (λ e. same_key e y) old
any-alike x y [] h = refl
any-alike x y (e ∷ old) h = (λ i. alike_keys x y e h i || any-alike x y old h i)

any-one : (test : Access → Bool) (old : List Access) (x : Access) → list_any test old ≡ true →
    list_any test (key_added old x) ≡ true
any-one test old x h =
    elim (list_any (λ e. same_key e x) old) as (λ b. list_any test (cond b old (old ++ x ∷ [])) ≡ true) [
      | true ↦ h
      | false ↦ any-push test old x ∙ ap (λ b. b || test x) h
    ]

any-kept : (test : Access → Bool) (old xs : List Access) → list_any test old ≡ true →
    list_any test (keys_added old xs) ≡ true
any-kept test old [] h = h
any-kept test old (x ∷ xs) h = any-kept test (key_added old x) xs (any-one test old x h)

-- a key that was added is there
any-put : (old : List Access) (x a : Access) → same_key x a ≡ true →
    list_any (λ e. same_key e a) (key_added old x) ≡ true
any-put old x a h =
    elim (list_any (λ e. same_key e x) old) as (λ b. list_any (λ e. same_key e x) old ≡ b →
    list_any (λ e. same_key e a) (cond b old (old ++ x ∷ [])) ≡ true) [
      | true ↦ λ e. sym (any-alike x a old h) ∙ e
      | false ↦ λ e.
          any-push (λ e. same_key e a) old x
          ∙ ap (λ b. list_any (λ e. same_key e a) old || b) h
          ∙ or-true (list_any (λ e. same_key e a) old)
    ] refl

any-added : (old xs : List Access) (a : Access) → list_any (λ e. same_key e a) xs ≡ true →
    list_any (λ e. same_key e a) (keys_added old xs) ≡ true
any-added old [] a h = cc
any-added old (x ∷ xs) a h =
    elim (same_key x a) as (λ b. same_key x a ≡ b → (b || list_any (λ e. same_key e a) xs) ≡ true →
    list_any (λ e. same_key e a) (keys_added (key_added old x) xs) ≡ true) [
      | true ↦ λ e _. any-kept (λ e. same_key e a) (key_added old x) xs (any-put old x a e)
      | false ↦ λ e later. any-added (key_added old x) xs a later
    ] refl h

-- ---- the firsts of each key add what all of them add

added-later : (old more : List Access) (a : Access) →
    keys_added old (key_added more a) ≡ key_added (keys_added old more) a
added-later old more a =
    elim (list_any (λ e. same_key e a) more) as (λ b. list_any (λ e. same_key e a) more ≡ b →
    keys_added old (cond b more (more ++ a ∷ [])) ≡ key_added (keys_added old more) a) [
      | true ↦ λ e.
          let all = keys_added old more in
          sym (ap (λ b. cond b all (all ++ a ∷ [])) (any-added old more a e))
      | false ↦ λ e. keys_added-append old more (a ∷ [])
    ] refl

twice-added : (old more rest : List Access) →
    keys_added old (keys_added more rest) ≡ keys_added (keys_added old more) rest
twice-added old more [] = refl
twice-added old more (a ∷ rest) = twice-added old (key_added more a) rest
    ∙ ap (λ keys. keys_added keys rest) (added-later old more a)

pub firsts-added : (old xs : List Access) → keys_added old (first_of_keys xs) ≡ keys_added old xs
firsts-added old xs = ap (keys_added old) (sym (keys_added-nil xs)) ∙ twice-added old [] xs

-- ---- keys that are there

present-kept : (kept more xs : List Access) → ArePresent kept xs → ArePresent (keys_added kept more) xs
present-kept kept more [] h = tt
present-kept kept more (x ∷ xs) h = (any-kept (λ r. same_key r x) kept more h.0, present-kept kept more xs h.1)

present-added : (old xs : List Access) → ArePresent (keys_added old xs) xs
present-added old [] = tt
present-added old (x ∷ xs) = (
  any-added old (x ∷ xs) x (ap (λ b. b || list_any (λ e. same_key e x) xs) (key-itself x)),
  present-added (key_added old x) xs,
)

present-nothing : (kept xs : List Access) → ArePresent kept xs → keys_added kept xs ≡ kept
present-nothing kept [] h = refl
present-nothing kept (x ∷ xs) h = ap (λ b. keys_added (cond b kept (kept ++ x ∷ [])) xs) h.0
    ∙ present-nothing kept xs h.1

module _ (g : FlowContext) (actuals : Actuals) (locked : Bool) (kept : List Access) (site other : SiteId) where
  -- a record of the callee whose path is this one in the caller
  abbrev record_on : Option Path → SiteId → ℕ × Access → List Access
  record_on o here e =
      elim o as (λ _. List Access) [
        | None ↦ []
        | Some p ↦ record {
          path = p;
          kind = e.1.kind;
          locked = e.1.locked || locked;
          main = e.1.main || g.main;
          site = here;
          below = Some e.0;
        } ∷ []
      ]

  one-site : (o : Option Path) (e : ℕ × Access) (xs ys : List Access) → (ArePresent kept xs → ArePresent kept ys) →
      ArePresent kept (record_on o site e ++ xs) → ArePresent kept (record_on o other e ++ ys)
  one-site None e xs ys f h = f h
  one-site (Some p) e xs ys f h = (h.0, f h.1)

  pub present-sites : (es : List (ℕ × Access)) →
      ArePresent kept (flat_map (substituted_record g actuals locked site) es) →
      ArePresent kept (flat_map (substituted_record g actuals locked other) es)
  present-sites [] h = tt
  present-sites (e ∷ es) h =
      one-site (substituted_path g actuals e.1.path) e (flat_map (substituted_record g actuals locked site) es)
      (flat_map (substituted_record g actuals locked other) es) (present-sites es) h

-- ---- wobbly paths that are there

absorbed-by : (w p n : Bool) → (w || n) ≡ w → ((w || p) || n) ≡ (w || p)
absorbed-by true p n h = refl
absorbed-by false true n h = refl
absorbed-by false false n h = h

absorbed : (w : PathSet) (ps ns : List Path) → paths_added w ns ≡ w →
    paths_added (paths_added w ps) ns ≡ paths_added w ps
absorbed w ps ns same =
    set.same_set path_cmp-total path_cmp-IsAntisymmetric _ _
    (λ q.
    let is_among = λ (xs : List Path). list_any (eq_by_cmp path_cmp q) xs in
    contains_added (paths_added w ps) ns q
    ∙ ap (λ b. b || is_among ns) (contains_added w ps q)
    ∙ absorbed-by (set.contains w q) (is_among ps) (is_among ns)
    (sym (contains_added w ns q) ∙ ap (λ (s : PathSet). set.contains s q) same)
    ∙ sym (contains_added w ps q))

-- ---- what was found stays found

found-kept : (g : FlowContext) (c : PassingCall) (old : Found) (e : Effects) → IsFound g c old → IsFound g c
    (added old e)
found-kept g c old e h = λ f known.
    let all = h f known in
    let names = call_names g c f.wobbly in
    let mid = paths_added old.wobbly e.wobbly in (
      λ site. present-kept old.records e.records (call_records g c f site) (all.0 site),
      absorbed mid (lost_result old.result e.result) names (absorbed old.wobbly e.wobbly names all.1),
    )

pub all-kept : (g : FlowContext) (calls : List PassingCall) (old : Found) (e : Effects) → AreFound g calls old →
    AreFound g calls (added old e)
all-kept g [] old e h = tt
all-kept g (c ∷ calls) old e h = (found-kept g c old e h.0, all-kept g calls old e h.1)

pub noted-found : (g : FlowContext) (calls : List PassingCall) (old new : Found) (e : Effects) → IsNoted old e new →
    AreFound g calls old → AreFound g calls new
noted-found g calls old new e m h = subst (AreFound g calls) (sym m.0) (all-kept g calls old e h)

pub marked-found : {X : Type 0} (g : FlowContext) (calls : List PassingCall) (old new : Found) (e : Effects)
    (r : Result X Stop) →
    IsMarked old e new r → AreFound g calls old → OnOk r (AreFound g calls new)
marked-found g calls old new e (Ok x) m h = noted-found g calls old new e m h
marked-found g calls old new e (Err stop) m h = tt

pub flow-found : (g : FlowContext) (calls : List PassingCall) (here : State) (old new : Found) (e : Effects)
    (r : Result Bool Stop) → IsFlow e here old new r → AreFound g calls old → OnOk r (AreFound g calls new)
flow-found g calls here old new e r m h = marked-found g calls old new e r (marked-flow e here old new r m) h

-- ---- one more call

pub found-among : (g : FlowContext) (table : List Path) (calls : List NotedCall) (c : NotedCall) (found : Found) →
    list_any (same_call c) calls ≡ true → AreFound g (read_calls table calls) found → IsFound g (read_call table c)
    found
found-among g table [] c found there h = cc
found-among g table (x ∷ calls) c found there h =
    elim (same_call c x) as (λ b. same_call c x ≡ b → (b || list_any (same_call c) calls) ≡ true →
    IsFound g (read_call table c) found) [
      | true ↦ λ e _.
          subst (λ (d : NotedCall). IsFound g (read_call table d) found) (sym (equal_of_same_call c x e)) h.0
      | false ↦ λ e later. found-among g table calls c found later h.1
    ] refl there

one-more : (g : FlowContext) (table : List Path) (calls : List NotedCall) (c : NotedCall) (found : Found) →
    AreFound g (read_calls table calls) found → IsFound g (read_call table c) found →
    AreFound g (read_calls table (calls ++ c ∷ [])) found
one-more g table [] c found h one = (one, tt)
one-more g table (x ∷ calls) c found h one = (h.0, one-more g table calls c found h.1 one)

pub found-put : (g : FlowContext) (table : List Path) (calls : List NotedCall) (c : NotedCall) (found : Found) →
    AreFound g (read_calls table calls) found → IsFound g (read_call table c) found →
    AreFound g (read_calls table (insert_key same_call calls c)) found
found-put g table calls c found h one =
    elim (list_any (same_call c) calls) as (λ b. AreFound g (read_calls table (cond b calls (calls ++ c ∷ []))) found) [
      | true ↦ h
      | false ↦ one-more g table calls c found h one
    ]

-- the findings that a summary holds are its own
pub held : (s : Summary) → summary_from (findings_in s) ≡ s
held s = λ i. record { accesses = s.accesses; wobbly = from_list-items s.wobbly i; result = s.result }

-- ---- the marks of a call

module _ (g : FlowContext) (c : PassingCall) (f : Findings) (site : SiteId) (records : List Access) (names : List Path)
    (first : records ≡ (substituted g (passed_by g c) f c.locked site).records)
    (same : set.from_list {R = path_cmp} names ≡
    set.from_list (substituted g (passed_by g c) f c.locked site).wobbly) where
  abbrev found_there : Findings
  found_there = substituted g (passed_by g c) f c.locked site

  -- records, and then names, are the marks of the call
  pub call-noted : {X : Type 0} (old mid new : Found) (r : Result X Stop) → IsNoted old (marks records []) mid →
      IsMarked mid (marks [] names) new r → IsMarked old (call_marks g c f site) new r
  call-noted old mid new r m k =
      subst (λ (rs : List Access). IsMarked old (marks rs found_there.wobbly) new r) first
      (marked-alike old (both (marks records []) (marks [] names)) (marks records found_there.wobbly) new r
      (parts-alike records names found_there.wobbly same)
      (marked-then old (marks records []) mid (marks [] names) new r m k))

  pub call-stopped : (old : Found) (stop : Stop) → IsStopped old (marks records []) stop →
      IsStopped old (call_marks g c f site) stop
  call-stopped old stop m =
      subst (λ (rs : List Access). IsStopped old (marks rs found_there.wobbly) stop) first
      (stopped-alike old (both (marks records []) (marks [] names)) (marks records found_there.wobbly) stop
      (parts-alike records names found_there.wobbly same)
      (stopped-first old (marks records []) (marks [] names) stop m))

-- what stops the marks stops the call
pub stopped-call : (g : FlowContext) (c : PassingCall) (f : Findings) (site : SiteId) (n : ℕ) (s : State) (old : Found)
    (stop : Stop) → c.actuals ≡ passed_from s n → IsStopped old (call_marks g c f site) stop →
    IsStopped old (call_effects g c.locked site c.callee n s (Some (Whole f))) stop
stopped-call g c f site n s old Large same m =
    subst (λ (vs : List Value). IsStopped old
    (found_effects (substituted g (actuals_from (g.is_static c.callee) vs) f c.locked site) s n) Large) same m
stopped-call g c f site n s old Memory same m = tt

-- a call that was noted before notes nothing
pub noted-before : (g : FlowContext) (c : PassingCall) (f : Findings) (site : SiteId) (found : Found) →
    IsFound g c found →
    g.known_of c.callee ≡ Some (Whole f) → IsNoted found (call_marks g c f site) found
noted-before g c f site found h known =
    let all = h f known in
    let raw = call_records g c f site in
    let names = call_names g c f.wobbly in
    let records : keys_added found.records (first_of_keys raw) ≡ found.records =
    firsts-added found.records raw ∙ present-nothing found.records raw (all.0 site) in
    let wobbly : paths_after found (call_marks g c f site) ≡ found.wobbly =
    ap (paths_added (paths_added found.wobbly (different_paths names))) (lost_result-none found.result)
    ∙ paths-same found.wobbly (different_paths names) names (from_list-different names)
    ∙ all.1 in (
      (λ i. record {
        records = sym records i;
        wobbly = sym wobbly i;
        result = sym (joined_result-none found.result) i;
      }),
      refl,
    )

-- one that is noted is found from then on
pub found-then : (g : FlowContext) (c : PassingCall) (f : Findings) (site : SiteId) (old new : Found) →
    g.known_of c.callee ≡ Some (Whole f) → IsNoted old (call_marks g c f site) new → IsFound g c new
found-then g c f site old new known m = λ h is.
    let same : f ≡ h = cc in
    subst (λ (x : Findings). ((other : SiteId) → ArePresent new.records (call_records g c x other))
    × (paths_added new.wobbly (call_names g c x.wobbly) ≡ new.wobbly)) same
    (let raw = call_records g c f site in
    let names = call_names g c f.wobbly in
    let records : new.records ≡ keys_added old.records raw =
    ap (λ (x : Found). x.records) m.0 ∙ firsts-added old.records raw in
    let wobbly : new.wobbly ≡ paths_added old.wobbly names =
    ap (λ (x : Found). x.wobbly) m.0
    ∙ ap (paths_added (paths_added old.wobbly (different_paths names))) (lost_result-none old.result)
    ∙ paths-same old.wobbly (different_paths names) names (from_list-different names) in
    let present : ArePresent new.records raw =
    subst (λ (kept : List Access). ArePresent kept raw) (sym records) (present-added old.records raw) in (
      λ other. present-sites g _ c.locked new.records site other (enumerate_from 0 f.records) present,
      ap (λ (w : PathSet). paths_added w names) wobbly ∙ added_again old.wobbly names ∙ sym wobbly,
    ))
