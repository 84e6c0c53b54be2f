-- The flow of code depends on what is known of the methods that it calls, and there not on the order of wobbly paths.
use Rattle.std.proofs.Common.{◌≡◌, ℕ, zero, suc, ◌+◌, Bool, true, false, cond, ◌||◌, List}
use Rattle.std.proofs.Common.{[], ◌∷◌, ◌++◌, Option, None, Some}
use Rattle.std.proofs.Common.{length, refl, sym, ap, subst, ◌∙◌, option_map, nat_lt, unwrap_or}
use Rattle.std.proofs.lemmas.Bool.{eq-eqb, or_left, or_right}
use Rattle.std.specs.FinSet as set
use Rattle.std.specs.List.{list_any, flat_map, enumerate_from}
use Rattle.std.specs.Ordering.{eq_by_cmp}
use Rattle.racer_base.specs.declared.ids.MethodId.{MethodId}
use Rattle.racer_base.specs.declared.ids.SiteId.{SiteId}
use Rattle.racer_base.specs.declared.limits.TheConstants.{MAX_SUMMARY_KEYS}
use Rattle.access_paths.specs.declared.path.Path.{Path}
use Rattle.access_paths.specs.Order.{path_cmp}
use Rattle.owner_domain.specs.declared.value.Value.TheVariants.{Unnamed}
use Rattle.owner_domain.specs.declared.value.State.{State}
use Rattle.owner_domain.specs.Values.{joined_state, lost_state, names_of}
use Rattle.core_code.specs.declared.code.Op.{Op as CoreOp}
use Rattle.core_code.specs.declared.code.Op.TheVariants.{Push, PushClass, PushPrim, PushNull, New, Dup, Drop, Get, Put}
use Rattle.core_code.specs.declared.code.Op.TheVariants.{Set, Prim, Outside, Call, Unread, Ret, Throw}
use Rattle.core_code.specs.Calls.{called_by, calls_in}
use Rattle.core_code.specs.Core.{Core, Method}
use Rattle.core_code.specs.Tree.{Tree, Op, Skip, Seq, Choice, Loop, Sync, Operation, steps_of}
use Rattle.core_code.proofs.RowCallees.{is_method}
use Rattle.access_domain.specs.declared.summary.Summary.{Summary}
use Rattle.access_domain.specs.declared.summary.Outcome.TheVariants as code
use Rattle.access_domain.specs.Records.{first_of_keys, different_paths}
use Rattle.access_domain.specs.Findings.{Findings, Known, Large, Whole, Table, summary_from, outcome_from}
use Rattle.access_domain.specs.FlowContext.{given_of}
use Rattle.access_domain.specs.Substitution.{Actuals, actuals_from, substituted, substituted_record, substituted_value}
use Rattle.access_domain.specs.Substitution.{value_named}
use Rattle.access_domain.specs.Operations.{Effects, passed_from, replaced, popped}
use Rattle.access_domain.specs.Operations.{found_effects, call_effects, op_effects}
use Rattle.access_domain.specs.Flow.{flow, both, after, chosen, rounds, repeated, joined_next, lost_next, joined_result}
use Rattle.access_domain.specs.Flow.{lost_result, looped}
use Rattle.access_domain.specs.Summaries.{findings_from, is_large, known_from, known_given, effects_given, start_of}
use Rattle.access_domain.proofs.AdditionLemmas.{len-from_list}
use Rattle.access_domain.proofs.Different.{from_list-different}
use Rattle.call_subst.proofs.SameSets.{any-append, any-same_set, flat_map-same_set}
use Rattle.transfer_steps.proofs.Adding.{Agree, Alike, same_members}

alike-itself : (e : Effects) → Alike e e
alike-itself e = record { records = refl; wobbly = refl; result = refl; large = refl }

pub agree-itself : (e : Effects) → Agree e e
agree-itself e = record { next = refl; alike = alike-itself e }

pub append-same_set : (xs ys ps qs : List Path) → set.from_list {R = path_cmp} xs ≡ set.from_list ps →
    set.from_list {R = path_cmp} ys ≡ set.from_list qs →
    set.from_list {R = path_cmp} (xs ++ ys) ≡ set.from_list (ps ++ qs)
append-same_set xs ys ps qs e f =
    same_members (xs ++ ys) (ps ++ qs)
    (λ q.
    let test = eq_by_cmp path_cmp q in
    any-append test xs ys
    ∙ (λ i. any-same_set test xs ps e i || any-same_set test ys qs f i)
    ∙ sym (any-append test ps qs))

-- ---- parts of code

pub both-agree : (e f r q : Effects) → Agree e f → Agree r q → Agree (both e r) (both f q)
both-agree e f r q a b =
    record {
      next = b.next;
      alike = record {
        records = λ i. a.alike.records i ++ b.alike.records i;
        wobbly = append-same_set (e.wobbly ++ r.wobbly) (lost_result e.result r.result) (f.wobbly ++ q.wobbly)
            (lost_result f.result q.result)
            (append-same_set e.wobbly r.wobbly f.wobbly q.wobbly a.alike.wobbly b.alike.wobbly)
            (λ i. set.from_list {R = path_cmp} (lost_result (a.alike.result i) (b.alike.result i)));
        result = λ i. joined_result (a.alike.result i) (b.alike.result i);
        large = λ i. a.alike.large i || b.alike.large i;
      };
    }

pub chosen-agree : (e f r q : Effects) → Agree e f → Agree r q → Agree (chosen e r) (chosen f q)
chosen-agree e f r q a b =
    record {
      next = λ i. joined_next (a.next i) (b.next i);
      alike = record {
        records = λ i. a.alike.records i ++ b.alike.records i;
        wobbly =
            append-same_set ((e.wobbly ++ r.wobbly) ++ lost_next e.next r.next) (lost_result e.result r.result)
            ((f.wobbly ++ q.wobbly) ++ lost_next f.next q.next) (lost_result f.result q.result)
            (append-same_set (e.wobbly ++ r.wobbly) (lost_next e.next r.next) (f.wobbly ++ q.wobbly)
            (lost_next f.next q.next)
            (append-same_set e.wobbly r.wobbly f.wobbly q.wobbly a.alike.wobbly b.alike.wobbly)
            (λ i. set.from_list {R = path_cmp} (lost_next (a.next i) (b.next i))))
            (λ i. set.from_list {R = path_cmp} (lost_result (a.alike.result i) (b.alike.result i)));
        result = λ i. joined_result (a.alike.result i) (b.alike.result i);
        large = λ i. a.alike.large i || b.alike.large i;
      };
    }

abbrev pub after_at : Option State → Effects → (State → Effects) → Effects
after_at o e r = elim o as (λ _. Effects) [ None ↦ e | Some s ↦ both e (r s) ]

after_at-agree : (o : Option State) (e f : Effects) (r q : State → Effects) → Agree e f →
    ((s : State) → Agree (r s) (q s)) → Agree (after_at o e r) (after_at o f q)
after_at-agree None e f r q a b = a
after_at-agree (Some s) e f r q a b = both-agree e f (r s) (q s) a (b s)

after-agree : (e f : Effects) (r q : State → Effects) → Agree e f → ((s : State) → Agree (r s) (q s)) →
    Agree (after e r) (after f q)
after-agree e f r q a b =
    subst (λ (o : Option State). Agree (after_at e.next e r) (after_at o f q)) a.next
    (after_at-agree e.next e f r q a b)

abbrev pub rounds_at : Option State → (State → Effects) → ℕ → State → State × List Path
rounds_at o body n s =
    elim o as (λ _. State × List Path) [
      | None ↦ rounds body n s
      | Some end ↦
          ((rounds body n (joined_state s end)).0, lost_state s end ++ (rounds body n (joined_state s end)).1)
    ]

rounds_at-agree : (o : Option State) (b c : State → Effects) (n : ℕ) (s : State) →
    ((t : State) → rounds b n t ≡ rounds c n t) → rounds_at o b n s ≡ rounds_at o c n s
rounds_at-agree None b c n s same = same s
rounds_at-agree (Some end) b c n s same =
    ap (λ (p : State × List Path). (p.0, lost_state s end ++ p.1)) (same (joined_state s end))

rounds-agree : (b c : State → Effects) → ((s : State) → (b s).next ≡ (c s).next) → (n : ℕ) (s : State) →
    rounds b n s ≡ rounds c n s
rounds-agree b c same zero s = refl
rounds-agree b c same (suc n) s =
    rounds_at-agree (b s).next b c n s (rounds-agree b c same n)
    ∙ ap (λ (o : Option State). rounds_at o c n s) (same s)

repeated-agree : (p : State × List Path) (b c : State → Effects) → ((s : State) → Agree (b s) (c s)) →
    Agree (repeated p b) (repeated p c)
repeated-agree p b c same =
    let a = same p.0 in
    record {
      next = refl;
      alike = record {
        records = a.alike.records;
        wobbly = append-same_set p.1 (b p.0).wobbly p.1 (c p.0).wobbly refl a.alike.wobbly;
        result = a.alike.result;
        large = a.alike.large;
      };
    }

looped-agree : (b c : State → Effects) (s : State) → ((t : State) → Agree (b t) (c t)) → Agree (looped b s) (looped c s)
looped-agree b c s same =
    let n = length s.vars + length s.stack + 1 in
    subst (λ (p : State × List Path). Agree (repeated (rounds b n s) b) (repeated p c))
    (rounds-agree b c (λ t. (same t).next) n s) (repeated-agree (rounds b n s) b c same)

-- ---- calls

-- the same is known of a method, but for the order of its wobbly paths
abbrev pub Same : Table → Table → MethodId → Type 0
Same t u n = option_map outcome_from (t n) ≡ option_map outcome_from (u n)

found-agree : (core : Core) (t u : Table) (main locked : Bool) (site : SiteId) (actuals : Actuals) (f h : Findings)
    (s : State) (n : ℕ) → summary_from f ≡ summary_from h →
    Agree (found_effects (substituted (given_of core t main) actuals f locked site) s n)
    (found_effects (substituted (given_of core u main) actuals h locked site) s n)
found-agree core t u main locked site actuals f h s n same =
    let names : Path → List Path = λ p. names_of (value_named actuals p) in
    let result : f.result ≡ h.result = ap (λ (x : Summary). x.result) same in
    let records : f.records ≡ h.records = ap (λ (x : Summary). x.accesses) same in
    record {
      next = λ i. Some (replaced s n (substituted_value actuals (result i)));
      alike = record {
        records = λ i. first_of_keys
            (flat_map (substituted_record (given_of core t main) actuals locked site) (enumerate_from 0 (records i)));
        wobbly =
            from_list-different (flat_map names f.wobbly)
            ∙ flat_map-same_set names f.wobbly h.wobbly (ap (λ (x : Summary). x.wobbly) same)
            ∙ sym (from_list-different (flat_map names h.wobbly));
        result = refl;
        large = refl;
      };
    }

pub known-agree : (core : Core) (t u : Table) (main locked : Bool) (site : SiteId) (m : MethodId) (n : ℕ) (s : State)
    (o p : Option Known) → option_map outcome_from o ≡ option_map outcome_from p →
    Agree (call_effects (given_of core t main) locked site m n s o)
    (call_effects (given_of core u main) locked site m n s p)
known-agree core t u main locked site m n s None None e = agree-itself _
known-agree core t u main locked site m n s None (Some k) e = absurd cc
known-agree core t u main locked site m n s (Some k) None e = absurd cc
known-agree core t u main locked site m n s (Some Large) (Some Large) e = agree-itself _
known-agree core t u main locked site m n s (Some Large) (Some (Whole h)) e = absurd cc
known-agree core t u main locked site m n s (Some (Whole f)) (Some Large) e = absurd cc
known-agree core t u main locked site m n s (Some (Whole f)) (Some (Whole h)) e =
    let same : summary_from f ≡ summary_from h = cc in
    found-agree core t u main locked site (actuals_from ((given_of core t main).is_static m) (passed_from s n)) f h
    s n same

-- whether it is this method
op-agree : (core : Core) (t u : Table) (main locked : Bool) (site : SiteId) (op : CoreOp) (s : State) →
    ((n : MethodId) → list_any (is_method n) (called_by op) ≡ true → Same t u n) →
    Agree (op_effects (given_of core t main) locked site op s) (op_effects (given_of core u main) locked site op s)
op-agree core t u main locked site (Push v) s h = agree-itself _
op-agree core t u main locked site (PushClass c) s h = agree-itself _
op-agree core t u main locked site PushPrim s h = agree-itself _
op-agree core t u main locked site PushNull s h = agree-itself _
op-agree core t u main locked site (New c) s h = agree-itself _
op-agree core t u main locked site Dup s h = agree-itself _
op-agree core t u main locked site Drop s h = agree-itself _
op-agree core t u main locked site (Get f) s h = agree-itself _
op-agree core t u main locked site (Put f) s h = agree-itself _
op-agree core t u main locked site (Set v) s h = agree-itself _
op-agree core t u main locked site (Prim n) s h = agree-itself _
op-agree core t u main locked site (Outside n) s h = agree-itself _
op-agree core t u main locked site (Unread m n) s h = agree-itself _
op-agree core t u main locked site Ret s h = agree-itself _
op-agree core t u main locked site Throw s h = agree-itself _
op-agree core t u main locked site (Call m n) s h =
    known-agree core t u main locked site m n s (t m) (u m) (h m (ap (λ (b : Bool). b || false) (eq-eqb m.0 m.0 refl)))

-- ---- code

abbrev calls_at : List Operation → List MethodId
calls_at = flat_map (λ (o : Operation). called_by o.op)

any_call-append : (p : MethodId → Bool) (xs ys : List Operation) →
    list_any p (calls_at (xs ++ ys)) ≡ (list_any p (calls_at xs) || list_any p (calls_at ys))
any_call-append p [] ys = refl
any_call-append p (x ∷ xs) ys =
    any-append p (called_by x.op) (calls_at (xs ++ ys))
    ∙ ap (λ b. list_any p (called_by x.op) || b) (any_call-append p xs ys)
    ∙ or-back (list_any p (called_by x.op)) (list_any p (calls_at xs)) (list_any p (calls_at ys))
    ∙ ap (λ b. b || list_any p (calls_at ys)) (sym (any-append p (called_by x.op) (calls_at xs)))
  where
    or-back : (a b c : Bool) → (a || (b || c)) ≡ ((a || b) || c)
    or-back true b c = refl
    or-back false b c = refl

abbrev AreSame : Table → Table → List Operation → Type 0
AreSame t u ops = (n : MethodId) → list_any (is_method n) (calls_at ops) ≡ true → Same t u n

same-first : (t u : Table) (xs ys : List Operation) → AreSame t u (xs ++ ys) → AreSame t u xs
same-first t u xs ys h n e = h n (any_call-append (is_method n) xs ys
    ∙ or_left (list_any (is_method n) (calls_at xs)) (list_any (is_method n) (calls_at ys)) e)

same-rest : (t u : Table) (xs ys : List Operation) → AreSame t u (xs ++ ys) → AreSame t u ys
same-rest t u xs ys h n e = h n (any_call-append (is_method n) xs ys
    ∙ or_right (list_any (is_method n) (calls_at xs)) (list_any (is_method n) (calls_at ys)) e)

any-alone : (p : MethodId → Bool) (ms : List MethodId) → list_any p (ms ++ []) ≡ list_any p ms
any-alone p [] = refl
any-alone p (m ∷ ms) = ap (λ b. p m || b) (any-alone p ms)

pub flow-agree : (core : Core) (t u : Table) (main : Bool) (code : Tree) (locked : Bool) (s : State) →
    AreSame t u (steps_of code) →
    Agree (flow (given_of core t main) code locked s) (flow (given_of core u main) code locked s)
flow-agree core t u main (Op site place op) locked s h =
    op-agree core t u main locked site op s (λ n e. h n (any-alone (is_method n) (called_by op) ∙ e))
flow-agree core t u main Skip locked s h = agree-itself _
flow-agree core t u main (Seq first rest) locked s h =
    after-agree _ _ _ _ (flow-agree core t u main first locked s (same-first t u (steps_of first) (steps_of rest) h))
    (λ end. flow-agree core t u main rest locked end (same-rest t u (steps_of first) (steps_of rest) h))
flow-agree core t u main (Choice left right) locked s h =
    chosen-agree _ _ _ _ (flow-agree core t u main left locked s (same-first t u (steps_of left) (steps_of right) h))
    (flow-agree core t u main right locked s (same-rest t u (steps_of left) (steps_of right) h))
flow-agree core t u main (Loop body) locked s h =
    looped-agree _ _ s (λ here. flow-agree core t u main body locked here h)
flow-agree core t u main (Sync place body) locked s h = flow-agree core t u main body true (popped s 1) h

-- ---- outcomes

held-or-large : (b c : Bool) (x y : Findings) → b ≡ c → summary_from x ≡ summary_from y →
    outcome_from (cond b Large (Whole x)) ≡ outcome_from (cond c Large (Whole y))
held-or-large b c x y e same =
    (elim b as (λ b. outcome_from (cond b Large (Whole x)) ≡ outcome_from (cond b Large (Whole y))) [
      | true ↦ refl
      | false ↦ ap code.Summary same
    ]) ∙ ap (λ (b : Bool). outcome_from (cond b Large (Whole y))) e

paths-count : (e f : Effects) → Alike e f → length (different_paths e.wobbly) ≡ length (different_paths f.wobbly)
paths-count e f same = sym (len-from_list e.wobbly) ∙ ap set.len same.wobbly ∙ len-from_list f.wobbly

large-alike : (e f : Effects) → Alike e f → is_large e ≡ is_large f
large-alike e f same = (λ i.
    (same.large i || nat_lt MAX_SUMMARY_KEYS (length (first_of_keys (same.records i))))
    || nat_lt MAX_SUMMARY_KEYS (paths-count e f same i))

summary-alike : (e f : Effects) → Alike e f → summary_from (findings_from e) ≡ summary_from (findings_from f)
summary-alike e f same =
    let wobbly = from_list-different e.wobbly ∙ same.wobbly ∙ sym (from_list-different f.wobbly) in
    (λ i. record {
      accesses = first_of_keys (same.records i);
      wobbly = wobbly i;
      result = unwrap_or (same.result i) Unnamed;
    })

pub outcome-alike : (e f : Effects) → Alike e f → outcome_from (known_from e) ≡ outcome_from (known_from f)
outcome-alike e f same =
    held-or-large (is_large e) (is_large f) (findings_from e) (findings_from f) (large-alike e f same)
    (summary-alike e f same)

pub outcome-agree : (core : Core) (t u : Table) (m : Method) →
    ((n : MethodId) → list_any (is_method n) (calls_in m.code) ≡ true → Same t u n) →
    outcome_from (known_given core t m) ≡ outcome_from (known_given core u m)
outcome-agree core t u m h =
    outcome-alike (effects_given core t m) (effects_given core u m)
    (flow-agree core t u m.main m.code false (start_of m) h).alike
