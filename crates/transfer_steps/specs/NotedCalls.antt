-- A contract of a public call rests on this: calls whose callee's findings were noted.
use Rattle.std.proofs.Common.{◌≡◌, Bool, true, false, ◌&&◌, IsTrue, List, [], ◌∷◌, ◌++◌, Some, nat_eq, refl, sym, ap}
use Rattle.std.proofs.Common.{◌∙◌}
use Rattle.std.proofs.lemmas.Bool.{eqb-true, eq-eqb}
use Rattle.std.specs.Cmp.{IsPartialEquivalence, IsEquivalence, equiv}
use Rattle.std.specs.Cmp.Lexicographic.{pointwise}
use Rattle.std.specs.Hash as fed
use Rattle.std.specs.List.{list_any, enumerate_from, flat_map}
use Rattle.racer_base.specs.declared.ids.MethodId.{MethodId}
use Rattle.racer_base.specs.declared.ids.SiteId.{SiteId}
use Rattle.access_paths.specs.declared.path.Path.{Path}
use Rattle.owner_domain.specs.declared.value.Value.{Value}
use Rattle.owner_domain.specs.Values.{names_of}
use Rattle.owner_domain.specs.declared.numbered.NumberedValue.{NumberedValue}
use Rattle.owner_domain.specs.Numbered.{same_number}
use Rattle.owner_domain.specs.SameNumber.{equal_of_same_number, same_number-itself, number_input}
use Rattle.access_domain.specs.declared.access.Access.{Access}
use Rattle.access_domain.specs.Additions.{paths_added}
use Rattle.access_domain.specs.Findings.{Findings, Whole}
use Rattle.access_domain.specs.FlowContext.{FlowContext}
use Rattle.access_domain.specs.Records.{same_flag, same_key}
use Rattle.access_domain.specs.Substitution.{Actuals, actuals_from, substituted_record, value_named}
use Rattle.transfer_steps.specs.declared.found.Found.{Found}
use Rattle.transfer_steps.specs.declared.noted_calls.NotedCall.{NotedCall}

abbrev pub same_call : NotedCall → NotedCall → Bool
same_call a b =
    nat_eq a.callee.0 b.callee.0 && same_flag a.locked b.locked && pointwise same_number a.actuals b.actuals

both : (a b : Bool) → (a && b) ≡ true → (a ≡ true) × (b ≡ true)
both true true e = (refl, refl)
both true false e = cc
both false b e = cc

pub flags : (a b : Bool) → same_flag a b ≡ true → a ≡ b
flags true true e = refl
flags true false e = cc
flags false true e = cc
flags false false e = refl

pub flag-itself : (a : Bool) → same_flag a a ≡ true
flag-itself true = refl
flag-itself false = refl

values : (xs ys : List NumberedValue) → pointwise same_number xs ys ≡ true → xs ≡ ys
values [] [] e = refl
values [] (y ∷ ys) e = cc
values (x ∷ xs) [] e = cc
values (x ∷ xs) (y ∷ ys) e =
    let same = both (same_number x y) (pointwise same_number xs ys) e in
    (λ i. equal_of_same_number x y same.0 i ∷ values xs ys same.1 i)

values-themselves : (xs : List NumberedValue) → pointwise same_number xs xs ≡ true
values-themselves [] = refl
values-themselves (x ∷ xs) = (λ i. same_number-itself x i && values-themselves xs i)

pub equal_of_same_call : (a b : NotedCall) → same_call a b ≡ true → a ≡ b
equal_of_same_call a b e =
    let all = both (nat_eq a.callee.0 b.callee.0 && same_flag a.locked b.locked)
    (pointwise same_number a.actuals b.actuals)
    e in
    let first = both (nat_eq a.callee.0 b.callee.0) (same_flag a.locked b.locked) all.0 in
    (λ i. record {
      callee = record { 0 = eqb-true a.callee.0 b.callee.0 first.0 i };
      locked = flags a.locked b.locked first.1 i;
      actuals = values a.actuals b.actuals all.1 i;
    })

pub same_call-itself : (a : NotedCall) → same_call a a ≡ true
same_call-itself a =
    (λ i. eq-eqb a.callee.0 a.callee.0 refl i && flag-itself a.locked i && values-themselves a.actuals i)

same_of_equal_call : (a b : NotedCall) → a ≡ b → same_call a b ≡ true
same_of_equal_call a b e = ap (λ c. same_call a c) (sym e) ∙ same_call-itself a

either_way : (a b : NotedCall) (c d : Bool) → same_call a b ≡ c → same_call b a ≡ d → c ≡ d
either_way a b true true e f = refl
either_way a b false false e f = refl
either_way a b true false e f = sym (same_of_equal_call b a (sym (equal_of_same_call a b e))) ∙ f
either_way a b false true e f = sym e ∙ same_of_equal_call a b (sym (equal_of_same_call b a f))

pub same_call-laws : IsPartialEquivalence same_call
same_call-laws =
    record {
      symm = λ a b. either_way a b (same_call a b) (same_call b a) refl refl;
      trans = λ a b c ab bc. same_of_equal_call a c (equal_of_same_call a b ab ∙ equal_of_same_call b c bc);
    }

pub same_call-equivalence : IsEquivalence same_call
same_call-equivalence = equiv same_call-laws same_call-itself

-- what a call feeds a hasher
abbrev pub call_input : NotedCall → fed.HashWrites
call_input c = fed.u32 c.callee.0 ++ fed.bool c.locked ++ fed.slice number_input c.actuals

pub call_input-respects : (a b : NotedCall) → IsTrue (same_call a b) → call_input a ≡ call_input b
call_input-respects a b same = ap call_input (equal_of_same_call a b same)

-- ---- what is noted of them

-- such a call in paths
pub record PassingCall : Type 0 where
  pub callee : MethodId
  pub locked : Bool
  pub actuals : List Value

abbrev pub passed_by : FlowContext → PassingCall → Actuals
passed_by g c = actuals_from (g.is_static c.callee) c.actuals

-- the records of a callee with these findings at such a call at this site, and the wobbly paths
abbrev pub call_records : FlowContext → PassingCall → Findings → SiteId → List Access
call_records g c f site = flat_map (substituted_record g (passed_by g c) c.locked site) (enumerate_from 0 f.records)

abbrev pub call_names : FlowContext → PassingCall → List Path → List Path
call_names g c paths = flat_map (λ p. names_of (value_named (passed_by g c) p)) paths

-- each of the second records has the key of one of the first
abbrev pub ArePresent : List Access → List Access → Type 0
ArePresent kept [] = Unit {0}
ArePresent kept (x ∷ xs) = (list_any (λ r. same_key r x) kept ≡ true) × ArePresent kept xs

-- what such a call finds was found before, whatever its site
abbrev pub IsFound : FlowContext → PassingCall → Found → Type 0
IsFound g c found = (f : Findings) → g.known_of c.callee ≡ Some (Whole f) →
    ((site : SiteId) → ArePresent found.records (call_records g c f site))
    × (paths_added found.wobbly (call_names g c f.wobbly) ≡ found.wobbly)

abbrev pub AreFound : FlowContext → List PassingCall → Found → Type 0
AreFound g [] found = Unit {0}
AreFound g (c ∷ calls) found = IsFound g c found × AreFound g calls found
