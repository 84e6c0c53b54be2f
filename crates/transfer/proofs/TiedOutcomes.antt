-- Paths, records and outcomes that are the same by names are the same with the numbers of the newer program.
use Rattle.std.proofs.Common.{◌≡◌, ℕ, Bool, true, false, ◌&&◌, List, [], ◌∷◌, Option, None, Some, map, nat_eq}
use Rattle.std.proofs.Common.{refl, sym, ap, ◌∙◌}
use Rattle.std.proofs.lemmas.Bool.{and_parts, eqb-true, false≢true, not-true}
use Rattle.std.specs.Cmp.Lexicographic.{pointwise}
use Rattle.std.specs.FinSet as set
use Rattle.std.specs.List.{list_all, list_any}
use Rattle.std.specs.Ordering.{eq_by_cmp}
use Rattle.racer_base.proofs.Tests.{same_truth}
use Rattle.racer_base.specs.declared.ids.ClassId.{ClassId}
use Rattle.racer_base.specs.declared.ids.FieldId.{FieldId}
use Rattle.racer_base.specs.declared.ids.SiteId.{SiteId}
use Rattle.racer_base.specs.declared.ids.Touch.{Touch}
use Rattle.racer_base.specs.declared.ids.Touch.TheVariants.{Read, Write}
use Rattle.access_paths.specs.declared.path.Root.{Root}
use Rattle.access_paths.specs.declared.path.Root.TheVariants.{This, Class, Formal, Some as SomeOf}
use Rattle.access_paths.specs.declared.path.Path.{Path}
use Rattle.access_paths.specs.Order.{PathSet, path_cmp}
use Rattle.owner_domain.specs.declared.value.Value.{Value}
use Rattle.owner_domain.specs.declared.value.Value.TheVariants.{Owned, Named, Unnamed}
use Rattle.core_code.specs.Core.{Core}
use Rattle.core_code.proofs.Members.{each, passes, passing}
use Rattle.access_domain.specs.declared.access.Access.{Access}
use Rattle.access_domain.specs.declared.summary.Summary.{Summary}
use Rattle.access_domain.specs.declared.summary.Outcome.{Outcome}
use Rattle.access_domain.specs.declared.summary.Outcome.TheVariants as code
use Rattle.access_domain.specs.Records.{same_flag, same_touch}
use Rattle.call_subst.proofs.SameSets.{from_list-items}
use Rattle.transfer_steps.proofs.Adding.{same_members}
use Rattle.transfer_ties.specs.Outcomes.{same_index, same_outcome, same_paths, same_record, same_summary, ties_paths}
use Rattle.transfer_ties.specs.Outcomes.{ties_roots, ties_values}
use Rattle.transfer_ties.specs.Ties.{ties_classes, ties_fields}
use Rattle.transfer.proofs.Renumbering.{Renumbering, path_by, root_by, value_by}
use Rattle.transfer.proofs.RenumberedCalls.{access_by}
use Rattle.transfer.proofs.RenumberedFlow.{any-by, outcome_by, paths_by, summary_by}

pub same_flags : (a b : Bool) → same_flag a b ≡ true → b ≡ a
same_flags true b e = e
same_flags false b e = not-true b e

same_touches : (a b : Touch) → same_touch a b ≡ true → a ≡ b
same_touches Read Read e = refl
same_touches Write Write e = refl
same_touches _ _ e = absurd (false≢true e)

same_indices : (i j : Option ℕ) → same_index i j ≡ true → i ≡ j
same_indices None None e = refl
same_indices (Some i) (Some j) e = ap (λ (k : ℕ). Some k) (eqb-true i j e)
same_indices _ _ e = absurd (false≢true e)

-- what is the same of two records
pub record AreSameRecords (p q : Core) (a b : Access) : Type 0 where
  pub path : ties_paths p q a.path b.path ≡ true
  pub kind : a.kind ≡ b.kind
  pub locked : a.locked ≡ b.locked
  pub main : a.main ≡ b.main
  pub site : a.site ≡ b.site
  pub below : a.below ≡ b.below

abbrev site_of : ℕ → SiteId
site_of n = record { 0 = n }

pub same_record_parts : (p q : Core) (a b : Access) → same_record p q a b ≡ true → AreSameRecords p q a b
same_record_parts p q a b e =
    let path = ties_paths p q a.path b.path in
    let kind = same_touch a.kind b.kind in
    let locked = same_flag a.locked b.locked in
    let main = same_flag a.main b.main in
    let site = nat_eq a.site.0 b.site.0 in
    let last = and_parts (path && kind && locked && main && site) (same_index a.below b.below) e in
    let fifth = and_parts (path && kind && locked && main) site last.0 in
    let fourth = and_parts (path && kind && locked) main fifth.0 in
    let third = and_parts (path && kind) locked fourth.0 in
    let second = and_parts path kind third.0 in
    record {
      path = second.0;
      kind = same_touches a.kind b.kind second.1;
      locked = sym (same_flags a.locked b.locked third.1);
      main = sym (same_flags a.main b.main fourth.1);
      site = ap site_of (eqb-true a.site.0 b.site.0 fifth.1);
      below = same_indices a.below b.below last.1;
    }

-- what is the same of two summaries
pub record AreSameSummaries (p q : Core) (s t : Summary) : Type 0 where
  pub accesses : pointwise (same_record p q) s.accesses t.accesses ≡ true
  pub wobbly : same_paths p q s.wobbly t.wobbly ≡ true
  pub result : ties_values p q s.result t.result ≡ true

pub same_summary_parts : (p q : Core) (s t : Summary) → same_summary p q s t ≡ true → AreSameSummaries p q s t
same_summary_parts p q s t e =
    let accesses = pointwise (same_record p q) s.accesses t.accesses in
    let wobbly = same_paths p q s.wobbly t.wobbly in
    let last = and_parts (accesses && wobbly) (ties_values p q s.result t.result) e in
    let second = and_parts accesses wobbly last.0 in
    record { accesses = second.0; wobbly = second.1; result = last.1 }

-- each class and each field has the number of its partner
pub record TakePartners (r : Renumbering) (p q : Core) : Type 0 where
  pub class : (c d : ClassId) → ties_classes p q c d ≡ true → r.class c ≡ d
  pub field : (f g : FieldId) → ties_fields p q f g ≡ true → r.field f ≡ g

module _ (r : Renumbering) (p q : Core) (take : TakePartners r p q) where
  root-tied : (a b : Root) → ties_roots p q a b ≡ true → root_by r a ≡ b
  root-tied This This e = refl
  root-tied (Class c) (Class d) e = ap (λ (x : ClassId). Class x) (take.class c d e)
  root-tied (Formal i) (Formal j) e = ap (λ (x : ℕ). Formal x) (eqb-true i j e)
  root-tied (SomeOf c) (SomeOf d) e = ap (λ (x : ClassId). SomeOf x) (take.class c d e)
  root-tied _ _ e = absurd (false≢true e)

  fields-tied : (fs gs : List FieldId) → pointwise (ties_fields p q) fs gs ≡ true → map r.field fs ≡ gs
  fields-tied [] [] e = refl
  fields-tied (f ∷ fs) (g ∷ gs) e =
      let parts = and_parts (ties_fields p q f g) (pointwise (ties_fields p q) fs gs) e in
      (λ i. take.field f g parts.0 i ∷ fields-tied fs gs parts.1 i)
  fields-tied _ _ e = absurd (false≢true e)

  pub path-tied : (a b : Path) → ties_paths p q a b ≡ true → path_by r a ≡ b
  path-tied a b e =
      let parts = and_parts (ties_roots p q a.root b.root) (pointwise (ties_fields p q) a.fields b.fields) e in
      (λ i. record { root = root-tied a.root b.root parts.0 i; fields = fields-tied a.fields b.fields parts.1 i })

  value-tied : (v w : Value) → ties_values p q v w ≡ true → value_by r v ≡ w
  value-tied Owned Owned e = refl
  value-tied Unnamed Unnamed e = refl
  value-tied (Named a) (Named b) e = ap (λ (x : Path). Named x) (path-tied a b e)
  value-tied _ _ e = absurd (false≢true e)

  record-tied : (a b : Access) → same_record p q a b ≡ true → access_by r a ≡ b
  record-tied a b e =
      let parts : AreSameRecords p q a b = same_record_parts p q a b e in
      (λ i. record {
        path = path-tied a.path b.path parts.path i;
        kind = parts.kind i;
        locked = parts.locked i;
        main = parts.main i;
        site = parts.site i;
        below = parts.below i;
      })

  records-tied : (xs ys : List Access) → pointwise (same_record p q) xs ys ≡ true → map (access_by r) xs ≡ ys
  records-tied [] [] e = refl
  records-tied (x ∷ xs) (y ∷ ys) e =
      let parts = and_parts (same_record p q x y) (pointwise (same_record p q) xs ys) e in
      (λ i. record-tied x y parts.0 i ∷ records-tied xs ys parts.1 i)
  records-tied _ _ e = absurd (false≢true e)

  -- a path of one list is tied to one of the other
  there : (x : Path) (ps qs : List Path) → list_all (λ a. list_any (ties_paths p q a) qs) ps ≡ true →
      list_any (eq_by_cmp path_cmp x) (map (path_by r) ps) ≡ true → list_any (eq_by_cmp path_cmp x) qs ≡ true
  there x ps qs all e =
      let test = eq_by_cmp path_cmp x in
      let one = passing (λ a. test (path_by r a)) ps (sym (any-by r test ps) ∙ e) in
      let other = passing (ties_paths p q one.0) qs (each (λ a. list_any (ties_paths p q a) qs) ps one.0 all one.1) in
      passes test qs other.0 other.1 (ap test (sym (path-tied one.0 other.0 other.2)) ∙ one.2)

  back : (x : Path) (ps qs : List Path) → list_all (λ b. list_any (λ a. ties_paths p q a b) ps) qs ≡ true →
      list_any (eq_by_cmp path_cmp x) qs ≡ true → list_any (eq_by_cmp path_cmp x) (map (path_by r) ps) ≡ true
  back x ps qs all e =
      let test = eq_by_cmp path_cmp x in
      let one = passing test qs e in
      let other =
      passing (λ a. ties_paths p q a one.0) ps
      (each (λ b. list_any (λ a. ties_paths p q a b) ps) qs one.0 all one.1) in
      any-by r test ps
      ∙ passes (λ a. test (path_by r a)) ps other.0 other.1 (ap test (path-tied other.0 one.0 other.2) ∙ one.2)

  pub paths-tied : (s t : PathSet) → same_paths p q s t ≡ true → paths_by r s ≡ t
  paths-tied s t e =
      let parts =
      and_parts (list_all (λ a. list_any (ties_paths p q a) (set.items t)) (set.items s))
      (list_all (λ b. list_any (λ a. ties_paths p q a b) (set.items s)) (set.items t)) e in
      same_members (map (path_by r) (set.items s)) (set.items t)
      (λ x.
      same_truth (list_any (eq_by_cmp path_cmp x) (map (path_by r) (set.items s)))
      (list_any (eq_by_cmp path_cmp x) (set.items t)) (there x (set.items s) (set.items t) parts.0)
      (back x (set.items s) (set.items t) parts.1))
      ∙ from_list-items t

  summary-tied : (s t : Summary) → same_summary p q s t ≡ true → summary_by r s ≡ t
  summary-tied s t e =
      let parts : AreSameSummaries p q s t = same_summary_parts p q s t e in
      (λ i. record {
        accesses = records-tied s.accesses t.accesses parts.accesses i;
        wobbly = paths-tied s.wobbly t.wobbly parts.wobbly i;
        result = value-tied s.result t.result parts.result i;
      })

  pub outcome-tied : (a b : Outcome) → same_outcome p q a b ≡ true → outcome_by r a ≡ b
  outcome-tied code.Large code.Large e = refl
  outcome-tied (code.Summary s) (code.Summary t) e = ap (λ (x : Summary). code.Summary x) (summary-tied s t e)
  outcome-tied _ _ e = absurd (false≢true e)
