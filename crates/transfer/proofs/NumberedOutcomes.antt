-- What is the same with even and with odd numbers for what has no partner is the same by names.
use Rattle.std.proofs.Common.{◌≡◌, ℕ, Bool, true, false, ◌&&◌, List, [], ◌∷◌, Option, None, Some, map, nat_eq}
use Rattle.std.proofs.Common.{refl, sym, ap, ◌∙◌}
use Rattle.std.proofs.lemmas.Bool.{and_from, eq-eqb}
use Rattle.std.specs.Cmp.Lexicographic.{pointwise}
use Rattle.std.specs.FinSet as set
use Rattle.std.specs.List.{Contains, list_all, list_any}
use Rattle.std.specs.Ordering.{eq_by_cmp}
use Rattle.racer_base.specs.declared.ids.ClassId.{ClassId}
use Rattle.racer_base.specs.declared.ids.FieldId.{FieldId}
use Rattle.racer_base.specs.declared.ids.Touch.{Touch}
use Rattle.racer_base.specs.declared.ids.Touch.TheVariants.{Read, Write}
use Rattle.access_paths.specs.declared.path.Root.{Root}
use Rattle.access_paths.specs.declared.path.Root.TheVariants.{This, Class, Formal, Some as SomeOf}
use Rattle.access_paths.specs.declared.path.Path.{Path}
use Rattle.access_paths.specs.Order.{PathSet, path_cmp}
use Rattle.access_paths.specs.Same.{equal_of_same, same_path-itself, tied}
use Rattle.owner_domain.specs.declared.value.Value.{Value}
use Rattle.owner_domain.specs.declared.value.Value.TheVariants.{Owned, Named, Unnamed}
use Rattle.core_code.specs.Core.{Core}
use Rattle.core_code.proofs.Members.{in_tail, passes, passing}
use Rattle.core_code.proofs.Ranks.{in_head}
use Rattle.access_domain.specs.declared.access.Access.{Access}
use Rattle.access_domain.specs.declared.summary.Summary.{Summary}
use Rattle.access_domain.specs.declared.summary.Outcome.{Outcome}
use Rattle.access_domain.specs.declared.summary.Outcome.TheVariants as code
use Rattle.access_domain.specs.Records.{same_flag, same_touch}
use Rattle.call_subst.proofs.SameSets.{any-same_set, from_list-items}
use Rattle.transfer_ties.specs.Outcomes.{same_index, same_outcome, same_paths, same_record, same_summary, ties_paths}
use Rattle.transfer_ties.specs.Outcomes.{ties_roots, ties_values}
use Rattle.transfer_ties.specs.Ties.{ties_classes, ties_fields}
use Rattle.transfer.proofs.Renumbering.{Renumbering, path_by, root_by, value_by}
use Rattle.transfer.proofs.RenumberedCalls.{access_by}
use Rattle.transfer.proofs.RenumberedFlow.{any-by, outcome_by, paths_by, summary_by}

-- two classes or fields that get one number, each by its own renumbering, have a partner: that of this number
pub record HavePartners (r k : Renumbering) (p q : Core) : Type 0 where
  pub class : (c d : ClassId) → r.class c ≡ k.class d → ties_classes p q c (r.class c) ≡ true
  pub field : (f g : FieldId) → r.field f ≡ k.field g → ties_fields p q f (r.field f) ≡ true

flag-itself : (a : Bool) → same_flag a a ≡ true
flag-itself true = refl
flag-itself false = refl

touch-itself : (a : Touch) → same_touch a a ≡ true
touch-itself Read = refl
touch-itself Write = refl

index-itself : (i : Option ℕ) → same_index i i ≡ true
index-itself None = refl
index-itself (Some i) = eq-eqb i i refl

path-itself : (a : Path) → eq_by_cmp path_cmp a a ≡ true
path-itself a = tied a a ∙ same_path-itself a

all_pass : {X : Type 0} (test : X → Bool) (xs : List X) → ((x : X) → Contains xs x → test x ≡ true) →
    list_all test xs ≡ true
all_pass test [] h = refl
all_pass test (x ∷ xs) h =
    and_from (test x) (list_all test xs) (h x (in_head x xs)) (all_pass test xs (λ y there. h y (in_tail x xs y there)))

-- a test passes for one of a set's items exactly where it passes for one of the list that the set is of
any-items : (test : Path → Bool) (paths : List Path) →
    list_any test (set.items (set.from_list {R = path_cmp} paths)) ≡ list_any test paths
any-items test paths =
    any-same_set test (set.items (set.from_list {R = path_cmp} paths)) paths
    (from_list-items (set.from_list {R = path_cmp} paths))

module _ (r k : Renumbering) (p q : Core) (have : HavePartners r k p q) where
  root-same : (a b : Root) → root_by r a ≡ root_by k b → ties_roots p q a (root_by r a) ≡ true
  root-same This b e = refl
  root-same (Formal i) b e = eq-eqb i i refl
  root-same (Class c) (Class d) e = have.class c d cc
  root-same (SomeOf c) (SomeOf d) e = have.class c d cc
  root-same _ _ e = absurd cc

  fields-same : (fs gs : List FieldId) → map r.field fs ≡ map k.field gs →
      pointwise (ties_fields p q) fs (map r.field fs) ≡ true
  fields-same [] gs e = refl
  fields-same (f ∷ fs) [] e = absurd cc
  fields-same (f ∷ fs) (g ∷ gs) e =
      let first : r.field f ≡ k.field g = cc in
      let rest : map r.field fs ≡ map k.field gs = cc in
      and_from (ties_fields p q f (r.field f)) (pointwise (ties_fields p q) fs (map r.field fs)) (have.field f g first)
      (fields-same fs gs rest)

  path-same : (a b : Path) → path_by r a ≡ path_by k b → ties_paths p q a (path_by r a) ≡ true
  path-same a b e =
      and_from (ties_roots p q a.root (root_by r a.root))
      (pointwise (ties_fields p q) a.fields (map r.field a.fields))
      (root-same a.root b.root (ap (λ (x : Path). x.root) e))
      (fields-same a.fields b.fields (ap (λ (x : Path). x.fields) e))

  value-same : (v w : Value) → value_by r v ≡ value_by k w → ties_values p q v (value_by r v) ≡ true
  value-same Owned w e = refl
  value-same Unnamed w e = refl
  value-same (Named a) (Named b) e = let inner : path_by r a ≡ path_by k b = cc in path-same a b inner
  value-same (Named a) _ e = absurd cc

  record-same : (a b : Access) → access_by r a ≡ access_by k b → same_record p q a (access_by r a) ≡ true
  record-same a b e =
      let path = ties_paths p q a.path (path_by r a.path) in
      let kind = same_touch a.kind a.kind in
      let locked = same_flag a.locked a.locked in
      let main = same_flag a.main a.main in
      let site = nat_eq a.site.0 a.site.0 in
      and_from (path && kind && locked && main && site) (same_index a.below a.below)
      (and_from (path && kind && locked && main) site
      (and_from (path && kind && locked) main
      (and_from (path && kind) locked
      (and_from path kind (path-same a.path b.path (ap (λ (x : Access). x.path) e)) (touch-itself a.kind))
      (flag-itself a.locked)) (flag-itself a.main)) (eq-eqb a.site.0 a.site.0 refl)) (index-itself a.below)

  records-same : (xs ys : List Access) → map (access_by r) xs ≡ map (access_by k) ys →
      pointwise (same_record p q) xs (map (access_by r) xs) ≡ true
  records-same [] ys e = refl
  records-same (x ∷ xs) [] e = absurd cc
  records-same (x ∷ xs) (y ∷ ys) e =
      let first : access_by r x ≡ access_by k y = cc in
      let rest : map (access_by r) xs ≡ map (access_by k) ys = cc in
      and_from (same_record p q x (access_by r x)) (pointwise (same_record p q) xs (map (access_by r) xs))
      (record-same x y first) (records-same xs ys rest)

  -- each path of lists that make one set is tied to the one of its number
  tied-there : (ps qs : List Path) (a : Path) →
      set.from_list {R = path_cmp} (map (path_by r) ps) ≡ set.from_list (map (path_by k) qs) → Contains ps a →
      ties_paths p q a (path_by r a) ≡ true
  tied-there ps qs a same there =
      let test = eq_by_cmp path_cmp (path_by r a) in
      let here : list_any test (map (path_by r) ps) ≡ true =
      any-by r test ps ∙ passes (λ x. test (path_by r x)) ps a there (path-itself (path_by r a)) in
      let other =
      passing (λ x. test (path_by k x)) qs
      (sym (any-by k test qs) ∙ sym (any-same_set test (map (path_by r) ps) (map (path_by k) qs) same) ∙ here) in
      path-same a other.0
      (equal_of_same (path_by r a) (path_by k other.0) (sym (tied (path_by r a) (path_by k other.0)) ∙ other.2))

  paths-same : (s t : PathSet) → paths_by r s ≡ paths_by k t → same_paths p q s (paths_by r s) ≡ true
  paths-same s t e =
      let ps : List Path = set.items s in
      let new : List Path = set.items (paths_by r s) in
      let ties : (a : Path) → Contains ps a → ties_paths p q a (path_by r a) ≡ true =
      λ a there. tied-there ps (set.items t) a e there in
      and_from (list_all (λ a. list_any (ties_paths p q a) new) ps)
      (list_all (λ b. list_any (λ a. ties_paths p q a b) ps) new)
      (all_pass (λ a. list_any (ties_paths p q a) new) ps
      (λ a there.
      any-items (ties_paths p q a) (map (path_by r) ps)
      ∙ any-by r (ties_paths p q a) ps
      ∙ passes (λ x. ties_paths p q a (path_by r x)) ps a there (ties a there)))
      (all_pass (λ b. list_any (λ a. ties_paths p q a b) ps) new
      (λ b there.
      let test = eq_by_cmp path_cmp b in
      let one =
      passing (λ x. test (path_by r x)) ps
      (sym (any-by r test ps) ∙ sym (any-items test (map (path_by r) ps))
      ∙ passes test new b there (path-itself b)) in
      let is : b ≡ path_by r one.0 = equal_of_same b (path_by r one.0) (sym (tied b (path_by r one.0)) ∙ one.2) in
      passes (λ a. ties_paths p q a b) ps one.0 one.1 (ap (ties_paths p q one.0) is ∙ ties one.0 one.1)))

  summary-same : (s t : Summary) → summary_by r s ≡ summary_by k t → same_summary p q s (summary_by r s) ≡ true
  summary-same s t e =
      let accesses = pointwise (same_record p q) s.accesses (map (access_by r) s.accesses) in
      let wobbly = same_paths p q s.wobbly (paths_by r s.wobbly) in
      and_from (accesses && wobbly) (ties_values p q s.result (value_by r s.result))
      (and_from accesses wobbly (records-same s.accesses t.accesses (ap (λ (x : Summary). x.accesses) e))
      (paths-same s.wobbly t.wobbly (ap (λ (x : Summary). x.wobbly) e)))
      (value-same s.result t.result (ap (λ (x : Summary). x.result) e))

  pub outcome-same : (a b : Outcome) → outcome_by r a ≡ outcome_by k b → same_outcome p q a (outcome_by r a) ≡ true
  outcome-same code.Large b e = refl
  outcome-same (code.Summary s) (code.Summary t) e =
      let inner : summary_by r s ≡ summary_by k t = cc in summary-same s t inner
  outcome-same (code.Summary s) code.Large e = absurd cc
