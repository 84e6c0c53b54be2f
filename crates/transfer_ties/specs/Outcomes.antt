-- A contract of a public call rests on this: when an outcome of an older program and one of a newer are the same by
-- names. Records stand in one order, each with its site and its index; wobbly paths are a set.
use Rattle.std.specs.Prelude.{ℕ, Bool, true, false, ◌&&◌, Option, None, Some, nat_eq}
use Rattle.std.specs.FinSet as set
use Rattle.std.specs.List.{list_all, list_any}
use Rattle.std.specs.Cmp.Lexicographic.{pointwise}
use Rattle.racer_base.specs.declared.ids.MethodId.{MethodId}
use Rattle.access_paths.specs.declared.path.Root.{Root}
use Rattle.access_paths.specs.declared.path.Root.TheVariants.{This, Class, Formal, Some as SomeOf}
use Rattle.access_paths.specs.declared.path.Path.{Path}
use Rattle.access_paths.specs.Order.{PathSet}
use Rattle.owner_domain.specs.declared.value.Value.{Value}
use Rattle.owner_domain.specs.declared.value.Value.TheVariants.{Owned, Named, Unnamed}
use Rattle.core_code.specs.Core.{Core}
use Rattle.access_domain.specs.declared.access.Access.{Access}
use Rattle.access_domain.specs.declared.summary.Summary.{Summary}
use Rattle.access_domain.specs.declared.summary.Outcome.{Outcome}
use Rattle.access_domain.specs.declared.summary.Outcome.TheVariants as code
use Rattle.access_domain.specs.Records.{same_flag, same_touch}
use Rattle.access_domain.specs.Summaries.{outcome_of}
use Rattle.transfer_ties.specs.Ties.{both, ties_classes, ties_fields}

abbrev pub ties_roots : Core → Core → Root → Root → Bool
ties_roots p q This This = true
ties_roots p q (Class c) (Class d) = ties_classes p q c d
ties_roots p q (Formal i) (Formal j) = nat_eq i j
ties_roots p q (SomeOf c) (SomeOf d) = ties_classes p q c d
ties_roots p q _ _ = false

abbrev pub ties_paths : Core → Core → Path → Path → Bool
ties_paths p q a b = ties_roots p q a.root b.root && pointwise (ties_fields p q) a.fields b.fields

abbrev pub ties_values : Core → Core → Value → Value → Bool
ties_values p q Owned Owned = true
ties_values p q Unnamed Unnamed = true
ties_values p q (Named a) (Named b) = ties_paths p q a b
ties_values p q _ _ = false

abbrev pub same_index : Option ℕ → Option ℕ → Bool
same_index None None = true
same_index (Some i) (Some j) = nat_eq i j
same_index _ _ = false

abbrev pub same_record : Core → Core → Access → Access → Bool
same_record p q a b =
    ties_paths p q a.path b.path && same_touch a.kind b.kind && same_flag a.locked b.locked
    && same_flag a.main b.main && nat_eq a.site.0 b.site.0 && same_index a.below b.below

-- each path of one set is one of the other
abbrev pub same_paths : Core → Core → PathSet → PathSet → Bool
same_paths p q paths others =
    list_all (λ a. list_any (ties_paths p q a) (set.items others)) (set.items paths)
    && list_all (λ b. list_any (λ a. ties_paths p q a b) (set.items paths)) (set.items others)

abbrev pub same_summary : Core → Core → Summary → Summary → Bool
same_summary p q s t =
    pointwise (same_record p q) s.accesses t.accesses && same_paths p q s.wobbly t.wobbly
    && ties_values p q s.result t.result

abbrev pub same_outcome : Core → Core → Outcome → Outcome → Bool
same_outcome p q code.Large code.Large = true
same_outcome p q (code.Summary s) (code.Summary t) = same_summary p q s t
same_outcome p q _ _ = false

-- both methods are analysed, and have one outcome
abbrev pub ties_outcomes : Core → Core → MethodId → MethodId → Bool
ties_outcomes p q m n = both (same_outcome p q) (outcome_of p m) (outcome_of q n)
