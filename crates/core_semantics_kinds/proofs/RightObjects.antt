-- The objects that the reads of a run give are right.
use Rattle.std.proofs.Common.{◌≡◌, Bool, true, false, cond, not, List, [], ◌∷◌, Some}
use Rattle.std.proofs.Common.{IsTrue, is_some, refl, ap, filter}
use Rattle.std.proofs.lemmas.Bool.{and_from}
use Rattle.std.specs.List.{list_all}
use Rattle.racer_base.specs.declared.ids.MethodId.{MethodId}
use Rattle.core_code.specs.declared.program.Program.{Program}
use Rattle.core_code.specs.Calls.{is_analysed, method_at}
use Rattle.core_code.specs.Core.{Core, Method}
use Rattle.core_code.specs.Program.{core as core_of}
use Rattle.access_domain.specs.Records.{firsts}
use Rattle.core_semantics.specs.declared.object.Start.{Start}
use Rattle.core_semantics.specs.declared.object.StartPath.{StartPath}
use Rattle.core_semantics.specs.Legs.{Leg}
use Rattle.core_semantics.specs.Objects.{same_start_path}
use Rattle.core_semantics.specs.Runs.{begun}
use Rattle.core_ways.specs.Marks.{objects_of, reads_of_legs}
use Rattle.core_semantics_kinds.specs.Reached.{Roots, has_field, is_right, reached_from, roots_of}
use Rattle.core_semantics_kinds.proofs.Beginnings.{entries-state, program-keeps}
use Rattle.core_semantics_kinds.proofs.ReadsRight.{AreRightPaths, IsRightPath, legs-right}

module _ (core : Core) (roots : Roots) where
  path-is-right : (p : StartPath) → IsRightPath core roots p → is_right core roots p ≡ true
  path-is-right p h =
      and_from (has_field p.fields) (is_some (reached_from core roots p)) (ap has_field h.has) h.leads

  all-are-right : (ps : List StartPath) → AreRightPaths core roots ps → list_all (is_right core roots) ps ≡ true
  all-are-right [] h = refl
  all-are-right (p ∷ ps) h =
      and_from (is_right core roots p) (list_all (is_right core roots) ps) (path-is-right p h.0) (all-are-right ps h.1)

  filtered : (test : StartPath → Bool) (ps : List StartPath) → AreRightPaths core roots ps →
      AreRightPaths core roots (filter test ps)
  filtered test [] h = tt
  filtered test (p ∷ ps) h =
      elim (test p) as (λ b. AreRightPaths core roots (cond b (p ∷ filter test ps) (filter test ps))) [
        | true ↦ (h.0, filtered test ps h.1)
        | false ↦ filtered test ps h.1
      ]

  firsts-right : (ps : List StartPath) → AreRightPaths core roots ps →
      AreRightPaths core roots (firsts same_start_path ps)
  firsts-right [] h = tt
  firsts-right (p ∷ ps) h =
      (h.0, filtered (λ y. not (same_start_path p y)) (firsts same_start_path ps) (firsts-right ps h.1))

-- ---- runs of two entries

pub objects-right : (p : Program) (m1 m2 : MethodId) (f g : Method) → method_at (core_of p) m1 ≡ Some f →
    method_at (core_of p) m2 ≡ Some g → IsTrue (is_analysed (core_of p) m1) → IsTrue (is_analysed (core_of p) m2) →
    f.class ≡ g.class → (start : Start) (legs : List Leg) →
    IsTrue (list_all (is_right (core_of p) (roots_of f g))
    (objects_of (core_of p) legs (begun (core_of p) m1 m2 start)))
objects-right p m1 m2 f g is_f is_g an_f an_g same start legs =
    let core : Core = core_of p in
    let roots : Roots = roots_of f g in
    all-are-right core roots (objects_of core legs (begun core m1 m2 start))
    (firsts-right core roots (reads_of_legs core legs (begun core m1 m2 start))
    (legs-right (program-keeps p f g) legs (begun core m1 m2 start)
    (entries-state p m1 m2 f g start is_f is_g an_f an_g same)))
