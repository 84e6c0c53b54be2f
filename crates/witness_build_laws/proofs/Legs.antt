-- Legs from the beginning, in the heap of all start paths and in that of the objects read.
use Rattle.std.proofs.Common.{◌≡◌, true, List, [], ◌∷◌, Option, refl, sym, ap}
use Rattle.std.proofs.Common.{◌∙◌, option_map}
use Rattle.std.specs.List.{list_any}
use Rattle.std.proofs.lemmas.Bool.{or_left, or_right}
use Rattle.std.specs.Option.{option_and_then}
use Rattle.racer_base.specs.declared.ids.MethodId.{MethodId}
use Rattle.access_domain.specs.Records.{firsts}
use Rattle.access_domain.proofs.Different.{list_any-firsts}
use Rattle.core_code.specs.Core.{Core}
use Rattle.core_semantics.specs.declared.answer.Turn.{Turn}
use Rattle.core_semantics.specs.declared.object.Object.TheVariants.{Start as StartOf}
use Rattle.core_semantics.specs.declared.object.Start.TheVariants.{All, Only}
use Rattle.core_semantics.specs.declared.object.StartPath.{StartPath}
use Rattle.core_semantics.specs.Legs.{Leg, Ran, Came, Halted, run, runs, whole}
use Rattle.core_semantics.specs.Objects.{same_start_path}
use Rattle.core_semantics.specs.Runs.{begun, is_in}
use Rattle.core_semantics.specs.Same.{same_object-itself}
use Rattle.core_semantics.specs.State.{State}
use Rattle.core_ways.specs.Marks.{objects_of, reads, reads_of_legs}
use Rattle.core_ways.proofs.Gathering.{exact}
use Rattle.witness_build_laws.specs.Heaps.{HasAll, Heap, ran_in, state_in}
use Rattle.witness_build_laws.proofs.SameRuns.{all-first, all-last, run-heap, runs-same}

-- ---- what is read is among the objects

among-firsts : (xs : List StartPath) (p : StartPath) →
    list_any (λ q. same_start_path q p) (firsts same_start_path xs) ≡ list_any (λ q. same_start_path q p) xs
among-firsts xs p =
    list_any-firsts (λ q. same_start_path q p) same_start_path
    (λ x y h. ap (λ z. same_start_path z p) (sym (exact x y h)))
    xs

has-all : (heap : Heap) (xs : List StartPath) →
    ((p : StartPath) → list_any (λ q. same_start_path q p) xs ≡ true → heap p ≡ true) → HasAll heap xs
has-all heap [] has = tt
has-all heap (x ∷ xs) has = (
  has x (or_left (same_start_path x x) (list_any (λ q. same_start_path q x) xs) (same_object-itself (StartOf x))),
  has-all heap xs (λ p e. has p (or_right (same_start_path x p) (list_any (λ q. same_start_path q p) xs) e)),
)

pub objects-read : (objects xs : List StartPath) → objects ≡ firsts same_start_path xs →
    HasAll (is_in (Only objects)) xs
objects-read objects xs is =
    has-all (is_in (Only objects)) xs (λ p e. ap (list_any (λ q. same_start_path q p)) is ∙ among-firsts xs p ∙ e)

-- ---- legs in turn

abbrev on_whole : Core → List Leg → Ran → Option State
on_whole core legs r = option_and_then (run core legs) (whole r)

abbrev reads_from : Core → List Leg → Ran → List StartPath
reads_from core legs r = elim r [ Came to left ↦ reads_of_legs core legs to | Halted halt at steps ↦ [] ]

-- legs from each state in which all start paths are objects
abbrev LegsSame : Core → Heap → List Leg → Type 0
LegsSame core heap legs = (s : State) → ((p : StartPath) → s.store.heap p ≡ true) →
    HasAll heap (reads_of_legs core legs s) →
    run core legs (state_in heap s) ≡ option_map (state_in heap) (run core legs s)

whole-same : (core : Core) (heap : Heap) (legs : List Leg) (r : Ran) → LegsSame core heap legs →
    ((to : State) (left : List Turn) → r ≡ Came to left → (p : StartPath) → to.store.heap p ≡ true) →
    HasAll heap (reads_from core legs r) →
    on_whole core legs (ran_in heap r) ≡ option_map (state_in heap) (on_whole core legs r)
whole-same core heap legs (Came to []) same full all = same to (full to [] refl) all
whole-same core heap legs (Came to (turn ∷ left)) same full all = refl
whole-same core heap legs (Halted halt at steps) same full all = refl

pub legs-same : (core : Core) (heap : Heap) (legs : List Leg) → LegsSame core heap legs
legs-same core heap [] = λ s there all. refl
legs-same core heap (leg ∷ legs) = λ s there all.
    let r : Ran = runs core leg.thread leg.steps leg.turns s in
    let one : List StartPath = reads core leg.thread leg.steps leg.turns s in
    ap (on_whole core legs)
    (runs-same core heap leg.thread leg.steps leg.turns s there (all-first heap one (reads_from core legs r) all))
    ∙ whole-same core heap legs r (legs-same core heap legs)
    (λ to left came p. ap (λ (h : Heap). h p) (run-heap core leg.thread leg.steps leg.turns s to left came) ∙ there p)
    (all-last heap one (reads_from core legs r) all)

pub run-from-objects : (core : Core) (m1 m2 : MethodId) (legs : List Leg) (objects : List StartPath) →
    objects ≡ objects_of core legs (begun core m1 m2 All) →
    run core legs (begun core m1 m2 (Only objects))
    ≡ option_map (state_in (is_in (Only objects))) (run core legs (begun core m1 m2 All))
run-from-objects core m1 m2 legs objects is =
    legs-same core (is_in (Only objects)) legs (begun core m1 m2 All) (λ p. refl)
    (objects-read objects (reads_of_legs core legs (begun core m1 m2 All)) is)
