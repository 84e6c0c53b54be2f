-- The run of a witness, in the heap of all start paths and in that of its objects.
use Rattle.std.proofs.Common.{◌≡◌, ℕ, Bool, true, ◌&&◌, ◌||◌, List, [], ◌∷◌, None, Some, refl}
use Rattle.std.proofs.Common.{sym, ap}
use Rattle.std.proofs.Common.{◌∙◌, subst, option_map}
use Rattle.std.proofs.lemmas.Bool.{eq-eqb}
use Rattle.std.specs.Option.{option_and_then}
use Rattle.racer_base.specs.declared.ids.FieldId.{FieldId}
use Rattle.racer_base.specs.declared.ids.MethodId.{MethodId}
use Rattle.racer_base.specs.declared.ids.Touch.{Touch}
use Rattle.access_paths.specs.declared.path.Path.{Path}
use Rattle.access_paths.specs.Paths.{same_field}
use Rattle.access_domain.specs.declared.access.Access.{Access}
use Rattle.core_code.specs.Core.{Core, Method}
use Rattle.core_code.specs.Touches.{is_write}
use Rattle.core_semantics.specs.declared.answer.Turn.{Turn}
use Rattle.core_semantics.specs.declared.object.Object.{Object}
use Rattle.core_semantics.specs.declared.object.Start.TheVariants.{All, Only}
use Rattle.core_semantics.specs.declared.object.StartPath.{StartPath}
use Rattle.core_semantics.specs.Legs.{Leg, Ran, Came, Halted, run, run_leg, runs, whole}
use Rattle.core_semantics.specs.Objects.{same_object}
use Rattle.core_semantics.specs.Runs.{begun, do_meet, given_to, is_in, races}
use Rattle.core_semantics.specs.Same.{same_object-itself}
use Rattle.core_semantics.specs.State.{State}
use Rattle.core_ways.specs.Marks.{first_halt, leg_along, objects_of, reads, reads_of_legs}
use Rattle.core_ways.specs.Ways.{Trip, way_of}
use Rattle.witness_build_laws.specs.Heaps.{HasAll, Heap, ran_in, state_in}
use Rattle.witness_build_laws.proofs.Legs.{objects-read, run-from-objects}
use Rattle.witness_build_laws.proofs.SameRuns.{all-first, runs-same}
use Rattle.core_ways_laws.specs.Meets.{base_path}
use Rattle.core_ways_laws.specs.Ends.{EndsAtAccess, IsAtAccess}
use Rattle.witness_build_laws.proofs.LegPairs.{TouchesAs, start_of}
use Rattle.witness_build_laws.proofs.MarkParts.{first-made}

-- ---- a race

meets : (o : Object) (f g : FieldId) (k l : Touch) → f ≡ g → (is_write k || is_write l) ≡ true →
    (same_object o o && same_field f g && (is_write k || is_write l)) ≡ true
meets o f g k l same write =
    ap (λ (b : Bool). b && same_field f g && (is_write k || is_write l)) (same_object-itself o)
    ∙ ap (λ (b : Bool). b && (is_write k || is_write l)) (eq-eqb f.0 g.0 (ap (λ (h : FieldId). h.0) same))
    ∙ write

pub both-race : (end : State) (p : Path) (k l : Touch) → (is_write k || is_write l) ≡ true → TouchesAs end 0 p k →
    TouchesAs end 1 p l → races end ≡ true
both-race end p k l write one other =
    let same : one.field ≡ other.field = let both : Some one.field ≡ Some other.field = sym one.last ∙ other.last in
    cc in
    (λ i. do_meet (one.is i) (other.is i))
    ∙ meets (start_of (base_path p)) one.field other.field k l same write

-- ---- two legs, in the heap of all start paths

-- where both legs come to, in running order
pub record LegsCome (core : Core) (t u : ℕ) (m n : MethodId) (i j : ℕ) (a b : Access) (f g : Method) (s : State) :
    Type 0
  where
    pub to : State
    pub end : State
    pub first : runs core t (way_of core m i).steps (way_of core m i).turns s ≡ Came to []
    pub second : runs core u (way_of core n j).steps (way_of core n j).turns to ≡ Came end []
    pub at_first : IsAtAccess core m i a (given_to t f) s t to
    pub at_second : IsAtAccess core n j b (given_to u g) to u end

abbrev pub EndsFrom : Core → ℕ → MethodId → ℕ → Access → Method → State → Type 0
EndsFrom core t m i a f s =
    EndsAtAccess core m i a (given_to t f) s t (runs core t (way_of core m i).steps (way_of core m i).turns s)

pub legs-come : (core : Core) (t u : ℕ) (m n : MethodId) (i j : ℕ) (a b : Access) (f g : Method) (s : State) →
    EndsFrom core t m i a f s →
    ((to : State) → IsAtAccess core m i a (given_to t f) s t to → EndsFrom core u n j b g to) →
    first_halt core (leg_along t (way_of core m i) ∷ leg_along u (way_of core n j) ∷ []) s ≡ None →
    LegsCome core t u m n i j a b f g s
legs-come core t u m n i j a b f g s ends goes made =
    let one = first-made core (leg_along t (way_of core m i)) (leg_along u (way_of core n j) ∷ []) s made in
    let to : State = one.0 in
    let came : EndsAtAccess core m i a (given_to t f) s t (Came to one.1) =
    subst (EndsAtAccess core m i a (given_to t f) s t) one.2 ends in
    let two = first-made core (leg_along u (way_of core n j)) [] to one.3 in
    let end : State = two.0 in
    let went : EndsAtAccess core n j b (given_to u g) to u (Came end two.1) =
    subst (EndsAtAccess core n j b (given_to u g) to u) two.2 (goes to came.1) in
    record {
      to = to;
      end = end;
      first = one.2 ∙ ap (λ (left : List Turn). Came to left) came.0;
      second = two.2 ∙ ap (λ (left : List Turn). Came end left) went.0;
      at_first = came.1;
      at_second = went.1;
    }

-- ---- the same in the heap of the objects read

abbrev pub two_legs : Core → ℕ → ℕ → MethodId → MethodId → ℕ → ℕ → List Leg
two_legs core t u m n i j = leg_along t (way_of core m i) ∷ leg_along u (way_of core n j) ∷ []

-- the first leg comes to the same state, and both legs to the same, the heap aside
pub record LegsComeIn (core : Core) (m1 m2 : MethodId) (leg : Leg) (legs : List Leg) (objects : List StartPath)
    (to end : State) : Type 0 where
  pub first : run_leg core leg (begun core m1 m2 (Only objects)) ≡ Some (state_in (is_in (Only objects)) to)
  pub both : run core legs (begun core m1 m2 (Only objects)) ≡ Some (state_in (is_in (Only objects)) end)

pub legs-come-in : (core : Core) (m1 m2 : MethodId) (t u : ℕ) (m n : MethodId) (i j : ℕ) (a b : Access) (f g : Method)
    (objects : List StartPath) → objects ≡ objects_of core (two_legs core t u m n i j) (begun core m1 m2 All) →
    (come : LegsCome core t u m n i j a b f g (begun core m1 m2 All)) →
    LegsComeIn core m1 m2 (leg_along t (way_of core m i)) (two_legs core t u m n i j) objects come.to come.end
legs-come-in core m1 m2 t u m n i j a b f g objects is come =
    let s : State = begun core m1 m2 All in
    let heap : Heap = is_in (Only objects) in
    let one : Trip = way_of core m i in
    let other : Trip = way_of core n j in
    let legs : List Leg = two_legs core t u m n i j in
    let reads_all : HasAll heap (reads_of_legs core legs s) = objects-read objects (reads_of_legs core legs s) is in
    let first_in : runs core t one.steps one.turns (state_in heap s) ≡ Came (state_in heap come.to) [] =
    runs-same core heap t one.steps one.turns s (λ p. refl)
    (all-first heap (reads core t one.steps one.turns s) (reads_behind_first core u other (runs core t one.steps
    one.turns s))
    reads_all)
    ∙ ap (ran_in heap) come.first in
    let whole_run : run core legs s ≡ Some come.end =
    ap (λ (r : Ran). option_and_then (run core (leg_along u other ∷ [])) (whole r)) come.first
    ∙ ap (λ (r : Ran). option_and_then (run core []) (whole r)) come.second in
    record {
      first = ap whole first_in;
      both = run-from-objects core m1 m2 legs objects is ∙ ap (option_map (state_in heap)) whole_run;
    }
  where
    reads_behind_first : Core → ℕ → Trip → Ran → List StartPath
    reads_behind_first core u other r =
        elim r [ Came to left ↦ reads_of_legs core (leg_along u other ∷ []) to | Halted halt at steps ↦ [] ]
