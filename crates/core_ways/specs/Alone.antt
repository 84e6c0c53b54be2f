-- A contract of a public call rests on this: the laws on a thread that is run beside one that holds no monitor.
use Rattle.std.specs.Prelude.{◌≡◌, ℕ, zero, suc, ◌+◌, Bool, true, false, ◌&&◌, ◌||◌, not, List, [], ◌∷◌, ◌++◌, None}
use Rattle.std.specs.Prelude.{Some, drop, length, slice_get, if◌then◌else◌}
use Rattle.std.specs.Option.{option_and_then}
use Rattle.racer_base.specs.declared.ids.MethodId.{MethodId}
use Rattle.core_code.specs.Calls.{method_at}
use Rattle.core_code.specs.Core.{Core, Method}
use Rattle.core_code.specs.declared.code.Op.{Op as CoreOp}
use Rattle.core_code.specs.declared.code.Op.TheVariants.{Throw}
use Rattle.racer_base.specs.declared.ids.SiteId.{SiteId}
use Rattle.core_code.specs.Tree.{Tree, Operation, can_end, can_return}
use Rattle.core_code.specs.Tree as tree
use Rattle.core_semantics.specs.declared.answer.Holder.{Holder}
use Rattle.core_semantics.specs.declared.answer.Turn.{Turn}
use Rattle.core_semantics.specs.declared.answer.Turn.TheVariants.{Right}
use Rattle.core_semantics.specs.declared.answer.Why.{Why}
use Rattle.core_semantics.specs.declared.object.Value.{Value}
use Rattle.core_semantics.specs.Legs.{Ran, Came as CameTo, Halted, StuckFor}
use Rattle.core_semantics.specs.Runs.{is_turn, next_of}
use Rattle.core_semantics.specs.State.{Frame, State, Store, Thread, Todo, Op, before, thread_of}
use Rattle.core_semantics.specs.State.{with_thread}
use Rattle.core_semantics.specs.Steps.{After, Next, Goes, Sticks, Waits, Ends, ended_with, thread_step}
use Rattle.core_ways.specs.Ways.{Trip, has_site, passed, reached, to_return, trip_along}

-- whether a thread is at a choice or a loop
abbrev pub is_at_turn : Thread → Bool
is_at_turn thread =
    elim (option_and_then next_of (slice_get thread.frames 0)) [ None ↦ false | Some todo ↦ is_turn todo ]

-- where a run comes to, with the turns that are left; or why it is stuck; or that it ends otherwise
pub data Alone : Type 0 where
  Came : (to : After) (left : List Turn) → Alone
  Stuck : (why : Why) → Alone
  Broken : Alone

abbrev pub onward : (After → Alone) → Next After → Alone
onward rest (Goes next) = rest next
onward rest (Sticks why) = Stuck why
onward rest (Waits monitor) = Broken
onward rest Ends = Broken

-- so many steps, each choice or loop taking the next turn
abbrev pub alone : Core → ℕ → List Turn → After → Alone
alone core zero turns a = Came a turns
alone core (suc n) turns a =
    if is_at_turn a.thread
    then
    (elim turns [
      | [] ↦ Broken
      | ◌∷◌ turn rest ↦ onward (alone core n rest) (thread_step core turn [] a.store a.thread)
    ])
    else onward (alone core n turns) (thread_step core Right [] a.store a.thread)

-- a run that is not stuck uses its turns, and no others, and comes to such a place
abbrev pub ComesTo : (After → Type 0) → List Turn → Alone → Type 0
ComesTo P rest (Came a left) = (left ≡ rest) × P a
ComesTo P rest (Stuck why) = Unit {0}
ComesTo P rest Broken = true ≡ false

abbrev pub LeadsTo : Core → List Turn → ℕ → After → (After → Type 0) → Type 0
LeadsTo core turns n a P = (rest : List Turn) → ComesTo P rest (alone core n (turns ++ rest) a)

-- a thread whose innermost frame is so
abbrev pub here : Store → List Value → List Value → List Todo → ℕ → List Frame → List Holder → After
here store vars stack todo locked callers locks =
    record {
      store = store;
      thread = record {
        frames = record { vars = vars; stack = stack; todo = todo; locked = locked } ∷ callers;
        locks = locks;
      };
    }

-- the frame has this still to do, and its callers and the monitors are as these
abbrev pub IsAt : List Todo → ℕ → List Frame → List Holder → After → Type 0
IsAt todo locked callers locks a =
    (store : Store) × (vars : List Value) × (stack : List Value) × (a ≡ here store vars stack todo locked callers locks)

-- the frame has returned: its caller goes on with a value, or the thread has ended
abbrev pub HasReturned : List Frame → List Holder → After → Type 0
HasReturned [] locks a = (store : Store) × (a ≡ ended_with store locks)
HasReturned (f ∷ callers) locks a =
    (store : Store) × (v : Value) × (a ≡ here store f.vars (v ∷ f.stack) f.todo f.locked callers locks)

-- behind code that can end or not
abbrev pub IsBehind : Bool → List Todo → ℕ → List Frame → List Holder → After → Type 0
IsBehind true todo locked callers locks a = IsAt todo locked callers locks a
IsBehind false todo locked callers locks a = HasReturned callers (drop locked locks) a

-- code is passed along its parts, whatever comes behind it and whatever the thread holds
abbrev pub RunsPast : Core → (MethodId → Trip) → Tree → Type 0
RunsPast core trips code =
    (locked : ℕ) (store : Store) (vars stack : List Value) (todo : List Todo) (callers : List Frame)
    (locks : List Holder) →
    LeadsTo core (trip_along trips (passed locked code)).turns (trip_along trips (passed locked code)).steps
    (here store vars stack (before code todo) locked callers locks) (IsBehind (can_end code) todo locked callers locks)

-- whether code has no throw
abbrev pub is_throwless_op : CoreOp → Bool
is_throwless_op Throw = false
is_throwless_op _ = true

abbrev pub is_throwless : Tree → Bool
is_throwless (tree.Op site place op) = is_throwless_op op
is_throwless tree.Skip = true
is_throwless (tree.Seq first rest) = is_throwless first && is_throwless rest
is_throwless (tree.Choice left right) = is_throwless left && is_throwless right
is_throwless (tree.Loop body) = is_throwless body
is_throwless (tree.Sync lock body) = is_throwless body

-- whether what comes to code comes back from it, or throws
abbrev pub comes_back : Tree → Bool
comes_back code = not (can_end code) || can_return code

-- code is gone through to a return
abbrev pub RunsBack : Core → (MethodId → Trip) → Tree → Type 0
RunsBack core trips code =
    (locked : ℕ) (store : Store) (vars stack : List Value) (todo : List Todo) (callers : List Frame)
    (locks : List Holder) →
    LeadsTo core (trip_along trips (to_return locked code)).turns (trip_along trips (to_return locked code)).steps
    (here store vars stack (before code todo) locked callers locks) (HasReturned callers (drop locked locks))

-- a method is passed from its entry on to its return
abbrev pub MethodRuns : Core → (MethodId → Trip) → MethodId → Type 0
MethodRuns core trips m =
    (method : Method) → method_at core m ≡ Some method →
    (store : Store) (vars : List Value) (callers : List Frame) (locks : List Holder) →
    LeadsTo core (trips m).turns (trips m).steps (here store vars [] (before method.code []) 0 callers locks)
    (HasReturned callers locks)

-- how many locks code has round a site
abbrev pub locks_round : SiteId → Tree → ℕ
locks_round site (tree.Op at place op) = 0
locks_round site tree.Skip = 0
locks_round site (tree.Seq first rest) = if has_site first site then locks_round site first else locks_round site rest
locks_round site (tree.Choice left right) = if has_site left site then locks_round site left else locks_round site right
locks_round site (tree.Loop body) = locks_round site body
locks_round site (tree.Sync lock body) = suc (locks_round site body)

-- whether each part that stands in sequence before a site can end
abbrev pub do_end_before : SiteId → Tree → Bool
do_end_before site (tree.Op at place op) = true
do_end_before site tree.Skip = true
do_end_before site (tree.Seq first rest) =
    if has_site first site then do_end_before site first else can_end first && do_end_before site rest
do_end_before site (tree.Choice left right) =
    if has_site left site then do_end_before site left else do_end_before site right
do_end_before site (tree.Loop body) = do_end_before site body
do_end_before site (tree.Sync lock body) = do_end_before site body

-- the frame is at this operation, within so many more locks
pub record IsBefore (o : Operation) (more locked : ℕ) (callers : List Frame) (locks : List Holder)
    (a : After) : Type 0 where
  pub store : Store
  pub vars : List Value
  pub stack : List Value
  pub todo : List Todo
  pub monitors : List Holder
  pub count : length monitors ≡ more
  pub is : a ≡ here store vars stack (Op o.place o.op ∷ todo) (more + locked) callers (monitors ++ locks)

-- code is gone into up to a site
abbrev pub RunsTo : Core → (MethodId → Trip) → SiteId → Tree → Operation → Type 0
RunsTo core trips site code o =
    (locked : ℕ) (store : Store) (vars stack : List Value) (todo : List Todo) (callers : List Frame)
    (locks : List Holder) →
    LeadsTo core (trip_along trips (reached locked site code)).turns
    (trip_along trips (reached locked site code)).steps (here store vars stack (before code todo) locked callers locks)
    (IsBefore o (locks_round site code) locked callers locks)

-- what both threads share, and one of them
abbrev pub part_of : State → ℕ → After
part_of s t = record { store = s.store; thread = thread_of s t }

-- a run of a thread in the machine of two threads is this run of it alone
abbrev pub IsSeen : State → ℕ → Alone → Ran → Type 0
IsSeen s t (Came a left) ran = ran ≡ CameTo (with_thread s t a.store a.thread) left
IsSeen s t (Stuck why) ran = (at : State) × (steps : ℕ) × (ran ≡ Halted (StuckFor why) at steps)
IsSeen s t Broken ran = Unit {0}
