-- A contract of a public call rests on this: `every_legal_history`. What the laws of the demand machine count.
use Rattle.std.specs.Prelude.{ℕ, ◌<◌, ◌≤◌, List, length, cond, ◌==◌}
use Rattle.racer_base.specs.declared.ids.MethodId.{MethodId}
use Rattle.core_code.specs.Counting.{weigh, times, IsIn}
use Rattle.core_code.specs.Chains.{row_of}
use Rattle.summary_store.specs.declared.machine.Event.{Event}
use Rattle.summary_store.specs.declared.machine.Event.TheVariants.{Take, Park, Publish, Leave}
use Rattle.summary_store.specs.Machine.{Setup}

-- 1 where the event is of this kind, else 0
abbrev pub take_one : Event → ℕ
take_one (Take w m) = 1
take_one (Park w m c) = 0
take_one (Publish w m) = 0
take_one (Leave w) = 0

abbrev pub park_one : ℕ → ℕ → Event → ℕ
park_one x y (Take w m) = 0
park_one x y (Park w m c) = cond (m.0 == x) (cond (c.0 == y) 1 0) 0
park_one x y (Publish w m) = 0
park_one x y (Leave w) = 0

abbrev pub publish_one : ℕ → Event → ℕ
publish_one x (Take w m) = 0
publish_one x (Park w m c) = 0
publish_one x (Publish w m) = cond (m.0 == x) 1 0
publish_one x (Leave w) = 0

abbrev pub leave_one : ℕ → Event → ℕ
leave_one v (Take w m) = 0
leave_one v (Park w m c) = 0
leave_one v (Publish w m) = 0
leave_one v (Leave w) = cond (w == v) 1 0

-- how many takes there are, how often x parks on y, how often x is published, and how often the worker leaves
abbrev pub takes : List Event → ℕ
takes history = weigh take_one history

abbrev pub parks : MethodId → MethodId → List Event → ℕ
parks m c history = weigh (park_one m.0 c.0) history

abbrev pub publishes : MethodId → List Event → ℕ
publishes m history = weigh (publish_one m.0) history

abbrev pub leaves : ℕ → List Event → ℕ
leaves w history = weigh (leave_one w) history

-- the number of call edges
abbrev pub edges : Setup → ℕ
edges u = weigh (λ m. length (row_of u.rows m)) u.methods

-- no method stands twice among the analysed ones, their callees are analysed, and each callee has a smaller rank
pub record Ranked (u : Setup) (rank : ℕ → ℕ) : Type 0 where
  pub apart : (x : ℕ) → times x u.methods ≤ 1
  pub closed : (m c : MethodId) → IsIn m u.methods → IsIn c (row_of u.rows m) → IsIn c u.methods
  pub falls : (m c : MethodId) → IsIn c (row_of u.rows m) → rank c.0 < rank m.0

-- there is a worker, and the rows have ranks
pub record IsSetup (u : Setup) : Type 0 where
  pub some : 0 < u.workers
  pub rank : ℕ → ℕ
  pub ranked : Ranked u rank
