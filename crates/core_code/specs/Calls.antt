-- A contract of a public call rests on this: what a method takes, which methods its code calls, ranks, and tables by
-- rank.
use Rattle.std.specs.Prelude.{ℕ, zero, suc, max, Bool, false, List, [], ◌∷◌, Option, None, Some, map, length, slice_get}
use Rattle.std.specs.Prelude.{nat_eq, is_none, if◌then◌else◌}
use Rattle.std.specs.List.{flat_map}
use Rattle.racer_base.specs.declared.ids.Kind.{Kind}
use Rattle.racer_base.specs.declared.ids.Kind.TheVariants.{Declared}
use Rattle.racer_base.specs.declared.ids.MethodId.{MethodId}
use Rattle.core_code.specs.declared.code.Op.{Op as CoreOp}
use Rattle.core_code.specs.declared.code.Op.TheVariants.{Call}
use Rattle.core_code.specs.Tree.{Tree, Operation, steps_of}
use Rattle.core_code.specs.Core.{Core, Method}

abbrev pub called_by : CoreOp → List MethodId
called_by (Call m n) = m ∷ []
called_by _ = []

-- the methods that are called, in reading order; those that are not analysed are left out
abbrev pub calls_in : Tree → List MethodId
calls_in code = flat_map (λ (o : Operation). called_by o.op) (steps_of code)

abbrev pub method_at : Core → MethodId → Option Method
method_at core m = slice_get core.methods m.0

-- whether there is such a method and it is analysed
abbrev pub is_analysed : Core → MethodId → Bool
is_analysed core m = elim (method_at core m) [ None ↦ false | Some method ↦ is_none method.status ]

-- the kinds of what a method takes: the receiver of an instance method, and the parameters
abbrev pub taken_by : Method → List Kind
taken_by m = if m.is_static then m.parameters else Declared m.class ∷ m.parameters

abbrev pub calls_of : Core → MethodId → List MethodId
calls_of core m = elim (method_at core m) [ None ↦ [] | Some method ↦ calls_in method.code ]

abbrev pub greatest : List ℕ → ℕ
greatest [] = 0
greatest (n ∷ ns) = max n (greatest ns)

-- how many methods the longest chain of calls from a method has, up to this number
abbrev pub chain_within : ℕ → Core → MethodId → ℕ
chain_within zero core m = 0
chain_within (suc n) core m = suc (greatest (map (chain_within n core) (calls_of core m)))

-- The rank of a method: how many methods the longest chain of calls from it has. Where no chain leads from a
-- method to itself, none has more methods than there are, and each callee's rank is smaller.
abbrev pub rank_of : Core → MethodId → ℕ
rank_of core m = chain_within (length core.methods) core m

-- What is known of the methods of ranks below n, where `step` makes what is known of a method from a table of those
-- that it calls: each rank adds its own methods.
abbrev pub known_below : {X : Type 0} → X → ((MethodId → X) → MethodId → X) → Core → ℕ → MethodId → X
known_below nothing step core zero m = nothing
known_below nothing step core (suc n) m =
    if nat_eq (rank_of core m) n then step (known_below nothing step core n) m else known_below nothing step core n m

-- the table that is closed by rank: what is known of each method, from what is known of those of smaller ranks
abbrev pub closed_by_rank : {X : Type 0} → X → ((MethodId → X) → MethodId → X) → Core → MethodId → X
closed_by_rank nothing step core m = step (known_below nothing step core (rank_of core m)) m
