-- A contract of a public call rests on this: what one operation does, that is the variables and the stack after it,
-- its records and its wobbly paths.
use Rattle.std.specs.Prelude.{ℕ, Bool, true, false, List, [], ◌∷◌, ◌++◌, Option, None, Some, take, drop, reverse}
use Rattle.std.specs.Prelude.{slice_index_or, slice_set, if◌then◌else◌}
use Rattle.racer_base.specs.declared.ids.FieldId.{FieldId}
use Rattle.racer_base.specs.declared.ids.MethodId.{MethodId}
use Rattle.racer_base.specs.declared.ids.SiteId.{SiteId}
use Rattle.racer_base.specs.declared.ids.Touch.{Touch}
use Rattle.racer_base.specs.declared.ids.Touch.TheVariants.{Read, Write}
use Rattle.core_code.specs.declared.code.Op.{Op as CoreOp}
use Rattle.core_code.specs.declared.code.Op.TheVariants.{Push, PushClass, PushPrim, PushNull, New, Dup, Drop, Get, Put}
use Rattle.core_code.specs.declared.code.Op.TheVariants.{Set, Prim, Outside, Call, Unread, Ret, Throw}
use Rattle.access_paths.specs.declared.path.Root.TheVariants.{Class}
use Rattle.access_paths.specs.declared.path.Path.{Path}
use Rattle.access_paths.specs.Paths.{alone}
use Rattle.owner_domain.specs.declared.value.Value.{Value}
use Rattle.owner_domain.specs.declared.value.Value.TheVariants.{Owned, Named, Unnamed}
use Rattle.owner_domain.specs.declared.value.State.{State}
use Rattle.owner_domain.specs.Values.{names_of, field_value}
use Rattle.access_domain.specs.declared.access.Access.{Access}
use Rattle.access_domain.specs.Findings.{Findings, Known, Large, Whole}
use Rattle.access_domain.specs.FlowContext.{FlowContext}
use Rattle.access_domain.specs.Substitution.{touched, actuals_from, substituted}

-- what a flow gives: the state at its end or none, its records in order, its wobbly paths, the join of the returned
-- values, and whether it reached a call of a large method
pub record Effects : Type 0 where
  pub next : Option State
  pub records : List Access
  pub wobbly : List Path
  pub result : Option Value
  pub large : Bool

-- the stack's top stands first
abbrev pub slot_of : State → ℕ → Value
slot_of s n = slice_index_or s.stack n Unnamed

abbrev pub top : State → Value
top s = slot_of s 0

abbrev pub pushed : State → Value → State
pushed s v = record { vars = s.vars; stack = v ∷ s.stack }

abbrev pub popped : State → ℕ → State
popped s n = record { vars = s.vars; stack = drop n s.stack }

-- so many values popped, and then one pushed
abbrev pub replaced : State → ℕ → Value → State
replaced s n v = pushed (popped s n) v

-- goes on in this state, with nothing else
abbrev pub goes_on : State → Effects
goes_on s = record { next = Some s; records = []; wobbly = []; result = None; large = false }

-- the record of a read or write of field f of a value; volatile and final fields give none
abbrev pub record_of : FlowContext → Touch → Bool → SiteId → Value → FieldId → List Access
record_of g kind locked site base f =
    if g.is_recorded f
    then (elim (touched g base f) [
      | None ↦ []
      | Some p ↦ record { path = p; kind = kind; locked = locked; main = g.main; site = site; below = None } ∷ []
    ])
    else []

-- what a read of field f of a value gives: nothing is known of a plain value
abbrev pub read_value : FlowContext → Value → FieldId → Value
read_value g base f = if g.is_plain_field f then Unnamed else field_value base f

-- a store to field f of this base makes the field's path wobbly, and that of the value which it stores
abbrev pub stored_paths : Value → FieldId → Value → List Path
stored_paths base f value = names_of (field_value base f) ++ names_of value

-- a call of a method that nothing is known of
abbrev pub unread : State → ℕ → Effects
unread s n = goes_on (replaced s n Unnamed)

-- the values that a call passes, in order
abbrev pub passed_from : State → ℕ → List Value
passed_from s n = reverse (take n s.stack)

-- a call that adds what is found of the callee, in the caller's values
abbrev pub found_effects : Findings → State → ℕ → Effects
found_effects found s n =
    record {
      next = Some (replaced s n found.result);
      records = found.records;
      wobbly = found.wobbly;
      result = None;
      large = false;
    }

abbrev pub call_effects : FlowContext → Bool → SiteId → MethodId → ℕ → State → Option Known → Effects
call_effects g locked site m n s None = unread s n
call_effects g locked site m n s (Some Large) = record (unread s n) { large = true }
call_effects g locked site m n s (Some (Whole found)) =
    found_effects (substituted g (actuals_from (g.is_static m) (passed_from s n)) found locked site) s n

abbrev pub op_effects : FlowContext → Bool → SiteId → CoreOp → State → Effects
op_effects g locked site (Push v) s = goes_on (pushed s (slice_index_or s.vars v.0 Unnamed))
op_effects g locked site (PushClass c) s = goes_on (pushed s (Named (alone (Class c))))
op_effects g locked site PushPrim s = goes_on (pushed s Unnamed)
op_effects g locked site PushNull s = goes_on (pushed s Owned)
op_effects g locked site (New c) s = goes_on (pushed s Owned)
op_effects g locked site Dup s = goes_on (pushed s (top s))
op_effects g locked site Drop s = goes_on (popped s 1)
op_effects g locked site (Get f) s =
    record (goes_on (replaced s 1 (read_value g (top s) f))) { records = record_of g Read locked site (top s) f }
op_effects g locked site (Put f) s =
    record (goes_on (replaced s 2 (top s))) {
      records = record_of g Write locked site (slot_of s 1) f;
      wobbly = stored_paths (slot_of s 1) f (top s);
    }
op_effects g locked site (Set v) s = goes_on (record { vars = slice_set s.vars v.0 (top s); stack = s.stack })
op_effects g locked site (Prim n) s = goes_on (replaced s n Unnamed)
op_effects g locked site (Outside n) s = goes_on (replaced s n Unnamed)
op_effects g locked site (Call m n) s = call_effects g locked site m n s (g.known_of m)
op_effects g locked site (Unread m n) s = unread s n
op_effects g locked site Ret s =
    record { next = None; records = []; wobbly = []; result = Some (top s); large = false }
op_effects g locked site Throw s = record { next = None; records = []; wobbly = []; result = None; large = false }
