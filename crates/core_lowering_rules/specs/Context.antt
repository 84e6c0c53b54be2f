-- A contract of a public call rests on this: what an expression or a statement stands in, and operations there.
use Rattle.std.specs.Prelude.{ℕ, Bool, false, List, [], ◌∷◌, ◌++◌, Option, Some, None, if◌then◌else◌, is_none}
use Rattle.std.specs.Prelude.{slice_get}
use Rattle.std.specs.List.{list_all}
use Rattle.container_cells.specs.declared.cell.Cell.{Cell}
use Rattle.racer_base.specs.declared.ids.VarId.{VarId}
use Rattle.racer_base.specs.declared.ids.MethodId.{MethodId}
use Rattle.racer_base.specs.declared.ids.Kind.{Kind}
use Rattle.racer_base.specs.declared.ids.Place.{Place}
use Rattle.java_tree.specs.declared.words.Ident.{Ident}
use Rattle.java_tree.specs.Trees.{Ty}
use Rattle.java_resolver.specs.declared.infos.ClassInfo.{ClassInfo}
use Rattle.java_resolver.specs.declared.infos.FieldInfo.{FieldInfo}
use Rattle.java_resolver.specs.declared.infos.MethodInfo.{MethodInfo}
use Rattle.java_resolver.specs.declared.scope.Scope.{Scope}
use Rattle.java_resolver.specs.declared.scope.Meaning.{Meaning}
use Rattle.java_resolver.specs.declared.scope.VariableKind.{VariableKind}
use Rattle.java_resolver.specs.Declarations.{class_names}
use Rattle.java_resolver.specs.Meanings.{meaning}
use Rattle.java_resolver.specs.TypeKinds.{kind_of, variable_kind}
use Rattle.core_code.specs.declared.code.Op.{Op as CoreOp}
use Rattle.core_code.specs.declared.code.Op.TheVariants.{Push, PushClass, Outside}
use Rattle.core_code.specs.declared.code.Reason.{Reason}
use Rattle.core_code.specs.declared.code.LockKind.{LockKind}
use Rattle.core_code.specs.Tree.{Tree}
use Rattle.core_lowering_drafts.specs.Drafts.{Part, Op, Choice, Loop, Sync, Within, Ending, Behind, in_order}
use Rattle.core_lowering_drafts.specs.Drafts.{Normal, Exit, Ends, ends, has, is_same}
use Rattle.core_lowering_drafts.specs.Only as draft
use Rattle.core_lowering_drafts.specs.Sites.{lock_at}
use Rattle.core_lowering_rules.specs.ValueKinds.{ValueKind, is_converted}

-- ---- what code stands in

-- what the folder declares, the cell of each field that is a container, and why methods are not analysed
pub record Folder : Type 0 where
  pub classes : List ClassInfo
  pub fields : List FieldInfo
  pub cells : List (Option Cell)
  pub methods : List MethodInfo
  pub statuses : List (Option Reason)

-- what a method gives to its caller: a constructor its object, another nothing, or a value of a kind
pub data Result : Type 0 where
  Itself : Result
  Nothing : Result
  Value : Kind → Result

-- a statement that jumps lead behind: the labels of a loop, or the label of another statement; the exit of `break`, and
-- of a loop that of `continue`; whether a `break` without a name leads there
pub record Target : Type 0 where
  pub labels : List (List ℕ)
  pub break_to : ℕ
  pub continue_to : Option ℕ
  pub is_unnamed : Bool

-- a `try` with a `finally` round what stands in its first part: the exit of returns there, and the variable of what is
-- returned, where a return was there
pub record Guard : Type 0 where
  pub exit : ℕ
  pub variable : Option VarId

-- the folder; of the method its place, what it gives and the kind of that; the variables in scope; the kinds of all
-- variables so far; how many exits are open; the labels of the statement that comes; where jumps and returns lead, the
-- innermost first; whether a `finally` so far unlocks what is not locked before its `try` by a lock field; and whether
-- a jump so far has no target, or a resource is closed by a method of the folder
pub record Context : Type 0 where
  pub folder : Folder
  pub place : Place
  pub result : Result
  pub given : Kind
  pub scope : Scope
  pub kinds : List Kind
  pub exits : ℕ
  pub labels : List (List ℕ)
  pub targets : List Target
  pub guards : List Guard
  pub other_lock : Bool
  pub is_apart : Bool

-- the kind of a type that is written there
abbrev pub type_kind : Context → Ty → Kind
type_kind context t = kind_of context.scope.hidden (class_names context.folder.classes) t

-- what is known of a variable of this type with so many `[ ]` behind its name
abbrev pub variable_kind_in : Context → Ty → (further : ℕ) → VariableKind
variable_kind_in context t further =
    variable_kind context.scope.hidden (class_names context.folder.classes) t further

-- what a simple name means there (JLS 6.5)
abbrev pub meaning_of : Context → Ident → Meaning
meaning_of context x = meaning context.folder.classes context.folder.fields context.scope x.text

abbrev pub is_analysed : Context → MethodId → Bool
is_analysed context m = elim (slice_get context.folder.statuses m.0) [ None ↦ false | Some status ↦ is_none status ]

-- ---- code

-- parts in reading order
abbrev pub Code : Type 0
Code = List Part

abbrev pub ends_of : Code → Ends
ends_of parts = ends (in_order parts)

abbrev pub op_at : Place → CoreOp → Code
op_at place op = Op place op ∷ []

-- at the place of the method
abbrev pub op : Context → CoreOp → Code
op context o = op_at context.place o

abbrev pub choice : Code → Code → Code
choice left right = Choice (in_order left) (in_order right) ∷ []

abbrev pub repeated : Code → Code
repeated body = Loop (in_order body) ∷ []

-- once at least
abbrev pub again : Code → Code
again body = body ++ repeated body

abbrev pub held : LockKind → Place → Code → Code
held kind place body = Sync (lock_at kind place) (in_order body) ∷ []

-- what is left for the exit comes out behind
abbrev pub within : ℕ → Code → Code
within exit body = if has (ends_of body) (Exit exit) then Within exit (in_order body) ∷ [] else body

-- behind it these variables are null
abbrev pub ending : Place → List VarId → Code → Code
ending place [] body = body
ending place (v ∷ vs) body = Ending (in_order body) place (v ∷ vs) ∷ []

-- a body with a `finally`, and what is done last where the body was left for the exit
abbrev pub guarded : ℕ → (body finally last : Code) → Code
guarded exit body finally last =
    if list_all (is_same Normal) (ends_of body) then body ++ finally
    else Behind (in_order body) (in_order finally) exit (in_order last) ∷ []

-- the core code of parts from which no exit leads
abbrev pub made : Code → List Tree
made parts = draft.code_of (in_order parts)

-- what a value of this kind goes through on its way to a kind
abbrev pub converted : Context → Kind → ValueKind → Code
converted context kind given = if is_converted kind given then op context (Outside 1) else []

abbrev pub push_this : Context → Code
push_this context = op context (Push (record { 0 = 0 }))

abbrev pub push_own_class : Context → Code
push_own_class context = op context (PushClass context.scope.class)

-- `this` of an instance method, the class of a static one
abbrev pub push_owner : Context → Code
push_owner context = if context.scope.is_static then push_own_class context else push_this context
