-- A contract of a public call rests on this: which expressions mean a lock field of the method's own class, or a
-- variable that holds one lock throughout a block.
use Rattle.std.specs.Prelude.{Bool, false, not, ◌&&◌, ◌||◌, Option, Some, None, if◌then◌else◌}
use Rattle.racer_base.specs.declared.ids.FieldId.{FieldId}
use Rattle.java_tree.specs.declared.words.Ident.{Ident}
use Rattle.java_resolver.specs.declared.infos.FieldInfo.{FieldInfo}
use Rattle.java_resolver.specs.declared.scope.Meaning.{Meaning}
use Rattle.java_resolver.specs.declared.scope.ScopeVariable.{ScopeVariable}
use Rattle.java_resolver.specs.declared.scope.Meaning.TheVariants as means
use Rattle.java_resolver.specs.Meanings.{field_named, variable_named}
use Rattle.core_lowering_rules.specs.Trees.{Expr, Stmts, simple_name, own_name}
use Rattle.core_lowering_rules.specs.Sought.{Storing, do_any_stand}
use Rattle.core_lowering_rules.specs.Context.{Context, meaning_of}
use Rattle.core_lowering_rules.specs.Assignments.{field_at}

abbrev pub is_lock_info : Option FieldInfo → Bool
is_lock_info None = false
is_lock_info (Some field) = field.is_lock

abbrev pub is_lock_meant : Context → Meaning → Bool
is_lock_meant context (means.Field f) = is_lock_info (field_at context f)
is_lock_meant context _ = false

-- a variable of a lock type holds the same lock throughout a block in which nothing is stored to it
abbrev pub is_kept_lock : (is_stored : Bool) → ScopeVariable → Bool
is_kept_lock is_stored v = v.is_lock && not is_stored

-- x
abbrev pub is_lock_named : Context → Option Ident → (is_stored : Bool) → Bool
is_lock_named context None is_stored = false
is_lock_named context (Some x) is_stored =
    elim (variable_named context.scope x.text) [
      | Some v ↦ is_kept_lock is_stored v
      | None ↦ is_lock_meant context (meaning_of context x)
    ]

abbrev pub is_lock_field : Context → Option FieldId → Bool
is_lock_field context None = false
is_lock_field context (Some f) = is_lock_info (field_at context f)

-- `this . x`: a static method has no `this`
abbrev pub is_own_lock : Context → Option Ident → Bool
is_own_lock context None = false
is_own_lock context (Some x) =
    if context.scope.is_static then false
    else is_lock_field context (field_named context.folder.fields context.scope.class false x.text)

abbrev pub is_lock : Context → Expr → (is_stored : Bool) → Bool
is_lock context e is_stored = is_lock_named context (simple_name e) is_stored || is_own_lock context (own_name e)

-- whether statements store to the variable that an expression is
abbrev pub is_stored_by : Option Ident → Stmts → Bool
is_stored_by None ss = false
is_stored_by (Some x) ss = do_any_stand (Storing x.text) ss

abbrev pub is_stored_in : Expr → Stmts → Bool
is_stored_in e ss = is_stored_by (simple_name e) ss

-- the first, with what is known of the locks of the second
abbrev pub lock_kept : Context → Context → Context
lock_kept context inside = record context { other_lock = inside.other_lock }

-- behind a locked try that stands behind the lock of e, in whose block something is stored to e or not
abbrev pub lock_noted : Context → Expr → (is_stored : Bool) → Context
lock_noted context e is_stored =
    record context { other_lock = context.other_lock || not (is_lock context e is_stored) }
