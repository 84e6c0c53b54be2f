-- No public contract rests on this: what other threads may call, given the classes alone.
use Rattle.std.specs.Prelude.{Bool, false, not, ◌&&◌, List, Option, Some, None, is_none, slice_get}
use Rattle.racer_base.specs.declared.ids.ClassId.{ClassId}
use Rattle.java_resolver.specs.declared.infos.ClassInfo.{ClassInfo}
use Rattle.java_resolver.specs.declared.infos.MethodInfo.{MethodInfo}
use Rattle.core_code.specs.declared.code.Reason.{Reason}

abbrev pub is_checked_in : List ClassInfo → ClassId → Bool
is_checked_in classes c = elim (slice_get classes c.0) [ None ↦ false | Some class ↦ class.checked ]

abbrev pub is_entry_in : List ClassInfo → MethodInfo → Option Reason → Bool
is_entry_in classes m status =
    is_none status && is_checked_in classes m.class && not m.is_private && not m.is_constructor
    && not m.not_thread_safe
