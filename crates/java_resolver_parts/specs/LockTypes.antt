-- A contract of a public call rests on this: the types of explicit locks.
use Rattle.std.specs.Prelude.{Bool, true, false, ◌&&◌, ◌||◌, bytes_eq, codes, ◌==◌}
use Rattle.racer_base.specs.declared.ids.Kind.{Kind}
use Rattle.racer_base.specs.declared.ids.Kind.TheVariants as kind
use Rattle.java_tree.specs.Trees.{Ty, Typed, Named, Parts, no_part, part_then, Part, Bare}

-- neither a primitive type nor a class of the folder
abbrev pub is_other : Kind → Bool
is_other kind.Other = true
is_other _ = false

abbrev pub is_lock_part : Part → Bool
is_lock_part (Bare name) = bytes_eq name (codes "Lock") || bytes_eq name (codes "ReentrantLock")
is_lock_part _ = false

abbrev pub is_bare : Part → Bool
is_bare (Bare name) = true
is_bare _ = false

-- names without arguments, of which the last is `Lock` or `ReentrantLock`
abbrev pub are_lock_parts : Parts → Bool
are_lock_parts no_part = false
are_lock_parts (part_then part no_part) = is_lock_part part
are_lock_parts (part_then part parts) = is_bare part && are_lock_parts parts

abbrev pub is_lock_type : Ty → Bool
is_lock_type (Typed (Named parts) arrays) = arrays == 0 && are_lock_parts parts
is_lock_type _ = false
