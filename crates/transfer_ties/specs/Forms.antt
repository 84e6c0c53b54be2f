-- A contract of a public call rests on this: when a method of an older program and one of a newer have one form. Sites
-- count, and places do not.
use Rattle.std.specs.Prelude.{Bool, true, false, ◌&&◌, List, nat_eq}
use Rattle.std.specs.Cmp.Lexicographic.{pointwise}
use Rattle.racer_base.specs.declared.ids.Kind.{Kind}
use Rattle.racer_base.specs.declared.ids.MethodId.{MethodId}
use Rattle.core_code.specs.declared.code.LockKind.{LockKind}
use Rattle.core_code.specs.declared.code.LockKind.TheVariants.{Own, Explicit}
use Rattle.core_code.specs.declared.code.Op.{Op as CoreOp}
use Rattle.core_code.specs.declared.code.Op.TheVariants.{Push, PushClass, PushPrim, PushNull, New, Dup, Drop, Get, Put}
use Rattle.core_code.specs.declared.code.Op.TheVariants.{Set, Prim, Outside, Call, Unread, Ret, Throw}
use Rattle.core_code.specs.Calls.{method_at}
use Rattle.core_code.specs.Core.{Core, Method}
use Rattle.core_code.specs.Tree.{Tree, Op, Skip, Seq, Choice, Loop, Sync}
use Rattle.access_domain.specs.Records.{same_flag}
use Rattle.transfer_ties.specs.Ties.{both, ties_classes, ties_kinds, ties_fields, ties_callees, same_signature}

abbrev pub same_lock : LockKind → LockKind → Bool
same_lock Own Own = true
same_lock Explicit Explicit = true
same_lock _ _ = false

abbrev pub same_op : Core → Core → CoreOp → CoreOp → Bool
same_op p q (Push v) (Push w) = nat_eq v.0 w.0
same_op p q (PushClass c) (PushClass d) = ties_classes p q c d
same_op p q PushPrim PushPrim = true
same_op p q PushNull PushNull = true
same_op p q (New c) (New d) = ties_classes p q c d
same_op p q Dup Dup = true
same_op p q Drop Drop = true
same_op p q (Get f) (Get g) = ties_fields p q f g
same_op p q (Put f) (Put g) = ties_fields p q f g
same_op p q (Set v) (Set w) = nat_eq v.0 w.0
same_op p q (Prim k) (Prim l) = nat_eq k l
same_op p q (Outside k) (Outside l) = nat_eq k l
same_op p q (Call m k) (Call n l) = ties_callees p q m n && nat_eq k l
same_op p q (Unread m k) (Unread n l) = ties_callees p q m n && nat_eq k l
same_op p q Ret Ret = true
same_op p q Throw Throw = true
same_op p q _ _ = false

abbrev pub same_code : Core → Core → Tree → Tree → Bool
same_code p q (Op site place op) (Op other elsewhere more) = nat_eq site.0 other.0 && same_op p q op more
same_code p q Skip Skip = true
same_code p q (Seq first rest) (Seq other others) = same_code p q first other && same_code p q rest others
same_code p q (Choice left right) (Choice other more) = same_code p q left other && same_code p q right more
same_code p q (Loop body) (Loop other) = same_code p q body other
same_code p q (Sync lock body) (Sync held other) = same_lock lock.kind held.kind && same_code p q body other
same_code p q _ _ = false

abbrev pub same_kinds : Core → Core → List Kind → List Kind → Bool
same_kinds p q = pointwise (ties_kinds p q)

-- two methods have one class and one name, what they take and give is of the same kinds, and so is their code
abbrev pub same_form : Core → Core → Method → Method → Bool
same_form p q a b =
    same_signature p q a b && same_kinds p q a.parameters b.parameters && ties_kinds p q a.result b.result
    && same_kinds p q a.variables b.variables && same_flag a.is_static b.is_static && same_flag a.main b.main
    && same_code p q a.code b.code

abbrev pub ties_forms : Core → Core → MethodId → MethodId → Bool
ties_forms p q m n = both (same_form p q) (method_at p m) (method_at q n)
