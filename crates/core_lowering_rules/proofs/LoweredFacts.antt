-- A fact of lowered code: what is needed of it so that it holds of all that is lowered. It is told of the code under
-- other statuses and of the code, so that it may compare them.
use Rattle.std.proofs.Common.{◌≡◌, ℕ, Bool, true, false, cond, ◌&&◌, List, [], ◌∷◌, ◌++◌, Some, subst}
use Rattle.std.proofs.Common.{ap, append-nil, slice_get}
use Rattle.std.specs.List.{list_all}
use Rattle.racer_base.specs.declared.ids.VarId.{VarId}
use Rattle.racer_base.specs.declared.ids.ClassId.{ClassId}
use Rattle.racer_base.specs.declared.ids.FieldId.{FieldId}
use Rattle.racer_base.specs.declared.ids.MethodId.{MethodId}
use Rattle.racer_base.specs.declared.ids.Kind.{Kind}
use Rattle.racer_base.specs.declared.ids.Kind.TheVariants as types
use Rattle.racer_base.specs.declared.ids.Place.{Place}
use Rattle.java_tree.specs.Trees.{Ty}
use Rattle.java_resolver.specs.declared.infos.FieldInfo.{FieldInfo}
use Rattle.java_resolver.specs.declared.infos.MethodInfo.{MethodInfo}
use Rattle.java_resolver.specs.TypeKinds.{class_seen, kind_of}
use Rattle.java_resolver.specs.Declarations.{class_names}
use Rattle.core_code.specs.declared.code.LockKind.{LockKind}
use Rattle.core_code.specs.declared.code.Op.{Op as CoreOp}
use Rattle.core_code.specs.declared.code.Op.TheVariants.{Push, PushClass, PushPrim, PushNull, New, Dup, Drop, Get, Put}
use Rattle.core_code.specs.declared.code.Op.TheVariants.{Set, Prim, Outside, Call, Unread, Ret, Throw}
use Rattle.core_code.specs.Recursion.{named_by}
use Rattle.core_code.specs.Tree.{Tree, can_end, in_sequence}
use Rattle.core_code.specs.Tree as tree
use Rattle.core_lowering_drafts.specs.Drafts.{Part, Leave, Within, Never, Ending, Behind, in_order, Ends, Normal}
use Rattle.core_lowering_drafts.specs.Drafts.{Exit, has, is_same, op_end}
use Rattle.core_lowering_rules.specs.Context.{Context, Folder, Code, ends_of, op_at, choice, repeated, held}
use Rattle.core_lowering_drafts.specs.Sites.{lock_at}
use Rattle.core_lowering_rules.specs.Context.{within, ending, guarded, made}
use Rattle.core_lowering_rules.proofs.FoundElements.{Each}

-- which places and numbers may stand in code
pub record Tests : Type 0 where
  pub is_place : Place → Bool
  pub is_class : ClassId → Bool
  pub is_method : MethodId → Bool
  pub is_kind : Kind → Bool
  pub of_kind : (c : ClassId) → is_kind (types.Declared c) ≡ true → is_class c ≡ true

-- the class or the method that an operation names
abbrev pub is_named : (ClassId → Bool) → (MethodId → Bool) → CoreOp → Bool
is_named is_class is_method (PushClass c) = is_class c
is_named is_class is_method (New c) = is_class c
is_named is_class is_method (Unread m n) = is_method m
is_named is_class is_method (Push v) = true
is_named is_class is_method PushPrim = true
is_named is_class is_method PushNull = true
is_named is_class is_method Dup = true
is_named is_class is_method Drop = true
is_named is_class is_method (Get f) = true
is_named is_class is_method (Put f) = true
is_named is_class is_method (Set v) = true
is_named is_class is_method (Prim n) = true
is_named is_class is_method (Outside n) = true
is_named is_class is_method (Call m n) = true
is_named is_class is_method Ret = true
is_named is_class is_method Throw = true

-- the same of an operation behind which the code goes on
abbrev pub is_value : (ClassId → Bool) → (MethodId → Bool) → CoreOp → Bool
is_value is_class is_method o = is_same Normal (op_end o) && is_named is_class is_method o

-- what a folder has may stand there
pub record GroundedFolder (t : Tests) (folder : Folder) : Type 0 where
  pub fields : (f : FieldId) (info : FieldInfo) → slice_get folder.fields f.0 ≡ Some info →
      t.is_class info.class ≡ true
  pub methods : (m : MethodId) (info : MethodInfo) → slice_get folder.methods m.0 ≡ Some info → t.is_method m ≡ true
  pub named : (hidden : List (List ℕ)) (name : List ℕ) (c : ClassId) →
      class_seen hidden (class_names folder.classes) name ≡ Some c → t.is_class c ≡ true
  pub types : (hidden : List (List ℕ)) (ty : Ty) → t.is_kind (kind_of hidden (class_names folder.classes) ty) ≡ true

-- the same of the method of some code
pub record Grounded (t : Tests) (context : Context) : Type 0 where
  pub known : GroundedFolder t context.folder
  pub here : t.is_place context.place ≡ true
  pub class : t.is_class context.scope.class ≡ true
  pub given : t.is_kind context.given ≡ true
  pub kinds : Each (λ k. t.is_kind k ≡ true) context.kinds

-- What is needed. Of values: nothing, code after code, a choice, an operation, a call that is read or not; and an
-- operation that names no method may be missing on either side. Of drafts, which have the same ends: nothing, code
-- after code, an operation, a value before a draft that begins with a part, and each of the other forms. Of core code:
-- nothing, code after code, the code of a draft, and a lock.
pub record Fact : Type 1 where
  pub tests : Tests
  pub Holds : Code → Code → Type 0
  pub nothing : Holds [] []
  pub followed : (a b c d : Code) → Holds a c → Holds b d → Holds (a ++ b) (c ++ d)
  pub chosen : (a b c d : Code) → Holds a c → Holds b d → Holds (choice a b) (choice c d)
  pub single : (p : Place) (o : CoreOp) → tests.is_place p ≡ true →
      is_value tests.is_class tests.is_method o ≡ true → Holds (op_at p o) (op_at p o)
  pub called : (p : Place) (m : MethodId) (j k : ℕ) (a b : Bool) → tests.is_place p ≡ true →
      tests.is_method m ≡ true →
      Holds (op_at p (cond a (Call m j) (Unread m j))) (op_at p (cond b (Call m k) (Unread m k)))
  pub missing : (p : Place) (o : CoreOp) → tests.is_place p ≡ true →
      is_value tests.is_class tests.is_method o ≡ true → named_by o ≡ [] → Holds [] (op_at p o)
  pub added : (p : Place) (o : CoreOp) → tests.is_place p ≡ true →
      is_value tests.is_class tests.is_method o ≡ true → named_by o ≡ [] → Holds (op_at p o) []
  pub Stands : Code → Code → Type 0
  pub same_ends : (a c : Code) → Stands a c → ends_of a ≡ ends_of c
  pub none : Stands [] []
  pub in_turn : (a b c d : Code) → Stands a c → Stands b d → Stands (a ++ b) (c ++ d)
  pub done : (p : Place) (o : CoreOp) → tests.is_place p ≡ true →
      is_named tests.is_class tests.is_method o ≡ true → Stands (op_at p o) (op_at p o)
  pub behind : (a c : Code) → Holds a c → (p q : Part) (b d : Code) → Stands (p ∷ b) (q ∷ d) →
      Stands (a ++ (p ∷ b)) (c ++ (q ∷ d))
  pub forked : (a b c d : Code) → Stands a c → Stands b d → Stands (choice a b) (choice c d)
  pub looped : (a c : Code) → Stands a c → Stands (repeated a) (repeated c)
  pub locked : (k : LockKind) (p : Place) (a c : Code) → tests.is_place p ≡ true → Stands a c →
      Stands (held k p a) (held k p c)
  pub left : (k : ℕ) → Stands (Leave k ∷ []) (Leave k ∷ [])
  pub never : Stands (Never ∷ []) (Never ∷ [])
  pub inside : (k : ℕ) (a c : Code) → Stands a c → Stands (Within k (in_order a) ∷ []) (Within k (in_order c) ∷ [])
  pub cleared : (p : Place) (vs : List VarId) (a c : Code) → tests.is_place p ≡ true → Stands a c →
      Stands (Ending (in_order a) p vs ∷ []) (Ending (in_order c) p vs ∷ [])
  pub finally : (k : ℕ) (a b c d e g : Code) → Stands a d → Stands b e → Stands c g →
      Stands (Behind (in_order a) (in_order b) k (in_order c) ∷ [])
      (Behind (in_order d) (in_order e) k (in_order g) ∷ [])
  pub Made : List Tree → List Tree → Type 0
  pub made_nothing : Made [] []
  pub made_in_turn : (a b c d : List Tree) → Made a c → Made b d → Made (a ++ b) (c ++ d)
  pub making : (a c : Code) → Stands a c → Made (made a) (made c)
  pub made_locked : (k : LockKind) (p : Place) (a c : List Tree) → tests.is_place p ≡ true → Made a c →
      Made (tree.Sync (lock_at k p) (in_sequence a) ∷ []) (tree.Sync (lock_at k p) (in_sequence c) ∷ [])
  pub same_end : (a c : List Tree) → Made a c → can_end (in_sequence a) ≡ can_end (in_sequence c)

module _ (f : Fact) where
  -- ---- values

  pub joined : {a b c d : Code} → f.Holds a c → f.Holds b d → f.Holds (a ++ b) (c ++ d)
  joined {a} {b} {c} {d} p q = f.followed a b c d p q

  pub joined_3 : {a b c p q r : Code} → f.Holds a p → f.Holds b q → f.Holds c r → f.Holds (a ++ b ++ c) (p ++ q ++ r)
  joined_3 x y z = joined (joined x y) z

  pub joined_4 : {a b c d p q r s : Code} → f.Holds a p → f.Holds b q → f.Holds c r → f.Holds d s →
      f.Holds (a ++ b ++ c ++ d) (p ++ q ++ r ++ s)
  joined_4 x y z w = joined (joined_3 x y z) w

  pub either : {a b c d : Code} → f.Holds a c → f.Holds b d → f.Holds (choice a b) (choice c d)
  either {a} {b} {c} {d} p q = f.chosen a b c d p q

  pub by_test : {a b c d : Code} (test : Bool) → f.Holds a c → f.Holds b d →
      f.Holds (cond test a b) (cond test c d)
  by_test true p q = p
  by_test false p q = q

  -- with more behind it on one side
  pub longer : {a c d : Code} → f.Holds a c → f.Holds [] d → f.Holds a (c ++ d)
  longer {a} {c} {d} p q = subst (λ (x : Code). f.Holds x (c ++ d)) (append-nil a) (f.followed a [] c d p q)

  pub shorter : {a b c : Code} → f.Holds a c → f.Holds b [] → f.Holds (a ++ b) c
  shorter {a} {b} {c} p q = subst (λ (x : Code). f.Holds (a ++ b) x) (append-nil c) (f.followed a b c [] p q)

  -- ---- drafts

  pub follows : {a b c d : Code} → f.Stands a c → f.Stands b d → f.Stands (a ++ b) (c ++ d)
  follows {a} {b} {c} {d} p q = f.in_turn a b c d p q

  pub follows_3 : {a b c p q r : Code} → f.Stands a p → f.Stands b q → f.Stands c r →
      f.Stands (a ++ b ++ c) (p ++ q ++ r)
  follows_3 x y z = follows (follows x y) z

  pub branches : {a b c d : Code} → f.Stands a c → f.Stands b d → f.Stands (choice a b) (choice c d)
  branches {a} {b} {c} {d} p q = f.forked a b c d p q

  pub again_and_again : {a c : Code} → f.Stands a c → f.Stands (repeated a) (repeated c)
  again_and_again {a} {c} p = f.looped a c p

  pub under : {a c : Code} (kind : LockKind) (place : Place) → f.tests.is_place place ≡ true → f.Stands a c →
      f.Stands (held kind place a) (held kind place c)
  under {a} {c} kind place there p = f.locked kind place a c there p

  -- by a test of both that says the same
  pub by_tests : {a b c d : Code} (s t : Bool) → s ≡ t → f.Stands a c → f.Stands b d →
      f.Stands (cond s a b) (cond t c d)
  by_tests true true e p q = p
  by_tests true false e p q = absurd cc
  by_tests false true e p q = absurd cc
  by_tests false false e p q = q

  pub within_exit : {a c : Code} (j k : ℕ) → j ≡ k → f.Stands a c → f.Stands (within j a) (within k c)
  within_exit {a} {c} j k e p =
      subst (λ (i : ℕ). f.Stands (within j a) (within i c)) e
      (by_tests (has (ends_of a) (Exit j)) (has (ends_of c) (Exit j))
      (ap (λ (es : Ends). has es (Exit j)) (f.same_ends a c p)) (f.inside j a c p) p)

  pub ends_null : {a c : Code} (place : Place) (vs : List VarId) → f.tests.is_place place ≡ true → f.Stands a c →
      f.Stands (ending place vs a) (ending place vs c)
  ends_null place [] there p = p
  ends_null {a} {c} place (v ∷ vs) there p = f.cleared place (v ∷ vs) a c there p

  pub guarded_by : {a b c d e g : Code} (j k : ℕ) → j ≡ k → f.Stands a d → f.Stands b e → f.Stands c g →
      f.Stands (guarded j a b c) (guarded k d e g)
  guarded_by {a} {b} {c} {d} {e} {g} j k is p q r =
      subst (λ (i : ℕ). f.Stands (guarded j a b c) (guarded i d e g)) is
      (by_tests (list_all (is_same Normal) (ends_of a)) (list_all (is_same Normal) (ends_of d))
      (ap (λ (es : Ends). list_all (is_same Normal) es) (f.same_ends a d p)) (follows p q)
      (f.finally j a b c d e g p q r))

  -- ---- core code

  pub made_then : {a b c d : List Tree} → f.Made a c → f.Made b d → f.Made (a ++ b) (c ++ d)
  made_then {a} {b} {c} {d} p q = f.made_in_turn a b c d p q

  pub made_by_tests : {a b c d : List Tree} (s t : Bool) → s ≡ t → f.Made a c → f.Made b d →
      f.Made (cond s a b) (cond t c d)
  made_by_tests true true e p q = p
  made_by_tests true false e p q = absurd cc
  made_by_tests false true e p q = absurd cc
  made_by_tests false false e p q = q
