-- Methods of one form call tied methods, one behind another.
use Rattle.std.proofs.Common.{◌≡◌, ◌&&◌, ◌++◌, Bool, true, List, [], ◌∷◌, nat_eq, refl, ◌∙◌}
use Rattle.std.proofs.lemmas.Bool.{and_from, and_parts}
use Rattle.std.proofs.lemmas.Grind.{flat_map-append}
use Rattle.std.specs.Cmp.Lexicographic.{pointwise}
use Rattle.std.specs.List.{flat_map}
use Rattle.racer_base.specs.declared.ids.MethodId.{MethodId}
use Rattle.core_code.specs.declared.code.Op.{Op as CoreOp}
use Rattle.core_code.specs.declared.code.Op.TheVariants.{Push, PushClass, PushPrim, PushNull, New, Dup, Drop, Get, Put}
use Rattle.core_code.specs.declared.code.Op.TheVariants.{Set, Prim, Outside, Call, Unread, Ret, Throw}
use Rattle.core_code.specs.Calls.{called_by, calls_in, calls_of, method_at}
use Rattle.core_code.specs.Core.{Core, Method}
use Rattle.core_code.specs.Tree.{Tree, Operation, Op, Skip, Seq, Choice, Loop, Sync, steps_of}
use Rattle.transfer_ties.specs.Forms.{same_code, same_form, same_kinds, same_lock, same_op, ties_forms}
use Rattle.transfer_ties.specs.Ties.{both, same_signature, ties_callees, ties_kinds}
use Rattle.access_domain.specs.Records.{same_flag}
use Rattle.edit_session.proofs.Calling.{calls_are}
use Rattle.edit_session.proofs.Partners.{both_there, both_weaker}

pub pointwise-append : {X Y : Type 0} (same : X → Y → Bool) (xs ys : List X) (zs ws : List Y) →
    pointwise same xs zs ≡ true → pointwise same ys ws ≡ true → pointwise same (xs ++ ys) (zs ++ ws) ≡ true
pointwise-append same [] ys [] ws e f = f
pointwise-append same [] ys (z ∷ zs) ws e f = absurd cc
pointwise-append same (x ∷ xs) ys [] ws e f = absurd cc
pointwise-append same (x ∷ xs) ys (z ∷ zs) ws e f =
    let parts = and_parts (same x z) (pointwise same xs zs) e in
    and_from (same x z) (pointwise same (xs ++ ys) (zs ++ ws)) parts.0
    (pointwise-append same xs ys zs ws parts.1 f)

abbrev called : Operation → List MethodId
called o = called_by o.op

module _ (p q : Core) where
  abbrev tied : List MethodId → List MethodId → Bool
  tied ms ns = pointwise (ties_callees p q) ms ns

  called-tied : (op more : CoreOp) → same_op p q op more ≡ true → tied (called_by op) (called_by more) ≡ true
  called-tied (Push v) (Push w) h = refl
  called-tied (PushClass c) (PushClass d) h = refl
  called-tied PushPrim PushPrim h = refl
  called-tied PushNull PushNull h = refl
  called-tied (New c) (New d) h = refl
  called-tied Dup Dup h = refl
  called-tied Drop Drop h = refl
  called-tied (Get f) (Get g) h = refl
  called-tied (Put f) (Put g) h = refl
  called-tied (Set v) (Set w) h = refl
  called-tied (Prim k) (Prim l) h = refl
  called-tied (Outside k) (Outside l) h = refl
  called-tied (Call m k) (Call n l) h =
      and_from (ties_callees p q m n) true (and_parts (ties_callees p q m n) (nat_eq k l) h).0 refl
  called-tied (Unread m k) (Unread n l) h = refl
  called-tied Ret Ret h = refl
  called-tied Throw Throw h = refl
  called-tied _ _ h = cc

  joined-tied : (a b c d : List Operation) → tied (flat_map called a) (flat_map called c) ≡ true →
      tied (flat_map called b) (flat_map called d) ≡ true →
      tied (flat_map called (a ++ b)) (flat_map called (c ++ d)) ≡ true
  joined-tied a b c d e f =
      (λ i. tied (flat_map-append called a b i) (flat_map-append called c d i))
      ∙ pointwise-append (ties_callees p q) (flat_map called a) (flat_map called b) (flat_map called c)
      (flat_map called d) e f

  code-tied : (c d : Tree) → same_code p q c d ≡ true → tied (calls_in c) (calls_in d) ≡ true
  code-tied (Op site place op) (Op other elsewhere more) h =
      pointwise-append (ties_callees p q) (called_by op) [] (called_by more) []
      (called-tied op more (and_parts (nat_eq site.0 other.0) (same_op p q op more) h).1) refl
  code-tied Skip Skip h = refl
  code-tied (Seq a b) (Seq c d) h =
      let parts = and_parts (same_code p q a c) (same_code p q b d) h in
      joined-tied (steps_of a) (steps_of b) (steps_of c) (steps_of d) (code-tied a c parts.0) (code-tied b d parts.1)
  code-tied (Choice a b) (Choice c d) h =
      let parts = and_parts (same_code p q a c) (same_code p q b d) h in
      joined-tied (steps_of a) (steps_of b) (steps_of c) (steps_of d) (code-tied a c parts.0) (code-tied b d parts.1)
  code-tied (Loop body) (Loop other) h = code-tied body other h
  code-tied (Sync lock body) (Sync held other) h =
      code-tied body other (and_parts (same_lock lock.kind held.kind) (same_code p q body other) h).1
  code-tied _ _ h = cc

  -- a form but for the code
  abbrev head : Method → Method → Bool
  head a b =
      same_signature p q a b && same_kinds p q a.parameters b.parameters && ties_kinds p q a.result b.result
      && same_kinds p q a.variables b.variables && same_flag a.is_static b.is_static && same_flag a.main b.main

  pub calls_tied : (m n : MethodId) → ties_forms p q m n ≡ true → tied (calls_of p m) (calls_of q n) ≡ true
  calls_tied m n h =
      let there = both_there (same_form p q) (method_at p m) (method_at q n) h in
      (λ i. tied (calls_are p m there.old there.old_is i) (calls_are q n there.new there.new_is i))
      ∙ code-tied there.old.code there.new.code
      (and_parts (head there.old there.new) (same_code p q there.old.code there.new.code) there.are_same).1

  signature : (a b : Method) → same_form p q a b ≡ true → same_signature p q a b ≡ true
  signature a b h =
      let all = and_parts (head a b) (same_code p q a.code b.code) h in
      let five = and_parts (same_signature p q a b && same_kinds p q a.parameters b.parameters
      && ties_kinds p q a.result b.result && same_kinds p q a.variables b.variables
      && same_flag a.is_static b.is_static) (same_flag a.main b.main) all.0 in
      let four = and_parts (same_signature p q a b && same_kinds p q a.parameters b.parameters
      && ties_kinds p q a.result b.result && same_kinds p q a.variables b.variables)
      (same_flag a.is_static b.is_static) five.0 in
      let three = and_parts (same_signature p q a b && same_kinds p q a.parameters b.parameters
      && ties_kinds p q a.result b.result) (same_kinds p q a.variables b.variables) four.0 in
      let two = and_parts (same_signature p q a b && same_kinds p q a.parameters b.parameters)
      (ties_kinds p q a.result b.result) three.0 in
      (and_parts (same_signature p q a b) (same_kinds p q a.parameters b.parameters) two.0).0

  pub form_names : (m n : MethodId) → ties_forms p q m n ≡ true →
      both (same_signature p q) (method_at p m) (method_at q n) ≡ true
  form_names m n h = both_weaker (same_form p q) (same_signature p q) (method_at p m) (method_at q n) signature h
