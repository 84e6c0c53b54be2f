-- A way through methods whose operations are all allowed meets no call that is not read.
use Rattle.std.proofs.Common.{◌≡◌, ℕ, zero, suc, Bool, true, false, cond, List, [], ◌∷◌, ◌++◌, Option, None, Some}
use Rattle.std.proofs.Common.{inl, is_none, nat_eq, replicate, refl, sym, ap, subst, ◌∙◌}
use Rattle.racer_base.specs.declared.ids.ClassId.{ClassId}
use Rattle.racer_base.specs.declared.ids.MethodId.{MethodId}
use Rattle.racer_base.specs.declared.ids.Place.{Place}
use Rattle.racer_base.specs.declared.ids.SiteId.{SiteId}
use Rattle.core_code.specs.declared.code.Op.{Op as CoreOp}
use Rattle.core_code.specs.declared.code.Op.TheVariants.{Push, PushClass, PushPrim, PushNull, New, Dup, Drop, Get, Put}
use Rattle.core_code.specs.declared.code.Op.TheVariants.{Set, Prim, Outside, Call, Unread as UnreadCall, Ret, Throw}
use Rattle.core_code.specs.Calls.{closed_by_rank, known_below, method_at, rank_of}
use Rattle.core_code.specs.Core.{Core, Method}
use Rattle.core_code.specs.Tree.{Tree, Op, Skip, Seq, Choice, Loop, Sync, Operation, can_end, can_return, op_at, steps_of}
use Rattle.core_code.proofs.Membership.{In, find_gives, in_left, in_right}
use Rattle.access_domain.specs.declared.access.Access.{Access}
use Rattle.access_domain.specs.OutcomeRecords.{record_at}
use Rattle.core_ways.specs.declared.part.WayPart.{WayPart}
use Rattle.core_ways.specs.declared.part.WayPart.TheVariants.{Step, Branched, Passed, Unread}
use Rattle.core_semantics.specs.declared.answer.Turn.TheVariants.{Left, Right}
use Rattle.core_ways.specs.Ways.{Trip, code_at, entered, goes_past, has_site, passed, passed_op, reached, straight, to_return}
use Rattle.core_ways.specs.Ways.{parts_of, towards, towards_record, trip_along, trip_given, trip_of, way_given, way_of}
use Rattle.core_ways.specs.Ways.{way_parts}
use Rattle.typed_core_laws.specs.TypedValues.{IsAllowed, is_reached}

-- ---- parts of ways

-- no part is a call that is not read, and each method that is passed has this
abbrev AreRead : (MethodId → Type 0) → List WayPart → Type 0
AreRead P [] = Unit {0}
AreRead P (Step ∷ parts) = AreRead P parts
AreRead P (Branched turn ∷ parts) = AreRead P parts
AreRead P (Passed m ∷ parts) = P m × AreRead P parts
AreRead P (Unread place ∷ parts) = ⊥

module _ (P : MethodId → Type 0) where
  read-append : (xs ys : List WayPart) → AreRead P xs → AreRead P ys → AreRead P (xs ++ ys)
  read-append [] ys a b = b
  read-append (Step ∷ xs) ys a b = read-append xs ys a b
  read-append (Branched turn ∷ xs) ys a b = read-append xs ys a b
  read-append (Passed m ∷ xs) ys a b = (a.0, read-append xs ys a.1 b)
  read-append (Unread place ∷ xs) ys a b = absurd a

  read-either : (b : Bool) (xs ys : List WayPart) → AreRead P xs → AreRead P ys → AreRead P (cond b xs ys)
  read-either true xs ys a b = a
  read-either false xs ys a b = b

  read-steps : (n : ℕ) → AreRead P (replicate n Step)
  read-steps zero = tt
  read-steps (suc n) = read-steps n

  -- an operation is no such call, and the method that it calls has this
  abbrev IsRead : CoreOp → Type 0
  IsRead (Call m n) = P m
  IsRead (UnreadCall m n) = ⊥
  IsRead op = Unit {0}

  abbrev AreOpsRead : Tree → Type 0
  AreOpsRead code = (o : Operation) → In (steps_of code) o → IsRead o.op

  early-read : (first rest : Tree) → ((o : Operation) → In (steps_of first ++ steps_of rest) o → IsRead o.op) →
      AreOpsRead first
  early-read first rest all o there = all o (in_left (steps_of first) (steps_of rest) o there)

  late-read : (first rest : Tree) → ((o : Operation) → In (steps_of first ++ steps_of rest) o → IsRead o.op) →
      AreOpsRead rest
  late-read first rest all o there = all o (in_right (steps_of first) (steps_of rest) o there)

  op-read : (locks : ℕ) (place : Place) (op : CoreOp) → IsRead op → AreRead P (passed_op locks place op)
  op-read locks place (Call m n) is = (is, tt)
  op-read locks place (UnreadCall m n) is = absurd is
  op-read locks place Ret is = read-steps (suc locks)
  op-read locks place _ is = tt

  passed-read : (locks : ℕ) (code : Tree) → AreOpsRead code → AreRead P (passed locks code)
  passed-read locks (Op site place op) all =
      op-read locks place op (all (record { site = site; place = place; op = op }) (inl refl))
  passed-read locks Skip all = tt
  passed-read locks (Seq first rest) all =
      read-append (passed locks first) (cond (can_end first) (passed locks rest) [])
      (passed-read locks first (early-read first rest all))
      (read-either (can_end first) (passed locks rest) [] (passed-read locks rest (late-read first rest all)) tt)
  passed-read locks (Choice left right) all =
      read-either (can_end right) (Branched Right ∷ passed locks right) (Branched Left ∷ passed locks left)
      (passed-read locks right (late-read left right all)) (passed-read locks left (early-read left right all))
  passed-read locks (Loop body) all = tt
  passed-read locks (Sync lock body) all =
      read-append (passed (suc locks) body) (cond (can_end body) (Step ∷ []) []) (passed-read (suc locks) body all)
      (read-either (can_end body) (Step ∷ []) [] tt tt)

  back-read : (locks : ℕ) (code : Tree) → AreOpsRead code → AreRead P (to_return locks code)
  back-read locks (Op site place op) all =
      op-read locks place op (all (record { site = site; place = place; op = op }) (inl refl))
  back-read locks Skip all = tt
  back-read locks (Seq first rest) all =
      read-either (goes_past first rest) (passed locks first ++ to_return locks rest) (to_return locks first)
      (read-append (passed locks first) (to_return locks rest) (passed-read locks first (early-read first rest all))
      (back-read locks rest (late-read first rest all)))
      (back-read locks first (early-read first rest all))
  back-read locks (Choice left right) all =
      read-either (can_return left) (Branched Left ∷ to_return locks left) (Branched Right ∷ to_return locks right)
      (back-read locks left (early-read left right all)) (back-read locks right (late-read left right all))
  back-read locks (Loop body) all = back-read locks body all
  back-read locks (Sync lock body) all = back-read (suc locks) body all

  to-read : (locks : ℕ) (site : SiteId) (code : Tree) → AreOpsRead code → AreRead P (reached locks site code)
  to-read locks site (Op at place op) all = tt
  to-read locks site Skip all = tt
  to-read locks site (Seq first rest) all =
      read-either (has_site first site) (reached locks site first) (passed locks first ++ reached locks site rest)
      (to-read locks site first (early-read first rest all))
      (read-append (passed locks first) (reached locks site rest) (passed-read locks first (early-read first rest all))
      (to-read locks site rest (late-read first rest all)))
  to-read locks site (Choice left right) all =
      read-either (has_site left site) (Branched Left ∷ reached locks site left)
      (Branched Right ∷ reached locks site right) (to-read locks site left (early-read left right all))
      (to-read locks site right (late-read left right all))
  to-read locks site (Loop body) all = to-read locks site body all
  to-read locks site (Sync lock body) all = to-read (suc locks) site body all

-- what parts make up that are read
along-read : (trips : MethodId → Trip) (parts : List WayPart) → AreRead (λ m. (trips m).unread ≡ []) parts →
    (trip_along trips parts).unread ≡ []
along-read trips [] h = refl
along-read trips (Step ∷ parts) h = along-read trips parts h
along-read trips (Branched turn ∷ parts) h = along-read trips parts h
along-read trips (Passed m ∷ parts) h =
    ap (λ (ps : List Place). ps ++ (trip_along trips parts).unread) h.0 ∙ along-read trips parts h.1
along-read trips (Unread place ∷ parts) h = absurd h

-- ---- by rank

module _ {X : Type 0} (core : Core) (nothing : X) (step : (MethodId → X) → MethodId → X) (P : MethodId → X → Type 0)
    (none : (m : MethodId) → P m nothing)
    (more : (table : MethodId → X) → ((m : MethodId) → P m (table m)) → (m : MethodId) → P m (step table m)) where
  below-has : (n : ℕ) (m : MethodId) → P m (known_below nothing step core n m)
  below-has zero m = none m
  below-has (suc n) m =
      elim (nat_eq (rank_of core m) n) as (λ b. P m
      (cond b (step (known_below nothing step core n) m) (known_below nothing step core n m))) [
        | true ↦ more (known_below nothing step core n) (λ k. below-has n k) m
        | false ↦ below-has n m
      ]

  closed-has : (m : MethodId) → P m (closed_by_rank nothing step core m)
  closed-has m = more (known_below nothing step core (rank_of core m)) (λ k. below-has (rank_of core m) k) m

module _ (core : Core) (class : ClassId)
    (allowed : (m : MethodId) (method : Method) → is_reached core class m ≡ true → method_at core m ≡ Some method →
    (o : Operation) → In (steps_of method.code) o → IsAllowed core class o.op) where
  -- the operations of a method that is reached are read, where what is reached has this
  ops-read : (P : MethodId → Type 0) → ((n : MethodId) → is_reached core class n ≡ true → P n) → (op : CoreOp) →
      IsAllowed core class op → IsRead P op
  ops-read P each (Call m n) h = each m h.0
  ops-read P each (UnreadCall m n) h = absurd h
  ops-read P each (Push v) h = tt
  ops-read P each (PushClass c) h = tt
  ops-read P each PushPrim h = tt
  ops-read P each PushNull h = tt
  ops-read P each (New c) h = tt
  ops-read P each Dup h = tt
  ops-read P each Drop h = tt
  ops-read P each (Get f) h = tt
  ops-read P each (Put f) h = tt
  ops-read P each (Set v) h = tt
  ops-read P each (Prim n) h = tt
  ops-read P each (Outside n) h = tt
  ops-read P each Ret h = tt
  ops-read P each Throw h = tt

  code-allowed : (m : MethodId) → is_reached core class m ≡ true → (code : Tree) → code_at core m ≡ Some code →
      (o : Operation) → In (steps_of code) o → IsAllowed core class o.op
  code-allowed m is code at =
      (elim (method_at core m) as (λ x. method_at core m ≡ x → (elim x as (λ _. Option Tree) [
        | None ↦ None
        | Some method ↦ cond (is_none method.status) (Some method.code) None
      ]) ≡ Some code → (o : Operation) → In (steps_of code) o → IsAllowed core class o.op) [
        | None ↦ λ there e. absurd cc
        | Some method ↦ λ there e. of-method method there (is_none method.status) e
      ]) refl at
    where
      of-method : (method : Method) → method_at core m ≡ Some method → (b : Bool) →
          cond b (Some method.code) None ≡ Some code → (o : Operation) → In (steps_of code) o →
          IsAllowed core class o.op
      of-method method there true e = λ o among.
          let same : method.code ≡ code = cc in
          allowed m method is there o (subst (λ (c : Tree). In (steps_of c) o) (sym same) among)
      of-method method there false e = absurd cc

  -- what is known of the code of a method that is reached
  module _ (P : MethodId → Type 0) (each : (n : MethodId) → is_reached core class n ≡ true → P n) (m : MethodId)
      (is : is_reached core class m ≡ true) where
    code-read : (code : Tree) → code_at core m ≡ Some code → AreOpsRead P code
    code-read code at = λ o among. ops-read P each o.op (code-allowed m is code at o among)

    parts-read : AreRead P (parts_of core m)
    parts-read =
        (elim (code_at core m) as (λ o. code_at core m ≡ o →
        AreRead P (elim o as (λ _. List WayPart) [ None ↦ [] | Some code ↦ to_return 0 code ])) [
          | None ↦ λ e. tt
          | Some code ↦ λ e. back-read P 0 code (code-read code e)
        ]) refl

  -- passing a method that is reached
  abbrev IsTripRead : MethodId → Trip → Type 0
  IsTripRead m trip = is_reached core class m ≡ true → trip.unread ≡ []

  pub trip-read : (m : MethodId) → IsTripRead m (trip_of core m)
  trip-read =
      closed-has core (straight 0) (trip_given core) IsTripRead (λ m is. refl)
      (λ trips each m is. along-read trips (parts_of core m) (parts-read (λ n. (trips n).unread ≡ []) each m is))

  -- the way to a record of a method that is reached
  abbrev IsPassedRead : MethodId → Type 0
  IsPassedRead n = (trip_of core n).unread ≡ []

  abbrev IsWayRead : MethodId → (ℕ → List WayPart) → Type 0
  IsWayRead m ways = is_reached core class m ≡ true → (i : ℕ) → AreRead IsPassedRead (ways i)

  module _ (ways : MethodId → ℕ → List WayPart) (each : (m : MethodId) → IsWayRead m (ways m)) where
    entered-read : (below : Option ℕ) (op : CoreOp) → IsAllowed core class op →
        AreRead IsPassedRead (entered ways below op)
    entered-read None op h = tt
    entered-read (Some j) (Call m n) h = each m h.0 j
    entered-read (Some j) (UnreadCall m n) h = tt
    entered-read (Some j) (Push v) h = tt
    entered-read (Some j) (PushClass c) h = tt
    entered-read (Some j) PushPrim h = tt
    entered-read (Some j) PushNull h = tt
    entered-read (Some j) (New c) h = tt
    entered-read (Some j) Dup h = tt
    entered-read (Some j) Drop h = tt
    entered-read (Some j) (Get f) h = tt
    entered-read (Some j) (Put f) h = tt
    entered-read (Some j) (Set v) h = tt
    entered-read (Some j) (Prim n) h = tt
    entered-read (Some j) (Outside n) h = tt
    entered-read (Some j) Ret h = tt
    entered-read (Some j) Throw h = tt

    towards-read : (code : Tree) → ((o : Operation) → In (steps_of code) o → IsAllowed core class o.op) →
        AreOpsRead IsPassedRead code → (r : Access) → AreRead IsPassedRead (towards ways code r)
    towards-read code each_allowed all r =
        (elim (op_at code r.site) as (λ o. op_at code r.site ≡ o → AreRead IsPassedRead (elim o as (λ _. List WayPart) [
          | None ↦ []
          | Some x ↦ reached 0 r.site code ++ entered ways r.below x.op
        ])) [
          | None ↦ λ e. tt
          | Some x ↦ λ e.
              read-append IsPassedRead (reached 0 r.site code) (entered ways r.below x.op)
              (to-read IsPassedRead 0 r.site code all)
              (entered-read r.below x.op
              (each_allowed x (find_gives (λ (y : Operation). nat_eq y.site.0 r.site.0) (steps_of code) x e).0))
        ]) refl

    record-read : (m : MethodId) → is_reached core class m ≡ true → (code : Tree) → code_at core m ≡ Some code →
        (o : Option Access) → AreRead IsPassedRead (towards_record ways o code)
    record-read m is code at None = tt
    record-read m is code at (Some r) =
        towards-read code (code-allowed m is code at) (code-read IsPassedRead (λ n k. trip-read n k) m is code at) r

    given-read : (m : MethodId) → IsWayRead m (way_given core ways m)
    given-read m is i =
        (elim (code_at core m) as (λ o. code_at core m ≡ o → AreRead IsPassedRead (elim o as (λ _. List WayPart) [
          | None ↦ []
          | Some code ↦ towards_record ways (record_at core m i) code
        ])) [
          | None ↦ λ e. tt
          | Some code ↦ λ e. record-read m is code e (record_at core m i)
        ]) refl

  pub way-read : (m : MethodId) → is_reached core class m ≡ true → (i : ℕ) → (way_of core m i).unread ≡ []
  way-read m is i =
      along-read (trip_of core) (way_parts core m i)
      (closed-has core (λ i. []) (way_given core) IsWayRead (λ m is i. tt) given-read m is i)
