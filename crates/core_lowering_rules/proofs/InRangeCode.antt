-- Code whose places are in their files, and whose classes and unread methods are there.
use Rattle.std.proofs.Common.{◌≡◌, ℕ, zero, suc, ◌<◌, Bool, true, false, cond, ◌&&◌, List, [], ◌∷◌, ◌++◌}
use Rattle.std.proofs.Common.{Option, Some, None}
use Rattle.std.proofs.Common.{length, refl, ap, ◌∙◌, slice_get, nat_lt, is_some, arith}
use Rattle.std.specs.List.{list_all}
use borrow.Author.Tests.{ltb-true}
use Rattle.std.proofs.lemmas.Bool.{false≢true, lt-ltb, and_from, and_parts}
use Rattle.std.proofs.lemmas.List.Folds.{list_all-append}
use Rattle.racer_base.specs.declared.ids.MethodId.{MethodId}
use Rattle.racer_base.specs.declared.ids.Place.{Place}
use Rattle.racer_base.specs.declared.ids.Kind.{Kind}
use Rattle.core_code.specs.declared.code.Op.{Op as CoreOp}
use Rattle.core_code.specs.declared.code.Op.TheVariants.{Push, PushClass, PushPrim, PushNull, New, Dup, Drop, Get, Put}
use Rattle.core_code.specs.declared.code.Op.TheVariants.{Set, Prim, Outside, Call, Unread, Ret, Throw}
use Rattle.core_code.specs.declared.parts.FieldCore.{FieldCore}
use Rattle.core_code.specs.Tree.{Tree, Op, Skip, Seq, Choice, Loop, Sync}
use Rattle.core_code.specs.Tree.{in_sequence}
use Rattle.core_code.specs.Core.{Core, Method}
use Rattle.core_code.specs.Kinds.{StackKind, joined_stack}
use Rattle.core_code.specs.KindCheck.{Kinds, and_then, where_true, kinds_after, kinds_after_op, same_stack}
use Rattle.core_code.specs.KindCheck.{field_at, variable_at, after_push, after_set, after_get, after_put, after_call}
use Rattle.core_code.specs.Calls.{method_at}
use Rattle.core_code.specs.Facts.{is_place, is_class, is_kind, is_method, is_op, is_code}
use Rattle.core_code.proofs.InRange.{then_in_range, held_in_range}
use Rattle.core_lowering_drafts.specs.Only.{Code, one as one_op}
use Rattle.core_lowering_drafts.specs.Sites.{lock_at}
use Rattle.core_lowering_drafts.specs.Sites.{numbered}
use Rattle.core_lowering_rules.proofs.NumberedTrees.{SiteFact, same-numbered}
use Rattle.core_lowering_rules.proofs.LoweredFacts.{Tests, is_named}
use Rattle.core_lowering_rules.proofs.DraftFacts.{CoreFact}

-- ---- what the check of kinds does not look at

abbrev pub is_sound : Core → Tree → Bool
is_sound core (Op site place o) = is_place core place && is_named (is_class core) (is_method core) o
is_sound core Skip = true
is_sound core (Seq first rest) = is_sound core first && is_sound core rest
is_sound core (Choice left right) = is_sound core left && is_sound core right
is_sound core (Loop body) = is_sound core body
is_sound core (Sync lock body) = is_place core lock.place && is_sound core body

-- the code of parts
pub record Fine (core : Core) (code : Code) : Type 0 where
  pub fine : list_all (is_sound core) code ≡ true

module _ (core : Core) where
  sound-sequence : (code : Code) → is_sound core (in_sequence code) ≡ list_all (is_sound core) code
  sound-sequence [] = refl
  sound-sequence (part ∷ code) = ap (λ b. is_sound core part && b) (sound-sequence code)

  pub whole : {code : Code} → Fine core code → is_sound core (in_sequence code) ≡ true
  whole {code} f = sound-sequence code ∙ f.fine

  pub joined : (a b : Code) → Fine core a → Fine core b → Fine core (a ++ b)
  joined a b p q =
      record {
        fine =
            list_all-append (is_sound core) a b
            ∙ and_from (list_all (is_sound core) a) (list_all (is_sound core) b) p.fine q.fine;
      }

  -- a part alone
  pub alone : (part : Tree) → is_sound core part ≡ true → Fine core (part ∷ [])
  alone part h = record { fine = and_from (is_sound core part) true h refl }

  pub one : (place : Place) (o : CoreOp) → is_place core place ≡ true →
      is_named (is_class core) (is_method core) o ≡ true → Fine core (one_op place o)
  one place o p q =
      alone (Op (record { 0 = 0 }) place o)
      (and_from (is_place core place) (is_named (is_class core) (is_method core) o) p q)

  -- read or not
  pub call : (place : Place) (m : MethodId) (n : ℕ) (b : Bool) → is_place core place ≡ true → is_method core m ≡ true →
      Fine core (one_op place (cond b (Call m n) (Unread m n)))
  call place m n true h k = one place (Call m n) h refl
  call place m n false h k = one place (Unread m n) h k

  pub empty : Fine core []
  empty = record { fine = refl }

  abbrev pub numbers : Tests
  numbers =
      record {
        is_place = is_place core;
        is_class = is_class core;
        is_method = is_method core;
        is_kind = is_kind core;
        of_kind = λ c h. h;
      }

  abbrev pub fineness : CoreFact
  fineness =
      record {
        tests = numbers;
        code =
            record {
              Holds = λ c d. Fine core d;
              nothing = empty;
              followed = λ a b c d p q. joined c d p q;
              chosen = λ a b c d p q. alone (Choice (in_sequence c) (in_sequence d))
                  (and_from (is_sound core (in_sequence c)) (is_sound core (in_sequence d)) (whole p) (whole q));
              looped = λ a c p. alone (Loop (in_sequence c)) (whole p);
            };
        locked = λ kind place a c there p. alone (Sync (lock_at kind place) (in_sequence c))
            (and_from (is_place core place) (is_sound core (in_sequence c)) there (whole p));
        single = one;
        called = λ place m j n a b h k. call place m n b h k;
        missing = λ place o h k quiet. one place o h k;
        added = λ place o h k quiet. empty;
      }

  -- ---- numbers of sites

  abbrev pub same_soundness : SiteFact
  same_soundness =
      record {
        Same = λ a c. is_sound core a ≡ is_sound core c;
        of_op = λ site other place o. refl;
        of_skip = refl;
        of_seq = λ a b c d p q. ap (λ x. x && is_sound core b) p ∙ ap (λ x. is_sound core c && x) q;
        of_choice = λ a b c d p q. ap (λ x. x && is_sound core b) p ∙ ap (λ x. is_sound core c && x) q;
        of_loop = λ a c p. p;
        of_sync = λ lock a c p. ap (λ x. is_place core lock.place && x) p;
      }

  -- ---- what the check of kinds shows

  pub found-below : {A : Type 0} (xs : List A) (n : ℕ) → is_some (slice_get xs n) ≡ true → nat_lt n (length xs) ≡ true
  found-below [] n h = absurd (false≢true h)
  found-below (x ∷ xs) zero h = lt-ltb 0 (suc (length xs)) (omega arith)
  found-below (x ∷ xs) (suc n) h =
      let below : n < length xs = ltb-true n (length xs) (found-below xs n h) in
      lt-ltb (suc n) (suc (length xs)) (omega arith)

module _ (core : Core) (m : Method) where
  abbrev IsChecked : CoreOp → List StackKind → Type 0
  IsChecked o stack =
      is_some (kinds_after_op core m o stack) ≡ true → is_named (is_class core) (is_method core) o ≡ true →
      is_op core (length m.variables) o ≡ true

  pushed : (o : Option Kind) (stack : List StackKind) → is_some (after_push o stack) ≡ true → is_some o ≡ true
  pushed None stack h = h
  pushed (Some kind) stack h = refl

  set-there : (o : Option Kind) (stack : List StackKind) → is_some (after_set o stack) ≡ true → is_some o ≡ true
  set-there None stack h = h
  set-there (Some kind) stack h = refl

  got : (o : Option FieldCore) (stack : List StackKind) → is_some (after_get o stack) ≡ true → is_some o ≡ true
  got None stack h = h
  got (Some field) stack h = refl

  put-there : (o : Option FieldCore) (stack : List StackKind) → is_some (after_put o stack) ≡ true → is_some o ≡ true
  put-there None stack h = h
  put-there (Some field) stack h = refl

  called : (o : Option Method) (stack : List StackKind) → is_some (after_call o stack) ≡ true → is_some o ≡ true
  called None stack h = h
  called (Some callee) stack h = refl

  op-in_range : (o : CoreOp) (stack : List StackKind) → IsChecked o stack
  op-in_range (Push v) stack h k =
      found-below core m.variables v.0 (pushed (variable_at m v) stack h)
  op-in_range (Set v) stack h k = found-below core m.variables v.0 (set-there (variable_at m v) stack h)
  op-in_range (Get f) stack h k = found-below core core.fields f.0 (got (field_at core f) stack h)
  op-in_range (Put f) stack h k = found-below core core.fields f.0 (put-there (field_at core f) stack h)
  op-in_range (Call n c) stack h k = found-below core core.methods n.0 (called (method_at core n) stack h)
  op-in_range (PushClass c) stack h k = k
  op-in_range (New c) stack h k = k
  op-in_range (Unread n c) stack h k = k
  op-in_range PushPrim stack h k = refl
  op-in_range PushNull stack h k = refl
  op-in_range Dup stack h k = refl
  op-in_range Drop stack h k = refl
  op-in_range (Prim n) stack h k = refl
  op-in_range (Outside n) stack h k = refl
  op-in_range Ret stack h k = refl
  op-in_range Throw stack h k = refl

  abbrev InRange : Tree → Type 0
  InRange t = is_code core (length m.variables) t ≡ true

  -- the operations and the locks of two parts
  two-in_range : (a b : Tree) → InRange a → InRange b → InRange (Seq a b)
  two-in_range a b p q = then_in_range core (length m.variables) a b p q

  first-some : (o : Kinds) (f : List StackKind → Kinds) → is_some (and_then o f) ≡ true →
      (s : List StackKind) × (o ≡ Some s) × (is_some (f s) ≡ true)
  first-some None f h = absurd (false≢true h)
  first-some (Some s) f h = (s, refl, h)

  some-by : (o : Kinds) (s : List StackKind) → o ≡ Some s → is_some o ≡ true
  some-by o s e = ap (is_some {T = List StackKind}) e

  pub in_range : (t : Tree) (stack : List StackKind) → is_some (kinds_after core m t stack) ≡ true →
      is_sound core t ≡ true → InRange t
  in_range (Op site place o) stack h k =
      let there = (and_parts (is_place core place) (is_named (is_class core) (is_method core) o) k).0 in
      let right = op-in_range o stack h
      (and_parts (is_place core place) (is_named (is_class core) (is_method core) o) k).1 in
      and_from ((is_place core place && is_op core (length m.variables) o) && true) true
      (and_from (is_place core place && is_op core (length m.variables) o) true
      (and_from (is_place core place) (is_op core (length m.variables) o) there right) refl) refl
  in_range Skip stack h k = refl
  in_range (Seq first rest) stack h k =
      let between = first-some (kinds_after core m first stack) (λ s. kinds_after core m rest s) h in
      two-in_range first rest
      (in_range first stack (some-by (kinds_after core m first stack) between.0 between.1)
      (and_parts (is_sound core first) _ k).0)
      (in_range rest between.0 between.2 (and_parts (is_sound core first) _ k).1)
  in_range (Choice left right) stack h k =
      let one = first-some (kinds_after core m left stack)
      (λ a. and_then (kinds_after core m right stack) (λ b. joined_stack a b)) h in
      let other = first-some (kinds_after core m right stack) (λ b. joined_stack one.0 b) one.2 in
      two-in_range left right
      (in_range left stack (some-by (kinds_after core m left stack) one.0 one.1) (and_parts (is_sound core left) _ k).0)
      (in_range right stack (some-by (kinds_after core m right stack) other.0 other.1)
      (and_parts (is_sound core left) _ k).1)
  in_range (Loop body) stack h k =
      let after = first-some (kinds_after core m body stack) (λ after. where_true (same_stack stack after) stack) h in
      in_range body stack (some-by (kinds_after core m body stack) after.0 after.1) k
  in_range (Sync lock body) [] h k = absurd (false≢true h)
  in_range (Sync lock body) (value ∷ stack) h k =
      held_in_range core (length m.variables) lock body (and_parts (is_place core lock.place) (is_sound core body) k).0
      (in_range body stack h (and_parts (is_place core lock.place) (is_sound core body) k).1)

  -- the numbered code of a method
  pub code-in_range : {code : Code} → Fine core code →
      is_some (kinds_after core m (numbered 0 (in_sequence code)) []) ≡ true → InRange (numbered 0 (in_sequence code))
  code-in_range {code} f h =
      in_range (numbered 0 (in_sequence code)) [] h
      (same-numbered (same_soundness core) (in_sequence code) 0 ∙ whole core f)
