-- Code that is gone through part by part finds what is stated of the whole.
use Rattle.std.proofs.Common.{◌≡◌, ℕ, suc, ◌+◌, Bool, true, false, List, ◌++◌, append-nil, append_assoc}
use Rattle.std.proofs.Common.{Option, None, Some, Result, Ok, Err, IfOk, refl, sym, ap, subst, ◌∙◌, arith}
use Rattle.std.specs.Prelude.{option_map, slice_index_or}
use Rattle.core_code.specs.Core.{method_of}
use Rattle.core_code.specs.Program.{core}
use Rattle.core_code.specs.Tree.{LockAt, Tree, Skip, Seq, Choice, Loop, Sync}
use Rattle.racer_base.specs.declared.ids.Place.{Place}
use Rattle.transfer_loops.specs.Resuming.{loops}
use Rattle.typed_core.specs.declared.kinds.TypedKind.{TypedKind}
use Rattle.typed_core.specs.declared.states.KindState.{KindState}
use Rattle.typed_core.specs.declared.doubts.Doubt.{Doubt}
use Rattle.typed_core.specs.declared.loops.Walk.{Walk}
use Rattle.typed_core.specs.declared.context.CheckContext.{CheckContext}
use Rattle.typed_core.specs.States.{above, joined_next, popped}
use Rattle.typed_core.specs.Needs.{lock_doubts}
use Rattle.typed_core.specs.Check.{next_of}
use Rattle.typed_core.specs.Resuming.{Heads, Resumed}
use Rattle.typed_core.specs.Lifts.{IsLifted}
use Rattle.typed_core.specs.Walks.{heads_of, found_in, HasRoom, IsPassed, IsWalked, SameHeads}
use Rattle.typed_core.proofs.Resumed.{unreached}

-- heads are functions
pub same_heads : (h j : Heads) → SameHeads h j → h ≡ j
same_heads h j e = λ i n. e n i

pub if_ok : {T E : Type 0} (r : Result T E) (P Q : T → Type 0) → ((x : T) → P x → Q x) → IfOk r P → IfOk r Q
if_ok (Ok x) P Q f h = f x h
if_ok (Err e) P Q f h = h

-- ---- one part and then another
-- what is found of the rest, from here on, makes up what is found of all from the beginning on
pub record IsOnTheWay (context : CheckContext) (rest all : Tree) (start here : Option KindState)
    (old now : Walk) : Type 0 where
  pub next : (found_in context rest now.next (heads_of now) here).next ≡
      (found_in context all old.next (heads_of old) start).next
  pub heads : (found_in context rest now.next (heads_of now) here).heads ≡
      (found_in context all old.next (heads_of old) start).heads
  pub doubts : now.doubts.items ++ (found_in context rest now.next (heads_of now) here).doubts ≡
      old.doubts.items ++ (found_in context all old.next (heads_of old) start).doubts
  pub number : now.next + loops rest ≡ old.next + loops all
  pub room : HasRoom now.next now

pub way-begins : (context : CheckContext) (all : Tree) (start : Option KindState) (old : Walk) → HasRoom old.next old →
    IsOnTheWay context all all start start old old
way-begins context all start old room =
    record { next = refl; heads = refl; doubts = refl; number = refl; room = room }

pub way-turn : (context : CheckContext) (first rest whole all : Tree) (start here end : Option KindState)
    (old now new : Walk) → whole ≡ Seq first rest → IsOnTheWay context whole all start here old now →
    IsWalked first (found_in context first now.next (heads_of now) here) end now new →
    IsOnTheWay context rest all start end old new
way-turn context first rest whole all start here end old now new is before one =
    let way : IsOnTheWay context (Seq first rest) all start here old now =
    subst (λ (code : Tree). IsOnTheWay context code all start here old now) is before in
    let found = found_in context first now.next (heads_of now) here in
    let heads : heads_of new ≡ found.heads = same_heads (heads_of new) found.heads one.heads in
    let two = found_in context rest (now.next + loops first) found.heads found.next in
    let later : found_in context rest new.next (heads_of new) end ≡ two =
    (λ i. found_in context rest (one.number i) (heads i) (one.next i)) in
    let count : new.next ≡ now.next + loops first = one.number in
    let all_loops : now.next + (loops first + loops rest) ≡ old.next + loops all = way.number in
    record {
      next = ap (λ (r : Resumed). r.next) later ∙ way.next;
      heads = ap (λ (r : Resumed). r.heads) later ∙ way.heads;
      doubts =
          (λ i. one.doubts i ++ (later i).doubts)
          ∙ append_assoc now.doubts.items found.doubts two.doubts
          ∙ way.doubts;
      number = omega arith;
      room = one.room;
    }

pub way-ends : (context : CheckContext) (whole all : Tree) (start here : Option KindState) (old now : Walk) →
    whole ≡ Skip → IsOnTheWay context whole all start here old now →
    IsWalked all (found_in context all old.next (heads_of old) start) here old now
way-ends context whole all start here old now is before =
    let way : IsOnTheWay context Skip all start here old now =
    subst (λ (code : Tree). IsOnTheWay context code all start here old now) is before in
    let all_loops : now.next + 0 ≡ old.next + loops all = way.number in
    record {
      next = way.next;
      number = omega arith;
      room = way.room;
      heads = λ n i. way.heads i n;
      doubts = sym (append-nil now.doubts.items) ∙ way.doubts;
    }

-- ---- either of two
-- where a way has no kinds at its end, so it is above other kinds
above-next : (under : List TypedKind) (goes_on : Bool) (met : KindState) →
    option_map (above under) (next_of goes_on met) ≡ next_of goes_on (above under met)
above-next under true met = refl
above-next under false met = refl

none-above : (under : List TypedKind) (goes_on : Bool) (met : KindState) → next_of goes_on met ≡ None →
    next_of goes_on (above under met) ≡ None
none-above under true met e = cc
none-above under false met e = refl

-- what is found over the upper kinds is found over all
lifted-next : (context : CheckContext) (code : Tree) (under : List TypedKind) (reached goes_on : Bool)
    (start low met : KindState) (k : ℕ) (h : Heads) → IsLifted code under start low →
    next_of goes_on met ≡ (found_in context code k h (next_of reached low)).next →
    next_of goes_on (above under met) ≡ (found_in context code k h (next_of reached start)).next
lifted-next context code under true goes_on start low met k h lifted is =
    sym (ap (λ (r : Resumed). r.next) (lifted.found (core context.program.now) (method_of context.method.now) k h)
    ∙ sym (ap (option_map (above under)) is)
    ∙ above-next under goes_on met)
lifted-next context code under false goes_on start low met k h lifted is =
    none-above under goes_on met (is ∙ ap (λ (r : Resumed). r.next) (unreached (core context.program.now) (method_of context.method.now) code k h))
    ∙ sym (ap (λ (r : Resumed). r.next) (unreached (core context.program.now) (method_of context.method.now) code k h))

lifted-found : (context : CheckContext) (code : Tree) (under : List TypedKind) (reached : Bool)
    (start low : KindState) (k : ℕ) (h : Heads) → IsLifted code under start low →
    ((found_in context code k h (next_of reached start)).heads ≡ (found_in context code k h (next_of reached low)).heads)
    × ((found_in context code k h (next_of reached start)).doubts
    ≡ (found_in context code k h (next_of reached low)).doubts)
lifted-found context code under true start low k h lifted = (
  ap (λ (r : Resumed). r.heads) (lifted.found (core context.program.now) (method_of context.method.now) k h),
  ap (λ (r : Resumed). r.doubts) (lifted.found (core context.program.now) (method_of context.method.now) k h),
)
lifted-found context code under false start low k h lifted = (refl, refl)

pub choice-walked : (context : CheckContext) (code left right : Tree) (under : List TypedKind)
    (reached one two goes_on : Bool) (start low other on_left on_right met last : KindState) (old mid new : Walk) →
    code ≡ Choice left right → IsLifted code under start low → other ≡ low →
    IsWalked left (found_in context left old.next (heads_of old) (next_of reached low)) (next_of one on_left) old mid →
    IsWalked right (found_in context right mid.next (heads_of mid) (next_of reached other)) (next_of two on_right) mid
    new → next_of goes_on met ≡ joined_next (next_of one on_left) (next_of two on_right) → last ≡ above under met →
    IsWalked code (found_in context code old.next (heads_of old) (next_of reached start)) (next_of goes_on last) old new
choice-walked context code left right under reached one two goes_on start low other on_left on_right met last old mid
    new is lifted same l r joined lowered =
    let h = heads_of old in
    let first = found_in context left old.next h (next_of reached low) in
    let heads : heads_of mid ≡ first.heads = same_heads (heads_of mid) first.heads l.heads in
    let second = found_in context right (old.next + loops left) first.heads (next_of reached low) in
    let later : found_in context right mid.next (heads_of mid) (next_of reached other) ≡ second =
    (λ i. found_in context right (l.number i) (heads i) (next_of reached (same i))) in
    let sides : found_in context code old.next h (next_of reached low) ≡
    found_in context (Choice left right) old.next h (next_of reached low) =
    ap (λ (part : Tree). found_in context part old.next h (next_of reached low)) is in
    let whole = lifted-found context code under reached start low old.next h lifted in
    let met_next : next_of goes_on met ≡ (found_in context code old.next h (next_of reached low)).next =
    joined
    ∙ (λ i. joined_next (l.next i) ((r.next ∙ ap (λ (x : Resumed). x.next) later) i))
    ∙ sym (ap (λ (x : Resumed). x.next) sides) in
    let last_heads : (found_in context right mid.next (heads_of mid) (next_of reached other)).heads ≡
    (found_in context code old.next h (next_of reached start)).heads =
    ap (λ (x : Resumed). x.heads) later ∙ sym (ap (λ (x : Resumed). x.heads) sides) ∙ sym whole.0 in
    let left_loops : mid.next ≡ old.next + loops left = l.number in
    let right_loops : new.next ≡ mid.next + loops right = r.number in
    let both : new.next ≡ old.next + (loops left + loops right) = omega arith in
    record {
      next =
          ap (next_of goes_on) lowered
          ∙ lifted-next context code under reached goes_on start low met old.next h lifted met_next;
      number = both ∙ sym (ap (λ (part : Tree). old.next + loops part) is);
      room = r.room;
      heads = λ n. r.heads n ∙ ap (λ (j : Heads). j n) last_heads;
      doubts =
          r.doubts
          ∙ (λ i. l.doubts i ++ (later i).doubts)
          ∙ append_assoc old.doubts.items first.doubts second.doubts
          ∙ ap (λ (made : List Doubt). old.doubts.items ++ made)
          (sym (whole.1 ∙ ap (λ (x : Resumed). x.doubts) sides));
    }

-- ---- a loop that is not reached, and a lock
pub passed-walked : (context : CheckContext) (code body : Tree) (end : Option KindState) (loop : ℕ)
    (old mid new : Walk) → code ≡ Loop body → IsPassed loop old mid → IsWalked body (found_in context body mid.next (heads_of mid) None) end mid new →
    IsWalked code (found_in context code old.next (heads_of old) None) end old new
passed-walked context code body end loop old mid new is passed one =
    let heads : heads_of mid ≡ heads_of old = same_heads (heads_of mid) (heads_of old) passed.heads in
    let same : found_in context body mid.next (heads_of mid) None ≡
    found_in context code old.next (heads_of old) None =
    (λ i. found_in context body (passed.number i) (heads i) None)
    ∙ sym (ap (λ (part : Tree). found_in context part old.next (heads_of old) None) is) in
    let number : mid.next ≡ suc old.next = passed.number in
    let body_loops : new.next ≡ mid.next + loops body = one.number in
    let all_loops : new.next ≡ old.next + suc (loops body) = omega arith in
    record {
      next = one.next ∙ ap (λ (x : Resumed). x.next) same;
      number = all_loops ∙ sym (ap (λ (part : Tree). old.next + loops part) is);
      room = one.room;
      heads = λ n. one.heads n ∙ (λ i. (same i).heads n);
      doubts = one.doubts ∙ (λ i. passed.doubts i ++ (same i).doubts);
    }

popped-next : (reached : Bool) (start below : KindState) → below ≡ popped start 1 →
    next_of reached below ≡ option_map (λ (s : KindState). popped s 1) (next_of reached start)
popped-next true start below e = ap Some e
popped-next false start below e = refl

pub sync-walked : (context : CheckContext) (code body : Tree) (lock : LockAt) (place : Place) (doubts : List Doubt)
    (reached : Bool) (start below : KindState) (end : Option KindState) (old mid new : Walk) → code ≡ Sync lock body →
    place ≡ lock.place → doubts ≡ lock_doubts place (next_of reached start) →
    mid.doubts.items ≡ old.doubts.items ++ doubts → mid.heads ≡ old.heads → mid.next ≡ old.next →
    below ≡ popped start 1 →
    IsWalked body (found_in context body mid.next (heads_of mid) (next_of reached below)) end mid new →
    IsWalked code (found_in context code old.next (heads_of old) (next_of reached start)) end old new
sync-walked context code body lock place doubts reached start below end old mid new is at are noted still number pop
    one =
    let heads : heads_of mid ≡ heads_of old = (λ i n. slice_index_or (still i).items n None) in
    let inner = found_in context body old.next (heads_of old) (option_map (λ (s : KindState). popped s 1) (next_of reached start)) in
    let same : found_in context body mid.next (heads_of mid) (next_of reached below) ≡ inner =
    (λ i. found_in context body (number i) (heads i) (popped-next reached start below pop i)) in
    let whole : found_in context code old.next (heads_of old) (next_of reached start) ≡
    found_in context (Sync lock body) old.next (heads_of old) (next_of reached start) =
    ap (λ (part : Tree). found_in context part old.next (heads_of old) (next_of reached start)) is in
    let before = lock_doubts lock.place (next_of reached start) in
    let told : doubts ≡ before = are ∙ ap (λ (p : Place). lock_doubts p (next_of reached start)) at in
    let count : new.next ≡ mid.next + loops body = one.number in
    let begun : mid.next ≡ old.next = number in
    let all_loops : new.next ≡ old.next + loops body = omega arith in
    record {
      next = one.next ∙ ap (λ (x : Resumed). x.next) same ∙ sym (ap (λ (x : Resumed). x.next) whole);
      number = all_loops ∙ sym (ap (λ (part : Tree). old.next + loops part) is);
      room = one.room;
      heads = λ n. one.heads n ∙ (λ i. (same i).heads n) ∙ (λ i. (sym whole i).heads n);
      doubts =
          one.doubts
          ∙ (λ i. (noted ∙ ap (λ (ds : List Doubt). old.doubts.items ++ ds) told) i ++ (same i).doubts)
          ∙ append_assoc old.doubts.items before inner.doubts
          ∙ ap (λ (made : List Doubt). old.doubts.items ++ made) (sym (ap (λ (x : Resumed). x.doubts) whole));
    }
