-- The rounds of a loop, up to the first that changes nothing.
use Rattle.std.proofs.Common.{◌≡◌, ℕ, suc, ◌+◌, ◌-◌, ◌<◌, ◌≤◌, Bool, true, false, cond, not, ◌||◌, List, [], ◌++◌, append-nil}
use Rattle.std.proofs.Common.{Option, None, Some, length, take, nat_lt, refl, sym, ap, ◌∙◌, arith}
use Rattle.std.specs.Prelude.{slice_index_or}
use Rattle.std.specs.Global.{Vec}
use Rattle.std.proofs.lemmas.Bool.{lt-ltb, not-true, not-false}
use Rattle.std.proofs.lemmas.List.{take_all, take_at}
use Rattle.std.proofs.Math.Bool.{or-false, or-true}
use Rattle.core_code.specs.Tree.{Tree, Loop}
use Rattle.transfer_loops.specs.Resuming.{loops}
use Rattle.typed_core.specs.declared.states.KindState.{KindState}
use Rattle.typed_core.specs.declared.doubts.Doubt.{Doubt}
use Rattle.typed_core.specs.declared.loops.Walk.{Walk}
use Rattle.typed_core.specs.declared.loops.Mark.{Mark}
use Rattle.typed_core.specs.declared.context.CheckContext.{CheckContext}
use Rattle.typed_core.specs.Check.{next_of, round_next, rounds_of}
use Rattle.typed_core.specs.Resuming.{Heads, Iterated, Resumed, entered, is_settled, iterated, kept_head, put_head}
use Rattle.typed_core.specs.Walks.{heads_of, found_in, is_changed, round_in, AreRounds, HasRoom, IsBack, IsEntered, IsLeft}
use Rattle.typed_core.specs.Walks.{IsWalked}
use Rattle.typed_core.proofs.Order.{same_state-equal, same_state-itself}
use Rattle.typed_core.proofs.Walking.{same_heads}

abbrev Go : Type 0
Go = Heads → KindState → Resumed

-- the two ends of a round
abbrev last_round : KindState → Resumed → Iterated
last_round x r = record { last = x; changed = false; heads = r.heads; doubts = r.doubts }

abbrev further_round : Iterated → Iterated
further_round all = record all { changed = true }

settled-round : (go : Go) (n : ℕ) (h : Heads) (x : KindState) → is_settled x (go h x).next ≡ true →
    iterated go (suc n) h x ≡ last_round x (go h x)
settled-round go n h x e =
    ap (λ (b : Bool). cond {A = Iterated} b (last_round x (go h x))
    (further_round (iterated go n (go h x).heads (round_next x (go h x).next)))) e

further-rounds : (go : Go) (n : ℕ) (h : Heads) (x : KindState) → is_settled x (go h x).next ≡ false →
    iterated go (suc n) h x ≡ further_round (iterated go n (go h x).heads (round_next x (go h x).next))
further-rounds go n h x e =
    ap (λ (b : Bool). cond {A = Iterated} b (last_round x (go h x))
    (further_round (iterated go n (go h x).heads (round_next x (go h x).next)))) e

-- the rounds that are left, from here on, find what all find; some were done before or none
pub record AreLeft (go : Go) (left : ℕ) (all : Iterated) (is_later : Bool) (h : Heads)
    (here : KindState) : Type 0 where
  pub last : (iterated go left h here).last ≡ all.last
  pub changed : (is_later || (iterated go left h here).changed) ≡ all.changed
  pub heads : (iterated go left h here).heads ≡ all.heads
  pub doubts : (iterated go left h here).doubts ≡ all.doubts

-- all rounds of a loop, which begins with these kinds
abbrev pub all_rounds : CheckContext → Tree → ℕ → KindState → Walk → Iterated
all_rounds context body count start old = iterated (round_in context body old.next) count (heads_of old) start

-- so many rounds of a loop are done, from the old walk on
pub record IsAtRound (context : CheckContext) (body : Tree) (count round : ℕ) (start here : KindState)
    (old now : Walk) : Type 0 where
  pub left : AreLeft (round_in context body old.next) (count - round) (all_rounds context body count start old)
      (nat_lt 0 round) (heads_of now) here
  pub number : 0 < round → now.next ≡ old.next + loops body
  pub behind : 0 < round → HasRoom now.next now
  pub room : old.next ≤ length now.heads.items
  pub front : take (length old.doubts.items) now.doubts.items ≡ old.doubts.items

pub rounds-begin : (context : CheckContext) (body : Tree) (count : ℕ) (start : KindState) (old : Walk) →
    HasRoom old.next old → IsAtRound context body count 0 start start old old
rounds-begin context body count start old room =
    let go = round_in context body old.next in
    let none : count - 0 ≡ count = omega arith in
    let same : iterated go (count - 0) (heads_of old) start ≡ iterated go count (heads_of old) start =
    ap (λ (n : ℕ). iterated go n (heads_of old) start) none in
    record {
      left =
          record {
            last = ap (λ (a : Iterated). a.last) same;
            changed = ap (λ (a : Iterated). a.changed) same;
            heads = ap (λ (a : Iterated). a.heads) same;
            doubts = ap (λ (a : Iterated). a.doubts) same;
          };
      number = λ low. absurd (let z : 0 < 0 = low in omega arith);
      behind = λ low. absurd (let z : 0 < 0 = low in omega arith);
      room = room;
      front = take_all (length old.doubts.items) old.doubts.items (omega arith);
    }

-- ---- a walk that is back at the mark
abbrev pub with_heads : Vec (Option KindState) → Heads
with_heads heads i = slice_index_or heads.items i None

pub back-room : (mark : Mark) (old now back : Walk) → IsBack mark now back → mark.next ≡ old.next →
    old.next ≤ length now.heads.items → HasRoom back.next back
back-room mark old now back is begun room =
    let number : back.next ≡ mark.next = is.number in
    let long : length back.heads.items ≡ length now.heads.items =
    ap (λ (heads : Vec (Option KindState)). length heads.items) is.heads in
    omega arith

module _ (context : CheckContext) (body : Tree) (count round : ℕ) (start here next : KindState)
    (old now back new : Walk) (mark : Mark) (has_changed : Bool) (low : round < count)
    (at : IsAtRound context body count round start here old now) (begun : mark.next ≡ old.next)
    (few : mark.doubts ≡ length old.doubts.items) (is_back : IsBack mark now back)
    (one : IsWalked body (round_in context body back.next (heads_of back) here)
    (round_in context body back.next (heads_of back) here).next back new)
    (changed : has_changed ≡ is_changed here (round_in context body back.next (heads_of back) here).next)
    (next_is : next ≡ round_next here (round_in context body back.next (heads_of back) here).next) where
  abbrev found : Resumed
  found = round_in context body old.next (heads_of now) here

  number : back.next ≡ old.next
  number = is_back.number ∙ begun

  same : round_in context body back.next (heads_of back) here ≡ found
  same = (λ i. round_in context body (number i) (with_heads (is_back.heads i)) here)

  one_less : count - round ≡ suc (count - (round + 1))
  one_less = omega arith

  front : back.doubts.items ≡ old.doubts.items
  front = is_back.doubts ∙ ap (λ (n : ℕ). take n now.doubts.items) few ∙ at.front

  count_new : new.next ≡ old.next + loops body
  count_new = one.number ∙ ap (λ (n : ℕ). n + loops body) number

  new_doubts : new.doubts.items ≡ old.doubts.items ++ found.doubts
  new_doubts = one.doubts ∙ (λ i. front i ++ (same i).doubts)

  new_heads : heads_of new ≡ found.heads
  new_heads =
      same_heads (heads_of new) (round_in context body back.next (heads_of back) here).heads one.heads
      ∙ ap (λ (r : Resumed). r.heads) same

  is_next : next ≡ round_next here found.next
  is_next = next_is ∙ ap (λ (r : Resumed). round_next here r.next) same

  told : not (is_settled here found.next) ≡ has_changed
  told = sym (changed ∙ ap (λ (r : Resumed). is_changed here r.next) same)

  pub rounds-turn : has_changed ≡ true → IsAtRound context body count (round + 1) start next old new
  rounds-turn holds =
      let go = round_in context body old.next in
      let left = count - (round + 1) in
      let rest = iterated go left (heads_of new) next in
      let step : iterated go (count - round) (heads_of now) here ≡ further_round rest =
      ap (λ (n : ℕ). iterated go n (heads_of now) here) one_less
      ∙ further-rounds go left (heads_of now) here (not-true (is_settled here found.next) (told ∙ holds))
      ∙ (λ i. further_round (iterated go left (sym new_heads i) (sym is_next i))) in
      let was : (nat_lt 0 round || true) ≡ (all_rounds context body count start old).changed =
      ap (λ (a : Iterated). nat_lt 0 round || a.changed) (sym step) ∙ at.left.changed in
      let later : nat_lt 0 (round + 1) ≡ true = lt-ltb 0 (round + 1) (omega arith) in
      let behind : new.next ≤ length new.heads.items = one.room in
      let count_is : new.next ≡ old.next + loops body = count_new in
      record {
        left =
            record {
              last = ap (λ (a : Iterated). a.last) (sym step) ∙ at.left.last;
              changed =
                  ap (λ (b : Bool). b || rest.changed) later ∙ sym (or-true (nat_lt 0 round)) ∙ was;
              heads = ap (λ (a : Iterated). a.heads) (sym step) ∙ at.left.heads;
              doubts = ap (λ (a : Iterated). a.doubts) (sym step) ∙ at.left.doubts;
            };
        number = λ low. count_new;
        behind = λ low. one.room;
        room = omega arith;
        front =
            ap (take (length old.doubts.items)) new_doubts
            ∙ take_at old.doubts.items found.doubts (length old.doubts.items) refl;
      }

  pub rounds-settled : has_changed ≡ false → (is_later : Bool) → is_later ≡ nat_lt 0 round →
      AreRounds body (all_rounds context body count start old) is_later next old new
  rounds-settled fails is_later later =
      let go = round_in context body old.next in
      let left = count - (round + 1) in
      let settled : is_settled here found.next ≡ true = not-false (is_settled here found.next) (told ∙ fails) in
      let step : iterated go (count - round) (heads_of now) here ≡ last_round here found =
      ap (λ (n : ℕ). iterated go n (heads_of now) here) one_less ∙ settled-round go left (heads_of now) here settled in
      record {
        last =
            is_next
            ∙ same_state-equal (round_next here found.next) here settled
            ∙ ap (λ (a : Iterated). a.last) (sym step)
            ∙ at.left.last;
        changed =
            later
            ∙ sym (or-false (nat_lt 0 round))
            ∙ ap (λ (a : Iterated). nat_lt 0 round || a.changed) (sym step)
            ∙ at.left.changed;
        number = count_new;
        room = one.room;
        heads = λ n i.
            (new_heads ∙ ap (λ (a : Iterated). a.heads) (sym step) ∙ at.left.heads) i n;
        doubts =
            new_doubts
            ∙ ap (λ (ds : List Doubt). old.doubts.items ++ ds)
            (ap (λ (a : Iterated). a.doubts) (sym step) ∙ at.left.doubts);
      }

-- all rounds are done, and what the last one found is dropped
pub rounds-done : (context : CheckContext) (body : Tree) (count round : ℕ) (start here : KindState)
    (old now new : Walk) (mark : Mark) → count ≤ round → 0 < count →
    IsAtRound context body count round start here old now → mark.doubts ≡ length old.doubts.items →
    new.doubts.items ≡ take mark.doubts now.doubts.items → new.heads ≡ now.heads → new.next ≡ now.next →
    AreRounds body (all_rounds context body count start old) true here old new
rounds-done context body count round start here old now new mark past some at few dropped still same =
    let go = round_in context body old.next in
    let none : count - round ≡ 0 = omega arith in
    let later : 0 < round = omega arith in
    let end : Iterated = record { last = here; changed = true; heads = heads_of now; doubts = [] } in
    let step : iterated go (count - round) (heads_of now) here ≡ end =
    ap (λ (n : ℕ). iterated go n (heads_of now) here) none in
    let all = all_rounds context body count start old in
    let doubts : [] ≡ all.doubts = ap (λ (a : Iterated). a.doubts) (sym step) ∙ at.left.doubts in
    let behind : now.next ≤ length now.heads.items = at.behind later in
    let long : length new.heads.items ≡ length now.heads.items =
    ap (λ (heads : Vec (Option KindState)). length heads.items) still in
    record {
      last = ap (λ (a : Iterated). a.last) (sym step) ∙ at.left.last;
      changed =
          sym (or-true (nat_lt 0 round))
          ∙ ap (λ (a : Iterated). nat_lt 0 round || a.changed) (sym step)
          ∙ at.left.changed;
      number = same ∙ at.number later;
      room = omega arith;
      heads = λ n i.
          ((λ j. with_heads (still j)) ∙ ap (λ (a : Iterated). a.heads) (sym step) ∙ at.left.heads) i n;
      doubts =
          dropped
          ∙ ap (λ (n : ℕ). take n now.doubts.items) few
          ∙ at.front
          ∙ sym (append-nil old.doubts.items)
          ∙ ap (λ (ds : List Doubt). old.doubts.items ++ ds) doubts;
    }

-- ---- one round whose body has no kinds at its end
pub settled-ended : (x y : KindState) (goes_on : Bool) (end : KindState) (found : KindState → Option KindState) →
    y ≡ x → goes_on ≡ false → next_of goes_on end ≡ found y → false ≡ is_changed x (found x)
settled-ended x y goes_on end found same ends is =
    let none : found x ≡ None = ap found (sym same) ∙ sym is ∙ ap (λ (b : Bool). next_of b end) ends in
    sym (ap (is_changed x) none ∙ ap not (same_state-itself x))

-- ---- a loop
module _ (context : CheckContext) (body : Tree) (number : ℕ) (start here last : KindState) (has_changed : Bool)
    (old mid new : Walk) (came : IsEntered number start here old mid)
    (done : AreRounds body (all_rounds context body (rounds_of here) here mid) has_changed last mid new) where
  abbrev first : KindState
  first = entered (heads_of old old.next) start

  abbrev all : Iterated
  all = iterated (round_in context body (suc old.next)) (rounds_of first) (heads_of old) first

  begins : here ≡ first
  begins = came.joined ∙ ap (λ (n : ℕ). entered (heads_of old n) start) came.is

  alike : all_rounds context body (rounds_of here) here mid ≡ all
  alike =
      (λ i. iterated (round_in context body (came.number i)) (rounds_of (begins i))
      (same_heads (heads_of mid) (heads_of old) came.heads i) (begins i))

  counted : new.next ≡ old.next + suc (loops body)
  counted = let a : mid.next ≡ suc old.next = came.number in
      let b : new.next ≡ mid.next + loops body = done.number in omega arith

  found_doubts : new.doubts.items ≡ old.doubts.items ++ all.doubts
  found_doubts = done.doubts ∙ (λ i. came.doubts i ++ (alike i).doubts)

  ends : Some last ≡ Some all.last
  ends = ap Some (done.last ∙ ap (λ (a : Iterated). a.last) alike)

  -- where no round changes anything the head that there is serves
  pub loop-kept : has_changed ≡ false →
      IsWalked (Loop body) (found_in context (Loop body) old.next (heads_of old) (Some start)) (Some last) old new
  loop-kept fails =
      let none : all.changed ≡ false = ap (λ (a : Iterated). a.changed) (sym alike) ∙ sym done.changed ∙ fails in
      record {
        next = ends;
        number = counted;
        room = done.room;
        heads = λ n.
            done.heads n ∙ ap (λ (a : Iterated). a.heads n) alike
            ∙ sym (ap (λ (b : Bool). kept_head b all.heads old.next all.last n) none);
        doubts = found_doubts;
      }

  pub loop-left : has_changed ≡ true → (left : Walk) → IsLeft number last new left →
      IsWalked (Loop body) (found_in context (Loop body) old.next (heads_of old) (Some start)) (Some last) old left
  loop-left holds left is =
      let some : all.changed ≡ true = ap (λ (a : Iterated). a.changed) (sym alike) ∙ sym done.changed ∙ holds in
      let heads : heads_of new ≡ all.heads =
      same_heads (heads_of new) (all_rounds context body (rounds_of here) here mid).heads done.heads
      ∙ ap (λ (a : Iterated). a.heads) alike in
      let behind : new.next ≤ length new.heads.items = done.room in
      let still : left.next ≡ new.next = is.number in
      let long : length left.heads.items ≡ length new.heads.items = is.room in
      record {
        next = ends;
        number = is.number ∙ counted;
        room = omega arith;
        heads = λ n.
            is.heads n
            ∙ (λ i. put_head (heads i) (came.is i) ((done.last ∙ ap (λ (a : Iterated). a.last) alike) i) n)
            ∙ sym (ap (λ (b : Bool). kept_head b all.heads old.next all.last n) some);
        doubts = is.doubts ∙ found_doubts;
      }
