-- Code that is resumed over numbers, through tables that go on.
use Rattle.std.proofs.Common.{◌≡◌, ℕ, ◌+◌, Bool, true, false, List, Option, None, Some, length, refl, sym, ap, subst}
use Rattle.std.proofs.Common.{◌∙◌, arith}
use Rattle.std.proofs.Math.Nat.{add-zero}
use Rattle.std.specs.Prelude.{Result, Ok, Err}
use Rattle.racer_base.specs.declared.ids.SiteId.{SiteId}
use Rattle.racer_base.specs.declared.ids.Place.{Place}
use Rattle.racer_base.specs.declared.out_of_memory.Memory.{Memory}
use Rattle.access_paths.specs.declared.path.Path.{Path}
use Rattle.access_paths.specs.Table.{IsTable, GoesOn}
use Rattle.owner_domain.specs.declared.value.State.{State}
use Rattle.owner_domain.specs.declared.numbered.NumberedState.{NumberedState}
use Rattle.owner_domain.specs.Numbered.{read_state, AreInRange}
use Rattle.core_code.specs.Tree.{LockAt, Tree, Op, Seq, Choice, Sync}
use Rattle.core_code.specs.declared.code.Op.{Op as CoreOp}
use Rattle.access_domain.specs.Flow.{joined_next}
use Rattle.access_domain.specs.FlowContext.{FlowContext}
use Rattle.access_domain.specs.Operations.{op_effects}
use Rattle.transfer_loops.specs.Resuming.{Heads, resumed, loops}
use Rattle.transfer.specs.declared.resuming.Passed.{Passed}
use Rattle.transfer_steps.specs.Numbered.{read_heads, AreHeadsInRange, IsResumedIn}
use Rattle.transfer.specs.Resumes.{heads_in, AreLeft, IsResumed}
use Rattle.owner_domain.specs.Slots.{popped_numbers}
use Rattle.transfer_steps.specs.Walks.{next_of}
use Rattle.transfer_steps.proofs.HeadsRead.{heads-longer, heads-still}
use Rattle.transfer_steps.proofs.Readings.{state-longer, state-still}
use Rattle.transfer_steps.proofs.SlotsRead.{popped-read}

abbrev Left : Type 0
Left = Option NumberedState

-- heads that stay the same
pub left-same : (old new : List Path) → GoesOn old new → (hs : List Left) → AreHeadsInRange old hs →
    AreLeft (read_heads old hs) (read_heads new hs) (heads_in (read_heads old hs))
left-same old new on hs low =
    let same = heads-longer old new on hs low in (ap heads_in same, ap length same)

-- what is resumed in between stays in a longer table
pub resumed-still : (old new : List Path) → GoesOn old new → IsTable new → (s : NumberedState) (hs : List Left) →
    IsResumedIn old s hs → IsResumedIn new s hs
resumed-still old new on once s hs low =
    record {
      once = once;
      state = state-still old new on s low.state;
      left = heads-still old new on hs low.left;
    }

pub op-resumed : (g : FlowContext) (site : SiteId) (place : Place) (op : CoreOp) (locked : Bool) (k : ℕ)
    (old new : List Path) (s here : NumberedState) (hs : List Left) (goes : Bool) → GoesOn old new →
    AreHeadsInRange old hs → ((l : Bool) (at : SiteId) →
    (op_effects g l at op (read_state old s)).next ≡ next_of goes (read_state new here)) →
    IsResumed g (Op site place op) locked k (read_state old s) (read_state new here) (read_heads old hs)
    (read_heads new hs) (Ok (record { next = k; goes_on = goes }))
op-resumed g site place op locked k old new s here hs goes on low next =
    (next locked site, sym (add-zero k), left-same old new on hs low)

module _ (g : FlowContext) (left right : Tree) (locked : Bool) (k : ℕ) (older newer newest : List Path)
    (first : GoesOn older newer)
    (second : GoesOn newer newest) (s x one two here : NumberedState) (hs mid later : List Left) (p q : Passed)
    (goes : Bool)
  where
    pub choice-resumed : x ≡ s → AreInRange older s → AreInRange newer one →
        IsResumed g left locked k (read_state older s) (read_state newer one) (read_heads older hs)
        (read_heads newer mid) (Ok p) →
        IsResumed g right locked p.next (read_state newer x) (read_state newest two) (read_heads newer mid)
        (read_heads newest later) (Ok q) →
        next_of goes (read_state newest here) ≡ joined_next (next_of p.goes_on (read_state newest one))
        (next_of q.goes_on (read_state newest two)) →
        IsResumed g (Choice left right) locked k (read_state older s) (read_state newest here) (read_heads older hs)
        (read_heads newest later) (Ok (record { next = q.next; goes_on = goes }))
    choice-resumed same low lower l r met =
        let h : Heads = heads_in (read_heads older hs) in
        let start = read_state older s in
        let state : read_state newer x ≡ start = ap (read_state newer) same ∙ state-longer older newer first s low in
        let alike : resumed g right locked p.next (heads_in (read_heads newer mid)) (read_state newer x) ≡
        resumed g right locked (k + loops left) (resumed g left locked k h start).1 start =
        λ i. resumed g right locked (l.1 i) (l.2.0 i) (state i) in
        let end = next_of q.goes_on (read_state newest two) in (
          (λ i. joined_next (l.0 i) ((sym (ap (λ (e : Option State × Heads). e.0) alike) ∙ r.0) i))
              ∙ ap (λ (o : State). joined_next (next_of p.goes_on o) end)
              (sym (state-longer newer newest second one lower))
              ∙ sym met,
          (let count : loops (Choice left right) ≡ loops left + loops right = refl in
              let a : p.next ≡ k + loops left = l.1 in
              let b : q.next ≡ p.next + loops right = r.1 in
              omega arith),
          (r.2.0 ∙ ap (λ (e : Option State × Heads). e.1) alike, r.2.1 ∙ l.2.1),
        )

pub sync-resumed : (g : FlowContext) (lock : LockAt) (body : Tree) (locked : Bool) (k : ℕ) (old : List Path)
    (s : NumberedState) (here : State) (hs later : List (Option State)) (r : Result Passed Memory) →
    IsResumed g body true k (read_state old (popped_numbers s 1)) here hs later r →
    IsResumed g (Sync lock body) locked k (read_state old s) here hs later r
sync-resumed g lock body locked k old s here hs later (Ok passed) m =
    subst (λ (x : State). IsResumed g body true k x here hs later (Ok passed)) (popped-read old s 1) m
sync-resumed g lock body locked k old s here hs later (Err e) m = tt

-- ---- parts one after another

seq_some : (g : FlowContext) (first rest : Tree) (locked : Bool) (k : ℕ) (h : Heads) (s t : State) →
    (resumed g first locked k h s).0 ≡ Some t → resumed g (Seq first rest) locked k h s ≡
    resumed g rest locked (k + loops first) (resumed g first locked k h s).1 t
seq_some g first rest locked k h s t e =
    ap (λ (o : Option State). elim o as (λ _. Option State × Heads) [
      | None ↦ (None, (resumed g first locked k h s).1)
      | Some x ↦ resumed g rest locked (k + loops first) (resumed g first locked k h s).1 x
    ]) e

seq_none : (g : FlowContext) (first rest : Tree) (locked : Bool) (k : ℕ) (h : Heads) (s : State) →
    (resumed g first locked k h s).0 ≡ None →
    resumed g (Seq first rest) locked k h s ≡ (None, (resumed g first locked k h s).1)
seq_none g first rest locked k h s e =
    ap (λ (o : Option State). elim o as (λ _. Option State × Heads) [
      | None ↦ (None, (resumed g first locked k h s).1)
      | Some x ↦ resumed g rest locked (k + loops first) (resumed g first locked k h s).1 x
    ]) e

module _ (g : FlowContext) (first rest whole : Tree) (locked : Bool) (k from : ℕ) (s here start : State)
    (old new begin : List (Option State)) (p : Passed) (is : whole ≡ Seq first rest)
    (m : IsResumed g first locked k s here old new (Ok p)) where
  -- one part goes on, and the others are left
  pub through-more : (all : Tree) → p.goes_on ≡ true →
      resumed g whole locked k (heads_in old) s ≡ resumed g all locked from (heads_in begin) start →
      resumed g rest locked p.next (heads_in new) here ≡ resumed g all locked from (heads_in begin) start
  through-more all goes same =
      let next : (resumed g first locked k (heads_in old) s).0 ≡ Some here =
      m.0 ∙ ap (λ (b : Bool). next_of b here) goes in
      (λ i. resumed g rest locked (m.1 i) (m.2.0 i) here)
      ∙ sym (seq_some g first rest locked k (heads_in old) s here next)
      ∙ ap (λ (t : Tree). resumed g t locked k (heads_in old) s) (sym is)
      ∙ same

  -- or it does not go on
  pub through-ends : (all : Tree) (q : Passed) → p.goes_on ≡ false → q.goes_on ≡ false →
      q.next ≡ p.next + loops rest → k + loops whole ≡ from + loops all → length old ≡ length begin →
      resumed g whole locked k (heads_in old) s ≡ resumed g all locked from (heads_in begin) start →
      IsResumed g all locked from start here begin new (Ok q)
  through-ends all q ends none behind number long same =
      let next : (resumed g first locked k (heads_in old) s).0 ≡ None =
      m.0 ∙ ap (λ (b : Bool). next_of b here) ends in
      let end : resumed g all locked from (heads_in begin) start ≡
      (None, (resumed g first locked k (heads_in old) s).1) =
      sym same ∙ ap (λ (t : Tree). resumed g t locked k (heads_in old) s) is
      ∙ seq_none g first rest locked k (heads_in old) s next in
      let count : loops whole ≡ loops first + loops rest = ap loops is in
      let here_is : p.next ≡ k + loops first = m.1 in (
        ap (λ (e : Option State × Heads). e.0) end ∙ sym (ap (λ (b : Bool). next_of b here) none),
        omega arith,
        (m.2.0 ∙ sym (ap (λ (e : Option State × Heads). e.1) end), m.2.1 ∙ long),
      )

  pub through-number : (all : Tree) → k + loops whole ≡ from + loops all →
      p.next + loops rest ≡ from + loops all
  through-number all number =
      let count : loops whole ≡ loops first + loops rest = ap loops is in
      let here_is : p.next ≡ k + loops first = m.1 in
      omega arith
