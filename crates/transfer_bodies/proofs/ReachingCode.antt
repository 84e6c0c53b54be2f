-- Code without loops finds the same over the upper values of a stack as over all, where it does not reach the others.
use Rattle.std.proofs.Common.{◌≡◌, ℕ, zero, suc, ◌+◌, ◌-◌, ◌<◌, ◌≤◌, Bool, true, false, cond, List, [], ◌∷◌, ◌++◌}
use Rattle.std.proofs.Common.{Option, None, Some, length, drop, reverse, map, get_or, nat_le, is_some}
use Rattle.std.proofs.Common.{refl, sym, ap, subst, ◌∙◌, arith}
use Rattle.std.specs.Prelude.{option_map, slice_index_or, slice_set, IfSome}
use Rattle.std.proofs.lemmas.List.{drop-append-le, take-append-le, at_drop_more, at_drop_all}
use Rattle.std.proofs.lemmas.Bool.{leb-true}
use Rattle.racer_base.specs.declared.ids.FieldId.{FieldId}
use Rattle.racer_base.specs.declared.ids.MethodId.{MethodId}
use Rattle.racer_base.specs.declared.ids.Place.{Place}
use Rattle.racer_base.specs.declared.ids.SiteId.{SiteId}
use Rattle.racer_base.specs.declared.ids.Touch.TheVariants.{Read, Write}
use Rattle.access_paths.specs.declared.path.Path.{Path}
use Rattle.owner_domain.specs.declared.value.Value.{Value}
use Rattle.owner_domain.specs.declared.value.Value.TheVariants.{Unnamed}
use Rattle.owner_domain.specs.declared.value.State.{State}
use Rattle.owner_domain.specs.Values.{joined, lost, joined_values, lost_values}
use Rattle.owner_domain.proofs.Joins.{joined_values-itself, lost_values-itself}
use Rattle.core_code.specs.declared.code.Code.{Code}
use Rattle.core_code.specs.Tree.{LockAt, Tree, Op, Skip, Seq, Choice, Loop, Sync, tree_of, in_sequence}
use Rattle.core_code.specs.Facts.{pops, pushes, height_after}
use Rattle.core_code.specs.declared.code.Op.{Op as CoreOp}
use Rattle.core_code.specs.declared.code.Op.TheVariants.{Push, PushClass, PushPrim, PushNull, New, Dup, Drop, Get, Put}
use Rattle.core_code.specs.declared.code.Op.TheVariants.{Set, Prim as PrimOp, Outside, Call, Unread, Ret, Throw}
use Rattle.access_domain.specs.FlowContext.{FlowContext}
use Rattle.access_domain.specs.Findings.{Known, Large, Whole}
use Rattle.access_domain.specs.Substitution.{substituted, actuals_from}
use Rattle.access_domain.specs.Operations.{Effects, goes_on, slot_of, pushed, popped, replaced, read_value}
use Rattle.access_domain.specs.Operations.{record_of, stored_paths, passed_from, found_effects, op_effects}
use Rattle.access_domain.specs.Operations.{call_effects}
use Rattle.access_domain.specs.Flow.{flow, joined_next, lost_next, joined_result, lost_result, both, after, chosen}
use Rattle.transfer_loops.specs.Resuming.{Heads, loops, resumed}
use Rattle.transfer_loops.proofs.Monotone.{after_next, next-after}
use Rattle.transfer_loops.proofs.Heights.{IsSized, then_heights, either_heights, held_heights, flow-sized}
use Rattle.transfer_bodies.specs.Reaching.{above, all_above, LeadsFrom, IsWithin}

-- ---- lists

less : (n m : ℕ) → suc n ≡ suc m → n ≡ m
less n m e = omega arith

joined-above : (us xs ys : List Value) → length xs ≡ length ys →
    joined_values (xs ++ us) (ys ++ us) ≡ joined_values xs ys ++ us
joined-above us [] [] e = joined_values-itself us
joined-above us [] (y ∷ ys) e = absurd (let z : 0 ≡ suc (length ys) = e in omega arith)
joined-above us (x ∷ xs) [] e = absurd (let z : suc (length xs) ≡ 0 = e in omega arith)
joined-above us (x ∷ xs) (y ∷ ys) e =
    ap (λ (vs : List Value). joined x y ∷ vs) (joined-above us xs ys (less (length xs) (length ys) e))

lost-above : (us xs ys : List Value) → length xs ≡ length ys → lost_values (xs ++ us) (ys ++ us) ≡ lost_values xs ys
lost-above us [] [] e = lost_values-itself us
lost-above us [] (y ∷ ys) e = absurd (let z : 0 ≡ suc (length ys) = e in omega arith)
lost-above us (x ∷ xs) [] e = absurd (let z : suc (length xs) ≡ 0 = e in omega arith)
lost-above us (x ∷ xs) (y ∷ ys) e =
    ap (λ (ps : List Path). lost x y ++ ps) (lost-above us xs ys (less (length xs) (length ys) e))

slot-above : (us xs : List Value) (n : ℕ) (v : Value) → n < length xs →
    slice_index_or (xs ++ us) n v ≡ slice_index_or xs n v
slot-above us [] n v low = absurd (let z : n < 0 = low in omega arith)
slot-above us (x ∷ xs) zero v low = refl
slot-above us (x ∷ xs) (suc n) v low = slot-above us xs n v (let z : suc n < suc (length xs) = low in omega arith)

-- ---- operations

is_low : (a h x k : ℕ) → cond (nat_le a h) (Some x) None ≡ Some k → a ≤ h
is_low a h x k e =
    leb-true a h (elim (nat_le a h) as (λ b. cond b (Some x) None ≡ Some k → b ≡ true) [
      | true ↦ λ f. refl
      | false ↦ λ f. cc
    ] e)

module _ (us : List Value) (s : State) where
  popped-above : (n : ℕ) → n ≤ length s.stack → popped (above us s) n ≡ above us (popped s n)
  popped-above n low = (λ i. record { vars = s.vars; stack = drop-append-le n s.stack us low i })

  replaced-above : (n : ℕ) (v : Value) → n ≤ length s.stack →
      goes_on (replaced (above us s) n v) ≡ all_above us (goes_on (replaced s n v))
  replaced-above n v low = ap (λ (t : State). goes_on (pushed t v)) (popped-above n low)

  slot_is : (n : ℕ) → n < length s.stack → slot_of (above us s) n ≡ slot_of s n
  slot_is n low = slot-above us s.stack n Unnamed low

  passed_is : (n : ℕ) → n ≤ length s.stack → passed_from (above us s) n ≡ passed_from s n
  passed_is n low = ap reverse (take-append-le n s.stack us low)

  module _ (g : FlowContext) (locked : Bool) (site : SiteId) where
    call-above : (m : MethodId) (n : ℕ) (o : Option Known) → n ≤ length s.stack →
        call_effects g locked site m n (above us s) o ≡ all_above us (call_effects g locked site m n s o)
    call-above m n None low = replaced-above n Unnamed low
    call-above m n (Some Large) low =
        ap (λ (e : Effects). record e { large = true }) (replaced-above n Unnamed low)
    call-above m n (Some (Whole found)) low =
        let given : List Value → Effects = λ passed.
        found_effects (substituted g (actuals_from (g.is_static m) passed) found locked site) (above us s) n in
        ap given (passed_is n low)
        ∙ ap (λ (t : State). found_effects_at t) (popped-above n low)
      where
        found_effects_at : State → Effects
        found_effects_at t =
            let whole = substituted g (actuals_from (g.is_static m) (passed_from s n)) found locked site in
            record {
              next = Some (pushed t whole.result);
              records = whole.records;
              wobbly = whole.wobbly;
              result = None;
              large = false;
            }

    get-above : (f : FieldId) → 1 ≤ length s.stack →
        op_effects g locked site (Get f) (above us s) ≡ all_above us (op_effects g locked site (Get f) s)
    get-above f low =
        let at = slot_is 0 low in
        let rest = popped-above 1 low in
        (λ i. record {
          next = Some (pushed (rest i) (read_value g (at i) f));
          records = record_of g Read locked site (at i) f;
          wobbly = [];
          result = None;
          large = false;
        })

    put-above : (f : FieldId) → 2 ≤ length s.stack →
        op_effects g locked site (Put f) (above us s) ≡ all_above us (op_effects g locked site (Put f) s)
    put-above f low =
        let value = slot_is 0 (let z : 2 ≤ length s.stack = low in omega arith) in
        let base = slot_is 1 low in
        let rest = popped-above 2 low in
        (λ i. record {
          next = Some (pushed (rest i) (value i));
          records = record_of g Write locked site (base i) f;
          wobbly = stored_paths (base i) f (value i);
          result = None;
          large = false;
        })

    op-above : (op : CoreOp) → pops op ≤ length s.stack →
        op_effects g locked site op (above us s) ≡ all_above us (op_effects g locked site op s)
    op-above (Push v) low = refl
    op-above (PushClass c) low = refl
    op-above PushPrim low = refl
    op-above PushNull low = refl
    op-above (New c) low = refl
    op-above Dup low = ap (λ (v : Value). goes_on (pushed (above us s) v)) (slot_is 0 low)
    op-above Drop low = ap goes_on (popped-above 1 low)
    op-above (Get f) low = get-above f low
    op-above (Put f) low = put-above f low
    op-above (Set x) low =
        (λ i. record {
          next = Some (let made : State = record {
            vars = slice_set s.vars x.0 (slot_is 0 low i);
            stack =
                s.stack ++ us;
          }
              in made);
          records = [];
          wobbly = [];
          result = None;
          large = false;
        })
    op-above (PrimOp n) low = replaced-above n Unnamed low
    op-above (Outside n) low = replaced-above n Unnamed low
    op-above (Call m n) low = call-above m n (g.known_of m) low
    op-above (Unread m n) low = replaced-above n Unnamed low
    op-above Throw low = refl
    op-above Ret low =
        ap (λ (v : Value).
        (let e : Effects = record { next = None; records = []; wobbly = []; result = Some v; large = false } in e))
        (slot_is 0 low)

-- ---- parts

module _ (us : List Value) where
  ends-joined : (a b : Option State) (k : ℕ) → ((s : State) → a ≡ Some s → length s.stack ≡ k) →
      ((s : State) → b ≡ Some s → length s.stack ≡ k) →
      joined_next (option_map (above us) a) (option_map (above us) b) ≡ option_map (above us) (joined_next a b)
  ends-joined None b k on_left on_right = refl
  ends-joined (Some s) None k on_left on_right = refl
  ends-joined (Some s) (Some t) k on_left on_right =
      let long : length s.stack ≡ length t.stack = on_left s refl ∙ sym (on_right t refl) in
      (λ i. Some (record { vars = joined_values s.vars t.vars; stack = joined-above us s.stack t.stack long i }))

  ends-lost : (a b : Option State) (k : ℕ) → ((s : State) → a ≡ Some s → length s.stack ≡ k) →
      ((s : State) → b ≡ Some s → length s.stack ≡ k) →
      lost_next (option_map (above us) a) (option_map (above us) b) ≡ lost_next a b
  ends-lost None b k on_left on_right = refl
  ends-lost (Some s) None k on_left on_right = refl
  ends-lost (Some s) (Some t) k on_left on_right =
      let long : length s.stack ≡ length t.stack = on_left s refl ∙ sym (on_right t refl) in
      ap (λ (ps : List Path). lost_values s.vars t.vars ++ ps) (lost-above us s.stack t.stack long)

  chosen-above : (a b : Effects) (k : ℕ) → ((s : State) → a.next ≡ Some s → length s.stack ≡ k) →
      ((s : State) → b.next ≡ Some s → length s.stack ≡ k) →
      chosen (all_above us a) (all_above us b) ≡ all_above us (chosen a b)
  chosen-above a b k on_left on_right =
      (λ i. record {
        next = ends-joined a.next b.next k on_left on_right i;
        records = a.records ++ b.records;
        wobbly = a.wobbly ++ b.wobbly ++ ends-lost a.next b.next k on_left on_right i ++ lost_result a.result b.result;
        result = joined_result a.result b.result;
        large = (chosen a b).large;
      })

  after-above : (e : Effects) (rest : State → Effects) (o : Option State) → e.next ≡ o →
      ((s : State) → o ≡ Some s → rest (above us s) ≡ all_above us (rest s)) →
      after (all_above us e) rest ≡ all_above us (after e rest)
  after-above e rest o is same =
      ap over is ∙ at o same ∙ sym (ap beside is)
    where
      over : Option State → Effects
      over n = elim (option_map (above us) n) [ None ↦ all_above us e | Some s ↦ both (all_above us e) (rest s) ]

      beside : Option State → Effects
      beside n = all_above us (elim n [ None ↦ e | Some s ↦ both e (rest s) ])

      at : (n : Option State) → ((s : State) → n ≡ Some s → rest (above us s) ≡ all_above us (rest s)) →
          over n ≡ beside n
      at None same = refl
      at (Some s) same = ap (both (all_above us e)) (same s refl)

nothing_left : (a b : ℕ) → a + b ≡ 0 → (a ≡ 0) × (b ≡ 0)
nothing_left a b e = (omega arith, omega arith)

held_some : (lock : LockAt) (body : Tree) (h k : ℕ) → height_after (Sync lock body) h ≡ Some k → 1 ≤ h
held_some lock body h k e =
    leb-true 1 h (elim (nat_le 1 h) as (λ b. cond b (height_after body (h - 1)) None ≡ Some k → b ≡ true) [
      | true ↦ λ f. refl
      | false ↦ λ f. cc
    ] e)

sized : (s : State) (h : ℕ) → length s.stack ≡ h → IsSized (length s.vars) h s
sized s h long = record { vars = refl; stack = long }

less_long : (xs : List Value) (h : ℕ) → length xs ≡ h → length (drop 1 xs) ≡ h - 1
less_long [] h e = let z : 0 ≡ h = e in omega arith
less_long (x ∷ xs) h e = let z : suc (length xs) ≡ h = e in omega arith

-- ---- code

pub flow-above : (g : FlowContext) (code : Tree) (locked : Bool) (us : List Value) (h k : ℕ) (s : State) →
    loops code ≡ 0 → height_after code h ≡ Some k → length s.stack ≡ h →
    flow g code locked (above us s) ≡ all_above us (flow g code locked s)
flow-above g (Op site place op) locked us h k s none high long =
    op-above us s g locked site op
    (subst (λ (n : ℕ). pops op ≤ n) (sym long) (is_low (pops op) h (h - pops op + pushes op) k high))
flow-above g Skip locked us h k s none high long = refl
flow-above g (Seq first rest) locked us h k s none high long =
    let no = nothing_left (loops first) (loops rest) none in
    let m = then_heights first rest h k high in
    ap (λ (e : Effects). after e (flow g rest locked)) (flow-above g first locked us h m.0 s no.0 m.1 long)
    ∙ after-above us (flow g first locked s) (flow g rest locked) (flow g first locked s).next refl
    (λ t is. flow-above g rest locked us m.0 k t no.1 m.2
    (flow-sized g first locked (length s.vars) h m.0 s t m.1 (sized s h long) is).stack)
flow-above g (Choice left right) locked us h k s none high long =
    let no = nothing_left (loops left) (loops right) none in
    let m = either_heights left right h k high in
    (λ i. chosen (flow-above g left locked us h k s no.0 m.0 long i)
    (flow-above g right locked us h k s no.1 m.1 long i))
    ∙ chosen-above us (flow g left locked s) (flow g right locked s) k
    (λ t is. (flow-sized g left locked (length s.vars) h k s t m.0 (sized s h long) is).stack)
    (λ t is. (flow-sized g right locked (length s.vars) h k s t m.1 (sized s h long) is).stack)
flow-above g (Loop body) locked us h k s none high long =
    absurd (let z : suc (loops body) ≡ 0 = none in omega arith)
flow-above g (Sync place body) locked us h k s none high long =
    let low : 1 ≤ length s.stack = subst (λ (n : ℕ). 1 ≤ n) (sym long) (held_some place body h k high) in
    ap (flow g body true) (popped-above us s 1 low)
    ∙ flow-above g body true us (h - 1) k (popped s 1) none (held_heights place body h k high)
    (less_long s.stack h long)

-- without loops, resuming is the flow
rest-resumed : (g : FlowContext) (rest : Tree) (locked : Bool) (j : ℕ) (h : Heads) (o : Option State) →
    ((t : State) → resumed g rest locked j h t ≡ ((flow g rest locked t).next, h)) →
    (elim o as (λ _. Option State × Heads) [ None ↦ (None, h) | Some t ↦ resumed g rest locked j h t ]) ≡
    (after_next o (λ t. (flow g rest locked t).next), h)
rest-resumed g rest locked j h None same = refl
rest-resumed g rest locked j h (Some t) same = same t

resumed-plain : (g : FlowContext) (code : Tree) (locked : Bool) (k : ℕ) (h : Heads) (s : State) → loops code ≡ 0 →
    resumed g code locked k h s ≡ ((flow g code locked s).next, h)
resumed-plain g (Op site place op) locked k h s none = refl
resumed-plain g Skip locked k h s none = refl
resumed-plain g (Seq first rest) locked k h s none =
    let no = nothing_left (loops first) (loops rest) none in
    let on : Option State × Heads → Option State × Heads = λ p.
    elim p.0 [ None ↦ (None, p.1) | Some t ↦ resumed g rest locked (k + loops first) p.1 t ] in
    ap on (resumed-plain g first locked k h s no.0)
    ∙ rest-resumed g rest locked (k + loops first) h (flow g first locked s).next
    (λ t. resumed-plain g rest locked (k + loops first) h t no.1)
    ∙ ap (λ (o : Option State). (let p : Option State × Heads = (o, h) in p))
    (sym (next-after (flow g first locked s) (flow g rest locked) (flow g first locked s).next refl))
resumed-plain g (Choice left right) locked k h s none =
    let no = nothing_left (loops left) (loops right) none in
    let j = k + loops left in
    let then_right : Option State × Heads → Option State × Heads = λ p.
    (joined_next p.0 (resumed g right locked j p.1 s).0, (resumed g right locked j p.1 s).1) in
    let joined_with : Option State × Heads → Option State × Heads = λ q.
    (joined_next (flow g left locked s).next q.0, q.1) in
    ap then_right (resumed-plain g left locked k h s no.0) ∙ ap joined_with (resumed-plain g right locked j h s no.1)
resumed-plain g (Loop body) locked k h s none = absurd (let z : suc (loops body) ≡ 0 = none in omega arith)
resumed-plain g (Sync place body) locked k h s none = resumed-plain g body true k h (popped s 1) none

pub is-within : (height to : ℕ) (code : Tree) → height_after code height ≡ Some to → loops code ≡ 0 →
    IsWithin height code
is-within height to code high none =
    record {
      high = ap is_some high;
      none = none;
      effects = λ g locked us s long. flow-above g code locked us height to s none high long;
      end = λ g locked k h us s long.
          resumed-plain g code locked k h (above us s) none
          ∙ ap (λ (e : Effects). (let p : Option State × Heads = (e.next, h) in p))
          (flow-above g code locked us height to s none high long)
          ∙ sym (ap (λ (p : Option State × Heads).
          (let q : Option State × Heads = (option_map (above us) p.0, p.1) in q))
          (resumed-plain g code locked k h s none));
    }

-- ---- heights

pub leads-then : (first rest : Tree) (a b c : ℕ) → LeadsFrom a b first → LeadsFrom b c rest →
    LeadsFrom a c (Seq first rest)
leads-then first rest a b c p q =
    record {
      height =
          ap (λ (o : Option ℕ). elim o as (λ _. Option ℕ) [ None ↦ None | Some m ↦ height_after rest m ]) p.height
          ∙ q.height;
      none =
          let no : loops first ≡ 0 = p.none in
          let no_more : loops rest ≡ 0 = q.none in
          omega arith;
    }

-- the parts that are left lead from here to where all lead
abbrev pub Leads : ℕ → List Code → ℕ → ℕ → Type 0
Leads from parts i here =
    (to : ℕ) → LeadsFrom here to (in_sequence (map tree_of (drop i parts))) →
    LeadsFrom from to (in_sequence (map tree_of parts))

pub leads-on : (from : ℕ) (parts : List Code) (i : ℕ) (part : Code) (here next : ℕ) → i < length parts →
    part ≡ get_or parts i part → Leads from parts i here → LeadsFrom here next (tree_of part) →
    Leads from parts (i + 1) next
leads-on from parts i part here next within is so_far one to rest =
    let turn : in_sequence (map tree_of (drop i parts)) ≡
    Seq (tree_of part) (in_sequence (map tree_of (drop (i + 1) parts))) =
    at_drop_more (λ ps. in_sequence (map tree_of ps)) parts i part within
    ∙ ap (λ (c : Code). Seq (tree_of c) (in_sequence (map tree_of (drop (i + 1) parts)))) (sym is) in
    so_far to
    (subst (LeadsFrom here to) (sym turn)
    (leads-then (tree_of part) (in_sequence (map tree_of (drop (i + 1) parts))) here next to one rest))

pub leads-all : (from : ℕ) (parts : List Code) (i here : ℕ) → length parts ≤ i → Leads from parts i here →
    LeadsFrom from here (in_sequence (map tree_of parts))
leads-all from parts i here all so_far =
    so_far here
    (subst (LeadsFrom here here) (sym (at_drop_all (λ ps. in_sequence (map tree_of ps)) parts i all))
    (record { height = refl; none = refl }))

pub leads-within : (height : ℕ) (code : Tree) (o : Option ℕ) → IfSome o (λ to. LeadsFrom height to code) →
    is_some o ≡ true → IsWithin height code
leads-within height code None leads some = cc
leads-within height code (Some to) leads some = is-within height to code leads.height leads.none

pub leads-op : (height : ℕ) (code : Tree) (site : SiteId) (place : Place) (op : CoreOp) (o : Option ℕ) →
    code ≡ Op site place op → IfSome o (λ to. (s : SiteId) (p : Place) → LeadsFrom height to (Op s p op)) →
    IfSome o (λ to. LeadsFrom height to code)
leads-op height code site place op None is leads = tt
leads-op height code site place op (Some to) is leads = subst (LeadsFrom height to) (sym is) (leads site place)
