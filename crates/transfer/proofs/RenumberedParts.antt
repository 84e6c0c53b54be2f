-- Parts of code, with other numbers for classes and fields: what is found agrees where it agrees of the parts.
use Rattle.std.proofs.Common.{◌≡◌, ℕ, zero, suc, ◌+◌, ◌||◌, List, ◌++◌, Option, None, Some, length, map}
use Rattle.std.proofs.Common.{option_map, refl, sym, ap, subst, ◌∙◌}
use Rattle.std.proofs.lemmas.List.{length-map, map-append}
use Rattle.std.specs.FinSet as set
use Rattle.access_paths.specs.declared.path.Path.{Path}
use Rattle.access_paths.specs.Order.{path_cmp}
use Rattle.owner_domain.specs.declared.value.Value.{Value}
use Rattle.owner_domain.specs.declared.value.State.{State}
use Rattle.owner_domain.specs.Values.{joined_state, lost_state}
use Rattle.access_domain.specs.Operations.{Effects}
use Rattle.access_domain.specs.Flow.{after, both, chosen, joined_next, joined_result, looped, lost_next, lost_result}
use Rattle.access_domain.specs.Flow.{repeated, rounds}
use Rattle.transfer_steps.proofs.Adding.{Agree}
use Rattle.transfer.proofs.Renumbering.{Renumbering, joined-by, joined_state-by, lost-by, lost_state-by, path_by}
use Rattle.transfer.proofs.Renumbering.{state_by, value_by}
use Rattle.transfer.proofs.RenumberedCalls.{access_by}
use Rattle.transfer.proofs.Tables.{after_at, append-same_set, both-agree, chosen-agree, rounds_at}

abbrev pub effects_by : Renumbering → Effects → Effects
effects_by r e =
    record {
      next = option_map (state_by r) e.next;
      records = map (access_by r) e.records;
      wobbly = map (path_by r) e.wobbly;
      result = option_map (value_by r) e.result;
      large = e.large;
    }

-- the effects agree with those of these numbers
abbrev pub AgreeBy : Renumbering → Effects → Effects → Type 0
AgreeBy r e f = Agree e (effects_by r f)

-- ---- results and ends

joined_result-by : (r : Renumbering) (a b : Option Value) →
    joined_result (option_map (value_by r) a) (option_map (value_by r) b) ≡ option_map (value_by r) (joined_result a b)
joined_result-by r None b = refl
joined_result-by r (Some a) None = refl
joined_result-by r (Some a) (Some b) = ap (λ (v : Value). Some v) (joined-by r a b)

lost_result-by : (r : Renumbering) (a b : Option Value) →
    lost_result (option_map (value_by r) a) (option_map (value_by r) b) ≡ map (path_by r) (lost_result a b)
lost_result-by r None b = refl
lost_result-by r (Some a) None = refl
lost_result-by r (Some a) (Some b) = lost-by r a b

joined_next-by : (r : Renumbering) (a b : Option State) →
    joined_next (option_map (state_by r) a) (option_map (state_by r) b) ≡ option_map (state_by r) (joined_next a b)
joined_next-by r None b = refl
joined_next-by r (Some a) None = refl
joined_next-by r (Some a) (Some b) = ap (λ (s : State). Some s) (joined_state-by r a b)

lost_next-by : (r : Renumbering) (a b : Option State) →
    lost_next (option_map (state_by r) a) (option_map (state_by r) b) ≡ map (path_by r) (lost_next a b)
lost_next-by r None b = refl
lost_next-by r (Some a) None = refl
lost_next-by r (Some a) (Some b) = lost_state-by r a b

-- ---- two parts

appended-by : {X Y : Type 0} (f : X → Y) (us vs : List Y) (xs ys : List X) → us ≡ map f xs → vs ≡ map f ys →
    (us ++ vs) ≡ map f (xs ++ ys)
appended-by f us vs xs ys e h = (λ i. e i ++ h i) ∙ sym (map-append f xs ys)

both-by : (r : Renumbering) (e f : Effects) → both (effects_by r e) (effects_by r f) ≡ effects_by r (both e f)
both-by r e f =
    let by = path_by r in
    let own = appended-by by (map by e.wobbly) (map by f.wobbly) e.wobbly f.wobbly refl refl in
    let wobbly =
    appended-by by (map by e.wobbly ++ map by f.wobbly)
    (lost_result (option_map (value_by r) e.result) (option_map (value_by r) f.result)) (e.wobbly ++ f.wobbly)
    (lost_result e.result f.result) own (lost_result-by r e.result f.result) in
    (λ i. record {
      next = option_map (state_by r) f.next;
      records = appended-by (access_by r) (map (access_by r) e.records) (map (access_by r) f.records) e.records
          f.records refl refl i;
      wobbly = wobbly i;
      result = joined_result-by r e.result f.result i;
      large = e.large || f.large;
    })

chosen-by : (r : Renumbering) (e f : Effects) → chosen (effects_by r e) (effects_by r f) ≡ effects_by r (chosen e f)
chosen-by r e f =
    let by = path_by r in
    let own = appended-by by (map by e.wobbly) (map by f.wobbly) e.wobbly f.wobbly refl refl in
    let ends : List Path = lost_next (option_map (state_by r) e.next) (option_map (state_by r) f.next) in
    let ended =
    appended-by by (map by e.wobbly ++ map by f.wobbly) ends (e.wobbly ++ f.wobbly) (lost_next e.next f.next) own
    (lost_next-by r e.next f.next) in
    let wobbly =
    appended-by by ((map by e.wobbly ++ map by f.wobbly) ++ ends)
    (lost_result (option_map (value_by r) e.result) (option_map (value_by r) f.result))
    ((e.wobbly ++ f.wobbly) ++ lost_next e.next f.next) (lost_result e.result f.result) ended
    (lost_result-by r e.result f.result) in
    (λ i. record {
      next = joined_next-by r e.next f.next i;
      records = appended-by (access_by r) (map (access_by r) e.records) (map (access_by r) f.records) e.records
          f.records refl refl i;
      wobbly = wobbly i;
      result = joined_result-by r e.result f.result i;
      large = e.large || f.large;
    })

pub chosen-agree-by : (r : Renumbering) (e f k l : Effects) → AgreeBy r e f → AgreeBy r k l →
    AgreeBy r (chosen e k) (chosen f l)
chosen-agree-by r e f k l a b =
    subst (λ (end : Effects). Agree (chosen e k) end) (chosen-by r f l)
    (chosen-agree e (effects_by r f) k (effects_by r l) a b)

-- the rest agrees from each state
abbrev pub AgreeFrom : Renumbering → (State → Effects) → (State → Effects) → Type 0
AgreeFrom r k l = (s : State) → AgreeBy r (k (state_by r s)) (l s)

after_at-by : (r : Renumbering) (o : Option State) (e f : Effects) (k l : State → Effects) → AgreeBy r e f →
    AgreeFrom r k l → AgreeBy r (after_at (option_map (state_by r) o) e k) (after_at o f l)
after_at-by r None e f k l a b = a
after_at-by r (Some s) e f k l a b =
    subst (λ (end : Effects). Agree (both e (k (state_by r s))) end) (both-by r f (l s))
    (both-agree e (effects_by r f) (k (state_by r s)) (effects_by r (l s)) a (b s))

pub after-agree-by : (r : Renumbering) (e f : Effects) (k l : State → Effects) → AgreeBy r e f → AgreeFrom r k l →
    AgreeBy r (after e k) (after f l)
after-agree-by r e f k l a b =
    subst (λ (o : Option State). AgreeBy r (after_at o e k) (after f l)) (sym a.next)
    (after_at-by r f.next e f k l a b)

-- ---- rounds

abbrev last_by : Renumbering → State × List Path → State × List Path
last_by r p = (state_by r p.0, map (path_by r) p.1)

rounds_at-by : (r : Renumbering) (o : Option State) (k l : State → Effects) (n : ℕ) (s : State) →
    ((t : State) → rounds k n (state_by r t) ≡ last_by r (rounds l n t)) →
    rounds_at (option_map (state_by r) o) k n (state_by r s) ≡ last_by r (rounds_at o l n s)
rounds_at-by r None k l n s same = same s
rounds_at-by r (Some end) k l n s same =
    let joins : rounds k n (joined_state (state_by r s) (state_by r end)) ≡
    last_by r (rounds l n (joined_state s end)) =
    ap (λ (t : State). rounds k n t) (joined_state-by r s end) ∙ same (joined_state s end) in
    let lost =
    appended-by (path_by r) (lost_state (state_by r s) (state_by r end))
    (map (path_by r) (rounds l n (joined_state s end)).1) (lost_state s end) (rounds l n (joined_state s end)).1
    (lost_state-by r s end) refl in
    ap (λ (p : State × List Path). (p.0, lost_state (state_by r s) (state_by r end) ++ p.1)) joins
    ∙ ap (λ (paths : List Path). (state_by r (rounds l n (joined_state s end)).0, paths)) lost

rounds-by : (r : Renumbering) (k l : State → Effects) →
    ((s : State) → (k (state_by r s)).next ≡ option_map (state_by r) (l s).next) → (n : ℕ) (s : State) →
    rounds k n (state_by r s) ≡ last_by r (rounds l n s)
rounds-by r k l same zero s = refl
rounds-by r k l same (suc n) s =
    ap (λ (o : Option State). rounds_at o k n (state_by r s)) (same s)
    ∙ rounds_at-by r (l s).next k l n s (rounds-by r k l same n)

repeated-agree-by : (r : Renumbering) (p : State × List Path) (k l : State → Effects) → AgreeFrom r k l →
    AgreeBy r (repeated (last_by r p) k) (repeated p l)
repeated-agree-by r p k l same =
    let a = same p.0 in
    record {
      next = refl;
      alike = record {
        records = a.alike.records;
        wobbly =
            append-same_set (map (path_by r) p.1) (k (state_by r p.0)).wobbly (map (path_by r) p.1)
            (map (path_by r) (l p.0).wobbly) refl a.alike.wobbly
            ∙ ap (λ (paths : List Path). set.from_list {R = path_cmp} paths)
            (sym (map-append (path_by r) p.1 (l p.0).wobbly));
        result = a.alike.result;
        large = a.alike.large;
      };
    }

pub looped-agree-by : (r : Renumbering) (k l : State → Effects) (s : State) → AgreeFrom r k l →
    AgreeBy r (looped k (state_by r s)) (looped l s)
looped-agree-by r k l s same =
    let last : rounds k (length (state_by r s).vars + length (state_by r s).stack + 1) (state_by r s) ≡
    last_by r (rounds l (length s.vars + length s.stack + 1) s) =
    (λ i. rounds k (length-map s.vars (value_by r) i + length-map s.stack (value_by r) i + 1) (state_by r s))
    ∙ rounds-by r k l (λ t. (same t).next) (length s.vars + length s.stack + 1) s in
    subst (λ (p : State × List Path). AgreeBy r (repeated p k) (looped l s)) (sym last)
    (repeated-agree-by r (rounds l (length s.vars + length s.stack + 1) s) k l same)
