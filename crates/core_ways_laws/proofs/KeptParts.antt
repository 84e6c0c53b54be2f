-- The invariant behind one part of code and then another, behind either of two, behind a lock, and at a call.
use Rattle.std.proofs.lemmas.Bool.{or_parts}
use Rattle.std.proofs.Common.{◌≡◌, false, List, ◌++◌, Option, None, Some, length}
use Rattle.std.proofs.Common.{refl, sym, ap, subst, ◌∙◌}
use Rattle.std.specs.Prelude.{Result, Ok, Err}
use Rattle.access_paths.specs.declared.path.Path.{Path}
use Rattle.owner_domain.specs.declared.value.Value.{Value as Called}
use Rattle.owner_domain.specs.declared.value.State.{State}
use Rattle.owner_domain.specs.Values.{joined_state}
use Rattle.core_code.specs.Core.{Core, Method}
use Rattle.core_code.specs.Kinds.{StackKind, joined_stack, kind_of}
use Rattle.access_domain.specs.Flow.{after as in_turn, both, chosen, joined_next, joined_result, lost_next, lost_result}
use Rattle.access_domain.specs.Operations.{Effects}
use Rattle.core_semantics.specs.declared.object.Value.{Value}
use Rattle.core_semantics.specs.State.{Store}
use Rattle.core_ways_laws.specs.Values.{Point, End, Behind, Back, go_on, on_ok}
use Rattle.core_ways_laws.specs.Kept.{IsBehind, IsKept, IsReturned}
use Rattle.core_ways_laws.specs.Names.{Naming, name_of}
use Rattle.core_ways_laws.specs.Places.{AreHushed, IsFrame, IsPlace, IsStore}
use Rattle.core_ways_laws.specs.Quiet.{Quietness}
use Rattle.core_ways_laws.proofs.Hushing.{hush-first, hush-second}
use Rattle.core_ways_laws.proofs.Joining.{frame-first, frame-second, joined_result-first, joined_result-second}
use Rattle.core_ways_laws.proofs.Joining.{place-weaker}
use Rattle.core_ways_laws.proofs.PlaceLists.{joined-first, joined-second}

-- ---- effects

-- one part and then another, where the first has a state at its end
pub in-turn-both : (first : Effects) (rest : State → Effects) (s : State) → first.next ≡ Some s →
    in_turn first rest ≡ both first (rest s)
in-turn-both first rest s is =
    ap (λ (o : Option State). elim o as (λ _. Effects) [ None ↦ first | Some t ↦ both first (rest t) ]) is

-- what holds of the effects of the first part alone, and of both, holds of what is done in turn
pub in-turn-by : (P : Effects → Type 0) (first : Effects) (rest : State → Effects) → P first →
    ((s : State) → first.next ≡ Some s → P (both first (rest s))) → P (in_turn first rest)
in-turn-by P first rest one two =
    elim first.next as (λ o. first.next ≡ o →
    P (elim o as (λ _. Effects) [ None ↦ first | Some s ↦ both first (rest s) ])) [
      | None ↦ λ is. one
      | Some s ↦ λ is. two s is
    ] refl

-- what holds of what is done in turn holds of the first part
pub in-turn-first : (P Q : Effects → Type 0) (first : Effects) (rest : State → Effects) → (P first → Q first) →
    ((s : State) → P (both first (rest s)) → Q first) → P (in_turn first rest) → Q first
in-turn-first P Q first rest one two =
    elim first.next as (λ o.
    P (elim o as (λ _. Effects) [ None ↦ first | Some s ↦ both first (rest s) ]) → Q first) [
      | None ↦ one
      | Some s ↦ two s
    ]

module _ (core : Core) (quiet : Quietness core) (n : Naming) where
  abbrev Hush : List Path → Type 0
  Hush paths = AreHushed core quiet n paths

  abbrev Place : StackKind → Called → Value → Type 0
  Place k v x = IsPlace core quiet k (name_of n v) x

  -- what is called by one value is called by that of two returned ones
  abbrev IsResult : StackKind → Option Called → Value → Type 0
  IsResult k result x = (called : Called) × (result ≡ Some called) × Place k called x

  pub result-first : (k : StackKind) (a : Called) (b : Option Called) (x : Value) → Hush (lost_result (Some a) b) →
      Place k a x → IsResult k (joined_result (Some a) b) x
  result-first k a b x hush place =
      let w = joined_result-first core quiet n a b hush in (w.0, w.1, place-weaker core quiet n k a w.0 x w.2 place)

  pub result-second : (k : StackKind) (a : Option Called) (b : Called) (x : Value) → Hush (lost_result a (Some b)) →
      Place k b x → IsResult k (joined_result a (Some b)) x
  result-second k a b x hush place =
      let w = joined_result-second core quiet n a b hush in (w.0, w.1, place-weaker core quiet n k b w.0 x w.2 place)

module _ (core : Core) (quiet : Quietness core) (n : Naming) (method : Method) where
  abbrev Kept : List StackKind → Effects → Option End → Type 0
  Kept kinds e o = IsKept core quiet n method kinds e o

  abbrev Returned : Effects → Store → Value → Type 0
  Returned e store value = IsReturned core quiet n method e store value

  returned : (e : Effects) (store : Store) (value : Value) → IsStore core quiet store →
      IsResult core quiet n (kind_of method.result) e.result value → Returned e store value
  returned e store value stored is = record { store = stored; called = is.0; result = is.1; place = is.2 }

  returned-first : (a b e : Effects) (store : Store) (value : Value) → e.result ≡ joined_result a.result b.result →
      AreHushed core quiet n (lost_result a.result b.result) → Returned a store value → Returned e store value
  returned-first a b e store value is hush r =
      returned e store value r.store
      (subst (λ (o : Option Called). IsResult core quiet n (kind_of method.result) o value)
      (sym (is ∙ ap (λ (o : Option Called). joined_result o b.result) r.result))
      (result-first core quiet n (kind_of method.result) r.called b.result value
      (subst (λ (o : Option Called). AreHushed core quiet n (lost_result o b.result)) r.result hush) r.place))

  returned-second : (a b e : Effects) (store : Store) (value : Value) → e.result ≡ joined_result a.result b.result →
      AreHushed core quiet n (lost_result a.result b.result) → Returned b store value → Returned e store value
  returned-second a b e store value is hush r =
      returned e store value r.store
      (subst (λ (o : Option Called). IsResult core quiet n (kind_of method.result) o value)
      (sym (is ∙ ap (joined_result a.result) r.result))
      (result-second core quiet n (kind_of method.result) a.result r.called value
      (subst (λ (o : Option Called). AreHushed core quiet n (lost_result a.result o)) r.result hush) r.place))

  -- ---- one part and then another

  both-kept : (kinds : List StackKind) (first rest : Effects) (o : Option End) →
      AreHushed core quiet n (lost_result first.result rest.result) → Kept kinds rest o → Kept kinds (both first rest) o
  both-kept kinds first rest None hush kept = tt
  both-kept kinds first rest (Some (Behind at)) hush kept =
      record { store = kept.store; state = kept.state; next = kept.next; frame = kept.frame }
  both-kept kinds first rest (Some (Back store value)) hush kept =
      returned-second first rest (both first rest) store value refl hush kept

  pub in-turn-kept : (between kinds : List StackKind) (first : Effects) (rest : State → Effects) (o : Option End)
      (more : Point → Option End) → AreHushed core quiet n (in_turn first rest).wobbly →
      (in_turn first rest).large ≡ false → Kept between first o →
      ((s : State) (at : Point) → (rest s).large ≡ false → AreHushed core quiet n (rest s).wobbly →
      IsFrame core quiet n method between s at → IsStore core quiet at.store → Kept kinds (rest s) (more at)) →
      Kept kinds (in_turn first rest) (go_on o more)
  in-turn-kept between kinds first rest None more hush small kept on = tt
  in-turn-kept between kinds first rest (Some (Behind at)) more hush small kept on =
      let s : State = kept.state in
      let same : in_turn first rest ≡ both first (rest s) = in-turn-both first rest s kept.next in
      let few : (both first (rest s)).large ≡ false = ap (λ (e : Effects). e.large) (sym same) ∙ small in
      let hushed : AreHushed core quiet n (first.wobbly ++ (rest s).wobbly ++ lost_result first.result
      (rest s).result) =
      subst (λ (e : Effects). AreHushed core quiet n e.wobbly) same hush in
      let early : AreHushed core quiet n (first.wobbly ++ (rest s).wobbly) =
      hush-first core quiet n (first.wobbly ++ (rest s).wobbly) (lost_result first.result (rest s).result) hushed in
      let late : AreHushed core quiet n (lost_result first.result (rest s).result) =
      hush-second core quiet n (first.wobbly ++ (rest s).wobbly) (lost_result first.result (rest s).result) hushed in
      subst (λ (e : Effects). Kept kinds e (more at)) (sym same)
      (both-kept kinds first (rest s) (more at) late
      (on s at (or_parts first.large (rest s).large few).1
      (hush-second core quiet n first.wobbly (rest s).wobbly early) kept.frame kept.store))
  in-turn-kept between kinds first rest (Some (Back store value)) more hush small kept on =
      in-turn-by (λ e. AreHushed core quiet n e.wobbly → Returned e store value) first rest (λ hushed. kept)
      (λ s is hushed.
      returned-first first (rest s) (both first (rest s)) store value refl
      (hush-second core quiet n (first.wobbly ++ (rest s).wobbly) (lost_result first.result (rest s).result) hushed)
      kept)
      hush

  -- ---- either of two

  abbrev FrameAt : List StackKind → State → Point → Type 0
  FrameAt kinds s at = IsFrame core quiet n method kinds s at

  abbrev IsNext : List StackKind → Option State → Point → Type 0
  IsNext kinds next at = (s : State) × (next ≡ Some s) × FrameAt kinds s at

  abbrev AreAlike : State → State → Type 0
  AreAlike a b = (length a.vars ≡ length b.vars) × (length a.stack ≡ length b.stack)

  next-first : (kinds : List StackKind) (a : State) (b : Option State) (at : Point) →
      ((t : State) → b ≡ Some t → AreAlike a t) → AreHushed core quiet n (lost_next (Some a) b) →
      FrameAt kinds a at → IsNext kinds (joined_next (Some a) b) at
  next-first kinds a None at alike hush frame = (a, refl, frame)
  next-first kinds a (Some b) at alike hush frame = (
    joined_state a b,
    refl,
    frame-first core quiet n method kinds a b at (alike b refl).0 (alike b refl).1 hush frame,
  )

  next-second : (kinds : List StackKind) (a : Option State) (b : State) (at : Point) →
      ((t : State) → a ≡ Some t → AreAlike t b) → AreHushed core quiet n (lost_next a (Some b)) →
      FrameAt kinds b at → IsNext kinds (joined_next a (Some b)) at
  next-second kinds None b at alike hush frame = (b, refl, frame)
  next-second kinds (Some a) b at alike hush frame = (
    joined_state a b,
    refl,
    frame-second core quiet n method kinds a b at (alike a refl).0 (alike a refl).1 hush frame,
  )

  behind : (kinds : List StackKind) (e : Effects) (at : Point) → IsStore core quiet at.store →
      IsNext kinds e.next at → IsBehind core quiet n method kinds e at
  behind kinds e at stored is = record { store = stored; state = is.0; next = is.1; frame = is.2 }

  pub chosen-first : (ka kb kinds : List StackKind) (left right : Effects) (o : Option End) →
      joined_stack ka kb ≡ Some kinds →
      ((a b : State) → left.next ≡ Some a → right.next ≡ Some b → AreAlike a b) →
      AreHushed core quiet n (lost_next left.next right.next) →
      AreHushed core quiet n (lost_result left.result right.result) →
      Kept ka left o → Kept kinds (chosen left right) o
  chosen-first ka kb kinds left right None joins alike nexts results kept = tt
  chosen-first ka kb kinds left right (Some (Behind at)) joins alike nexts results kept =
      behind kinds (chosen left right) at kept.store
      (subst (λ (o : Option State). IsNext kinds (joined_next o right.next) at) (sym kept.next)
      (next-first kinds kept.state right.next at (λ t is. alike kept.state t kept.next is)
      (subst (λ (o : Option State). AreHushed core quiet n (lost_next o right.next)) kept.next nexts)
      (record {
        vars = kept.frame.vars;
        stack = joined-first core quiet n ka kb kinds kept.state.stack at.stack joins kept.frame.stack;
      })))
  chosen-first ka kb kinds left right (Some (Back store value)) joins alike nexts results kept =
      returned-first left right (chosen left right) store value refl results kept

  pub chosen-second : (ka kb kinds : List StackKind) (left right : Effects) (o : Option End) →
      joined_stack ka kb ≡ Some kinds →
      ((a b : State) → left.next ≡ Some a → right.next ≡ Some b → AreAlike a b) →
      AreHushed core quiet n (lost_next left.next right.next) →
      AreHushed core quiet n (lost_result left.result right.result) →
      Kept kb right o → Kept kinds (chosen left right) o
  chosen-second ka kb kinds left right None joins alike nexts results kept = tt
  chosen-second ka kb kinds left right (Some (Behind at)) joins alike nexts results kept =
      behind kinds (chosen left right) at kept.store
      (subst (λ (o : Option State). IsNext kinds (joined_next left.next o) at) (sym kept.next)
      (next-second kinds left.next kept.state at (λ t is. alike t kept.state is kept.next)
      (subst (λ (o : Option State). AreHushed core quiet n (lost_next left.next o)) kept.next nexts)
      (record {
        vars = kept.frame.vars;
        stack = joined-second core quiet n ka kb kinds kept.state.stack at.stack joins kept.frame.stack;
      })))
  chosen-second ka kb kinds left right (Some (Back store value)) joins alike nexts results kept =
      returned-second left right (chosen left right) store value refl results kept

  -- ---- behind a lock

  pub ok-kept : {X E : Type 0} (kinds : List StackKind) (e : Effects) (r : Result X E) (o : Option End) →
      Kept kinds e o → Kept kinds e (on_ok r o)
  ok-kept kinds e (Ok x) o kept = kept
  ok-kept kinds e (Err x) o kept = tt
