-- Where values are joined, each of two may be replaced by the join.
use Rattle.std.proofs.Common.{◌≡◌, true, false, cond, List, [], ◌∷◌, ◌++◌, Option, None, Some, length, map}
use Rattle.std.proofs.Common.{refl, sym, subst, arith}
use Rattle.owner_domain.specs.declared.value.Value.{Value}
use Rattle.owner_domain.specs.declared.value.Value.TheVariants.{Owned, Named, Unnamed}
use Rattle.owner_domain.specs.declared.value.State.{State}
use Rattle.owner_domain.specs.SameValue.{equal_of_same_value}
use Rattle.owner_domain.specs.Values.{names_of, same_value, joined, lost, joined_values, lost_values, joined_state}
use Rattle.owner_domain.specs.Values.{lost_state}
use Rattle.access_domain.specs.Flow.{joined_result, lost_result}
use Rattle.core_code.specs.Core.{Core, Method}
use Rattle.core_code.specs.Kinds.{StackKind, kind_of}
use Rattle.core_semantics.specs.declared.object.Value.{Value as Held}
use Rattle.core_ways_laws.specs.Values.{Point}
use Rattle.core_ways_laws.specs.Names.{Naming, name_of}
use Rattle.core_ways_laws.specs.Quiet.{Quietness}
use Rattle.core_ways_laws.specs.Places.{ArePlaces, AreHushed, IsFrame, IsPlace}
use Rattle.core_ways_laws.specs.Weaker.{IsWeaker, AreWeaker, IsWeakerState}
use Rattle.core_ways_laws.proofs.Hushing.{hush-first, hush-second}

module _ (core : Core) (quiet : Quietness core) (n : Naming) where
  pub weaker-itself : (v : Value) → IsWeaker core quiet n v v
  weaker-itself v = record { named = λ q e. e; kept = λ q e in_it. e }

  pub weaker-then : (u v w : Value) → IsWeaker core quiet n u v → IsWeaker core quiet n v w →
      IsWeaker core quiet n u w
  weaker-then u v w a b =
      record {
        named = λ q e. a.named q (b.named q e);
        kept = λ q e in_it. b.kept q (a.kept q e in_it) in_it;
      }

  pub all-weaker-itself : (vs : List Value) → AreWeaker core quiet n vs vs
  all-weaker-itself [] = tt
  all-weaker-itself (v ∷ vs) = (weaker-itself v, all-weaker-itself vs)

  pub all-weaker-then : (us vs ws : List Value) → AreWeaker core quiet n us vs → AreWeaker core quiet n vs ws →
      AreWeaker core quiet n us ws
  all-weaker-then [] [] [] a b = tt
  all-weaker-then (u ∷ us) (v ∷ vs) (w ∷ ws) a b =
      (weaker-then u v w a.0 b.0, all-weaker-then us vs ws a.1 b.1)
  all-weaker-then [] [] (w ∷ ws) a b = b
  all-weaker-then [] (v ∷ vs) ws a b = absurd a
  all-weaker-then (u ∷ us) [] ws a b = absurd a
  all-weaker-then (u ∷ us) (v ∷ vs) [] a b = absurd b

  pub state-weaker-itself : (s : State) → IsWeakerState core quiet n s s
  state-weaker-itself s = record { vars = all-weaker-itself s.vars; stack = all-weaker-itself s.stack }

  pub state-weaker-then : (s t u : State) → IsWeakerState core quiet n s t → IsWeakerState core quiet n t u →
      IsWeakerState core quiet n s u
  state-weaker-then s t u a b =
      record {
        vars = all-weaker-then s.vars t.vars u.vars a.vars b.vars;
        stack = all-weaker-then s.stack t.stack u.stack a.stack b.stack;
      }

  -- ---- two values

  -- where each name of a value is hushed, nothing has to be known of what stands in its place
  hushed-weaker : (v : Value) → AreHushed core quiet n (names_of v) → IsWeaker core quiet n v Unnamed
  hushed-weaker Owned hush = record { named = λ q e. absurd cc; kept = λ q e in_it. absurd cc }
  hushed-weaker Unnamed hush = weaker-itself Unnamed
  hushed-weaker (Named p) hush =
      record { named = λ q e. absurd cc; kept = λ q e in_it. absurd (hush p (0, omega arith, refl) q e in_it) }

  pub joined-first : (a b : Value) → AreHushed core quiet n (lost a b) → IsWeaker core quiet n a (joined a b)
  joined-first a b hush =
      elim (same_value a b) as (λ t. AreHushed core quiet n (cond t [] (names_of a ++ names_of b)) →
      IsWeaker core quiet n a (cond t a Unnamed)) [
        | true ↦ λ h. weaker-itself a
        | false ↦ λ h. hushed-weaker a (hush-first core quiet n (names_of a) (names_of b) h)
      ] hush

  pub joined-second : (a b : Value) → AreHushed core quiet n (lost a b) → IsWeaker core quiet n b (joined a b)
  joined-second a b hush =
      elim (same_value a b) as (λ t. same_value a b ≡ t →
      AreHushed core quiet n (cond t [] (names_of a ++ names_of b)) →
      IsWeaker core quiet n b (cond t a Unnamed)) [
        | true ↦ λ e h.
            subst (λ (v : Value). IsWeaker core quiet n b v) (sym (equal_of_same_value a b e)) (weaker-itself b)
        | false ↦ λ e h. hushed-weaker b (hush-second core quiet n (names_of a) (names_of b) h)
      ] refl hush

  -- ---- lists and states

  pub joined_values-first : (xs ys : List Value) → length xs ≡ length ys →
      AreHushed core quiet n (lost_values xs ys) → AreWeaker core quiet n xs (joined_values xs ys)
  joined_values-first [] [] same hush = tt
  joined_values-first [] (y ∷ ys) same hush = absurd (omega arith)
  joined_values-first (x ∷ xs) [] same hush = absurd (omega arith)
  joined_values-first (x ∷ xs) (y ∷ ys) same hush = (
    joined-first x y (hush-first core quiet n (lost x y) (lost_values xs ys) hush),
    joined_values-first xs ys (omega arith) (hush-second core quiet n (lost x y) (lost_values xs ys) hush),
  )

  pub joined_values-second : (xs ys : List Value) → length xs ≡ length ys →
      AreHushed core quiet n (lost_values xs ys) → AreWeaker core quiet n ys (joined_values xs ys)
  joined_values-second [] [] same hush = tt
  joined_values-second [] (y ∷ ys) same hush = absurd (omega arith)
  joined_values-second (x ∷ xs) [] same hush = absurd (omega arith)
  joined_values-second (x ∷ xs) (y ∷ ys) same hush = (
    joined-second x y (hush-first core quiet n (lost x y) (lost_values xs ys) hush),
    joined_values-second xs ys (omega arith) (hush-second core quiet n (lost x y) (lost_values xs ys) hush),
  )

  pub joined_state-first : (s t : State) → length s.vars ≡ length t.vars → length s.stack ≡ length t.stack →
      AreHushed core quiet n (lost_state s t) → IsWeakerState core quiet n s (joined_state s t)
  joined_state-first s t vars stack hush =
      record {
        vars = joined_values-first s.vars t.vars vars
            (hush-first core quiet n (lost_values s.vars t.vars) (lost_values s.stack t.stack) hush);
        stack = joined_values-first s.stack t.stack stack
            (hush-second core quiet n (lost_values s.vars t.vars) (lost_values s.stack t.stack) hush);
      }

  pub joined_state-second : (s t : State) → length s.vars ≡ length t.vars → length s.stack ≡ length t.stack →
      AreHushed core quiet n (lost_state s t) → IsWeakerState core quiet n t (joined_state s t)
  joined_state-second s t vars stack hush =
      record {
        vars = joined_values-second s.vars t.vars vars
            (hush-first core quiet n (lost_values s.vars t.vars) (lost_values s.stack t.stack) hush);
        stack = joined_values-second s.stack t.stack stack
            (hush-second core quiet n (lost_values s.vars t.vars) (lost_values s.stack t.stack) hush);
      }

  -- ---- results

  pub joined_result-first : (a : Value) (o : Option Value) → AreHushed core quiet n (lost_result (Some a) o) →
      (w : Value) × (joined_result (Some a) o ≡ Some w) × IsWeaker core quiet n a w
  joined_result-first a None hush = (a, refl, weaker-itself a)
  joined_result-first a (Some b) hush = (joined a b, refl, joined-first a b hush)

  pub joined_result-second : (o : Option Value) (b : Value) → AreHushed core quiet n (lost_result o (Some b)) →
      (w : Value) × (joined_result o (Some b) ≡ Some w) × IsWeaker core quiet n b w
  joined_result-second None b hush = (b, refl, weaker-itself b)
  joined_result-second (Some a) b hush = (joined a b, refl, joined-second a b hush)

  -- ---- places

  pub place-weaker : (k : StackKind) (v w : Value) (x : Held) → IsWeaker core quiet n v w →
      IsPlace core quiet k (name_of n v) x → IsPlace core quiet k (name_of n w) x
  place-weaker k v w x weak place =
      record {
        held = λ q e in_it. place.held q (weak.named q e) in_it;
        called = λ strong q is in_it. weak.kept q (place.called strong q is in_it) in_it;
        declared = λ strong q e. place.declared strong q (weak.named q e);
      }

  pub places-weaker : (ks : List StackKind) (vs ws : List Value) (xs : List Held) → AreWeaker core quiet n vs ws →
      ArePlaces core quiet n ks vs xs → ArePlaces core quiet n ks ws xs
  places-weaker [] [] [] [] weak places = tt
  places-weaker (k ∷ ks) (v ∷ vs) (w ∷ ws) (x ∷ xs) weak places =
      (place-weaker k v w x weak.0 places.0, places-weaker ks vs ws xs weak.1 places.1)
  places-weaker [] [] [] (x ∷ xs) weak places = places
  places-weaker [] [] (w ∷ ws) xs weak places = absurd weak
  places-weaker [] (v ∷ vs) ws xs weak places = absurd places
  places-weaker (k ∷ ks) [] ws xs weak places = absurd places
  places-weaker (k ∷ ks) (v ∷ vs) ws [] weak places = absurd places
  places-weaker (k ∷ ks) (v ∷ vs) [] (x ∷ xs) weak places = absurd weak

  pub frame-weaker : (method : Method) (kinds : List StackKind) (s t : State) (at : Point) →
      IsWeakerState core quiet n s t → IsFrame core quiet n method kinds s at →
      IsFrame core quiet n method kinds t at
  frame-weaker method kinds s t at weak frame =
      record {
        vars = places-weaker (map kind_of method.variables) s.vars t.vars at.vars weak.vars frame.vars;
        stack = places-weaker kinds s.stack t.stack at.stack weak.stack frame.stack;
      }

  pub frame-first : (method : Method) (kinds : List StackKind) (a b : State) (at : Point) →
      length a.vars ≡ length b.vars → length a.stack ≡ length b.stack → AreHushed core quiet n (lost_state a b) →
      IsFrame core quiet n method kinds a at → IsFrame core quiet n method kinds (joined_state a b) at
  frame-first method kinds a b at vars stack hush frame =
      frame-weaker method kinds a (joined_state a b) at (joined_state-first a b vars stack hush) frame

  pub frame-second : (method : Method) (kinds : List StackKind) (a b : State) (at : Point) →
      length a.vars ≡ length b.vars → length a.stack ≡ length b.stack → AreHushed core quiet n (lost_state a b) →
      IsFrame core quiet n method kinds b at → IsFrame core quiet n method kinds (joined_state a b) at
  frame-second method kinds a b at vars stack hush frame =
      frame-weaker method kinds b (joined_state a b) at (joined_state-second a b vars stack hush) frame
