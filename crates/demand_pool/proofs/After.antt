-- What an event leaves.
use Rattle.std.proofs.Common.{◌≡◌, ℕ, ◌+◌, List, [], ◌∷◌, ◌++◌, Some, Bool, true, false, refl, sym, ap, ◌∙◌, subst}
use Rattle.std.proofs.Common.{arith}
use Rattle.std.specs.Prelude.{slice_get, slice_set, ◌==◌}
use Rattle.racer_base.specs.declared.ids.MethodId.{MethodId}
use Rattle.summary_store.specs.declared.machine.Event.{Event}
use Rattle.summary_store.specs.declared.machine.Event.TheVariants.{Take, Park, Publish, Leave}
use Rattle.summary_store.specs.declared.machine.Hand.{Hand}
use Rattle.summary_store.specs.declared.machine.Hand.TheVariants.{Free, Holds, Gone}
use Rattle.summary_store.specs.Machine.{Setup, Machine, step, replay, HasLeft, IsFree, IsHolding}
use Rattle.summary_store.specs.Laws.{takes, take_one}
use Rattle.summary_store.proofs.Weights.{weigh-append, slice_get-set_same, slice_get-set_other, eqb_yes, eqb_no}
use Rattle.summary_store.proofs.Keeping.{replay-push}
use Rattle.summary_store.specs.Passes.{PassView, Agrees, pass_view}
use Rattle.demand_pool.specs.Pools.{LeftStays}

free-gone : Free ≡ Gone → ⊥
free-gone e = cc

holds-gone : (m : MethodId) → Holds m ≡ Gone → ⊥
holds-gone m e = cc

pub stays_on : (u : Setup) (a b c : List Event) → LeftStays u a b → LeftStays u b c → LeftStays u a c
stays_on u a b c f g w here = g w (f w here)

-- h' is h and one event of worker w behind it
module _ (u : Setup) (h h' : List Event) (w : ℕ) where
  -- the hand of w becomes y, and those who had left stay away
  hand_after : (e : Event) (x y : Hand) → h' ≡ h ++ e ∷ []
      → (step (replay u h) e).hands ≡ slice_set (replay u h).hands w y
      → slice_get (replay u h).hands w ≡ Some x → (x ≡ Gone → ⊥)
      → (slice_get (replay u h').hands w ≡ Some y) × LeftStays u h h'
  hand_after e x y is hands had stays =
      let after : (replay u h').hands ≡ slice_set (replay u h).hands w y =
      ap (λ (l : List Event). (replay u l).hands) is
      ∙ ap (λ (s : Machine). s.hands) (replay-push u h e) ∙ hands in (
        ap (λ (l : List Hand). slice_get l w) after ∙ slice_get-set_same (replay u h).hands w x y had,
        (λ v gone.
            (let P : Bool → Type 0 = λ b. (w == v) ≡ b → HasLeft (replay u h') v in
            let f : P (w == v) = elim (w == v) as P [
              | true ↦ (λ j.
                  (let same : w ≡ v = eqb_yes _ _ j in
                  let both : Some x ≡ Some Gone = sym had ∙ ap (slice_get (replay u h).hands) same ∙ gone in
                  absurd (stays (let k : x ≡ Gone = cc in k))))
              | false ↦ (λ j.
                  ap (λ (l : List Hand). slice_get l v) after
                  ∙ slice_get-set_other (replay u h).hands w v y (eqb_no _ _ j) ∙ gone)
            ] in
            f refl)),
      )

  takes_after : (e : Event) → h' ≡ h ++ e ∷ [] → takes h' ≡ takes h + take_one e
  takes_after e is =
      let a : takes h' ≡ takes (h ++ e ∷ []) = ap takes is in
      omega (arith, weigh-append take_one h (e ∷ []))

  pub after_take : (m : MethodId) (p : PassView) (made : ℕ) → h' ≡ h ++ Take w m ∷ [] → IsFree (replay u h) w
      → p ≡ pass_view w (Holds m) 0 made → Agrees (replay u h') p × LeftStays u h h' × (takes h' ≡ takes h + 1)
  after_take m p made is had pass =
      let a = hand_after (Take w m) Free (Holds m) is refl had free-gone in
      let P : PassView → Type 0 = λ q. Agrees (replay u h') q in
      (subst P (sym pass) a.0, a.1, takes_after (Take w m) is)

  pub after_leave : (v : ℕ) → w ≡ v → h' ≡ h ++ Leave w ∷ [] → IsFree (replay u h) w
      → HasLeft (replay u h') v × LeftStays u h h'
  after_leave v same is had =
      let a = hand_after (Leave w) Free Gone is refl had free-gone in
      let P : ℕ → Type 0 = λ n. HasLeft (replay u h') n in
      (subst P same a.0, a.1)

  after_park : (m k c : MethodId) → h' ≡ h ++ Park w k c ∷ [] → IsHolding (replay u h) w m
      → IsFree (replay u h') w × LeftStays u h h' × (takes h' ≡ takes h)
  after_park m k c is had =
      let a = hand_after (Park w k c) (Holds m) Free is refl had (holds-gone m) in
      let t = takes_after (Park w k c) is in
      (a.0, a.1, omega arith)

  after_publish : (m k : MethodId) → h' ≡ h ++ Publish w k ∷ [] → IsHolding (replay u h) w m
      → IsFree (replay u h') w × LeftStays u h h' × (takes h' ≡ takes h)
  after_publish m k is had =
      let a = hand_after (Publish w k) (Holds m) Free is refl had (holds-gone m) in
      let t = takes_after (Publish w k) is in
      (a.0, a.1, omega arith)

-- a turn of the pass that had number v and this hand at h0: its last event stands behind h, which is h0
module _ (u : Setup) (h0 h h' : List Event) (v w : ℕ) (hand : Hand) (m : MethodId) (p : PassView) (made : ℕ)
    (same : h ≡ h0) (number : w ≡ v) (agrees : slice_get (replay u h0).hands v ≡ Some hand) (holds : hand ≡ Holds m)
    (pass : p ≡ pass_view w Free 0 made) where
  held : IsHolding (replay u h) w m
  held = (λ i. slice_get (replay u (same i)).hands (number i)) ∙ agrees ∙ ap Some holds

  turned : IsFree (replay u h') w × LeftStays u h h' × (takes h' ≡ takes h)
      → Agrees (replay u h') p × (takes h' ≡ takes h0) × LeftStays u h0 h'
  turned a =
      let P : PassView → Type 0 = λ q. Agrees (replay u h') q in
      let Q : List Event → Type 0 = λ l. LeftStays u l h' in
      (subst P (sym pass) a.0, a.2 ∙ ap takes same, subst Q same a.1)

  -- it ends in a park, or in a publication
  pub parked_turn : (k c : MethodId) → h' ≡ h ++ Park w k c ∷ []
      → Agrees (replay u h') p × (takes h' ≡ takes h0) × LeftStays u h0 h'
  parked_turn k c is = turned (after_park u h h' w m k c is held)

  pub published_turn : (k : MethodId) → h' ≡ h ++ Publish w k ∷ []
      → Agrees (replay u h') p × (takes h' ≡ takes h0) × LeftStays u h0 h'
  published_turn k is = turned (after_publish u h h' w m k is held)
