-- Numbers by names and keys, with one more element.
use Rattle.std.proofs.Common.{◌≡◌, ℕ, ◌+◌, ◌<◌, ◌≤◌, Bool, true, false, ◌||◌, List, [], ◌∷◌, ◌++◌, Some, None}
use Rattle.std.proofs.Common.{length, get_or, take, refl, sym, ap, subst, ◌∙◌, arith}
use Rattle.std.specs.Prelude.{Option, ◌&&◌, bytes_eq, is_none, is_some, not, slice_get}
use Rattle.std.specs.Option.{IsSomeAnd}
use Rattle.std.proofs.lemmas.List.{take_more, take_all, length-take-le, length_push, get_or_push, get_or_append_left}
use Rattle.std.proofs.lemmas.List.Folds.{list_any-append}
use Rattle.std.proofs.lemmas.Option.{slice_get-get_or, slice_get_within, get_or_from_slice_get}
use Rattle.racer_base.proofs.Lists.{option_or-none}
use Rattle.racer_base.specs.declared.ids.ClassId.{ClassId}
use Rattle.core_code.specs.declared.parts.MethodCore.{MethodCore}
use Rattle.keyed_numbers.specs.Numbers.{Key, Named, key_eq, number_at, or_added, AddsNumber}
use Rattle.transfer_ties.specs.Names.{IsNumberOf, AreNumbers, AddsOne, class_at, is_under, method_belongs}

get_last : {A : Type 0} (ys : List A) (x : A) (i : ℕ) → length ys ≡ i → slice_get (ys ++ x ∷ []) i ≡ Some x
get_last ys x i size =
    let long : length (ys ++ x ∷ []) ≡ length ys + 1 = length_push ys x in
    slice_get-get_or (ys ++ x ∷ []) i x (omega arith) ∙ ap Some (get_or_push ys x x i size)

get_earlier : {A : Type 0} (ys : List A) (x : A) (n : ℕ) (y : A) → slice_get ys n ≡ Some y →
    slice_get (ys ++ x ∷ []) n ≡ Some y
get_earlier ys x n y e =
    let inside : n < length ys = slice_get_within ys n y e in
    let long : length (ys ++ x ∷ []) ≡ length ys + 1 = length_push ys x in
    slice_get-get_or (ys ++ x ∷ []) n y (omega arith)
    ∙ ap Some (get_or_append_left ys (x ∷ []) y n inside ∙ get_or_from_slice_get ys n y y e)

module _ {A : Type 0} (test : A → Bool) where
  still_there : (ys : List A) (x : A) (n : ℕ) → IsSomeAnd (slice_get ys n) (λ y. test y ≡ true) →
      IsSomeAnd (slice_get (ys ++ x ∷ []) n) (λ y. test y ≡ true)
  still_there ys x n there =
      elim (slice_get ys n) as (λ o. slice_get ys n ≡ o → IsSomeAnd o (λ y. test y ≡ true) →
      IsSomeAnd (slice_get (ys ++ x ∷ []) n) (λ y. test y ≡ true)) [
        | None ↦ λ e h. absurd h
        | Some y ↦ λ e h. subst (λ (o : Option A). IsSomeAnd o (λ z. test z ≡ true)) (sym (get_earlier ys x n y e)) h
      ] refl there

  number_added : (ys : List A) (x : A) (i : ℕ) → length ys ≡ i → (o : Option ℕ) → IsNumberOf test ys o →
      IsNumberOf test (ys ++ x ∷ []) (or_added (test x) i o)
  number_added ys x i size (Some n) there = still_there ys x n there
  number_added ys x i size None none =
      elim (test x) as (λ b. test x ≡ b → IsNumberOf test (ys ++ x ∷ []) (or_added b i None)) [
        | true ↦ λ e. subst (λ (o : Option A). IsSomeAnd o (λ y. test y ≡ true)) (sym (get_last ys x i size)) e
        | false ↦ λ e.
            list_any-append test ys (x ∷ []) ∙ ap (λ b. b || (test x || false)) none ∙ ap (λ b. b || false) e
      ] refl

module _ {A : Type 0} (belongs : List ℕ → Key → A → Bool) where
  pub numbers_none : (numbers : Named) → ((name : List ℕ) (key : Key) → number_at numbers name key ≡ None) →
      AreNumbers belongs [] numbers
  numbers_none numbers none name key = subst (IsNumberOf (belongs name key) []) (sym (none name key)) refl

  pub numbers_next : (old new : Named) (xs : List A) (i : ℕ) (x : A) → i < length xs → x ≡ get_or xs i x →
      AreNumbers belongs (take i xs) old → AddsOne belongs old new x i → AreNumbers belongs (take (i + 1) xs) new
  numbers_next old new xs i x within is before adds name key =
      let front : take (i + 1) xs ≡ take i xs ++ x ∷ [] =
      take_more xs i x within ∙ ap (λ (y : A). take i xs ++ y ∷ []) (sym is) in
      let size : length (take i xs) ≡ i = length-take-le i xs (omega arith) in
      subst (λ (ys : List A). IsNumberOf (belongs name key) ys (number_at new name key)) (sym front)
      (subst (IsNumberOf (belongs name key) (take i xs ++ x ∷ [])) (sym (adds name key))
      (number_added (belongs name key) (take i xs) x i size (number_at old name key) (before name key)))

  pub numbers_all : (numbers : Named) (xs : List A) (i : ℕ) → length xs ≤ i → AreNumbers belongs (take i xs) numbers →
      AreNumbers belongs xs numbers
  numbers_all numbers xs i past before =
      subst (λ (ys : List A). AreNumbers belongs ys numbers) (take_all i xs past) before

  -- an element that belongs nowhere
  pub adds_nothing : (numbers : Named) (x : A) (number : ℕ) →
      ((name : List ℕ) (key : Key) → belongs name key x ≡ false) → AddsOne belongs numbers numbers x number
  adds_nothing numbers x number nowhere name key =
      sym (ap (λ b. or_added b number (number_at numbers name key)) (nowhere name key)
      ∙ option_or-none (number_at numbers name key))

-- an element that belongs at its name and key alone
pub adds_named : (old new : Named) (number : ℕ) (name own : List ℕ) (key : Key) → name ≡ own →
    AddsNumber old new name key number → AddsNumber old new own key number
adds_named old new number name own key same adds =
    subst (λ (text : List ℕ). AddsNumber old new text key number) same adds

module _ (classes : List (Option ClassId)) (m : MethodCore) where
  unread : is_some m.status ≡ true → (name : List ℕ) (key : Key) → method_belongs classes name key m ≡ false
  unread there name key = ap (λ b. not b && is_under (class_at classes m.class) name key m) there

  classless : class_at classes m.class ≡ None → (name : List ℕ) (key : Key) → method_belongs classes name key m ≡ false
  classless none name key =
      ap (λ (o : Option ClassId). is_none m.status && is_under o name key m) none ∙ never (is_none m.status)
    where
      never : (b : Bool) → (b && false) ≡ false
      never true = refl
      never false = refl

  pub adds_unread : (numbers : Named) (number : ℕ) → is_some m.status ≡ true →
      AddsOne (method_belongs classes) numbers numbers m number
  adds_unread numbers number there =
      adds_nothing (method_belongs classes) numbers m number (λ name key. unread there name key)

  pub adds_classless : (numbers : Named) (number : ℕ) → class_at classes m.class ≡ None →
      AddsOne (method_belongs classes) numbers numbers m number
  adds_classless numbers number none =
      adds_nothing (method_belongs classes) numbers m number (λ name key. classless none name key)

  pub adds_method : (old new : Named) (number : ℕ) (c : ClassId) (count : ℕ) (name : List ℕ) → name ≡ m.name →
      is_some m.status ≡ false → class_at classes m.class ≡ Some c → count ≡ length m.parameters →
      AddsNumber old new name (c.0, count) number → AddsOne (method_belongs classes) old new m number
  adds_method old new number c count name own read there few adds other key =
      adds other key
      ∙ ap (λ b. or_added b number (number_at old other key))
      (ap (λ (text : List ℕ). bytes_eq text other && key_eq (c.0, count) key) own
      ∙ ap (λ (n : ℕ). bytes_eq m.name other && key_eq (c.0, n) key) few
      ∙ sym (ap (λ (o : Option ClassId). is_none m.status && is_under o other key m) there
      ∙ ap (λ b. not b && is_under (Some c) other key m) read))
