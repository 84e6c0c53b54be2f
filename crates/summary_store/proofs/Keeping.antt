-- An event more behind the lock.
use Rattle.std.proofs.Common.{◌≡◌, ℕ, zero, suc, ◌+◌, ◌<◌, List, [], ◌∷◌, ◌++◌, length, Bool, true, false, cond}
use Rattle.std.proofs.Common.{Option, Some, None, refl, sym, ap, ◌∙◌, subst, arith, replicate}
use Rattle.std.proofs.Common.{length-append}
use Rattle.std.specs.Prelude.{◌==◌, slice_get, slice_set, All, IfSome, IfNone, IfOk, Result, Ok, Err, option_map}
use Rattle.std.specs.Prelude.{◌↔◌}
use Rattle.std.specs.List.{list_all}
use Rattle.std.proofs.lemmas.List.Elements.{All-cons, All-head, All-nil, All-tail}
use Rattle.std.proofs.lemmas.Option.{slice_get_within}
use Rattle.racer_base.specs.declared.ids.MethodId.{MethodId}
use Rattle.core_code.specs.Counting.{times, IsIn}
use Rattle.core_code.specs.Chains.{row_of}
use Rattle.summary_store.specs.declared.machine.Event.{Event}
use Rattle.summary_store.specs.declared.machine.Event.TheVariants.{Take, Park, Publish, Leave}
use Rattle.summary_store.specs.declared.machine.Hand.{Hand}
use Rattle.summary_store.specs.declared.machine.Hand.TheVariants.{Free, Holds, Gone}
use Rattle.summary_store.specs.Machine.{Setup, Machine, start, step, run, LegalAt, LegalFrom, Legal, replay, next_of}
use Rattle.summary_store.specs.Machine.{IsDone}
use Rattle.row_links.specs.Lists.{moved, spliced}
use Rattle.std.proofs.lemmas.List.{length-map}
use Rattle.std.proofs.lemmas.Bool.{and_from, and_parts}
use Rattle.summary_store.specs.Lists.{numbered, next_front, next_taken, AreLists, IsRoused}
use Rattle.summary_store.specs.Passes.{is_gone}
use Rattle.summary_store.proofs.Listing.{roused, taken, leaves, next_is, rouses, puts_aside, wakes}
use Rattle.summary_store.specs.Kept.{Kept, HasRoom, pieces_of, IsPieceOf, IsRight, has_piece}
use Rattle.summary_store.specs.Passes.{WantsNext, MayPublish, IsRowDone, held_in}
use Rattle.summary_store.proofs.Weights.{weigh-get, times-append, times_taken, eqb_same, eqb_yes, eqb_no}
use Rattle.summary_store.proofs.Weights.{slice_get-set_other, length-slice_set, replicate-push}
use Rattle.summary_store.proofs.Sound.{Sound, sound, held_here}
use Rattle.summary_store.proofs.Ends.{events_bounded, takes_bounded, complete}

run-push : (s : Machine) (h : List Event) (e : Event) → run s (h ++ e ∷ []) ≡ step (run s h) e
run-push s [] e = refl
run-push s (x ∷ xs) e = run-push (step s x) xs e

legal-push : (u : Setup) (s : Machine) (h : List Event) (e : Event) → LegalFrom u s h → LegalAt u (run s h) e →
    LegalFrom u s (h ++ e ∷ [])
legal-push u s [] e h legal = (legal, tt)
legal-push u s (x ∷ xs) e h legal = (h.0, legal-push u (step s x) xs e h.1 legal)

pub replay-push : (u : Setup) (h : List Event) (e : Event) → replay u (h ++ e ∷ []) ≡ step (replay u h) e
replay-push u h e = run-push (start u) h e

row_get : (ms : List MethodId) (i : ℕ) (c : MethodId) → slice_get ms i ≡ Some c → IsIn c ms
row_get ms i c is =
    let here : cond {A = ℕ} (c.0 == c.0) 1 0 ≡ 1 = ap (λ (b : Bool). cond {A = ℕ} b 1 0) (eqb_same c.0) in
    omega (arith, weigh-get (λ (k : MethodId). cond {A = ℕ} (k.0 == c.0) 1 0) ms i c is)

pub callee_in_row : (rows : List (List MethodId)) (hand : Hand) (found : ℕ) (m c : MethodId) → hand ≡ Holds m →
    WantsNext rows hand found c → IsIn c (row_of rows m)
callee_in_row rows hand found m c is next = let P : Hand → Type 0 = λ h. WantsNext rows h found c in
    row_get (row_of rows m) found c (subst P is next)

pub wants_holds : (rows : List (List MethodId)) (hand : Hand) (found : ℕ) (c : MethodId) →
    WantsNext rows hand found c → hand ≡ Holds (held_in hand)
wants_holds rows Free found c next = absurd next
wants_holds rows (Holds m) found c next = refl
wants_holds rows Gone found c next = absurd next

pub ok_then : {A E : Type 0} (r : Result A E) {P Q : A → Type 0} → IfOk r P → ((x : A) → P x → Q x) → IfOk r Q
ok_then (Ok x) p f = f x p
ok_then (Err e) p f = tt

pub length-pieces_of : {A P : Type 0} (value : A → P) (table : List (Option A)) →
    length (pieces_of value table) ≡ length table
length-pieces_of value [] = refl
length-pieces_of value (x ∷ xs) = ap suc (length-pieces_of value xs)

pub pieces_of-set : {A P : Type 0} (value : A → P) (table : List (Option A)) (i : ℕ) (x : A) →
    pieces_of value (slice_set table i (Some x)) ≡ slice_set (pieces_of value table) i (Some (value x))
pieces_of-set value [] i x = refl
pieces_of-set value (y ∷ ys) zero x = refl
pieces_of-set value (y ∷ ys) (suc i) x = ap (λ l. option_map value y ∷ l) (pieces_of-set value ys i x)

-- what a pass that may publish shows
pub may_publish : {P : Type 0} (fits : ℕ → P → Type 0) (rows : List (List MethodId)) (s : Machine) (hand : Hand)
    (m : MethodId) (piece : P) → hand ≡ Holds m → MayPublish fits rows s hand piece →
    All (IsDone s) (row_of rows m) × fits m.0 piece
may_publish fits rows s hand m piece is may = let Q : Hand → Type 0 = λ h. MayPublish fits rows s h piece in
    subst Q is may

table_same : {X : Type 0} (table : List (Option X)) (i : ℕ) (y : Option X) → i < length table →
    slice_get (slice_set table i y) i ≡ Some y
table_same [] i y low = absurd (omega arith)
table_same (x ∷ xs) zero y low = refl
table_same (x ∷ xs) (suc i) y low = table_same xs i y (omega arith)

pieces_of-append : {A P : Type 0} (value : A → P) (xs ys : List (Option A)) →
    pieces_of value (xs ++ ys) ≡ pieces_of value xs ++ pieces_of value ys
pieces_of-append value [] ys = refl
pieces_of-append value (x ∷ xs) ys = ap (λ l. option_map value x ∷ l) (pieces_of-append value xs ys)

pub pieces_of-push : {A P : Type 0} (value : A → P) (now then : List (Option A)) (n : ℕ) → then ≡ now ++ None ∷ [] →
    pieces_of value now ≡ replicate n None → pieces_of value then ≡ replicate (n + 1) None
pieces_of-push {P = P} value now then n e f = ap (pieces_of value) e ∙ pieces_of-append value now (None ∷ [])
    ∙ ap (λ (l : List (Option P)). l ++ None ∷ []) f ∙ replicate-push n None

pub past : {X : Type 0} (xs : List X) (i : ℕ) → slice_get xs i ≡ None → i < length xs → ⊥
past [] i e low = absurd (omega arith)
past (x ∷ xs) zero e low = cc
past (x ∷ xs) (suc i) e low = past xs i e (omega arith)

-- a hand that holds nothing has no row
pub no_row_done : (rows : List (List MethodId)) (s : Machine) (hand : Hand) → ((m : MethodId) → hand ≡ Holds m → ⊥) →
    (false ≡ true) ↔ IsRowDone rows s hand
no_row_done rows s Free not = ((λ e. cc), (λ none. absurd none))
no_row_done rows s (Holds m) not = absurd (not m refl)
no_row_done rows s Gone not = ((λ e. cc), (λ none. absurd none))

-- ---- what the value behind the lock keeps

module _ {X : Type 0} {fits : ℕ → X → Type 0} {u : Setup} {h : List Event} {lists : List (List ℕ)} {left : List Bool}
    {table : List (Option X)} {total : ℕ} (k : Kept fits u h lists left table total) where
  pub sound_of : Sound u h (replay u h)
  sound_of = sound u k.setup.rank h k.setup.some k.setup.ranked k.legal

  -- a legal event finds room
  pub room_left : (e : Event) → LegalAt u (replay u h) e → (a : ℕ) → HasRoom u a → length h < a
  room_left e legal a room =
      let more = events_bounded u k.setup.rank (h ++ e ∷ []) k.setup.some k.setup.ranked
      (legal-push u (start u) h e k.legal legal) in
      omega (arith, room.events, length-append h (e ∷ []))

  -- the value behind the lock after an event that publishes nothing
  pub keeps : (e : Event) → LegalAt u (replay u h) e
      → (h' : List Event) → h' ≡ h ++ e ∷ []
      → (lists' : List (List ℕ)) (left' : List Bool) → AreLists u (step (replay u h) e) lists' left'
      → (total' : ℕ) → total' ≡ total + 1
      → (step (replay u h) e).done ≡ (replay u h).done
      → Kept fits u h' lists' left' table total'
  keeps e legal h' h'is lists' left' are total' total_is done =
      let after : replay u h' ≡ step (replay u h) e = ap (replay u) h'is ∙ replay-push u h e in
      let same : (replay u h').done ≡ (replay u h).done = ap (λ (s : Machine). s.done) after ∙ done in
      record {
        setup = k.setup;
        legal = (let P : List Event → Type 0 = λ l. Legal u l in
            subst P (sym h'is) (legal-push u (start u) h e k.legal legal));
        are_lists = (let P : Machine → Type 0 = λ s. AreLists u s lists' left' in subst P (sym after) are);
        pieces = λ m x is. (let i = k.pieces m x is in
            (i.0, (let P : List MethodId → Type 0 = λ d. 0 < times m d in subst P (sym same) i.1)));
        none = λ m is. ap (times m) same ∙ k.none m is;
        places = k.places;
        lines = k.lines;
        counted = (let l : length h' ≡ length (h ++ e ∷ []) = ap length h'is in
            omega (arith, k.counted, length-append h (e ∷ [])));
      }

  -- there is a hand for each worker
  pub every_number_fits : length (replay u h).hands ≡ u.workers
  every_number_fits = (sound_of).hands

  -- what next_method finds is legal to take, and analysed
  pub take_legal : (o : Option MethodId) → o ≡ numbered (next_front lists) → o ≡ next_of (replay u h)
  take_legal o is = is ∙ sym (next_is k.are_lists every_number_fits)

  pub taken_is_analysed : (m : MethodId) → next_of (replay u h) ≡ Some m → IsIn m u.methods
  taken_is_analysed m next =
      let ok = sound_of in
      let here : cond {A = ℕ} (m.0 == m.0) 1 0 ≡ 1 = ap (λ (b : Bool). cond {A = ℕ} b 1 0) (eqb_same m.0) in
      let s = replay u h in
      omega (arith, ok.one m.0, times_taken m.0 s.ready s.idle m next)

  pub number_fits : (w : ℕ) (hand : Hand) → slice_get (replay u h).hands w ≡ Some hand → w < length left
  number_fits w hand is = let low = slice_get_within (replay u h).hands w hand is in
      let long = ap length k.are_lists.flags ∙ length-map (replay u h).hands is_gone in omega arith

  pub flags_fit : length left ≡ u.workers
  flags_fit = ap length k.are_lists.flags ∙ length-map (replay u h).hands is_gone ∙ every_number_fits

  -- a pass that agrees with the history that contracts see agrees with the one inside
  pub agreed : (now : List Event) (w n : ℕ) (hand is : Hand) → h ≡ now → n ≡ w →
      slice_get (replay u now).hands w ≡ Some hand → hand ≡ is → slice_get (replay u h).hands n ≡ Some is
  agreed now w n hand is same number agrees this = (λ i. slice_get (replay u (same i)).hands (number i)) ∙ agrees
      ∙ ap Some this

  pub keeps_take : (w : ℕ) (m : MethodId) → LegalAt u (replay u h) (Take w m)
      → (h' : List Event) → h' ≡ h ++ Take w m ∷ []
      → (lists' : List (List ℕ)) → lists' ≡ next_taken w lists
      → (total' : ℕ) → total' ≡ total + 1
      → Kept fits u h' lists' left table total'
  keeps_take w m legal h' h'is lists' lists'are total' total'is =
      keeps (Take w m) legal h' h'is lists' left
      (taken k.are_lists every_number_fits w m legal.0 lists' lists'are legal.1) total' total'is refl

  pub keeps_leave : (w : ℕ) → LegalAt u (replay u h) (Leave w)
      → (h' : List Event) → h' ≡ h ++ Leave w ∷ []
      → (lists' : List (List ℕ)) → lists' ≡ next_taken w lists
      → (total' : ℕ) → total' ≡ total + 1
      → Kept fits u h' lists' (slice_set left w true) table total'
  keeps_leave w legal h' h'is lists' lists'are total' total'is =
      keeps (Leave w) legal h' h'is lists' (slice_set left w true)
      (leaves k.are_lists every_number_fits w legal.0 legal.1 lists' lists'are _ refl) total' total'is refl

  pub held_method : (w : ℕ) (m : MethodId) → slice_get (replay u h).hands w ≡ Some (Holds m) → IsIn m u.methods
  held_method w m holds = (held_here u k.setup.rank h (replay u h) w m k.setup.ranked (sound_of) holds).0

  -- the callee that a pass wants is analysed
  pub callee_known : (w : ℕ) (hand : Hand) (found : ℕ) (c : MethodId) → slice_get (replay u h).hands w ≡ Some hand →
      WantsNext u.rows hand found c → IsIn c u.methods
  callee_known w hand found c is next =
      let holds = wants_holds _ hand found c next in
      k.setup.ranked.closed (held_in hand) c (held_method w (held_in hand) (is ∙ ap Some holds))
      (callee_in_row _ hand found (held_in hand) c holds next)

  pub callee_line : (w : ℕ) (hand : Hand) (found : ℕ) (m c : MethodId) →
      slice_get (replay u h).hands w ≡ Some (Holds m) → hand ≡ Holds m → WantsNext u.rows hand found c →
      c.0 < length u.rows
  callee_line w hand found m c holds is next =
      k.lines c (callee_known w hand found c (holds ∙ ap Some (sym is)) next)

  -- what stands in the place of a callee
  pub found_piece : {A : Type 0} →
      (now : List Event) → h ≡ now → (value : A → X) (c : MethodId) (o : Option A) →
      slice_get table c.0 ≡ Some (option_map value o) →
      IfSome o (λ a. fits c.0 (value a) × IsDone (replay u now) c) × IfNone o (times c.0 (replay u now).done ≡ 0)
  found_piece now same value c None is = (
    tt,
    ap (λ (l : List Event). times c.0 (replay u l).done) (sym same)
        ∙ k.none c.0 is,
  )
  found_piece now same value c (Some a) is = let p = k.pieces c.0 (value a) is in
      ((p.0, (let P : List Event → Type 0 = λ l. IsDone (replay u l) c in subst P same p.1)), tt)

  pub not_done_inside : (now : List Event) (c : ℕ) → h ≡ now → times c (replay u now).done ≡ 0 →
      times c (replay u h).done ≡ 0
  not_done_inside now c same none = ap (λ (l : List Event). times c (replay u l).done) same ∙ none

  -- the lists in which a callee was roused
  pub are_roused : (c : MethodId) (lists' : List (List ℕ)) → IsRoused c.0 lists lists' →
      AreLists u (roused c.0 (replay u h)) lists' left
  are_roused c lists' r = rouses k.are_lists every_number_fits c lists' r

  pub keeps_park : (w : ℕ) (m c : MethodId) → LegalAt u (replay u h) (Park w m c) → c.0 < length u.rows
      → (h' : List Event) → h' ≡ h ++ Park w m c ∷ []
      → (woken : List (List ℕ)) → IsRoused c.0 lists woken
      → (lists' : List (List ℕ)) → lists' ≡ moved m.0 (4 + u.workers + c.0) woken
      → (total' : ℕ) → total' ≡ total + 1
      → Kept fits u h' lists' left table total'
  keeps_park w m c legal low h' h'is woken r lists' lists'are total' total'is =
      keeps (Park w m c) legal h' h'is lists' left
      (puts_aside (are_roused c woken r) every_number_fits w m c legal.0 low lists' lists'are) total' total'is refl

  pub publish_legal : (now : List Event) (w : ℕ) (hand : Hand) (m : MethodId) (piece : X) → h ≡ now →
      slice_get (replay u h).hands w ≡ Some (Holds m) → hand ≡ Holds m →
      MayPublish fits u.rows (replay u now) hand piece → LegalAt u (replay u h) (Publish w m) × fits m.0 piece
  publish_legal now w hand m piece same agrees is may =
      let p = may_publish fits u.rows (replay u now) hand m piece is may in
      let Q : List Event → Type 0 = λ l. All (IsDone (replay u l)) (row_of u.rows m) in
      ((agrees, subst Q (sym same) p.0), p.1)

  pub keeps_publish : (w : ℕ) (m : MethodId) (piece : X) → LegalAt u (replay u h) (Publish w m) → fits m.0 piece
      → (h' : List Event) → h' ≡ h ++ Publish w m ∷ []
      → (lists' : List (List ℕ)) → lists' ≡ spliced (4 + u.workers + m.0) 1 (moved m.0 2 lists)
      → (table' : List (Option X)) → table' ≡ slice_set table m.0 (Some piece)
      → (total' : ℕ) → total' ≡ total + 1
      → Kept fits u h' lists' left table' total'
  keeps_publish w m piece legal right h' h'is lists' lists'are table' table'is total' total'is =
      let e = Publish w m in
      let after : replay u h' ≡ step (replay u h) e = ap (replay u) h'is ∙ replay-push u h e in
      let done : (x : ℕ) → times x (replay u h').done ≡ times x (replay u h).done + cond {A = ℕ} (m.0 == x) 1 0 =
      λ x. let a = ap (λ (s : Machine). times x s.done) after in
      omega (arith, times-append x (replay u h).done (m ∷ [])) in
      let here : cond {A = ℕ} (m.0 == m.0) 1 0 ≡ 1 = ap (λ (b : Bool). cond {A = ℕ} b 1 0) (eqb_same m.0) in
      let inside = k.places m (held_method w m legal.0) in
      let at : slice_get table' m.0 ≡ Some (Some piece) = ap (λ (l : List (Option X)). slice_get l m.0) table'is
      ∙ table_same table m.0 (Some piece) inside in
      let other : (x : ℕ) → (m.0 ≡ x → ⊥) → slice_get table' x ≡ slice_get table x =
      λ x apart. ap (λ (l : List (Option X)). slice_get l x) table'is
      ∙ slice_get-set_other table m.0 x (Some piece) apart in
      record {
        setup = k.setup;
        legal = (let P : List Event → Type 0 = λ l. Legal u l in
            subst P (sym h'is) (legal-push u (start u) h e k.legal legal));
        are_lists = (let P : Machine → Type 0 = λ s. AreLists u s lists' left in subst P (sym after)
            (wakes k.are_lists every_number_fits w m legal.0 lists' lists'are));
        pieces = λ x p is.
            (let Q : Bool → Type 0 = λ b. (m.0 == x) ≡ b → fits x p × (0 < times x (replay u h').done) in
            let f : Q (m.0 == x) = elim (m.0 == x) as Q [
              | true ↦ (λ j. let same : m.0 ≡ x = eqb_yes _ _ j in
                  let same_piece : Some (Some piece) ≡ Some (Some p) = sym at ∙ ap (slice_get table') same ∙ is in
                  let this : piece ≡ p = cc in
                  let R : ℕ → X → Type 0 = λ n q. fits n q × (0 < times n (replay u h').done) in
                  let S : ℕ → Type 0 = λ n. R n p in let T : X → Type 0 = λ q. R m.0 q in
                  subst S same (subst T this (right, omega (arith, done m.0))))
              | false ↦ (λ j. let old = k.pieces x p (sym (other x (eqb_no _ _ j)) ∙ is) in
                  (old.0, omega (arith, done x, old.1)))
            ] in f refl);
        none = λ x is.
            (let Q : Bool → Type 0 = λ b. (m.0 == x) ≡ b → times x (replay u h').done ≡ 0 in
            let f : Q (m.0 == x) = elim (m.0 == x) as Q [
              | true ↦ (λ j. let same : m.0 ≡ x = eqb_yes _ _ j in
                  let same_piece : Some (Some piece) ≡ Some None = sym at ∙ ap (slice_get table') same ∙ is in cc)
              | false ↦ (λ j. let old = k.none x (sym (other x (eqb_no _ _ j)) ∙ is) in
                  let z : cond {A = ℕ} (m.0 == x) 1 0 ≡ 0 = ap (λ (b : Bool). cond {A = ℕ} b 1 0) j in
                  omega (arith, done x))
            ] in f refl);
        places = λ x known. (let l : length table' ≡ length table = ap length table'is
            ∙ length-slice_set table m.0 (Some piece) in omega (arith, k.places x known));
        lines = k.lines;
        counted = (let l : length h' ≡ length (h ++ e ∷ []) = ap length h'is in
            omega (arith, k.counted, length-append h (e ∷ [])));
      }

  -- the hand that contracts see is the one inside
  pub hand_seen : (now : List Event) (w n : ℕ) (hand : Hand) → h ≡ now → n ≡ w →
      slice_get (replay u h).hands n ≡ Some hand → slice_get (replay u now).hands w ≡ Some hand
  hand_seen now w n hand same number is = (λ i. slice_get (replay u (sym same i)).hands (sym number i)) ∙ is

  -- a place with a piece is that of a method that is done
  pub there_is_done : (m : MethodId) (o : Option (Option X)) → slice_get table m.0 ≡ o → has_piece o ≡ true →
      IsDone (replay u h) m
  there_is_done m None is there = cc
  there_is_done m (Some None) is there = cc
  there_is_done m (Some (Some x)) is there = (k.pieces m.0 x is).1

  -- and the other way round
  pub done_is_there : (m : MethodId) → IsDone (replay u h) m → has_piece (slice_get table m.0) ≡ true
  done_is_there m done =
      elim (slice_get table m.0) as (λ o. slice_get table m.0 ≡ o → has_piece o ≡ true) [
        | None ↦ λ e.
            let ok = sound_of in
            let known : IsIn m u.methods = omega (arith, ok.one m.0) in
            absurd (past table m.0 e (k.places m known))
        | Some o ↦ λ e.
            elim o as (λ x. slice_get table m.0 ≡ Some x → has_piece (Some x) ≡ true) [
              | None ↦ λ is. absurd (let none = k.none m.0 is in omega arith)
              | Some x ↦ λ is. refl
            ] e
      ] refl

  all_done : (ms : List MethodId) → list_all (λ (c : MethodId). has_piece (slice_get table c.0)) ms ≡ true →
      All (IsDone (replay u h)) ms
  all_done [] there = All-nil (IsDone (replay u h))
  all_done (m ∷ ms) there =
      let others = list_all (λ (c : MethodId). has_piece (slice_get table c.0)) ms in
      All-cons (IsDone (replay u h)) m ms
      (there_is_done m (slice_get table m.0) refl (and_parts (has_piece (slice_get table m.0)) others there).0)
      (all_done ms (and_parts (has_piece (slice_get table m.0)) others there).1)

  all_there : (ms : List MethodId) → All (IsDone (replay u h)) ms →
      list_all (λ (c : MethodId). has_piece (slice_get table c.0)) ms ≡ true
  all_there [] done = refl
  all_there (m ∷ ms) done =
      and_from (has_piece (slice_get table m.0)) (list_all (λ (c : MethodId). has_piece (slice_get table c.0)) ms)
      (done_is_there m (All-head (IsDone (replay u h)) m ms done))
      (all_there ms (All-tail (IsDone (replay u h)) m ms done))

  -- the row of the method in a hand is done exactly where each of its methods has a piece
  pub row_done_or_not : (now : List Event) → h ≡ now → (rows : List (List MethodId)) → rows ≡ u.rows → (hand : Hand)
      (m : MethodId) → hand ≡ Holds m → (row : List MethodId) → row ≡ row_of rows m →
      (list_all (λ (c : MethodId). has_piece (slice_get table c.0)) row ≡ true) ↔ IsRowDone u.rows (replay u now) hand
  row_done_or_not now same rows rows'are hand m is row row'is =
      let Whole : Type 0 = list_all (λ (c : MethodId). has_piece (slice_get table c.0)) row ≡ true in
      let base : Whole ↔ All (IsDone (replay u h)) row = (all_done row, all_there row) in
      let A : List MethodId → Type 0 = λ ms. Whole ↔ All (IsDone (replay u h)) ms in
      let B : List (List MethodId) → Type 0 = λ rs. Whole ↔ All (IsDone (replay u h)) (row_of rs m) in
      let C : List Event → Type 0 = λ l. Whole ↔ All (IsDone (replay u l)) (row_of u.rows m) in
      let D : Hand → Type 0 = λ x. Whole ↔ IsRowDone u.rows (replay u now) x in
      subst D (sym is) (subst C same (subst B rows'are (subst A row'is base)))

-- what the value behind the lock shows of its history and table
pub right_of : {P : Type 0} {names : P → MethodId} {right : P → Type 0} {u : Setup} {h : List Event}
    {lists : List (List ℕ)} {left : List Bool} {table : List (Option P)} {total : ℕ}
    {now : List Event × List (Option P)} → Kept (IsPieceOf names right) u h lists left table total →
    ◌≡◌ {A = List Event × List (Option P)} (h, table) now → IsRight names right u now.0 now.1
right_of {P = P} {names = names} {right = right} {u = u} k same =
    let G : List Event × List (Option P) → Type 0 = λ v. IsRight names right u v.0 v.1 in
    subst G same (record {
      legal = k.legal;
      pieces = k.pieces;
      none = k.none;
      places = k.places;
      held = λ w m is. held_method k w m is;
      taken = takes_bounded u k.setup.rank _ k.setup.some k.setup.ranked k.legal;
      known = λ m some. (let ok = sound_of k in omega (arith, ok.one m));
      complete = λ gone. complete u k.setup.rank _ k.setup.some k.setup.ranked k.legal gone;
    })
