-- What of the groups of a `switch` may be entered, and a fork of it.
use Rattle.std.proofs.Common.{◌≡◌, ◌≤◌, ◌+◌, ℕ, zero, suc, Bool, true, false, cond, ◌&&◌, ◌||◌, not, List, [], ◌∷◌}
use Rattle.std.proofs.Common.{◌++◌, Option, Some, None, length, take, drop, refl, sym, ap, ◌∙◌, append_assoc}
use Rattle.std.proofs.Common.{arith}
use Rattle.std.proofs.Math.Arith.{half_le}
use Rattle.std.proofs.Math.ListN.{length-drop}
use Rattle.std.proofs.lemmas.List.{length-take-le}
use Rattle.std.proofs.lemmas.Nat.{le-div}
use Rattle.std.specs.Prelude.{◌/◌}
use Rattle.core_lowering_drafts.specs.Drafts.{Ends, Normal, has, ends, without, in_order, is_same}
use Rattle.core_lowering_drafts.proofs.Sets.{has-append, has-filter}
use Rattle.core_lowering_rules.specs.Trees.{Expr, Stmts, Groups, no_group, group_then}
use Rattle.core_lowering_rules.specs.Context.{Context, Code, ends_of, choice}
use Rattle.core_lowering_rules.specs.Scopes.{after_all}
use Rattle.core_lowering_rules.specs.Statements.{stmts, entered, options, forked_by, forked}
use Rattle.core_lowering_parts.specs.StatementParts.{fallen, left_options}

-- ---- ends of a group

or-true : (b : Bool) → (b || true) ≡ true
or-true true = refl
or-true false = refl

and-false : (b : Bool) → (b && false) ≡ false
and-false true = refl
and-false false = refl

by-first : (b : Bool) (first rest : Ends) → b ≡ true →
    has (cond b (without Normal first ++ rest) first) Normal ≡ has rest Normal
by-first true first rest h =
    has-append (without Normal first) rest Normal
    ∙ ap (λ (b : Bool). b || has rest Normal)
    (has-filter (λ e. not (is_same Normal e)) first Normal ∙ and-false (has first Normal))
by-first false first rest h = absurd cc

-- a group ends normally where it does itself, whatever goes on in it
pub entered-normal : (before : Option Code) (group : Code) →
    has (ends_of (entered before ++ group)) Normal ≡ has (ends_of group) Normal
entered-normal None group = refl
entered-normal (Some b) group =
    let first = ends (in_order b) ++ Normal ∷ [] in
    by-first (has first Normal) first (ends (in_order group))
    (has-append (ends (in_order b)) (Normal ∷ []) Normal ∙ or-true (has (ends (in_order b)) Normal))

-- ---- one group more

abbrev falls : Code → Bool
falls group = has (ends_of group) Normal

either-same : {A : Type 0} (b : Bool) (x : A) → x ≡ cond b x x
either-same true x = refl
either-same false x = refl

next-options : (context : Context) (before : Option Code) (labels : List (Option Expr)) (ss : Stmts) (gs : Groups) →
    left_options context before (group_then labels ss gs)
    ≡ cond (falls (stmts context ss))
    (left_options (after_all context ss) (Some (entered before ++ stmts context ss)) gs)
    ((entered before ++ stmts context ss) ∷ left_options (after_all context ss) None gs)
next-options context before labels ss no_group =
    either-same (falls (stmts context ss)) ((entered before ++ stmts context ss) ∷ [])
next-options context before labels ss (group_then more us gs) =
    let group = entered before ++ stmts context ss in
    let inside = after_all context ss in
    ap (λ (b : Bool). cond b (options inside (Some group) (group_then more us gs))
    (group ∷ options inside None (group_then more us gs))) (entered-normal before (stmts context ss))

-- groups that go on each in the next, and one more
pub fallen-more : (before : Option Code) (groups : List Code) (group : Code) →
    fallen before (groups ++ group ∷ []) ≡ Some (entered (fallen before groups) ++ group)
fallen-more before [] group = refl
fallen-more before (one ∷ groups) group = fallen-more (Some (entered before ++ one)) groups group

module _ (context : Context) (labels : List (Option Expr)) (ss : Stmts) (gs : Groups) (group : Code)
    (is : group ≡ stmts context ss) (done falling : List Code) where
  next : (b : Bool) → falls group ≡ b →
      left_options context (fallen None falling) (group_then labels ss gs)
      ≡ cond b (left_options (after_all context ss) (Some (entered (fallen None falling) ++ group)) gs)
      ((entered (fallen None falling) ++ group) ∷ left_options (after_all context ss) None gs)
  next b h =
      let before = fallen None falling in
      let inside = after_all context ss in
      next-options context before labels ss gs
      ∙ ap (λ (g : Code). cond (falls g) (left_options inside (Some (entered before ++ g)) gs)
      ((entered before ++ g) ∷ left_options inside None gs)) (sym is)
      ∙ ap (λ (t : Bool). cond t (left_options inside (Some (entered before ++ group)) gs)
      ((entered before ++ group) ∷ left_options inside None gs)) h

  pub goes-on : falls group ≡ true →
      done ++ left_options context (fallen None falling) (group_then labels ss gs)
      ≡ done ++ left_options (after_all context ss) (fallen None (falling ++ group ∷ [])) gs
  goes-on h =
      ap (λ (xs : List Code). done ++ xs) (next true h)
      ∙ ap (λ (o : Option Code). done ++ left_options (after_all context ss) o gs)
      (sym (fallen-more None falling group))

  pub ends-here : falls group ≡ false →
      done ++ left_options context (fallen None falling) (group_then labels ss gs)
      ≡ (done ++ (entered (fallen None falling) ++ group) ∷ []) ++ left_options (after_all context ss) None gs
  ends-here h =
      let option = entered (fallen None falling) ++ group in
      ap (λ (xs : List Code). done ++ xs) (next false h)
      ∙ sym (append_assoc done (option ∷ []) (left_options (after_all context ss) None gs))

pub first-options : (context : Context) (gs : Groups) → left_options context None gs ≡ options context None gs
first-options context no_group = refl
first-options context (group_then labels ss gs) = refl

-- ---- forks

-- both halves of two and more are shorter
half-fits : (n : ℕ) (all : List Code) → 2 ≤ length all → length all ≤ suc n →
    length (take (length all / 2) all) ≤ n
half-fits n all more p =
    let half : length all / 2 ≤ n = half_le p in
    let within : length all / 2 ≤ length all = half_le (omega (arith, p)) in
    omega (arith, half, length-take-le (length all / 2) all within)

rest-fits : (n : ℕ) (all : List Code) → 2 ≤ length all → length all ≤ suc n →
    length (drop (length all / 2) all) ≤ n
rest-fits n all more p =
    let one : 1 ≤ length all / 2 = le-div 1 (length all) 2 (omega arith) (omega (arith, more)) in
    omega (arith, p, one, length-drop (length all / 2) all)

forked-fuel : (n m : ℕ) (all : List Code) → length all ≤ n → length all ≤ m → forked_by n all ≡ forked_by m all
forked-fuel zero zero all p q = refl
forked-fuel zero (suc m) [] p q = refl
forked-fuel zero (suc m) (x ∷ xs) p q = absurd (omega (arith, p))
forked-fuel (suc n) zero [] p q = refl
forked-fuel (suc n) zero (x ∷ xs) p q = absurd (omega (arith, q))
forked-fuel (suc n) (suc m) [] p q = refl
forked-fuel (suc n) (suc m) (x ∷ []) p q = refl
forked-fuel (suc n) (suc m) (x ∷ y ∷ xs) p q =
    let all = x ∷ y ∷ xs in
    let more : 2 ≤ length all = omega arith in
    let half = take (length all / 2) all in
    let rest = drop (length all / 2) all in
    ap (λ (c : Code). choice c (forked_by n rest))
    (forked-fuel n m half (half-fits n all more p) (half-fits m all more q))
    ∙ ap (λ (c : Code). choice (forked_by m half) c)
    (forked-fuel n m rest (rest-fits n all more p) (rest-fits m all more q))

pub fork-made : (all : List Code) → 2 ≤ length all →
    choice (forked (take (length all / 2) all)) (forked (drop (length all / 2) all)) ≡ forked all
fork-made [] more = absurd (omega (arith, more))
fork-made (x ∷ []) more = absurd (omega (arith, more))
fork-made (x ∷ y ∷ xs) more =
    let all = x ∷ y ∷ xs in
    let n = length (y ∷ xs) in
    let half = take (length all / 2) all in
    let rest = drop (length all / 2) all in
    let p : length all ≤ suc n = omega arith in
    ap (λ (c : Code). choice c (forked rest))
    (forked-fuel (length half) n half (omega arith) (half-fits n all more p))
    ∙ ap (λ (c : Code). choice (forked_by n half) c)
    (forked-fuel (length rest) n rest (omega arith) (rest-fits n all more p))
