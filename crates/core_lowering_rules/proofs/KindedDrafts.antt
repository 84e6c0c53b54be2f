-- Drafts of statements whose code leaves the empty stack empty, whichever ends are asked for.
use Rattle.std.proofs.Common.{◌≡◌, ℕ, Bool, true, false, cond, List, [], ◌∷◌, ◌++◌, Option, Some, refl, sym, ap, subst}
use Rattle.std.proofs.Common.{◌∙◌, ◌&&◌, ◌||◌}
use Rattle.std.specs.List.{flat_map, list_all}
use Rattle.racer_base.specs.declared.ids.Kind.{Kind}
use Rattle.racer_base.specs.declared.ids.Kind.TheVariants as types
use Rattle.racer_base.specs.declared.ids.Place.{Place}
use Rattle.racer_base.specs.declared.ids.VarId.{VarId}
use Rattle.core_code.specs.declared.code.LockKind.{LockKind}
use Rattle.core_code.specs.declared.code.Op.{Op as CoreOp}
use Rattle.core_code.specs.declared.code.Op.TheVariants.{PushNull, Drop, Set, Ret}
use Rattle.core_code.specs.Core.{Core, Method}
use Rattle.core_code.specs.Kinds.{StackKind, Null, fits}
use Rattle.core_code.specs.KindCheck.{variable_at, after_set, where_true}
use Rattle.core_lowering_drafts.specs.Drafts.{Normal, Exit, Ends, is_same, has, do_meet, exits, on, without, Part, Op}
use Rattle.core_lowering_drafts.specs.Drafts.{Choice}
use Rattle.core_lowering_drafts.specs.Drafts.{Loop, Sync}
use Rattle.core_lowering_drafts.specs.Drafts.{Leave, Within, Never, Ending, Behind, in_order, part_ends}
use Rattle.core_lowering_drafts.specs.Only.{Code as Trees, one, fork, cleared, Rest, Last, Unmet, Met, are_met, before}
use Rattle.core_lowering_drafts.specs.Only.{only_part, onto, only, all_ends}
use Rattle.core_lowering_drafts.specs.Plain.{plain_code}
use Rattle.core_lowering_drafts.proofs.Sequences.{onto-append}
use Rattle.core_lowering_drafts.proofs.Steady.{steady-met, steady-unmet}
use Rattle.core_lowering_drafts.proofs.Related.{CodeFact, Such, such-met, RelatedParts, RelatedLists, no-parts}
use Rattle.core_lowering_drafts.proofs.Related.{part-alone, lists-joined, related-code, of-ops, of-leave, of-never}
use Rattle.core_lowering_drafts.proofs.Related.{of-choices}
use Rattle.core_lowering_drafts.proofs.Related.{of-loops, of-within, of-endings, of-finally, value-alone}
use Rattle.core_lowering_rules.specs.Context.{Code, choice, repeated, held, within, ending, guarded, made}
use Rattle.core_lowering_drafts.specs.Sites.{lock_at}
use Rattle.core_lowering_rules.specs.Context.{ends_of}
use Rattle.core_lowering_rules.proofs.FoundElements.{Each}
use Rattle.core_lowering_rules.proofs.Runs.{TreesRun, no_trees, trees_followed, tree_once, trees_chosen, trees_looped}
use Rattle.core_lowering_rules.proofs.Runs.{trees_locked, Runs}

pub fits-null : (k : Kind) → fits k Null ≡ true
fits-null types.Plain = refl
fits-null (types.Declared c) = refl
fits-null types.Other = refl

abbrev has_exit : ℕ → Code → Bool
has_exit k a = has (ends_of a) (Exit k)

abbrev is_quiet : Code → Bool
is_quiet a = list_all (is_same Normal) (ends_of a)

module _ (core : Core) (m : Method) where
  -- the second code leaves the empty stack empty; the first is not looked at
  abbrev pub emptying : CodeFact
  emptying =
      record {
        Holds = λ a c. TreesRun core m c [] [];
        nothing = no_trees core m [];
        followed = λ a b c d p q. trees_followed core m c d p q;
        chosen = λ a b c d p q. trees_chosen core m c d p q refl;
        looped = λ a c p. trees_looped core m c p;
      }

  pub record Keeps (code : Code) : Type 0 where
    pub all : RelatedLists emptying code code

  -- its core code
  pub made-runs : (code : Code) → Keeps code → TreesRun core m (made code) [] []
  made-runs code k = related-code emptying (in_order code) (in_order code) k.all all_ends

  pub keeps-nothing : Keeps []
  keeps-nothing = record { all = no-parts emptying }

  pub keeps-both : {a b : Code} → Keeps a → Keeps b → Keeps (a ++ b)
  keeps-both {a} {b} x y = record { all = lists-joined emptying a b a b x.all y.all }

  pub keeps-three : {a b c : Code} → Keeps a → Keeps b → Keeps c → Keeps (a ++ b ++ c)
  keeps-three x y z = keeps-both (keeps-both x y) z

  by-part : (p : Part) → RelatedParts emptying p p → Keeps (p ∷ [])
  by-part p r = record { all = part-alone emptying p p r }

  -- what is its own code
  pub keeps-value : {a : Code} → Runs core m a [] [] → Keeps a
  keeps-value {a} r =
      record { all = value-alone emptying a (record { left = r.steady; right = r.steady; same = r.own }) }

  pub keeps-choice : {a b : Code} → Keeps a → Keeps b → Keeps (choice a b)
  keeps-choice {a} {b} x y =
      by-part (Choice (in_order a) (in_order b))
      (of-choices emptying (in_order a) (in_order b) (in_order a) (in_order b) x.all y.all)

  pub keeps-loop : {a : Code} → Keeps a → Keeps (repeated a)
  keeps-loop {a} x =
      by-part (Loop (in_order a)) (of-loops emptying (in_order a) (in_order a) x.all)

  pub keeps-leave : (k : ℕ) → Keeps (Leave k ∷ [])
  keeps-leave k = by-part (Leave k) (of-leave emptying k)

  pub keeps-never : Keeps (Never ∷ [])
  keeps-never = by-part Never (of-never emptying)

  by-test : (b : Bool) {a c : Code} → Keeps a → Keeps c → Keeps (cond b a c)
  by-test true x y = x
  by-test false x y = y

  -- an operation that leaves the empty stack empty
  pub keeps-op : (place : Place) (o : CoreOp) → TreesRun core m (one place o) [] [] → Keeps (Op place o ∷ [])
  keeps-op place o h = by-part (Op place o) (of-ops emptying place o o refl h)

  pub keeps-if : (b : Bool) {a c : Code} → Keeps a → Keeps c → Keeps (cond b a c)
  keeps-if b x y = by-test b x y

  pub keeps-within : (k : ℕ) {a : Code} → Keeps a → Keeps (within k a)
  keeps-within k {a} x =
      by-test (has_exit k a)
      (by-part (Within k (in_order a)) (of-within emptying k (in_order a) (in_order a) x.all)) x

  -- ---- variables that are null from here on

  abbrev pub IsThere : VarId → Type 0
  IsThere v = (k : Kind) × (variable_at m v ≡ Some k)

  clears : (place : Place) (v : VarId) → IsThere v → TreesRun core m (cleared place v) [] []
  clears place v there =
      let first = tree_once core m place PushNull [] (Null ∷ []) [] refl refl refl refl in
      let second = tree_once core m place (Set v) (Null ∷ []) (Null ∷ []) [] refl refl refl
      (ap (λ (o : Option Kind). after_set o (Null ∷ [])) there.1
      ∙ ap (λ b. where_true b (Null ∷ [])) (fits-null there.0))
      in
      trees_followed core m (one place PushNull ++ one place (Set v)) (one place Drop)
      (trees_followed core m (one place PushNull) (one place (Set v)) first second)
      (tree_once core m place Drop (Null ∷ []) [] [] refl refl refl refl)

  clear-all : (place : Place) (vs : List VarId) → Each IsThere vs →
      TreesRun core m (flat_map (cleared place) vs) [] []
  clear-all place [] all = no_trees core m []
  clear-all place (v ∷ vs) all =
      trees_followed core m (cleared place v) (flat_map (cleared place) vs) (clears place v all.0)
      (clear-all place vs all.1)

  pub keeps-ending : (place : Place) (vs : List VarId) → Each IsThere vs → {a : Code} → Keeps a →
      Keeps (ending place vs a)
  keeps-ending place [] all x = x
  keeps-ending place (v ∷ vs) all {a} x =
      by-part (Ending (in_order a) place (v ∷ vs))
      (of-endings emptying place (v ∷ vs) (clear-all place (v ∷ vs) all) (in_order a) (in_order a) x.all)

  pub keeps-guarded : (k : ℕ) {a b c : Code} → Keeps a → Keeps b → Keeps c → Keeps (guarded k a b c)
  keeps-guarded k {a} {b} {c} x y z =
      by-test (is_quiet a) (keeps-both x y)
      (by-part (Behind (in_order a) (in_order b) k (in_order c))
      (of-finally emptying k (in_order a) (in_order b) (in_order c) (in_order a) (in_order b) (in_order c) x.all y.all
      z.all))

  -- ---- a value, and what takes it

  -- from one stack to the empty one
  abbrev From : List StackKind → Rest → Rest → Type 0
  From s Last y = ⊥
  From s Unmet Last = ⊥
  From s Unmet Unmet = Unit {0}
  From s Unmet (Met d) = ⊥
  From s (Met c) Last = ⊥
  From s (Met c) Unmet = ⊥
  From s (Met c) (Met d) = TreesRun core m d s []

  abbrev IsTaken : List StackKind → Part → Type 0
  IsTaken s p = (asked : Ends) → TreesRun core m (only_part p asked) s []

  if-run : (b : Bool) (s : List StackKind) (x y : Trees) → TreesRun core m x s [] → TreesRun core m y s [] →
      TreesRun core m (cond b x y) s []
  if-run true s x y p q = p
  if-run false s x y p q = q

  module _ (s : List StackKind) (p : Part) (taken : IsTaken s p) where
    before-from : (asked : Ends) (x y : Rest) → Such emptying x y →
        TreesRun core m (before (only_part p) (part_ends p) asked y) s []
    before-from asked Last Last h = taken asked
    before-from asked Last Unmet h = absurd h
    before-from asked Last (Met d) h = absurd h
    before-from asked Unmet Last h = absurd h
    before-from asked Unmet Unmet h = taken (without Normal asked)
    before-from asked Unmet (Met d) h = absurd h
    before-from asked (Met c) Last h = absurd h
    before-from asked (Met c) Unmet h = absurd h
    before-from asked (Met c) (Met d) h =
        let goes = trees_followed core m (only_part p (on asked)) d (taken (on asked)) h in
        if-run (do_meet (part_ends p) (exits asked)) s
        (cond (do_meet (part_ends p) (on asked)) (fork (only_part p (exits asked)) (only_part p (on asked) ++ d))
        (only_part p (exits asked)))
        (only_part p (on asked) ++ d)
        (if-run (do_meet (part_ends p) (on asked)) s (fork (only_part p (exits asked)) (only_part p (on asked) ++ d))
        (only_part p (exits asked))
        (trees_chosen core m (only_part p (exits asked)) (only_part p (on asked) ++ d) (taken (exits asked)) goes refl)
        (taken (exits asked)))
        goes

    if-from : (b c : Bool) → b ≡ c → (x y : Trees) → TreesRun core m y s [] →
        From s (cond b (Met x) Unmet) (cond c (Met y) Unmet)
    if-from true true e x y r = r
    if-from true false e x y r = absurd cc
    if-from false true e x y r = absurd cc
    if-from false false e x y r = tt

    put-from : (asked : Ends) (x y : Rest) → Such emptying x y →
        From s (cond (are_met (part_ends p) x asked) (Met (before (only_part p) (part_ends p) asked x)) Unmet)
        (cond (are_met (part_ends p) y asked) (Met (before (only_part p) (part_ends p) asked y)) Unmet)
    put-from asked x y h =
        if-from (are_met (part_ends p) x asked) (are_met (part_ends p) y asked)
        (ap (λ b. do_meet (part_ends p) (without Normal asked) || has (part_ends p) Normal && b)
        (such-met emptying x y h asked))
        (before (only_part p) (part_ends p) asked x) (before (only_part p) (part_ends p) asked y)
        (before-from asked x y h)

  module _ (a : Code) (s : List StackKind) (value : Runs core m a [] s) where
    value-from : (asked : Ends) (x y : Rest) → From s x y →
        Such emptying (onto (in_order a) asked x) (onto (in_order a) asked y)
    value-from asked Last y h = absurd h
    value-from asked Unmet Last h = absurd h
    value-from asked Unmet (Met d) h = absurd h
    value-from asked (Met c) Last h = absurd h
    value-from asked (Met c) Unmet h = absurd h
    value-from asked Unmet Unmet h =
        subst (λ (z : Rest). Such emptying z z) (sym (steady-unmet (in_order a) value.steady asked)) tt
    value-from asked (Met c) (Met d) h =
        subst (λ (z : Rest). Such emptying z (onto (in_order a) asked (Met d)))
        (sym (steady-met (in_order a) value.steady asked c))
        (subst (λ (z : Rest). Such emptying (Met (plain_code (in_order a) ++ c)) z)
        (sym (steady-met (in_order a) value.steady asked d))
        (trees_followed core m (plain_code (in_order a)) d value.own h))

    pub keeps-taken : (p : Part) → IsTaken s p → (b : Code) → Keeps b → Keeps (a ++ (p ∷ b))
    keeps-taken p taken b k =
        record {
          all = record {
            same_ends = refl;
            put = λ asked x y h.
                subst (λ (z : Rest). Such emptying z (onto (in_order (a ++ (p ∷ b))) asked y))
                (sym (onto-append a (p ∷ b) asked x))
                (subst (λ (z : Rest).
                Such emptying (onto (in_order a) asked (onto (in_order (p ∷ b)) asked x)) z)
                (sym (onto-append a (p ∷ b) asked y))
                (value-from asked (onto (in_order (p ∷ b)) asked x) (onto (in_order (p ∷ b)) asked y)
                (put-from s p taken asked (onto (in_order b) asked x) (onto (in_order b) asked y)
                (let r = k.all in r.put asked x y h))));
          };
        }

  pub keeps-locked : {a b : Code} (kind : LockKind) (place : Place) (lock : StackKind) →
      Runs core m a [] (lock ∷ []) → Keeps b → Keeps (a ++ held kind place b)
  keeps-locked {a} {b} kind place lock value k =
      keeps-taken a (lock ∷ []) value (Sync (lock_at kind place) (in_order b))
      (λ asked. trees_locked core m kind place lock (only (in_order b) asked)
      (related-code emptying (in_order b) (in_order b) k.all asked)) [] keeps-nothing

  pub keeps-returned : {a : Code} (place : Place) (s : StackKind) → Runs core m a [] (s ∷ []) →
      fits m.result s ≡ true → Keeps (a ++ (Op place Ret ∷ []))
  keeps-returned {a} place s value h =
      keeps-taken a (s ∷ []) value (Op place Ret)
      (λ asked. tree_once core m place Ret (s ∷ []) [] [] refl refl refl (ap (λ b. where_true b []) h)) []
      keeps-nothing
