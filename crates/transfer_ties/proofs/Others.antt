-- What is analysed again behind a program of other classes.
use Rattle.std.proofs.Common.{◌≡◌, Bool, true, false, cond, not, ◌&&◌, List, [], ◌∷◌, Some, filter}
use Rattle.std.proofs.Common.{length, nat_eq, refl, ap, ◌∙◌}
use Rattle.std.specs.Prelude.{Option}
use Rattle.std.specs.List.{flat_map, list_all, list_any, range_with_len}
use Rattle.std.specs.Cmp.Lexicographic.{pointwise}
use Rattle.std.proofs.lemmas.Bool.{and_from, and_parts}
use Rattle.std.proofs.lemmas.List.Folds.{list_all-append}
use Rattle.racer_base.specs.declared.ids.ClassId.{ClassId}
use Rattle.racer_base.specs.declared.ids.MethodId.{MethodId}
use Rattle.core_code.specs.Calls.{calls_of, is_analysed, method_at}
use Rattle.core_code.specs.Core.{Core, Method}
use Rattle.core_code.specs.Names.{same_text}
use Rattle.access_domain.specs.Records.{same_flag}
use Rattle.transfer_ties.specs.Ties.{both, ties_classes, ties_kinds}
use Rattle.transfer_ties.specs.Forms.{same_code, same_form, same_kinds}
use Rattle.transfer_ties.specs.Outcomes.{ties_outcomes}
use Rattle.transfer_ties.specs.Again.{again, analysed_at, analysed_in, is_again, is_as_before, level_of, methods_in}
use Rattle.transfer_ties.proofs.Sets.{none_any}

none_both : {X Y : Type 0} (same : X → Y → Bool) → ((x : X) (y : Y) → same x y ≡ false) → (o : Option X)
    (u : Option Y) → both same o u ≡ false
none_both same other (Some x) (Some y) = other x y
none_both same other _ _ = refl

all_kept : {X : Type 0} (test : X → Bool) (xs : List X) → list_all test xs ≡ true → filter test xs ≡ xs
all_kept test [] h = refl
all_kept test (x ∷ xs) h =
    let parts = and_parts (test x) (list_all test xs) h in
    ap (λ b. cond b (x ∷ filter test xs) (filter test xs)) parts.0 ∙ ap (λ ys. x ∷ ys) (all_kept test xs parts.1)

kept_pass : {X : Type 0} (test more : X → Bool) → ((x : X) → test x ≡ true → more x ≡ true) → (xs : List X) →
    list_all more (filter test xs) ≡ true
kept_pass test more passes [] = refl
kept_pass test more passes (x ∷ xs) =
    elim (test x) as (λ b. test x ≡ b → list_all more (cond b (x ∷ filter test xs) (filter test xs)) ≡ true) [
      | true ↦ λ e.
          and_from (more x) (list_all more (filter test xs)) (passes x e) (kept_pass test more passes xs)
      | false ↦ λ e. kept_pass test more passes xs
    ] refl

pass_in_all : {X Y : Type 0} (f : X → List Y) (test : Y → Bool) → ((x : X) → list_all test (f x) ≡ true) →
    (xs : List X) → list_all test (flat_map f xs) ≡ true
pass_in_all f test each [] = refl
pass_in_all f test each (x ∷ xs) =
    list_all-append test (f x) (flat_map f xs)
    ∙ and_from (list_all test (f x)) (list_all test (flat_map f xs)) (each x) (pass_in_all f test each xs)

never : (b : Bool) → (b && false) ≡ false
never true = refl
never false = refl

module _ (p q : Core) (other : (c d : ClassId) → ties_classes p q c d ≡ false) where
  no_form : (a b : Method) → same_form p q a b ≡ false
  no_form a b =
      ap (λ t. t && same_text a.name b.name && nat_eq (length a.parameters) (length b.parameters)
      && same_kinds p q a.parameters b.parameters && ties_kinds p q a.result b.result
      && same_kinds p q a.variables b.variables && same_flag a.is_static b.is_static && same_flag a.main b.main
      && same_code p q a.code b.code) (other a.class b.class)

  none_before : (m n : MethodId) → is_as_before p q m n ≡ false
  none_before m n =
      let same_calls = pointwise (ties_outcomes p q) (calls_of p m) (calls_of q n) in
      ap (λ t. is_analysed p m && is_analysed q n && t && same_calls)
      (none_both (same_form p q) no_form (method_at p m) (method_at q n))
      ∙ ap (λ t. t && same_calls) (never (is_analysed p m && is_analysed q n))

  each_again : (n : MethodId) → is_analysed q n ≡ true → is_again p q n ≡ true
  each_again n analysed =
      and_from (is_analysed q n) (not (list_any (λ m. is_as_before p q m n) (methods_in p))) analysed
      (ap not (none_any (λ m. is_as_before p q m n) (methods_in p) (λ m. none_before m n)))

  pub all_again : again p q ≡ analysed_in q
  all_again =
      all_kept (is_again p q) (analysed_in q)
      (pass_in_all (analysed_at q) (is_again p q)
      (λ level. kept_pass (λ m. is_analysed q m && nat_eq (level_of q m) level) (is_again p q)
      (λ m h. each_again m (and_parts (is_analysed q m) (nat_eq (level_of q m) level) h).0) (methods_in q))
      (range_with_len 0 (length q.methods)))
