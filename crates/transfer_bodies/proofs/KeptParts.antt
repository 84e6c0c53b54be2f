-- What is kept of the parts of a sequence.
use Rattle.std.proofs.Common.{◌≡◌, ℕ, true, List, [], ◌∷◌, ◌++◌, Option, None, Some, map}
use Rattle.std.proofs.Common.{take, refl, sym, ap, subst, ◌∙◌, append_assoc}
use Rattle.std.proofs.lemmas.List.{take_at, map-append, take-map}
use Rattle.std.proofs.lemmas.Bool.{and_from, and_parts}
use Rattle.core_code.specs.declared.code.Code.{Code}
use Rattle.core_code.specs.Tree.{Tree, tree_of, in_sequence}
use Rattle.transfer_bodies.specs.declared.kept.Kept.{Kept}
use Rattle.transfer_bodies.specs.declared.kept.Short.{Short}
use Rattle.transfer_bodies.specs.Shortening.{IsShorter, IsShort, HasRun, MayHaveRun, IsKept}
use Rattle.transfer_bodies.specs.Still.{is_still}
use Rattle.transfer_bodies.proofs.ShorterCode.{shorter-trans, shorter-more, shorter-without}

still-more : (xs : List Tree) (a : Tree) → is_still (in_sequence xs) ≡ true → is_still a ≡ true →
    is_still (in_sequence (xs ++ a ∷ [])) ≡ true
still-more [] a e f = and_from (is_still a) true f refl
still-more (x ∷ xs) a e f =
    let both = and_parts (is_still x) (is_still (in_sequence xs)) e in
    and_from (is_still x) (is_still (in_sequence (xs ++ a ∷ []))) both.0 (still-more xs a both.1 f)

still-front : (xs ys : List Tree) → is_still (in_sequence (xs ++ ys)) ≡ true → is_still (in_sequence xs) ≡ true
still-front [] ys e = refl
still-front (x ∷ xs) ys e =
    let both = and_parts (is_still x) (is_still (in_sequence (xs ++ ys))) e in
    and_from (is_still x) (is_still (in_sequence xs)) both.0 (still-front xs ys both.1)

-- one still part more
pub run-more : (from : ℕ) (parts : List Tree) (o : Option ℕ) (a : Tree) → is_still a ≡ true →
    MayHaveRun from parts o → MayHaveRun from (parts ++ a ∷ []) o
run-more from parts None a still h = tt
run-more from parts (Some count) a still h =
    record {
      front = h.front;
      run = h.run ++ a ∷ [];
      are = ap (λ (xs : List Tree). xs ++ a ∷ []) h.are ∙ append_assoc h.front h.run (a ∷ []);
      long = h.long;
      empty = h.empty;
      still = still-more h.run a h.still still;
    }

trees_more : (old new : List Code) (code : Code) → new ≡ old ++ code ∷ [] →
    map tree_of new ≡ map tree_of old ++ tree_of code ∷ []
trees_more old new code is = ap (map tree_of) is ∙ map-append tree_of old (code ∷ [])

-- what is kept of one part more
pub kept-more : (from to : ℕ) (parts : List Tree) (code : Tree) (old new : Kept) (part : Short) →
    new.parts.items ≡ old.parts.items ++ part.code ∷ [] → new.height ≡ part.height →
    (new.is_still ≡ true → (old.is_still ≡ true) × (part.is_still ≡ true)) →
    (MayHaveRun from (map tree_of old.parts.items) old.still_from →
    (part.is_still ≡ true → is_still (tree_of part.code) ≡ true) →
    MayHaveRun from (map tree_of old.parts.items ++ tree_of part.code ∷ []) new.still_from) →
    IsKept from parts old → IsShort old.height to code part → IsKept from (parts ++ code ∷ []) new
kept-more from to parts code old new part is height still run k p =
    let before = map tree_of old.parts.items in
    let after = map tree_of new.parts.items in
    let one = tree_of part.code in
    let more : after ≡ before ++ one ∷ [] = trees_more old.parts.items new.parts.items part.code is in
    let high : to ≡ new.height = sym (height ∙ p.height) in
    let longer : IsShorter from to (in_sequence (before ++ one ∷ [])) (in_sequence (parts ++ code ∷ [])) =
    shorter-more from old.height to before parts one code k.shorter p.shorter in
    record {
      shorter = subst (λ (n : ℕ). IsShorter from n (in_sequence after) (in_sequence (parts ++ code ∷ []))) high
          (subst (λ (xs : List Tree). IsShorter from to (in_sequence xs) (in_sequence (parts ++ code ∷ []))) (sym more)
          longer);
      still = λ e.
          let both = still e in
          subst (λ (xs : List Tree). is_still (in_sequence xs) ≡ true) (sym more)
          (still-more before one (k.still both.0) (p.still both.1));
      run = subst (λ (xs : List Tree). MayHaveRun from xs new.still_from) (sym more) (run k.run p.still);
    }

-- the still parts since the stack was empty last fall away where it is empty
pub kept-cut : (from count : ℕ) (parts : List Tree) (old new : Kept) → old.height ≡ 0 → old.still_from ≡ Some count →
    new.parts.items ≡ take count old.parts.items → new.height ≡ old.height → new.is_still ≡ old.is_still →
    new.still_from ≡ old.still_from → IsKept from parts old → IsKept from parts new
kept-cut from count parts old new none at is height still run k =
    let before = map tree_of old.parts.items in
    let after = map tree_of new.parts.items in
    let has : HasRun from before count = subst (MayHaveRun from before) at k.run in
    let short : after ≡ has.front =
    ap (map tree_of) is
    ∙ sym (take-map tree_of count old.parts.items)
    ∙ ap (take count) has.are
    ∙ take_at has.front has.run count has.long in
    let low : IsShorter from 0 (in_sequence before) (in_sequence parts) =
    subst (λ (n : ℕ). IsShorter from n (in_sequence before) (in_sequence parts)) none k.shorter in
    let whole : IsShorter from 0 (in_sequence (has.front ++ has.run)) (in_sequence parts) =
    subst (λ (xs : List Tree). IsShorter from 0 (in_sequence xs) (in_sequence parts)) has.are low in
    let cut : IsShorter from 0 (in_sequence has.front) (in_sequence parts) =
    shorter-trans from 0 (in_sequence has.front) (in_sequence (has.front ++ has.run)) (in_sequence parts)
    (shorter-without from has.front has.run has.empty whole.height has.still) whole in
    record {
      shorter = subst (λ (n : ℕ). IsShorter from n (in_sequence after) (in_sequence parts)) (sym (height ∙ none))
          (subst (λ (xs : List Tree). IsShorter from 0 (in_sequence xs) (in_sequence parts)) (sym short) cut);
      still = λ e.
          subst (λ (xs : List Tree). is_still (in_sequence xs) ≡ true) (sym short)
          (still-front has.front has.run
          (subst (λ (xs : List Tree). is_still (in_sequence xs) ≡ true) has.are (k.still (sym still ∙ e))));
      run = subst (MayHaveRun from after) (sym (run ∙ at)) (
          record {
            front = has.front;
            run = [];
            are = short ∙ sym (append_nil has.front);
            long = has.long;
            empty = has.empty;
            still = refl;
          });
    }
  where
    append_nil : (xs : List Tree) → (xs ++ []) ≡ xs
    append_nil [] = refl
    append_nil (x ∷ xs) = ap (λ (ys : List Tree). x ∷ ys) (append_nil xs)
