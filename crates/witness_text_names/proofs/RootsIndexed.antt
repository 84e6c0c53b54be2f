-- The index of roots has each root at its text, of two the first.
use Rattle.std.proofs.Common.{◌≡◌, ◌<◌, ◌≤◌, ℕ, zero, suc, ◌+◌, Bool, true, false, cond, List, [], ◌∷◌, ◌++◌, Option}
use Rattle.std.proofs.Common.{None, Some, drop, length, map, refl, sym, ap, ◌∙◌, arith}
use Rattle.std.proofs.lemmas.List.{at_drop_all}
use Rattle.std.proofs.lemmas.List.Folds.{find-append}
use Rattle.std.specs.Cmp.Lexicographic.{same_text}
use Rattle.std.specs.List.{enumerate_from, find}
use Rattle.std.specs.Option.{option_or}
use Rattle.std.specs.Prelude.{bytes_eq}
use Rattle.core_code.specs.Core.{Core}
use Rattle.core_semantics.specs.declared.object.StartRoot.{StartRoot}
use Rattle.core_semantics.specs.declared.object.StartRoot.TheVariants.{This}
use Rattle.race_report_parts.specs.Marks.{start_root_text}
use Rattle.witness_text_names.specs.Indexes.{AddsRoots, FindsRoots, RootIndex, has_text, root_at}
use Rattle.racer_base.proofs.Lists.{option_or-none}

or_next : (o : Option StartRoot) (b : Bool) (x : StartRoot) (rest : Option StartRoot) →
    option_or (option_or o (cond b (Some x) None)) rest ≡ option_or o (cond b (Some x) rest)
or_next None true x rest = refl
or_next None false x rest = refl
or_next (Some y) b x rest = refl

-- a root that goes to its text, where none was
pub root_added : (core : Core) (root : StartRoot) (old new : RootIndex) (own : List ℕ) →
    own ≡ start_root_text core root → None ≡ root_at old own →
    ((other : List ℕ) → root_at new other ≡ cond (bytes_eq own other) (Some root) (root_at old other)) →
    AddsRoots core (root ∷ []) old new
root_added core root old new own is none puts other =
    elim (bytes_eq own other)
    as (λ b. bytes_eq own other ≡ b → root_at new other ≡ cond b (Some root) (root_at old other) →
    root_at new other ≡ option_or (root_at old other) (cond b (Some root) None)) [
      | true ↦ λ e there.
          let same : own ≡ other = same_text own other (sym e) in
          there
          ∙ ap (λ o. option_or o (Some root)) (none ∙ ap (root_at old) same)
      | false ↦ λ e there. there ∙ sym (option_or-none (root_at old other))
    ] refl (puts other)
    ∙ ap (λ text. option_or (root_at old other) (cond (bytes_eq text other) (Some root) None)) is

-- the roots of numbered elements
abbrev pub numbered : {X : Type 0} → (ℕ → StartRoot) → ℕ → List X → List StartRoot
numbered {X} h n xs = map (λ (e : ℕ × X). h e.0) (enumerate_from n xs)

numbered_drop : {X : Type 0} (h : ℕ → StartRoot) (n i : ℕ) (xs : List X) → i < length xs →
    numbered h n (drop i xs) ≡ h n ∷ numbered h (n + 1) (drop (i + 1) xs)
numbered_drop h n i [] within = absurd (omega (arith, within))
numbered_drop h n zero (x ∷ xs) within = refl
numbered_drop h n (suc i) (x ∷ xs) within =
    let next : suc (i + 1) ≡ suc i + 1 = omega arith in
    numbered_drop h n i xs (omega (arith, within))
    ∙ ap (λ k. h n ∷ numbered h (n + 1) (drop k (x ∷ xs))) next

-- what was put so far, and then what is left, finds what all do behind the start
abbrev pub RootsLeft : {X : Type 0} → Core → (ℕ → StartRoot) → List X → ℕ → RootIndex → RootIndex → Type 0
RootsLeft core h xs i start now =
    (text : List ℕ) →
    option_or (root_at now text) (find (has_text core text) (numbered h i (drop i xs))) ≡
    option_or (root_at start text) (find (has_text core text) (numbered h 0 xs))

pub roots_next : {X : Type 0} (core : Core) (h : ℕ → StartRoot) (xs : List X) (i : ℕ) (root : StartRoot)
    (start old new : RootIndex) → i < length xs → root ≡ h i → AddsRoots core (root ∷ []) old new →
    RootsLeft core h xs i start old → RootsLeft core h xs (i + 1) start new
roots_next core h xs i root start old new within is adds left text =
    let rest = find (has_text core text) (numbered h (i + 1) (drop (i + 1) xs)) in
    ap (λ o. option_or o rest) (adds text)
    ∙ or_next (root_at old text) (has_text core text root) root rest
    ∙ ap (λ (r : StartRoot). option_or (root_at old text) (cond (has_text core text r) (Some r) rest)) is
    ∙ ap (λ rs. option_or (root_at old text) (find (has_text core text) rs)) (sym (numbered_drop h i i xs within))
    ∙ left text

pub roots_end : {X : Type 0} (core : Core) (h : ℕ → StartRoot) (xs : List X) (i : ℕ) (start now : RootIndex) →
    length xs ≤ i → RootsLeft core h xs i start now → AddsRoots core (numbered h 0 xs) start now
roots_end core h xs i start now past left text =
    sym (option_or-none (root_at now text))
    ∙ ap (option_or (root_at now text))
    (sym (at_drop_all (λ ys. find (has_text core text) (numbered h i ys)) xs i past))
    ∙ left text

-- `this`, and then three more lists
pub all_added : (core : Core) (c p q : List StartRoot) (empty with_this with_classes with_first whole : RootIndex) →
    ((text : List ℕ) → root_at empty text ≡ None) → AddsRoots core (This ∷ []) empty with_this →
    AddsRoots core c with_this with_classes → AddsRoots core p with_classes with_first →
    AddsRoots core q with_first whole → FindsRoots core (This ∷ c ++ p ++ q) whole
all_added core c p q empty with_this with_classes with_first whole none first classes second third text =
    let test = has_text core text in
    let all : option_or (option_or (find test c) (find test p)) (find test q) ≡ find test (c ++ p ++ q) =
    ap (λ o. option_or o (find test q)) (sym (find-append test c p)) ∙ sym (find-append test (c ++ p) q) in
    third text
    ∙ ap (λ o. option_or o (find test q)) (second text
    ∙ ap (λ o. option_or o (find test p)) (classes text
    ∙ ap (λ o. option_or o (find test c)) (first text
    ∙ ap (λ o. option_or o (cond (test This) (Some This) None)) (none text))))
    ∙ elim (test This)
    as (λ b. option_or (option_or (option_or (cond b (Some This) None) (find test c)) (find test p)) (find test q) ≡
    cond b (Some This) (find test (c ++ p ++ q))) [
      | true ↦ refl
      | false ↦ all
    ]
