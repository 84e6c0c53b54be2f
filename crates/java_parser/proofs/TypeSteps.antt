-- The types of a file, from one declaration to the next.
use Rattle.std.proofs.Common.{◌≡◌, ℕ, Bool, true, false, List, [], ◌∷◌, ◌++◌, Option, Some, None, Result, Ok, Err}
use Rattle.std.proofs.Common.{map, take, drop, refl, ap, sym, ◌∙◌, subst, codes, take-append-drop, ◌≤◌, length}
use Rattle.std.specs.Prelude.{IsTrue, if◌then◌else◌}
use Rattle.std.proofs.lemmas.List.{append_assoc}
use Rattle.racer_base.specs.declared.ids.Place.{Place}
use Rattle.java_lexer.specs.declared.token.Token.{Token}
use Rattle.java_tree.specs.FormedModifiers.{has_some}
use Rattle.java_parser_grammar.specs.Tokens.{begins_sign}
use Rattle.java_parser_grammar.specs.Cuts.{joined, ends}
use Rattle.java_parser_grammar.specs.Pieces.{Item, items_of}
use Rattle.java_parser_grammar.specs.DeclarationWalk.{Seen, seen_with, is_whole, and_before, declarations}
use Rattle.java_parser_grammar.proofs.Joined.{joined_append, joined_items}
use Rattle.java_parser_grammar.proofs.WalkedFiles.{from, declarations_are, and_whole, alone, longer}
use Rattle.java_parser.specs.Sizes.{item_size}
use Rattle.java_parser.specs.FirstDeclaration.{First, Misfit, Declared, first_by, first_declared, IsMisfit}
use Rattle.java_parser.specs.WalkedTypes.{typed, types_from, with_types, type_if, IsMisfitAt}
use Rattle.java_parser.proofs.FirstItem.{first_of}
use Rattle.java_parser.proofs.FirstMember.{drop_front}
use Rattle.java_parser.proofs.DeclarationSteps.{first_from, first_is}

abbrev Declarations : Type 0
Declarations = Result (List (List Item)) (List Item)

-- the first declaration, and what is declared behind it
record Split (seen : Seen) (is : List Item) (braces : Bool) (more : Seen) (behind : List Item) : Type 0 where
  pub front : List Item
  pub some : IsTrue (has_some front)
  pub whole : declarations seen is ≡ and_whole front (declarations more behind)
  pub parts : front ++ behind ≡ is
  pub ended : ends (begins_sign (codes "{")) front ≡ braces

same_end : (i : Item) (d : List Item) → IsTrue (has_some d) → ends (begins_sign (codes "{")) (i ∷ d)
    ≡ ends (begins_sign (codes "{")) d
same_end i [] h = absurd cc
same_end i (j ∷ js) h = refl

record SameDeclared (a b : Bool) (s t : Seen) (is js : List Item) : Type 0 where
  pub braces : a ≡ b
  pub seen : s ≡ t
  pub behind : is ≡ js

declared_parts : (a b : Bool) (s t : Seen) (is js : List Item) → Declared a s is ≡ Declared b t js → SameDeclared a b s
    t is js
declared_parts a b s t is js e = record { braces = cc; seen = cc; behind = cc }

abbrev Front : (whole : Bool) → (m : Seen) (i : Item) (is : List Item) → (braces : Bool) (more : Seen) (behind : List
    Item) → Type 0
Front whole m i is braces more behind = (front : List Item) × IsTrue (has_some front)
    × (and_before whole i (declarations m is) ≡ and_whole front (declarations more behind))
    × (front ++ behind ≡ i ∷ is) × (ends (begins_sign (codes "{")) front ≡ braces)

by_whole : (whole : Bool) (m : Seen) (i : Item) (is : List Item) (braces : Bool) (more : Seen) (behind : List Item)
    → first_by whole m i is (first_declared m is) ≡ Declared braces more behind
    → (first_declared m is ≡ Declared braces more behind → Split m is braces more behind)
    → Front whole m i is braces more behind
by_whole true m i is braces more behind e others =
    let k = declared_parts (begins_sign (codes "{") i) braces m more is behind e in (
      i ∷ [],
      refl,
      alone i (declarations m is) ∙ ap (λ s. and_whole (i ∷ []) (declarations s is)) k.seen
          ∙ ap (λ l. and_whole (i ∷ []) (declarations more l)) k.behind,
      ap (λ l. i ∷ l) (sym k.behind),
      k.braces,
    )
by_whole false m i is braces more behind e others =
    let k = others e in (
      i ∷ k.front,
      refl,
      ap (and_before false i) k.whole ∙ longer i k.front (declarations more behind),
      ap (λ l. i ∷ l) k.parts,
      same_end i k.front k.some ∙ k.ended,
    )

split_by : (o : Option Seen) (seen : Seen) (i : Item) (is : List Item) (braces : Bool) (more : Seen) (behind : List
    Item) → seen_with seen i ≡ o → first_declared seen (i ∷ is) ≡ Declared braces more behind
    → ((m : Seen) → first_declared m is ≡ Declared braces more behind → Split m is braces more behind)
    → Split seen (i ∷ is) braces more behind
split_by None seen i is braces more behind n e others =
    let no : Misfit (i ∷ is) ≡ Declared braces more behind = sym (ap (λ o. first_from o i is) n) ∙ sym
    (first_is seen i is) ∙ e in absurd cc
split_by (Some m) seen i is braces more behind n e others =
    let found : first_by (is_whole m) m i is (first_declared m is) ≡ Declared braces more behind = sym (ap (λ o.
    first_from o i is) n) ∙ sym (first_is seen i is) ∙ e in
    let whole : declarations seen (i ∷ is) ≡ and_before (is_whole m) i (declarations m is) = declarations_are seen i is
    ∙ ap (λ o. from o i is) n in
    let k = by_whole (is_whole m) m i is braces more behind found (others m) in
    record { front = k.0; some = k.1; whole = whole ∙ k.2; parts = k.3; ended = k.4 }

split_first : (seen : Seen) (is : List Item) (braces : Bool) (more : Seen) (behind : List Item)
    → first_declared seen is ≡ Declared braces more behind → Split seen is braces more behind
split_first seen [] braces more behind e = absurd cc
split_first seen (i ∷ is) braces more behind e =
    split_by (seen_with seen i) seen i is braces more behind refl e (λ m h. split_first m is braces more behind h)

-- ---- types

add_type : (b : Bool) (d : List Item) (r : Declarations) → ends (begins_sign (codes "{")) d ≡ b
    → typed (and_whole d r) ≡ with_types (type_if b (joined d)) (typed r)
add_type true d (Ok ds) e = rw e refl
add_type true d (Err rest) e = refl
add_type false d (Ok ds) e = rw e refl
add_type false d (Err rest) e = refl

-- one declaration, and the types behind it
pub type_step : (seen more : Seen) (ts : List Token) (size : ℕ) (braces : Bool)
    → first_declared seen (items_of ts) ≡ Declared braces more (items_of (drop size ts))
    → types_from seen (items_of ts) ≡ with_types (type_if braces (take size ts)) (types_from more (items_of
    (drop size ts)))
type_step seen more ts size braces e =
    let k = split_first seen (items_of ts) braces more (items_of (drop size ts)) e in
    let whole : joined k.front ++ drop size ts ≡ ts =
    ap (λ l. joined k.front ++ l) (sym (joined_items 0 (drop size ts)))
    ∙ sym (joined_append k.front (items_of (drop size ts))) ∙ ap joined k.parts ∙ joined_items 0 ts in
    let front : joined k.front ≡ take size ts = drop_front (joined k.front) (take size ts) (drop size ts)
    (whole ∙ sym (take-append-drop size ts)) in
    ap typed k.whole ∙ add_type braces k.front (declarations more (items_of (drop size ts))) k.ended
    ∙ ap (λ l. with_types (type_if braces l) (types_from more (items_of (drop size ts)))) front

pub with_more : (front : List (List Token)) (b : Bool) (ts : List Token) (r : Result (List (List Token)) (List Item))
    → with_types front (with_types (type_if b ts) r) ≡ with_types (front ++ type_if b ts) r
with_more front b ts (Ok us) = ap Ok (sym (append_assoc front (type_if b ts) us))
with_more front b ts (Err rest) = refl

-- ---- what does not fit

misfit_by : (whole : Bool) (m : Seen) (i : Item) (is rest : List Item)
    → first_by whole m i is (first_declared m is) ≡ Misfit rest
    → (first_declared m is ≡ Misfit rest → declarations m is ≡ Err rest)
    → and_before whole i (declarations m is) ≡ Err rest
misfit_by true m i is rest e others = absurd cc
misfit_by false m i is rest e others = ap (and_before false i) (others e)

misfit_next : (o : Option Seen) (seen : Seen) (i : Item) (is rest : List Item) → seen_with seen i ≡ o
    → first_declared seen (i ∷ is) ≡ Misfit rest
    → ((m : Seen) → is_whole m ≡ false → first_declared m is ≡ Misfit rest → declarations m is ≡ Err rest)
    → declarations seen (i ∷ is) ≡ Err rest
misfit_next None seen i is rest n e others =
    let same : Misfit (i ∷ is) ≡ Misfit rest = sym (ap (λ o. first_from o i is) n) ∙ sym (first_is seen i is) ∙ e in
    let items : i ∷ is ≡ rest = cc in
    declarations_are seen i is ∙ ap (λ o. from o i is) n ∙ ap Err items
misfit_next (Some m) seen i is rest n e others =
    let found : first_by (is_whole m) m i is (first_declared m is) ≡ Misfit rest = sym (ap (λ o. first_from o i is) n)
    ∙ sym (first_is seen i is) ∙ e in
    declarations_are seen i is ∙ ap (λ o. from o i is) n ∙ by_end (is_whole m) refl found where
      by_end : (b : Bool) → is_whole m ≡ b → first_by (is_whole m) m i is (first_declared m is) ≡ Misfit rest
          → and_before (is_whole m) i (declarations m is) ≡ Err rest
      by_end true w h = let no : first_by true m i is (first_declared m is) ≡ Misfit rest = ap (λ b. first_by b m i is
          (first_declared m is)) (sym w) ∙ h in absurd cc
      by_end false w h = ap (λ b. and_before b i (declarations m is)) w ∙ ap (and_before false i) (others m w
          (ap (λ b. first_by b m i is (first_declared m is)) (sym w) ∙ h))

pub misfit : (seen : Seen) (is rest : List Item) → (is ≡ [] → is_whole seen ≡ false) → first_declared seen is
    ≡ Misfit rest → declarations seen is ≡ Err rest
misfit seen [] rest w e =
    let none : [] ≡ rest = cc in
    ap (λ b. if b then Ok [] else Err []) (w refl) ∙ ap Err none
misfit seen (i ∷ is) rest w e =
    misfit_next (seen_with seen i) seen i is rest refl e (λ m v h. misfit m is rest (λ n. v) h)

-- ---- the walk over declarations

fault_by : (first : First) (end place : Place) (front : List (List Token)) (seen : Seen) (is : List Item)
    → (is ≡ [] → is_whole seen ≡ false) → first_declared seen is ≡ first → IsMisfit first end place
    → IsMisfitAt end place (with_types front (types_from seen is))
fault_by (Misfit rest) end place front seen is some e h =
    subst (λ r. IsMisfitAt end place (with_types front (typed r))) (sym (misfit seen is rest some e)) h
fault_by (Declared braces more behind) end place front seen is some e h = absurd h

-- what does not fit is at fault
pub walk_fails : (end place : Place) (front : List (List Token)) (seen : Seen) (is : List Item)
    (all : Result (List (List Token)) (List Item)) → (is ≡ [] → is_whole seen ≡ false)
    → with_types front (types_from seen is) ≡ all → IsMisfit (first_declared seen is) end place
    → IsMisfitAt end place all
walk_fails end place front seen is all some e h =
    subst (IsMisfitAt end place) e (fault_by (first_declared seen is) end place front seen is some refl h)

-- one more declaration
pub walk_goes_on : (front : List (List Token)) (seen more : Seen) (ts : List Token) (size : ℕ) (braces : Bool)
    (all : Result (List (List Token)) (List Item))
    → first_declared seen (items_of ts) ≡ Declared braces more (items_of (drop size ts))
    → with_types front (types_from seen (items_of ts)) ≡ all
    → with_types (front ++ type_if braces (take size ts)) (types_from more (items_of (drop size ts))) ≡ all
walk_goes_on front seen more ts size braces all e h =
    sym (with_more front braces (take size ts) (types_from more (items_of (drop size ts))))
    ∙ ap (with_types front) (sym (type_step seen more ts size braces e)) ∙ h

some_items : (ts : List Token) (i : Item) (js : List Item) → items_of ts ≡ i ∷ js → items_of ts ≡ [] → ⊥
some_items ts i js e n = let no : i ∷ js ≡ [] = sym e ∙ n in cc

-- tokens have items
pub has_items : (ts : List Token) → 1 ≤ length ts → items_of ts ≡ [] → ⊥
has_items ts some n =
    let size = item_size 0 ts in
    some_items ts (take size ts) (items_of (drop size ts)) (first_of ts size some refl) n

pub map_push : {A B : Type 0} (f : A → B) (xs : List A) (x : A) → map f (xs ++ x ∷ []) ≡ map f xs ++ f x ∷ []
map_push f [] x = refl
map_push f (y ∷ xs) x = ap (λ l. f y ∷ l) (map_push f xs x)
