-- A file is read as its types, or has its first fault.
use Rattle.std.proofs.Common.{◌≡◌, ℕ, suc, ◌+◌, ◌<◌, inl, inr, List, [], ◌∷◌, ◌++◌, length, map, drop, get_or}
use Rattle.std.proofs.Common.{append-nil, append_assoc, ap, sym, ◌∙◌, subst, arith}
use Rattle.std.proofs.Math.Seq.{drop-cons}
use Rattle.racer_base.specs.declared.ids.Place.{Place}
use Rattle.java_lexer.specs.declared.token.Token.{Token}
use Rattle.java_tree.specs.declared.unit.ClassTree.{ClassTree}
use Rattle.java_tree.specs.declared.unit.Unit as unit
use Rattle.java_tree.specs.declared.unit.ParseFault.{ParseFault}
use Rattle.java_tree.specs.declared.unit.ParseFault.TheVariants.{Unbalanced, TooDeep, NotAUnit, Memory}
use Rattle.java_parser_grammar.specs.Pieces.{items_of}
use Rattle.java_parser_grammar.specs.Units.{AreTypes, IsUnit, IsFault}
use Rattle.java_parser.specs.DeclaredTypes.{AreTypes as AreDeclaredTypes, IsNoUnit}
use Rattle.java_parser.specs.OpenBrackets.{IsBalanced, IsBracketFault}
use Rattle.java_parser.specs.ReadTypes.{AddsType}

-- ---- types

-- with what the rest is read as, the unit so far is what all are read as
pub record ReadSoFar (all : List (List Token)) (u : unit.Unit) (rest : List (List Token)) : Type 0 where
  pub goes_on : (classes : List ClassTree) (skipped : List Place) → AreTypes rest classes skipped
      → AreTypes all (u.classes ++ classes) (u.skipped ++ skipped)

-- with the same classes and places
same_types : (all : List (List Token)) (cs ds : List ClassTree) (ps qs : List Place) → cs ≡ ds → ps ≡ qs
    → AreTypes all cs ps → AreTypes all ds qs
same_types all cs ds ps qs e f h =
    subst (λ (l : List ClassTree). AreTypes all l qs) e (subst (λ (l : List Place). AreTypes all cs l) f h)

pub read_start : (all : List (List Token)) → ReadSoFar all (record { classes = []; skipped = [] }) all
read_start all = record { goes_on = λ cs ps h. h }

pub read_done : (all : List (List Token)) (u : unit.Unit) (rest : List (List Token)) → rest ≡ [] → ReadSoFar all u rest
    → AreTypes all u.classes u.skipped
read_done all u rest e h =
    same_types all (u.classes ++ []) u.classes (u.skipped ++ []) u.skipped (append-nil u.classes) (append-nil u.skipped)
    (h.goes_on [] [] (subst (λ (l : List (List Token)). AreTypes l [] []) (sym e) tt))

pub read_more : (all : List (List Token)) (a b : unit.Unit) (type : List Token) (rest : List (List Token))
    → ReadSoFar all a (type ∷ rest) → AddsType type a b → ReadSoFar all b rest
read_more all a b type rest h (inl c) = record {
  goes_on = λ cs ps k.
      same_types all (a.classes ++ c.class ∷ cs) (b.classes ++ cs) (a.skipped ++ ps) (b.skipped ++ ps)
      (sym (append_assoc a.classes (c.class ∷ []) cs) ∙ ap (λ (l : List ClassTree). l ++ cs) (sym c.classes))
      (ap (λ (l : List Place). l ++ ps) (sym c.skipped))
      (h.goes_on (c.class ∷ cs) ps (inl (c.is, k)));
}
read_more all a b type rest h (inr s) = record {
  goes_on = λ cs ps k.
      same_types all (a.classes ++ cs) (b.classes ++ cs) (a.skipped ++ s.place ∷ ps) (b.skipped ++ ps)
      (ap (λ (l : List ClassTree). l ++ cs) (sym s.classes))
      (sym (append_assoc a.skipped (s.place ∷ []) ps) ∙ ap (λ (l : List Place). l ++ ps) (sym s.skipped))
      (h.goes_on cs (s.place ∷ ps) (inr (s.none, s.begins, k)));
}

-- with the next of types that are looked at by this
pub read_next : {X : Type 0} (f : X → List Token) (xs : List X) (i : ℕ) (d x : X) (a b : unit.Unit) → i < length xs
    → x ≡ get_or xs i d → ReadSoFar (map f xs) a (map f (drop i xs)) → AddsType (f x) a b
    → ReadSoFar (map f xs) b (map f (drop (i + 1) xs))
read_next {X} f xs i d x a b lt is h adds =
    let counted : suc i ≡ i + 1 = omega arith in
    let next : drop i xs ≡ x ∷ drop (i + 1) xs =
    drop-cons xs i d lt ∙ ap (λ (y : X). y ∷ drop (suc i) xs) (sym is) ∙ ap (λ (n : ℕ). x ∷ drop n xs) counted in
    read_more (map f xs) a b (f x) (map f (drop (i + 1) xs))
    (subst (λ (l : List X). ReadSoFar (map f xs) a (map f l)) next h) adds

-- ---- files

pub is_unit : (ts : List Token) (types : List (List Token)) (u : unit.Unit) → IsBalanced ts
    → AreDeclaredTypes (items_of ts) types → AreTypes types u.classes u.skipped → IsUnit ts u
is_unit ts types u balanced found read = record {
  balanced = balanced.balanced;
  flat = balanced.flat;
  all = found.all;
  fit = found.fit;
  types = subst (λ (l : List (List Token)). AreTypes l u.classes u.skipped) (sym found.among) read;
}

pub bracket_fault : (ts : List Token) (end : Place) (fault : ParseFault) → IsBracketFault ts fault
    → IsFault ts end fault
bracket_fault ts end (Unbalanced place) h = h
bracket_fault ts end (TooDeep place) h = h
bracket_fault ts end (NotAUnit place) h = absurd h
bracket_fault ts end Memory h = tt

pub no_unit : (ts : List Token) (end : Place) (fault : ParseFault) → IsBalanced ts
    → IsNoUnit end fault (items_of ts) → IsFault ts end fault
no_unit ts end (Unbalanced place) balanced h = absurd h
no_unit ts end (TooDeep place) balanced h = absurd h
no_unit ts end (NotAUnit place) balanced h = (balanced.balanced, balanced.flat, h.0, h.1, h.2)
no_unit ts end Memory balanced h = tt
