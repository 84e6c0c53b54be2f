-- What stands at the end of tokens that end in a type is the last part of it.
use Rattle.std.proofs.Common.{◌≡◌, ℕ, zero, suc, ◌-◌, ◌≤◌, Bool, true, false, List, [], ◌∷◌, ◌++◌}
use Rattle.std.proofs.Common.{codes, length, take, drop, map, refl, ap, sym, ◌∙◌, arith}
use Rattle.std.proofs.Common.{append_assoc}
use Rattle.std.proofs.Common.{take-append-drop}
use Rattle.std.specs.Prelude.{◌==◌, if◌then◌else◌}
use Rattle.java_tree.specs.Brackets.{is_sign}
use Rattle.java_lexer.specs.declared.token.Token.{Token}
use Rattle.java_tree.specs.declared.words.Spelled.{Spelled}
use Rattle.java_tree.specs.Words.{keyword, sign, sign_glued}
use Rattle.java_tree.specs.Trees.{Ty, Typed, Base, Plain, Named, Parts, no_part, part_then, Part, Bare, Generic}
use Rattle.java_tree.specs.Trees.{Arguments, Angled, ArgumentList, no_argument, argument_then, Argument, Exact, Any}
use Rattle.java_tree.specs.Trees.{Extends, Super, Result, NoResult, VoidResult, TypeResult}
use Rattle.java_tree.specs.Spelling.{brackets_onto, ty_onto, base_onto, more_parts_onto, part_onto}
use Rattle.java_tree.specs.Spelling.{angled_onto, arguments_onto, more_arguments_onto, argument_onto, result_onto}
use Rattle.java_tree.specs.FormedMethods.{FormedResult}
use Rattle.java_tree.specs.Formed.{FormedTy, FormedParts, FormedPart}
use Rattle.java_tree.specs.Nesting.{ty_nesting, parts_nesting, part_nesting, result_nesting}
use Rattle.racer_base.specs.declared.limits.TheConstants.{MAX_NESTING}
use Rattle.java_parser_grammar.proofs.Appended.{part_append}
use Rattle.java_parser.specs.declared.last_parts.Behind.{Behind}
use Rattle.java_parser.specs.declared.last_parts.Behind.TheVariants.{Brackets, Closing, Angles, Arguments as All}
use Rattle.java_parser.specs.declared.last_parts.Scanned.{Scanned}
use Rattle.java_parser.specs.declared.last_parts.Scanned.TheVariants.{More, Part as Here, Nothing}
use Rattle.java_parser_types.specs.Tokens.{spelled}
use Rattle.java_parser.proofs.SameEnds.{plain_append}
use Rattle.java_parser.specs.LastParts.{open_of, is_angle, found_with, Scan, Going, Ended, Lost, scan_by}
use Rattle.java_parser.specs.LastParts.{scan_with, scanned}
use Rattle.java_parser.specs.ResultParts.{SpellsResult}

-- ---- in type arguments

not_one : (n : ℕ) → (suc (suc n) == 1) ≡ false
not_one n = grind arith

one_less : (n : ℕ) → suc (suc n) - 1 ≡ suc n
one_less n = omega arith

abbrev Inside : ℕ → List Spelled → Type 0
Inside n ts = scanned ts ≡ Going (Angles (suc n))

opens_inside : (n : ℕ) (ts : List Spelled) → Inside (suc n) ts → Inside n (sign (codes "<") ∷ ts)
opens_inside n ts e = rw (e, not_one n, one_less n) refl

brackets_inside : (m n : ℕ) (rest : List Spelled) → Inside n rest → Inside n (brackets_onto m rest)
brackets_inside zero n rest e = e
brackets_inside (suc m) n rest e = rw (brackets_inside m n rest e) refl

mutual
  ty_inside : (t : Ty) (n : ℕ) (rest : List Spelled) → Inside n rest → Inside n (ty_onto t rest)
  ty_inside (Typed b m) n rest e = base_inside b n (brackets_onto m rest) (brackets_inside m n rest e)

  base_inside : (b : Base) (n : ℕ) (rest : List Spelled) → Inside n rest → Inside n (base_onto b rest)
  base_inside (Plain text) n rest e = rw e refl
  base_inside (Named no_part) n rest e = e
  base_inside (Named (part_then p ps)) n rest e =
      part_inside p n (more_parts_onto ps rest) (parts_inside ps n rest e)

  parts_inside : (ps : Parts) (n : ℕ) (rest : List Spelled) → Inside n rest → Inside n (more_parts_onto ps rest)
  parts_inside no_part n rest e = e
  parts_inside (part_then p ps) n rest e =
      rw (part_inside p n (more_parts_onto ps rest) (parts_inside ps n rest e)) refl

  part_inside : (p : Part) (n : ℕ) (rest : List Spelled) → Inside n rest → Inside n (part_onto p rest)
  part_inside (Bare x) n rest e = rw e refl
  part_inside (Generic x a) n rest e = rw (angled_inside a n rest e) refl

  angled_inside : (a : Arguments) (n : ℕ) (rest : List Spelled) → Inside n rest → Inside n (angled_onto a rest)
  angled_inside (Angled list g) n rest e =
      opens_inside n (arguments_onto list (sign_glued g (codes ">") ∷ rest)) (arguments_inside list (suc n)
      (sign_glued g (codes ">") ∷ rest) (rw e refl))

  arguments_inside : (list : ArgumentList) (n : ℕ) (rest : List Spelled) → Inside n rest
      → Inside n (arguments_onto list rest)
  arguments_inside no_argument n rest e = e
  arguments_inside (argument_then a others) n rest e =
      argument_inside a n (more_arguments_onto others rest) (more_inside others n rest e)

  more_inside : (list : ArgumentList) (n : ℕ) (rest : List Spelled) → Inside n rest
      → Inside n (more_arguments_onto list rest)
  more_inside no_argument n rest e = e
  more_inside (argument_then a others) n rest e =
      rw (argument_inside a n (more_arguments_onto others rest) (more_inside others n rest e)) refl

  argument_inside : (a : Argument) (n : ℕ) (rest : List Spelled) → Inside n rest → Inside n (argument_onto a rest)
  argument_inside (Exact t) n rest e = ty_inside t n rest e
  argument_inside Any n rest e = rw e refl
  argument_inside (Extends t) n rest e = rw (ty_inside t n rest e) refl
  argument_inside (Super t) n rest e = rw (ty_inside t n rest e) refl

-- ---- the last part

brackets_end : (m : ℕ) → scanned (brackets_onto m []) ≡ Going Brackets
brackets_end zero = refl
brackets_end (suc m) = rw (brackets_end m) refl

closes : (g : Bool) (rest : List Spelled) → scanned rest ≡ Going Brackets → Inside 0 (sign_glued g (codes ">") ∷ rest)
closes true rest e = rw e refl
closes false rest e = rw e refl

angles_end : (a : Arguments) (rest : List Spelled) → scanned rest ≡ Going Brackets
    → scanned (angled_onto a rest) ≡ Going All
angles_end (Angled list g) rest e =
    let inside = arguments_inside list 0 (sign_glued g (codes ">") ∷ rest) (closes g rest e) in rw inside refl

part_ended : (p : Part) (rest : List Spelled) → scanned rest ≡ Going Brackets
    → scanned (part_onto p rest) ≡ Ended (part_onto p rest)
part_ended (Bare x) rest e = rw e refl
part_ended (Generic x a) rest e = rw (angles_end a rest e) refl

pub ended_stays : (front ts part : List Spelled) → scanned ts ≡ Ended part → scanned (front ++ ts) ≡ Ended part
ended_stays [] ts part e = e
ended_stays (t ∷ front) ts part e = rw (ended_stays front ts part e) refl

pub lost_stays : (front ts : List Spelled) → scanned ts ≡ Lost → scanned (front ++ ts) ≡ Lost
lost_stays [] ts e = e
lost_stays (t ∷ front) ts e = rw (lost_stays front ts e) refl

abbrev last_from : Part → Parts → Part
last_from p no_part = p
last_from p (part_then q ps) = last_from q ps

parts_ended : (p : Part) (ps : Parts) (rest : List Spelled) → scanned rest ≡ Going Brackets
    → scanned (part_onto p (more_parts_onto ps rest)) ≡ Ended (part_onto (last_from p ps) rest)
parts_ended p no_part rest e = part_ended p rest e
parts_ended p (part_then q ps) rest e =
    let others = sign (codes ".") ∷ part_onto q (more_parts_onto ps rest) in
    let later : scanned others ≡ Ended (part_onto (last_from q ps) rest) = rw (parts_ended q ps rest e) refl in
    ap scanned (part_append p [] others) ∙ ended_stays (part_onto p []) others (part_onto (last_from q ps) rest) later

last_formed : (p : Part) (ps : Parts) → FormedPart p → FormedParts ps → FormedPart (last_from p ps)
last_formed p no_part f g = f
last_formed p (part_then q ps) f g = last_formed q ps g.0 g.1

last_nested : (p : Part) (ps : Parts) → part_nesting (last_from p ps) ≤ parts_nesting (part_then p ps)
last_nested p no_part = omega arith
last_nested p (part_then q ps) = omega (arith, last_nested q ps)

-- what all of these tokens are
pub record EndsSo (ts : List Spelled) : Type 0 where
  pub part : List Spelled
  pub found : scanned ts ≡ Ended part
  pub result : Result
  pub spells : SpellsResult part result

type_ended : (front : List Spelled) (t : Ty) → FormedTy t → ty_nesting t ≤ MAX_NESTING
    → EndsSo (front ++ ty_onto t [])
type_ended front (Typed (Plain text) m) f n = record {
  part = keyword text ∷ brackets_onto m [];
  found = ended_stays front (keyword text ∷ brackets_onto m []) (keyword text ∷ brackets_onto m [])
      (rw (brackets_end m) refl);
  result = TypeResult (Typed (Plain text) m);
  spells = record { some = λ e. absurd cc; formed = f; nested = n; spelled = refl };
}
type_ended front (Typed (Named no_part) m) f n = let none = f.1 in absurd cc
type_ended front (Typed (Named (part_then p ps)) m) f n =
    let last = last_from p ps in
    let all = part_onto p (more_parts_onto ps (brackets_onto m [])) in
    let part = part_onto last (brackets_onto m []) in
    record {
      part = part;
      found = ended_stays front all part (parts_ended p ps (brackets_onto m []) (brackets_end m));
      result = TypeResult (Typed (Named (part_then last no_part)) m);
      spells = record {
        some = λ e. absurd cc;
        formed = ((last_formed p ps f.0.0 f.0.1, tt), refl);
        nested = omega (arith, n, last_nested p ps);
        spelled = refl;
      };
    }

pub result_ended : (front : List Spelled) (r : Result) → FormedResult r → result_nesting r ≤ MAX_NESTING
    → (r ≡ NoResult → ⊥) → EndsSo (front ++ result_onto r [])
result_ended front NoResult f n some = absurd (some refl)
result_ended front VoidResult f n some = record {
  part = keyword (codes "void") ∷ [];
  found = ended_stays front (keyword (codes "void") ∷ []) (keyword (codes "void") ∷ []) refl;
  result = VoidResult;
  spells = record { some = some; formed = f; nested = n; spelled = refl };
}
result_ended front (TypeResult t) f n some = type_ended front t f n

-- ---- what is found is the end of the tokens

by_found : (f : Scanned) (ts part : List Spelled) → scan_by f ts ≡ Ended part → ts ≡ part
by_found (More b) ts part e = absurd cc
by_found Here ts part e = cc
by_found Nothing ts part e = absurd cc

abbrev pub IsEnd : List Spelled → List Spelled → Type 0
IsEnd ts part = (front : List Spelled) × (front ++ part ≡ ts)

by_scan : (t : Spelled) (ts part : List Spelled) (s : Scan) → (s ≡ Ended part → IsEnd ts part)
    → scan_with s t ts ≡ Ended part → IsEnd (t ∷ ts) part
by_scan t ts part (Going b) others h = ([], sym (by_found (found_with b t) (t ∷ ts) part h))
by_scan t ts part (Ended q) others h =
    let same : q ≡ part = cc in
    let k = others (ap Ended same) in
    (t ∷ k.0, ap (λ l. t ∷ l) k.1)
by_scan t ts part Lost others h = absurd cc

pub is_end : (ts part : List Spelled) → scanned ts ≡ Ended part → IsEnd ts part
is_end [] part e = absurd cc
is_end (t ∷ ts) part e = by_scan t ts part (scanned ts) (λ h. is_end ts part h) e

-- ---- one more token of the code

taken : (before after : List Token) → take (length before) (before ++ after) ≡ before
taken [] after = refl
taken (t ∷ before) after = ap (λ l. t ∷ l) (taken before after)

dropped : (before after : List Token) → drop (length before) (before ++ after) ≡ after
dropped [] after = refl
dropped (t ∷ before) after = dropped before after

pub record OneMore (ts before : List Token) (t : Token) (b : Behind) : Type 0 where
  pub front : before ≡ take (length before) ts
  pub scan : scanned (map spelled (drop (length before) ts))
      ≡ scan_by (found_with b (spelled t)) (map spelled (drop (length before) ts))

pub one_more : (ts rest before : List Token) (t : Token) (b : Behind) → rest ≡ take (length rest) ts
    → rest ≡ before ++ t ∷ [] → scanned (map spelled (drop (length rest) ts)) ≡ Going b → OneMore ts before t b
one_more ts rest before t b front parts scan =
    let done = drop (length rest) ts in
    let all : ts ≡ before ++ t ∷ done = sym (take-append-drop (length rest) ts)
    ∙ ap (λ l. l ++ done) (sym front ∙ parts) ∙ append_assoc before (t ∷ []) done in
    let at : drop (length before) ts ≡ t ∷ done = ap (drop (length before)) all ∙ dropped before (t ∷ done) in
    record {
      front = sym (taken before (t ∷ done)) ∙ ap (take (length before)) (sym all);
      scan = ap (λ (l : List Token). scanned (map spelled l)) at
          ∙ ap (λ (s : Scan). scan_with s (spelled t) (map spelled done)) scan
          ∙ ap (λ (l : List Token). scan_by (found_with b (spelled t)) (map spelled l)) (sym at);
    }

whole : (ts : List Token) (n : ℕ) → map spelled ts ≡ map spelled (take n ts) ++ map spelled (drop n ts)
whole ts n = ap (map spelled) (sym (take-append-drop n ts)) ∙ plain_append (take n ts) (drop n ts)

pub part_found : (ts before : List Token) (t : Token) (b : Behind) → OneMore ts before t b
    → Here ≡ found_with b (spelled t) → scanned (map spelled ts) ≡ Ended (map spelled (drop (length before) ts))
part_found ts before t b o e =
    let n = length before in
    let part = map spelled (drop n ts) in
    ap scanned (whole ts n)
    ∙ ended_stays (map spelled (take n ts)) part part (o.scan ∙ ap (λ (f : Scanned). scan_by f part) (sym e))

pub nothing_found : (ts before : List Token) (t : Token) (b : Behind) → OneMore ts before t b
    → Nothing ≡ found_with b (spelled t) → (part : List Spelled) → scanned (map spelled ts) ≡ Ended part → ⊥
nothing_found ts before t b o e part found =
    let n = length before in
    let lost : scanned (map spelled ts) ≡ Lost = ap scanned (whole ts n)
    ∙ lost_stays (map spelled (take n ts)) (map spelled (drop n ts))
    (o.scan ∙ ap (λ (f : Scanned). scan_by f (map spelled (drop n ts))) (sym e)) in
    absurd cc

pub more_found : (ts before : List Token) (t : Token) (b next : Behind) → OneMore ts before t b
    → More next ≡ found_with b (spelled t) → scanned (map spelled (drop (length before) ts)) ≡ Going next
more_found ts before t b next o e =
    o.scan ∙ ap (λ (f : Scanned). scan_by f (map spelled (drop (length before) ts))) (sym e)

pub nothing_left : (ts rest : List Token) (b : Behind) → length rest ≡ 0
    → scanned (map spelled (drop (length rest) ts)) ≡ Going b → (part : List Spelled)
    → scanned (map spelled ts) ≡ Ended part → ⊥
nothing_left ts [] b none scan part found = absurd cc
nothing_left ts (t ∷ rest) b none scan part found = absurd (omega (arith, none))

by_choice : (x : Bool) (f g : Scanned) (next : Behind) (n : ℕ) → More next ≡ (if x then f else g)
    → (More next ≡ f → open_of next ≤ n) → (More next ≡ g → open_of next ≤ n) → open_of next ≤ n
by_choice true f g next n e a b = a e
by_choice false f g next n e a b = b e

is_more : (next m : Behind) (n : ℕ) → More next ≡ More m → open_of m ≤ n → open_of next ≤ n
is_more next m n e fits = let same : next ≡ m = cc in omega (arith, fits, ap open_of same)

no_more : (next : Behind) (n : ℕ) → More next ≡ Here → open_of next ≤ n
no_more next n e = absurd cc

-- one more angle bracket is open at most
pub opens_one : (b next : Behind) (t : Spelled) → More next ≡ found_with b t → open_of next ≤ suc (open_of b)
opens_one Brackets next t e =
    by_choice (is_sign (codes "]") t) (More Closing) (if is_angle t then More (Angles 1) else Here) next 1 e
    (λ h. is_more next Closing 1 h (omega arith))
    (λ h. by_choice (is_angle t) (More (Angles 1)) Here next 1 h (λ k. is_more next (Angles 1) 1 k (omega arith))
    (λ k. no_more next 1 k))
opens_one Closing next t e =
    by_choice (is_sign (codes "[") t) (More Brackets) Nothing next 1 e (λ h. is_more next Brackets 1 h (omega arith))
    (λ h. absurd cc)
opens_one (Angles depth) next t e =
    by_choice (is_angle t) (More (Angles (suc depth)))
    (if is_sign (codes "<") t then (if depth == 1 then More All else More (Angles (depth - 1)))
    else More (Angles depth)) next (suc depth) e
    (λ h. is_more next (Angles (suc depth)) (suc depth) h (omega arith))
    (λ h. by_choice (is_sign (codes "<") t) (if depth == 1 then More All else More (Angles (depth - 1)))
    (More (Angles depth)) next (suc depth) h
    (λ k. by_choice (depth == 1) (More All) (More (Angles (depth - 1))) next (suc depth) k
    (λ m. is_more next All (suc depth) m (omega arith))
    (λ m. is_more next (Angles (depth - 1)) (suc depth) m (omega arith)))
    (λ k. is_more next (Angles depth) (suc depth) k (omega arith)))
opens_one All next t e = no_more next 1 e
