-- The walk over the items of one declaration ends as the tests of these items say.
use Rattle.std.proofs.Common.{◌≡◌, Bool, true, false, not, ◌&&◌, ◌||◌, List, [], ◌∷◌, Option, Some, None, refl, ap}
use Rattle.std.proofs.Common.{sym, ◌∙◌, codes}
use Rattle.std.specs.Prelude.{if◌then◌else◌}
use Rattle.std.proofs.lemmas.Bool.{true≢false}
use Rattle.std.proofs.Math.Bool.{and-false}
use Rattle.java_lexer.specs.declared.token.Token.{Token}
use Rattle.java_parser_grammar.specs.Tokens.{is_name, begins, begins_sign, begins_word}
use Rattle.java_parser_grammar.specs.Pieces.{Item}
use Rattle.java_parser_grammar.specs.Declarations.{is_type_modifier, leads, ends_first, names_type, is_semicolon}
use Rattle.java_parser_grammar.specs.Declarations.{is_import}
use Rattle.java_parser_grammar.specs.DeclarationWalk.{Seen, Whole, Modifiers, AtSign, AnnotationName, AnnotationPoint}
use Rattle.java_parser_grammar.specs.DeclarationWalk.{TypeWord}
use Rattle.java_parser_grammar.specs.DeclarationWalk.{TypeName, Directive}
use Rattle.java_parser_grammar.proofs.ItemLetters.{Letter, Semicolon, Braces, Parentheses, Point, AtMark, PackageWord}
use Rattle.java_parser_grammar.proofs.ItemLetters.{ImportWord}
use Rattle.java_parser_grammar.proofs.ItemLetters.{InterfaceWord, Other, at_semicolon, at_braces, at_point}
use Rattle.java_parser_grammar.proofs.ItemLetters.{at_mark, at_package, at_import, at_interface, at_modifier, at_word}
use Rattle.java_parser_grammar.proofs.ItemLetters.{at_name}
use Rattle.java_parser_grammar.proofs.ItemLetters.{Reads, reads, IsApart, name_apart}
use Rattle.java_parser_grammar.proofs.SeenLetters.{run, run_from, run_is, modified_at, seen_at, modified_by, same_two}
use Rattle.java_parser_grammar.proofs.SeenLetters.{same_four, seen_is}
use Rattle.java_parser_grammar.proofs.Fronts.{front, noted, front_alone, front_noted, noted_bracketed, noted_ended}
use Rattle.java_parser_grammar.proofs.Fronts.{noted_pointed}

-- ---- what the tests say of the items behind what was seen

abbrev none : Token → Bool
none t = false

-- by whether it is a package and whether it is a type
abbrev pub verdict : (early is_package is_type : Bool) → Option Seen
verdict early is_package is_type =
    if early && is_package then Some (Whole false true) else (if is_type then Some (Whole false false) else None)

abbrev lines_end : List Item → Bool
lines_end is = ends_first (begins_sign (codes ";")) is

abbrev braces_end : List Item → Bool
braces_end is = ends_first (begins_sign (codes "{")) is

abbrev of_fronts : (early : Bool) → (notes words is : List Item) → Option Seen
of_fronts early notes words is =
    verdict early (leads (begins_word (codes "package")) notes && lines_end is) (names_type words && braces_end is)

abbrev pub tested_modifiers : (early : Bool) → List Item → Option Seen
tested_modifiers early is = of_fronts early (front none is) (front is_type_modifier is) is

abbrev tested_noted : (early : Bool) → List Item → Option Seen
tested_noted early is = of_fronts early (noted none is) (noted is_type_modifier is) is

abbrev tested_word : List Item → Option Seen
tested_word is = if leads (begins is_name) is && braces_end is then Some (Whole false false) else None

abbrev tested_mark : (early : Bool) → List Item → Option Seen
tested_mark early [] = None
tested_mark early (j ∷ js) =
    if begins is_name j then tested_noted early js
    else (if begins_word (codes "interface") j then tested_word js else None)

abbrev tested_point : (early : Bool) → List Item → Option Seen
tested_point early [] = None
tested_point early (j ∷ js) = if begins is_name j then tested_noted early js else None

abbrev pub tested : Seen → List Item → Option Seen
tested (Whole early imports) is =
    if is_semicolon is then Some (Whole early imports)
    else (if imports && is_import is then Some (Whole false true) else tested_modifiers early is)
tested (Modifiers early) is = tested_modifiers early is
tested (AtSign early) is = tested_mark early is
tested (AnnotationName early) is = tested_noted early is
tested (AnnotationPoint early) is = tested_point early is
tested TypeWord is = tested_word is
tested TypeName is = if braces_end is then Some (Whole false false) else None
tested Directive is = if lines_end is then Some (Whole false true) else None

-- ---- one item

not_last : (test : Item → Bool) (i : Item) (is : List Item) → test i ≡ false → ends_first test (i ∷ is)
    ≡ ends_first test is
not_last test i [] e = e
not_last test i (j ∷ js) e = ap (λ b. not b && ends_first test (j ∷ js)) e

no_front : (i : Item) → begins none i ≡ false
no_front [] = refl
no_front (t ∷ ts) = refl

abbrev marked_type : Item → List Item → Bool
marked_type i [] = false
marked_type i (j ∷ js) = begins_word (codes "interface") j && leads (begins is_name) js

type_named : (i : Item) (is : List Item) (l : Letter) → Reads i l → names_type (i ∷ is)
    ≡ ((at_word l && leads (begins is_name) is) || (at_mark l && marked_type i is))
type_named i [] l k = none_so (at_word l) (at_mark l) where
  none_so : (a b : Bool) → false ≡ ((a && false) || (b && false))
  none_so true true = refl
  none_so true false = refl
  none_so false true = refl
  none_so false false = refl
type_named i (j ∷ js) l k =
    ap (λ b. (b && begins is_name j) || (begins_sign (codes "@") i && marked_type i (j ∷ js))) k.word
    ∙ ap (λ b. (at_word l && begins is_name j) || (b && marked_type i (j ∷ js))) k.mark

-- an item that begins no annotation and is no word of a type
abbrev plain_at : (early : Bool) → Letter → Item → List Item → Option Seen
plain_at early l i is =
    verdict early (at_package l && lines_end is)
    (((at_word l && leads (begins is_name) is) || (at_mark l && marked_type i is)) && braces_end is)

abbrev is_inner : Letter → Bool
is_inner l = not (at_semicolon l) && not (at_braces l)

inner_parts : (l : Letter) → is_inner l ≡ true → (at_semicolon l ≡ false) × (at_braces l ≡ false)
inner_parts Semicolon h = absurd cc
inner_parts Braces h = absurd cc
inner_parts l h = (refl, refl)

plain_front : (early : Bool) (i : Item) (is : List Item) (l : Letter) → Reads i l
    → (begins_sign (codes "@") i && leads (begins is_name) is) ≡ false → at_modifier l ≡ false →
    tested_modifiers early (i ∷ is)
    ≡ of_fronts early (i ∷ is) (i ∷ is) (i ∷ is)
plain_front early i is l k a m =
    ap (λ f. of_fronts early f (front is_type_modifier (i ∷ is)) (i ∷ is))
    (front_alone none i is a ∙ ap (λ b. if b then front none is else i ∷ is) (no_front i))
    ∙ ap (λ f. of_fronts early (i ∷ is) f (i ∷ is))
    (front_alone is_type_modifier i is a
    ∙ ap (λ b. if b then front is_type_modifier is else i ∷ is) (k.modifier ∙ m))

plain : (early : Bool) (i : Item) (is : List Item) (l : Letter) → Reads i l
    → (begins_sign (codes "@") i && leads (begins is_name) is) ≡ false → at_modifier l ≡ false → is_inner l ≡ true
    → tested_modifiers early (i ∷ is) ≡ plain_at early l i is
plain early i is l k a m n =
    let apart = inner_parts l n in
    plain_front early i is l k a m
    ∙ ap (λ b. verdict early (b && lines_end (i ∷ is)) (names_type (i ∷ is) && braces_end (i ∷ is))) k.package_word
    ∙ ap (λ b. verdict early (at_package l && b) (names_type (i ∷ is) && braces_end (i ∷ is)))
    (not_last (begins_sign (codes ";")) i is (k.semicolon ∙ apart.0))
    ∙ ap (λ b. verdict early (at_package l && lines_end is) (b && braces_end (i ∷ is))) (type_named i is l k)
    ∙ ap (λ b. verdict early (at_package l && lines_end is) (((at_word l && leads (begins is_name) is) || (at_mark l
    && marked_type i is)) && b)) (not_last (begins_sign (codes "{")) i is (k.braces ∙ apart.1))

never : (early : Bool) → verdict early false false ≡ None
never true = refl
never false = refl

unmarked : (i : Item) (is : List Item) (l : Letter) → Reads i l → at_mark l ≡ false
    → (begins_sign (codes "@") i && leads (begins is_name) is) ≡ false
unmarked i is l k m = ap (λ b. b && leads (begins is_name) is) (k.mark ∙ m)

-- an item that begins nothing
unfit : (early : Bool) (i : Item) (is : List Item) (l : Letter) → Reads i l → at_modifier l ≡ false
    → at_word l ≡ false → at_mark l ≡ false → at_package l ≡ false → tested_modifiers early (i ∷ is) ≡ None
unfit early i is l k m w a p =
    plain_front early i is l k (unmarked i is l k a) m
    ∙ ap (λ b. verdict early (b && lines_end (i ∷ is)) (names_type (i ∷ is) && braces_end (i ∷ is)))
    (k.package_word ∙ p)
    ∙ ap (λ b. verdict early false (b && braces_end (i ∷ is)))
    (type_named i is l k
    ∙ ap (λ b. (b && leads (begins is_name) is) || (at_mark l && marked_type i is)) w
    ∙ ap (λ b. b && marked_type i is) a)
    ∙ never early

none_early : (early : Bool) → modified_by early false false false false ≡ None
none_early true = refl
none_early false = refl

unfit_step : (early : Bool) (i : Item) (is : List Item) (l : Letter) → Reads i l → at_modifier l ≡ false
    → at_word l ≡ false → at_mark l ≡ false → at_package l ≡ false
    → run_from (modified_at early l) is ≡ tested_modifiers early (i ∷ is)
unfit_step early i is l k m w a p =
    ap (λ o. run_from o is) (same_four (modified_by early) m w a p ∙ none_early early)
    ∙ sym (unfit early i is l k m w a p)

type_alone : (early : Bool) (n b : Bool) → (if n && b then Some (Whole false false) else None)
    ≡ verdict early false ((n || false) && b)
type_alone true true b = refl
type_alone true false b = refl
type_alone false true b = refl
type_alone false false b = refl

late : (early b : Bool) → (if b then Some (Whole false false) else None) ≡ verdict early false b
late true b = refl
late false b = refl

-- behind a word of a type
worded_step : (early : Bool) (i : Item) (is : List Item) (l : Letter) → Reads i l → at_modifier l ≡ true
    → at_package l ≡ false → at_mark l ≡ false → is_inner l ≡ true
    → tested_modifiers false is ≡ tested_modifiers early (i ∷ is)
worded_step early i is l k m p a n =
    let apart = inner_parts l n in
    late early (names_type (front is_type_modifier is) && braces_end is)
    ∙ ap (λ b. verdict early false (names_type (front is_type_modifier is) && b))
    (sym (not_last (begins_sign (codes "{")) i is (k.braces ∙ apart.1)))
    ∙ ap (λ f. verdict early false (names_type f && braces_end (i ∷ is)))
    (sym (front_alone is_type_modifier i is (unmarked i is l k a)
    ∙ ap (λ b. if b then front is_type_modifier is else i ∷ is) (k.modifier ∙ m)))
    ∙ ap (λ b. verdict early (b && lines_end (i ∷ is))
    (names_type (front is_type_modifier (i ∷ is)) && braces_end (i ∷ is))) (sym (k.package_word ∙ p))
    ∙ ap (λ f. of_fronts early f (front is_type_modifier (i ∷ is)) (i ∷ is))
    (sym (front_alone none i is (unmarked i is l k a)
    ∙ ap (λ b. if b then front none is else i ∷ is) (no_front i)))

-- ---- behind an `@`

interface_apart : (i : Item) (l : Letter) → Reads i l → begins_word (codes "interface") i ≡ true
    → begins_sign (codes "{") i ≡ false
interface_apart i InterfaceWord k n = k.braces
interface_apart i l k n = absurd (true≢false (sym n ∙ k.interface_word))

marked_interface : (early : Bool) (j : Item) (js : List Item) (l : Letter) (b : Bool) → Reads j l
    → begins_word (codes "interface") j ≡ b
    → (if b then tested_word js else None)
    ≡ verdict early false ((b && leads (begins is_name) js) && braces_end (j ∷ js))
marked_interface early j js l true k e =
    late early (leads (begins is_name) js && braces_end js)
    ∙ ap (λ b. verdict early false (leads (begins is_name) js && b))
    (sym (not_last (begins_sign (codes "{")) j js (interface_apart j l k e)))
marked_interface early j js l false k e = sym (never early)

-- behind two items that neither end a line nor are braces
behind_two : (early : Bool) (notes words : List Item) (i j : Item) (js : List Item) → IsApart i → IsApart j
    → of_fronts early notes words js ≡ of_fronts early notes words (i ∷ j ∷ js)
behind_two early notes words i j js a b =
    ap (λ x. verdict early (leads (begins_word (codes "package")) notes && x) (names_type words && braces_end js))
    (sym (not_last (begins_sign (codes ";")) i (j ∷ js) a.semicolon
    ∙ not_last (begins_sign (codes ";")) j js b.semicolon))
    ∙ ap (λ x. verdict early (leads (begins_word (codes "package")) notes && lines_end (i ∷ j ∷ js))
    (names_type words && x))
    (sym (not_last (begins_sign (codes "{")) i (j ∷ js) a.braces ∙ not_last (begins_sign (codes "{")) j js b.braces))

marked_by : (early : Bool) (i j : Item) (js : List Item) (l : Letter) (b : Bool) → Reads i AtMark → Reads j l
    → begins is_name j ≡ b
    → (if b then tested_noted early js else (if begins_word (codes "interface") j then tested_word js else None))
    ≡ tested_modifiers early (i ∷ j ∷ js)
marked_by early i j js l true k h n =
    let apart : IsApart i = record { semicolon = k.semicolon; braces = k.braces } in
    let marked : (begins_sign (codes "@") i && begins is_name j) ≡ true = ap (λ b. b && begins is_name j) k.mark ∙ n in
    behind_two early (noted none js) (noted is_type_modifier js) i j js apart (name_apart j l h n)
    ∙ ap (λ f. of_fronts early f (noted is_type_modifier js) (i ∷ j ∷ js)) (sym (front_noted none i j js marked))
    ∙ ap (λ f. of_fronts early (front none (i ∷ j ∷ js)) f (i ∷ j ∷ js))
    (sym (front_noted is_type_modifier i j js marked))
marked_by early i j js l false k h n =
    let unnamed : (begins_sign (codes "@") i && begins is_name j) ≡ false =
    ap (λ b. b && begins is_name j) k.mark ∙ n in
    marked_interface early j js l (begins_word (codes "interface") j) h refl
    ∙ sym (plain early i (j ∷ js) AtMark k unnamed refl refl)

mark_step : (early : Bool) (i : Item) (is : List Item) → Reads i AtMark
    → tested_mark early is ≡ tested_modifiers early (i ∷ is)
mark_step early i [] k =
    sym (plain early i [] AtMark k (and-false (begins_sign (codes "@") i)) refl refl ∙ never early)
mark_step early i (j ∷ js) k =
    let l = reads j in marked_by early i j js l.0 (begins is_name j) k l.1 refl

-- ---- behind annotations and words

modified_step : (early : Bool) (i : Item) (is : List Item) (l : Letter) → Reads i l
    → ((s : Seen) → run s is ≡ tested s is) → run_from (modified_at early l) is ≡ tested_modifiers early (i ∷ is)
modified_step early i is Semicolon k others = unfit_step early i is Semicolon k refl refl refl refl
modified_step early i is Braces k others = unfit_step early i is Braces k refl refl refl refl
modified_step early i is Parentheses k others = unfit_step early i is Parentheses k refl refl refl refl
modified_step early i is Point k others = unfit_step early i is Point k refl refl refl refl
modified_step early i is ImportWord k others = unfit_step early i is ImportWord k refl refl refl refl
modified_step early i is (Other false false n) k others =
    unfit_step early i is (Other false false n) k refl refl refl refl
modified_step early i is AtMark k others = others (AtSign early) ∙ mark_step early i is k
modified_step true i is PackageWord k others =
    others Directive ∙ sym (plain true i is PackageWord k (unmarked i is PackageWord k refl) refl refl)
modified_step false i is PackageWord k others =
    sym (plain false i is PackageWord k (unmarked i is PackageWord k refl) refl refl)
modified_step early i is InterfaceWord k others =
    others TypeWord ∙ type_alone early (leads (begins is_name) is) (braces_end is)
    ∙ sym (plain early i is InterfaceWord k (unmarked i is InterfaceWord k refl) refl refl)
modified_step early i is (Other false true n) k others =
    others TypeWord ∙ type_alone early (leads (begins is_name) is) (braces_end is)
    ∙ sym (plain early i is (Other false true n) k (unmarked i is (Other false true n) k refl) refl refl)
modified_step early i is (Other true w n) k others =
    others (Modifiers false) ∙ worded_step early i is (Other true w n) k refl refl refl refl

-- ---- behind a name of an annotation

noted_is_modified : (early : Bool) (i : Item) (is : List Item)
    → (begins_sign (codes ".") i && leads (begins is_name) is) ≡ false → begins_sign (codes "(") i ≡ false
    → tested_noted early (i ∷ is) ≡ tested_modifiers early (i ∷ is)
noted_is_modified early i is e p =
    ap (λ f. of_fronts early f (noted is_type_modifier (i ∷ is)) (i ∷ is)) (noted_ended none i is e p)
    ∙ ap (λ f. of_fronts early (front none (i ∷ is)) f (i ∷ is)) (noted_ended is_type_modifier i is e p)

unpointed : (i : Item) (is : List Item) (l : Letter) → Reads i l → at_point l ≡ false
    → (begins_sign (codes ".") i && leads (begins is_name) is) ≡ false
unpointed i is l k m = ap (λ b. b && leads (begins is_name) is) (k.point ∙ m)

pointed_by : (early : Bool) (i j : Item) (js : List Item) (l : Letter) (b : Bool) → Reads i Point → Reads j l
    → begins is_name j ≡ b → (if b then tested_noted early js else None) ≡ tested_noted early (i ∷ j ∷ js)
pointed_by early i j js l true k h n =
    let apart : IsApart i = record { semicolon = k.semicolon; braces = k.braces } in
    let pointed : (begins_sign (codes ".") i && begins is_name j) ≡ true =
    ap (λ b. b && begins is_name j) k.point ∙ n in
    behind_two early (noted none js) (noted is_type_modifier js) i j js apart (name_apart j l h n)
    ∙ ap (λ f. of_fronts early f (noted is_type_modifier js) (i ∷ j ∷ js)) (sym (noted_pointed none i j js pointed))
    ∙ ap (λ f. of_fronts early (noted none (i ∷ j ∷ js)) f (i ∷ j ∷ js))
    (sym (noted_pointed is_type_modifier i j js pointed))
pointed_by early i j js l false k h n =
    let unnamed : (begins_sign (codes ".") i && begins is_name j) ≡ false =
    ap (λ b. b && begins is_name j) k.point ∙ n in
    sym (noted_is_modified early i (j ∷ js) unnamed k.parentheses ∙ unfit early i (j ∷ js) Point k refl refl refl refl)

point_step : (early : Bool) (i : Item) (is : List Item) → Reads i Point
    → tested_point early is ≡ tested_noted early (i ∷ is)
point_step early i [] k =
    sym (noted_is_modified early i [] (and-false (begins_sign (codes ".") i)) k.parentheses
    ∙ unfit early i [] Point k refl refl refl refl)
point_step early i (j ∷ js) k =
    let l = reads j in pointed_by early i j js l.0 (begins is_name j) k l.1 refl

bracketed_step : (early : Bool) (i : Item) (is : List Item) → Reads i Parentheses
    → tested_modifiers early is ≡ tested_noted early (i ∷ is)
bracketed_step early i is k =
    let e = unpointed i is Parentheses k refl in
    ap (λ x. verdict early (leads (begins_word (codes "package")) (front none is) && x)
    (names_type (front is_type_modifier is) && braces_end is))
    (sym (not_last (begins_sign (codes ";")) i is k.semicolon))
    ∙ ap (λ x. verdict early (leads (begins_word (codes "package")) (front none is) && lines_end (i ∷ is))
    (names_type (front is_type_modifier is) && x)) (sym (not_last (begins_sign (codes "{")) i is k.braces))
    ∙ ap (λ f. of_fronts early f (front is_type_modifier is) (i ∷ is)) (sym (noted_bracketed none i is e k.parentheses))
    ∙ ap (λ f. of_fronts early (noted none (i ∷ is)) f (i ∷ is))
    (sym (noted_bracketed is_type_modifier i is e k.parentheses))

noted_step : (early : Bool) (i : Item) (is : List Item) (l : Letter) → Reads i l
    → ((s : Seen) → run s is ≡ tested s is) →
    run_from (seen_at (AnnotationName early) l) is ≡ tested_noted early (i ∷ is)
noted_step early i is Point k others = others (AnnotationPoint early) ∙ point_step early i is k
noted_step early i is Parentheses k others = others (Modifiers early) ∙ bracketed_step early i is k
noted_step early i is l k others =
    modified_step early i is l k others ∙ sym (noted_is_modified early i is (unpointed i is l k refl) k.parentheses)

-- ---- at the start, and to the end

one_alone : (early imports : Bool) (i : Item) (is : List Item) → Reads i Semicolon
    → run_from (Some (Whole early imports)) is ≡ tested (Whole early imports) (i ∷ is)
one_alone early imports i [] k =
    ap (λ b. if b then Some (Whole early imports)
    else (if imports && is_import (i ∷ []) then Some (Whole false true) else tested_modifiers early (i ∷ [])))
    (sym k.semicolon)
one_alone early imports i (j ∷ js) k =
    sym (ap (λ b. if imports && (b && lines_end (i ∷ j ∷ js)) then Some (Whole false true)
    else tested_modifiers early (i ∷ j ∷ js)) k.import_word
    ∙ ap (λ b. if b then Some (Whole false true) else tested_modifiers early (i ∷ j ∷ js)) (and-false imports)
    ∙ unfit early i (j ∷ js) Semicolon k refl refl refl refl)

not_alone : (i : Item) (is : List Item) → begins_sign (codes ";") i ≡ false → is_semicolon (i ∷ is) ≡ false
not_alone i [] e = e
not_alone i (j ∷ js) e = refl

not_empty : (early imports : Bool) (i : Item) (is : List Item) (l : Letter) → Reads i l → at_semicolon l ≡ false
    → tested (Whole early imports) (i ∷ is)
    ≡ (if imports && (at_import l && lines_end is) then Some (Whole false true) else tested_modifiers early (i ∷ is))
not_empty early imports i is l k e =
    ap (λ b. if b then Some (Whole early imports)
    else (if imports && is_import (i ∷ is) then Some (Whole false true) else tested_modifiers early (i ∷ is)))
    (not_alone i is (k.semicolon ∙ e))
    ∙ ap (λ b. if imports && (b && lines_end (i ∷ is)) then Some (Whole false true)
    else tested_modifiers early (i ∷ is)) k.import_word
    ∙ ap (λ b. if imports && (at_import l && b) then Some (Whole false true) else tested_modifiers early (i ∷ is))
    (not_last (begins_sign (codes ";")) i is (k.semicolon ∙ e))

no_import : (early imports : Bool) (i : Item) (is : List Item) (l : Letter) → Reads i l → at_semicolon l ≡ false
    → at_import l ≡ false → ((s : Seen) → run s is ≡ tested s is)
    → run_from (if imports && at_import l then Some Directive else modified_at early l) is
    ≡ tested (Whole early imports) (i ∷ is)
no_import early imports i is l k e m others =
    ap (λ b. run_from (if imports && b then Some Directive else modified_at early l) is) m
    ∙ ap (λ b. run_from (if b then Some Directive else modified_at early l) is) (and-false imports)
    ∙ modified_step early i is l k others
    ∙ ap (λ b. if b then Some (Whole false true) else tested_modifiers early (i ∷ is)) (sym (and-false imports))
    ∙ ap (λ b. if imports && (b && lines_end is) then Some (Whole false true) else tested_modifiers early (i ∷ is))
    (sym m)
    ∙ sym (not_empty early imports i is l k e)

import_step : (early : Bool) (i : Item) (is : List Item) → Reads i ImportWord
    → ((s : Seen) → run s is ≡ tested s is) → run Directive is ≡ tested (Whole early true) (i ∷ is)
import_step early i is k others =
    others Directive
    ∙ ap (λ o. if lines_end is then Some (Whole false true) else o)
    (sym (unfit early i is ImportWord k refl refl refl refl))
    ∙ sym (not_empty early true i is ImportWord k refl)

whole_step : (early imports : Bool) (i : Item) (is : List Item) (l : Letter) → Reads i l
    → ((s : Seen) → run s is ≡ tested s is)
    → run_from (seen_at (Whole early imports) l) is ≡ tested (Whole early imports) (i ∷ is)
whole_step early imports i is Semicolon k others = one_alone early imports i is k
whole_step early true i is ImportWord k others = import_step early i is k others
whole_step early false i is ImportWord k others =
    modified_step early i is ImportWord k others ∙ sym (not_empty early false i is ImportWord k refl)
whole_step early imports i is l k others = no_import early imports i is l k refl refl others

at_end : (imports : Bool) (test : Item → Bool) (i : Item) (is : List Item) (b : Bool) (r : Option Seen) → test i ≡ b
    → r ≡ (if ends_first test is then Some (Whole false imports) else None)
    → (if b then run_from (Some (Whole false imports)) is else r)
    ≡ (if ends_first test (i ∷ is) then Some (Whole false imports) else None)
at_end imports test i [] true r e h = ap (λ b. if b then Some (Whole false imports) else None) (sym e)
at_end imports test i (j ∷ js) true r e h =
    ap (λ b. if not b && ends_first test (j ∷ js) then Some (Whole false imports) else None) (sym e)
at_end imports test i is false r e h =
    h ∙ ap (λ b. if b then Some (Whole false imports) else None) (sym (not_last test i is e))

mark_goes_on : (early : Bool) (is : List Item) (n c : Bool) → ((s : Seen) → run s is ≡ tested s is)
    → run_from (if n then Some (AnnotationName early) else (if c then Some TypeWord else None)) is
    ≡ (if n then tested_noted early is else (if c then tested_word is else None))
mark_goes_on early is true c others = others (AnnotationName early)
mark_goes_on early is false true others = others TypeWord
mark_goes_on early is false false others = refl

point_goes_on : (early : Bool) (is : List Item) (n : Bool) → ((s : Seen) → run s is ≡ tested s is)
    → run_from (if n then Some (AnnotationName early) else None) is ≡ (if n then tested_noted early is else None)
point_goes_on early is true others = others (AnnotationName early)
point_goes_on early is false others = refl

step : (s : Seen) (i : Item) (is : List Item) (l : Letter) → Reads i l → ((s : Seen) → run s is ≡ tested s is)
    → run_from (seen_at s l) is ≡ tested s (i ∷ is)
step (Whole early imports) i is l k others = whole_step early imports i is l k others
step (Modifiers early) i is l k others = modified_step early i is l k others
step (AtSign early) i is l k others =
    mark_goes_on early is (at_name l) (at_interface l) others
    ∙ sym (same_two (λ a b. if a then tested_noted early is else (if b then tested_word is else None)) k.name
    k.interface_word)
step (AnnotationName early) i is l k others = noted_step early i is l k others
step (AnnotationPoint early) i is l k others =
    point_goes_on early is (at_name l) others ∙ ap (λ a. if a then tested_noted early is else None) (sym k.name)
step TypeWord i is (Other m w true) k others =
    others TypeName
    ∙ ap (λ b. if b then Some (Whole false false) else None) (sym (not_last (begins_sign (codes "{")) i is k.braces))
    ∙ ap (λ n. if n && braces_end (i ∷ is) then Some (Whole false false) else None) (sym k.name)
step TypeWord i is l k others =
    ap (λ n. if n && braces_end (i ∷ is) then Some (Whole false false) else None) (sym k.name)
step TypeName i is Braces k others =
    at_end false (begins_sign (codes "{")) i is true (run TypeName is) k.braces (others TypeName)
step TypeName i is l k others =
    at_end false (begins_sign (codes "{")) i is false (run TypeName is) k.braces (others TypeName)
step Directive i is Semicolon k others =
    at_end true (begins_sign (codes ";")) i is true (run Directive is) k.semicolon (others Directive)
step Directive i is l k others =
    at_end true (begins_sign (codes ";")) i is false (run Directive is) k.semicolon (others Directive)

run_of_none : (s : Seen) → run s [] ≡ tested s []
run_of_none (Whole true true) = refl
run_of_none (Whole true false) = refl
run_of_none (Whole false true) = refl
run_of_none (Whole false false) = refl
run_of_none (Modifiers early) = sym (never early)
run_of_none (AtSign early) = refl
run_of_none (AnnotationName early) = sym (never early)
run_of_none (AnnotationPoint early) = refl
run_of_none TypeWord = refl
run_of_none TypeName = refl
run_of_none Directive = refl

pub run_is_tested : (is : List Item) (s : Seen) → run s is ≡ tested s is
run_is_tested [] s = run_of_none s
run_is_tested (i ∷ is) s =
    let l = reads i in
    run_is s i is ∙ ap (λ o. run_from o is) (seen_is s i l.0 l.1) ∙ step s i is l.0 l.1 (run_is_tested is)
