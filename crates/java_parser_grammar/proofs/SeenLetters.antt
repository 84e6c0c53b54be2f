-- The walk over the items of one declaration, and what it sees by the letter of an item.
use Rattle.std.proofs.Common.{◌≡◌, Bool, true, false, ◌&&◌, List, [], ◌∷◌, Option, Some, None, refl, ap, ◌∙◌}
use Rattle.std.specs.Prelude.{if◌then◌else◌}
use Rattle.java_parser_grammar.specs.Pieces.{Item}
use Rattle.java_parser_grammar.specs.DeclarationWalk.{Seen, Whole, Modifiers, AtSign, AnnotationName, AnnotationPoint}
use Rattle.java_parser_grammar.specs.DeclarationWalk.{TypeWord}
use Rattle.java_parser_grammar.specs.DeclarationWalk.{TypeName, Directive, modified, seen_with, is_whole}
use Rattle.java_parser_grammar.proofs.ItemLetters.{Letter, at_semicolon, at_braces, at_parentheses, at_point, at_mark}
use Rattle.java_parser_grammar.proofs.ItemLetters.{at_package}
use Rattle.java_parser_grammar.proofs.ItemLetters.{at_import, at_interface, at_modifier, at_word, at_name, Reads}

-- ---- the walk over one declaration

abbrev pub ended : (whole : Bool) → Seen → List Item → Option Seen → Option Seen
ended true m [] r = Some m
ended true m (j ∷ js) r = None
ended false m is r = r

-- what is seen at the end of a declaration, where it is one from what was seen
abbrev pub run : Seen → List Item → Option Seen
run s [] = None
run s (i ∷ is) = elim (seen_with s i) [ None ↦ None | (Some m) ↦ ended (is_whole m) m is (run m is) ]

abbrev pub run_from : Option Seen → List Item → Option Seen
run_from None is = None
run_from (Some m) is = ended (is_whole m) m is (run m is)

pub run_is : (s : Seen) (i : Item) (is : List Item) → run s (i ∷ is) ≡ run_from (seen_with s i) is
run_is s i is = by_next (seen_with s i) where
  by_next : (o : Option Seen) → (elim o as (λ _. Option Seen) [
    | None ↦ None
    | (Some m) ↦ ended (is_whole m) m is (run m is)
  ]) ≡ run_from o is
  by_next None = refl
  by_next (Some m) = refl

-- ---- what is seen, by the letter of an item

abbrev pub modified_at : (early : Bool) → Letter → Option Seen
modified_at early l =
    if at_modifier l then Some (Modifiers false)
    else (if at_word l then Some TypeWord
    else (if at_mark l then Some (AtSign early)
    else (if early && at_package l then Some Directive else None)))

abbrev pub seen_at : Seen → Letter → Option Seen
seen_at (Whole early imports) l =
    if at_semicolon l then Some (Whole early imports)
    else (if imports && at_import l then Some Directive else modified_at early l)
seen_at (Modifiers early) l = modified_at early l
seen_at (AtSign early) l =
    if at_name l then Some (AnnotationName early) else (if at_interface l then Some TypeWord else None)
seen_at (AnnotationName early) l =
    if at_point l then Some (AnnotationPoint early)
    else (if at_parentheses l then Some (Modifiers early) else modified_at early l)
seen_at (AnnotationPoint early) l = if at_name l then Some (AnnotationName early) else None
seen_at TypeWord l = if at_name l then Some TypeName else None
seen_at TypeName l = if at_braces l then Some (Whole false false) else Some TypeName
seen_at Directive l = if at_semicolon l then Some (Whole false true) else Some Directive

pub same_two : (f : Bool → Bool → Option Seen) {a b c d : Bool} → a ≡ c → b ≡ d → f a b ≡ f c d
same_two f {a} {b} {c} {d} p q = ap (λ x. f x b) p ∙ ap (f c) q

pub same_four : (f : Bool → Bool → Bool → Bool → Option Seen) {a b c d x y z w : Bool} → a ≡ x → b ≡ y → c ≡ z → d ≡ w
    → f a b c d ≡ f x y z w
same_four f {a} {b} {c} {d} {x} {y} {z} {w} p q r t =
    ap (λ v. f v b c d) p ∙ ap (λ v. f x v c d) q ∙ ap (λ v. f x y v d) r ∙ ap (f x y z) t

abbrev pub modified_by : (early a b c d : Bool) → Option Seen
modified_by early a b c d =
    if a then Some (Modifiers false)
    else (if b then Some TypeWord
    else (if c then Some (AtSign early)
    else (if early && d then Some Directive else None)))

modified_is : (early : Bool) (i : Item) (l : Letter) → Reads i l → modified early i ≡ modified_at early l
modified_is early i l k = same_four (modified_by early) k.modifier k.word k.mark k.package_word

pub seen_is : (s : Seen) (i : Item) (l : Letter) → Reads i l → seen_with s i ≡ seen_at s l
seen_is (Whole early imports) i l k =
    same_two (λ a b. if a then Some (Whole early imports)
    else (if imports && b then Some Directive else modified early i)) k.semicolon k.import_word
    ∙ ap (λ o. if at_semicolon l then Some (Whole early imports)
    else (if imports && at_import l then Some Directive else o)) (modified_is early i l k)
seen_is (Modifiers early) i l k = modified_is early i l k
seen_is (AtSign early) i l k =
    same_two (λ a b. if a then Some (AnnotationName early) else (if b then Some TypeWord else None)) k.name
    k.interface_word
seen_is (AnnotationName early) i l k =
    same_two (λ a b. if a then Some (AnnotationPoint early)
    else (if b then Some (Modifiers early) else modified early i)) k.point k.parentheses
    ∙ ap (λ o. if at_point l then Some (AnnotationPoint early)
    else (if at_parentheses l then Some (Modifiers early) else o)) (modified_is early i l k)
seen_is (AnnotationPoint early) i l k = ap (λ a. if a then Some (AnnotationName early) else None) k.name
seen_is TypeWord i l k = ap (λ a. if a then Some TypeName else None) k.name
seen_is TypeName i l k = ap (λ a. if a then Some (Whole false false) else Some TypeName) k.braces
seen_is Directive i l k = ap (λ a. if a then Some (Whole false true) else Some Directive) k.semicolon
