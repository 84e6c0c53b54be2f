use Rattle.std.proofs.Common.{◌≡◌, ◌∷◌, [], Some, Option, codes, map, sym, ap, ◌∙◌, arith}
use Rattle.std.proofs.lemmas.Result.{err_from_is_err_and}
use Rattle.java_tree.specs.declared.words.Spelled.{Spelled}
use Rattle.java_tree.specs.KeptPlaces.{Marks, kept, no_places, behind_name}
use Rattle.java_tree.specs.Words.{keyword, identifier}
use Rattle.java_parser_types.specs.Tokens.{spelled}
use Rattle.java_parser_types.proofs.LedMarks.{both_led, some_led}
use Rattle.java_parser_methods.proofs.ClassLoops.{named_gives, named_fails, behind_its_name}
use Rattle.java_parser_methods.proofs.local_classes.named_class.Goals as goal

pub returns-in_err-items-clause-gives : goal.returns-in_err-items-clause-gives
returns-in_err-items-clause-gives c =
    let x = c.in-Some.token.now.text in
    let word : ◌≡◌ {A = Option Spelled} (Some (keyword (codes "class"))) (Some c.in_ok-copy.copy) =
    ap (λ (s : Spelled). Some s) (sym c.in-Some.ensures.word) ∙ c.in_ok-copy.ensures in
    let name : ◌≡◌ {A = Option Spelled} (Some (identifier x)) (Some c.in_ok-copy-2.copy) =
    ap (λ (s : Spelled). Some s) (sym c.in-Some.ensures.named) ∙ c.in_ok-copy-2.ensures in
    let p = err_from_is_err_and c.from_residual-in_err-items.result c.from_residual-in_err-items.ensures.1 in
    rw (p.1, p.2) (named_fails c.args.words.items (map spelled c.args.tokens.now) x (map spelled c.in-Some.rest.now)
    c.in_ok-copy.copy c.in_ok-copy-2.copy c.in-Some.ensures.gives word name c.in_err-items.field-0.0
    (rw (c.in_ok-push-2.ensures.items, c.in_ok-push.ensures.items) at c.in_err-items.ensures.gives))

pub returns-clause-gives : goal.returns-clause-gives
returns-clause-gives c =
    let x = c.in-Some.token.now.text in
    let word : ◌≡◌ {A = Option Spelled} (Some (keyword (codes "class"))) (Some c.in_ok-copy.copy) =
    ap (λ (s : Spelled). Some s) (sym c.in-Some.ensures.word) ∙ c.in_ok-copy.ensures in
    let name : ◌≡◌ {A = Option Spelled} (Some (identifier x)) (Some c.in_ok-copy-2.copy) =
    ap (λ (s : Spelled). Some s) (sym c.in-Some.ensures.named) ∙ c.in_ok-copy-2.ensures in
    named_gives c.args.words.items (map spelled c.args.tokens.now) x (map spelled c.in-Some.rest.now)
    c.in_ok-copy.copy c.in_ok-copy-2.copy c.in-Some.ensures.gives word name c.in_ok-name.name.text
    c.in_ok-items.items.items (map spelled c.in_ok-items.rest.now) c.in_ok-name.ensures.gives
    (rw (c.in_ok-push-2.ensures.items, c.in_ok-push.ensures.items) at c.in_ok-items.ensures.gives)

pub returns-clause-places : goal.returns-clause-places
returns-clause-places c =
    let x = c.in-Some.token.now.text in
    let here = kept c.args.tokens.now in
    let at = kept c.in-Some.rest.now in
    let left = kept c.in_ok-items.rest.now in
    let word : keyword (codes "class") ≡ c.in_ok-copy.copy =
    let same = c.in_ok-copy.ensures in sym c.in-Some.ensures.word ∙ cc in
    let name : identifier x ≡ c.in_ok-copy-2.copy =
    let same = c.in_ok-copy-2.ensures in sym c.in-Some.ensures.named ∙ cc in
    both_led (λ (rest : Marks). Some c.in_ok-name.name.place ∷ rest) (no_places (behind_name c.in_ok-items.items.items))
    here at left (some_led (c.in_ok-name.name.place ∷ []) at here
    (rw c.in_ok-name.ensures.places c.in-Some.ensures.places))
    (behind_its_name c.args.words.items c.in_ok-items.items.items x c.in_ok-copy.copy c.in_ok-copy-2.copy at left
    c.requires word name
    (rw (c.in_ok-push-2.ensures.items, c.in_ok-push.ensures.items) at c.in_ok-items.ensures.places))

pub returns-clause-shorter : goal.returns-clause-shorter
returns-clause-shorter c =
    omega (arith, c.in-Some.ensures.shorter, c.in_ok-items.ensures.shorter)
