-- Code that grew by one piece after another.
use Rattle.std.proofs.Common.{◌≡◌, ℕ, zero, suc, ◌+◌, ◌<◌, ◌≤◌, List, [], ◌∷◌, ◌++◌, length, map, drop, take}
use Rattle.std.proofs.Common.{get_or, refl, sym, ap, ◌∙◌, append_assoc, arith, ◌⊎◌, inl, inr}
use Rattle.std.specs.Prelude.{min}
use Rattle.std.proofs.lemmas.Bool.{cases_lt}
use Rattle.std.proofs.lemmas.List.{append-nil, drop_more, drop_all}
use Rattle.std.proofs.Math.Seq.{take-append_seam, drop-append_seam}
use Rattle.std.specs.List.{flat_map}
use denote.Param.Weighed.{most}
use Rattle.racer_base.specs.declared.ids.Kind.{Kind}
use Rattle.java_tree.specs.declared.expressions.Expression.{Expression}
use Rattle.java_tree.specs.declared.expressions.Initialiser.{Initialiser}
use Rattle.core_lowering_rules.specs.Trees.{Expr, Exprs, no_expr, expr_then, pack_exprs, pack_inits}
use Rattle.core_lowering_rules.specs.TreesOf.{expr_of, init_of}
use Rattle.core_lowering_rules.specs.ValueKinds.{ValueKind}
use Rattle.core_lowering_rules.specs.Context.{Context, Code, choice, converted}
use Rattle.core_lowering_rules.specs.Expressions.{code, kind, passed, init_code, items_code}

-- ---- pieces

pub two : (start one second a b : Code) → one ≡ start ++ a → second ≡ one ++ b → second ≡ start ++ (a ++ b)
two start one second a b p q = q ∙ ap (λ x. x ++ b) p ∙ append_assoc start a b

pub three : (start one second third a b c : Code) → one ≡ start ++ a → second ≡ one ++ b → third ≡ second ++ c →
    third ≡ start ++ (a ++ b ++ c)
three start one second third a b c p q r = two start second third (a ++ b) c (two start one second a b p q) r

-- ---- arguments

-- one value more
pub values-next : (context : Context) (all : List Expression) (i : ℕ) (e : Expression) (old one whole : Code) →
    i < length all → e ≡ get_or all i e → one ≡ old ++ code context (expr_of e) →
    old ++ passed context [] (pack_exprs (map expr_of (drop i all))) ≡ whole →
    one ++ passed context [] (pack_exprs (map expr_of (drop (i + 1) all))) ≡ whole
values-next context all i e old one whole within is p h =
    let rest = passed context [] (pack_exprs (map expr_of (drop (i + 1) all))) in
    let left : drop i all ≡ e ∷ drop (i + 1) all =
    drop_more all i e within ∙ ap (λ x. x ∷ drop (i + 1) all) (sym is) in
    ap (λ x. x ++ rest) p ∙ append_assoc old (code context (expr_of e)) rest
    ∙ ap (λ xs. old ++ passed context [] (pack_exprs (map expr_of xs))) (sym left) ∙ h

passed-next : (context : Context) (k : Kind) (kinds : List Kind) (e : Expr) (es : Exprs) →
    passed context (k ∷ kinds) (expr_then e es)
    ≡ code context e ++ converted context k (kind context e) ++ passed context kinds es
passed-next context k kinds e es = refl

next-passed : (context : Context) (kinds left : List Kind) (k : Kind) (e : Expr) (es : Exprs) → kinds ≡ k ∷ left →
    code context e ++ converted context k (kind context e) ++ passed context left es
    ≡ passed context kinds (expr_then e es)
next-passed context kinds left k e es is =
    sym (ap (λ ks. passed context ks (expr_then e es)) is ∙ passed-next context k left e es)

-- one argument more, which is converted
pub arguments-next : (context : Context) (kinds : List Kind) (all : List Expression) (i : ℕ) (e : Expression) (k : Kind)
    (old one second whole : Code) (given : ValueKind) → i < length all → i < length kinds → e ≡ get_or all i e →
    k ≡ get_or kinds i k → one ≡ old ++ code context (expr_of e) → given ≡ kind context (expr_of e) →
    second ≡ one ++ converted context k given →
    old ++ passed context (drop i kinds) (pack_exprs (map expr_of (drop i all))) ≡ whole →
    second ++ passed context (drop (i + 1) kinds) (pack_exprs (map expr_of (drop (i + 1) all))) ≡ whole
arguments-next context kinds all i e k old one second whole given within known is same p kinds-are q h =
    let ks = drop (i + 1) kinds in
    let es = pack_exprs (map expr_of (drop (i + 1) all)) in
    let left : drop i all ≡ e ∷ drop (i + 1) all =
    drop_more all i e within ∙ ap (λ x. x ∷ drop (i + 1) all) (sym is) in
    let left-kinds : drop i kinds ≡ k ∷ ks = drop_more kinds i k known ∙ ap (λ x. x ∷ ks) (sym same) in
    let end = converted context k (kind context (expr_of e)) in
    let piece = code context (expr_of e) ++ end in
    let grown : second ≡ old ++ piece =
    two old one second (code context (expr_of e)) end p (q ∙ ap (λ g. one ++ converted context k g) kinds-are) in
    ap (λ x. x ++ passed context ks es) grown
    ∙ append_assoc old piece (passed context ks es)
    ∙ ap (λ x. old ++ x) (next-passed context (drop i kinds) ks k (expr_of e) es left-kinds)
    ∙ ap (λ xs. old ++ passed context (drop i kinds) (pack_exprs (map expr_of xs))) (sym left)
    ∙ h

-- one item more
pub items-next : (context : Context) (all : List Initialiser) (i : ℕ) (item : Initialiser) (old one whole : Code) →
    i < length all → item ≡ get_or all i item → one ≡ old ++ init_code context (init_of item) →
    old ++ items_code context (pack_inits (map init_of (drop i all))) ≡ whole →
    one ++ items_code context (pack_inits (map init_of (drop (i + 1) all))) ≡ whole
items-next context all i item old one whole within is p h =
    let rest = items_code context (pack_inits (map init_of (drop (i + 1) all))) in
    let left : drop i all ≡ item ∷ drop (i + 1) all =
    drop_more all i item within ∙ ap (λ x. x ∷ drop (i + 1) all) (sym is) in
    ap (λ x. x ++ rest) p ∙ append_assoc old (init_code context (init_of item)) rest
    ∙ ap (λ xs. old ++ items_code context (pack_inits (map init_of xs))) (sym left) ∙ h

nothing-passed : (context : Context) (kinds : List Kind) → passed context kinds no_expr ≡ []
nothing-passed context [] = refl
nothing-passed context (k ∷ kinds) = refl

-- behind the last value
pub values-done : (context : Context) (all : List Expression) (old whole : Code) (i : ℕ) → length all ≤ i →
    old ++ passed context [] (pack_exprs (map expr_of (drop i all))) ≡ whole → old ≡ whole
values-done context all old whole i past h =
    sym (ap (λ xs. old ++ passed context [] (pack_exprs (map expr_of xs))) (drop_all i all past) ∙ append-nil old) ∙ h

-- what is left where the arguments or the kinds end is converted to nothing
left-passed : (context : Context) (kinds : List Kind) (all : List Expression) (i : ℕ) →
    i ≡ min (length all) (length kinds) →
    passed context (drop i kinds) (pack_exprs (map expr_of (drop i all)))
    ≡ passed context [] (pack_exprs (map expr_of (drop (length kinds) all)))
left-passed context kinds all i end = by (cases_lt (length all) (length kinds))
  where
    by : (length all < length kinds) ⊎ (length kinds ≤ length all) →
        passed context (drop i kinds) (pack_exprs (map expr_of (drop i all)))
        ≡ passed context [] (pack_exprs (map expr_of (drop (length kinds) all)))
    by (inl fewer) =
        ap (λ xs. passed context (drop i kinds) (pack_exprs (map expr_of xs)))
        (drop_all i all (omega (arith, end, fewer)))
        ∙ nothing-passed context (drop i kinds)
        ∙ ap (λ xs. passed context [] (pack_exprs (map expr_of xs)))
        (sym (drop_all (length kinds) all (omega (arith, fewer))))
    by (inr more) =
        let at : i ≡ length kinds = omega (arith, end, more) in
        ap (λ ks. passed context ks (pack_exprs (map expr_of (drop i all))))
        (drop_all i kinds (omega (arith, at)))
        ∙ ap (λ n. passed context [] (pack_exprs (map expr_of (drop n all)))) at

-- behind the further arguments
pub arguments-done : (context : Context) (kinds : List Kind) (all further : List Expression) (old last whole : Code)
    (i : ℕ) → i ≡ min (length all) (length kinds) → further ≡ drop (length kinds) all →
    last ≡ old ++ passed context [] (pack_exprs (map expr_of further)) →
    old ++ passed context (drop i kinds) (pack_exprs (map expr_of (drop i all))) ≡ whole → last ≡ whole
arguments-done context kinds all further old last whole i end are p h =
    p ∙ ap (λ xs. old ++ passed context [] (pack_exprs (map expr_of xs))) are
    ∙ ap (λ x. old ++ x) (sym (left-passed context kinds all i end)) ∙ h

-- what is left of a list is no larger
pub most-drop : {A : Type 0} (size : A → ℕ) (n : ℕ) (xs : List A) → most size (drop n xs) ≤ most size xs
most-drop size zero xs = omega arith
most-drop size (suc n) [] = omega arith
most-drop size (suc n) (x ∷ xs) =
    let rest : most size (drop n xs) ≤ most size xs = most-drop size n xs in omega arith

-- ---- choices

pub chosen : (start left right old new : Code) (l r : ℕ) → l ≡ length start → r ≡ length (start ++ left) →
    old ≡ start ++ left ++ right →
    new ≡ take l (take r old) ++ choice (drop l (take r old)) (drop r old) → new ≡ start ++ choice left right
chosen start left right old new l r at_left at_right is made =
    let front : take r old ≡ start ++ left =
    ap (λ n. take n old) at_right ∙ ap (λ x. take (length (start ++ left)) x) is
    ∙ take-append_seam (start ++ left) right in
    let behind : drop r old ≡ right =
    ap (λ n. drop n old) at_right ∙ ap (λ x. drop (length (start ++ left)) x) is
    ∙ drop-append_seam (start ++ left) right in
    made
    ∙ ap (λ x. take l x ++ choice (drop l x) (drop r old)) front
    ∙ ap (λ x. take l (start ++ left) ++ choice (drop l (start ++ left)) x) behind
    ∙ ap (λ n. take n (start ++ left) ++ choice (drop n (start ++ left)) right) at_left
    ∙ ap (λ x. x ++ choice (drop (length start) (start ++ left)) right) (take-append_seam start left)
    ∙ ap (λ x. start ++ choice x right) (drop-append_seam start left)

pub items-done : (context : Context) (all : List Initialiser) (old whole : Code) (i : ℕ) → length all ≤ i →
    old ++ items_code context (pack_inits (map init_of (drop i all))) ≡ whole → old ≡ whole
items-done context all old whole i past h =
    let none : drop i all ≡ [] = drop_all i all past in
    sym (ap (λ xs. old ++ items_code context (pack_inits (map init_of xs))) none ∙ append-nil old) ∙ h

-- ---- one piece for each element

pub mapped-next : {A : Type 0} (f : A → Code) (all : List A) (i : ℕ) (x : A) (old one whole : Code) → i < length all →
    x ≡ get_or all i x → one ≡ old ++ f x → old ++ flat_map f (drop i all) ≡ whole →
    one ++ flat_map f (drop (i + 1) all) ≡ whole
mapped-next f all i x old one whole within is p h =
    let left : drop i all ≡ x ∷ drop (i + 1) all =
    drop_more all i x within ∙ ap (λ y. y ∷ drop (i + 1) all) (sym is) in
    ap (λ y. y ++ flat_map f (drop (i + 1) all)) p ∙ append_assoc old (f x) (flat_map f (drop (i + 1) all))
    ∙ ap (λ xs. old ++ flat_map f xs) (sym left) ∙ h

pub mapped-done : {A : Type 0} (f : A → Code) (all : List A) (i : ℕ) (old whole : Code) → length all ≤ i →
    old ++ flat_map f (drop i all) ≡ whole → old ≡ whole
mapped-done f all i old whole past h =
    sym (ap (λ xs. old ++ flat_map f xs) (drop_all i all past) ∙ append-nil old) ∙ h
