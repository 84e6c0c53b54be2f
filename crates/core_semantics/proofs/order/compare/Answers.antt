use Rattle.std.proofs.Common.{◌≡◌, ℕ, true, false, nat_cmp, List, length, map, refl, sym, ap, ◌∙◌}
use Rattle.std.specs.Cmp.Lexicographic.{slice_cmp}
use Rattle.std.specs.Cmp.Derive.Mapped.{lex_map}
use Rattle.std.specs.Ordering.{is_eq, ordering_then}
use Rattle.std.specs.declared.cmp.Ordering.{Ordering}
use Rattle.std.specs.declared.cmp.Ordering.TheVariants.{Less, Equal, Greater}
use Rattle.racer_base.specs.declared.ids.FieldId.{FieldId}
use Rattle.core_semantics.specs.declared.object.Object.{Object}
use Rattle.core_semantics.specs.Order.{object_cmp, object_fields, first_number, object_form, second_number}
use Rattle.core_semantics.proofs.order.compare.Goals as goal

four_then : (a b c d e : Ordering) →
    ordering_then (ordering_then (ordering_then (ordering_then a b) c) d) e
    ≡ ordering_then a (ordering_then b (ordering_then c (ordering_then d e)))
four_then Less b c d e = refl
four_then Greater b c d e = refl
four_then Equal Less c d e = refl
four_then Equal Greater c d e = refl
four_then Equal Equal Less d e = refl
four_then Equal Equal Greater d e = refl
four_then Equal Equal Equal d e = refl

-- what ties leaves it to what comes then, and what does not decides
tied_first : (a b : Ordering) → is_eq a ≡ true → b ≡ ordering_then a b
tied_first Equal b e = refl
tied_first Less b e = absurd cc
tied_first Greater b e = absurd cc

decided_first : (a b : Ordering) → is_eq a ≡ false → a ≡ ordering_then a b
decided_first Equal b e = absurd cc
decided_first Less b e = refl
decided_first Greater b e = refl

abbrev numbers_cmp : Object → Object → Ordering
numbers_cmp a b =
    ordering_then
    (ordering_then
    (ordering_then (nat_cmp (object_form a) (object_form b)) (nat_cmp (first_number a) (first_number b)))
    (nat_cmp (second_number a) (second_number b)))
    (nat_cmp (length (object_fields a)) (length (object_fields b)))

abbrev fields_cmp : Object → Object → Ordering
fields_cmp a b =
    slice_cmp nat_cmp (map (λ (f : FieldId). f.0) (object_fields a)) (map (λ (f : FieldId). f.0) (object_fields b))

both_then : (a b : Object) → ordering_then (numbers_cmp a b) (fields_cmp a b) ≡ object_cmp a b
both_then a b =
    four_then (nat_cmp (object_form a) (object_form b)) (nat_cmp (first_number a) (first_number b))
    (nat_cmp (second_number a) (second_number b)) (nat_cmp (length (object_fields a)) (length (object_fields b)))
    (fields_cmp a b)

numbers-given : (n : Ordering) (a b : Object) (x y : ℕ × ℕ × ℕ × ℕ) →
    n ≡ ordering_then (ordering_then (ordering_then (nat_cmp x.0 y.0) (nat_cmp x.1 y.1)) (nat_cmp x.2 y.2))
    (nat_cmp x.3 y.3) →
    x ≡ (object_form a, first_number a, second_number a, length (object_fields a)) →
    y ≡ (object_form b, first_number b, second_number b, length (object_fields b)) → n ≡ numbers_cmp a b
numbers-given n a b x y is p q =
    is
    ∙ (λ i. ordering_then
    (ordering_then (ordering_then (nat_cmp (p i).0 (q i).0) (nat_cmp (p i).1 (q i).1)) (nat_cmp (p i).2 (q i).2))
    (nat_cmp (p i).3 (q i).3))

pub returns-then-is_eq : goal.returns-then-is_eq
returns-then-is_eq c =
    let a = c.args.a.now in
    let b = c.args.b.now in
    let p : List FieldId = object_fields a in
    let q : List FieldId = object_fields b in
    let compared : List FieldId → List FieldId → Ordering = slice_cmp (λ (f g : FieldId). nat_cmp f.0 g.0) in
    let numbers : c.cmp-numbers.result ≡ numbers_cmp a b =
    numbers-given c.cmp-numbers.result a b c.numbers.result c.numbers-2.result c.cmp-numbers.ensures c.numbers.ensures
    c.numbers-2.ensures in
    let fields : c.cmp.result ≡ fields_cmp a b =
    c.cmp.ensures
    ∙ (λ i. compared (c.fields.ensures i) (c.fields-then-is_eq.ensures i))
    ∙ sym (lex_map (λ (f : FieldId). f.0) nat_cmp p q) in
    tied_first c.cmp-numbers.result c.cmp.result (sym c.is_eq.ensures ∙ c.if-is_eq.true)
    ∙ (λ i. ordering_then (numbers i) (fields i))
    ∙ both_then a b

pub returns-else-is_eq : goal.returns-else-is_eq
returns-else-is_eq c =
    let a = c.args.a.now in
    let b = c.args.b.now in
    let numbers : c.cmp-numbers.result ≡ numbers_cmp a b =
    numbers-given c.cmp-numbers.result a b c.numbers.result c.numbers-2.result c.cmp-numbers.ensures c.numbers.ensures
    c.numbers-2.ensures in
    decided_first c.cmp-numbers.result (fields_cmp a b) (sym c.is_eq.ensures ∙ c.if-is_eq.false)
    ∙ ap (λ (n : Ordering). ordering_then n (fields_cmp a b)) numbers
    ∙ both_then a b
