-- Code of items, step by step.
use Rattle.std.proofs.Common.{◌≡◌, ℕ, Bool, List, [], ◌∷◌, ◌++◌, ◌+◌, length, map, take, drop, cond}
use Rattle.std.proofs.Common.{suc, ◌<◌, ◌≤◌, get_or, sym, ap, ◌∙◌, append_assoc, length-append, arith}
use Rattle.std.proofs.lemmas.List.{append-nil, map-append, take-append-drop}
use Rattle.std.proofs.Math.Seq.{take-append_seam, drop-append_seam, drop-cons}
use Rattle.core_lowering_drafts.specs.declared.ahead.Behind.{Behind}
use Rattle.core_lowering_drafts.specs.declared.ahead.Way.{Way}
use Rattle.core_lowering_drafts.specs.declared.ahead.Fork.{Fork}
use Rattle.core_lowering_drafts.specs.declared.ahead.Item.{Item}
use Rattle.core_lowering_drafts.specs.Drafts.{Ends, Part, part_ends}
use Rattle.core_lowering_drafts.specs.Only.{Code, code_in, fork, only_part}
use Rattle.core_lowering_drafts.specs.Ahead.{item_of, closed, closed_one, done_by, rest_of, shape, shapes, way_by}
use Rattle.core_lowering_drafts.specs.Lists.{part_size, size_of}
use Rattle.core_lowering_drafts.specs.PieceFalls.{size_of-append}
use Rattle.core_lowering_drafts.proofs.Marks.{closed-here, closed-push, way-right}

-- ---- what was looked at ahead

abbrev first_of : {A : Type 0} → A → List A → A
first_of d [] = d
first_of d (x ∷ xs) = x

pub last-same : {A : Type 0} (xs ys : List A) (x y : A) → xs ++ x ∷ [] ≡ ys ++ y ∷ [] → (xs ≡ ys) × (x ≡ y)
last-same {A} xs ys x y e =
    let counts : length (xs ++ x ∷ []) ≡ length (ys ++ y ∷ []) = ap (λ (l : List A). length l) e in
    let long : length xs ≡ length ys = omega (arith, counts, length-append xs (x ∷ []), length-append ys (y ∷ [])) in (
      sym (take-append_seam xs (x ∷ [])) ∙ ap (λ (l : List A). take (length xs) l) e
          ∙ ap (λ n. take n (ys ++ y ∷ [])) long ∙ take-append_seam ys (y ∷ []),
      ap (λ (l : List A). first_of x l) (sym (drop-append_seam xs (x ∷ [])) ∙ ap (λ (l : List A). drop (length xs) l) e
          ∙ ap (λ n. drop n (ys ++ y ∷ [])) long ∙ drop-append_seam ys (y ∷ [])),
    )

-- of the first of these items
pub popped : (x : Item) (items all : List Item) (A : Ends) (old new : List Behind) (b : Behind) → all ≡ x ∷ items →
    old ≡ shapes (map item_of all) A → old ≡ new ++ b ∷ [] →
    (new ≡ shapes (map item_of items) A) × (b ≡ shape (rest_of (map item_of items) A))
popped x items all A old new b is ahead pop =
    last-same new (shapes (map item_of items) A) b (shape (rest_of (map item_of items) A))
    (sym pop ∙ ahead ∙ ap (λ (xs : List Item). shapes (map item_of xs) A) is)

-- ---- an item before what stands behind it

abbrev pub WritesBefore : List Fork → Code → Item → Behind → Ends → Bool → List Fork → Code → Type 0
WritesBefore marks W x b A goes new W' =
    (rest : Code) → closed new (W' ++ cond goes rest [])
    ≡ closed marks (W ++ done_by (way_by (part_ends (item_of x)) b A) (only_part (item_of x)) A rest)

-- what is written, and what is left, is all
pub before-next : (marks new : List Fork) (W W' T : Code) (x : Item) (items all : List Item) (b : Behind) (A : Ends)
    (goes : Bool) → WritesBefore marks W x b A goes new W' → all ≡ x ∷ items →
    b ≡ shape (rest_of (map item_of items) A) → closed marks (W ++ code_in (rest_of (map item_of all) A)) ≡ T →
    closed new (W' ++ cond goes (code_in (rest_of (map item_of items) A)) []) ≡ T
before-next marks new W W' T x items all b A goes writes is behind so_far =
    let rest = code_in (rest_of (map item_of items) A) in
    let E = part_ends (item_of x) in
    writes rest
    ∙ ap (λ c. closed marks (W ++ done_by (way_by E c A) (only_part (item_of x)) A rest)) behind
    ∙ ap (λ code. closed marks (W ++ code)) (sym (way-right (item_of x) (map item_of items) A))
    ∙ ap (λ (xs : List Item). closed marks (W ++ code_in (rest_of (map item_of xs) A))) (sym is) ∙ so_far

pub before-end : (new : List Fork) (W T : Code) → closed new (W ++ []) ≡ T → closed new W ≡ T
before-end new W T e = ap (λ code. closed new code) (sym (append-nil W)) ∙ e

-- ---- the ways

pub way-subst : (marks new : List Fork) (W W' : Code) (x : Item) (b : Behind) (A : Ends) (goes : Bool) (w v : Way) →
    w ≡ way_by (part_ends (item_of x)) b A → w ≡ v →
    ((rest : Code) → closed new (W' ++ cond goes rest [])
    ≡ closed marks (W ++ done_by v (only_part (item_of x)) A rest)) →
    WritesBefore marks W x b A goes new W'
way-subst marks new W W' x b A goes w v is here made rest =
    made rest
    ∙ ap (λ u. closed marks (W ++ done_by u (only_part (item_of x)) A rest)) (sym here ∙ is)

-- a part of which nothing goes on
pub part-ends : (marks : List Fork) (W W' P : Code) → W' ≡ W ++ P → (rest : Code) →
    closed marks (W' ++ []) ≡ closed marks (W ++ P)
part-ends marks W W' P made rest = ap (λ code. closed marks code) (append-nil W' ∙ made)

pub part-goes : (marks : List Fork) (W W' P : Code) → W' ≡ W ++ P → (rest : Code) →
    closed marks (W' ++ rest) ≡ closed marks (W ++ (P ++ rest))
part-goes marks W W' P made rest =
    ap (λ code. closed marks code) (ap (λ code. code ++ rest) made ∙ append_assoc W P rest)

-- both
pub part-both : (marks new : List Fork) (W V W' E P : Code) → V ≡ W ++ E → W' ≡ V ++ P →
    new ≡ marks ++ record { left = length W; right = length V } ∷ [] → (rest : Code) →
    closed new (W' ++ rest) ≡ closed marks (W ++ fork E (P ++ rest))
part-both marks new W V W' E P aside on_behind noted rest =
    let mark : Fork = record { left = length W; right = length V } in
    let whole : W' ++ rest ≡ (W ++ E) ++ (P ++ rest) =
    ap (λ code. code ++ rest) (on_behind ∙ ap (λ code. code ++ P) aside) ∙ append_assoc (W ++ E) P rest in
    ap (λ (ms : List Fork). closed ms (W' ++ rest)) noted ∙ closed-push marks mark (W' ++ rest)
    ∙ ap (λ code. closed marks (closed_one mark code)) whole
    ∙ ap (λ (c : Code). closed marks (take (length W) (take (length c) ((W ++ E) ++ (P ++ rest)))
    ++ fork (drop (length W) (take (length c) ((W ++ E) ++ (P ++ rest)))) (drop (length c) ((W ++ E) ++ (P ++ rest)))))
    aside
    ∙ ap (λ code. closed marks code) (closed-here W E (P ++ rest))

-- ---- one item of all

pub one-here : {A : Type 0} (xs : List A) (i : ℕ) (x : A) → i < length xs → x ≡ get_or xs i x →
    drop i xs ≡ x ∷ drop (i + 1) xs
one-here {A} xs i x there is =
    let next : suc i ≡ i + 1 = omega arith in
    drop-cons xs i x there ∙ ap (λ (y : A). y ∷ drop (suc i) xs) (sym is) ∙ ap (λ n. x ∷ drop n xs) next

-- an item within all
pub item-within : (items : List Item) (i : ℕ) (x : Item) → i < length items → x ≡ get_or items i x →
    part_size (item_of x) ≤ size_of (map item_of items)
item-within items i x there is =
    let from = one-here items i x there is in
    let front = map item_of (take i items) in
    let rest = map item_of (drop (i + 1) items) in
    let whole : map item_of items ≡ front ++ item_of x ∷ rest =
    ap (λ (xs : List Item). map item_of xs) (sym (take-append-drop i items))
    ∙ map-append item_of (take i items) (drop i items)
    ∙ ap (λ (xs : List Item). front ++ map item_of xs) from in
    let size : size_of (map item_of items) ≡ size_of front + size_of (item_of x ∷ rest) =
    ap (λ (ps : List Part). size_of ps) whole ∙ size_of-append front (item_of x ∷ rest) in
    omega (arith, size)

-- what is written and what is left is all, behind one more item
pub open-step : (marks new : List Fork) (W W' T : Code) (x : Item) (items all : List Item) (old left : List Behind)
    (b : Behind) (A : Ends) (goes : Bool) → WritesBefore marks W x b A goes new W' → all ≡ x ∷ items →
    old ≡ shapes (map item_of all) A → old ≡ left ++ b ∷ [] →
    closed marks (W ++ code_in (rest_of (map item_of all) A)) ≡ T →
    closed new (W' ++ cond goes (code_in (rest_of (map item_of items) A)) []) ≡ T
open-step marks new W W' T x items all old left b A goes writes is ahead pop so_far =
    before-next marks new W W' T x items all b A goes writes is (popped x items all A old left b is ahead pop).1 so_far
