-- Fields that are kept.
use Rattle.std.proofs.Common.{◌≡◌, Bool, true, false, cond, ◌&&◌, ◌||◌, List, [], ◌∷◌, ◌++◌}
use Rattle.std.proofs.Common.{Option, None, Some, refl, sym, ap, subst, ◌∙◌}
use Rattle.std.proofs.lemmas.Bool.{eq-eqb, false_from_ne_true}
use Rattle.std.proofs.lemmas.List.{append-nil, map-append}
use Rattle.std.specs.BTreeSet.{BTreeSet, IsDisjoint, Updates, contains}
use Rattle.std.specs.Cmp.{unsigned_ties}
use Rattle.std.specs.List.{list_any}
use Rattle.racer_base.specs.declared.ids.FieldId.{FieldId}
use Rattle.access_paths.specs.Paths.{same_field}
use Rattle.core_semantics.specs.declared.object.Object.{Object}
use Rattle.core_semantics.specs.Changes.{Change, Quiet, Stores, Loud, Spot, field_change}
use Rattle.core_semantics.specs.Objects.{same_object}
use Rattle.witness_build_apart_laws.specs.Stores.{is_spot, noted, stored_both}
use Rattle.witness_build_walks.specs.Walks.{AreKept, IsNoted, field_cmp, fields_of, is_in, is_loud_behind, written}

in-push : (xs : List FieldId) (g f : FieldId) → is_in (xs ++ g ∷ []) f ≡ (is_in xs f || same_field g f)
in-push [] g f = elim (same_field g f) as (λ b. (b || false) ≡ b) [ true ↦ refl | false ↦ refl ]
in-push (x ∷ xs) g f =
    ap (λ b. same_field x f || b) (in-push xs g f)
    ∙ (elim (same_field x f) as (λ b. (b || (is_in xs f || same_field g f)) ≡ ((b || is_in xs f) || same_field g f)) [
      | true ↦ refl
      | false ↦ refl
    ])

in-left : (xs ys : List FieldId) (f : FieldId) → is_in xs f ≡ true → is_in (xs ++ ys) f ≡ true
in-left [] ys f e = absurd cc
in-left (x ∷ xs) ys f e = first (same_field x f) e (in-left xs ys f)
  where
    first : (b : Bool) → (b || is_in xs f) ≡ true → (is_in xs f ≡ true → is_in (xs ++ ys) f ≡ true) →
        (b || is_in (xs ++ ys) f) ≡ true
    first true h then_on = refl
    first false h then_on = then_on h

in-right : (xs ys : List FieldId) (f : FieldId) → is_in ys f ≡ true → is_in (xs ++ ys) f ≡ true
in-right [] ys f e = e
in-right (x ∷ xs) ys f e = second (same_field x f) (is_in (xs ++ ys) f) (in-right xs ys f e)
  where
    second : (a b : Bool) → b ≡ true → (a || b) ≡ true
    second true b h = refl
    second false b h = h

pub none-kept : (kept : BTreeSet FieldId) → AreKept kept []
none-kept kept = λ f e. absurd cc

pub same-kept : (kept : BTreeSet FieldId) (xs ys : List FieldId) → xs ≡ ys → AreKept kept xs → AreKept kept ys
same-kept kept xs ys same are = subst (AreKept kept) same are

-- one more is kept
pub one-kept : (old new : BTreeSet FieldId) (xs : List FieldId) (g : FieldId) → Updates field_cmp old new g true →
    AreKept old xs → AreKept new (xs ++ g ∷ [])
one-kept old new xs g updates are =
    λ f e. updates.0 f
    ∙ ap (λ b. cond b true (contains field_cmp old f)) (sym (unsigned_ties g.0 f.0))
    ∙ by_tie f (same_field g f) (are f) (sym (in-push xs g f) ∙ e)
  where
    by_tie : (f : FieldId) (b : Bool) → (is_in xs f ≡ true → contains field_cmp old f ≡ true) →
        (is_in xs f || b) ≡ true → cond b true (contains field_cmp old f) ≡ true
    by_tie f true were e = refl
    by_tie f false were e = were (left (is_in xs f) e)
      where
        left : (a : Bool) → (a || false) ≡ true → a ≡ true
        left true h = refl
        left false h = h

pub none-more-kept : (kept : BTreeSet FieldId) (xs : List FieldId) → AreKept kept xs → AreKept kept (xs ++ [])
none-more-kept kept xs are = same-kept kept xs (xs ++ []) (sym (append-nil xs)) are

pub first-kept : (kept : BTreeSet FieldId) (xs ys : List FieldId) → AreKept kept (xs ++ ys) → AreKept kept xs
first-kept kept xs ys are = λ f e. are f (in-left xs ys f e)

pub second-kept : (kept : BTreeSet FieldId) (xs ys : List FieldId) → AreKept kept (xs ++ ys) → AreKept kept ys
second-kept kept xs ys are = λ f e. are f (in-right xs ys f e)

pub both-kept : (kept : BTreeSet FieldId) (xs ys : List FieldId) → AreKept kept xs → AreKept kept ys →
    AreKept kept (xs ++ ys)
both-kept kept xs ys are more = λ f e. either_in xs f (are f) (more f) e
  where
    by_head : (b c : Bool) (f : FieldId) → (b ≡ true → contains field_cmp kept f ≡ true) →
        (c ≡ true → contains field_cmp kept f ≡ true) → (b || c) ≡ true → contains field_cmp kept f ≡ true
    by_head true c f one other e = one refl
    by_head false c f one other e = other e

    right_in : (a b : Bool) → b ≡ true → (a || b) ≡ true
    right_in true b h = refl
    right_in false b h = h

    left_in : (a b : Bool) → a ≡ true → (a || b) ≡ true
    left_in true b h = refl
    left_in false b h = absurd cc

    either_in : (zs : List FieldId) (f : FieldId) → (is_in zs f ≡ true → contains field_cmp kept f ≡ true) →
        (is_in ys f ≡ true → contains field_cmp kept f ≡ true) → is_in (zs ++ ys) f ≡ true →
        contains field_cmp kept f ≡ true
    either_in [] f one other e = other e
    either_in (z ∷ zs) f one other e =
        by_head (same_field z f) (is_in (zs ++ ys) f) f (λ h. one (left_in (same_field z f) (is_in zs f) h))
        (λ h. either_in zs f (λ k. one (right_in (same_field z f) (is_in zs f) k)) other h) e

pub fields-both : (xs ys : List Spot) → fields_of (xs ++ ys) ≡ fields_of xs ++ fields_of ys
fields-both xs ys = map-append (λ (x : Spot). x.1) xs ys

-- ---- what a step stores

spots-on : (kept : BTreeSet FieldId) (spots more : List Spot) → AreKept kept (fields_of spots ++ fields_of more) →
    AreKept kept (fields_of (spots ++ more))
spots-on kept spots more are =
    same-kept kept (fields_of spots ++ fields_of more) (fields_of (spots ++ more)) (sym (fields-both spots more)) are

quiet-on : (loud : Bool) (old new : BTreeSet FieldId) (o : Option (List Spot)) (more : List Spot) → IsNoted loud old o →
    ((fields : List FieldId) → AreKept old fields → AreKept new (fields ++ fields_of more)) →
    IsNoted loud new (stored_both o (Some more))
quiet-on true old new o more noted grows = tt
quiet-on false old new None more noted grows = absurd noted
quiet-on false old new (Some spots) more noted grows = spots-on new spots more (grows (fields_of spots) noted)

pub noted-on : (c : Change) (loud : Bool) (old new : BTreeSet FieldId) (o : Option (List Spot)) → IsNoted loud old o →
    ((fields : List FieldId) → AreKept old fields → AreKept new (fields ++ written (field_change c))) →
    IsNoted (is_loud_behind loud (field_change c)) new (stored_both o (noted c (Some [])))
noted-on Quiet loud old new o noted grows = quiet-on loud old new o [] noted grows
noted-on (Stores p f) loud old new o noted grows = quiet-on loud old new o ((p, f) ∷ []) noted grows
noted-on Loud loud old new o noted grows = tt

pub noted-still : (loud : Bool) (kept : BTreeSet FieldId) (o : Option (List Spot)) → IsNoted loud kept o →
    IsNoted loud kept (stored_both o (Some []))
noted-still loud kept o noted = quiet-on loud kept kept o [] noted (none-more-kept kept)

-- ---- fields of which none is in the other list

pub spots-of : (loud : Bool) (kept : BTreeSet FieldId) (o : Option (List Spot)) → IsNoted loud kept o → loud ≡ false →
    (spots : List Spot) × (o ≡ Some spots) × AreKept kept (fields_of spots)
spots-of true kept o noted quiet = absurd cc
spots-of false kept None noted quiet = absurd noted
spots-of false kept (Some spots) noted quiet = (spots, refl, noted)

spot-in : (spots : List Spot) (o : Object) (f : FieldId) → list_any (is_spot o f) spots ≡ true →
    is_in (fields_of spots) f ≡ true
spot-in [] o f e = absurd cc
spot-in ((p, g) ∷ spots) o f e = by_head (same_object p o) (same_field g f) (spot-in spots o f) e
  where
    by_head : (a b : Bool) → (list_any (is_spot o f) spots ≡ true → is_in (fields_of spots) f ≡ true) →
        ((a && b) || list_any (is_spot o f) spots) ≡ true → (b || is_in (fields_of spots) f) ≡ true
    by_head a true rest h = refl
    by_head true false rest h = rest h
    by_head false false rest h = rest h

same-itself : (f : FieldId) → same_field f f ≡ true
same-itself f = eq-eqb f.0 f.0 refl

true-is-false : (b : Bool) → b ≡ true → b ≡ false → ⊥
true-is-false true e h = absurd cc
true-is-false false e h = absurd cc

module _ (writes reads : BTreeSet FieldId) (spots : List Spot) (are : AreKept writes (fields_of spots))
    (disjoint : IsDisjoint field_cmp writes reads) where
  none-hit : (looks : List Spot) → AreKept reads (fields_of looks) →
      list_any (λ (x : Spot). list_any (is_spot x.0 x.1) spots) looks ≡ false
  none-hit [] kept = refl
  none-hit (x ∷ looks) kept =
      both_false (list_any (is_spot x.0 x.1) spots)
      (list_any (λ (y : Spot). list_any (is_spot y.0 y.1) spots) looks)
      (false_from_ne_true (list_any (is_spot x.0 x.1) spots) (λ hit.
      true-is-false (contains field_cmp reads x.1) (kept x.1 (first_in (is_in (fields_of looks) x.1)))
      (disjoint x.1 (are x.1 (spot-in spots x.0 x.1 hit)))))
      (none-hit looks (λ f e. kept f (later_in (same_field x.1 f) (is_in (fields_of looks) f) e)))
    where
      both_false : (a b : Bool) → a ≡ false → b ≡ false → (a || b) ≡ false
      both_false true b h k = absurd cc
      both_false false b h k = k

      first_in : (b : Bool) → (same_field x.1 x.1 || b) ≡ true
      first_in b = ap (λ a. a || b) (same-itself x.1)

      later_in : (a b : Bool) → b ≡ true → (a || b) ≡ true
      later_in true b h = refl
      later_in false b h = h

pub looks-apart : (writes reads : BTreeSet FieldId) (spots looks : List Spot) → AreKept writes (fields_of spots) →
    AreKept reads (fields_of looks) → IsDisjoint field_cmp writes reads →
    list_any (λ (x : Spot). list_any (is_spot x.0 x.1) spots) looks ≡ false
looks-apart writes reads spots looks are kept disjoint = none-hit writes reads spots are disjoint looks kept
