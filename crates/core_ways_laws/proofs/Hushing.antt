-- Where no path of a list is called by a quiet path.
use Rattle.std.proofs.Common.{◌≡◌, ℕ, zero, suc, ◌<◌, Bool, List, [], ◌∷◌, ◌++◌, None, Some, length}
use Rattle.std.proofs.Common.{slice_index_or, refl, sym, ap, ◌∙◌, subst, arith}
use Rattle.std.proofs.lemmas.List.Elements.{Contains-append_left, Contains-append_right}
use Rattle.std.specs.List.{Contains, flat_map}
use Rattle.racer_base.specs.declared.ids.SiteId.{SiteId}
use Rattle.access_paths.specs.declared.path.Path.{Path}
use Rattle.access_paths.specs.Paths.{same_path}
use Rattle.access_paths.specs.Same.{equal_of_same}
use Rattle.owner_domain.specs.declared.value.Value.{Value}
use Rattle.owner_domain.specs.declared.value.Value.TheVariants.{Owned, Named, Unnamed}
use Rattle.owner_domain.specs.Values.{names_of}
use Rattle.access_domain.specs.Findings.{Findings}
use Rattle.access_domain.specs.Records.{different_paths}
use Rattle.access_domain.specs.FlowContext.{FlowContext}
use Rattle.access_domain.specs.Substitution.{Actuals, value_named, substituted}
use Rattle.access_domain.proofs.Members.{contains_from_in, firsts_have, in_from_contains}
use Rattle.core_code.specs.Core.{Core}
use Rattle.core_ways_laws.specs.Names.{Naming, name_of, callee_naming}
use Rattle.core_ways_laws.specs.Quiet.{Quietness}
use Rattle.core_ways_laws.specs.Places.{AreHushed}
use Rattle.core_ways_laws.proofs.Naming.{name-substituted}

pub hush-first : (core : Core) (quiet : Quietness core) (n : Naming) (xs ys : List Path) →
    AreHushed core quiet n (xs ++ ys) → AreHushed core quiet n xs
hush-first core quiet n xs ys hush w there q name in_it = hush w (Contains-append_left xs ys w there) q name in_it

pub hush-second : (core : Core) (quiet : Quietness core) (n : Naming) (xs ys : List Path) →
    AreHushed core quiet n (xs ++ ys) → AreHushed core quiet n ys
hush-second core quiet n xs ys hush w there q name in_it = hush w (Contains-append_right xs ys w there) q name in_it

-- hush of the different paths of a list is hush of the list
pub hush-different : (core : Core) (quiet : Quietness core) (n : Naming) (xs : List Path) →
    AreHushed core quiet n (different_paths xs) → AreHushed core quiet n xs
hush-different core quiet n xs hushed = λ w there q is quietly.
    hushed w
    (contains_from_in (different_paths xs) w
    (firsts_have same_path equal_of_same xs w (in_from_contains xs w there)))
    q is quietly

-- what is in the list of an element is in the list of all
flat-at : (f : Path → List Path) (xs : List Path) (x y : Path) (k : ℕ) → k < length xs → slice_index_or xs k x ≡ x →
    Contains (f x) y → Contains (flat_map f xs) y
flat-at f [] x y k within is one = absurd (omega arith)
flat-at f (z ∷ zs) x y zero within is one =
    Contains-append_left (f z) (flat_map f zs) y (subst (λ (a : Path). Contains (f a) y) (sym is) one)
flat-at f (z ∷ zs) x y (suc k) within is one =
    Contains-append_right (f z) (flat_map f zs) y (flat-at f zs x y k (omega arith) is one)

names-contain : (v : Value) (p : Path) → v ≡ Named p → Contains (names_of v) p
names-contain v p is = subst (λ (a : Value). Contains (names_of a) p) (sym is) (0, omega arith, refl)

-- what is hushed of a callee in its caller's names is hushed in its own
pub hush-callee : (core : Core) (quiet : Quietness core) (n : Naming) (g : FlowContext) (actuals : Actuals)
    (found : Findings) (locked : Bool) (site : SiteId) →
    AreHushed core quiet n (substituted g actuals found locked site).wobbly →
    AreHushed core quiet (callee_naming n actuals) found.wobbly
hush-callee core quiet n g actuals found locked site hush w there q name in_it =
    stands (value_named actuals w) refl
  where
    named : name_of n (value_named actuals w) ≡ Some q
    named = name-substituted n actuals (Named w) ∙ name

    stands : (v : Value) → value_named actuals w ≡ v → ⊥
    stands Owned is = absurd (let none : None ≡ Some q = sym (ap (name_of n) is) ∙ named in cc)
    stands Unnamed is = absurd (let none : None ≡ Some q = sym (ap (name_of n) is) ∙ named in cc)
    stands (Named p) is =
        hush-different core quiet n (flat_map (λ a. names_of (value_named actuals a)) found.wobbly) hush p
        (flat-at (λ a. names_of (value_named actuals a)) found.wobbly w p there.0 there.1 there.2
        (names-contain (value_named actuals w) p is)) q (sym (ap (name_of n) is) ∙ named) in_it
