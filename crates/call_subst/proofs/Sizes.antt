-- Substitution makes no list longer.
use Rattle.std.proofs.Common.{◌≡◌, ℕ, suc, ◌+◌, ◌≤◌, Bool, ◌||◌, List, [], ◌∷◌, ◌++◌, None, Some}
use Rattle.std.proofs.Common.{length, refl, ap, arith, length-append}
use Rattle.std.specs.List.{enumerate_from, flat_map}
use Rattle.racer_base.specs.declared.ids.SiteId.{SiteId}
use Rattle.access_paths.specs.declared.path.Path.{Path}
use Rattle.owner_domain.specs.declared.value.Value.{Value}
use Rattle.owner_domain.specs.declared.value.Value.TheVariants.{Owned, Named, Unnamed}
use Rattle.owner_domain.specs.Values.{names_of}
use Rattle.access_domain.specs.declared.access.Access.{Access}
use Rattle.access_domain.specs.Records.{firsts, same_key}
use Rattle.access_paths.specs.Paths.{same_path}
use Rattle.access_domain.specs.Findings.{Findings}
use Rattle.access_domain.specs.FlowContext.{FlowContext}
use Rattle.access_domain.specs.Substitution.{Actuals, substituted_path, substituted_record, value_named, substituted}
use Rattle.access_domain.proofs.Firsts.{fewer_firsts}

flat-shorter : {X Y : Type 0} (f : X → List Y) → ((x : X) → length (f x) ≤ 1) → (xs : List X) →
    length (flat_map f xs) ≤ length xs
flat-shorter f one [] = omega arith
flat-shorter f one (x ∷ xs) =
    let here : length (f x) ≤ 1 = one x in
    let later : length (flat_map f xs) ≤ length xs = flat-shorter f one xs in
    let both : length (f x ++ flat_map f xs) ≡ length (f x) + length (flat_map f xs) =
    length-append (f x) (flat_map f xs) in
    omega arith

length-enumerate : {X : Type 0} (n : ℕ) (xs : List X) → length (enumerate_from n xs) ≡ length xs
length-enumerate n [] = refl
length-enumerate n (x ∷ xs) = ap suc (length-enumerate (n + 1) xs)

pub one_record : (g : FlowContext) (actuals : Actuals) (locked : Bool) (site : SiteId) (e : ℕ × Access) →
    length (substituted_record g actuals locked site e) ≤ 1
one_record g actuals locked site e =
    elim (substituted_path g actuals e.1.path) as (λ o. length (elim o as (λ _. List Access) [
      | None ↦ []
      | Some p ↦ record {
        path = p;
        kind = e.1.kind;
        locked = e.1.locked || locked;
        main = e.1.main || g.main;
        site = site;
        below = Some e.0;
      } ∷ []
    ]) ≤ 1) [ None ↦ omega arith | Some p ↦ omega arith ]

pub one_name : (v : Value) → length (names_of v) ≤ 1
one_name Owned = omega arith
one_name Unnamed = omega arith
one_name (Named p) = omega arith

pub fewer_records : (g : FlowContext) (actuals : Actuals) (found : Findings) (locked : Bool) (site : SiteId) →
    length (substituted g actuals found locked site).records ≤ length found.records
fewer_records g actuals found locked site =
    let made : List Access = flat_map (substituted_record g actuals locked site) (enumerate_from 0 found.records) in
    let first : length (firsts same_key made) ≤ length made = fewer_firsts same_key made in
    let flat : length made ≤ length (enumerate_from 0 found.records) =
    flat-shorter (substituted_record g actuals locked site) (one_record g actuals locked site)
    (enumerate_from 0 found.records) in
    let all : length (enumerate_from 0 found.records) ≡ length found.records = length-enumerate 0 found.records in
    omega arith

pub fewer_paths : (g : FlowContext) (actuals : Actuals) (found : Findings) (locked : Bool) (site : SiteId) →
    length (substituted g actuals found locked site).wobbly ≤ length found.wobbly
fewer_paths g actuals found locked site =
    let made : List Path = flat_map (λ (p : Path). names_of (value_named actuals p)) found.wobbly in
    let first : length (firsts same_path made) ≤ length made = fewer_firsts same_path made in
    let flat : length made ≤ length found.wobbly =
    flat-shorter (λ (p : Path). names_of (value_named actuals p))
    (λ p. one_name (value_named actuals p)) found.wobbly in
    omega arith
