-- Sites of code that count up.
use Rattle.std.proofs.Common.{◌≡◌, ℕ, suc, ◌+◌, ◌<◌, ◌≤◌, true, false, cond, List, []}
use Rattle.std.proofs.Common.{◌∷◌, None, Some, is_some, length, map, nat_eq}
use Rattle.std.proofs.Common.{refl, sym, ap, ◌∙◌, arith}
use Rattle.std.specs.List.{find}
use Rattle.std.proofs.lemmas.Bool.{and_parts}
use borrow.Author.Tests.{eqb-true}
use Rattle.racer_base.specs.declared.ids.SiteId.{SiteId}
use Rattle.core_code.specs.Facts.{counts_from, sites_of}
use Rattle.core_code.specs.Tree.{Tree, Seq, Operation, op_at, steps_of}
use Rattle.core_code.proofs.Sites.{counts_from-append, sites_of-then}
use Rattle.core_ways.specs.Ways.{has_site}

-- the site of an operation among those that count from n on
site-within : (n : ℕ) (ops : List Operation) (site : SiteId) (o : Operation) →
    counts_from n (map (λ (x : Operation). x.site) ops) ≡ true →
    find (λ (x : Operation). nat_eq x.site.0 site.0) ops ≡ Some o →
    (n ≤ site.0) × (site.0 < n + length ops)
site-within n [] site o counts is = absurd cc
site-within n (x ∷ ops) site o counts is =
    let here : x.site.0 ≡ n = eqb-true x.site.0 n
    (and_parts (nat_eq x.site.0 n) (counts_from (suc n) (map (λ (y : Operation). y.site) ops)) counts).0 in
    let later = (and_parts (nat_eq x.site.0 n) (counts_from (suc n) (map (λ (y : Operation). y.site) ops)) counts).1 in
    elim (nat_eq x.site.0 site.0) as (λ b. nat_eq x.site.0 site.0 ≡ b →
    cond b (Some x) (find (λ (y : Operation). nat_eq y.site.0 site.0) ops) ≡ Some o →
    (n ≤ site.0) × (site.0 < n + suc (length ops))) [
      | true ↦ λ e k. let same : x.site.0 ≡ site.0 = eqb-true x.site.0 site.0 e in (omega arith, omega arith)
      | false ↦ λ e k.
          let rest = site-within (suc n) ops site o later k in
          let low = rest.0 in
          let high = rest.1 in
          (omega arith, omega arith)
    ] refl is

length-sites : (ops : List Operation) → length (map (λ (x : Operation). x.site) ops) ≡ length ops
length-sites [] = refl
length-sites (x ∷ ops) = ap suc (length-sites ops)

pub counts-first : (n : ℕ) (a b : Tree) → counts_from n (sites_of (Seq a b)) ≡ true → counts_from n (sites_of a) ≡ true
counts-first n a b counts =
    (and_parts (counts_from n (sites_of a)) (counts_from (n + length (sites_of a)) (sites_of b))
    (sym (ap (counts_from n) (sites_of-then a b) ∙ counts_from-append n (sites_of a) (sites_of b)) ∙ counts)).0

pub counts-second : (n : ℕ) (a b : Tree) → counts_from n (sites_of (Seq a b)) ≡ true →
    counts_from (n + length (sites_of a)) (sites_of b) ≡ true
counts-second n a b counts =
    (and_parts (counts_from n (sites_of a)) (counts_from (n + length (sites_of a)) (sites_of b))
    (sym (ap (counts_from n) (sites_of-then a b) ∙ counts_from-append n (sites_of a) (sites_of b)) ∙ counts)).1

lacks : (n : ℕ) (a b : Tree) (site : SiteId) (o : Operation) → counts_from n (sites_of (Seq a b)) ≡ true →
    op_at b site ≡ Some o → has_site a site ≡ false
lacks n a b site o counts is =
    let first = counts-first n a b counts in
    let second = counts-second n a b counts in
    let from = site-within (n + length (sites_of a)) (steps_of b) site o second is in
    let many = length-sites (steps_of a) in
    elim (op_at a site) as (λ p. op_at a site ≡ p → is_some p ≡ false) [
      | None ↦ λ e. refl
      | Some x ↦ λ e.
          let within = site-within n (steps_of a) site x first e in
          let low = from.0 in
          let high = within.1 in
          absurd (omega arith)
    ] refl

-- of two parts whose sites count up, the first lacks the sites of the second
pub first-lacks : (n : ℕ) (a b : Tree) (site : SiteId) → counts_from n (sites_of (Seq a b)) ≡ true →
    has_site b site ≡ true → has_site a site ≡ false
first-lacks n a b site counts has =
    elim (op_at b site) as (λ p. op_at b site ≡ p → is_some p ≡ true → has_site a site ≡ false) [
      | None ↦ λ e some. absurd cc
      | Some o ↦ λ e some. lacks n a b site o counts e
    ] refl has
