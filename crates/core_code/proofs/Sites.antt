-- Sites that go on where others end, and sites as indices of operations.
use Rattle.std.proofs.Common.{◌≡◌, ℕ, zero, suc, ◌+◌, Bool, true, false, cond, ◌&&◌, List, [], ◌∷◌, ◌++◌, length, map}
use Rattle.std.proofs.Common.{nat_eq}
use Rattle.std.proofs.Common.{Some, slice_get, refl, ap, sym, ◌∙◌, add-zero, zero-add, arith}
use Rattle.std.proofs.Math.Bool.{and_assoc}
use Rattle.std.proofs.lemmas.List.{map-append}
use Rattle.std.specs.List.{find, Contains}
use Rattle.std.proofs.lemmas.Option.{slice_get-get_or}
use borrow.Author.Tests.{eqb-true}
use Rattle.std.proofs.lemmas.Bool.{ne_eqb, and_parts}
use Rattle.racer_base.specs.declared.ids.SiteId.{SiteId}
use Rattle.core_code.specs.Tree.{Tree, Seq, Operation, steps_of, op_at}
use Rattle.core_code.specs.Facts.{sites_of, counts_from}
use Rattle.core_code.proofs.Membership.{find_gives}

pub counts_from-append : (n : ℕ) (first rest : List SiteId) →
    counts_from n (first ++ rest) ≡ (counts_from n first && counts_from (n + length first) rest)
counts_from-append n [] rest = ap (λ k. counts_from k rest) (sym (add-zero n))
counts_from-append n (site ∷ sites) rest =
    let shift : suc n + length sites ≡ n + suc (length sites) = omega arith in
    ap (λ b. nat_eq site.0 n && b)
    (counts_from-append (suc n) sites rest ∙ ap (λ k. counts_from (suc n) sites && counts_from k rest) shift)
    ∙ sym (and_assoc (nat_eq site.0 n) (counts_from (suc n) sites) (counts_from (n + suc (length sites)) rest))

pub sites_go_on : (n : ℕ) (first rest : List SiteId) → counts_from n first ≡ true →
    counts_from (n + length first) rest ≡ true → counts_from n (first ++ rest) ≡ true
sites_go_on n first rest a b =
    counts_from-append n first rest ∙ ap (λ x. x && counts_from (n + length first) rest) a ∙ b

-- the sites of one part and then another
pub sites_of-then : (first rest : Tree) → sites_of (Seq first rest) ≡ sites_of first ++ sites_of rest
sites_of-then first rest = map-append (λ (o : Operation). o.site) (steps_of first) (steps_of rest)

abbrev site_is : ℕ → Operation → Bool
site_is n o = nat_eq o.site.0 n

abbrev sites : List Operation → List SiteId
sites ops = map (λ (o : Operation). o.site) ops

-- operations whose sites count from n on: the one at n + k is that of index k
find_site : (n : ℕ) (ops : List Operation) (k : ℕ) → counts_from n (sites ops) ≡ true →
    find (site_is (n + k)) ops ≡ slice_get ops k
find_site n [] k h = refl
find_site n (o ∷ ops) zero h =
    let here : nat_eq o.site.0 n ≡ true = (and_parts (nat_eq o.site.0 n) (counts_from (suc n) (sites ops)) h).0 in
    ap (λ b. cond b (Some o) (find (site_is (n + 0)) ops)) (ap (nat_eq o.site.0) (add-zero n) ∙ here)
find_site n (o ∷ ops) (suc k) h =
    let here : o.site.0 ≡ n = eqb-true o.site.0 n
    (and_parts (nat_eq o.site.0 n) (counts_from (suc n) (sites ops)) h).0 in
    let later : counts_from (suc n) (sites ops) ≡ true =
    (and_parts (nat_eq o.site.0 n) (counts_from (suc n) (sites ops)) h).1 in
    let other : nat_eq o.site.0 (n + suc k) ≡ false =
    ne_eqb o.site.0 (n + suc k) (λ (e : o.site.0 ≡ n + suc k). omega arith) in
    let shift : n + suc k ≡ suc n + k = omega arith in
    ap (λ b. cond b (Some o) (find (site_is (n + suc k)) ops)) other
    ∙ ap (λ j. find (site_is j) ops) shift
    ∙ find_site (suc n) ops k later

-- where the sites of code are 0, 1 and so on, a site is the index of its operation
pub op_at-index : (code : Tree) (site : SiteId) → counts_from 0 (sites_of code) ≡ true →
    op_at code site ≡ slice_get (steps_of code) site.0
op_at-index code site h =
    ap (λ (n : ℕ). find (site_is n) (steps_of code)) (sym (zero-add site.0)) ∙ find_site 0 (steps_of code) site.0 h

-- and each operation is found at its site
pub op_at-contains : (code : Tree) (o : Operation) → counts_from 0 (sites_of code) ≡ true →
    Contains (steps_of code) o →
    op_at code o.site ≡ Some o
op_at-contains code o h there =
    let ops : List Operation = steps_of code in
    let k : ℕ = there.0 in
    let here : slice_get ops k ≡ Some o = slice_get-get_or ops k o there.1 ∙ ap Some there.2 in
    let found : find (site_is (0 + k)) ops ≡ Some o = find_site 0 ops k h ∙ here in
    let passes : nat_eq o.site.0 (0 + k) ≡ true = (find_gives (site_is (0 + k)) ops o found).1 in
    ap (λ (n : ℕ). find (site_is n) ops) (eqb-true o.site.0 (0 + k) passes) ∙ found
