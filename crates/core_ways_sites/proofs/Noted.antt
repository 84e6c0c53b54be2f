-- Ways that are noted.
use Rattle.std.proofs.Common.{◌≡◌, ℕ, Bool, true, false, cond, List, Option, None, Some, nat_eq}
use Rattle.std.proofs.Common.{refl, sym, ap, subst, ◌∙◌}
use Rattle.std.proofs.lemmas.Bool.{eqb-true}
use Rattle.std.specs.BTreeMap.{BTreeMap, IsEmpty, Updates, get, is_at}
use Rattle.std.specs.Cmp.{unsigned_ties}
use Rattle.std.specs.Map.{lookup}
use Rattle.std.specs.Option.{IfSome}
use Rattle.std.specs.Ordering.{nat_cmp}
use Rattle.racer_base.specs.declared.ids.MethodId.{MethodId}
use Rattle.racer_base.specs.declared.ids.SiteId.{SiteId}
use Rattle.core_code.specs.Core.{Core}
use Rattle.core_code.specs.Tree.{Tree}
use Rattle.core_ways.specs.Ways.{code_at}
use Rattle.core_ways_sites.specs.declared.noting.Reached.{Reached}
use Rattle.core_ways_sites.specs.Sites.{AreRight, IsFound, IsReached, IsSite}

same_site : (s t : SiteId) → s.0 ≡ t.0 → s ≡ t
same_site s t e = ap (λ (k : ℕ). let made : SiteId = record { 0 = k } in made) e

-- one way more
pub right-noted : (core : Core) (whole : Tree) (old new : BTreeMap ℕ Reached) (site : SiteId) (r : Reached) →
    IsReached core whole site r.count r.turns.items r.op → AreRight core whole old →
    Updates nat_cmp old new site.0 (Some r) → AreRight core whole new
right-noted core whole old new site r is right updates s =
    let Right : Option Reached → Type 0 = λ o.
    IfSome o (λ (q : Reached). IsReached core whole s q.count q.turns.items q.op) in
    subst Right
    (sym (updates.0 s.0 ∙ ap (λ (b : Bool). cond b (Some r) (get nat_cmp old s.0)) (sym (unsigned_ties site.0 s.0))))
    (elim (nat_eq site.0 s.0) as (λ b. nat_eq site.0 s.0 ≡ b → Right (cond b (Some r) (get nat_cmp old s.0))) [
      | true ↦ λ e. subst (λ (t : SiteId). IsReached core whole t r.count r.turns.items r.op)
          (same_site site s (eqb-true site.0 s.0 e)) is
      | false ↦ λ e. right s
    ] refl)

none-at : (found : BTreeMap ℕ Reached) (P : SiteId → Reached → Type 0) → IsEmpty found → (s : SiteId) →
    IfSome (get nat_cmp found s.0) (P s)
none-at found P empty s =
    subst (λ (es : List (ℕ × Reached)). IfSome (lookup (is_at (nat_cmp s.0)) es) (P s)) (sym empty) tt

-- no way is noted yet
pub none-right : (core : Core) (whole : Tree) (found : BTreeMap ℕ Reached) → IsEmpty found →
    AreRight core whole found
none-right core whole found empty =
    none-at found (λ s r. IsReached core whole s r.count r.turns.items r.op) empty

pub none-found : (core : Core) (m : MethodId) (found : BTreeMap ℕ Reached) → IsEmpty found → IsFound core m found
none-found core m found empty = none-at found (IsSite core m) empty

if-some : (o : Option Reached) (P Q : Reached → Type 0) → ((r : Reached) → P r → Q r) → IfSome o P → IfSome o Q
if-some None P Q f is = tt
if-some (Some r) P Q f is = f r is

-- the ways to sites of a method's code
pub found-right : (core : Core) (m : MethodId) (code : Tree) (found : BTreeMap ℕ Reached) →
    code_at core m ≡ Some code → AreRight core code found → IsFound core m found
found-right core m code found is right s =
    if-some (get nat_cmp found s.0) (λ r. IsReached core code s r.count r.turns.items r.op) (IsSite core m s)
    (λ r reached. record { code = code; is = is; reached = reached }) (right s)
