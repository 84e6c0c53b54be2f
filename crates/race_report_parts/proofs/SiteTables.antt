-- The operation of a site, read from the table of its method.
use Rattle.std.proofs.Common.{◌≡◌, ℕ, true, List, Option, None, Some, Vec, option_map, slice_get}
use Rattle.std.proofs.Common.{refl, sym, ap, ◌∙◌}
use Rattle.std.specs.Global.{Global}
use Rattle.std.specs.Option.{option_and_then}
use Rattle.std.proofs.lemmas.Option.{slice_get-map}
use Rattle.racer_base.specs.declared.ids.MethodId.{MethodId}
use Rattle.racer_base.specs.declared.ids.SiteId.{SiteId}
use Rattle.core_code.specs.Tree.{op_at, steps_of}
use Rattle.core_code.specs.Core.{Core, Method}
use Rattle.core_code.specs.Facts.{is_in_order, are_sites_in_order}
use Rattle.core_code.proofs.Sites.{op_at-index}
use Rattle.race_report_parts.specs.declared.tables.Site.{Site}
use Rattle.race_report_parts.specs.Places.{operation_at}
use Rattle.race_report_parts.specs.Sites.{site_of, sites_of, AreSites}
use Rattle.access_domain.proofs.Tests.{passes_at}

-- the table of a method
table_at : (core : Core) (tables : List (Vec Site Global)) (k : ℕ) → AreSites core tables →
    option_map (λ (t : Vec Site Global). t.items) (slice_get tables k) ≡
    option_map (λ (m : Method). sites_of m.code) (slice_get core.methods k)
table_at core tables k are =
    sym (slice_get-map (λ (t : Vec Site Global). t.items) tables k)
    ∙ ap (λ (all : List (List Site)). slice_get all k) are
    ∙ slice_get-map (λ (m : Method). sites_of m.code) core.methods k

-- what stands there at a site
site_there : (core : Core) (k : ℕ) (site : SiteId) → are_sites_in_order core ≡ true → (o : Option Method) →
    slice_get core.methods k ≡ o →
    option_and_then (λ (sites : List Site). slice_get sites site.0) (option_map (λ (m : Method). sites_of m.code) o) ≡
    option_map site_of (option_and_then (λ (m : Method). op_at m.code site) o)
site_there core k site ordered None is = refl
site_there core k site ordered (Some m) is =
    slice_get-map site_of (steps_of m.code) site.0
    ∙ ap (option_map site_of) (sym (op_at-index m.code site (passes_at is_in_order core.methods k m ordered is)))

-- the operation of a method and a site, by the tables
pub site_by_tables : (core : Core) (tables : List (Vec Site Global)) (m : MethodId) (site : SiteId) →
    AreSites core tables → are_sites_in_order core ≡ true →
    option_and_then (λ (sites : List Site). slice_get sites site.0)
    (option_map (λ (t : Vec Site Global). t.items) (slice_get tables m.0)) ≡
    option_map site_of (operation_at core m site)
site_by_tables core tables m site are ordered =
    ap (option_and_then (λ (sites : List Site). slice_get sites site.0)) (table_at core tables m.0 are)
    ∙ site_there core m.0 site ordered (slice_get core.methods m.0) refl

-- the same where it is known which table stands there
pub site_held : (core : Core) (tables : List (Vec Site Global)) (m : MethodId) (site : SiteId)
    (held : Option (Vec Site Global)) → AreSites core tables → are_sites_in_order core ≡ true →
    slice_get tables m.0 ≡ held →
    option_and_then (λ (sites : List Site). slice_get sites site.0)
    (option_map (λ (t : Vec Site Global). t.items) held) ≡ option_map site_of (operation_at core m site)
site_held core tables m site held are ordered is =
    ap (λ (h : Option (Vec Site Global)). option_and_then (λ (sites : List Site). slice_get sites site.0)
    (option_map (λ (t : Vec Site Global). t.items) h)) (sym is)
    ∙ site_by_tables core tables m site are ordered
