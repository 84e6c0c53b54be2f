-- Where the path of a record is stable, the access is of the start object of its base.
use Rattle.std.proofs.Common.{◌≡◌, ◌+◌, ◌≤◌, true, false, [], ◌∷◌, ◌++◌, Some, length, refl, sym, ap, ◌∙◌, arith}
use Rattle.std.proofs.lemmas.List.{length-append}
use Rattle.racer_base.specs.declared.ids.MethodId.{MethodId}
use Rattle.racer_base.specs.declared.limits.TheConstants.{MAX_PATH_FIELDS}
use Rattle.access_paths.specs.declared.path.Path.{Path}
use Rattle.access_paths.specs.declared.path.Root.{Root}
use Rattle.access_paths.specs.declared.path.Root.TheVariants.{This, Class, Formal, Some as SomeOf}
use Rattle.access_paths.specs.Paths.{is_some_root, front_of}
use Rattle.owner_domain.specs.declared.value.Value.TheVariants.{Named}
use Rattle.access_domain.specs.declared.access.Access.{Access}
use Rattle.access_domain.proofs.ReachedPaths.{front_and_last}
use Rattle.core_code.specs.Core.{Core}
use Rattle.core_ways.specs.Stable.{IsStable, is_lasting_root}
use Rattle.core_ways_laws.specs.Arrivals.{Arrival}
use Rattle.core_ways_laws.specs.Meets.{DoesMeet, base_path, base_value}
use Rattle.core_ways_laws.specs.Names.{entry_naming, name_of}
use Rattle.core_ways_laws.specs.Places.{start_object}
use Rattle.core_ways_laws.specs.QuietEntries.{quietness_of}
use Rattle.core_ways_laws.proofs.Entries.{entry-named}
use Rattle.core_ways_laws.proofs.Stables.{stable-base}

pub lasting-known : (root : Root) → is_lasting_root root ≡ true → is_some_root root ≡ false
lasting-known This lasts = refl
lasting-known (Class c) lasts = refl
lasting-known (Formal i) lasts = absurd cc
lasting-known (SomeOf c) lasts = absurd cc

-- a path whose root lasts begins at no object of which only the class is known
pub stable-known : (core : Core) (m1 m2 : MethodId) (p : Path) → IsStable core m1 m2 p → is_some_root p.root ≡ false
stable-known core m1 m2 p stable = lasting-known p.root stable.root

pub stable-met : (core : Core) (m1 m2 : MethodId) (r : Access) (t : Arrival) →
    DoesMeet core (quietness_of core m1 m2) entry_naming r t → IsStable core m1 m2 r.path →
    length r.path.fields ≤ MAX_PATH_FIELDS → base_value r.kind t.at ≡ start_object (base_path r.path)
stable-met core m1 m2 r t meets stable short =
    let split : r.path.fields ≡ front_of r.path.fields ++ meets.field ∷ [] =
    sym (front_and_last r.path.fields meets.field meets.last) in
    let long : length r.path.fields ≡ length (front_of r.path.fields) + 1 =
    ap length split ∙ length-append (front_of r.path.fields) (meets.field ∷ []) in
    let shorter : length (base_path r.path).fields ≤ MAX_PATH_FIELDS = omega arith in
    let known : is_some_root r.path.root ≡ false = stable-known core m1 m2 r.path stable in
    let named : name_of entry_naming (Named (base_path r.path)) ≡ Some (base_path r.path) =
    entry-named (base_path r.path) stable.root shorter in
    meets.base known (base_path r.path) named
    (stable-base core m1 m2 r.path meets.field meets.last stable shorter
    (meets.declared known (base_path r.path) named))
