-- The entries of the threads keep the invariant.
use Rattle.std.proofs.Common.{◌≡◌, ℕ, suc, ◌≤◌, Bool, true, false, cond, List, [], ◌∷◌, ◌++◌, Option, None, Some}
use Rattle.std.proofs.Common.{length, map, take, refl, sym, ap, ◌∙◌, subst, arith, ◌⊎◌, ⊎_elim}
use Rattle.std.specs.Prelude.{IsTrue}
use Rattle.std.specs.List.{list_all, list_any}
use Rattle.std.proofs.lemmas.List.{take_all}
use Rattle.std.proofs.lemmas.Map.Views.{list_any-from_Contains}
use Rattle.racer_base.specs.declared.ids.ClassId.{ClassId}
use Rattle.racer_base.specs.declared.ids.FieldId.{FieldId}
use Rattle.racer_base.specs.declared.ids.Kind.{Kind}
use Rattle.racer_base.specs.declared.ids.Kind.TheVariants as types
use Rattle.racer_base.specs.declared.ids.MethodId.{MethodId}
use Rattle.racer_base.specs.declared.limits.TheConstants.{MAX_PATH_FIELDS}
use Rattle.access_paths.specs.declared.path.Root.{Root}
use Rattle.access_paths.specs.declared.path.Root.TheVariants.{This, Class, Formal, Some as SomeOf}
use Rattle.access_paths.specs.declared.path.Path.{Path}
use Rattle.access_paths.specs.Paths.{alone, front, same_path}
use Rattle.access_paths.specs.Same.{same_path-equivalence}
use Rattle.owner_domain.specs.declared.value.Value.TheVariants.{Named}
use Rattle.access_domain.specs.Findings.{Findings, Known, Whole}
use Rattle.access_domain.specs.Summaries.{known_of, parameter_value, parameter_values}
use Rattle.core_code.specs.Calls.{taken_by}
use Rattle.core_code.specs.Core.{Core, Method}
use Rattle.core_code.specs.KindCheck.{begins_with}
use Rattle.core_code.specs.Kinds.{kind_of}
use Rattle.core_semantics.specs.declared.object.Object.{Object}
use Rattle.core_semantics.specs.declared.object.Object.TheVariants.{Start}
use Rattle.core_semantics.specs.declared.object.StartPath.{StartPath}
use Rattle.core_semantics.specs.declared.object.StartRoot.TheVariants.{This as StartThis, Param}
use Rattle.core_semantics.specs.declared.object.Value.TheVariants.{Plain, Opaque, Object as Ref}
use Rattle.core_semantics.specs.Objects.{root_path}
use Rattle.core_semantics.specs.Runs.{given_to, parameter, parameters_from}
use Rattle.core_semantics.specs.State.{Store}
use Rattle.core_ways.specs.Stable.{is_lasting_root, is_wobbly, wobbly_in}
use Rattle.core_ways_laws.specs.Kept.{IsEntered}
use Rattle.access_domain.specs.Longer.{path_of}
use Rattle.core_ways_laws.specs.Names.{name_of, name_along, root_name, entry_naming}
use Rattle.core_ways_laws.specs.Places.{ArePlaces, AreHushed, IsPlace, IsStore, start_object}
use Rattle.core_semantics.specs.Steps.{kind_of as field_kind}
use Rattle.core_ways_laws.specs.Quiet.{Quietness, is_declared, start_path}
use Rattle.core_ways_laws.specs.QuietEntries.{quietness_of}
use Rattle.core_ways_laws.proofs.Locals.{entered-with, nameless}
use Rattle.core_ways_laws.proofs.Naming.{name_along-is, name_along-none, name_along-short}
use Rattle.core_ways_laws.proofs.StartPaths.{path-back, not-param}

-- ---- names at an entry

name-of-parts : (root : Root) (fs : List FieldId) (q : Path) →
    name_along (root_name entry_naming root) fs ≡ Some q → q ≡ path_of root fs
name-of-parts This fs q e = name_along-is fs (alone This) q e
name-of-parts (Class c) fs q e = name_along-is fs (alone (Class c)) q e
name-of-parts (Formal i) fs q e = absurd (let none : None ≡ Some q = sym (name_along-none fs) ∙ e in cc)
name-of-parts (SomeOf c) fs q e = absurd (let none : None ≡ Some q = sym (name_along-none fs) ∙ e in cc)

-- a path that has a name at an entry is its own name
pub entry-name : (p q : Path) → name_of entry_naming (Named p) ≡ Some q → q ≡ p
entry-name p q e = name-of-parts p.root p.fields q e

parts-named : (root : Root) (fs : List FieldId) → is_lasting_root root ≡ true → length fs ≤ MAX_PATH_FIELDS →
    name_along (root_name entry_naming root) fs ≡ Some (path_of root fs)
parts-named This fs lasts short = name_along-short fs (alone This) (omega arith)
parts-named (Class c) fs lasts short = name_along-short fs (alone (Class c)) (omega arith)
parts-named (Formal i) fs lasts short = absurd cc
parts-named (SomeOf c) fs lasts short = absurd cc

-- a path whose root lasts has a name at an entry
pub entry-named : (p : Path) → is_lasting_root p.root ≡ true → length p.fields ≤ MAX_PATH_FIELDS →
    name_of entry_naming (Named p) ≡ Some p
entry-named p lasts short = parts-named p.root p.fields lasts short

-- ---- hush

wobbles : (core : Core) (m : MethodId) (found : Findings) (w : Path) → known_of core m ≡ Some (Whole found) →
    list_any (same_path w) found.wobbly ≡ true → is_wobbly core m w ≡ true
wobbles core m found w known there =
    ap (λ (k : Option Known). list_any (same_path w) (wobbly_in k)) known ∙ there

front-whole : (q : Path) → front (length q.fields) q ≡ q
front-whole q =
    let all : take (length q.fields) q.fields ≡ q.fields = take_all (length q.fields) q.fields (omega arith) in
    (λ i. record { root = q.root; fields = all i })

-- the wobbly paths of either entry are hushed at an entry
pub hush-entry : (core : Core) (m1 m2 m : MethodId) (found : Findings) → (m ≡ m1) ⊎ (m ≡ m2) →
    known_of core m ≡ Some (Whole found) → AreHushed core (quietness_of core m1 m2) entry_naming found.wobbly
hush-entry core m1 m2 m found which known w there q name quiet =
    let same : q ≡ w = entry-name w q name in
    let there_any : list_any (same_path w) found.wobbly ≡ true =
    list_any-from_Contains same_path-equivalence w found.wobbly there in
    let is : is_wobbly core m w ≡ true = wobbles core m found w known there_any in
    let calm : (is_wobbly core m1 (front (length q.fields) q) ≡ false) ×
    (is_wobbly core m2 (front (length q.fields) q) ≡ false) = quiet.calm (length q.fields) (omega arith) in
    let whole : front (length q.fields) q ≡ w = front-whole q ∙ same in
    ⊎_elim
    (λ first. let wrong : true ≡ false =
    sym is ∙ ap (λ (x : MethodId). is_wobbly core x w) first ∙ ap (is_wobbly core m1) (sym whole) ∙ calm.0 in cc)
    (λ second. let wrong : true ≡ false =
    sym is ∙ ap (λ (x : MethodId). is_wobbly core x w) second ∙ ap (is_wobbly core m2) (sym whole) ∙ calm.1 in cc)
    which

-- ---- the frame

module _ (core : Core) (quiet : Quietness core) where
  this-place : (c : ClassId) →
      IsPlace core quiet (kind_of (types.Declared c)) (name_of entry_naming (Named (alone This)))
      (Ref (Start (root_path StartThis)))
  this-place c =
      record {
        held = λ q e in_it. let same : alone This ≡ q = cc in ap start_object same;
        called = λ strong q e in_it. let roots : start_path (alone This) ≡ start_path q = cc in
            ap Some (path-back (alone This) q refl (quiet.lasts q in_it) roots);
        declared = λ strong q e. let same : alone This ≡ q = cc in
            subst (λ (x : Path). IsTrue (list_all (λ f. is_declared (field_kind core f)) x.fields)) same refl;
      }

  parameter-place : (t i : ℕ) (kind : Kind) →
      IsPlace core quiet (kind_of kind) (name_of entry_naming (parameter_value i kind)) (parameter t i kind)
  parameter-place t i types.Plain = nameless core quiet (kind_of types.Plain) Plain (λ q e in_it. cc)
  parameter-place t i (types.Declared c) =
      nameless core quiet (kind_of (types.Declared c)) (Ref (Start (root_path (Param t i))))
      (λ q e in_it. not-param t i q (quiet.lasts q in_it)
      (let same : root_path (Param t i) ≡ start_path q = cc in same))
  parameter-place t i types.Other = nameless core quiet (kind_of types.Other) Opaque (λ q e in_it. cc)

  parameter-places : (t i : ℕ) (kinds : List Kind) →
      ArePlaces core quiet entry_naming (map kind_of kinds) (parameter_values i kinds) (parameters_from t i kinds)
  parameter-places t i [] = tt
  parameter-places t i (kind ∷ kinds) = (parameter-place t i kind, parameter-places t (suc i) kinds)

  given-places : (t : ℕ) (c : ClassId) (kinds : List Kind) (static : Bool) →
      ArePlaces core quiet entry_naming (map kind_of (cond static kinds (types.Declared c ∷ kinds)))
      (cond static [] (Named (alone This) ∷ []) ++ parameter_values 0 kinds)
      (cond static [] (Ref (Start (root_path StartThis)) ∷ []) ++ parameters_from t 0 kinds)
  given-places t c kinds true = parameter-places t 0 kinds
  given-places t c kinds false = (this-place c, parameter-places t 0 kinds)

  -- what a thread is given at its entry
  pub entered-entry : (t : ℕ) (method : Method) (store : Store) →
      begins_with (taken_by method) method.variables ≡ true →
      IsEntered core quiet entry_naming method (given_to t method) store
  entered-entry t method store begins =
      entered-with core quiet entry_naming method (given_to t method) store begins
      (given-places t method.class method.parameters method.is_static)

  -- where nothing is stored
  pub empty-store : (store : Store) → ((p : StartPath) → store.heap p ≡ true) →
      ((o : Object) (f : FieldId) → store.cells o f ≡ None) → IsStore core quiet store
  empty-store store all none =
      record {
        all = all;
        unstored = λ q f r e in_it. none (Start (start_path q)) f;
        stored = λ o f c q kind e in_it. absurd (let wrong : None ≡ Some (start_object q) = sym (none o f) ∙ e in cc);
      }
