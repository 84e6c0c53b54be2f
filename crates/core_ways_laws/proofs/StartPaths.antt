-- Paths with roots that last and their start paths.
use Rattle.std.proofs.Common.{◌≡◌, ℕ, true, refl, ap}
use Rattle.access_paths.specs.declared.path.Root.{Root}
use Rattle.access_paths.specs.declared.path.Root.TheVariants.{This, Class, Formal, Some as SomeOf}
use Rattle.access_paths.specs.declared.path.Path.{Path}
use Rattle.core_semantics.specs.declared.object.StartPath.{StartPath}
use Rattle.core_semantics.specs.declared.object.StartRoot.TheVariants.{Param}
use Rattle.core_semantics.specs.Objects.{root_path}
use Rattle.core_ways.specs.Stable.{is_lasting_root}
use Rattle.core_ways_laws.specs.Quiet.{start_path, start_root}

pub root-back : (a b : Root) → is_lasting_root a ≡ true → is_lasting_root b ≡ true → start_root a ≡ start_root b → a ≡ b
root-back This This la lb e = refl
root-back (Class c) (Class d) la lb e = let same : c ≡ d = cc in ap Class same
root-back This (Class d) la lb e = cc
root-back (Class c) This la lb e = cc
root-back (Formal i) b la lb e = cc
root-back (SomeOf c) b la lb e = cc
root-back This (Formal i) la lb e = cc
root-back This (SomeOf c) la lb e = cc
root-back (Class d) (Formal i) la lb e = cc
root-back (Class d) (SomeOf c) la lb e = cc

-- two paths of one start path are one
pub path-back : (p q : Path) → is_lasting_root p.root ≡ true → is_lasting_root q.root ≡ true →
    start_path p ≡ start_path q → p ≡ q
path-back p q lp lq e =
    let roots : p.root ≡ q.root = root-back p.root q.root lp lq (ap (λ (s : StartPath). s.root) e) in
    let fields : p.fields ≡ q.fields = ap (λ (s : StartPath). s.fields) e in
    (λ i. record { root = roots i; fields = fields i })

param-root : (t i : ℕ) (root : Root) → is_lasting_root root ≡ true → Param t i ≡ start_root root → ⊥
param-root t i This lasts e = cc
param-root t i (Class c) lasts e = cc
param-root t i (Formal j) lasts e = cc
param-root t i (SomeOf c) lasts e = cc

-- a parameter of a thread is the start of no such path
pub not-param : (t i : ℕ) (q : Path) → is_lasting_root q.root ≡ true → root_path (Param t i) ≡ start_path q → ⊥
not-param t i q lasts e = param-root t i q.root lasts (ap (λ (s : StartPath). s.root) e)
