-- Where files are read in one way, the sources of a folder are one thing.
use Rattle.std.proofs.Common.{◌≡◌, ℕ, ◌<◌, ◌≤◌, Bool, true, false, List, [], Option, None, Some, length, refl, sym, ap}
use Rattle.std.proofs.Common.{subst}
use Rattle.std.proofs.Common.{◌∙◌, arith, ◌↔◌}
use Rattle.std.specs.Prelude.{IsTrue}
use Rattle.std.proofs.lemmas.Bool.{false≢true}
use Rattle.container_cells.specs.declared.cell.Containers.{Containers}
use Rattle.racer_base.specs.Outside.{Files}
use Rattle.racer_base.specs.declared.limits.TheConstants.{MAX_FILES}
use Rattle.java_tree.specs.declared.unit.Unit as unit
use Rattle.java_resolver.specs.declared.fault.ResolveFault.{ResolveFault}
use Rattle.java_resolver.specs.declared.fault.ResolveFault.TheVariants as resolve
use Rattle.java_resolver.specs.Refusals.{refusal}
use Rattle.core_code.specs.Core.{Core}
use Rattle.core_code.specs.Recursion.{TellRecursion, IsRecursive}
use Rattle.core_code.specs.Chains.{flag_of}
use Rattle.core_lowering_rules.specs.Programs.{program_of, draft_of, call_edges, IsLowered}
use Rattle.core_lowering.specs.Lowered.{calls_of}
use Rattle.racer_sources.specs.declared.refusal.Refusal as refusals
use Rattle.racer_sources.specs.declared.refusal.Refusal.TheVariants.{TooManyFiles, TooLong, TooManyBytes, NotUtf8}
use Rattle.racer_sources.specs.declared.refusal.Refusal.TheVariants.{BadCharacter, Unclosed, BadLiteral, Unbalanced}
use Rattle.racer_sources.specs.declared.refusal.Refusal.TheVariants.{TooDeep, NotAUnit, DuplicateClass, DuplicateField}
use Rattle.racer_sources.specs.declared.refusal.Refusal.TheVariants.{TooManyClasses, TooManyMethods, TooManyCalls}
use Rattle.racer_sources.specs.Sources.{contents, source_names, AreRead, AreRefusedUnits, IsFileRefused}
use Rattle.racer_sources.specs.Lines.{refusal_line}
use Rattle.racer_sources.specs.Programs.{Source, Refusal, Accepted, IsProgram, HasTooManyCalls, AreRefusedFor, IsSource}
use Rattle.racer_sources.specs.OneReading.{AreAlike, OneReading, OneSource}
use Rattle.racer_sources.proofs.OneRefusal.{one_refusal, refused_or_read}

abbrev declared_refusal : ResolveFault → refusals.Refusal
declared_refusal (resolve.DuplicateClass p q) = DuplicateClass p q
declared_refusal (resolve.DuplicateField p q) = DuplicateField p q
declared_refusal (resolve.TooManyClasses n) = TooManyClasses n
declared_refusal (resolve.TooManyMethods n) = TooManyMethods n
declared_refusal resolve.Memory = TooManyCalls 0

module _ (containers : Containers) (files : Files) where
  data Kind (r : refusals.Refusal) : Type 0 where
    many : (n : ℕ) → r ≡ TooManyFiles n → n ≡ length (contents files) → MAX_FILES < n → Kind r
    one : IsFileRefused (contents files) r → Kind r
    together : (f : ResolveFault) → r ≡ declared_refusal f → AreRefusedUnits (contents files) f → Kind r
    calls : (n : ℕ) → r ≡ TooManyCalls n → HasTooManyCalls containers files n → Kind r

  kind : (r : refusals.Refusal) → AreRefusedFor containers files r → Kind r
  kind (TooManyFiles n) h = many n refl h.0 h.1
  kind (TooLong f) h = one h
  kind (TooManyBytes n) h = one h
  kind (NotUtf8 f n) h = one h
  kind (BadCharacter p) h = one h
  kind (Unclosed p) h = one h
  kind (BadLiteral p) h = one h
  kind (Unbalanced p) h = one h
  kind (TooDeep p) h = one h
  kind (NotAUnit p) h = one h
  kind (DuplicateClass p q) h = together (resolve.DuplicateClass p q) refl h
  kind (DuplicateField p q) h = together (resolve.DuplicateField p q) refl h
  kind (TooManyClasses n) h = together (resolve.TooManyClasses n) refl h
  kind (TooManyMethods n) h = together (resolve.TooManyMethods n) refl h
  kind (TooManyCalls n) h = calls n refl h

  not_few : (n : ℕ) → n ≡ length (contents files) → MAX_FILES < n → length (contents files) ≤ MAX_FILES → ⊥
  not_few n e h few = omega (arith, e)

same_fault : (o p : Option ResolveFault) (f g : ResolveFault) → o ≡ p → o ≡ Some f → p ≡ Some g → f ≡ g
same_fault o p f g same d e =
    let both : ◌≡◌ {A = Option ResolveFault} (Some f) (Some g) = sym d ∙ same ∙ e in cc

no_fault : (o p : Option ResolveFault) (f : ResolveFault) → o ≡ p → o ≡ Some f → p ≡ None → ⊥
no_fault o p f same d e = let bad : ◌≡◌ {A = Option ResolveFault} (Some f) None = sym d ∙ same ∙ e in cc

-- ---- recursion is told in one way

same_flag : (a b : Bool) (P : Type 0) → (IsTrue a ↔ P) → (IsTrue b ↔ P) → a ≡ b
same_flag true true P f g = refl
same_flag false false P f g = refl
same_flag true false P f g = absurd (false≢true (g.1 (f.0 refl)))
same_flag false true P f g = absurd (false≢true (f.1 (g.0 refl)))

same_flags : (core : Core) (f g : List Bool) → TellRecursion core f → TellRecursion core g → flag_of f ≡ flag_of g
same_flags core f g d e = λ i m. same_flag (flag_of f m) (flag_of g m) (IsRecursive core m) (d m) (e m) i

module _ (reading : OneReading) (containers : Containers) (files : Files) where
  alike : (us vs : List unit.Unit) → AreRead (contents files) us → AreRead (contents files) vs → AreAlike us vs
  alike us vs h k = reading (contents files) us vs h.read k.read

  same_calls : (us vs : List unit.Unit) → AreAlike us vs → calls_of containers us ≡ calls_of containers vs
  same_calls us vs same = ap call_edges (same.programs containers [] (λ m. true))

  lowered_once : (us vs : List unit.Unit) (p q : Core) → AreAlike us vs → IsLowered containers (source_names files) us p
      → IsLowered containers (source_names files) vs q → p ≡ q
  lowered_once us vs p q same f g =
      let told = subst (λ (core : Core). TellRecursion core f.flags)
      (same.programs containers (source_names files) (λ m. true)) f.recursive in
      f.program ∙ same.programs containers (source_names files) (flag_of f.flags)
      ∙ ap (program_of containers (source_names files) vs)
      (same_flags (draft_of containers (source_names files) vs) f.flags g.flags told g.recursive)
      ∙ sym g.program

  by_kinds : (r q : refusals.Refusal) → Kind containers files r → Kind containers files q → r ≡ q
  by_kinds r q (many n e h i) (many m f k l) = e ∙ ap TooManyFiles (h ∙ sym k) ∙ sym f
  by_kinds r q (many n e h i) (one k) = absurd (not_few containers files n h i k.few)
  by_kinds r q (many n e h i) (together g f k) = absurd (not_few containers files n h i k.read.few)
  by_kinds r q (many n e h i) (calls m f k) = absurd (not_few containers files n h i k.accepted.read.few)
  by_kinds r q (one h) (many m f k l) = absurd (not_few containers files m k l h.few)
  by_kinds r q (one h) (one k) = one_refusal 0 0 (contents files) r q h.one k.one
  by_kinds r q (one h) (together g f k) = absurd (refused_or_read 0 0 (contents files) r k.units h.one k.read.read)
  by_kinds r q (one h) (calls m f k) = absurd
      (refused_or_read 0 0 (contents files) r k.units h.one k.accepted.read.read)
  by_kinds r q (together g e h) (many m f k l) = absurd (not_few containers files m k l h.read.few)
  by_kinds r q (together g e h) (one k) = absurd (refused_or_read 0 0 (contents files) q h.units k.one h.read.read)
  by_kinds r q (together g e h) (together i f k) =
      e ∙ ap declared_refusal
      (same_fault _ _ g i (alike h.units k.units h.read k.read).refusals h.some k.some) ∙ sym f
  by_kinds r q (together g e h) (calls m f k) =
      absurd (no_fault _ _ g (alike h.units k.units h.read k.accepted.read).refusals h.some k.accepted.none)
  by_kinds r q (calls n e h) (many m f k l) = absurd (not_few containers files m k l h.accepted.read.few)
  by_kinds r q (calls n e h) (one k) = absurd
      (refused_or_read 0 0 (contents files) q h.units k.one h.accepted.read.read)
  by_kinds r q (calls n e h) (together i f k) =
      absurd (no_fault _ _ i (alike k.units h.units k.read h.accepted.read).refusals k.some h.accepted.none)
  by_kinds r q (calls n e h) (calls m f k) =
      e ∙ ap TooManyCalls (sym h.counted ∙ same_calls h.units k.units
      (alike h.units k.units h.accepted.read k.accepted.read) ∙ k.counted)
      ∙ sym f

  not_program : (r : refusals.Refusal) (p : Core) → Kind containers files r → IsProgram containers files p → ⊥
  not_program r p (many n e h i) is = not_few containers files n h i is.accepted.read.few
  not_program r p (one h) is = refused_or_read 0 0 (contents files) r is.units h.one is.accepted.read.read
  not_program r p (together g e h) is =
      no_fault _ _ g (alike h.units is.units h.read is.accepted.read).refusals h.some is.accepted.none
  not_program r p (calls n e h) is =
      let same = same_calls h.units is.units (alike h.units is.units h.accepted.read is.accepted.read) in
      let few = is.few in let many = h.many in let counted = h.counted in omega (arith, same)

  only : (a b : Source) → IsSource containers files a → IsSource containers files b → a ≡ b
  only (Refusal x) (Refusal y) f g =
      ap Refusal (f.2 ∙ ap (refusal_line (source_names files))
      (by_kinds f.0 g.0 (kind containers files f.0 f.1) (kind containers files g.0 g.1)) ∙ sym g.2)
  only (Refusal x) (Accepted q) f g = absurd (not_program f.0 q (kind containers files f.0 f.1) g)
  only (Accepted p) (Refusal y) f g = absurd (not_program g.0 p (kind containers files g.0 g.1) f)
  only (Accepted p) (Accepted q) f g =
      ap Accepted (lowered_once f.units g.units p q
      (alike f.units g.units f.accepted.read g.accepted.read) f.lowered g.lowered)

pub one_source : OneReading → OneSource
one_source reading containers files a b f g = only reading containers files a b f g
