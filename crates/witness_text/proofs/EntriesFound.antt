-- Entries are found by the names of their classes and by their texts.
use Rattle.std.proofs.Common.{◌≡◌, ◌<◌, ℕ, ◌+◌, ◌^◌, Bool, true, ◌&&◌, ◌||◌, not, List, []}
use Rattle.std.proofs.Common.{◌≤◌, false, Option, None, Some, is_none, is_some, length, nat_eq, nat_le, slice_get}
use Rattle.std.proofs.Common.{refl, sym, ap, ◌∙◌, arith}
use Rattle.std.proofs.lemmas.Bool.{eq-eqb, leb-true, and_from, and_parts}
use Rattle.std.specs.List.{list_all}
use Rattle.racer_base.specs.declared.ids.ClassId.{ClassId}
use Rattle.racer_base.specs.declared.ids.MethodId.{MethodId}
use Rattle.racer_base.specs.declared.limits.TheConstants.{MAX_PARAMETERS}
use Rattle.core_code.specs.declared.code.Reason.{Reason}
use Rattle.core_code.specs.declared.parts.ClassCore.{ClassCore}
use Rattle.core_code.specs.declared.program.Program.{Program}
use Rattle.core_code.specs.Calls.{is_analysed, method_at}
use Rattle.core_code.specs.Core.{Core, Method}
use Rattle.core_code.specs.Facts.{are_parameters_few, has_few_parameters, is_class, is_checked, is_code, is_kind}
use Rattle.core_code.specs.Facts.{is_method_in_range, is_place, may_be_entry}
use Rattle.core_code.specs.Names.{same_signature, same_text}
use Rattle.core_code.specs.Program.{core as core_of}
use Rattle.core_code.proofs.Membership.{In}
use Rattle.access_paths.specs.Text.{name_at}
use Rattle.race_report_parts.specs.Texts.{class_names}
use Rattle.race_report_parts.specs.WitnessFiles.{entry_text}
use Rattle.witness_text_names.specs.Names.{entry_named, is_named}
use Rattle.witness_text.proofs.Differing.{OneOf, found-kept, mapped-at, one-index, there}
use Rattle.witness_text.proofs.EntryTexts.{entry-told}
use Rattle.witness_text.proofs.NamedFields.{text-equal, text-refl}
use Rattle.access_domain.proofs.Members.{in_at}
use Rattle.access_domain.proofs.Tests.{passes_in}

abbrev same_name : ClassCore → ClassCore → Bool
same_name a b = same_text a.name b.name

-- a class that there is has its name
pub class-there : (core : Core) (c : ClassId) → is_class core c ≡ true →
    (class : ClassCore) × (slice_get core.classes c.0 ≡ Some class) × (name_at (class_names core) c.0 ≡ class.name)
class-there core c h =
    let one = there core.classes c.0 h in
    (one.0, one.1, mapped-at (λ (x : ClassCore). x.name) core.classes c.0 one.0 [] one.1)

-- classes with one name are one
pub one-class : (p : Program) (c d : ClassId) → is_class (core_of p) c ≡ true → is_class (core_of p) d ≡ true →
    name_at (class_names (core_of p)) c.0 ≡ name_at (class_names (core_of p)) d.0 → c.0 ≡ d.0
one-class p c d in_c in_d e =
    let core : Core = core_of p in
    let a = class-there core c in_c in
    let b = class-there core d in_d in
    let names : a.0.name ≡ b.0.name = sym a.2 ∙ e ∙ b.2 in
    one-index same_name core.classes c.0 d.0 a.0 b.0 p.classes_differ a.1 b.1
    (ap (λ (t : List ℕ). same_text a.0.name t) (sym names) ∙ text-refl a.0.name)
    (ap (λ (t : List ℕ). same_text t a.0.name) (sym names) ∙ text-refl a.0.name)

-- ---- what holds of each method

in-range : (p : Program) (m : Method) → In (core_of p).methods m → is_method_in_range (core_of p) m ≡ true
in-range p m stands =
    passes_in (is_method_in_range (core_of p)) (core_of p).methods m
    (and_parts _ (list_all (is_method_in_range (core_of p)) (core_of p).methods) p.numbers_in_range).1 stands

class-in : (core : Core) (m : Method) → is_method_in_range core m ≡ true → is_class core m.class ≡ true
class-in core m h =
    (and_parts (is_class core m.class) (is_place core m.place)
    (and_parts (is_class core m.class && is_place core m.place) (list_all (is_kind core) m.parameters)
    (and_parts (is_class core m.class && is_place core m.place && list_all (is_kind core) m.parameters)
    (is_kind core m.result) (and_parts _ (list_all (is_kind core) m.variables)
    (and_parts _ (is_code core (length m.variables) m.code) h).0).0).0).0).0

pub method-class : (p : Program) (m : Method) → In (core_of p).methods m → is_class (core_of p) m.class ≡ true
method-class p m stands = class-in (core_of p) m (in-range p m stands)

entry-analysed : (core : Core) (m : Method) → may_be_entry core m ≡ true → m.entry ≡ true → is_none m.status ≡ true
entry-analysed core m h e =
    (and_parts (is_none m.status) (is_checked core m.class)
    (sym (ap (λ (b : Bool). not b || (is_none m.status && is_checked core m.class)) e) ∙ h)).0

pub few-of : (core : Core) (m : Method) → are_parameters_few core ≡ true → In core.methods m →
    is_none m.status ≡ true →
    length m.parameters < 2 ^ 64
few-of core m few stands analysed =
    let has : has_few_parameters m ≡ true = passes_in has_few_parameters core.methods m few stands in
    let below : length m.parameters ≤ MAX_PARAMETERS =
    leb-true (length m.parameters) MAX_PARAMETERS (at-most m.status analysed has) in
    let most : MAX_PARAMETERS ≡ 64 = refl in
    omega (arith, below, most)
  where
    at-most : (o : Option Reason) → is_none o ≡ true →
        (is_some o || nat_le (length m.parameters) MAX_PARAMETERS) ≡ true →
        nat_le (length m.parameters) MAX_PARAMETERS ≡ true
    at-most None e h = h
    at-most (Some reason) e h = let wrong : false ≡ true = e in absurd cc

-- entries are analysed
pub entry-few : (p : Program) (m : Method) → In (core_of p).methods m → m.entry ≡ true → length m.parameters < 2 ^ 64
entry-few p m stands entry =
    few-of (core_of p) m p.parameters_few stands
    (entry-analysed (core_of p) m
    (passes_in (may_be_entry (core_of p)) (core_of p).methods m p.entries_analysed stands) entry)

-- ---- entries

pub entry-is-analysed : (p : Program) (m : MethodId) (f : Method) → method_at (core_of p) m ≡ Some f →
    f.entry ≡ true → is_analysed (core_of p) m ≡ true
entry-is-analysed p m f there entry =
    ap (λ (o : Option Method). elim o as (λ _. Bool) [ None ↦ false | Some x ↦ is_none x.status ]) there
    ∙ entry-analysed (core_of p) f
    (passes_in (may_be_entry (core_of p)) (core_of p).methods f p.entries_analysed
    (in_at (core_of p).methods m.0 f there)) entry

abbrev class_of : Core → Method → List ℕ
class_of core m = name_at (class_names core) m.class.0

-- what the test of an entry says
named-parts : (core : Core) (class text : List ℕ) (m : Method) → is_named core class text m ≡ true →
    (m.entry ≡ true) × (class_of core m ≡ class) × (entry_text m ≡ text)
named-parts core class text m h =
    let two : (m.entry && same_text (class_of core m) class) ≡ true =
    (and_parts (m.entry && same_text (class_of core m) class) (same_text (entry_text m) text) h).0 in (
      (and_parts m.entry (same_text (class_of core m) class) two).0,
      text-equal (class_of core m) class (and_parts m.entry (same_text (class_of core m) class) two).1,
      text-equal (entry_text m) text
          (and_parts (m.entry && same_text (class_of core m) class) (same_text (entry_text m) text) h).1,
    )

named-self : (core : Core) (m : Method) → m.entry ≡ true → is_named core (class_of core m) (entry_text m) m ≡ true
named-self core m entry =
    and_from (m.entry && same_text (class_of core m) (class_of core m)) (same_text (entry_text m) (entry_text m))
    (and_from m.entry (same_text (class_of core m) (class_of core m)) entry (text-refl (class_of core m)))
    (text-refl (entry_text m))

same-signature : (a b : Method) → a.class.0 ≡ b.class.0 → a.name ≡ b.name → length a.parameters ≡ length b.parameters →
    same_signature a b ≡ true
same-signature a b class name count =
    and_from (nat_eq a.class.0 b.class.0 && same_text a.name b.name)
    (nat_eq (length a.parameters) (length b.parameters))
    (and_from (nat_eq a.class.0 b.class.0) (same_text a.name b.name) (eq-eqb a.class.0 b.class.0 class)
    (ap (λ (n : List ℕ). same_text n b.name) name ∙ text-refl b.name))
    (eq-eqb (length a.parameters) (length b.parameters) count)

pub entry-found : (p : Program) (m : MethodId) (f : Method) → method_at (core_of p) m ≡ Some f → f.entry ≡ true →
    entry_named (core_of p) (class_of (core_of p) f) (entry_text f) ≡ Some (m.0, f)
entry-found p m f is entry =
    found-kept same_signature (λ x. is_none x.status) (is_named core (class_of core f) (entry_text f)) 0 core.methods
    m.0 f p.methods_differ is (named-self core f entry) (analysed f f_in entry) one
    ∙ (let zero_on : 0 + m.0 ≡ m.0 = omega arith in (λ i. Some (zero_on i, f)))
  where
    core : Core
    core = core_of p

    f_in : In core.methods f
    f_in = in_at core.methods m.0 f is

    analysed : (x : Method) → In core.methods x → x.entry ≡ true → is_none x.status ≡ true
    analysed x x_in e =
        entry-analysed core x (passes_in (may_be_entry core) core.methods x p.entries_analysed x_in) e

    one : OneOf same_signature (λ x. is_none x.status) (is_named core (class_of core f) (entry_text f)) core.methods f
    one y y_in t =
        let parts = named-parts core (class_of core f) (entry_text f) y t in
        let class : y.class.0 ≡ f.class.0 =
        one-class p y.class f.class (method-class p y y_in) (method-class p f f_in) parts.1 in
        let told = entry-told y f (entry-few p y y_in parts.0) (entry-few p f f_in entry) parts.2 in
        (analysed y y_in parts.0, same-signature y f class told.0 told.1)
