-- Right start paths are found by their texts.
use Rattle.std.proofs.Common.{◌≡◌, ◌<◌, ◌^◌, ◌+◌, ◌%◌, arith, ℕ, Bool, true, false, ◌&&◌, not, List, [], ◌∷◌, ◌++◌}
use Rattle.std.proofs.Common.{Option, None, Some}
use Rattle.std.proofs.Common.{codes, is_some, length, map, nat_lt, refl, sym, ap, subst, ◌∙◌}
use borrow.Author.Tests.{eqb-true}
use Rattle.std.proofs.lemmas.List.Elements.{All-append, All-cons, All-nil}
use Rattle.std.proofs.lemmas.Fmt.{decimal_by_steps}
use Rattle.std.specs.Fmt.{decimal}
use Rattle.std.specs.List.{All, list_all}
use Rattle.std.specs.Option.{option_and_then}
use Rattle.std.proofs.lemmas.Bool.{and_parts}
use Rattle.racer_base.specs.declared.ids.ClassId.{ClassId}
use Rattle.racer_base.specs.declared.ids.FieldId.{FieldId}
use Rattle.racer_base.specs.Name.{fixed_words, is_listed, is_word, keywords}
use Rattle.core_code.specs.declared.parts.ClassCore.{ClassCore}
use Rattle.core_code.specs.declared.parts.FieldCore.{FieldCore}
use Rattle.core_code.specs.declared.program.Program.{Program}
use Rattle.core_code.specs.Core.{Core, Method}
use Rattle.core_code.specs.KindCheck.{field_at}
use Rattle.core_code.specs.Facts.{is_class, is_field_in_range, is_kind, is_method_in_range}
use Rattle.core_code.specs.Kinds.{same_class}
use Rattle.core_code.specs.Names.{is_field_name, is_identifier}
use Rattle.core_code.specs.Program.{core as core_of}
use Rattle.core_code.proofs.FieldNames.{field_name-no-dot}
use Rattle.access_paths.specs.Text.{name_at}
use Rattle.core_semantics.specs.declared.object.StartPath.{StartPath}
use Rattle.core_semantics.specs.Objects.{root_path}
use Rattle.core_semantics.specs.declared.object.StartRoot.{StartRoot}
use Rattle.core_semantics.specs.declared.object.StartRoot.TheVariants.{This, Class, Param}
use Rattle.race_report_parts.specs.Marks.{start_root_text, start_text}
use Rattle.race_report_parts.specs.Texts.{class_names, field_names}
use Rattle.core_semantics_kinds.specs.Reached.{Reached, Roots, TheClass, behind, behind_field, has_field, is_right}
use Rattle.core_semantics_kinds.specs.Reached.{reached_from, roots_of}
use Rattle.witness_text_names.specs.Objects.{object_named, path_along, path_named}
use Rattle.witness_text.proofs.Differing.{mapped-at}
use Rattle.witness_text.proofs.NamedFields.{GoesOn, LeadAll, all-lead, behind-class, field-there, name-of, name_from}
use Rattle.witness_text.proofs.NamedFields.{path-found}
use Rattle.witness_text.proofs.NamesInTexts.{AreDotless, is_dot, names-in, no-dots, word-no-dots}
use Rattle.witness_text.proofs.RootsFound.{IsRoot, all-are, class-word, root-found, root-there}
use Rattle.witness_text.proofs.Replayed.{AreNamed}
use Rattle.access_domain.proofs.Members.{in_at}
use Rattle.access_domain.proofs.Tests.{passes_in}

-- ---- bytes that are no dots

digits-no-dot : (n : ℕ) → n < 2 ^ 64 → All (λ b. is_dot b ≡ false) (decimal n)
digits-no-dot n small =
    decimal_by_steps (λ m ds. All (λ b. is_dot b ≡ false) ds)
    (λ m below. All-cons (λ b. is_dot b ≡ false) (48 + m) [] (no-dot (48 + m) (λ e. absurd (omega (arith, e))))
    (All-nil (λ b. is_dot b ≡ false)))
    (λ m ds some h. All-append (λ b. is_dot b ≡ false) ds ((48 + m % 10) ∷ []) h
    (All-cons (λ b. is_dot b ≡ false) (48 + m % 10) [] (no-dot (48 + m % 10) (λ e. absurd (omega (arith, e))))
    (All-nil (λ b. is_dot b ≡ false))))
    n small
  where
    no-dot : (b : ℕ) → (b ≡ 46 → ⊥) → is_dot b ≡ false
    no-dot b other = by (is_dot b) refl
      where
        by : (t : Bool) → is_dot b ≡ t → t ≡ false
        by true e = absurd (other (eqb-true b 46 e))
        by false e = refl

-- ---- fields that there are, with their names

abbrev pub AreThere : Core → List FieldId → Type 0
AreThere core [] = Unit {0}
AreThere core (x ∷ xs) = ((field : FieldCore) × (field_at core x ≡ Some field)) × AreThere core xs

module _ (p : Program) (roots : Roots) where
  pub lead-there : (r : Option Reached) (xs : List FieldId) → LeadAll p roots r xs → AreThere (core_of p) xs
  lead-there r [] h = tt
  lead-there r (x ∷ xs) h =
      let one : GoesOn (core_of p) r x = field-there (core_of p) r x h.0 in
      ((one.field, one.there), lead-there (behind (core_of p) r x) xs h.1)

  pub names-same : (xs : List FieldId) → AreThere (core_of p) xs →
      map (λ (x : FieldId). name_at (field_names (core_of p)) x.0) xs ≡ map (name_from p roots) xs
  names-same [] h = refl
  names-same (x ∷ xs) h =
      let name : name_at (field_names (core_of p)) x.0 ≡ h.0.0.name =
      mapped-at (λ (y : FieldCore). y.name) (core_of p).fields x.0 h.0.0 [] h.0.1 in
      let other : name_from p roots x ≡ h.0.0.name = ap name-of h.0.1 in
      let rest = names-same xs h.1 in
      (λ i. (name ∙ sym other) i ∷ rest i)

  pub dotless : (xs : List FieldId) → AreThere (core_of p) xs → AreDotless (field_names (core_of p)) xs
  dotless [] h = tt
  dotless (x ∷ xs) h = (
    subst (λ (t : List ℕ). All (λ b. is_dot b ≡ false) t)
        (sym (mapped-at (λ (y : FieldCore). y.name) (core_of p).fields x.0 h.0.0 [] h.0.1))
        (field_name-no-dot h.0.0.name
        (passes_in (λ (y : FieldCore). is_field_name y.name) (core_of p).fields h.0.0
        (and_parts (list_all (λ (y : ClassCore). is_identifier y.name) (core_of p).classes)
        (list_all (λ (y : FieldCore). is_field_name y.name) (core_of p).fields) p.names_right).1
        (in_at (core_of p).fields x.0 h.0.0 h.0.1))),
    dotless xs h.1,
  )

-- ---- objects

module _ (p : Program) (f g : Method) (few_f : length f.parameters < 2 ^ 64) (few_g : length g.parameters < 2 ^ 64)
  where
    pub root-dotless : (r : StartRoot) → IsRoot p f g few_f few_g r →
        All (λ b. is_dot b ≡ false) (start_root_text (core_of p) r)
    root-dotless This h = no-dots (codes "this") refl
    root-dotless (Class c) h =
        word-no-dots (name_at (class_names (core_of p)) c.0)
        (word-of (name_at (class_names (core_of p)) c.0) (class-word p f g few_f few_g c h))
      where
        word-of : (t : List ℕ) → is_identifier t ≡ true → is_word t ≡ true
        word-of t e =
            (and_parts (is_word t) (not (is_listed keywords t)) (and_parts (is_word t && not (is_listed keywords t))
            (not (is_listed fixed_words t)) e).0).0
    root-dotless (Param t i) h =
        let below : t < 2 = h.0 in
        All-append (λ b. is_dot b ≡ false) (decimal t ++ codes "#") (decimal i)
        (All-append (λ b. is_dot b ≡ false) (decimal t) (codes "#") (digits-no-dot t (omega (arith, below)))
        (All-cons (λ b. is_dot b ≡ false) 35 [] refl (All-nil (λ b. is_dot b ≡ false))))
        (digits-no-dot i h.1)

    -- the class of a field is one that there is
    pub field-class : (c : ClassId) (x : FieldId) (field : FieldCore) → field_at (core_of p) x ≡ Some field →
        same_class c field.class ≡ true → is_class (core_of p) c ≡ true
    field-class c x field there of_class =
        let class : c.0 ≡ field.class.0 = eqb-true c.0 field.class.0 of_class in
        let in_range : is_field_in_range (core_of p) field ≡ true =
        passes_in (is_field_in_range (core_of p)) (core_of p).fields field
        (and_parts _ (list_all (is_field_in_range (core_of p)) (core_of p).fields)
        (and_parts _ (list_all (is_method_in_range (core_of p)) (core_of p).methods) p.numbers_in_range).0).1
        (in_at (core_of p).fields x.0 field there) in
        ap (λ (n : ℕ). nat_lt n (length (core_of p).classes)) class
        ∙ (and_parts (is_class (core_of p) field.class) (is_kind (core_of p) field.kind) in_range).0

    -- a class root of a right path is a class that there is
    pub class-root-there : (c : ClassId) (x : FieldId) (xs : List FieldId) →
        LeadAll p (roots_of f g) (roots_of f g (Class c)) (x ∷ xs) →
        is_class (core_of p) c ≡ true
    class-root-there c x xs h =
        let one : GoesOn (core_of p) (Some (TheClass c)) x = field-there (core_of p) (Some (TheClass c)) x h.0 in
        let from : TheClass c ≡ one.from = let e : Some (TheClass c) ≡ Some one.from = one.is in cc in
        field-class c x one.field one.there
        (behind-class one.field (TheClass c)
        (subst (λ (r : Reached). is_some (behind_field one.field r) ≡ true) (sym from) one.leads))

    object-by : (q : StartPath) (x : FieldId) (xs : List FieldId) → q.fields ≡ x ∷ xs →
        is_some (reached_from (core_of p) (roots_of f g) q) ≡ true →
        object_named (core_of p) f g (start_text (core_of p) q) ≡ Some q
    object-by q x xs is leads =
        let core : Core = core_of p in
        let all : LeadAll p (roots_of f g) (roots_of f g q.root) q.fields =
        all-lead p (roots_of f g) (roots_of f g q.root) q.fields leads in
        let both : LeadAll p (roots_of f g) (roots_of f g q.root) (x ∷ xs) =
        subst (LeadAll p (roots_of f g) (roots_of f g q.root)) is all in
        let fields : AreThere core q.fields = lead-there p (roots_of f g) (roots_of f g q.root) q.fields all in
        let stands = root-there p f g few_f few_g q.root
        (λ c e. class-root-there c x xs (subst (λ (r : StartRoot). LeadAll p (roots_of f g) (roots_of f g r) (x ∷ xs)) e
        both))
        (root-leads q.root x xs both) in
        let names = names-in (field_names core) (start_root_text core q.root) q.fields
        (root-dotless q.root (all-are p f g few_f few_g q.root stands)) (dotless p (roots_of f g) q.fields fields) in
        ap (path_named core f g) names
        ∙ ap (λ (ns : List (List ℕ)). path_named core f g (start_root_text core q.root ∷ ns))
        (names-same p (roots_of f g) q.fields fields)
        ∙ ap (λ (ys : List FieldId). path_named core f g
        (start_root_text core q.root ∷ map (name_from p (roots_of f g)) ys)) is
        ∙ ap (option_and_then (λ r. path_along core (roots_of f g) (map (name_from p (roots_of f g)) (x ∷ xs))
        (root_path r)))
        (root-found p f g few_f few_g q.root stands)
        ∙ ap (λ (ys : List FieldId). path_along core (roots_of f g) (map (name_from p (roots_of f g)) ys)
        (root_path q.root)) (sym is)
        ∙ path-found p (roots_of f g) q leads
      where
        root-leads : (r : StartRoot) (x : FieldId) (xs : List FieldId) →
            LeadAll p (roots_of f g) (roots_of f g r) (x ∷ xs) →
            is_some (roots_of f g r) ≡ true
        root-leads r x xs h = some-of (roots_of f g r) h.0
          where
            some-of : (o : Option Reached) → is_some (behind (core_of p) o x) ≡ true → is_some o ≡ true
            some-of None e = e
            some-of (Some y) e = refl

    object-found : (q : StartPath) → is_right (core_of p) (roots_of f g) q ≡ true →
        object_named (core_of p) f g (start_text (core_of p) q) ≡ Some q
    object-found q h =
        by q.fields refl (and_parts (has_field q.fields) (is_some (reached_from (core_of p) (roots_of f g) q)) h).0
      where
        by : (xs : List FieldId) → q.fields ≡ xs → has_field xs ≡ true →
            object_named (core_of p) f g (start_text (core_of p) q) ≡ Some q
        by [] e t = absurd cc
        by (x ∷ xs) e t =
            object-by q x xs e (and_parts (has_field q.fields) (is_some (reached_from (core_of p) (roots_of f g) q))
            h).1

    pub objects-found : (qs : List StartPath) → list_all (is_right (core_of p) (roots_of f g)) qs ≡ true →
        AreNamed (core_of p) f g qs
    objects-found [] h = tt
    objects-found (q ∷ qs) h = (
      object-found q (and_parts (is_right (core_of p) (roots_of f g) q)
          (list_all (is_right (core_of p) (roots_of f g)) qs) h).0,
      objects-found qs (and_parts (is_right (core_of p) (roots_of f g) q)
          (list_all (is_right (core_of p) (roots_of f g)) qs) h).1,
    )
