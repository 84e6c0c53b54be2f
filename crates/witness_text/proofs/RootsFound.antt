-- Roots are found by their texts.
use Rattle.std.proofs.Common.{◌≡◌, ◌<◌, ℕ, zero, suc, ◌+◌, ◌^◌, Bool, true, false, List, [], ◌∷◌, ◌++◌}
use Rattle.std.proofs.Common.{Option, None, Some, codes, is_some, length, map, nat_eq, nat_lt, slice_get}
use Rattle.std.proofs.Common.{refl, sym, ap, subst, ◌∙◌, arith, ◌⊎◌, inl, inr, ⊎_elim, cond}
use borrow.Author.Tests.{eqb-true}
use Rattle.std.proofs.lemmas.Bool.{lt-ltb, and_parts}
use Rattle.std.proofs.lemmas.Fmt.{decimal_digit, decimal_injective}
use Rattle.std.specs.Fmt.{decimal}
use Rattle.std.specs.List.{enumerate_from, list_all}
use Rattle.std.specs.Option.{option_and_then}
use Rattle.racer_base.specs.declared.ids.ClassId.{ClassId}
use Rattle.racer_base.specs.declared.ids.Kind.{Kind}
use Rattle.core_code.specs.declared.parts.ClassCore.{ClassCore}
use Rattle.core_code.specs.declared.parts.FieldCore.{FieldCore}
use Rattle.core_code.specs.declared.program.Program.{Program}
use Rattle.core_code.specs.Core.{Method}
use Rattle.core_code.specs.Facts.{is_class}
use Rattle.core_code.specs.Names.{is_field_name, is_identifier, same_text}
use Rattle.core_code.specs.Program.{core as core_of}
use Rattle.core_code.proofs.Membership.{In, in_append, in_left, in_right}
use Rattle.access_paths.specs.Text.{name_at}
use Rattle.core_semantics.specs.declared.object.StartRoot.{StartRoot}
use Rattle.core_semantics.specs.declared.object.StartRoot.TheVariants.{This, Class, Param}
use Rattle.race_report_parts.specs.Marks.{start_root_text}
use Rattle.race_report_parts.specs.Texts.{class_names}
use Rattle.core_semantics_kinds.specs.Reached.{object_of, parameter_root, roots_of}
use Rattle.witness_text_names.specs.Names.{all_roots, class_roots, parameters_of, root_named}
use Rattle.witness_text.proofs.Differing.{found-one}
use Rattle.witness_text.proofs.EntriesFound.{class-there, one-class}
use Rattle.witness_text.proofs.NamedFields.{text-equal, text-refl}
use Rattle.access_domain.proofs.Members.{in_at}
use Rattle.access_domain.proofs.Tests.{passes_in}

-- ---- members

-- numbered elements of a list, each made into something
numbered-has : {X Y : Type 0} (h : ℕ → X → Y) (n : ℕ) (xs : List X) (i : ℕ) (x : X) → slice_get xs i ≡ Some x →
    (z : X) × In (map (λ (e : ℕ × X). h e.0 e.1) (enumerate_from n xs)) (h (n + i) x)
numbered-has h n [] i x is = cc
numbered-has h n (y ∷ xs) zero x is =
    let e : y ≡ x = cc in
    let here : n ≡ n + 0 = omega arith in
    (x, inl (λ k. h (here k) (e k)))
numbered-has {X} {Y} h n (y ∷ xs) (suc i) x is =
    let shift : n + 1 + i ≡ n + suc i = omega arith in
    let later = numbered-has h (n + 1) xs i x is in
    (x, inr (subst (λ (k : ℕ). In (map (λ (e : ℕ × X). h e.0 e.1) (enumerate_from (n + 1) xs)) (h k x)) shift later.1))

numbered-of : {X Y : Type 0} (h : ℕ → Y) (n : ℕ) (xs : List X) (y : Y) (P : Y → Type 0) →
    ((i : ℕ) → i < length xs → P (h (n + i))) → In (map (λ (e : ℕ × X). h e.0) (enumerate_from n xs)) y → P y
numbered-of h n [] y P each there = absurd there
numbered-of {X} {Y} h n (x ∷ xs) y P each there =
    ⊎_elim
    (λ e. subst P e (let here : n + 0 ≡ n = omega arith in subst (λ (k : ℕ). P (h k)) here (each 0 (omega arith))))
    (λ r. numbered-of h (n + 1) xs y P
    (λ i below. let shift : n + suc i ≡ n + 1 + i = omega arith in
    subst (λ (k : ℕ). P (h k)) shift (each (suc i) (omega (arith, below)))) r) there

module _ (p : Program) (f g : Method) (few_f : length f.parameters < 2 ^ 64) (few_g : length g.parameters < 2 ^ 64)
  where
    -- a root that there may be
    abbrev pub IsRoot : StartRoot → Type 0
    IsRoot This = Unit {0}
    IsRoot (Class c) = is_class (core_of p) c ≡ true
    IsRoot (Param t i) = (t < 2) × (i < 2 ^ 64)

    pub all-are : (y : StartRoot) → In (all_roots (core_of p) f g) y → IsRoot y
    all-are y h =
        ⊎_elim (λ e. subst IsRoot e tt)
        (λ r. ⊎_elim
        (λ a. ⊎_elim
        (λ c. numbered-of (λ n. Class (record { 0 = n })) 0 (core_of p).classes y IsRoot
        (λ i below. let same : 0 + i ≡ i = omega arith in
        subst (λ (k : ℕ). nat_lt k (length (core_of p).classes) ≡ true) (sym same)
        (lt-ltb i (length (core_of p).classes) below)) c)
        (λ q. numbered-of (Param 0) 0 f.parameters y IsRoot (λ i below. (omega arith, omega (arith, below, few_f))) q)
        (in_append (class_roots (core_of p)) (parameters_of 0 f) y a))
        (λ b. numbered-of (Param 1) 0 g.parameters y IsRoot (λ i below. (omega arith, omega (arith, below, few_g))) b)
        (in_append (class_roots (core_of p) ++ parameters_of 0 f) (parameters_of 1 g) y r)) h

    -- ---- texts of different roots differ

    param-text : (t i : ℕ) → t < 2 → start_root_text (core_of p) (Param t i) ≡ (48 + t) ∷ 35 ∷ decimal i
    param-text t i small =
        let digit : t < 10 = omega (arith, small) in
        ap (λ (ds : List ℕ). ds ++ codes "#" ++ decimal i) (decimal_digit t digit)

    abbrev head_or : ℕ → List ℕ → ℕ
    head_or d [] = d
    head_or d (b ∷ bs) = b

    pub class-word : (c : ClassId) → is_class (core_of p) c ≡ true →
        is_identifier (name_at (class_names (core_of p)) c.0) ≡ true
    class-word c h =
        let one = class-there (core_of p) c h in
        ap is_identifier one.2
        ∙ passes_in (λ (x : ClassCore). is_identifier x.name) (core_of p).classes one.0
        (and_parts (list_all (λ (x : ClassCore). is_identifier x.name) (core_of p).classes)
        (list_all (λ (x : FieldCore). is_field_name x.name) (core_of p).fields) p.names_right).0
        (in_at (core_of p).classes c.0 one.0 one.1)

    this-no-class : (name : List ℕ) → is_identifier name ≡ true → codes "this" ≡ name → ⊥
    this-no-class name h e =
        let wrong : false ≡ true = ap is_identifier e ∙ h in absurd cc

    digit-no-word : (t : ℕ) (rest name : List ℕ) → t < 2 → is_identifier name ≡ true → (48 + t) ∷ rest ≡ name → ⊥
    digit-no-word zero rest name small h e =
        let wrong : false ≡ true = ap is_identifier e ∙ h in absurd cc
    digit-no-word (suc zero) rest name small h e =
        let wrong : false ≡ true = ap is_identifier e ∙ h in absurd cc
    digit-no-word (suc (suc t)) rest name small h e = absurd (omega (arith, small))

    digits-apart : (t u i j : ℕ) → t < 2 → u < 2 → i < 2 ^ 64 → j < 2 ^ 64 →
        (48 + t) ∷ 35 ∷ decimal i ≡ (48 + u) ∷ 35 ∷ decimal j → Param t i ≡ Param u j
    digits-apart t u i j small_t small_u few_i few_j e =
        let first : 48 + t ≡ 48 + u = cc in
        let behind : decimal i ≡ decimal j = cc in
        let thread : t ≡ u = omega (arith, first) in
        let number : i ≡ j = decimal_injective i j few_i few_j behind in
        (λ k. Param (thread k) (number k))

    one-root : (y r : StartRoot) → IsRoot y → IsRoot r → start_root_text (core_of p) y ≡ start_root_text (core_of p) r →
        y ≡ r
    one-root This This a b e = refl
    one-root This (Class d) a b e = absurd (this-no-class (name_at (class_names (core_of p)) d.0) (class-word d b) e)
    one-root This (Param u j) a b e =
        let texts : codes "this" ≡ (48 + u) ∷ 35 ∷ decimal j = e ∙ param-text u j b.0 in
        let below : u < 2 = b.0 in
        let head : 116 ≡ 48 + u = ap (head_or 0) texts in
        absurd (omega (arith, head, below))
    one-root (Class c) This a b e =
        absurd (this-no-class (name_at (class_names (core_of p)) c.0) (class-word c a) (sym e))
    one-root (Class c) (Class d) a b e =
        ap (λ (n : ℕ). let x : ClassId = record { 0 = n } in Class x) (one-class p c d a b e)
    one-root (Class c) (Param u j) a b e =
        absurd (digit-no-word u (35 ∷ decimal j) (name_at (class_names (core_of p)) c.0) b.0 (class-word c a)
        (sym (e ∙ param-text u j b.0)))
    one-root (Param t i) This a b e =
        let texts : codes "this" ≡ (48 + t) ∷ 35 ∷ decimal i = sym e ∙ param-text t i a.0 in
        let below : t < 2 = a.0 in
        let head : 116 ≡ 48 + t = ap (head_or 0) texts in
        absurd (omega (arith, head, below))
    one-root (Param t i) (Class d) a b e =
        absurd (digit-no-word t (35 ∷ decimal i) (name_at (class_names (core_of p)) d.0) a.0 (class-word d b)
        (sym (param-text t i a.0) ∙ e))
    one-root (Param t i) (Param u j) a b e =
        digits-apart t u i j a.0 b.0 a.1 b.1 (sym (param-text t i a.0) ∙ e ∙ param-text u j b.0)

    pub root-found : (r : StartRoot) → In (all_roots (core_of p) f g) r →
        root_named (core_of p) f g (start_root_text (core_of p) r) ≡ Some r
    root-found r h =
        found-one (λ y. same_text (start_root_text (core_of p) y) (start_root_text (core_of p) r))
        (all_roots (core_of p) f g) r h
        (text-refl (start_root_text (core_of p) r))
        (λ y y_in t. one-root y r (all-are y y_in) (all-are r h)
        (text-equal (start_root_text (core_of p) y) (start_root_text (core_of p) r) t))

    -- ---- the roots of right start paths are among them

    class-root : (c : ClassId) → is_class (core_of p) c ≡ true → In (all_roots (core_of p) f g) (Class c)
    class-root c h =
        let one = class-there (core_of p) c h in
        let has = numbered-has (λ n (x : ClassCore). Class (record { 0 = n })) 0 (core_of p).classes c.0 one.0 one.1 in
        let same : 0 + c.0 ≡ c.0 = omega arith in
        inr (in_left (class_roots (core_of p) ++ parameters_of 0 f) (parameters_of 1 g) (Class c)
        (in_left (class_roots (core_of p)) (parameters_of 0 f) (Class c)
        (subst (λ (n : ℕ). In (class_roots (core_of p)) (Class (record { 0 = n }))) same has.1)))

    kind-there : (kinds : List Kind) (i : ℕ) → is_some (parameter_root i kinds) ≡ true →
        (k : Kind) × (slice_get kinds i ≡ Some k)
    kind-there kinds i h = by (slice_get kinds i) refl h
      where
        by : (o : Option Kind) → slice_get kinds i ≡ o → is_some (option_and_then object_of o) ≡ true →
            (k : Kind) × (slice_get kinds i ≡ Some k)
        by None e g = absurd cc
        by (Some k) e g = (k, e)

    parameter-first : (i : ℕ) → is_some (parameter_root i f.parameters) ≡ true →
        In (all_roots (core_of p) f g) (Param 0 i)
    parameter-first i h =
        let one = kind-there f.parameters i h in
        let has = numbered-has (λ n (x : Kind). Param 0 n) 0 f.parameters i one.0 one.1 in
        let same : 0 + i ≡ i = omega arith in
        inr (in_left (class_roots (core_of p) ++ parameters_of 0 f) (parameters_of 1 g) (Param 0 i)
        (in_right (class_roots (core_of p)) (parameters_of 0 f) (Param 0 i)
        (subst (λ (n : ℕ). In (parameters_of 0 f) (Param 0 n)) same has.1)))

    parameter-second : (i : ℕ) → is_some (parameter_root i g.parameters) ≡ true →
        In (all_roots (core_of p) f g) (Param 1 i)
    parameter-second i h =
        let one = kind-there g.parameters i h in
        let has = numbered-has (λ n (x : Kind). Param 1 n) 0 g.parameters i one.0 one.1 in
        let same : 0 + i ≡ i = omega arith in
        inr (in_right (class_roots (core_of p) ++ parameters_of 0 f) (parameters_of 1 g) (Param 1 i)
        (subst (λ (n : ℕ). In (parameters_of 1 g) (Param 1 n)) same has.1))

    -- a root that leads somewhere, a class being one that there is
    pub root-there : (r : StartRoot) → ((c : ClassId) → r ≡ Class c → is_class (core_of p) c ≡ true) →
        is_some (roots_of f g r) ≡ true → In (all_roots (core_of p) f g) r
    root-there This class h = inl refl
    root-there (Class c) class h = class-root c (class c refl)
    root-there (Param t i) class h = first (nat_eq t 0) refl h
      where
        second : (b : Bool) → nat_eq t 1 ≡ b → is_some (cond b (parameter_root i g.parameters) None) ≡ true →
            In (all_roots (core_of p) f g) (Param t i)
        second true e s =
            let one : t ≡ 1 = eqb-true t 1 e in
            subst (λ (n : ℕ). In (all_roots (core_of p) f g) (Param n i)) (sym one) (parameter-second i s)
        second false e s = absurd cc

        first : (b : Bool) → nat_eq t 0 ≡ b →
            is_some (cond b (parameter_root i f.parameters) (cond (nat_eq t 1) (parameter_root i g.parameters) None)) ≡
            true →
            In (all_roots (core_of p) f g) (Param t i)
        first true e s =
            let zero_is : t ≡ 0 = eqb-true t 0 e in
            subst (λ (n : ℕ). In (all_roots (core_of p) f g) (Param n i)) (sym zero_is) (parameter-first i s)
        first false e s = second (nat_eq t 1) refl s
