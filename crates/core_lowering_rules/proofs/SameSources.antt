-- Methods that are the same have the same code and variables.
use Rattle.std.proofs.Common.{◌≡◌, ℕ, Bool, false, not, ◌||◌, cond, List, [], ◌∷◌, ◌++◌, codes, map}
use Rattle.std.proofs.Common.{refl, ap, ap₂, sym, ◌∙◌, subst}
use Rattle.std.specs.List.{AllZip, flat_map, list_any}
use Rattle.racer_base.specs.declared.ids.ClassId.{ClassId}
use Rattle.racer_base.specs.declared.ids.Kind.{Kind}
use Rattle.racer_base.proofs.Lists.{same_3, same_4}
use Rattle.java_tree.specs.declared.words.Ident.{Ident}
use Rattle.java_tree.specs.declared.methods.FieldInitialiser.{FieldInitialiser}
use Rattle.java_tree.specs.declared.methods.FieldInitialiser.TheVariants as field
use Rattle.java_tree.specs.declared.methods.FieldTree.{FieldTree}
use Rattle.java_tree.specs.declared.methods.FieldVariable.{FieldVariable}
use Rattle.java_tree.specs.declared.methods.MethodTree.{MethodTree}
use Rattle.java_tree.specs.declared.methods.ModifierTree.{ModifierTree}
use Rattle.java_tree.specs.declared.methods.ParameterTree.{ParameterTree}
use Rattle.java_tree.specs.declared.methods.ResultTree.{ResultTree}
use Rattle.java_tree.specs.declared.methods.ResultTree.TheVariants as result
use Rattle.java_tree.specs.Trees as view
use Rattle.java_tree.specs.View.{ty_of, result_of}
use Rattle.java_tree.specs.declared.unit.ClassTree.{ClassTree}
use Rattle.java_tree.specs.declared.unit.Member.{Member}
use Rattle.java_tree.specs.declared.unit.Member.TheVariants as member
use Rattle.java_tree.specs.SameUnits.{SameInitialiser, SameVariable, SameField, SameMethod, SameMember, SameClass}
use Rattle.java_resolver.specs.declared.infos.MethodInfo.{MethodInfo}
use Rattle.java_resolver.specs.Declarations.{default_constructor, further_arrays}
use Rattle.java_resolver.specs.Declarations.{member_is_constructor}
use Rattle.java_resolver.specs.Words.{has_word}
use Rattle.core_lowering_rules.specs.Trees as lowered
use Rattle.core_lowering_rules.specs.Context.{Folder, Context, Result, Itself, Nothing, Value, Code, op}
use Rattle.core_lowering_rules.specs.Context.{made}
use Rattle.core_lowering_rules.specs.Assignments.{of_name, assigned}
use Rattle.core_lowering_rules.specs.Expressions.{init_kind, init_code}
use Rattle.core_lowering_rules.specs.Scopes.{of_type, after_all}
use Rattle.core_lowering_rules.specs.Methods.{Body, Default, Spelled, Unspelled, Source, this_kinds, entered}
use Rattle.core_lowering_rules.specs.Methods.{outside_methods, parameters_declared, field_begun, member_begun}
use Rattle.core_lowering_rules.specs.Methods.{fields_begun, body_of}
use Rattle.core_lowering_rules.specs.Methods.{block_code, none_analysed, is_large, is_past, is_past_limit, end_of}
use Rattle.core_lowering_rules.specs.Methods.{is_apart}
use Rattle.core_lowering_rules.specs.Methods.{locked, ended, spelled_code, code_in, method_code, kinds_in}
use Rattle.core_lowering_rules.specs.Methods.{method_kinds}
use Rattle.core_lowering_drafts.specs.Only.{Code as Trees}
use Rattle.core_lowering_drafts.specs.Sizes.{is_small}
use Rattle.core_code.specs.Tree.{in_sequence}
use Rattle.core_lowering_rules.specs.Methods as methods
use Rattle.core_lowering_rules.specs.Programs.{member_sources, default_sources, class_sources, is_unspelled, is_outside}
use Rattle.core_code.specs.declared.code.Op.TheVariants.{Drop}
use Rattle.core_lowering_rules.proofs.FilledMethods.{SeenParameter, Seen, seen_parameter, seen, same_seen, same_body}
use Rattle.core_lowering_rules.proofs.FilledMethods.{same_initialiser}
use Rattle.core_lowering_rules.proofs.ZippedLists.{zip-flat, zip-append, zip-zips, zip-unless}
use Rattle.core_lowering_rules.proofs.SameMembers.{by-form, same_modifiers, constructor-alike, modifiers-alike}
use Rattle.core_lowering_rules.proofs.SameMembers.{constructs-alike, method-alike, head-alike, default-alike}

-- ---- sources that are the same

abbrev pub SameBody : Body → Body → Type 0
SameBody Default Default = Unit {0}
SameBody (Spelled m) (Spelled n) = SameMethod m n
SameBody Unspelled Unspelled = Unit {0}
SameBody _ _ = ⊥

pub record SameSource (s t : Source) : Type 0 where
  pub info : s.info ≡ t.info
  pub members : AllZip SameMember s.members t.members
  pub body : SameBody s.body t.body

module _ (names : List (List ℕ)) (c : ClassId) (a b : ClassTree) (same : SameClass a b) where
  members-same : (x y : Member) → SameMember x y
      → AllZip SameSource (member_sources names c a x) (member_sources names c b y)
  members-same =
      by-form (λ x y. AllZip SameSource (member_sources names c a x) (member_sources names c b y)) (λ f g h. tt)
      (λ m n h.
      (record { info = method-alike names c m n h; members = same.members; body = h }, tt))
      (λ h k e. (record { info = head-alike names c h k e; members = same.members; body = tt }, tt)) (λ p q e. tt)

  abbrev default_of : ClassTree → Source
  default_of tree = record { info = default_constructor c tree; members = tree.members; body = Default }

  defaults-same : AllZip SameSource (default_sources c a) (default_sources c b)
  defaults-same =
      let one : SameSource (default_of a) (default_of b) =
      record { info = default-alike names c a b same; members = same.members; body = tt } in
      subst (λ t. AllZip SameSource (default_sources c a) (cond t [] (default_of b ∷ []))) (constructs-alike a b same)
      (zip-unless SameSource (list_any member_is_constructor a.members) (default_of a) (default_of b) one)

  pub class_sources-same : AllZip SameSource (class_sources names c a) (class_sources names c b)
  class_sources-same =
      zip-append SameSource (default_sources c a) (default_sources c b) (flat_map (member_sources names c a) a.members)
      (flat_map (member_sources names c b) b.members) defaults-same
      (zip-zips SameMember SameSource (member_sources names c a) (member_sources names c b) members-same a.members
      b.members same.members)

-- ---- what fields begin with

module _ (context : Context) where
  abbrev begun : Ident → lowered.Init → Code
  begun x i = assigned context (of_name context x) (init_kind context i) (init_code context i) ++ op context Drop

  begun-alike : (x : Ident) (i j : FieldInitialiser) → SameInitialiser i j
      → field_begun context x i ≡ field_begun context x j
  begun-alike x field.Absent field.Absent h = refl
  begun-alike x field.Absent (field.Formed j) h = absurd h
  begun-alike x field.Absent field.Unread h = absurd h
  begun-alike x (field.Formed i) field.Absent h = absurd h
  begun-alike x (field.Formed i) (field.Formed j) h = ap (begun x) (same_initialiser i j h.0 h.1)
  begun-alike x (field.Formed i) field.Unread h = absurd h
  begun-alike x field.Unread field.Absent h = absurd h
  begun-alike x field.Unread (field.Formed j) h = absurd h
  begun-alike x field.Unread field.Unread h = refl

  abbrev variable_begun : FieldVariable → Code
  variable_begun v = field_begun context v.name v.initialiser

  variable-alike : (v w : FieldVariable) → SameVariable v w → variable_begun v ≡ variable_begun w
  variable-alike v w h =
      ap₂ (λ x p. field_begun context (record { text = x; place = p }) v.initialiser) h.0 h.1
      ∙ begun-alike w.name v.initialiser w.initialiser h.2

  field-alike : (f g : FieldTree) → SameField f g
      → member_begun context (member.Field f) ≡ member_begun context (member.Field g)
  field-alike f g h =
      ap₂ (λ ms code. cond (has_word (codes "static") ms) [] code)
      (same_modifiers f.modifiers g.modifiers h.modifiers)
      (zip-flat SameVariable variable_begun variable_begun variable-alike f.variables g.variables h.variables)

  member-alike : (x y : Member) → SameMember x y → member_begun context x ≡ member_begun context y
  member-alike =
      by-form (λ x y. member_begun context x ≡ member_begun context y) field-alike (λ m n h. refl) (λ a b h. refl)
      (λ p q e. refl)

fields-alike : (context : Context) (xs ys : List Member) → AllZip SameMember xs ys
    → fields_begun context xs ≡ fields_begun context ys
fields-alike context xs ys h =
    let inside = outside_methods context in
    zip-flat SameMember (member_begun inside) (member_begun inside) (member-alike inside) xs ys h

-- ---- methods

abbrev declared_all : Context → List SeenParameter → Context
declared_all context [] = context
declared_all context (p ∷ ps) = declared_all (of_type context p.kind p.further p.name) ps

declared-all : (context : Context) (ps : List ParameterTree)
    → parameters_declared context ps ≡ declared_all context (map seen_parameter ps)
declared-all context [] = refl
declared-all context (p ∷ ps) = declared-all (of_type context (ty_of p.kind) (further_arrays p) p.name) ps

parameters-alike : (context : Context) (m n : MethodTree) → seen m ≡ seen n
    → parameters_declared context m.parameters ≡ parameters_declared context n.parameters
parameters-alike context m n e =
    declared-all context m.parameters ∙ ap (λ (s : Seen). declared_all context s.parameters) e
    ∙ sym (declared-all context n.parameters)

abbrev spelled : Bool → Trees → List ModifierTree → lowered.Stmts → Context → Trees
spelled constructs fields ms ss context =
    let body = locked context (has_word (codes "synchronized") ms) (block_code context ss) in
    cond constructs (fields ++ body) body

spelled-alike : (context : Context) (xs ys : List Member) → AllZip SameMember xs ys → (m n : MethodTree)
    → SameMethod m n → body_of m ≡ body_of n → spelled_code context xs m ≡ spelled_code context ys n
spelled-alike context xs ys h m n same body =
    same_4 (λ constructs fields ms ss. spelled constructs fields ms ss context) (constructor-alike m n same.0)
    (ap made (fields-alike context xs ys h)) (modifiers-alike m n same.0)
    body

large-alike : (context : Context) (m n : MethodTree) → SameMethod m n → is_large context m ≡ is_large context n
large-alike context m n k =
    ap₂ (λ (n : ℕ) ss. not (is_small n (in_sequence (block_code (none_analysed context) ss)))) k.3
    (same_body m n k.0 k.1)

code-alike : (context : Context) (s t : Source) → AllZip SameMember s.members t.members → (x y : Body) → SameBody x y
    → code_in context s x ≡ code_in context t y
code-alike context s t h Default Default k =
    ap (λ (c : Code). ended context (made c)) (fields-alike context s.members t.members h)
code-alike context s t h Default (Spelled n) k = absurd k
code-alike context s t h Default Unspelled k = absurd k
code-alike context s t h (Spelled m) Default k = absurd k
code-alike context s t h (Spelled m) (Spelled n) k =
    let inside = parameters_declared context n.parameters in
    ap (λ (c : Context). cond (is_large c m) [] (ended c (spelled_code c s.members m)))
    (parameters-alike context m n (same_seen m n k.0 k.1))
    ∙ ap₂ (λ (large : Bool) (code : Trees). cond large [] (ended inside code)) (large-alike inside m n k)
    (spelled-alike inside s.members t.members h m n k (same_body m n k.0 k.1))
code-alike context s t h (Spelled m) Unspelled k = absurd k
code-alike context s t h Unspelled Default k = absurd k
code-alike context s t h Unspelled (Spelled n) k = absurd k
code-alike context s t h Unspelled Unspelled k = refl

kinds-alike : (context : Context) (s t : Source) → s.info ≡ t.info → (x y : Body) → SameBody x y
    → kinds_in context s x ≡ kinds_in context t y
kinds-alike context s t e Default Default k = refl
kinds-alike context s t e Default (Spelled n) k = absurd k
kinds-alike context s t e Default Unspelled k = absurd k
kinds-alike context s t e (Spelled m) Default k = absurd k
kinds-alike context s t e (Spelled m) (Spelled n) k =
    ap₂ (λ inside ss. (after_all inside ss).kinds) (parameters-alike context m n (same_seen m n k.0 k.1))
    (same_body m n k.0 k.1)
kinds-alike context s t e (Spelled m) Unspelled k = absurd k
kinds-alike context s t e Unspelled Default k = absurd k
kinds-alike context s t e Unspelled (Spelled n) k = absurd k
kinds-alike context s t e Unspelled Unspelled k = ap (λ (i : MethodInfo). context.kinds ++ i.parameters) e

-- ---- where the code begins

abbrev result_by : Kind → view.Result → Result
result_by kind view.NoResult = Itself
result_by kind view.VoidResult = Nothing
result_by kind (view.TypeResult t) = Value kind

result-is : (kind : Kind) (r : ResultTree) → methods.result_of_tree kind r ≡ result_by kind (result_of r)
result-is kind result.Constructor = refl
result-is kind result.Void = refl
result-is kind (result.Of t) = refl

results-alike : (kind : Kind) (x y : Body) → SameBody x y → methods.result_of kind x ≡ methods.result_of kind y
results-alike kind Default Default k = refl
results-alike kind Default (Spelled n) k = absurd k
results-alike kind Default Unspelled k = absurd k
results-alike kind (Spelled m) Default k = absurd k
results-alike kind (Spelled m) (Spelled n) k =
    result-is kind m.result ∙ ap (λ (v : view.Method). result_by kind v.result) k.0 ∙ sym (result-is kind n.result)
results-alike kind (Spelled m) Unspelled k = absurd k
results-alike kind Unspelled Default k = absurd k
results-alike kind Unspelled (Spelled n) k = absurd k
results-alike kind Unspelled Unspelled k = refl

abbrev entered_by : Folder → MethodInfo → Result → Context
entered_by folder i r =
    record {
      folder = folder;
      place = i.place;
      result = r;
      given = i.result;
      scope = record { class = i.class; is_static = i.is_static; hidden = i.hidden; variables = [] };
      kinds = this_kinds i;
      exits = 0;
      labels = [];
      targets = [];
      guards = [];
      other_lock = false;
      is_apart = false;
    }

entered-alike : (folder : Folder) (s t : Source) → SameSource s t → entered folder s ≡ entered folder t
entered-alike folder s t same =
    ap (λ (i : MethodInfo). entered_by folder i (methods.result_of i.result s.body)) same.info
    ∙ ap (entered_by folder t.info) (results-alike t.info.result s.body t.body same.body)

pub method_code-alike : (folder : Folder) (s t : Source) → SameSource s t
    → method_code folder s ≡ method_code folder t
method_code-alike folder s t same =
    ap (λ context. code_in context s s.body) (entered-alike folder s t same)
    ∙ code-alike (entered folder t) s t same.members s.body t.body same.body

pub method_kinds-alike : (folder : Folder) (s t : Source) → SameSource s t
    → method_kinds folder s ≡ method_kinds folder t
method_kinds-alike folder s t same =
    ap (λ context. kinds_in context s s.body) (entered-alike folder s t same)
    ∙ kinds-alike (entered folder t) s t same.info s.body t.body same.body

pub unspelled-alike : (x y : Body) → SameBody x y → is_unspelled x ≡ is_unspelled y
unspelled-alike Default Default k = refl
unspelled-alike Default (Spelled n) k = absurd k
unspelled-alike Default Unspelled k = absurd k
unspelled-alike (Spelled m) Default k = absurd k
unspelled-alike (Spelled m) (Spelled n) k = refl
unspelled-alike (Spelled m) Unspelled k = absurd k
unspelled-alike Unspelled Default k = absurd k
unspelled-alike Unspelled (Spelled n) k = absurd k
unspelled-alike Unspelled Unspelled k = refl

end-alike : (context : Context) (x y : Body) → SameBody x y → end_of context x ≡ end_of context y
end-alike context Default Default k = refl
end-alike context Default (Spelled n) k = absurd k
end-alike context Default Unspelled k = absurd k
end-alike context (Spelled m) Default k = absurd k
end-alike context (Spelled m) (Spelled n) k =
    ap₂ after_all (parameters-alike context m n (same_seen m n k.0 k.1)) (same_body m n k.0 k.1)
end-alike context (Spelled m) Unspelled k = absurd k
end-alike context Unspelled Default k = absurd k
end-alike context Unspelled (Spelled n) k = absurd k
end-alike context Unspelled Unspelled k = refl

ends-alike : (folder : Folder) (s t : Source) → SameSource s t
    → end_of (entered folder s) s.body ≡ end_of (entered folder t) t.body
ends-alike folder s t same =
    ap (λ context. end_of context s.body) (entered-alike folder s t same)
    ∙ end-alike (entered folder t) s.body t.body same.body

pub outside-alike : (folder : Folder) (s t : Source) → SameSource s t → is_outside folder s ≡ is_outside folder t
outside-alike folder s t same =
    let e = ends-alike folder s t same in
    same_3 (λ a b c. a || b || c) (unspelled-alike s.body t.body same.body) (ap (λ (c : Context). c.other_lock) e)
    (ap (λ (c : Context). c.is_apart) e)

past-by : (context : Context) (x y : Body) → SameBody x y → is_past context x ≡ is_past context y
past-by context Default Default k = refl
past-by context Default (Spelled n) k = absurd k
past-by context Default Unspelled k = absurd k
past-by context (Spelled m) Default k = absurd k
past-by context (Spelled m) (Spelled n) k =
    ap (λ (c : Context). is_large c m) (parameters-alike context m n (same_seen m n k.0 k.1))
    ∙ large-alike (parameters_declared context n.parameters) m n k
past-by context (Spelled m) Unspelled k = absurd k
past-by context Unspelled Default k = absurd k
past-by context Unspelled (Spelled n) k = absurd k
past-by context Unspelled Unspelled k = refl

pub past-alike : (folder : Folder) (s t : Source) → SameSource s t → is_past_limit folder s ≡ is_past_limit folder t
past-alike folder s t same =
    ap (λ context. is_past context s.body) (entered-alike folder s t same)
    ∙ past-by (entered folder t) s.body t.body same.body
