-- The code of expressions and their kinds, of what the parts made.
use Rattle.std.proofs.Common.{◌≡◌, ℕ, suc, Bool, true, false, cond, List, [], ◌++◌, Option, Some, None, length, map}
use Rattle.std.proofs.Common.{refl, sym, ap, ◌∙◌, append_assoc}
use Rattle.std.proofs.lemmas.List.{length-map, append-nil}
use Rattle.racer_base.specs.declared.ids.ClassId.{ClassId}
use Rattle.racer_base.specs.declared.ids.Kind.{Kind}
use Rattle.racer_base.specs.declared.ids.Kind.TheVariants.{Plain}
use Rattle.racer_base.specs.declared.ids.MethodId.{MethodId}
use Rattle.racer_base.specs.declared.ids.Place.{Place}
use Rattle.java_tree.specs.Trees.{Ty}
use Rattle.java_tree.specs.declared.expressions.Expression.{Expression}
use Rattle.java_tree.specs.declared.expressions.Initialiser.{Initialiser}
use Rattle.java_tree.specs.declared.words.Ident.{Ident}
use Rattle.java_resolver.specs.Meanings.{field_named}
use Rattle.core_code.specs.declared.code.Op.TheVariants.{Prim, Drop, Outside}
use Rattle.core_lowering_rules.specs.Trees.{Expr, Access, Selected, Unary, Count, Logical, Binary, Conditional}
use Rattle.core_lowering_rules.specs.Trees.{Assign, Combine, CallOn, New}
use Rattle.core_lowering_rules.specs.Trees.{NewBody, NewArray, NewItems}
use Rattle.core_lowering_rules.specs.Trees.{Exprs, pack_exprs, pack_inits, count_exprs, count_inits}
use Rattle.core_lowering_rules.specs.TreesOf.{expr_of, init_of, access_of, is_assignment, assignment, is_logical}
use Rattle.core_lowering_rules.specs.TreesOf.{binary}
use Rattle.core_lowering_rules.specs.TreesOf.{is_count, prefix}
use Rattle.core_lowering_rules.specs.ValueKinds.{ValueKind, Of}
use Rattle.core_lowering_rules.specs.Context.{Context, Code, op, op_at, choice, type_kind}
use Rattle.core_lowering_rules.specs.Assignments.{Storage, read, counted, selected, of_class, of_value}
use Rattle.core_lowering_rules.specs.Calls.{own_callee, callee_on, callee_of_value, result_kind, called_on}
use Rattle.core_lowering_rules.specs.Touches.{touched_in, touch, container_in}
use Rattle.core_lowering_rules.specs.Expressions.{code, kind, access_kind, storage, stored, passed, items_code}
use Rattle.core_lowering_rules.specs.Expressions.{class_before}
use Rattle.core_lowering_rules.specs.Statements.{run, gone_over}
use Rattle.core_lowering_touches.specs.declared.touches.Touched.{Touched}
use Rattle.core_lowering_touches.specs.Touching.{fetched}
use Rattle.core_lowering_expressions.specs.declared.storage.Storage.{Storage as CodeStorage}
use Rattle.core_lowering_expressions.specs.declared.calls.Callee.{Callee as CodeCallee}
use Rattle.core_lowering_expressions.specs.declared.calls.Target.{Target}
use Rattle.core_lowering_expressions.specs.declared.calls.Target.TheVariants as target
use Rattle.core_lowering_context.specs.declared.value_kind.ValueKind.{ValueKind as CodeKind}
use Rattle.core_lowering_context.specs.Views.{value_kind}
use Rattle.core_lowering_expressions.specs.Parts.{base_of, without_base, storage_kind, then_read, then_fetched}
use Rattle.core_lowering_expressions.specs.Parts.{then_counted}
use Rattle.core_lowering_expressions.specs.Parts.{callee_seen, passed_kinds, call_front, call_end, value_call_front}
use Rattle.core_lowering_expressions.specs.Parts.{value_call_end, class_callee, class_call, class_call_kind}
use Rattle.core_lowering_expressions.specs.Parts.{maker_of, made_front, made_kinds, made_end}
use Rattle.core_lowering_expressions.specs.Together.{assign_front, assign_end, operator_front, operator_end}
use Rattle.core_lowering_expressions.specs.Together.{target_callee, touching_call}
use Rattle.core_lowering_expressions.specs.Together.{target_front, target_end, target_call, target_kind, called_behind}
use Rattle.core_lowering_expressions.proofs.AccessParts.{read-parts, assigned-parts, combined-parts, counted-parts}
use Rattle.core_lowering_expressions.proofs.AccessParts.{kind-stored, value-behind, value-same}
use Rattle.core_lowering_expressions.proofs.CallParts.{called-parts, value-called-parts, made-parts, count-packed}
use Rattle.core_lowering_expressions.proofs.CallParts.{count-packed-inits}
use Rattle.core_lowering_expressions.specs.Containers.{is_access, touched_by, then_looked_over}
use Rattle.core_lowering_expressions.proofs.TouchParts.{is-read, class-untouched, untouched-parts}
use Rattle.core_lowering_expressions.proofs.TouchParts.{either_call, touching-parts, over, over-parts}
use Rattle.core_lowering_expressions.proofs.Joined.{two, three}

-- ---- accesses

pub read-made : (context : Context) (s : Storage) (t : CodeStorage) (old one new : Code) → one ≡ old ++ base_of s →
    t ≡ without_base s → new ≡ one ++ then_read context t → new ≡ old ++ read context s
read-made context s t old one new p same q =
    two old one new (base_of s) (then_read context (without_base s)) p (q ∙ ap (λ u. one ++ then_read context u) same)
    ∙ ap (λ x. old ++ x) (sym (read-parts context s))

assign-parts : (context : Context) (c : Bool) (a : Access) (b : Expr) →
    code context (cond c (Assign a b) (Combine a b))
    ≡ base_of (storage context a)
    ++ (assign_front context c (without_base (storage context a))
    ++ (code context b ++ assign_end context c (without_base (storage context a)) (kind context b)))
assign-parts context true a b = assigned-parts context (storage context a) (kind context b) (code context b)
assign-parts context false a b = combined-parts context (storage context a) (code context b)

pub assign-made : (context : Context) (op : List ℕ) (a : Access) (b : Expr) (t : CodeStorage) (given : ValueKind)
    (old one second third new : Code) →
    one ≡ old ++ base_of (storage context a) → t ≡ without_base (storage context a) →
    second ≡ one ++ assign_front context (is_assignment op) t → third ≡ second ++ code context b →
    given ≡ kind context b → new ≡ third ++ assign_end context (is_assignment op) t given →
    new ≡ old ++ code context (assignment op a b)
assign-made context op a b t given old one second third new p same q r kinds u =
    let c = is_assignment op in
    let s = without_base (storage context a) in
    let end = assign_end context c s (kind context b) in
    let last : new ≡ third ++ end =
    u ∙ ap (λ v. third ++ assign_end context c v given) same ∙ ap (λ g. third ++ assign_end context c s g) kinds in
    let fetched : second ≡ one ++ assign_front context c s = q ∙ ap (λ v. one ++ assign_front context c v) same in
    two old one new (base_of (storage context a)) (assign_front context c s ++ (code context b ++ end)) p
    (two one second new (assign_front context c s) (code context b ++ end) fetched
    (two second third new (code context b) end r last))
    ∙ ap (λ x. old ++ x) (sym (assign-parts context c a b))

pub assign-kind : (context : Context) (c : Bool) (a : Access) (b : Expr) →
    access_kind context a ≡ kind context (cond c (Assign a b) (Combine a b))
assign-kind context true a b = refl
assign-kind context false a b = refl

pub counted-made : (context : Context) (s : Storage) (t : CodeStorage) (old one new : Code) → one ≡ old ++ base_of s →
    t ≡ without_base s → new ≡ one ++ (then_fetched context t ++ then_counted context t) →
    new ≡ old ++ counted context s
counted-made context s t old one new p same q =
    two old one new (base_of s) (then_fetched context (without_base s) ++ then_counted context (without_base s)) p
    (q ∙ ap (λ u. one ++ (then_fetched context u ++ then_counted context u)) same)
    ∙ ap (λ x. old ++ x) (sym (counted-parts context s))

pub kind-made : (context : Context) (a : Access) (t : CodeStorage) (k : ValueKind) →
    t ≡ without_base (storage context a) →
    k ≡ storage_kind t → k ≡ access_kind context a
kind-made context a t k same is = is ∙ ap storage_kind same ∙ sym (kind-stored context a)

-- ---- prefix operators

pub prefix-code : (context : Context) (op : List ℕ) (a : Expr) (b : Bool) → is_count op ≡ b →
    code context (cond b (Count (access_of a)) (Unary a)) ≡ code context (prefix op a)
prefix-code context op a b is = ap (λ t. code context (cond t (Count (access_of a)) (Unary a))) (sym is)

pub prefix-kind : (context : Context) (c : Bool) (a : Expr) →
    Of Plain ≡ kind context (cond c (Count (access_of a)) (Unary a))
prefix-kind context true a = refl
prefix-kind context false a = refl

-- ---- e.x

pub class-selected : (context : Context) (e : Expr) (x : Ident) (c : ClassId) → Some c ≡ class_before context e →
    of_class context c x (field_named context.folder.fields c true x.text) ≡ storage context (Selected e x)
class-selected context e x c is = ap (λ o. selected context o (kind context e) (code context e) x) is

value-selected : (context : Context) (e : Expr) (x : Ident) → None ≡ class_before context e →
    of_value context (kind context e) (code context e) x ≡ storage context (Selected e x)
value-selected context e x is = ap (λ o. selected context o (kind context e) (code context e) x) is

pub selected-made : (context : Context) (e : Expr) (x : Ident) (k : ValueKind) (old one new : Code) →
    None ≡ class_before context e → one ≡ old ++ code context e → k ≡ kind context e →
    new ≡ one ++ base_of (of_value context k [] x) → new ≡ old ++ base_of (storage context (Selected e x))
selected-made context e x k old one new is p kinds q =
    two old one new (code context e) (base_of (of_value context (kind context e) [] x)) p
    (q ∙ ap (λ g. one ++ base_of (of_value context g [] x)) kinds)
    ∙ ap (λ y. old ++ y) (sym (value-behind context (kind context e) (code context e) x))
    ∙ ap (λ s. old ++ base_of s) (value-selected context e x is)

pub selected-same : (context : Context) (e : Expr) (x : Ident) (k : ValueKind) (t : CodeStorage) →
    None ≡ class_before context e → k ≡ kind context e → t ≡ without_base (of_value context k [] x) →
    t ≡ without_base (storage context (Selected e x))
selected-same context e x k t is kinds same =
    same ∙ ap (λ g. without_base (of_value context g [] x)) kinds
    ∙ sym (value-same context (kind context e) (code context e) x) ∙ ap without_base (value-selected context e x is)

-- ---- choices

operator-parts : (context : Context) (c : Bool) (a b : Expr) →
    code context (cond c (Logical a b) (Binary a b))
    ≡ code context a ++ operator_front context c ++ operator_end context c (code context b)
operator-parts context true a b = refl
operator-parts context false a b =
    append_assoc (code context a) (code context b) (op context (Prim 2))
    ∙ sym (ap (λ x. x ++ (code context b ++ op context (Prim 2))) (append-nil (code context a)))

pub operator-made : (context : Context) (o : List ℕ) (a b : Expr) (old one second third new : Code) (at : ℕ) →
    one ≡ old ++ code context a → second ≡ one ++ operator_front context (is_logical o) → at ≡ length second →
    third ≡ second ++ code context b →
    ((left right : Code) → at ≡ length left → third ≡ left ++ right →
    new ≡ left ++ operator_end context (is_logical o) right) →
    new ≡ old ++ code context (binary o a b)
operator-made context o a b old one second third new at p q here r ends =
    three old one second new (code context a) (operator_front context (is_logical o))
    (operator_end context (is_logical o) (code context b)) p q (ends second (code context b) here r)
    ∙ ap (λ x. old ++ x) (sym (operator-parts context (is_logical o) a b))

pub operator-kind : (context : Context) (c : Bool) (a b : Expr) →
    Of Plain ≡ kind context (cond c (Logical a b) (Binary a b))
operator-kind context true a b = refl
operator-kind context false a b = refl

pub conditional-made : (context : Context) (c a b : Expr) (old one second third fourth new : Code) (l r : ℕ) →
    one ≡ old ++ code context c → second ≡ one ++ op context Drop → l ≡ length second →
    third ≡ second ++ code context a → r ≡ length third → fourth ≡ third ++ code context b →
    ((start left right : Code) → l ≡ length start → r ≡ length (start ++ left) → fourth ≡ start ++ left ++ right →
    new ≡ start ++ choice left right) →
    new ≡ old ++ code context (Conditional c a b)
conditional-made context c a b old one second third fourth new l r p q at_left u at_right v ends =
    three old one second new (code context c) (op context Drop) (choice (code context a) (code context b)) p q
    (ends second (code context a) (code context b) at_left (at_right ∙ ap (λ x. length x) u)
    (v ∙ ap (λ x. x ++ code context b) u))

-- ---- calls

pub counts : (all : List Expression) → length all ≡ count_exprs (pack_exprs (map expr_of all))
counts all = sym (count-packed (map expr_of all) ∙ length-map all expr_of)

pub counts-inits : (all : List Initialiser) → length all ≡ count_inits (pack_inits (map init_of all))
counts-inits all = sym (count-packed-inits (map init_of all) ∙ length-map all init_of)

target-parts : (context : Context) (t : Target) (x : Ident) (es : Exprs) →
    target_front context t (target_callee context t x (count_exprs es))
    ++ passed context (passed_kinds context (target_callee context t x (count_exprs es)) (count_exprs es)) es
    ++ target_end context t x.place (count_exprs es) (target_callee context t x (count_exprs es))
    ≡ target_call context t x es
target-parts context target.Own x es =
    let m = own_callee context x (count_exprs es) in
    append_assoc (call_front context m) (passed context (passed_kinds context m (count_exprs es)) es)
    (call_end context x.place (count_exprs es) m)
    ∙ sym (called-parts context x.place (count_exprs es) (λ kinds. passed context kinds es) m)
target-parts context (target.Class c) x es =
    let m = class_callee context c x es in
    append_assoc (call_front context m) (passed context (passed_kinds context m (count_exprs es)) es)
    (call_end context x.place (count_exprs es) m)
    ∙ sym (called-parts context x.place (count_exprs es) (λ kinds. passed context kinds es) m)
target-parts context (target.Value k) x es =
    let m = callee_of_value context (value_kind k) x (count_exprs es) in
    append_assoc (value_call_front context m) (passed context (passed_kinds context m (count_exprs es)) es)
    (value_call_end context x.place (count_exprs es) m)

pub call-made : (context : Context) (t : Target) (x : Ident) (callee : CodeCallee) (all : List Expression)
    (kinds : List Kind) (k : ℕ) (old one second new : Code) →
    k ≡ length all → callee_seen callee ≡ target_callee context t x k →
    one ≡ old ++ target_front context t (callee_seen callee) → kinds ≡ passed_kinds context (callee_seen callee) k →
    second ≡ one ++ passed context kinds (pack_exprs (map expr_of all)) →
    new ≡ second ++ target_end context t x.place k (callee_seen callee) →
    new ≡ old ++ target_call context t x (pack_exprs (map expr_of all))
call-made context t x callee all kinds k old one second new many is p same q r =
    let es = pack_exprs (map expr_of all) in
    let n = count_exprs es in
    let m = target_callee context t x n in
    let here : callee_seen callee ≡ m = is ∙ ap (target_callee context t x) (many ∙ counts all) in
    three old one second new (target_front context t m) (passed context (passed_kinds context m n) es)
    (target_end context t x.place n m) (p ∙ ap (λ c. old ++ target_front context t c) here)
    (q ∙ ap (λ ks. one ++ passed context ks es)
    (same ∙ ap (λ j. passed_kinds context (callee_seen callee) j) (many ∙ counts all)
    ∙ ap (λ c. passed_kinds context c n) here))
    (r ∙ ap (λ j. second ++ target_end context t x.place j (callee_seen callee)) (many ∙ counts all)
    ∙ ap (λ c. second ++ target_end context t x.place n c) here)
    ∙ ap (λ y. old ++ y) (target-parts context t x es)

pub call-kind : (context : Context) (t : Target) (x : Ident) (callee : CodeCallee) (all : List Expression) (n : ℕ)
    (k : ValueKind) → n ≡ length all → callee_seen callee ≡ target_callee context t x n →
    k ≡ result_kind context (callee_seen callee) → k ≡ target_kind context t x (pack_exprs (map expr_of all))
call-kind context t x callee all n k many is kinds =
    kinds ∙ ap (result_kind context) (is ∙ ap (target_callee context t x) (many ∙ counts all))

-- where nothing is touched
untouched-call : (context : Context) (e : Expr) (x : Ident) (es : Exprs) →
    None ≡ touched_in context (stored context e) x (count_exprs es) →
    called_on context x.place (class_before context e) (code context e) (count_exprs es)
    (λ kinds. passed context kinds es) (callee_on context (class_before context e) (kind context e) x (count_exprs es))
    ≡ code context (CallOn e x es)
untouched-call context e x es is =
    let n = count_exprs es in
    ap (either_call context x.place n (passed context [] es) (called_on context x.place (class_before context e)
    (code context e) n (λ kinds. passed context kinds es) (callee_on context (class_before context e) (kind context e)
    x n))) is

pub on-class : (context : Context) (e : Expr) (x : Ident) (es : Exprs) (c : ClassId) → Some c ≡ class_before context e →
    class_call context c x es ≡ code context (CallOn e x es)
on-class context e x es c is =
    ap (λ o. called_on context x.place o (code context e) (count_exprs es) (λ kinds. passed context kinds es)
    (callee_on context o (kind context e) x (count_exprs es))) is
    ∙ untouched-call context e x es (class-untouched context e x (count_exprs es) c is)

pub on-class-kind : (context : Context) (e : Expr) (x : Ident) (es : Exprs) (c : ClassId) →
    Some c ≡ class_before context e → class_call_kind context c x es ≡ kind context (CallOn e x es)
on-class-kind context e x es c is =
    ap (λ o. result_kind context (callee_on context o (kind context e) x (count_exprs es))) is

pub on-object : (context : Context) (e : Expr) (x : Ident) (es : Exprs) (given : CodeKind) (old one new : Code) →
    None ≡ class_before context e → None ≡ touched_in context (stored context e) x (count_exprs es) →
    one ≡ old ++ code context e → value_kind given ≡ kind context e →
    new ≡ one ++ target_call context (target.Value given) x es → new ≡ old ++ code context (CallOn e x es)
on-object context e x es given old one new is untouched p kinds q =
    let n = count_exprs es in
    let m = callee_of_value context (kind context e) x n in
    two old one new (code context e) (called_behind context x.place m es) p
    (q ∙ ap (λ g. one ++ called_behind context x.place (callee_of_value context g x n) es) kinds)
    ∙ ap (λ y. old ++ y) (sym (value-called-parts context x.place (code context e) n (λ ks. passed context ks es) m))
    ∙ ap (λ o. old ++ called_on context x.place o (code context e) n (λ ks. passed context ks es)
    (callee_on context o (kind context e) x n)) is
    ∙ ap (λ y. old ++ y) (untouched-call context e x es untouched)

pub on-object-kind : (context : Context) (e : Expr) (x : Ident) (es : Exprs) (given : CodeKind) →
    None ≡ class_before context e → value_kind given ≡ kind context e →
    target_kind context (target.Value given) x es ≡ kind context (CallOn e x es)
on-object-kind context e x es given is kinds =
    ap (λ g. result_kind context (callee_of_value context g x (count_exprs es))) kinds
    ∙ ap (λ o. result_kind context (callee_on context o (kind context e) x (count_exprs es))) is

-- ---- calls on what is written as an access

module _ (context : Context) (e : Expr) (x : Ident) (all : List Expression) (t : CodeStorage) (n : ℕ)
    (formed : is_access e ≡ true) (many : n ≡ length all)
    (same : t ≡ without_base (storage context (access_of e))) where
  touches-same : touched_by context t x n
      ≡ touched_by context (without_base (storage context (access_of e))) x (count_exprs (pack_exprs (map expr_of all)))
  touches-same =
      ap (λ s. touched_by context s x n) same
      ∙ ap (touched_by context (without_base (storage context (access_of e))) x) (many ∙ counts all)

  stored-kind : (given : CodeKind) → value_kind given ≡ storage_kind t → value_kind given ≡ kind context e
  stored-kind given kinds =
      kind-made context (access_of e) t (value_kind given) same kinds ∙ ap (kind context) (sym (is-read e formed))

  pub on-container : (found : Touched) (old one new : Code) → one ≡ old ++ base_of (storage context (access_of e)) →
      Some found ≡ touched_by context t x n →
      new ≡ one ++ touching_call context x.place found (pack_exprs (map expr_of all)) →
      new ≡ old ++ code context (CallOn e x (pack_exprs (map expr_of all)))
  on-container found old one new p is q =
      let es = pack_exprs (map expr_of all) in
      let k = count_exprs es in
      let s = storage context (access_of e) in
      let other = called_on context x.place (class_before context e) (code context e) k (λ ks. passed context ks es)
      (callee_on context (class_before context e) (kind context e) x k) in
      two old one new (base_of s) (touching_call context x.place found es) p q
      ∙ ap (λ y. old ++ y) (sym (touching-parts context x.place k (passed context [] es) other s x found
      (is ∙ touches-same)))
      ∙ ap (λ (y : Expr). old ++ either_call context x.place k (passed context [] es) other
      (touched_in context (stored context y) x k)) (sym (is-read e formed))

  pub on-access : (given : CodeKind) (old one second new : Code) → None ≡ class_before context e →
      one ≡ old ++ base_of (storage context (access_of e)) → None ≡ touched_by context t x n →
      second ≡ one ++ then_read context t → value_kind given ≡ storage_kind t →
      new ≡ second ++ target_call context (target.Value given) x (pack_exprs (map expr_of all)) →
      new ≡ old ++ code context (CallOn e x (pack_exprs (map expr_of all)))
  on-access given old one second new none p is q kinds r =
      let es = pack_exprs (map expr_of all) in
      on-object context e x es given old second new none
      (untouched-parts context (storage context (access_of e)) x (count_exprs es) (is ∙ touches-same)
      ∙ ap (λ (y : Expr). touched_in context (stored context y) x (count_exprs es)) (sym (is-read e formed)))
      (read-made context (storage context (access_of e)) t old one second p same q
      ∙ ap (λ (y : Expr). old ++ code context y) (sym (is-read e formed)))
      (stored-kind given kinds) r

  pub on-access-kind : (given : CodeKind) → None ≡ class_before context e → value_kind given ≡ storage_kind t →
      target_kind context (target.Value given) x (pack_exprs (map expr_of all))
      ≡ kind context (CallOn e x (pack_exprs (map expr_of all)))
  on-access-kind given none kinds =
      on-object-kind context e x (pack_exprs (map expr_of all)) given none (stored-kind given kinds)

  pub on-container-kind : (given : CodeKind) → None ≡ class_before context e → value_kind given ≡ storage_kind t →
      result_kind context (target_callee context (target.Value given) x n)
      ≡ kind context (CallOn e x (pack_exprs (map expr_of all)))
  on-container-kind given none kinds =
      ap (λ j. result_kind context (target_callee context (target.Value given) x j)) (many ∙ counts all)
      ∙ on-access-kind given none kinds

pub touching-made : (context : Context) (place : Place) (t : Touched) (all : List Expression) (n : ℕ)
    (old one second new : Code) → n ≡ length all → one ≡ old ++ fetched context t →
    second ≡ one ++ passed context [] (pack_exprs (map expr_of all)) →
    new ≡ second ++ op context (Outside (suc n)) ++ touch context place t.content t.touch →
    new ≡ old ++ touching_call context place t (pack_exprs (map expr_of all))
touching-made context place t all n old one second new many p q r =
    let es = pack_exprs (map expr_of all) in
    let last = touch context place t.content t.touch in
    let end = op context (Outside (suc (count_exprs es))) ++ last in
    two old one new (fetched context t) (passed context [] es ++ end) p
    (two one second new (passed context [] es) end q
    (r ∙ append_assoc second (op context (Outside (suc n))) last
    ∙ ap (λ j. second ++ (op context (Outside (suc j)) ++ last)) (many ∙ counts all)))

-- ---- what a `for` goes over

pub access-over : (context : Context) (e : Expr) (t : CodeStorage) (old one second new : Code) → is_access e ≡ true →
    one ≡ old ++ base_of (storage context (access_of e)) → t ≡ without_base (storage context (access_of e)) →
    second ≡ one ++ then_looked_over context t → new ≡ second ++ op context Drop → new ≡ old ++ gone_over context e
access-over context e t old one second new formed p same q r =
    let s = storage context (access_of e) in
    two old one new (base_of s) (then_looked_over context (without_base s) ++ op context Drop) p
    (two one second new (then_looked_over context (without_base s)) (op context Drop)
    (q ∙ ap (λ u. one ++ then_looked_over context u) same) r)
    ∙ ap (λ y. old ++ y) (sym (over-parts context s))
    ∙ ap (λ (y : Expr). old ++ over context (run context y) (container_in context (stored context y)))
    (sym (is-read e formed))

-- ---- object creations

pub new-made : (context : Context) (place : Place) (t : Ty) (maker : Option (ClassId × MethodId))
    (all : List Expression) (kinds : List Kind) (n m : ℕ) (old one second new : Code) → n ≡ length all →
    m ≡ length all → maker ≡ maker_of context (type_kind context t) n →
    one ≡ old ++ made_front place (maker_of context (type_kind context t) n) → kinds ≡ made_kinds context maker n →
    second ≡ one ++ passed context kinds (pack_exprs (map expr_of all)) →
    new ≡ second ++ made_end context place m maker →
    new ≡ old ++ code context (New place t (pack_exprs (map expr_of all)))
new-made context place t maker all kinds n m old one second new many again is p same q r =
    let es = pack_exprs (map expr_of all) in
    let k = count_exprs es in
    let o = maker_of context (type_kind context t) k in
    let here : maker ≡ o = is ∙ ap (maker_of context (type_kind context t)) (many ∙ counts all) in
    three old one second new (made_front place o) (passed context (made_kinds context o k) es)
    (made_end context place k o)
    (p ∙ ap (λ j. old ++ made_front place (maker_of context (type_kind context t) j)) (many ∙ counts all))
    (q ∙ ap (λ ks. one ++ passed context ks es)
    (same ∙ ap (λ j. made_kinds context maker j) (many ∙ counts all) ∙ ap (λ c. made_kinds context c k) here))
    (r ∙ ap (λ j. second ++ made_end context place j maker) (again ∙ counts all)
    ∙ ap (λ j. second ++ made_end context place k j) here)
    ∙ ap (λ y. old ++ y) (append_assoc (made_front place o) (passed context (made_kinds context o k) es)
    (made_end context place k o))
    ∙ ap (λ y. old ++ y) (sym (made-parts context place (type_kind context t) k (λ kinds. passed context kinds es)))

pub lengths-made : (context : Context) (place : Place) (all : List Expression) (n : ℕ) (old one new : Code) →
    n ≡ length all → one ≡ old ++ passed context [] (pack_exprs (map expr_of all)) →
    new ≡ one ++ op_at place (Outside n) → new ≡ old ++ code context (NewArray place (pack_exprs (map expr_of all)))
lengths-made context place all n old one new many p q =
    let es = pack_exprs (map expr_of all) in
    two old one new (passed context [] es) (op_at place (Outside (count_exprs es))) p
    (q ∙ ap (λ k. one ++ op_at place (Outside k)) (many ∙ counts all))

pub body-made : (context : Context) (place : Place) (t : Ty) (all : List Expression) (n : ℕ) (old one new : Code) →
    n ≡ length all → one ≡ old ++ passed context [] (pack_exprs (map expr_of all)) →
    new ≡ one ++ op_at place (Outside n) → new ≡ old ++ code context (NewBody place t (pack_exprs (map expr_of all)))
body-made context place t all n old one new many p q =
    let es = pack_exprs (map expr_of all) in
    two old one new (passed context [] es) (op_at place (Outside (count_exprs es))) p
    (q ∙ ap (λ k. one ++ op_at place (Outside k)) (many ∙ counts all))

pub items-made : (context : Context) (place : Place) (all : List Initialiser) (n : ℕ) (old one new : Code) →
    n ≡ length all → one ≡ old ++ items_code context (pack_inits (map init_of all)) →
    new ≡ one ++ op_at place (Outside n) → new ≡ old ++ code context (NewItems place (pack_inits (map init_of all)))
items-made context place all n old one new many p q =
    let is = pack_inits (map init_of all) in
    two old one new (items_code context is) (op_at place (Outside (count_inits is))) p
    (q ∙ ap (λ k. one ++ op_at place (Outside k)) (many ∙ counts-inits all))
