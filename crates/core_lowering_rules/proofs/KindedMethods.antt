-- Lowered methods are kinded, whatever is in them.
use Rattle.std.proofs.Common.{◌≡◌, ℕ, Bool, true, false, cond, List, [], ◌∷◌, ◌++◌, Option, Some, None, map}
use Rattle.std.proofs.Common.{refl}
use Rattle.std.proofs.Common.{subst, sym, ap, ◌∙◌, append_assoc, append-nil, slice_get, is_some}
use Rattle.std.specs.Prelude.{codes}
use Rattle.std.specs.List.{flat_map}
use Rattle.std.proofs.lemmas.Bool.{and_from}
use Rattle.racer_base.specs.declared.ids.Kind.{Kind}
use Rattle.racer_base.specs.declared.ids.Kind.TheVariants as types
use Rattle.java_tree.specs.declared.words.Ident.{Ident}
use Rattle.java_tree.specs.declared.methods.FieldInitialiser.{FieldInitialiser}
use Rattle.java_tree.specs.declared.methods.FieldInitialiser.TheVariants as field
use Rattle.java_tree.specs.declared.methods.FieldVariable.{FieldVariable}
use Rattle.java_tree.specs.declared.methods.MethodTree.{MethodTree}
use Rattle.java_tree.specs.declared.methods.ParameterTree.{ParameterTree}
use Rattle.java_tree.specs.declared.methods.ResultTree.{ResultTree}
use Rattle.java_tree.specs.declared.methods.ResultTree.TheVariants as result
use Rattle.java_tree.specs.View.{ty_of}
use Rattle.java_tree.specs.declared.unit.Member.{Member}
use Rattle.java_tree.specs.declared.unit.Member.TheVariants as member
use Rattle.java_resolver.specs.declared.infos.MethodInfo.{MethodInfo}
use Rattle.java_resolver.specs.Declarations.{class_names, kinds_of, further_arrays, is_constructor}
use Rattle.java_resolver.specs.Words.{has_word}
use Rattle.core_code.specs.declared.code.LockKind.TheVariants.{Own}
use Rattle.core_code.specs.declared.code.Op.TheVariants.{PushClass, PushPrim, Drop}
use Rattle.core_code.specs.declared.code.Reason.{Reason}
use Rattle.core_code.specs.Tree.{Tree, Sync, LockAt, can_end, in_sequence}
use Rattle.core_code.specs.Core.{Core, Method}
use Rattle.core_code.specs.Kinds.{StackKind, Plain, Declared, Class, Opaque, joined_stack}
use Rattle.core_code.specs.KindCheck.{Kinds, and_then, where_true, kinds_after, same_stack, same_declared_kind}
use Rattle.core_code.specs.KindCheck.{begins_with}
use Rattle.core_code.specs.KindCheck.{is_kinded, variable_at}
use Rattle.core_code.specs.Calls.{taken_by}
use Rattle.core_code.proofs.KindLemmas.{class_same}
use Rattle.core_lowering_rules.specs.TreesOf.{init_of}
use Rattle.core_lowering_rules.specs.ValueKinds.{ValueKind, Of}
use Rattle.core_lowering_rules.specs.ValueKinds as value
use Rattle.core_lowering_rules.specs.Context.{Folder, Context, Guard, Itself, Code, op, push_this, push_own_class}
use Rattle.core_lowering_rules.specs.Context.{push_owner, variable_kind_in, made as made_code}
use Rattle.core_lowering_rules.specs.Assignments.{of_name, kind_in}
use Rattle.core_lowering_rules.specs.Expressions.{init_kind, init_code}
use Rattle.core_lowering_rules.specs.Scopes.{of_type, after_all, after_return}
use Rattle.core_lowering_rules.specs.Statements.{returned, closed, stmts}
use Rattle.core_lowering_rules.specs.Methods.{Body, Default, Spelled, Unspelled, Source, result_of_tree, result_of}
use Rattle.core_lowering_rules.specs.Methods.{this_kinds, entered, outside_methods}
use Rattle.core_lowering_rules.specs.Methods.{parameters_declared, unread, field_begun, member_begun, fields_begun}
use Rattle.core_lowering_rules.specs.Methods.{body_of, is_large}
use Rattle.core_lowering_rules.specs.Methods.{locked, ended, spelled_code, method_code}
use Rattle.core_lowering_rules.specs.Programs.{method_core}
use Rattle.core_lowering_drafts.specs.Drafts.{in_order}
use Rattle.core_lowering_drafts.specs.Only.{Code as Trees, all_ends}
use Rattle.core_lowering_drafts.proofs.Steady.{steady-alone}
use Rattle.core_lowering_rules.proofs.Runs.{Runs, TreesRun, whole, no_trees, trees_followed, trees_locked, followed}
use Rattle.core_lowering_rules.proofs.Runs.{once}
use Rattle.core_lowering_rules.proofs.Runs.{outside}
use Rattle.core_lowering_rules.proofs.Runs as runs
use Rattle.core_lowering_rules.proofs.NumberedTrees.{SiteFact, same-numbered}
use Rattle.core_lowering_rules.proofs.Stands.{Stands, FolderStands, IsResult}
use Rattle.core_lowering_rules.proofs.KindedAccesses.{Leaves, pushes, assigned-leaves, is-named}
use Rattle.core_lowering_rules.proofs.KindedExpressions.{init-leaves}
use Rattle.core_lowering_rules.proofs.GrownScopes.{grows-after_all, grows-parameters, HasKinds, has-earlier}
use Rattle.core_lowering_rules.proofs.GrownScopes.{parameters-stand}
use Rattle.core_lowering_rules.proofs.ScopeSteps.{return_in}
use Rattle.core_lowering_rules.proofs.KindedDrafts.{Keeps, made-runs, keeps-nothing, keeps-both, keeps-value}
use Rattle.core_lowering_rules.proofs.KindedStatements.{returned-keeps, block-keeps}

-- ---- parameters

abbrev kind_there : Context → ParameterTree → Kind
kind_there context p = (variable_kind_in context (ty_of p.kind) (further_arrays p)).kind

kinds-parameters : (context : Context) (ps : List ParameterTree) →
    (parameters_declared context ps).kinds ≡ context.kinds ++ map (kind_there context) ps
kinds-parameters context [] = sym (append-nil context.kinds)
kinds-parameters context (p ∷ ps) =
    kinds-parameters (of_type context (ty_of p.kind) (further_arrays p) p.name) ps
    ∙ append_assoc context.kinds (kind_there context p ∷ []) (map (kind_there context) ps)

pub guards-parameters : (context : Context) (ps : List ParameterTree) →
    (parameters_declared context ps).guards ≡ context.guards
guards-parameters context [] = refl
guards-parameters context (p ∷ ps) =
    guards-parameters (of_type context (ty_of p.kind) (further_arrays p) p.name) ps

module _ (core : Core) (m : Method) where
  -- ---- fields

  dropped : (context : Context) {code : Code} {kind : ValueKind} → Leaves core m code kind →
      Keeps core m (code ++ op context Drop)
  dropped context l =
      let value = l.leaves [] in
      keeps-value core m
      (followed core m value.2 (once core m context.place Drop (value.0 ∷ []) [] [] refl refl refl refl))

  unread-leaves : (context : Context) (k : ValueKind) → Leaves core m (unread context k) (Of types.Other)
  unread-leaves context value.Null = record {
    leaves = λ stack.
        (Opaque, tt, outside core m context.place [] stack 0 refl);
  }
  unread-leaves context (Of types.Plain) =
      record {
        leaves = λ stack. (
          Plain,
          tt,
          once core m context.place PushPrim []
              (Plain ∷ []) stack refl refl refl refl,
        );
      }
  unread-leaves context (Of (types.Declared c)) =
      record { leaves = λ stack. (Opaque, tt, outside core m context.place [] stack 0 refl) }
  unread-leaves context (Of types.Other) =
      record { leaves = λ stack. (Opaque, tt, outside core m context.place [] stack 0 refl) }

  field-keeps : (context : Context) → Stands core m context → (x : Ident) (i : FieldInitialiser) →
      Keeps core m (field_begun context x i)
  field-keeps context s x field.Absent = keeps-nothing core m
  field-keeps context s x (field.Formed i) =
      dropped context
      (assigned-leaves core m context s (of_name context x) (is-named core m context s x)
      (init_kind context (init_of i))
      (init_code context (init_of i)) (init-leaves core m context s (init_of i)))
  field-keeps context s x field.Unread =
      dropped context
      (assigned-leaves core m context s (of_name context x) (is-named core m context s x) (Of types.Other)
      (unread context (kind_in (of_name context x))) (unread-leaves context (kind_in (of_name context x))))

  each-keeps : {A : Type 0} (f : A → Code) → ((x : A) → Keeps core m (f x)) → (xs : List A) →
      Keeps core m (flat_map f xs)
  each-keeps f keeps [] = keeps-nothing core m
  each-keeps f keeps (x ∷ xs) = keeps-both core m (keeps x) (each-keeps f keeps xs)

  unless-static : {code : Code} (b : Bool) → Keeps core m code → Keeps core m (cond b [] code)
  unless-static true k = keeps-nothing core m
  unless-static false k = k

  member-keeps : (context : Context) → Stands core m context → (x : Member) → Keeps core m (member_begun context x)
  member-keeps context s (member.Field f) =
      unless-static (has_word (codes "static") f.modifiers)
      (each-keeps (λ (v : FieldVariable). field_begun context v.name v.initialiser)
      (λ v. field-keeps context s v.name v.initialiser) f.variables)
  member-keeps context s (member.Method t) = keeps-nothing core m
  member-keeps context s (member.Outside h) = keeps-nothing core m
  member-keeps context s (member.Skipped place) = keeps-nothing core m

  bare-stands : (context : Context) → Stands core m context → Stands core m (outside_methods context)
  bare-stands context s =
      record {
        known = s.known;
        variables = tt;
        object = s.object;
        gives = s.gives;
        given = s.given;
        guards = s.guards;
      }

  fields-keep : (context : Context) → Stands core m context → (members : List Member) →
      Keeps core m (fields_begun context members)
  fields-keep context s members =
      each-keeps (member_begun (outside_methods context))
      (member-keeps (outside_methods context) (bare-stands context s)) members

  -- ---- bodies

  -- core code that leaves the empty stack empty
  abbrev pub Empties : Trees → Type 0
  Empties code = TreesRun core m code [] []

  owner : (context : Context) → Stands core m context → (b : Bool) → context.scope.is_static ≡ b →
      (lock : StackKind) × Runs core m (cond b (push_own_class context) (push_this context)) [] (lock ∷ [])
  owner context s true e = (
    Class context.scope.class,
    once core m context.place (PushClass context.scope.class) []
        (Class context.scope.class ∷ []) [] refl refl refl refl,
  )
  owner context s false e = (
    Declared context.scope.class,
    pushes core m context s context.place (record { 0 = 0 }) (types.Declared context.scope.class) [] (s.object e),
  )

  -- a value as core code
  made-value : {a : Code} {before after : List StackKind} → Runs core m a before after →
      TreesRun core m (made_code a) before after
  made-value {a} {before} {after} r =
      subst (λ (c : Trees). TreesRun core m c before after) (sym (steady-alone (in_order a) r.steady all_ends refl))
      r.own

  locked-empties : (context : Context) → Stands core m context → (b : Bool) {body : Trees} → Empties body →
      Empties (locked context b body)
  locked-empties context s true {body} x =
      let lock = owner context s context.scope.is_static refl in
      trees_followed core m (made_code (push_owner context)) _ (made-value lock.1)
      (trees_locked core m Own context.place lock.0 body x)
  locked-empties context s false x = x

  by-end : (b : Bool) {body last : Trees} → Empties body → Empties last → Empties (cond b (body ++ last) body)
  by-end true {body} {last} x y = trees_followed core m body last x y
  by-end false x y = x

  -- outside of each `finally`
  ended-empties : (context : Context) → Stands core m context → HasKinds m context → context.guards ≡ [] →
      {body : Trees} → Empties body → Empties (ended context body)
  ended-empties context s h e {body} x =
      let same : HasKinds m (after_return context) =
      subst (λ (all : List Guard). HasKinds m (return_in context all)) (sym e) h in
      by-end (can_end (in_sequence body)) x
      (made-runs core m (returned context None) (returned-keeps core m context s same None))

  fields-first : (b : Bool) {first body : Trees} → Empties first → Empties body →
      Empties (cond b (first ++ body) body)
  fields-first true {first} {body} x y = trees_followed core m first body x y
  fields-first false x y = y

  spelled-empties : (context : Context) → Stands core m context → (members : List Member) (t : MethodTree) →
      HasKinds m (after_all context (body_of t)) → Empties (spelled_code context members t)
  spelled-empties context s members t h =
      fields-first (is_constructor t.result)
      (made-runs core m (fields_begun context members) (fields-keep context s members))
      (locked-empties context s (has_word (codes "synchronized") t.modifiers)
      (made-runs core m (closed context (after_all context (body_of t)) (stmts context (body_of t)))
      (block-keeps core m context s (body_of t) h)))

  unless-large : (b : Bool) {body : Trees} → Empties body → Empties (cond b [] body)
  unless-large true x = no_trees core m []
  unless-large false x = x

  -- ---- sites

  locked-same : (lock : LockAt) (a c : Tree) →
      ((stack : List StackKind) → kinds_after core m a stack ≡ kinds_after core m c stack) →
      (stack : List StackKind) → kinds_after core m (Sync lock a) stack ≡ kinds_after core m (Sync lock c) stack
  locked-same lock a c p [] = refl
  locked-same lock a c p (value ∷ stack) = p stack

  -- the kinds do not depend on the sites
  abbrev same_kinds : SiteFact
  same_kinds =
      record {
        Same = λ a c. (stack : List StackKind) → kinds_after core m a stack ≡ kinds_after core m c stack;
        of_op = λ site other place o stack. refl;
        of_skip = λ stack. refl;
        of_seq = λ a b c d p q stack.
            ap (λ (o : Kinds). and_then o (λ s. kinds_after core m b s)) (p stack)
            ∙ runs.then-agree (kinds_after core m c stack) (λ s. kinds_after core m b s)
            (λ s. kinds_after core m d s) q;
        of_choice = λ a b c d p q stack.
            ap (λ (o : Kinds). and_then o (λ s.
            and_then (kinds_after core m b stack) (λ t. joined_stack s t))) (p stack)
            ∙ ap (λ (o : Kinds). and_then (kinds_after core m c stack) (λ s. and_then o (λ t. joined_stack s t)))
            (q stack);
        of_loop = λ a c p stack.
            ap (λ (o : Kinds). and_then o (λ after. where_true (same_stack stack after) stack)) (p stack);
        of_sync = locked-same;
      }

-- ---- what a method takes

same-declared : (k : Kind) → same_declared_kind k k ≡ true
same-declared types.Plain = refl
same-declared (types.Declared c) = class_same c
same-declared types.Other = refl

begins-append : (xs ys : List Kind) → begins_with xs (xs ++ ys) ≡ true
begins-append [] ys = refl
begins-append (x ∷ xs) ys = and_from (same_declared_kind x x) _ (same-declared x) (begins-append xs ys)

taken-is : (b : Bool) (own : Kind) (ps : List Kind) → cond b ps (own ∷ ps) ≡ cond b [] (own ∷ []) ++ ps
taken-is true own ps = refl
taken-is false own ps = refl

-- ---- whole methods

abbrev pub IsRightResult : MethodInfo → ResultTree → Type 0
IsRightResult info result.Constructor = (info.result ≡ types.Declared info.class) × (info.is_static ≡ false)
IsRightResult info result.Void = info.result ≡ types.Plain
IsRightResult info (result.Of t) = Unit {0}

-- what is known of a method belongs to its body
abbrev pub IsRight : List (List ℕ) → MethodInfo → Body → Type 0
IsRight names info Default =
    (info.result ≡ types.Declared info.class) × (info.is_static ≡ false) × (info.parameters ≡ [])
IsRight names info (Spelled t) =
    IsRightResult info t.result × (info.parameters ≡ kinds_of info.hidden names t.parameters)
IsRight names info Unspelled = Unit {0}

module _ (core : Core) (folder : Folder) (known : FolderStands core folder) (info : MethodInfo) (members : List Member)
    (status : Option Reason) where
  abbrev source : Body → Source
  source body = record { info = info; members = members; body = body }

  abbrev made : Body → Method
  made body = method_core folder (source body) status

  object-there : (m : Method) (body : Body) → HasKinds m (entered folder (source body)) → info.is_static ≡ false →
      variable_at m (record { 0 = 0 }) ≡ Some (types.Declared info.class)
  object-there m body h e =
      ap (λ (kinds : List Kind). slice_get kinds 0) h.all
      ∙ ap (λ b. slice_get (cond b [] (types.Declared info.class ∷ []) ++ h.rest) 0) e

  itself : (m : Method) (body : Body) → m.result ≡ info.result → HasKinds m (entered folder (source body)) →
      info.result ≡ types.Declared info.class → info.is_static ≡ false → IsResult m Itself
  itself m body same h gives e = (info.class, object-there m body h e, same ∙ gives)

  result-right : (m : Method) (t : MethodTree) (r : ResultTree) → m.result ≡ info.result →
      HasKinds m (entered folder (source (Spelled t))) → IsRightResult info r →
      IsResult m (result_of_tree info.result r)
  result-right m t result.Constructor same h right = itself m (Spelled t) same h right.0 right.1
  result-right m t result.Void same h right = same ∙ right
  result-right m t (result.Of k) same h right = same

  gives-right : (m : Method) (body : Body) → m.result ≡ info.result → HasKinds m (entered folder (source body)) →
      IsRight (class_names folder.classes) info body → IsResult m (result_of info.result body)
  gives-right m Default same h right = itself m Default same h right.0 right.1
  gives-right m (Spelled t) same h right = result-right m t t.result same h right.0
  gives-right m Unspelled same h right = same

  entered-stands : (m : Method) (body : Body) → m.result ≡ info.result → HasKinds m (entered folder (source body)) →
      IsRight (class_names folder.classes) info body → Stands core m (entered folder (source body))
  entered-stands m body same h right =
      record {
        known = known;
        variables = tt;
        object = object-there m body h;
        gives = gives-right m body same h right;
        given = sym same;
        guards = tt;
      }

  -- the code keeps the empty stack, and the variables begin with what the method takes
  checked : (body : Body) (more : List Kind) → Empties core (made body) (method_code folder (source body)) →
      (made body).variables ≡ (this_kinds info ++ info.parameters) ++ more → is_kinded core (made body) ≡ true
  checked body more keeps variables =
      let takes : begins_with (taken_by (made body)) (made body).variables ≡ true =
      ap (λ kinds. begins_with (taken_by (made body)) kinds)
      (variables ∙ ap (λ kinds. kinds ++ more) (sym (taken-is info.is_static
      (types.Declared info.class) info.parameters)))
      ∙ begins-append (taken_by (made body)) more in
      let code : kinds_after core (made body) (made body).code [] ≡ Some [] =
      same-numbered (same_kinds core (made body)) (in_sequence (method_code folder (source body))) 0 []
      ∙ whole core (made body) keeps in
      and_from (begins_with (taken_by (made body)) (made body).variables)
      (is_some (kinds_after core (made body) (made body).code [])) takes (ap (is_some {T = List StackKind}) code)

  pub method-keeps : (body : Body) → IsRight (class_names folder.classes) info body →
      Empties core (made body) (method_code folder (source body))
  method-keeps Default right =
      let m = made Default in
      let context = entered folder (source Default) in
      let h : HasKinds m context = record { rest = []; all = sym (append-nil (this_kinds info)) } in
      let s = entered-stands m Default refl h right in
      ended-empties core m context s h refl
      (made-runs core m (fields_begun context members) (fields-keep core m context s members))
  method-keeps (Spelled t) right =
      let m = made (Spelled t) in
      let context = entered folder (source (Spelled t)) in
      let inside = parameters_declared context t.parameters in
      let end = after_all inside (body_of t) in
      let last : HasKinds m end = record { rest = []; all = sym (append-nil end.kinds) } in
      let first = has-earlier m inside end (grows-after_all inside (body_of t)) last in
      let s = entered-stands m (Spelled t) refl
      (has-earlier m context inside (grows-parameters context t.parameters) first) right in
      let stands = parameters-stand core m context t.parameters s first in
      unless-large core m (is_large inside t)
      (ended-empties core m inside stands first (guards-parameters context t.parameters)
      (spelled-empties core m inside stands members t last))
  method-keeps Unspelled right = no_trees core (made Unspelled) []

  pub kinded : (body : Body) → IsRight (class_names folder.classes) info body → is_kinded core (made body) ≡ true
  kinded Default right =
      checked Default [] (method-keeps Default right)
      (sym (append-nil (this_kinds info)) ∙ ap (λ ps. this_kinds info ++ ps) (sym right.2)
      ∙ sym (append-nil (this_kinds info ++ info.parameters)))
  kinded (Spelled t) right =
      let context = entered folder (source (Spelled t)) in
      let grown = grows-after_all (parameters_declared context t.parameters) (body_of t) in
      checked (Spelled t) grown.more (method-keeps (Spelled t) right)
      (grown.longer
      ∙ ap (λ kinds. kinds ++ grown.more)
      (kinds-parameters context t.parameters ∙ ap (λ ps. this_kinds info ++ ps) (sym right.1)))
  kinded Unspelled right =
      checked Unspelled [] (method-keeps Unspelled right) (sym (append-nil (this_kinds info ++ info.parameters)))
