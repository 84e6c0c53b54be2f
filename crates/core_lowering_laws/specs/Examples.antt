-- No public contract rests on this: two small classes on which the lowering is tried, and code as it is shown:
--     class A {
--       int n; A next; static int s; Object any; static A last;
--       final List list = new ArrayList(); static final Map map = new HashMap();
--       A(int k) { .. }
--       A f(A a, int k) { .. } static int g(A a) { .. } int u(A a) { .. } void w() { .. } int f(int k) { .. }
--       int v(A a, int... more) { .. } static int t(int... all) { .. } int z(A a, A... more) { .. }
--     }
--     class B { }
-- The methods u and z are not analysed. What the two containers hold are the fields 7 and 8.
use Rattle.std.specs.Prelude.{ℕ, Bool, true, false, List, [], ◌∷◌, Option, Some, None, codes, option_map, bytes_eq}
use Rattle.container_cells.specs.declared.table.Family.{Family}
use Rattle.container_cells.specs.declared.table.Family.TheVariants.{Lists, Maps}
use Rattle.racer_base.specs.declared.ids.ClassId.{ClassId}
use Rattle.racer_base.specs.declared.ids.Kind.{Kind}
use Rattle.racer_base.specs.declared.ids.Kind.TheVariants.{Plain, Declared, Other}
use Rattle.java_tree.specs.declared.methods.FieldInitialiser.TheVariants.{Unread}
use Rattle.java_tree.specs.declared.methods.ResultTree.{ResultTree}
use Rattle.java_tree.specs.declared.unit.Member.{Member}
use Rattle.java_tree.specs.declared.unit.Member.TheVariants.{Field}
use Rattle.java_resolver.specs.declared.infos.ClassInfo.{ClassInfo}
use Rattle.java_resolver.specs.declared.infos.FieldInfo.{FieldInfo}
use Rattle.java_resolver.specs.declared.infos.MethodInfo.{MethodInfo}
use Rattle.java_resolver.specs.declared.scope.VariableKind.{VariableKind}
use Rattle.java_resolver.specs.Declarations.{constructor_name}
use Rattle.java_resolver.specs.NameExamples.{ints, absent, words, method_tree}
use Rattle.core_code.specs.declared.code.LockKind.TheVariants.{Own}
use Rattle.core_code.specs.declared.code.Op.{Op as CoreOp}
use Rattle.core_code.specs.declared.code.Op.TheVariants as op
use Rattle.core_code.specs.declared.code.Reason.TheVariants.{Recursive}
use Rattle.core_code.specs.Tree.{Tree, Op, Choice, Loop, Sync, in_sequence}
use Rattle.core_lowering_rules.specs.ValueKinds.{ValueKind}
use Rattle.core_lowering_rules.specs.Cells.{cell}
use Rattle.core_lowering_drafts.specs.Only.{Code}
use Rattle.core_lowering_rules.specs.Context.{Folder, Context, Result, Itself, Nothing, Value, made}
use Rattle.core_lowering_drafts.specs.Sites.{lock_at}
use Rattle.core_lowering_rules.specs.Expressions.{kind, code}
use Rattle.core_lowering_rules.specs.Scopes.{declared}
use Rattle.core_lowering_rules.specs.Statements.{stmt}
use Rattle.core_lowering_rules.specs.Methods.{Source, Body, Default, Spelled, ended, field_begun}
use Rattle.core_lowering_laws.specs.PlacedTexts.{at, method_place, name_place, word_place, ident, expr_of_text}
use Rattle.core_lowering_laws.specs.PlacedTexts.{stmt_of_text}

-- ---- what is declared

abbrev pub class_a : ClassId
class_a = record { 0 = 0 }

abbrev pub class_b : ClassId
class_b = record { 0 = 1 }

abbrev pub class_of : List ℕ → ClassInfo
class_of name = record { name = name; place = at 1; checked = false }

abbrev pub field_of : List ℕ → Kind → Bool → FieldInfo
field_of name kind is_static =
    record {
      class = class_a;
      name = name;
      place = at 1;
      kind = kind;
      is_static = is_static;
      is_final = false;
      is_volatile = false;
      is_lock = false;
      family = None;
    }

abbrev pub container : List ℕ → Family → Bool → FieldInfo
container name family is_static =
    record (field_of name Other is_static) { is_final = true; family = Some family }

abbrev pub method_of : List ℕ → List Kind → Kind → Bool → MethodInfo
method_of name parameters result is_static =
    record {
      class = class_a;
      name = name;
      place = at 1;
      parameters = parameters;
      any_number = false;
      result = result;
      is_static = is_static;
      is_private = false;
      is_constructor = bytes_eq name constructor_name;
      main = false;
      not_thread_safe = false;
      hidden = [];
    }

-- the same, whose last parameter takes any number of arguments
abbrev pub method_with_any : List ℕ → List Kind → Bool → MethodInfo
method_with_any name parameters is_static =
    record (method_of name parameters Plain is_static) { any_number = true }

abbrev pub an_a : Kind
an_a = Declared class_a

abbrev pub folder : Folder
folder =
    record {
      classes = class_of (codes "A") ∷ class_of (codes "B") ∷ [];
      fields =
          field_of (codes "n") Plain false ∷ field_of (codes "next") an_a false ∷ field_of (codes "s") Plain true
          ∷ field_of (codes "any") Other false ∷ field_of (codes "last") an_a true
          ∷ container (codes "list") Lists false ∷ container (codes "map") Maps true ∷ [];
      cells = None ∷ None ∷ None ∷ None ∷ None ∷ Some (cell Lists 7) ∷ Some (cell Maps 8) ∷ [];
      methods =
          method_of (codes "<new>") (Plain ∷ []) an_a false ∷ method_of (codes "f") (an_a ∷ Plain ∷ []) an_a false
          ∷ method_of (codes "g") (an_a ∷ []) Plain true ∷ method_of (codes "u") (an_a ∷ []) Plain false
          ∷ method_of (codes "w") [] Plain false ∷ method_of (codes "f") (Plain ∷ []) Plain false
          ∷ method_with_any (codes "v") (an_a ∷ Other ∷ []) false ∷ method_with_any (codes "t") (Other ∷ []) true
          ∷ method_with_any (codes "z") (an_a ∷ Other ∷ []) false ∷ [];
      statuses =
          None ∷ None ∷ None ∷ Some Recursive ∷ None ∷ None ∷ None ∷ None ∷ Some Recursive ∷ [];
    }

-- ---- where code stands

abbrev pub given_by : Result → Kind
given_by Itself = an_a
given_by Nothing = Plain
given_by (Value k) = k

-- a method of A without parameters
abbrev pub entered : Bool → Result → List Kind → Context
entered is_static result kinds =
    record {
      folder = folder;
      place = method_place;
      result = result;
      given = given_by result;
      scope = record { class = class_a; is_static = is_static; hidden = []; variables = [] };
      kinds = kinds;
      exits = 0;
      labels = [];
      targets = [];
      guards = [];
      other_lock = false;
      is_apart = false;
    }

-- variables k, a and o: a number, an object of A, any other
-- that is no lock
abbrev pub of_kind : Kind → VariableKind
of_kind k = record { kind = k; is_lock = false }

abbrev pub with_variables : Context → Context
with_variables context =
    declared (declared (declared context (of_kind Plain) (ident (codes "k"))) (of_kind an_a) (ident (codes "a")))
    (of_kind Other) (ident (codes "o"))

-- variable 0 is `this`; k, a and o are 1, 2 and 3
abbrev pub in_object : Result → Context
in_object result = with_variables (entered false result (an_a ∷ []))

-- k, a and o are 0, 1 and 2
abbrev pub in_class : Result → Context
in_class result = with_variables (entered true result [])

-- ---- code

abbrev pub lowered_in : Context → List ℕ → Option Code
lowered_in context text = option_map (λ s. made (stmt context s)) (stmt_of_text text)

-- a statement of a method that gives an object of A
abbrev pub lowered : List ℕ → Option Code
lowered = lowered_in (in_object (Value an_a))

-- the same of a static method
abbrev pub lowered_static : List ℕ → Option Code
lowered_static = lowered_in (in_class (Value Plain))

-- the same where this name means no class
abbrev pub lowered_hiding : List ℕ → List ℕ → Option Code
lowered_hiding name =
    let context : Context = in_object Nothing in
    lowered_in (record context { scope = record context.scope { hidden = name ∷ [] } })

abbrev pub value_of : List ℕ → Option Code
value_of text = option_map (λ e. made (code (in_object Nothing) e)) (expr_of_text text)

abbrev pub static_value_of : List ℕ → Option Code
static_value_of text = option_map (λ e. made (code (in_class Nothing) e)) (expr_of_text text)

abbrev pub kind_of_text : List ℕ → Option ValueKind
kind_of_text text = option_map (kind (in_object Nothing)) (expr_of_text text)

-- ---- operations: at the method, at a name, at `new`

abbrev pub step : CoreOp → Tree
step o = Op (record { 0 = 0 }) method_place o

abbrev pub step_at_name : CoreOp → Tree
step_at_name o = Op (record { 0 = 0 }) name_place o

abbrev pub step_at_word : CoreOp → Tree
step_at_word o = Op (record { 0 = 0 }) word_place o

abbrev pub push : ℕ → Tree
push v = step (op.Push (record { 0 = v }))

abbrev pub push_this : Tree
push_this = push 0

abbrev pub push_k : Tree
push_k = push 1

abbrev pub push_a : Tree
push_a = push 2

abbrev pub push_o : Tree
push_o = push 3

abbrev pub push_class : ClassId → Tree
push_class c = step (op.PushClass c)

abbrev pub prim : Tree
prim = step op.PushPrim

abbrev pub null : Tree
null = step op.PushNull

abbrev pub dup : Tree
dup = step op.Dup

abbrev pub pop : Tree
pop = step op.Drop

abbrev pub return_top : Tree
return_top = step op.Ret

abbrev pub operator : ℕ → Tree
operator n = step (op.Prim n)

abbrev pub outside : ℕ → Tree
outside n = step (op.Outside n)

abbrev pub set : ℕ → Tree
set v = step (op.Set (record { 0 = v }))

abbrev pub get : ℕ → Tree
get f = step_at_name (op.Get (record { 0 = f }))

abbrev pub put : ℕ → Tree
put f = step_at_name (op.Put (record { 0 = f }))

abbrev pub call : ℕ → ℕ → Tree
call m n = step_at_name (op.Call (record { 0 = m }) n)

abbrev pub unread : ℕ → ℕ → Tree
unread m n = step_at_name (op.Unread (record { 0 = m }) n)

abbrev pub choice : Code → Code → Tree
choice left right = Choice (in_sequence left) (in_sequence right)

abbrev pub repeated : Code → Tree
repeated body = Loop (in_sequence body)

abbrev pub held : Code → Tree
held body = Sync (lock_at Own word_place) (in_sequence body)

-- ---- bodies of methods

-- a method of this text as its body, with the return at its end
abbrev pub ended_body : Context → List ℕ → Option Code
ended_body context text = option_map (λ s. ended context (made (stmt context s))) (stmt_of_text text)

-- void m(A a)
abbrev pub in_m : Context
in_m = declared (entered false Nothing (an_a ∷ [])) (of_kind an_a) (ident (codes "a"))

-- void w()
abbrev pub in_w : Context
in_w = entered false Nothing (an_a ∷ [])

-- a constructor without parameters
abbrev pub in_constructor : Context
in_constructor = entered false Itself (an_a ∷ [])

abbrev pub in_static : Context
in_static = entered true Nothing []

-- what a field of this name begins with, where it is not read
abbrev pub unread_field : List ℕ → Code
unread_field name = made (field_begun in_constructor (ident name) Unread)

-- fields of type int that are not read
abbrev pub unread_int : List (List ℕ) → List ℕ → Member
unread_int modifiers name = Field (ints modifiers (record { name = ident name; initialiser = Unread } ∷ []))

-- a class with two of them, the second static, and one that begins with nothing
abbrev pub with_fields : Source
with_fields =
    record {
      info = method_of (codes "<new>") [] an_a false;
      members =
          unread_int [] (codes "n") ∷ unread_int (codes "static" ∷ []) (codes "s")
          ∷ Field (ints [] (absent (codes "any") 9 ∷ [])) ∷ [];
      body = Default;
    }

-- a body of nothing, with these words
abbrev pub empty_body : List (List ℕ) → ResultTree → Body
empty_body modifiers result = Spelled (method_tree (words modifiers) result (codes "A") [])
