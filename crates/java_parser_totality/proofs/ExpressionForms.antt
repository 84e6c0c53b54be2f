-- The forms of expressions: how each is seen, and which marks it keeps.
use Rattle.std.proofs.Common.{◌≡◌, ℕ, ◌<◌, Bool, false, List, [], ◌∷◌, Option, Some, None, map, length, ap, ◌∙◌, rules}
use Rattle.std.specs.Prelude.{option_map}
use Rattle.racer_base.specs.declared.ids.Place.{Place}
use Rattle.java_lexer.specs.declared.token.TokenKind.{TokenKind}
use Rattle.java_tree.specs.declared.words.Ident.{Ident}
use Rattle.java_tree.specs.declared.words.Spelled.{Spelled}
use Rattle.java_tree.specs.declared.types.TypeTree.{TypeTree}
use Rattle.java_tree.specs.declared.expressions.Expression.{Expression, roll-Expression}
use Rattle.java_tree.specs.declared.expressions.Initialiser.{Initialiser, roll-Initialiser}
use Rattle.java_tree.specs.declared.expressions.ArrayTree.{ArrayTree, roll-ArrayTree}
use Rattle.java_tree.specs.declared.expressions.LambdaBody.{LambdaBody, roll-LambdaBody}
use Rattle.java_tree.specs.declared.expressions.Made.{Made, roll-Made}
use Rattle.java_tree.specs.declared.expressions.Referred.{Referred, roll-Referred}
use Rattle.java_tree.specs.declared.expressions.CallTree.{roll-CallTree}
use Rattle.java_tree.specs.declared.expressions.CastTree.{roll-CastTree}
use Rattle.java_tree.specs.declared.expressions.InstanceTree.{roll-InstanceTree}
use Rattle.java_tree.specs.declared.expressions.LambdaTree.{roll-LambdaTree}
use Rattle.java_tree.specs.declared.expressions.NewTree.{roll-NewTree}
use Rattle.java_tree.specs.declared.expressions.ReferenceTree.{roll-ReferenceTree}
use Rattle.java_tree.specs.declared.expressions.Expression.TheOpen as expression
use Rattle.java_tree.specs.declared.expressions.Expression.TheFolds.{the_lemmas}
use Rattle.java_tree.specs.KeptPlaces.{Marks, each_puts, name_places, types_places, name_or_new, no_places}
use Rattle.java_tree.specs.KeptPlaces.{some_onto, ty_places, expr_places, init_places, array_places}
use Rattle.java_tree.specs.Trees.{Assign, Conditional, Binary, InstanceOf, Prefix, Cast, Postfix, Literal}
use Rattle.java_tree.specs.Trees.{This, Name, Paren, Field, Index, Call, CallOn, ClassOf, New, NewArray, NewItems}
use Rattle.java_tree.specs.Trees.{NewBody, Lambda, BlockLambda, Reference, TypeReference, SuperReference, PlainClass}
use Rattle.java_tree.specs.Trees.{ThisOf, Braces, Value, Items, pack_exprs, pack_inits}
use Rattle.java_tree.specs.View.{ty_of, types_of, name_of, expr_of, init_of, array_of}
use Rattle.java_parser_totality.specs.Totality.{most}
use Rattle.java_parser_totality.proofs.Vectors.{boxed, vector, vector-items}

abbrev pub assign : (x : Expression) (op : List ℕ) (y : Expression) → Expression
assign x op y = roll-Expression (expression.Assign (boxed x) op (boxed y))

pub assign-is : (x : Expression) (op : List ℕ) (y : Expression) → expr_of (assign x op y) ≡ Assign (expr_of x) op
    (expr_of y)
assign-is x op y = search (rules, the_lemmas)

pub assign-at : (x : Expression) (op : List ℕ) (y : Expression) → (ps : Marks) → expr_places
    (assign x op y) ps ≡ expr_places x (expr_places y ps)
assign-at x op y ps = search (rules, the_lemmas)

abbrev pub conditional : (x y z : Expression) → Expression
conditional x y z = roll-Expression (expression.Conditional (boxed x) (boxed y) (boxed z))

pub conditional-is : (x y z : Expression) → expr_of (conditional x y z) ≡ Conditional (expr_of x) (expr_of y)
    (expr_of z)
conditional-is x y z = search (rules, the_lemmas)

pub conditional-at : (x y z : Expression) → (ps : Marks) → expr_places (conditional x y z) ps ≡ expr_places x
    (expr_places y (expr_places z ps))
conditional-at x y z ps = search (rules, the_lemmas)

abbrev pub binary : (x : Expression) (op : List ℕ) (y : Expression) → Expression
binary x op y = roll-Expression (expression.Binary (boxed x) op (boxed y))

pub binary-is : (x : Expression) (op : List ℕ) (y : Expression) → expr_of (binary x op y) ≡ Binary (expr_of x) op
    (expr_of y)
binary-is x op y = search (rules, the_lemmas)

pub binary-at : (x : Expression) (op : List ℕ) (y : Expression) → (ps : Marks) → expr_places
    (binary x op y) ps ≡ expr_places x (expr_places y ps)
binary-at x op y ps = search (rules, the_lemmas)

abbrev pub instance : (x : Expression) (t : TypeTree) → Expression
instance x t = roll-Expression (expression.InstanceOf (boxed (roll-InstanceTree (record { value = x; kind = t }))))

pub instance-is : (x : Expression) (t : TypeTree) → expr_of (instance x t) ≡ InstanceOf (expr_of x) (ty_of t)
instance-is x t = search (rules, the_lemmas)

pub instance-at : (x : Expression) (t : TypeTree) → (ps : Marks) → expr_places (instance x t) ps ≡ expr_places x
    (some_onto (ty_places t) ps)
instance-at x t ps = search (rules, the_lemmas)

abbrev pub prefix : (op : List ℕ) (x : Expression) → Expression
prefix op x = roll-Expression (expression.Prefix op (boxed x))

pub prefix-is : (op : List ℕ) (x : Expression) → expr_of (prefix op x) ≡ Prefix op (expr_of x)
prefix-is op x = search (rules, the_lemmas)

pub prefix-at : (op : List ℕ) (x : Expression) → (ps : Marks) → expr_places (prefix op x) ps ≡ expr_places x ps
prefix-at op x ps = search (rules, the_lemmas)

abbrev pub cast : (ts : List TypeTree) (x : Expression) → Expression
cast ts x = roll-Expression (expression.Cast (boxed (roll-CastTree (record { types = ts; value = x }))))

pub cast-is : (ts : List TypeTree) (x : Expression) → expr_of (cast ts x) ≡ Cast (map ty_of ts) (expr_of x)
cast-is ts x = search (rules, the_lemmas)

pub cast-at : (ts : List TypeTree) (x : Expression) → (ps : Marks) → expr_places (cast ts x) ps ≡ types_places ts
    (expr_places x ps)
cast-at ts x ps = search (rules, the_lemmas)

abbrev pub postfix : (x : Expression) (op : List ℕ) → Expression
postfix x op = roll-Expression (expression.Postfix (boxed x) op)

pub postfix-is : (x : Expression) (op : List ℕ) → expr_of (postfix x op) ≡ Postfix (expr_of x) op
postfix-is x op = search (rules, the_lemmas)

pub postfix-at : (x : Expression) (op : List ℕ) → (ps : Marks) → expr_places (postfix x op) ps ≡ expr_places x ps
postfix-at x op ps = search (rules, the_lemmas)

abbrev pub literal : (k : TokenKind) (text : List ℕ) → Expression
literal k text = roll-Expression (expression.Literal k text)

pub literal-is : (k : TokenKind) (text : List ℕ) → expr_of (literal k text) ≡ Literal k text
literal-is k text = search (rules, the_lemmas)

pub literal-at : (k : TokenKind) (text : List ℕ) → (ps : Marks) → expr_places (literal k text) ps ≡ ps
literal-at k text ps = search (rules, the_lemmas)

abbrev pub itself : Expression
itself = roll-Expression expression.This

pub itself-is : expr_of itself ≡ This
itself-is = search (rules, the_lemmas)

pub itself-at : (ps : Marks) → expr_places itself ps ≡ ps
itself-at ps = search (rules, the_lemmas)

abbrev pub name : (x : Ident) → Expression
name x = roll-Expression (expression.Name x)

pub name-is : (x : Ident) → expr_of (name x) ≡ Name (name_of x)
name-is x = search (rules, the_lemmas)

pub name-at : (x : Ident) → (ps : Marks) → expr_places (name x) ps ≡ Some x.place ∷ ps
name-at x ps = search (rules, the_lemmas)

abbrev pub paren : (x : Expression) → Expression
paren x = roll-Expression (expression.Paren (boxed x))

pub paren-is : (x : Expression) → expr_of (paren x) ≡ Paren (expr_of x)
paren-is x = search (rules, the_lemmas)

pub paren-at : (x : Expression) → (ps : Marks) → expr_places (paren x) ps ≡ expr_places x ps
paren-at x ps = search (rules, the_lemmas)

abbrev pub field : (x : Expression) (n : Ident) → Expression
field x n = roll-Expression (expression.Field (boxed x) n)

pub field-is : (x : Expression) (n : Ident) → expr_of (field x n) ≡ Field (expr_of x) (name_of n)
field-is x n = search (rules, the_lemmas)

pub field-at : (x : Expression) (n : Ident) → (ps : Marks) → expr_places (field x n) ps ≡ expr_places x
    (Some n.place ∷ ps)
field-at x n ps = search (rules, the_lemmas)

abbrev pub element : (x y : Expression) → Expression
element x y = roll-Expression (expression.Index (boxed x) (boxed y))

pub element-is : (x y : Expression) → expr_of (element x y) ≡ Index (expr_of x) (expr_of y)
element-is x y = search (rules, the_lemmas)

pub element-at : (x y : Expression) → (ps : Marks) → expr_places (element x y) ps ≡ expr_places x (expr_places y ps)
element-at x y ps = search (rules, the_lemmas)

abbrev pub call : (n : Ident) (all : List Expression) → Expression
call n all = roll-Expression (expression.Call (boxed (roll-CallTree (record {
  receiver = None;
  types = [];
  glued = false;
  name = n;
  arguments = vector all;
}))))

pub call-is : (n : Ident) (all : List Expression) → length all < most → expr_of (call n all) ≡ Call (name_of n)
    (pack_exprs (map expr_of all))
call-is n all s =
    let seen : expr_of (call n all) ≡ Call (name_of n) (pack_exprs (map expr_of (vector all).items)) = search
    (rules, the_lemmas) in
    seen ∙ ap (λ (l : List Expression). Call (name_of n) (pack_exprs (map expr_of l))) (vector-items all s)

pub call-at : (n : Ident) (all : List Expression) → length all < most → (ps : Marks) → expr_places
    (call n all) ps ≡ Some n.place ∷ each_puts (map expr_places all) ps
call-at n all s ps =
    let seen : expr_places (call n all) ps ≡ Some n.place ∷ each_puts (map expr_places
    (vector all).items) ps = search (rules, the_lemmas) in
    seen ∙ ap (λ (l : List Expression). Some n.place ∷ each_puts (map expr_places l) ps) (vector-items all s)

abbrev pub call_on : (x : Expression) (ts : List TypeTree) (g : Bool) (n : Ident) (all : List Expression) → Expression
call_on x ts g n all = roll-Expression (expression.Call (boxed (roll-CallTree (record {
  receiver = Some (boxed x);
  types = ts;
  glued = g;
  name = n;
  arguments = vector all;
}))))

pub call_on-is : (x : Expression) (ts : List TypeTree) (g : Bool) (n : Ident) (all : List Expression)
    → length all < most → expr_of (call_on x ts g n all) ≡ CallOn (expr_of x) (types_of ts g) (name_of n)
    (pack_exprs (map expr_of all))
call_on-is x ts g n all s =
    let seen : expr_of (call_on x ts g n all) ≡ CallOn (expr_of x) (types_of ts g) (name_of n) (pack_exprs
    (map expr_of (vector all).items)) = search (rules, the_lemmas) in
    seen ∙ ap (λ (l : List Expression). CallOn (expr_of x) (types_of ts g) (name_of n) (pack_exprs (map expr_of l)))
    (vector-items all s)

pub call_on-at : (x : Expression) (ts : List TypeTree) (g : Bool) (n : Ident) (all : List Expression)
    → length all < most → (ps : Marks) → expr_places (call_on x ts g n all) ps ≡ expr_places x (types_places ts
    (Some n.place ∷ each_puts (map expr_places all) ps))
call_on-at x ts g n all s ps =
    let seen : expr_places (call_on x ts g n all) ps ≡ expr_places x (types_places ts (Some n.place ∷ each_puts
    (map expr_places (vector all).items) ps)) = search (rules, the_lemmas) in
    seen ∙ ap (λ (l : List Expression). expr_places x (types_places ts (Some n.place ∷ each_puts
    (map expr_places l) ps))) (vector-items all s)

abbrev pub class_of : (all : List Ident) → Expression
class_of all = roll-Expression (expression.ClassOf (vector all))

pub class_of-is : (all : List Ident) → length all < most → expr_of (class_of all) ≡ ClassOf (map name_of all)
class_of-is all s =
    let seen : expr_of (class_of all) ≡ ClassOf (map name_of (vector all).items) = search (rules, the_lemmas) in
    seen ∙ ap (λ (l : List Ident). ClassOf (map name_of l)) (vector-items all s)

pub class_of-at : (all : List Ident) → length all < most → (ps : Marks) → expr_places (class_of all) ps ≡ each_puts
    (map name_places all) ps
class_of-at all s ps =
    let seen : expr_places (class_of all) ps ≡ each_puts (map name_places (vector all).items) ps = search
    (rules, the_lemmas) in
    seen ∙ ap (λ (l : List Ident). each_puts (map name_places l) ps) (vector-items all s)

abbrev pub this_of : (all : List Ident) → Expression
this_of all = roll-Expression (expression.ThisOf (vector all))

pub this_of-is : (all : List Ident) → length all < most → expr_of (this_of all) ≡ ThisOf (map name_of all)
this_of-is all s =
    let seen : expr_of (this_of all) ≡ ThisOf (map name_of (vector all).items) = search (rules, the_lemmas) in
    seen ∙ ap (λ (l : List Ident). ThisOf (map name_of l)) (vector-items all s)

pub this_of-at : (all : List Ident) → length all < most → (ps : Marks) → expr_places (this_of all) ps ≡ each_puts
    (map name_places all) ps
this_of-at all s ps =
    let seen : expr_places (this_of all) ps ≡ each_puts (map name_places (vector all).items) ps = search
    (rules, the_lemmas) in
    seen ∙ ap (λ (l : List Ident). each_puts (map name_places l) ps) (vector-items all s)

abbrev pub plain_class : (t : TypeTree) → Expression
plain_class t = roll-Expression (expression.PlainClass t)

pub plain_class-is : (t : TypeTree) → expr_of (plain_class t) ≡ PlainClass (ty_of t)
plain_class-is t = search (rules, the_lemmas)

pub plain_class-at : (t : TypeTree) → (ps : Marks) → expr_places (plain_class t) ps ≡ some_onto (ty_places t) ps
plain_class-at t ps = search (rules, the_lemmas)

abbrev made_by : Place → TypeTree → Made → Expression
made_by p t m = roll-Expression (expression.New (boxed (roll-NewTree (record { place = p; kind = t; made = m }))))

abbrev pub new : (p : Place) (t : TypeTree) (all : List Expression) → Expression
new p t all = made_by p t (roll-Made (expression.Object (vector all)))

pub new-is : (p : Place) (t : TypeTree) (all : List Expression) → length all < most → expr_of (new p t all) ≡ New
    (ty_of t) (pack_exprs (map expr_of all))
new-is p t all s =
    let seen : expr_of (new p t all) ≡ New (ty_of t) (pack_exprs (map expr_of (vector all).items)) = search
    (rules, the_lemmas) in
    seen ∙ ap (λ (l : List Expression). New (ty_of t) (pack_exprs (map expr_of l))) (vector-items all s)

pub new-at : (p : Place) (t : TypeTree) (all : List Expression) → length all < most → (ps : Marks) → expr_places
    (new p t all) ps ≡ Some p ∷ some_onto (ty_places t) (each_puts (map expr_places all) ps)
new-at p t all s ps =
    let seen : expr_places (new p t all) ps ≡ Some p ∷ some_onto (ty_places t) (each_puts (map expr_places
    (vector all).items) ps) = search (rules, the_lemmas) in
    seen ∙ ap (λ (l : List Expression). Some p ∷ some_onto (ty_places t) (each_puts (map expr_places l) ps))
    (vector-items all s)

abbrev pub new_body : (p : Place) (t : TypeTree) (all : List Expression) (body : List Spelled) → Expression
new_body p t all body = made_by p t (roll-Made (expression.Anonymous (vector all) body))

pub new_body-is : (p : Place) (t : TypeTree) (all : List Expression) (body : List Spelled) → length all < most
    → expr_of (new_body p t all body) ≡ NewBody (ty_of t) (pack_exprs (map expr_of all)) body
new_body-is p t all body s =
    let seen : expr_of (new_body p t all body) ≡ NewBody (ty_of t) (pack_exprs (map expr_of
    (vector all).items)) body = search (rules, the_lemmas) in
    seen ∙ ap (λ (l : List Expression). NewBody (ty_of t) (pack_exprs (map expr_of l)) body) (vector-items all s)

pub new_body-at : (p : Place) (t : TypeTree) (all : List Expression) (body : List Spelled) → length all < most →
    (ps : Marks) → expr_places (new_body p t all body) ps ≡ Some p ∷ some_onto (ty_places t) (each_puts
    (map expr_places all) (no_places body ps))
new_body-at p t all body s ps =
    let seen : expr_places (new_body p t all body) ps ≡ Some p ∷ some_onto (ty_places t) (each_puts (map expr_places
    (vector all).items) (no_places body ps)) = search (rules, the_lemmas) in
    seen ∙ ap (λ (l : List Expression). Some p ∷ some_onto (ty_places t) (each_puts (map expr_places l)
    (no_places body ps))) (vector-items all s)

abbrev pub new_array : (p : Place) (t : TypeTree) (all : List Expression) (n : ℕ) → Expression
new_array p t all n = made_by p t (roll-Made (expression.Array (vector all) n))

pub new_array-is : (p : Place) (t : TypeTree) (all : List Expression) (n : ℕ) → length all < most → expr_of
    (new_array p t all n) ≡ NewArray (ty_of t) (pack_exprs (map expr_of all)) n
new_array-is p t all n s =
    let seen : expr_of (new_array p t all n) ≡ NewArray (ty_of t) (pack_exprs (map expr_of
    (vector all).items)) n = search (rules, the_lemmas) in
    seen ∙ ap (λ (l : List Expression). NewArray (ty_of t) (pack_exprs (map expr_of l)) n) (vector-items all s)

pub new_array-at : (p : Place) (t : TypeTree) (all : List Expression) (n : ℕ) → length all < most → (ps : Marks)
    → expr_places (new_array p t all n) ps ≡ Some p ∷ some_onto (ty_places t) (each_puts (map expr_places all) ps)
new_array-at p t all n s ps =
    let seen : expr_places (new_array p t all n) ps ≡ Some p ∷ some_onto (ty_places t) (each_puts (map expr_places
    (vector all).items) ps) = search (rules, the_lemmas) in
    seen ∙ ap (λ (l : List Expression). Some p ∷ some_onto (ty_places t) (each_puts (map expr_places l) ps))
    (vector-items all s)

abbrev pub new_items : (p : Place) (t : TypeTree) (n : ℕ) (items : ArrayTree) → Expression
new_items p t n items = made_by p t (roll-Made (expression.Filled n items))

pub new_items-is : (p : Place) (t : TypeTree) (n : ℕ) (items : ArrayTree) → expr_of
    (new_items p t n items) ≡ NewItems (ty_of t) n (array_of items)
new_items-is p t n items = search (rules, the_lemmas)

pub new_items-at : (p : Place) (t : TypeTree) (n : ℕ) (items : ArrayTree) → (ps : Marks) → expr_places
    (new_items p t n items) ps ≡ Some p ∷ some_onto (ty_places t) (array_places items ps)
new_items-at p t n items ps = search (rules, the_lemmas)

abbrev lambda_by : List Spelled → LambdaBody → Expression
lambda_by parameters body =
    roll-Expression (expression.Lambda (boxed (roll-LambdaTree (record { parameters = parameters; body = body }))))

abbrev pub lambda : (parameters : List Spelled) (x : Expression) → Expression
lambda parameters x = lambda_by parameters (roll-LambdaBody (expression.Gives x))

pub lambda-is : (parameters : List Spelled) (x : Expression) → expr_of (lambda parameters x) ≡ Lambda parameters
    (expr_of x)
lambda-is parameters x = search (rules, the_lemmas)

pub lambda-at : (parameters : List Spelled) (x : Expression) → (ps : Marks) → expr_places
    (lambda parameters x) ps ≡ no_places parameters (expr_places x ps)
lambda-at parameters x ps = search (rules, the_lemmas)

abbrev pub block_lambda : (parameters block : List Spelled) → Expression
block_lambda parameters block = lambda_by parameters (roll-LambdaBody (expression.Block block))

pub block_lambda-is : (parameters block : List Spelled) → expr_of (block_lambda parameters block) ≡ BlockLambda
    parameters block
block_lambda-is parameters block = search (rules, the_lemmas)

pub block_lambda-at : (parameters block : List Spelled) → (ps : Marks) → expr_places
    (block_lambda parameters block) ps ≡ no_places parameters (no_places block ps)
block_lambda-at parameters block ps = search (rules, the_lemmas)

abbrev reference_by : Referred → List TypeTree → Bool → Option Ident → Expression
reference_by from ts g n =
    roll-Expression (expression.Reference (boxed (roll-ReferenceTree (record {
      of = from;
      types = ts;
      glued = g;
      name = n;
    }))))

abbrev pub reference : (x : Expression) (ts : List TypeTree) (g : Bool) (n : Option Ident) → Expression
reference x ts g n = reference_by (roll-Referred (expression.Of x)) ts g n

pub reference-is : (x : Expression) (ts : List TypeTree) (g : Bool) (n : Option Ident) → expr_of
    (reference x ts g n) ≡ Reference (expr_of x) (types_of ts g) (option_map name_of n)
reference-is x ts g n = search (rules, the_lemmas)

pub reference-at : (x : Expression) (ts : List TypeTree) (g : Bool) (n : Option Ident) → (ps : Marks) → expr_places
    (reference x ts g n) ps ≡ expr_places x (types_places ts (name_or_new n ps))
reference-at x ts g n ps = search (rules, the_lemmas)

abbrev pub type_reference : (t : TypeTree) (ts : List TypeTree) (g : Bool) (n : Option Ident) → Expression
type_reference t ts g n = reference_by (roll-Referred (expression.Type t)) ts g n

pub type_reference-is : (t : TypeTree) (ts : List TypeTree) (g : Bool) (n : Option Ident) → expr_of
    (type_reference t ts g n) ≡ TypeReference (ty_of t) (types_of ts g) (option_map name_of n)
type_reference-is t ts g n = search (rules, the_lemmas)

pub type_reference-at : (t : TypeTree) (ts : List TypeTree) (g : Bool) (n : Option Ident) → (ps : Marks)
    → expr_places (type_reference t ts g n) ps ≡ some_onto (ty_places t) (types_places ts (name_or_new n ps))
type_reference-at t ts g n ps = search (rules, the_lemmas)

abbrev pub super_reference : (ts : List TypeTree) (g : Bool) (n : Option Ident) → Expression
super_reference ts g n = reference_by (roll-Referred expression.Super) ts g n

pub super_reference-is : (ts : List TypeTree) (g : Bool) (n : Option Ident) → expr_of
    (super_reference ts g n) ≡ SuperReference (types_of ts g) (option_map name_of n)
super_reference-is ts g n = search (rules, the_lemmas)

pub super_reference-at : (ts : List TypeTree) (g : Bool) (n : Option Ident) → (ps : Marks) → expr_places
    (super_reference ts g n) ps ≡ types_places ts (name_or_new n ps)
super_reference-at ts g n ps = search (rules, the_lemmas)

abbrev pub value : Expression → Initialiser
value e = roll-Initialiser (expression.Value e)

pub value-is : (e : Expression) → init_of (value e) ≡ Value (expr_of e)
value-is e = search (rules, the_lemmas)

pub value-at : (e : Expression) (ps : Marks) → init_places (value e) ps ≡ expr_places e ps
value-at e ps = search (rules, the_lemmas)

abbrev pub items : ArrayTree → Initialiser
items a = roll-Initialiser (expression.Items a)

pub items-is : (a : ArrayTree) → init_of (items a) ≡ Items (array_of a)
items-is a = search (rules, the_lemmas)

pub items-at : (a : ArrayTree) (ps : Marks) → init_places (items a) ps ≡ array_places a ps
items-at a ps = search (rules, the_lemmas)

abbrev pub braces : List Initialiser → Bool → ArrayTree
braces all last = roll-ArrayTree (record { items = vector all; last_comma = last })

pub braces-is : (all : List Initialiser) (last : Bool) → length all < most
    → array_of (braces all last) ≡ Braces (pack_inits (map init_of all)) last
braces-is all last s =
    let seen : array_of (braces all last) ≡ Braces (pack_inits (map init_of (vector all).items)) last =
    search (rules, the_lemmas) in
    seen ∙ ap (λ (l : List Initialiser). Braces (pack_inits (map init_of l)) last) (vector-items all s)

pub braces-at : (all : List Initialiser) (last : Bool) → length all < most → (ps : Marks)
    → array_places (braces all last) ps ≡ each_puts (map init_places all) ps
braces-at all last s ps =
    let seen : array_places (braces all last) ps ≡ each_puts (map init_places (vector all).items) ps =
    search (rules, the_lemmas) in
    seen ∙ ap (λ (l : List Initialiser). each_puts (map init_places l) ps) (vector-items all s)
