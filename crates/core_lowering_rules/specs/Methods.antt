-- A contract of a public call rests on this: the code of methods and constructors (JLS 8.3.2, 8.4, 8.8, 12.5).
use Rattle.std.specs.Prelude.{Bool, true, false, not, List, [], ◌∷◌, ◌++◌, None, codes, map}
use Rattle.std.specs.Prelude.{if◌then◌else◌}
use Rattle.std.specs.List.{flat_map}
use Rattle.racer_base.specs.declared.ids.Kind.{Kind}
use Rattle.racer_base.specs.declared.ids.Kind.TheVariants as kinds
use Rattle.java_tree.specs.declared.words.Ident.{Ident}
use Rattle.java_tree.specs.declared.methods.FieldInitialiser.{FieldInitialiser}
use Rattle.java_tree.specs.declared.methods.FieldInitialiser.TheVariants as field
use Rattle.java_tree.specs.declared.methods.FieldVariable.{FieldVariable}
use Rattle.java_tree.specs.declared.methods.MethodTree.{MethodTree}
use Rattle.java_tree.specs.declared.methods.ParameterTree.{ParameterTree}
use Rattle.java_tree.specs.declared.methods.ResultTree.{ResultTree}
use Rattle.java_tree.specs.declared.methods.ResultTree.TheVariants as result
use Rattle.java_tree.specs.View.{ty_of}
use Rattle.java_tree.specs.declared.unit.Member.{Member}
use Rattle.java_tree.specs.declared.unit.Member.TheVariants as member
use Rattle.java_resolver.specs.declared.infos.MethodInfo.{MethodInfo}
use Rattle.java_resolver.specs.Declarations.{is_constructor, further_arrays}
use Rattle.java_resolver.specs.Words.{has_word}
use Rattle.core_code.specs.declared.code.LockKind.TheVariants.{Own}
use Rattle.core_code.specs.declared.code.Op.TheVariants.{PushPrim, Drop, Outside}
use Rattle.core_code.specs.Tree.{Tree, can_end, in_sequence}
use Rattle.core_code.specs.Tree as tree
use Rattle.core_lowering_drafts.specs.Sizes.{is_small}
use Rattle.core_lowering_rules.specs.Trees.{Stmts, pack_stmts}
use Rattle.core_lowering_rules.specs.TreesOf.{init_of, stmt_of}
use Rattle.core_lowering_rules.specs.ValueKinds.{ValueKind, Of}
use Rattle.core_lowering_rules.specs.Context.{Folder, Context, Result, Itself, Nothing, Value, Code, op, made}
use Rattle.core_lowering_drafts.specs.Sites.{lock_at}
use Rattle.core_lowering_rules.specs.Context.{push_owner}
use Rattle.core_lowering_rules.specs.Assignments.{kind_in, of_name, assigned}
use Rattle.core_lowering_rules.specs.Expressions.{init_kind, init_code}
use Rattle.core_lowering_rules.specs.Scopes.{of_type, after_all}
use Rattle.core_lowering_rules.specs.Statements.{closed, returned, stmts}

-- ---- what a method is made of

-- the constructor that a class has without declaring it; a tree; what no tree spells
pub data Body : Type 0 where
  Default : Body
  Spelled : MethodTree → Body
  Unspelled : Body

-- what is known of a method, the members of its class, and its body
pub record Source : Type 0 where
  pub info : MethodInfo
  pub members : List Member
  pub body : Body

-- ---- where its code begins

abbrev pub result_of_tree : Kind → ResultTree → Result
result_of_tree kind result.Constructor = Itself
result_of_tree kind result.Void = Nothing
result_of_tree kind (result.Of t) = Value kind

abbrev pub result_of : Kind → Body → Result
result_of kind Default = Itself
result_of kind (Spelled m) = result_of_tree kind m.result
result_of kind Unspelled = Value kind

-- variable 0 of an instance method is `this`
abbrev pub this_kinds : MethodInfo → List Kind
this_kinds m = if m.is_static then [] else kinds.Declared m.class ∷ []

abbrev pub entered : Folder → Source → Context
entered folder s =
    record {
      folder = folder;
      place = s.info.place;
      result = result_of s.info.result s.body;
      given = s.info.result;
      scope = record {
        class = s.info.class;
        is_static = s.info.is_static;
        hidden = s.info.hidden;
        variables = [];
      };
      kinds = this_kinds s.info;
      exits = 0;
      labels = [];
      targets = [];
      guards = [];
      other_lock = false;
      is_apart = false;
    }

abbrev pub parameters_declared : Context → List ParameterTree → Context
parameters_declared context [] = context
parameters_declared context (p ∷ ps) =
    parameters_declared (of_type context (ty_of p.kind) (further_arrays p) p.name) ps

-- ---- what fields begin with

-- a value that is not read
abbrev pub unread : Context → ValueKind → Code
unread context (Of kinds.Plain) = op context PushPrim
unread context _ = op context (Outside 0)

-- as the statement `x = e;` of the constructor, without its variables
abbrev pub field_begun : Context → Ident → FieldInitialiser → Code
field_begun context x field.Absent = []
field_begun context x (field.Formed i) =
    assigned context (of_name context x) (init_kind context (init_of i))
    (init_code context (init_of i)) ++ op context Drop
field_begun context x field.Unread =
    assigned context (of_name context x) (Of kinds.Other)
    (unread context (kind_in (of_name context x))) ++ op context Drop

abbrev pub member_begun : Context → Member → Code
member_begun context (member.Field f) =
    if has_word (codes "static") f.modifiers then []
    else flat_map (λ (v : FieldVariable). field_begun context v.name v.initialiser) f.variables
member_begun context _ = []

-- they stand in no method: no variable is in scope there, and each name of a class means it
abbrev pub outside_methods : Context → Context
outside_methods context = record context { scope = record context.scope { hidden = []; variables = [] } }

abbrev pub fields_begun : Context → List Member → Code
fields_begun context members = flat_map (member_begun (outside_methods context)) members

-- ---- code

abbrev pub body_of : MethodTree → Stmts
body_of m = pack_stmts (map stmt_of m.body)

-- the body is a block; where the method is synchronized, under the lock of its object or of its class (JLS 8.4.3.6)
abbrev pub block_code : Context → Stmts → List Tree
block_code context ss = made (closed context (after_all context ss) (stmts context ss))

abbrev pub locked : Context → Bool → List Tree → List Tree
locked context true body =
    made (push_owner context) ++ tree.Sync (lock_at Own context.place) (in_sequence body) ∷ []
locked context false body = body

abbrev pub body_code : Context → MethodTree → List Tree
body_code context m = locked context (has_word (codes "synchronized") m.modifiers) (block_code context (body_of m))

-- an end that can be reached is as `return;`
abbrev pub ended : Context → List Tree → List Tree
ended context body = if can_end (in_sequence body) then body ++ made (returned context None) else body

-- of a constructor, the fields of its object first
abbrev pub spelled_code : Context → List Member → MethodTree → List Tree
spelled_code context members m =
    if is_constructor m.result then made (fields_begun context members) ++ body_code context m else body_code context m

-- a context in which no method is analysed, so that no argument is converted
abbrev pub none_analysed : Context → Context
none_analysed context = record context { folder = record context.folder { statuses = [] } }

-- whether the code of the block is too large for the tokens of the method, whose tree keeps how many they are: told
-- where no method is analysed, so that it does not depend on which methods are
abbrev pub is_large : Context → MethodTree → Bool
is_large context m = not (is_small m.tokens (in_sequence (block_code (none_analysed context) (body_of m))))

abbrev pub code_in : Context → Source → Body → List Tree
code_in context s Default = ended context (made (fields_begun context s.members))
code_in context s (Spelled m) =
    let inside = parameters_declared context m.parameters in
    if is_large inside m then [] else ended inside (spelled_code inside s.members m)
code_in context s Unspelled = []

abbrev pub method_code : Folder → Source → List Tree
method_code folder s = code_in (entered folder s) s s.body

abbrev pub is_past : Context → Body → Bool
is_past context (Spelled m) = is_large (parameters_declared context m.parameters) m
is_past context _ = false

-- whether the code of a method is past the limit
abbrev pub is_past_limit : Folder → Source → Bool
is_past_limit folder s = is_past (entered folder s) s.body

-- ---- variables

abbrev pub kinds_in : Context → Source → Body → List Kind
kinds_in context s Default = context.kinds
kinds_in context s (Spelled m) = (after_all (parameters_declared context m.parameters) (body_of m)).kinds
kinds_in context s Unspelled = context.kinds ++ s.info.parameters

-- the kinds of all variables of a method
abbrev pub method_kinds : Folder → Source → List Kind
method_kinds folder s = kinds_in (entered folder s) s s.body

-- ---- what is not analysed

abbrev pub end_of : Context → Body → Context
end_of context (Spelled m) = after_all (parameters_declared context m.parameters) (body_of m)
end_of context _ = context

-- whether a `finally` of a method unlocks what is not locked before its `try` by a lock field
abbrev pub has_other_lock : Folder → Source → Bool
has_other_lock folder s = (end_of (entered folder s) s.body).other_lock

-- whether a jump of a method has no target, or a resource is closed by a method of the folder
abbrev pub is_apart : Folder → Source → Bool
is_apart folder s = (end_of (entered folder s) s.body).is_apart
