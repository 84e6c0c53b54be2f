-- The code of methods out of the parts in which it is made.
use Rattle.std.proofs.Common.{◌≡◌, Bool, true, false, not, cond, List, [], ◌∷◌, ◌++◌, refl, sym, ap, ◌∙◌}
use Rattle.std.proofs.Common.{append-nil, append_assoc}
use Rattle.std.specs.Prelude.{codes, None}
use Rattle.std.specs.List.{flat_map}
use Rattle.racer_base.specs.declared.ids.Place.{Place}
use Rattle.java_tree.specs.declared.methods.MethodTree.{MethodTree}
use Rattle.java_tree.specs.declared.methods.ParameterTree.{ParameterTree}
use Rattle.java_tree.specs.declared.unit.Member.{Member}
use Rattle.java_tree.specs.View.{ty_of}
use Rattle.java_resolver.specs.Declarations.{is_constructor, further_arrays}
use Rattle.java_resolver.specs.Words.{has_word}
use Rattle.core_code.specs.Tree.{Tree, in_sequence}
use Rattle.core_lowering_drafts.specs.Sizes.{is_small}
use Rattle.core_lowering_rules.specs.Context.{Folder, Context, Code, made, push_owner}
use Rattle.core_lowering_rules.specs.Scopes.{of_type, after_all}
use Rattle.core_lowering_rules.specs.Statements.{closed, returned, stmts}
use Rattle.core_lowering_rules.specs.Methods.{Source, Default, Spelled, entered, parameters_declared, member_begun}
use Rattle.core_lowering_rules.specs.Methods.{fields_begun, body_of, block_code, locked, ended, spelled_code}
use Rattle.core_lowering_rules.specs.Methods.{none_analysed, is_large, code_in, outside_methods}
use Rattle.core_lowering_drafts.specs.Sites.{numbered}
use Rattle.core_lowering_context.specs.Beginning.{inside}
use Rattle.core_lowering_methods.specs.Bodies.{object_begun, owner_pushed, under_lock, with_end, whole_code}
use Rattle.core_lowering_methods.specs.Bodies.{kept_code}

-- ---- parameters

pub place-kept : (context : Context) (ps : List ParameterTree) → (parameters_declared context ps).place ≡ context.place
place-kept context [] = refl
place-kept context (p ∷ ps) = place-kept (of_type context (ty_of p.kind) (further_arrays p) p.name) ps

pub guards-kept : (context : Context) (ps : List ParameterTree) →
    (parameters_declared context ps).guards ≡ context.guards
guards-kept context [] = refl
guards-kept context (p ∷ ps) = guards-kept (of_type context (ty_of p.kind) (further_arrays p) p.name) ps

none-declared : (context : Context) (ps : List ParameterTree) →
    none_analysed (parameters_declared context ps) ≡ parameters_declared (none_analysed context) ps
none-declared context [] = refl
none-declared context (p ∷ ps) = none-declared (of_type context (ty_of p.kind) (further_arrays p) p.name) ps

-- ---- the limit

-- the same folder, in which no method is analysed
abbrev pub bare : Folder → Folder
bare folder = record folder { statuses = [] }

-- the limit is told of the code of a block in which none is
pub limit-told : (folder : Folder) (s : Source) (m : MethodTree) →
    is_large (inside folder s m) m ≡
    not (is_small m.tokens (in_sequence (block_code (inside (bare folder) s m) (body_of m))))
limit-told folder s m =
    ap (λ (context : Context). not (is_small m.tokens (in_sequence (block_code context (body_of m)))))
    (none-declared (entered folder s) m.parameters)

-- ---- code

pieces : (is_object is_locked : Bool) (fields owner : Code) (block held : List Tree) →
    (made (cond is_object fields []) ++ made (cond is_locked owner [])) ++ cond is_locked held block ≡
    cond is_object (made fields ++ cond is_locked (made owner ++ held) block)
    (cond is_locked (made owner ++ held) block)
pieces true true fields owner block held = append_assoc (made fields) (made owner) held
pieces true false fields owner block held = ap (λ (code : List Tree). code ++ block) (append-nil (made fields))
pieces false true fields owner block held = refl
pieces false false fields owner block held = refl

under-cond : (place : Place) (b : Bool) (body : List Tree) →
    under_lock place b body ≡ cond b (under_lock place true body) body
under-cond place true body = refl
under-cond place false body = refl

locked-cond : (context : Context) (b : Bool) (body : List Tree) →
    locked context b body ≡ cond b (made (push_owner context) ++ under_lock context.place true body) body
locked-cond context true body = refl
locked-cond context false body = refl

pub whole-made : (context : Context) (members : List Member) (m : MethodTree) →
    whole_code (object_begun (outside_methods context) members m) (owner_pushed context m) context.place
    (has_word (codes "synchronized") m.modifiers) (closed context (after_all context (body_of m))
    (stmts context (body_of m))) (returned context None) ≡ ended context (spelled_code context members m)
whole-made context members m =
    let object = is_constructor m.result in
    let lock = has_word (codes "synchronized") m.modifiers in
    let fields : Code = flat_map (member_begun (outside_methods context)) members in
    let owner : Code = push_owner context in
    let block : List Tree = block_code context (body_of m) in
    let held : List Tree = under_lock context.place true block in
    let front : List Tree = made (cond object fields []) ++ made (cond lock owner []) in
    ap (with_end (returned context None))
    (ap (λ (code : List Tree). front ++ code) (under-cond context.place lock block)
    ∙ pieces object lock fields owner block held
    ∙ ap (λ (code : List Tree). cond object (made fields ++ code) code) (sym (locked-cond context lock block)))

-- a method that a tree spells, where it is known whether it is past the limit
pub spelled-made : (folder : Folder) (s : Source) (m : MethodTree) (is_past : Bool) (place : Place)
    (fields owner block last : Code) (code : Tree) →
    is_past ≡ is_large (inside folder s m) m → place ≡ s.info.place →
    fields ≡ object_begun (outside_methods (inside folder s m)) s.members m →
    owner ≡ owner_pushed (inside folder s m) m →
    block ≡ closed (inside folder s m) (after_all (inside folder s m) (body_of m))
    (stmts (inside folder s m) (body_of m)) →
    last ≡ returned (inside folder s m) None →
    code ≡ numbered 0 (in_sequence (kept_code is_past
    (whole_code fields owner place (has_word (codes "synchronized") m.modifiers) block last))) →
    code ≡ numbered 0 (in_sequence (code_in (entered folder s) s (Spelled m)))
spelled-made folder s m is_past place fields owner block last code past at f o b l e =
    let context = inside folder s m in
    let lock = has_word (codes "synchronized") m.modifiers in
    let object : Code = object_begun (outside_methods context) s.members m in
    let pushed : Code = owner_pushed context m in
    e ∙ ap (λ (made : List Tree). numbered 0 (in_sequence made))
    (ap (λ (t : Bool). kept_code t (whole_code fields owner place lock block last)) past
    ∙ ap (kept_code (is_large context m))
    (ap (λ (p : Place). whole_code fields owner p lock block last)
    (at ∙ sym (place-kept (entered folder s) m.parameters))
    ∙ ap (λ (x : Code). whole_code x owner context.place lock block last) f
    ∙ ap (λ (x : Code). whole_code object x context.place lock block last) o
    ∙ ap (λ (x : Code). whole_code object pushed context.place lock x last) b
    ∙ ap (λ (x : Code). whole_code object pushed context.place lock
    (closed context (after_all context (body_of m)) (stmts context (body_of m))) x) l
    ∙ whole-made context s.members m))

-- the limit, told of a block where none is analysed
pub measured-past : (folder : Folder) (s : Source) (m : MethodTree) (is_past : Bool) (block : Code) →
    is_past ≡ not (is_small m.tokens (in_sequence (made block))) →
    block ≡ closed (inside (bare folder) s m) (after_all (inside (bare folder) s m) (body_of m))
    (stmts (inside (bare folder) s m) (body_of m)) → is_past ≡ is_large (inside folder s m) m
measured-past folder s m is_past block past b =
    past ∙ ap (λ (x : Code). not (is_small m.tokens (in_sequence (made x)))) b ∙ sym (limit-told folder s m)

-- it is told of a folder as of any other that has other statuses alone
pub known-past : (first second : Folder) (s : Source) (m : MethodTree) (is_past : Bool) → bare first ≡ bare second →
    is_past ≡ is_large (inside first s m) m → is_past ≡ is_large (inside second s m) m
known-past first second s m is_past same past =
    past ∙ limit-told first s m
    ∙ ap (λ (folder : Folder). not (is_small m.tokens (in_sequence (block_code (inside folder s m) (body_of m))))) same
    ∙ sym (limit-told second s m)

-- the constructor that a class has without declaring it
pub default-made : (folder : Folder) (s : Source) (context : Context) (fields last : Code)
    (start front whole : List Tree) (code : Tree) → context ≡ entered folder s →
    fields ≡ fields_begun (entered folder s) s.members → last ≡ returned context None → start ≡ [] →
    front ≡ start ++ made fields → whole ≡ with_end last front → code ≡ numbered 0 (in_sequence whole) →
    code ≡ numbered 0 (in_sequence (code_in (entered folder s) s Default))
default-made folder s context fields last start front whole code p f l t u v w =
    w ∙ ap (λ (x : List Tree). numbered 0 (in_sequence x))
    (v ∙ ap (λ (x : Code). with_end x front) (l ∙ ap (λ (x : Context). returned x None) p)
    ∙ ap (with_end (returned (entered folder s) None))
    (u ∙ ap (λ (x : List Tree). x ++ made fields) t ∙ ap (λ (x : Code). made x) f))
