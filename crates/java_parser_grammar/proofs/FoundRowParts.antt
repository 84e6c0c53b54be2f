-- The parts of rows are read: names and expressions that may be left out, resources, parameters of `catch`, labels.
use Rattle.std.proofs.Common.{◌≡◌, ℕ, zero, suc, ◌≤◌, ◌<◌, Bool, true, false, List, [], ◌∷◌, length, Option, Some}
use Rattle.std.proofs.Common.{None, IsTrue, codes, refl, arith}
use Rattle.java_tree.specs.declared.words.Spelled.{Spelled}
use Rattle.java_tree.specs.Words.{identifier, sign}
use Rattle.java_tree.specs.Trees.{Ty, Expr, Modifier, Word, Annotated, Resource, Resources, CatchParameter, Label, Case}
use Rattle.java_tree.specs.Trees.{Default}
use Rattle.java_tree.specs.Spelling.{behind_sign, modifiers_onto, ty_onto, expr_onto, maybe_name_onto}
use Rattle.java_tree.specs.Spelling.{maybe_behind_onto}
use Rattle.java_tree.specs.Spelling.{resource_onto, more_resources_onto, last_semicolon_onto, maybe_resources_onto}
use Rattle.java_tree.specs.Spelling.{catch_parameter_onto, label_onto, labels_onto}
use Rattle.java_tree.specs.FormedModifiers.{Each, has_some, FormedVariableModifiers}
use Rattle.java_tree.specs.Formed.{FormedTy, FormedMaybeExpr, FormedThrown, FormedResource}
use Rattle.java_tree.specs.Formed.{FormedMaybeResources, FormedCatchParameter, FormedLabel}
use Rattle.java_tree.specs.Nesting.{most_over, ty_nesting, maybe_expr_nesting, resource_nesting}
use Rattle.java_tree.specs.Nesting.{maybe_resources_nesting, catch_parameter_nesting, label_nesting}
use Rattle.java_parser_grammar.specs.Taking.{after_sign, after_name}
use Rattle.java_parser_grammar.specs.Readers.{Readers}
use Rattle.java_parser_grammar.specs.StatementReading.{maybe_name_at, maybe_behind_at, resource_at, more_resources_at}
use Rattle.java_parser_grammar.specs.StatementReading.{maybe_resources_at, named_at, catch_parameter_at}
use Rattle.java_parser_grammar.specs.StatementReading.{begins_label, label_at, labels_at}
use Rattle.java_parser_grammar.proofs.FindingReaders.{Finds}
use Rattle.java_parser_grammar.proofs.Annotations.{before_type_found}
use Rattle.java_parser_grammar.proofs.FoundTypeLists.{between_found}
use Rattle.java_parser_grammar.proofs.LongerStatements.{resources_fit}
use Rattle.java_parser_grammar.proofs.ReadableRows.{sign_front}
use Rattle.java_parser_grammar.proofs.TypeFronts.{ty_front}

declared_opens : (ms : List Modifier) (t : Ty) (rest : List Spelled) → FormedTy t → after_sign (codes ")")
    (modifiers_onto ms (ty_onto t rest)) ≡ None
declared_opens [] t rest f = (ty_front t rest f).no_sign (codes ")")
declared_opens (Word text ∷ ms) t rest f = refl
declared_opens (Annotated n ∷ ms) t rest f = refl

module _ (readers : Readers) (EndsTy EndsExpr : List Spelled → Type 0) (finds : Finds readers EndsTy EndsExpr) where
  -- ---- what may be left out

  pub maybe_name_found : (x : Option (List ℕ)) (r : List Spelled) → after_name r ≡ None
      → maybe_name_at readers (maybe_name_onto x r) ≡ Some (x, r)
  maybe_name_found None r h = rw h refl
  maybe_name_found (Some x) r h = refl

  pub maybe_behind_found : (text : List ℕ) (e : Option Expr) (n : ℕ) (r : List Spelled) → FormedMaybeExpr e
      → maybe_expr_nesting e ≤ n → EndsExpr r → after_sign text r ≡ None
      → maybe_behind_at readers n text (maybe_behind_onto text e r) ≡ Some (e, r)
  maybe_behind_found text None n r f fits ends h = rw h refl
  maybe_behind_found text (Some e) n r f fits ends h =
      rw (sign_front text (expr_onto e r), finds.expr e f n r fits ends) refl

  -- ---- resources

  resource_found : (r : Resource) (n : ℕ) (rest : List Spelled) → FormedResource r → resource_nesting r ≤ n
      → EndsExpr rest → resource_at readers n (resource_onto r rest) ≡ Some (r, rest)
  unfolding resource_at
  resource_found r n rest f fits ends =
      let named = identifier r.name ∷ sign (codes "=") ∷ expr_onto r.value rest in
      rw (
        before_type_found r.modifiers r.kind named f.0 f.1,
        finds.ty r.kind f.1 n named (omega arith) (finds.name_ends_ty _ _),
        finds.expr r.value f.2 n rest (omega arith) ends,
      ) refl

  -- the end of the list
  abbrev closed : Bool → List Spelled → List Spelled
  closed last rest = last_semicolon_onto last (sign (codes ")") ∷ rest)

  ends_resource : (rs : List Resource) (last : Bool) (rest : List Spelled)
      → EndsExpr (more_resources_onto rs (closed last rest))
  ends_resource [] true rest = finds.semicolon_ends _
  ends_resource [] false rest = finds.close_ends _
  ends_resource (r ∷ rs) last rest = finds.semicolon_ends _

  more_resources_found : (rs : List Resource) (last : Bool) (n m : ℕ) (rest : List Spelled)
      → Each FormedResource rs → most_over resource_nesting rs ≤ n → length rs < m
      → more_resources_at readers n m (more_resources_onto rs (closed last rest)) ≡ Some ((rs, last), rest)
  unfolding more_resources_at
  more_resources_found rs last n zero rest f fits room = absurd (omega arith)
  more_resources_found [] true n (suc m) rest f fits room = refl
  more_resources_found [] false n (suc m) rest f fits room = refl
  more_resources_found (r ∷ rs) last n (suc m) rest f fits room =
      let behind = more_resources_onto rs (closed last rest) in
      rw (
        declared_opens r.modifiers r.kind (identifier r.name ∷ sign (codes "=") ∷ expr_onto r.value behind) f.0.1,
        resource_found r n behind f.0 (omega arith) (ends_resource rs last rest),
        more_resources_found rs last n m rest f.1 (omega arith) (omega arith),
      ) refl

  resources_found : (rs : List Resource) (last : Bool) (n : ℕ) (rest : List Spelled) → IsTrue (has_some rs)
      → Each FormedResource rs → most_over resource_nesting rs ≤ n
      → maybe_resources_at readers n (maybe_resources_onto (Some (record { items = rs; last = last })) rest) ≡ Some
      (Some (record { items = rs; last = last }), rest)
  resources_found [] last n rest some f fits = absurd cc
  resources_found (r ∷ rs) last n rest some f fits =
      let behind = more_resources_onto rs (closed last rest) in
      rw (
        resource_found r n behind f.0 (omega arith) (ends_resource rs last rest),
        more_resources_found rs last n (suc (length behind)) rest f.1 (omega arith)
            (omega (arith, resources_fit rs f.1 (closed last rest))),
      ) refl

  pub maybe_resources_found : (rs : Option Resources) (n : ℕ) (rest : List Spelled) → FormedMaybeResources rs
      → maybe_resources_nesting rs ≤ n → after_sign (codes "(") rest ≡ None
      → maybe_resources_at readers n (maybe_resources_onto rs rest) ≡ Some (rs, rest)
  maybe_resources_found None n rest f fits h = rw h refl
  maybe_resources_found (Some rs) n rest f fits h = resources_found rs.items rs.last n rest f.0 f.1 fits

  -- ---- the parameter of a `catch`

  named_found : (t : Ty) (n : ℕ) (r : List Spelled) → FormedThrown t → ty_nesting t ≤ n → EndsTy r
      → named_at readers n (ty_onto t r) ≡ Some (t, r)
  named_found t n r f fits ends = rw (finds.ty t f.0 n r fits ends, f.1) refl

  types_found : (ms : List Modifier) (ts : List Ty) (x : List ℕ) (n : ℕ) (rest : List Spelled)
      → FormedVariableModifiers ms → IsTrue (has_some ts) → Each FormedThrown ts → most_over ty_nesting ts ≤ n
      → catch_parameter_at readers n (catch_parameter_onto (record {
        modifiers = ms;
        types = ts;
        name = x;
      }) rest) ≡ Some (record { modifiers = ms; types = ts; name = x }, rest)
  unfolding catch_parameter_at
  types_found ms [] x n rest b some f fits = absurd cc
  types_found ms (t ∷ ts) x n rest b some f fits =
      let named = identifier x ∷ sign (codes ")") ∷ rest in
      rw (
        before_type_found ms t (behind_sign (codes "|") ts named) b f.0.0,
        between_found (codes "|") refl EndsTy finds.bar_ends_ty FormedThrown n (named_at readers n)
            (λ t g r fits ends. named_found t n r g fits ends) t ts f named fits refl
            (finds.name_ends_ty x (sign (codes ")") ∷ rest)),
      ) refl

  pub catch_parameter_found : (c : CatchParameter) (n : ℕ) (rest : List Spelled) → FormedCatchParameter c
      → catch_parameter_nesting c ≤ n → catch_parameter_at readers n (catch_parameter_onto c rest) ≡ Some (c, rest)
  catch_parameter_found c n rest f fits = types_found c.modifiers c.types c.name n rest f.0 f.1 f.2 fits

  -- ---- labels

  label_begins : (l : Label) (r : List Spelled) → begins_label readers (label_onto l r) ≡ true
  label_begins (Case e) r = refl
  label_begins Default r = refl

  label_found : (l : Label) (n : ℕ) (rest : List Spelled) → FormedLabel l → label_nesting l ≤ n → label_at readers n
      (label_onto l rest) ≡ Some (l, rest)
  unfolding label_at
  label_found (Case e) n rest f fits =
      rw (finds.conditional e f.0 f.1 n (sign (codes ":") ∷ rest) fits (finds.colon_ends rest)) refl
  label_found Default n rest f fits = refl

  pub labels_found : (ls : List Label) (n m : ℕ) (rest : List Spelled) → Each FormedLabel ls
      → most_over label_nesting ls ≤ n → length ls ≤ m → begins_label readers rest ≡ false
      → labels_at readers n m (labels_onto ls rest) ≡ Some (ls, rest)
  unfolding labels_at
  labels_found [] n zero rest f fits room quiet = refl
  labels_found [] n (suc m) rest f fits room quiet = rw quiet refl
  labels_found (l ∷ ls) n zero rest f fits room quiet = absurd (omega arith)
  labels_found (l ∷ ls) n (suc m) rest f fits room quiet =
      let behind = labels_onto ls rest in
      rw (
        label_begins l behind,
        label_found l n behind f.0 (omega arith),
        labels_found ls n m rest f.1 (omega arith) (omega arith) quiet,
      ) refl
