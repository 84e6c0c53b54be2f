-- At most one division of fields at commas has a tree for each initialiser.
use Rattle.std.proofs.Common.{◌≡◌, ℕ, List, [], ◌∷◌, ◌++◌, Option}
use Rattle.std.proofs.Common.{refl, ap, sym, ◌∙◌, subst, codes, length, arith}
use Rattle.std.specs.Prelude.{IsTrue, map}
use Rattle.std.specs.List.{AllZip}
use Rattle.racer_base.specs.declared.ids.Place.{Place}
use Rattle.java_lexer.specs.declared.token.Token.{Token}
use Rattle.java_tree.specs.declared.words.Spelled.{Spelled}
use Rattle.java_tree.specs.declared.methods.FieldVariable.{FieldVariable}
use Rattle.java_tree.specs.declared.methods.FieldInitialiser.{FieldInitialiser}
use Rattle.java_tree.specs.declared.methods.FieldInitialiser.TheVariants.{Absent, Formed, Unread}
use Rattle.java_tree.specs.Words.{identifier, sign}
use Rattle.java_tree.specs.Trees.{Init, Variable}
use Rattle.java_tree.specs.Spelling.{maybe_init_onto, variable_onto, commas_onto}
use Rattle.java_tree.specs.FormedModifiers.{Each, has_some}
use Rattle.java_tree.specs.Formed.{FormedVariable, FormedMaybeInit}
use Rattle.java_tree.specs.View.{init_of}
use Rattle.java_parser_grammar.proofs.Taken.{sign_is}
use Rattle.java_parser_grammar.proofs.Ensuring.{name_is}
use Rattle.java_parser_grammar.specs.Tokens.{plain, plain_all, is_sign_token}
use Rattle.java_parser_grammar.specs.FieldDivisions.{BeginsWith, IsVariable, IsDivided, IsRead, AreRead}
use Rattle.java_parser_grammar.specs.ReadVariables.{initialiser_of, ReadVariable, read_of}
use Rattle.java_parser_grammar.proofs.Appended.{init_before}

pub plain_append : (r s : List Token) → plain_all (r ++ s) ≡ plain_all r ++ plain_all s
plain_append [] s = refl
plain_append (t ∷ r) s = ap (λ l. plain t ∷ l) (plain_append r s)

-- ---- what variables spell

-- the variable without its place
abbrev pub bare : FieldVariable → Variable
bare v = record { name = v.name.text; arrays = 0; initialiser = initialiser_of v.initialiser }

append_nothing : (ts : List Spelled) → ts ++ [] ≡ ts
append_nothing [] = refl
append_nothing (t ∷ ts) = ap (λ l. t ∷ l) (append_nothing ts)

begins_spelled : (ts : List Token) (f : FieldInitialiser) (rest : List Spelled) → BeginsWith ts f → (f ≡ Unread → ⊥)
    → maybe_init_onto (initialiser_of f) rest ≡ plain_all ts ++ rest
begins_spelled [] Absent rest h read = refl
begins_spelled [] (Formed i) rest h read = absurd h
begins_spelled [] Unread rest h read = absurd h
begins_spelled (e ∷ ts) Absent rest h read = absurd h
begins_spelled (e ∷ ts) (Formed i) rest h read =
    ap (λ l. sign (codes "=") ∷ l) (init_before (init_of i) rest ∙ ap (λ l. l ++ rest) h.1.spelled)
    ∙ ap (λ u. u ∷ plain_all ts ++ rest) (sym (sign_is (codes "=") (plain e) h.0))
begins_spelled (e ∷ ts) Unread rest h read = absurd (read refl)

variable_spelled : (p : List Token) (v : FieldVariable) (rest : List Spelled) → IsVariable p v → IsRead v
    → variable_onto (bare v) rest ≡ plain_all p ++ rest
variable_spelled [] v rest h read = absurd h
variable_spelled (t ∷ ts) v rest h read =
    ap (λ l. identifier v.name.text ∷ l) (begins_spelled ts v.initialiser rest h.3 read)
    ∙ ap (λ u. u ∷ plain_all ts ++ rest) (sym (name_is (plain t) h.0 ∙ ap identifier (sym h.1)))

comma_spelled : (c : Token) (rest : List Token) → IsTrue (is_sign_token (codes ",") c)
    → plain_all (c ∷ rest) ≡ sign (codes ",") ∷ plain_all rest
comma_spelled c rest h = ap (λ u. u ∷ plain_all rest) (sign_is (codes ",") (plain c) h)

pub variables_spelled : (ps : List (List Token)) (ts : List Token) (vs : List FieldVariable) → IsDivided ps ts
    → AllZip IsVariable ps vs → Each IsRead vs → commas_onto variable_onto (map bare vs) [] ≡ plain_all ts
variables_spelled [] ts vs d z read = absurd d
variables_spelled (p ∷ ps) ts [] d z read = absurd z
variables_spelled (p ∷ []) ts (v ∷ []) d z read =
    variable_spelled p v [] z.0 read.0 ∙ append_nothing (plain_all p) ∙ ap plain_all (sym d)
variables_spelled (p ∷ []) ts (v ∷ w ∷ vs) d z read = absurd z.1
variables_spelled (p ∷ q ∷ ps) ts (v ∷ []) d z read = absurd z.1
variables_spelled (p ∷ q ∷ ps) ts (v ∷ w ∷ vs) d z read =
    let others = commas_onto variable_onto (map bare (w ∷ vs)) [] in
    variable_spelled p v (sign (codes ",") ∷ others) z.0 read.0
    ∙ ap (λ l. plain_all p ++ sign (codes ",") ∷ l) (variables_spelled (q ∷ ps) d.1 (w ∷ vs) d.4 z.1 read.1)
    ∙ ap (λ l. plain_all p ++ l) (sym (comma_spelled d.0 d.1 d.3))
    ∙ sym (plain_append p (d.0 ∷ d.1))
    ∙ ap plain_all (sym d.2)

begins_formed : (ts : List Token) (f : FieldInitialiser) → BeginsWith ts f → (f ≡ Unread → ⊥)
    → FormedMaybeInit (initialiser_of f)
begins_formed ts Absent h read = tt
begins_formed [] (Formed i) h read = absurd h
begins_formed (e ∷ ts) (Formed i) h read = h.1.formed
begins_formed ts Unread h read = absurd (read refl)

variable_formed : (p : List Token) (v : FieldVariable) → IsVariable p v → IsRead v → FormedVariable (bare v)
variable_formed [] v h read = absurd h
variable_formed (t ∷ ts) v h read = begins_formed ts v.initialiser h.3 read

pub variables_formed : (ps : List (List Token)) (vs : List FieldVariable) → AllZip IsVariable ps vs → Each IsRead vs
    → Each FormedVariable (map bare vs)
variables_formed [] [] z read = tt
variables_formed [] (v ∷ vs) z read = absurd z
variables_formed (p ∷ ps) [] z read = absurd z
variables_formed (p ∷ ps) (v ∷ vs) z read = (variable_formed p v z.0 read.0, variables_formed ps vs z.1 read.1)

pub some_variable : (ps : List (List Token)) (ts : List Token) (vs : List FieldVariable) → IsDivided ps ts
    → AllZip IsVariable ps vs → IsTrue (has_some (map bare vs))
some_variable [] ts vs d z = absurd d
some_variable (p ∷ ps) ts [] d z = absurd z
some_variable (p ∷ ps) ts (v ∷ vs) d z = refl

-- ---- the pieces are found again by what they spell

pub record SameFronts (p q x y : List Token) : Type 0 where
  pub front : p ≡ q
  pub rest : x ≡ y

same_fronts : (p q x y : List Token) → p ++ x ≡ q ++ y → length p ≡ length q → SameFronts p q x y
same_fronts [] [] x y e n = record { front = refl; rest = e }
same_fronts [] (j ∷ q) x y e n = absurd (omega (arith, n))
same_fronts (i ∷ p) [] x y e n = absurd (omega (arith, n))
same_fronts (i ∷ p) (j ∷ q) x y e n =
    let first : i ≡ j = cc in
    let others : p ++ x ≡ q ++ y = cc in
    let found = same_fronts p q x y others (omega (arith, n)) in
    let front : p ≡ q = found.front in
    record { front = cc; rest = found.rest }

plain_length : (ts : List Token) → length (plain_all ts) ≡ length ts
plain_length [] = refl
plain_length (t ∷ ts) = omega (arith, plain_length ts)

same_length : (p q : List Token) (v w : FieldVariable) → IsVariable p v → IsRead v → IsVariable q w → IsRead w
    → bare v ≡ bare w → length p ≡ length q
same_length p q v w a ra b rb e =
    let spelled : plain_all p ≡ plain_all q = sym (append_nothing (plain_all p)) ∙ sym (variable_spelled p v [] a ra)
    ∙ ap (λ x. variable_onto x []) e ∙ variable_spelled q w [] b rb ∙ append_nothing (plain_all q) in
    sym (plain_length p) ∙ ap length spelled ∙ plain_length q

abbrev all_of : List ℕ → Place → Option Init → ReadVariable
all_of name place initialiser = record { name = name; place = place; initialiser = initialiser }

same_variable : (p : List Token) (v w : FieldVariable) → IsVariable p v → IsVariable p w → bare v ≡ bare w
    → read_of v ≡ read_of w
same_variable [] v w a b e = absurd a
same_variable (t ∷ ts) v w a b e =
    let first : Option Init = initialiser_of v.initialiser in
    let same : first ≡ initialiser_of w.initialiser = ap (λ (x : Variable). x.initialiser) e in
    ap (λ x. all_of x v.name.place first) (a.1 ∙ sym b.1) ∙ ap (λ x. all_of w.name.text x first) (a.2 ∙ sym b.2)
    ∙ ap (λ x. all_of w.name.text w.name.place x) same

pub record SameHeads (v w : Variable) (vs ws : List Variable) : Type 0 where
  pub first : v ≡ w
  pub rest : vs ≡ ws

heads : (v w : Variable) (vs ws : List Variable) → v ∷ vs ≡ w ∷ ws → SameHeads v w vs ws
heads v w vs ws e = record { first = cc; rest = cc }

-- the same variables in the same pieces
pub record SameDivision (ps qs : List (List Token)) (vs ws : List FieldVariable) : Type 0 where
  pub pieces : ps ≡ qs
  pub variables : map read_of vs ≡ map read_of ws

pub same_division : (ps qs : List (List Token)) (ts : List Token) (vs ws : List FieldVariable) → IsDivided ps ts
    → AllZip IsVariable ps vs → Each IsRead vs → IsDivided qs ts → AllZip IsVariable qs ws → Each IsRead ws
    → map bare vs ≡ map bare ws → SameDivision ps qs vs ws
same_division [] qs ts vs ws d z r d' z' r' e = absurd d
same_division (p ∷ ps) [] ts vs ws d z r d' z' r' e = absurd d'
same_division (p ∷ ps) (q ∷ qs) ts [] ws d z r d' z' r' e = absurd z
same_division (p ∷ ps) (q ∷ qs) ts (v ∷ vs) [] d z r d' z' r' e = absurd z'
same_division (p ∷ []) (q ∷ []) ts (v ∷ []) (w ∷ []) d z r d' z' r' e =
    let k = heads (bare v) (bare w) [] [] e in
    let piece : p ≡ q = sym d ∙ d' in
    let same = same_variable q v w (subst (λ x. IsVariable x v) piece z.0) z'.0 k.first in
    record { pieces = ap (λ x. x ∷ []) piece; variables = ap (λ x. x ∷ []) same }
same_division (p ∷ []) (q ∷ q' ∷ qs) ts (v ∷ []) (w ∷ []) d z r d' z' r' e = absurd z'.1
same_division (p ∷ []) (q ∷ qs) ts (v ∷ []) (w ∷ x ∷ ws) d z r d' z' r' e =
    let k = heads (bare v) (bare w) [] (map bare (x ∷ ws)) e in let no = k.rest in absurd cc
same_division (p ∷ []) (q ∷ qs) ts (v ∷ x ∷ vs) ws d z r d' z' r' e = absurd z.1
same_division (p ∷ p' ∷ ps) (q ∷ qs) ts (v ∷ []) ws d z r d' z' r' e = absurd z.1
same_division (p ∷ p' ∷ ps) (q ∷ qs) ts (v ∷ x ∷ vs) (w ∷ []) d z r d' z' r' e =
    let k = heads (bare v) (bare w) (map bare (x ∷ vs)) [] e in let no = k.rest in absurd cc
same_division (p ∷ p' ∷ ps) (q ∷ []) ts (v ∷ x ∷ vs) (w ∷ y ∷ ws) d z r d' z' r' e = absurd z'.1
same_division (p ∷ p' ∷ ps) (q ∷ q' ∷ qs) ts (v ∷ x ∷ vs) (w ∷ y ∷ ws) d z r d' z' r' e =
    let k = heads (bare v) (bare w) (map bare (x ∷ vs)) (map bare (y ∷ ws)) e in
    let found = same_fronts p q (d.0 ∷ d.1) (d'.0 ∷ d'.1) (sym d.2 ∙ d'.2)
    (same_length p q v w z.0 r.0 z'.0 r'.0 k.first) in
    let rest : d.1 ≡ d'.1 = tails d.0 d'.0 d.1 d'.1 found.rest in
    let one = same_variable q v w (subst (λ u. IsVariable u v) found.front z.0) z'.0 k.first in
    let others = same_division (p' ∷ ps) (q' ∷ qs) d'.1 (x ∷ vs) (y ∷ ws) (subst (IsDivided
    (p' ∷ ps)) rest d.4) z.1 r.1
    d'.4 z'.1 r'.1 k.rest in
    let first = found.front in
    let pieces = others.pieces in
    let variables = others.variables in
    record { pieces = cc; variables = cc }
  where
    tails : (i j : Token) (is js : List Token) → i ∷ is ≡ j ∷ js → is ≡ js
    tails i j is js h = cc

-- two formed lists of variables with one spelling are equal
abbrev pub OneList : Type 0
OneList = (a b : List Variable) → IsTrue (has_some a) → IsTrue (has_some b) → Each FormedVariable a → Each
    FormedVariable b → commas_onto variable_onto a [] ≡ commas_onto variable_onto b [] → a ≡ b

pub one_division : OneList → (ts : List Token) (ps qs : List (List Token)) (vs ws : List FieldVariable)
    → AreRead ts ps vs → AreRead ts qs ws → SameDivision ps qs vs ws
one_division one ts ps qs vs ws a b =
    same_division ps qs ts vs ws a.divided a.variables a.read b.divided b.variables b.read
    (one (map bare vs) (map bare ws) (some_variable ps ts vs a.divided a.variables)
    (some_variable qs ts ws b.divided b.variables) (variables_formed ps vs a.variables a.read)
    (variables_formed qs ws b.variables b.read) (variables_spelled ps ts vs a.divided a.variables a.read
    ∙ sym (variables_spelled qs ts ws b.divided b.variables b.read)))
